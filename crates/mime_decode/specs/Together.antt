-- How many octets the contents of parts have together.
use Rattle.std.specs.Prelude.{ℕ, List, length, sum_by}
use Rattle.mime_decode.specs.Mail.{Part}

-- those of all of them
abbrev pub contents_together : List Part → ℕ
contents_together parts = sum_by (λ (p : Part). length p.content) parts
