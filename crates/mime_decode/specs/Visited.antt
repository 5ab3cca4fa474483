-- The parts that a loop visits (RFC 5703, section 3).
use Rattle.std.specs.Prelude.{ℕ, zero, suc, List, [], ◌∷◌, length, slice_get, Option, None, Some}
use Rattle.std.specs.Option.{option_map_or}
use Rattle.mime_decode.specs.Mail.{Mail, Part}

-- so many numbers, from one on
abbrev pub numbers_from : ℕ → ℕ → List ℕ
numbers_from first zero = []
numbers_from first (suc n) = first ∷ numbers_from (suc first) n

-- outside a loop all parts; in a loop those below its current part; in preorder
abbrev pub visited : Option ℕ → Mail → List ℕ
visited None mail = numbers_from 0 (length mail.parts)
visited (Some place) mail = option_map_or (λ (part : Part). numbers_from (suc place) part.below) (slice_get mail.parts place) []
