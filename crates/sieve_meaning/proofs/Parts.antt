-- The contents of parts.
use Rattle.std.proofs.Common.{◌≡◌, ℕ, ◌<◌, ◌≤◌, List, get_or, length, ap, arith}
use Rattle.std.proofs.lemmas.Option.{slice_get-get_or}
use Rattle.octets.specs.Limits.{max_message}
use Rattle.mime_decode.specs.Mail.{Mail, Part, IsMail}
use Rattle.mime_decode.proofs.Visited.{some_part}

-- the content of a part is no longer than a message may be
pub content_short : (mail : Mail) (place : ℕ) (content : List ℕ) → IsMail mail → place < length mail.parts → ((d : Part) → content ≡ (get_or mail.parts place d).content) → length content ≤ max_message
content_short mail place content known lt is =
    let d = some_part mail.parts known.has_root in
    let within = known.within place (get_or mail.parts place d) (slice_get-get_or mail.parts place d lt) in
    omega (arith, ap length (is d), within.content, within.body, known.small)
