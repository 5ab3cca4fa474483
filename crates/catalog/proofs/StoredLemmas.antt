-- The digests of the parts of a mail, one after another.
use Rattle.std.proofs.Common.{◌≡◌, ◌<◌, ◌+◌, ℕ, zero, suc, List, [], ◌∷◌, ◌++◌, HoldsAt, length, map, take, ap, ◌∙◌, arith, add-one}
use Rattle.sha2.specs.Sha256.{sha256}
use Rattle.mime_decode.specs.Mail.{Part}

next_digest : (parts : List Part) (i : ℕ) (digest : List ℕ) → i < length parts → HoldsAt (λ (p : Part). digest ≡ sha256 p.content) parts i
    → map (λ (p : Part). sha256 p.content) (take i parts) ++ digest ∷ [] ≡ map (λ (p : Part). sha256 p.content) (take (suc i) parts)
next_digest [] i digest lt h = absurd (omega (arith, lt))
next_digest (part ∷ parts) zero digest lt h = ap (λ d. d ∷ []) (h part)
next_digest (part ∷ parts) (suc i) digest lt h = ap (λ ds. sha256 part.content ∷ ds) (next_digest parts i digest (omega (arith, lt)) h)

pub one_more : (parts : List Part) (i : ℕ) (digest : List ℕ) (digests : List (List ℕ)) → i < length parts → HoldsAt (λ (p : Part). digest ≡ sha256 p.content) parts i
    → digests ≡ map (λ (p : Part). sha256 p.content) (take i parts) → digests ++ digest ∷ [] ≡ map (λ (p : Part). sha256 p.content) (take (i + 1) parts)
one_more parts i digest digests lt h so_far = rw (add-one) (ap (λ ds. ds ++ digest ∷ []) so_far ∙ next_digest parts i digest lt h)
