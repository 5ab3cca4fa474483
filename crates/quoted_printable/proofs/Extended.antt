-- Octets and those appended to them.
use Rattle.std.proofs.Common.{◌≡◌, ℕ, List, ◌++◌, Bool, true, false, cond, sym, ◌∙◌, ap, length, take, drop}
use Rattle.std.proofs.Math.Seq.{take-append_seam, take-length}
use Rattle.std.proofs.lemmas.List.{append_assoc, take-append-drop}
use Rattle.quoted_printable.specs.Private.{Extends}

pub extends_more : (was more now : List ℕ) → now ≡ was ++ more → Extends was now
extends_more was more now e = ap (take (length was)) e ∙ take-append_seam was more

-- what a call that may be refused leaves
pub extends_if : (ok : Bool) (was more now : List ℕ) → now ≡ cond ok (was ++ more) was → Extends was now
extends_if true was more now e = extends_more was more now e
extends_if false was more now e = ap (take (length was)) e ∙ take-length was

-- what was appended
pub added_of : (was now : List ℕ) → Extends was now → now ≡ was ++ drop (length was) now
added_of was now e = sym (take-append-drop (length was) now) ∙ ap (λ l. l ++ drop (length was) now) e

pub extends_then : (was then now : List ℕ) → Extends was then → Extends then now → Extends was now
extends_then was then now first second =
    let added = drop (length was) then in
    let more = drop (length then) now in
    extends_more was (added ++ more) now (added_of then now second ∙ ap (λ l. l ++ more) (added_of was then first) ∙ append_assoc was added more)
