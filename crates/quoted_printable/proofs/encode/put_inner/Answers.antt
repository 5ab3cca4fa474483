use Rattle.std.proofs.Common.{◌≡◌, ◌∙◌, ◌+◌, ◌++◌, ◌∷◌, [], ◌/◌, ◌%◌, ap, sym, ℕ, List, Bool, true, false, length, take, if◌then◌else◌, arith}
use Rattle.std.proofs.Math.Seq.{take-append-add}
use Rattle.std.proofs.lemmas.List.{take-take, length-take-le}
use Rattle.quoted_printable.specs.QuotedPrintable.{stands, hex_of}
use Rattle.quoted_printable.proofs.encode.put_inner.Goals as goal

-- the first octets of those that were written
first : (front line : List ℕ) (o h l : ℕ) → take (length front + 3) line ≡ front ++ o ∷ h ∷ l ∷ [] → take (length front + 1) line ≡ front ++ o ∷ []
first front line o h l three =
    sym (take-take (length front + 1) (length front + 3) line (omega arith)) ∙ ap (take (length front + 1)) three ∙ take-append-add front (o ∷ h ∷ l ∷ []) 1

token : (s : Bool) (front line : List ℕ) (o h l : ℕ) → take (length front + 3) line ≡ front ++ (if s then o else 61) ∷ h ∷ l ∷ []
    → take (length front + (if s then 1 else 3)) line ≡ front ++ (if s then o ∷ [] else 61 ∷ h ∷ l ∷ [])
token true front line o h l three = first front line o h l three
token false front line o h l three = three

pub returns-clause-token : goal.returns-clause-token
returns-clause-token c =
    let o = c.args.octet in
    let long = length-take-le c.args.at c.args.line.now (omega (arith, c.told-line)) in
    let three = ap (λ n. take (n + 3) c.put_three.new.line) long ∙ c.put_three.ensures ∙ ap (λ f. take c.args.at c.args.line.now ++ f ∷ hex_of (o / 16) ∷ hex_of (o % 16) ∷ []) c.first_of.ensures in
    ap (λ n. take (n + c.length_of.result) c.put_three.new.line) (sym long)
    ∙ ap (λ n. take (length (take c.args.at c.args.line.now) + n) c.put_three.new.line) c.length_of.ensures
    ∙ token (stands o false) (take c.args.at c.args.line.now) c.put_three.new.line o (hex_of (o / 16)) (hex_of (o % 16)) three
