use Rattle.std.proofs.Common.{◌≡◌, ◌∙◌, ◌++◌, false, true, ap, arith, length, sym, take, drop, not}
use Rattle.std.proofs.lemmas.Bool.{false≢true, le-leb, leb-true}
use Rattle.std.proofs.lemmas.List.{length-take-le, take-append-drop}
use Rattle.header_fields.specs.Header.{name_of}
use Rattle.header_fields.specs.Reading.{begins_with_name}
use Rattle.header_fields.proofs.FieldLines.{named_long, named_whole}
use Rattle.header_fields.proofs.field_line.has_name_of_length.Goals as goal

pub returns-then-not-begins_with_name : goal.returns-then-not-begins_with_name
returns-then-not-begins_with_name c =
    let line = c.args.line.now in
    let len = c.args.len in
    let start = c.split_at.result.0.now in
    let after = c.split_at.result.1.now in
    let front = c.split_at.ensures.front in
    let long = length-take-le len line (omega (arith, c.if-line-len.false)) in
    let none : begins_with_name after ≡ false = sym c.begins_with_name.ensures ∙ c.if-not-begins_with_name.true in
    let whole = ap (λ s. s ++ after) front ∙ ap (λ s. take len line ++ s) c.split_at.ensures.back ∙ take-append-drop len line in (
      (λ is. let enough = leb-true _ _ is in
          omega (arith, ap length (sym (ap name_of whole) ∙ named_whole start after (omega (arith, enough, c.name_length.ensures, long, ap length front)) none), long, ap length front)),
      (λ same. let here = named_long (take len line) (drop len line) (ap (λ t. length (name_of t)) (take-append-drop len line) ∙ same ∙ sym long) in
          le-leb _ _ (omega (arith, here.1, long, ap (λ t. length (name_of t)) front, c.name_length.ensures))),
    )

pub returns-else-not-begins_with_name : goal.returns-else-not-begins_with_name
returns-else-not-begins_with_name c =
    let line = c.args.line.now in
    let len = c.args.len in
    let long = length-take-le len line (omega (arith, c.if-line-len.false)) in
    let has : begins_with_name (drop len line) ≡ true = ap begins_with_name (sym c.split_at.ensures.back) ∙ sym c.begins_with_name.ensures ∙ c.if-not-begins_with_name.false in (
      (λ is. absurd (false≢true (sym (ap not c.if-not-begins_with_name.false) ∙ is))),
      (λ same. absurd (false≢true (sym (named_long (take len line) (drop len line) (ap (λ t. length (name_of t)) (take-append-drop len line) ∙ same ∙ sym long)).0 ∙ has))),
    )
