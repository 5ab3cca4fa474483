use Rattle.std.proofs.Common.{◌∙◌, codes, sym}
use Rattle.std.proofs.lemmas.Slice.Eq.{strip_suffix_is}
use Rattle.std.proofs.lemmas.Bool.Decides.{Decides-eqb}
use Rattle.mime_tree.proofs.Delimiters.{closed_name, not_closed, marks_closing, marks_nothing}
use Rattle.mime_tree.proofs.delimiter.mark_of.Goals as goal

pub returns-in-Some : goal.returns-in-Some
returns-in-Some c =
    let name = c.args.name.now in
    let ends = strip_suffix_is Decides-eqb name (codes "--") c.strip_suffix.result c.strip_suffix.ensures.cases in
    let same = closed_name c.args.boundary.now name c.in-Some.closed.now (rw c.in-Some.is at ends) in
    marks_closing c.args.preamble c.args.boundary.now name (sym c.eq.ensures ∙ c.if-eq.false) c.if-preamble.false (sym same ∙ sym c.if-eq-2.ensures)

pub returns-in_default : goal.returns-in_default
returns-in_default c =
    let name = c.args.name.now in
    let ends = strip_suffix_is Decides-eqb name (codes "--") c.strip_suffix.result c.strip_suffix.ensures.cases in
    let same = closed_name c.args.boundary.now name c.in-Some.closed.now (rw c.in-Some.is at ends) in
    marks_nothing c.args.preamble c.args.boundary.now name (sym c.eq.ensures ∙ c.if-eq.false) c.if-preamble.false (sym same ∙ sym c.if-eq-2.ensures)

pub returns-in_default-2 : goal.returns-in_default-2
returns-in_default-2 c =
    let name = c.args.name.now in
    let ends = strip_suffix_is Decides-eqb name (codes "--") c.strip_suffix.result c.strip_suffix.ensures.cases in
    marks_nothing c.args.preamble c.args.boundary.now name (sym c.eq.ensures ∙ c.if-eq.false) c.if-preamble.false (not_closed c.args.boundary.now name (rw c.in_default.is at ends))
