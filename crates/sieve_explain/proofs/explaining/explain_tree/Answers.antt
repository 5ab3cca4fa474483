use Rattle.std.proofs.Common.{◌∙◌, Bool, List, ◌++◌, ap, length, nat_lt, sym, take}
use Rattle.std.specs.Prelude.{map, option_copied, slice_get}
use Rattle.refusals.specs.Causes.{of_checker}
use Rattle.sieve_parser.specs.View.{commands_tree}
use Rattle.sieve_check.specs.Causes as causes
use Rattle.sieve_check.specs.Causes.{fault_of_kind}
use Rattle.sieve_check.specs.ReasonView.{refused_view}
use Rattle.sieve_check.specs.Rules.{max_reasons, reasons_of}
use Rattle.sieve_check.specs.declared.causes.Refused.{Refused}
use Rattle.sieve_check.proofs.Faultless.{first_told}
use Rattle.sieve_explain.specs.Explaining.{note_if, printed, reason_told}
use Rattle.sieve_explain.specs.Faults.{more_blanks}
use Rattle.sieve_explain.proofs.TellingLemmas.{first_found, more_found, told_by_checker}
use Rattle.sieve_explain.proofs.explaining.explain_tree.Goals as goal

pub returns : goal.returns
returns c =
    let name = c.args.source.now.name.now in
    let script = c.args.source.now.octets.now in
    let tokens = c.args.tokens.now in
    let tree = commands_tree c.args.tree.now in
    let first = c.in-Some.first.now in
    let refused = first_told tree c.reasons_of-reasons.result.items first c.reasons_of-reasons.ensures
    (ap (λ (l : List Refused). slice_get l 0) (sym c.deref.ensures.0) ∙ sym c.first.ensures.value ∙ ap option_copied c.in-Some.is) in
    let all = λ (l : List causes.Refused) (more : Bool). printed name (map (reason_told script tokens) l ++ note_if more more_blanks) in
    let found = c.reasons_of-reasons.result.items in
    let text = c.in_ok-text.ensures
    ∙ ap (λ (l : List Refused). all (map refused_view (take max_reasons l)) (nat_lt max_reasons (length l))) c.deref-2.ensures.0
    ∙ ap (λ (l : List causes.Refused). all l (nat_lt max_reasons (length found))) (first_found found (reasons_of tree) c.reasons_of-reasons.ensures)
    ∙ ap (all (take max_reasons (reasons_of tree))) (more_found found (reasons_of tree) c.reasons_of-reasons.ensures) in
    told_by_checker name script first.token (fault_of_kind first.reason.kind) c.from-refusal.result c.in_ok-text.text.items
    (c.from-refusal.ensures ∙ ap of_checker c.refusal.ensures) (tree, c.requires.parsed, refused) (tree, c.requires.parsed, (tokens, c.requires.tokens, text))
