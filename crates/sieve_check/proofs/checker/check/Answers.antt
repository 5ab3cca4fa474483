use Rattle.std.proofs.Common.{◌≡◌, ◌∙◌, None, sym, ap}
use Rattle.std.specs.Prelude.{option_copied, slice_get}
use Rattle.std.proofs.lemmas.Option.{none-some, same_Some}
use Rattle.sieve_parser.specs.View.{commands_tree}
use Rattle.sieve_check.specs.FormOf.{form_of}
use Rattle.sieve_check.specs.Rules.{fault_of}
use Rattle.sieve_check.proofs.Existence.{form_exists}
use Rattle.sieve_check.proofs.Faultless.{first_told, none_told, refusal_told}
use Rattle.sieve_check.proofs.checker.check.Goals as goal

pub unreachable-requires : goal.unreachable-requires
unreachable-requires c =
    let tree = commands_tree c.args.script in
    let faultless : fault_of tree ≡ None = none_told tree c.reasons_of.result.items c.reasons_of.ensures (ap (λ xs. slice_get xs 0) (sym c.deref.ensures.0) ∙ sym c.first.ensures.value ∙ ap option_copied c.in_default.is) in
    let formed = form_exists tree faultless in
    none-some formed.form (sym (c.in-Err-Malformed.ensures c.in-Err-Malformed.field-0-is) ∙ ap (λ ts. form_of (commands_tree ts)) c.commands.ensures.value ∙ formed.is)

pub returns-in-Some-clause-refused : goal.returns-in-Some-clause-refused
returns-in-Some-clause-refused c =
    let tree = commands_tree c.args.script in
    let told = first_told tree c.reasons_of.result.items c.in-Some.refused.now c.reasons_of.ensures (ap (λ xs. slice_get xs 0) (sym c.deref.ensures.0) ∙ sym c.first.ensures.value ∙ ap option_copied c.in-Some.is) in
    refusal_told tree c.refusal.result _ told c.refusal.ensures

pub returns-in-Some-clause-faulty : goal.returns-in-Some-clause-faulty
returns-in-Some-clause-faulty c = λ fault h.
    let tree = commands_tree c.args.script in
    let told = first_told tree c.reasons_of.result.items c.in-Some.refused.now c.reasons_of.ensures (ap (λ xs. slice_get xs 0) (sym c.deref.ensures.0) ∙ sym c.first.ensures.value ∙ ap option_copied c.in-Some.is) in
    c.refusal.ensures ∙ same_Some _ fault (sym told ∙ h)
