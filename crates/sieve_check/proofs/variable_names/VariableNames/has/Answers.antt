use Rattle.std.proofs.Common.{◌∙◌, bytes_eq, sym, ap}
use Rattle.std.proofs.lemmas.List.{drop_all}
use Rattle.octets.specs.Ascii.{lowercase_of}
use Rattle.octets.specs.Once.{is_listed}
use Rattle.sieve_check.specs.Refusing.{shown}
use Rattle.sieve_check.proofs.NameSteps.{found_at_index, passed_at_index}
use Rattle.sieve_check.proofs.variable_names.VariableNames.has.Goals as goal

pub returns-then-is_word : goal.returns-then-is_word
returns-then-is_word c =
    sym (found_at_index c.args.name.now c.as_slice-known-items.result.now c.loop-known.known-index _ c.loop-known-test.true (sym c.if-is_word.ensures))
    ∙ c.loop-known.invariant
    ∙ ap (λ l. is_listed bytes_eq (lowercase_of c.args.name.now) (shown l)) c.as_slice-known-items.ensures.value

pub loop-known-preserved : goal.loop-known-preserved
loop-known-preserved c =
    passed_at_index c.args.name.now c.as_slice-known-items.result.now c.loop-known.known-index _ c.loop-known-test.true (sym c.if-is_word.ensures) ∙ c.loop-known.invariant

pub returns : goal.returns
returns c =
    let left = drop_all c.loop-known.known-index c.as_slice-known-items.result.now c.loop-known-test.false in
    ap (λ l. is_listed bytes_eq (lowercase_of c.args.name.now) (shown l)) (sym left) ∙ c.loop-known.invariant
    ∙ ap (λ l. is_listed bytes_eq (lowercase_of c.args.name.now) (shown l)) c.as_slice-known-items.ensures.value
