use Rattle.std.proofs.Common.{◌≡◌, ◌∙◌, ◌-◌, [], ◌∷◌, ◌++◌, Some, option_map, ap}
use Rattle.bytecode_format.specs.Operations.{operation_of}
use Rattle.bytecode_listing.specs.Listing.{instruction_text}
use Rattle.sieve_vm.specs.Moment.{Moment, state_at}
use Rattle.sieve_vm.specs.State.{State}
use Rattle.bytecode_trace.specs.Printed.{column, part_text, told_of}
use Rattle.bytecode_trace.specs.Private.{line_between, told_after}
use Rattle.bytecode_trace.proofs.Lines.{beginning, charge_text, line_known}
use Rattle.bytecode_trace.proofs.line.take_step.Goals as goal

pub returns-clause-line : goal.returns-clause-line
returns-clause-line c =
    let i = c.instruction-instruction.result in
    let told = c.told_of-told.result in
    let place = c.place.result in
    let charged = c.charged-charged.result in
    let sum = c.charged-sum.result in
    let part = c.part.result in
    let taken = c.in_ok-taken.taken.items in
    let line = c.put_end.new.out.items in
    let start = beginning place i charged sum part in
    let told_is : told ≡ told_of (operation_of i.op) = c.told_of-told.ensures ∙ ap told_of c.of.ensures in
    let first : c.put_instruction.new.out.items ≡ instruction_text place i = c.in_ok-put_instruction.ensures ∙ ap (λ xs. xs ++ instruction_text place i) c.clear.ensures.items in
    let behind = column (option_map part_text part) in
    let second : c.put_sum.new.out.items ≡ start = c.in_ok-put_sum.ensures ∙ ap (λ n. c.put_instruction.new.out.items ++ charge_text n sum ++ behind) c.saturating_sub.ensures ∙ ap (λ xs. xs ++ charge_text (sum - charged) sum ++ behind) first in
    let whole : (s : State) → state_at c.in_ok-run.run' ≡ Some s → line ≡ start ++ taken ++ told_after told i.c s ++ 10 ∷ [] = λ s e. c.in_ok-put_end.ensures s e ∙ ap (λ xs. c.put_sum.new.out.items ++ xs ++ told_after told i.c s ++ 10 ∷ []) c.deref.ensures.value ∙ ap (λ xs. xs ++ taken ++ told_after told i.c s ++ 10 ∷ []) second in
    line_known c.args.run.code (state_at c.args.run) (state_at c.in_ok-run.run') told i place charged sum part taken line told_is c.instruction-instruction.ensures c.place.ensures c.charged-charged.ensures c.in_ok-taken.ensures c.charged-sum.ensures c.part.ensures whole
    ∙ ap (λ (m : Moment). line_between c.args.run.code (state_at c.args.run) (state_at m)) c.in_ok-run.ensures
