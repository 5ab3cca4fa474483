use Rattle.std.proofs.Common.{◌≡◌, ◌<◌, ◌∙◌, [], true, false, Some, length, ap, refl, get_or}
use Rattle.std.proofs.lemmas.List.{get_or_read}
use Rattle.bytecode_verifier.proofs.Consequences.{string_known, take_known}
use Rattle.std.proofs.lemmas.Result.{IfOk-weaker}
use Rattle.bytecode_format.specs.declared.operation.Operation.TheVariants.{JumpIfTrue, JumpIfFalse, Store, Take}
use Rattle.sieve_vm.proofs.StackSteps.{not_some, if_true_some, if_false_some, folder_some, parts_some, modifiers_some, value_some, had_variable, had_capture, had_join, had_set, had_not, had_literal, had_branch, had_file}
use Rattle.sieve_vm.proofs.PartSteps.{question_some, lists_some, had_test, had_store, had_take, current_there, current_in_loops, part_some, current_some, store_some, take_some}
use Rattle.sieve_vm.proofs.LoopSteps.{had_each, had_next, had_break, room_there, next_some, break_some, break_there}
use Rattle.bytecode_format.specs.Questions.{question_in}
use Rattle.sieve_vm.proofs.Looking.{looked_for_nothing, looked_for_question}
use Rattle.sieve_vm.proofs.machine.Machine.act.Goals as goal

pub take-value-requires : goal.take-value-requires
take-value-requires c =
    not_some c.args.program.now c.args.message.now c.requires.accepted c.requires.mail c.args.position c.args.self.now c.requires.running.0 c.requires.running.1 c.args.instruction.now c.requires.here (c.requires.named ∙ ap (λ o. Some o) c.in-Not.is)

pub branch-self-requires : goal.branch-self-requires
branch-self-requires c =
    if_true_some c.args.program.now c.args.message.now c.requires.accepted c.requires.mail c.args.position c.args.self.now c.requires.running.0 c.requires.running.1 c.args.instruction.now c.requires.here (c.requires.named ∙ ap (λ o. Some o) c.in-JumpIfTrue.is)

pub branch-self-requires-in-JumpIfFalse : goal.branch-self-requires-in-JumpIfFalse
branch-self-requires-in-JumpIfFalse c =
    if_false_some c.args.program.now c.args.message.now c.requires.accepted c.requires.mail c.args.position c.args.self.now c.requires.running.0 c.requires.running.1 c.args.instruction.now c.requires.here (c.requires.named ∙ ap (λ o. Some o) c.in-JumpIfFalse.is)

pub file-requires : goal.file-requires
file-requires c =
    folder_some c.args.program.now c.args.message.now c.requires.accepted c.requires.mail c.args.position c.args.self.now c.requires.running.0 c.requires.running.1 c.args.instruction.now c.requires.here (c.requires.named ∙ ap (λ o. Some o) c.in-File.is)

pub join-requires : goal.join-requires
join-requires c =
    parts_some c.args.program.now c.args.message.now c.requires.accepted c.requires.mail c.args.position c.args.self.now c.requires.running.0 c.requires.running.1 c.args.instruction.now c.requires.here c.requires.program (c.requires.named ∙ ap (λ o. Some o) c.in-Join.is)

pub ask-requires-clause-question : goal.ask-requires-clause-question
ask-requires-clause-question c = question_some c.args.program.now c.args.message.now c.requires.accepted c.requires.mail c.args.position c.args.self.now c.requires.running.0 c.requires.running.1 c.args.instruction.now c.requires.here c.in-Test.test (c.requires.named ∙ ap (λ o. Some o) c.in-Test.is)

pub ask-requires-clause-current : goal.ask-requires-clause-current
ask-requires-clause-current c = current_there c.args.program.now c.args.message.now c.requires.accepted c.requires.mail c.args.position c.args.self.now c.requires.running.0 c.requires.running.1 c.args.instruction.now c.requires.here

pub ask-requires-clause-top : goal.ask-requires-clause-top
ask-requires-clause-top c = lists_some c.args.program.now c.args.message.now c.requires.accepted c.requires.mail c.args.position c.args.self.now c.requires.running.0 c.requires.running.1 c.args.instruction.now c.requires.here c.in-Test.test (c.requires.named ∙ ap (λ o. Some o) c.in-Test.is) c.requires.program

pub returns-in_ok-ask-in-Test-clause-done : goal.returns-in_ok-ask-in-Test-clause-done
returns-in_ok-ask-in-Test-clause-done c =
    λ s at. rw c.in-Test.is (had_test c.args.program.now c.args.message.now c.requires.accepted c.requires.mail c.args.position c.args.self.now s at c.args.instruction.now c.requires.here c.in-Test.test (c.requires.named ∙ ap (λ o. Some o) c.in-Test.is) c.in_ok-ask-in-Test.field-0 c.ask.new.self c.in_ok-ask-in-Test.ensures.done)

pub set-requires-clause-modifiers : goal.set-requires-clause-modifiers
set-requires-clause-modifiers c =
    modifiers_some c.args.program.now c.args.message.now c.requires.accepted c.requires.mail c.args.position c.args.self.now c.requires.running.0 c.requires.running.1 c.args.instruction.now c.requires.here (c.requires.named ∙ ap (λ o. Some o) c.in-Set.is)

pub set-requires-clause-top : goal.set-requires-clause-top
set-requires-clause-top c =
    value_some c.args.program.now c.args.message.now c.requires.accepted c.requires.mail c.args.position c.args.self.now c.requires.running.0 c.requires.running.1 c.args.instruction.now c.requires.here (c.requires.named ∙ ap (λ o. Some o) c.in-Set.is)

pub returns-in-Literal-clause-done : goal.returns-in-Literal-clause-done
returns-in-Literal-clause-done c =
    let within = string_known c.args.program.now c.requires.accepted c.args.position.place c.args.instruction.now c.requires.here (c.requires.named ∙ ap (λ o. Some o) c.in-Literal.is) in
    let there : c.args.instruction.now.c < length c.strings.result.now = rw c.strings.ensures.value within in
    let octets : c.as_slice.result.now ≡ get_or c.args.program.now.strings c.args.instruction.now.c [] =
    c.as_slice.ensures ∙ get_or_read c.strings.result.now _ _ there c.index-strings-instruction.is [] ∙ ap (λ xs. get_or xs c.args.instruction.now.c []) c.strings.ensures.value in
    rw c.in-Literal.is (IfOk-weaker c.push_text.result _ _ (λ done h s at. had_literal c.args.program.now c.args.message.now c.requires.accepted c.requires.mail c.args.position c.args.self.now s at c.args.instruction.now c.requires.here (c.requires.named ∙ ap (λ o. Some o) c.in-Literal.is) c.as_slice.result.now done c.push_text.new.self octets (h.0, h.1 c.args.message.now)) c.push_text.ensures.done)

pub returns-in-Not-clause-done : goal.returns-in-Not-clause-done
returns-in-Not-clause-done c =
    rw c.in-Not.is (IfOk-weaker c.push.result _ _ (λ done h s at. had_not c.args.program.now c.args.message.now c.requires.accepted c.requires.mail c.args.position c.args.self.now s at c.args.instruction.now c.requires.here (c.requires.named ∙ ap (λ o. Some o) c.in-Not.is) c.take-value.result c.take-value.new.self done c.push.new.self (c.take-value.ensures.done c.args.message.now) (h.0, h.1 c.args.message.now)) c.push.ensures.done)

pub returns-in-JumpIfTrue-clause-done : goal.returns-in-JumpIfTrue-clause-done
returns-in-JumpIfTrue-clause-done c = λ s at.
    rw c.in-JumpIfTrue.is (had_branch c.args.program.now c.args.message.now c.requires.accepted c.requires.mail c.args.position c.args.self.now s at c.args.instruction.now c.requires.here JumpIfTrue true (c.requires.named ∙ ap (λ o. Some o) c.in-JumpIfTrue.is) refl refl c.branch-self.result c.branch-self.new.self (c.branch-self.ensures.done c.args.message.now))

pub returns-in-JumpIfFalse-clause-done : goal.returns-in-JumpIfFalse-clause-done
returns-in-JumpIfFalse-clause-done c = λ s at.
    rw c.in-JumpIfFalse.is (had_branch c.args.program.now c.args.message.now c.requires.accepted c.requires.mail c.args.position c.args.self.now s at c.args.instruction.now c.requires.here JumpIfFalse false (c.requires.named ∙ ap (λ o. Some o) c.in-JumpIfFalse.is) refl refl c.branch-self-in-JumpIfFalse.result c.branch-self-in-JumpIfFalse.new.self (c.branch-self-in-JumpIfFalse.ensures.done c.args.message.now))

pub returns-in-Each-clause-done : goal.returns-in-Each-clause-done
returns-in-Each-clause-done c = λ s at. rw c.in-Each.is (had_each c.args.program.now c.args.message.now c.requires.accepted c.requires.mail c.args.position c.args.self.now s at c.args.instruction.now c.requires.here (c.requires.named ∙ ap (λ o. Some o) c.in-Each.is) c.each.result c.each.new.self (c.each.ensures.done c.args.message.now))

pub returns-in-Next-clause-done : goal.returns-in-Next-clause-done
returns-in-Next-clause-done c = λ s at. rw c.in-Next.is (had_next c.args.program.now c.args.message.now c.requires.accepted c.requires.mail c.args.position c.args.self.now s at c.args.instruction.now c.requires.here (c.requires.named ∙ ap (λ o. Some o) c.in-Next.is) c.next.result c.next.new.self (c.next.ensures.done c.args.message.now))

pub returns-in-Break-clause-done : goal.returns-in-Break-clause-done
returns-in-Break-clause-done c = λ s at. rw c.in-Break.is (had_break c.args.program.now c.args.message.now c.requires.accepted c.requires.mail c.args.position c.args.self.now s at c.args.instruction.now c.requires.here (c.requires.named ∙ ap (λ o. Some o) c.in-Break.is) c.close.result c.close.new.self (c.close.ensures.done c.args.message.now))

pub returns-in_ok-file-in-File-clause-done : goal.returns-in_ok-file-in-File-clause-done
returns-in_ok-file-in-File-clause-done c =
    λ s at. rw (c.in-File.is, c.charged_for-in-File.ensures) (had_file c.args.program.now c.args.message.now c.requires.accepted c.requires.mail c.args.position c.args.self.now s at c.args.instruction.now c.requires.here (c.requires.named ∙ ap (λ o. Some o) c.in-File.is) c.in_ok-file-in-File.field-0 c.file.new.self (c.in_ok-file-in-File.ensures.done c.args.message.now))

pub returns-in_ok-store-in-Store-clause-done : goal.returns-in_ok-store-in-Store-clause-done
returns-in_ok-store-in-Store-clause-done c =
    λ s at. rw (c.in-Store.is, c.charged_for-in-Store.ensures) (had_store c.args.program.now c.args.message.now c.requires.accepted c.requires.mail c.args.position c.args.self.now s at c.args.instruction.now c.requires.here (c.requires.named ∙ ap (λ o. Some o) c.in-Store.is) c.in_ok-store-in-Store.field-0 c.store.new.self (c.in_ok-store-in-Store.ensures.done c.args.message.now))

pub returns-in-Variable-clause-done : goal.returns-in-Variable-clause-done
returns-in-Variable-clause-done c =
    rw c.in-Variable.is (IfOk-weaker c.push_variable.result _ _ (λ done h s at. had_variable c.args.program.now c.args.message.now c.requires.accepted c.requires.mail c.args.position c.args.self.now s at c.args.instruction.now c.requires.here (c.requires.named ∙ ap (λ o. Some o) c.in-Variable.is) done c.push_variable.new.self (h.0, h.1 c.args.message.now s at.stands.holds)) c.push_variable.ensures.done)

pub returns-in-Capture-clause-done : goal.returns-in-Capture-clause-done
returns-in-Capture-clause-done c =
    rw c.in-Capture.is (IfOk-weaker c.push_capture.result _ _ (λ done h s at. had_capture c.args.program.now c.args.message.now c.requires.accepted c.requires.mail c.args.position c.args.self.now s at c.args.instruction.now c.requires.here (c.requires.named ∙ ap (λ o. Some o) c.in-Capture.is) done c.push_capture.new.self (h.0, h.1 c.args.message.now s at.stands.holds)) c.push_capture.ensures.done)

pub returns-in_ok-join-in-Join-clause-done : goal.returns-in_ok-join-in-Join-clause-done
returns-in_ok-join-in-Join-clause-done c =
    λ s at. rw (c.in-Join.is, c.charged_for.ensures) (had_join c.args.program.now c.args.message.now c.requires.accepted c.requires.mail c.args.position c.args.self.now s at c.args.instruction.now c.requires.here (c.requires.named ∙ ap (λ o. Some o) c.in-Join.is) c.in_ok-join-in-Join.field-0 c.join.new.self (c.in_ok-join-in-Join.ensures.done c.args.message.now))

pub returns-in_ok-set-in-Set-clause-done : goal.returns-in_ok-set-in-Set-clause-done
returns-in_ok-set-in-Set-clause-done c =
    λ s at. rw (c.in-Set.is, c.charged_for-in-Set.ensures) (had_set c.args.program.now c.args.message.now c.requires.accepted c.requires.mail c.args.position c.args.self.now s at c.args.instruction.now c.requires.here (c.requires.named ∙ ap (λ o. Some o) c.in-Set.is) c.in_ok-set-in-Set.field-0 c.set.new.self (c.in_ok-set-in-Set.ensures.done c.args.message.now))

pub store-requires-clause-part : goal.store-requires-clause-part
store-requires-clause-part c = current_some c.args.program.now c.args.message.now c.requires.accepted c.requires.mail c.args.position c.args.self.now c.requires.running.0 c.requires.running.1 c.args.instruction.now c.requires.here Store (c.requires.named ∙ ap (λ o. Some o) c.in-Store.is) refl

pub store-requires-clause-top : goal.store-requires-clause-top
store-requires-clause-top c = store_some c.args.program.now c.args.message.now c.requires.accepted c.requires.mail c.args.position c.args.self.now c.requires.running.0 c.requires.running.1 c.args.instruction.now c.requires.here (c.requires.named ∙ ap (λ o. Some o) c.in-Store.is)

pub each-requires-clause-room : goal.each-requires-clause-room
each-requires-clause-room c = room_there c.args.program.now c.args.message.now c.requires.accepted c.requires.mail c.args.position c.args.self.now c.requires.running.0 c.requires.running.1 c.args.instruction.now c.requires.here (c.requires.named ∙ ap (λ o. Some o) c.in-Each.is)

pub each-requires-clause-current : goal.each-requires-clause-current
each-requires-clause-current c = current_in_loops c.args.program.now c.args.message.now c.requires.accepted c.requires.mail c.args.position c.args.self.now c.requires.running.0 c.requires.running.1 c.args.instruction.now c.requires.here

pub next-requires : goal.next-requires
next-requires c = next_some c.args.program.now c.args.message.now c.requires.accepted c.requires.mail c.args.position c.args.self.now c.requires.running.0 c.requires.running.1 c.args.instruction.now c.requires.here c.requires.program (c.requires.named ∙ ap (λ o. Some o) c.in-Next.is)

pub close-requires-clause-some : goal.close-requires-clause-some
close-requires-clause-some c = break_some c.args.program.now c.args.message.now c.requires.accepted c.requires.mail c.args.position c.args.self.now c.requires.running.0 c.requires.running.1 c.args.instruction.now c.requires.here (c.requires.named ∙ ap (λ o. Some o) c.in-Break.is)

pub close-requires-clause-there : goal.close-requires-clause-there
close-requires-clause-there c = break_there c.args.program.now c.args.message.now c.requires.accepted c.requires.mail c.args.position c.args.self.now c.requires.running.0 c.requires.running.1 c.args.instruction.now c.requires.here c.requires.program (c.requires.named ∙ ap (λ o. Some o) c.in-Break.is)

pub set_content-requires-clause-part : goal.set_content-requires-clause-part
set_content-requires-clause-part c = part_some c.args.program.now c.args.message.now c.requires.accepted c.requires.mail c.args.position c.args.self.now c.requires.running.0 c.requires.running.1 c.args.instruction.now c.requires.here Take (c.requires.named ∙ ap (λ o. Some o) c.in-Take.is) refl

pub set_content-requires-clause-few : goal.set_content-requires-clause-few
set_content-requires-clause-few c = (take_known c.args.program.now c.requires.accepted c.args.position.place c.args.instruction.now c.requires.here (c.requires.named ∙ ap (λ o. Some o) c.in-Take.is)).1

pub set_content-requires-clause-variable : goal.set_content-requires-clause-variable
set_content-requires-clause-variable c = take_some c.args.program.now c.args.message.now c.requires.accepted c.requires.mail c.args.position c.args.self.now c.requires.running.0 c.requires.running.1 c.args.instruction.now c.requires.here (c.requires.named ∙ ap (λ o. Some o) c.in-Take.is)

pub returns-in_ok-set_content-in-Take-clause-done : goal.returns-in_ok-set_content-in-Take-clause-done
returns-in_ok-set_content-in-Take-clause-done c =
    λ s at. rw (c.in-Take.is, c.charged_for-in-Take.ensures) (had_take c.args.program.now c.args.message.now c.requires.accepted c.requires.mail c.args.position c.args.self.now s at c.args.instruction.now c.requires.here (c.requires.named ∙ ap (λ o. Some o) c.in-Take.is) c.in_ok-set_content-in-Take.field-0 c.set_content.new.self (c.in_ok-set_content-in-Take.ensures.done c.args.message.now))

pub returns-in-Discard-clause-done : goal.returns-in-Discard-clause-done
returns-in-Discard-clause-done c = λ s at. rw (c.in-Discard.is, c.discard.ensures.flow) (c.discard.ensures.stands c.args.message.now s at.stands.holds, refl)

pub returns-in-Literal-clause-looked : goal.returns-in-Literal-clause-looked
returns-in-Literal-clause-looked c = rw c.in-Literal.is (IfOk-weaker c.push_text.result _ _ (λ done h. looked_for_nothing c.args.self.now.loops c.push_text.new.self.loops (c.push_text.ensures.loops)) c.push_text.ensures.done)

pub returns-in-Variable-clause-looked : goal.returns-in-Variable-clause-looked
returns-in-Variable-clause-looked c = rw c.in-Variable.is (IfOk-weaker c.push_variable.result _ _ (λ done h. looked_for_nothing c.args.self.now.loops c.push_variable.new.self.loops (c.push_variable.ensures.loops)) c.push_variable.ensures.done)

pub returns-in-Capture-clause-looked : goal.returns-in-Capture-clause-looked
returns-in-Capture-clause-looked c = rw c.in-Capture.is (IfOk-weaker c.push_capture.result _ _ (λ done h. looked_for_nothing c.args.self.now.loops c.push_capture.new.self.loops (c.push_capture.ensures.loops)) c.push_capture.ensures.done)

pub returns-in-Not-clause-looked : goal.returns-in-Not-clause-looked
returns-in-Not-clause-looked c = rw c.in-Not.is (IfOk-weaker c.push.result _ _ (λ done h. looked_for_nothing c.args.self.now.loops c.push.new.self.loops (c.push.ensures.loops ∙ c.take-value.ensures.loops)) c.push.ensures.done)

pub returns-in-JumpIfTrue-clause-looked : goal.returns-in-JumpIfTrue-clause-looked
returns-in-JumpIfTrue-clause-looked c = rw c.in-JumpIfTrue.is (looked_for_nothing c.args.self.now.loops c.branch-self.new.self.loops c.branch-self.ensures.loops)

pub returns-in-JumpIfFalse-clause-looked : goal.returns-in-JumpIfFalse-clause-looked
returns-in-JumpIfFalse-clause-looked c = rw c.in-JumpIfFalse.is (looked_for_nothing c.args.self.now.loops c.branch-self-in-JumpIfFalse.new.self.loops c.branch-self-in-JumpIfFalse.ensures.loops)

pub returns-in-Discard-clause-looked : goal.returns-in-Discard-clause-looked
returns-in-Discard-clause-looked c = rw c.in-Discard.is (looked_for_nothing c.args.self.now.loops c.discard.new.self.loops c.discard.ensures.loops)

pub returns-in-Each-clause-looked : goal.returns-in-Each-clause-looked
returns-in-Each-clause-looked c = rw c.in-Each.is (record { remembers = c.each.ensures.known; seeks = tt })

pub returns-in-Next-clause-looked : goal.returns-in-Next-clause-looked
returns-in-Next-clause-looked c = rw c.in-Next.is (record { remembers = c.next.ensures.known; seeks = tt })

pub returns-in-Break-clause-looked : goal.returns-in-Break-clause-looked
returns-in-Break-clause-looked c = rw c.in-Break.is (record { remembers = c.close.ensures.known; seeks = tt })

pub returns-in_ok-file-in-File-clause-looked : goal.returns-in_ok-file-in-File-clause-looked
returns-in_ok-file-in-File-clause-looked c = rw c.in-File.is (looked_for_nothing c.args.self.now.loops c.file.new.self.loops c.in_ok-file-in-File.ensures.loops)

pub returns-in_ok-store-in-Store-clause-looked : goal.returns-in_ok-store-in-Store-clause-looked
returns-in_ok-store-in-Store-clause-looked c = rw c.in-Store.is (looked_for_nothing c.args.self.now.loops c.store.new.self.loops c.in_ok-store-in-Store.ensures.loops)

pub returns-in_ok-join-in-Join-clause-looked : goal.returns-in_ok-join-in-Join-clause-looked
returns-in_ok-join-in-Join-clause-looked c = rw c.in-Join.is (looked_for_nothing c.args.self.now.loops c.join.new.self.loops c.in_ok-join-in-Join.ensures.loops)

pub returns-in_ok-set-in-Set-clause-looked : goal.returns-in_ok-set-in-Set-clause-looked
returns-in_ok-set-in-Set-clause-looked c = rw c.in-Set.is (looked_for_nothing c.args.self.now.loops c.set.new.self.loops c.in_ok-set-in-Set.ensures.loops)

pub returns-in_ok-set_content-in-Take-clause-looked : goal.returns-in_ok-set_content-in-Take-clause-looked
returns-in_ok-set_content-in-Take-clause-looked c = rw c.in-Take.is c.in_ok-set_content-in-Take.ensures.looked

pub returns-in_ok-ask-in-Test-clause-looked : goal.returns-in_ok-ask-in-Test-clause-looked
returns-in_ok-ask-in-Test-clause-looked c = rw c.in-Test.is
    (looked_for_question c.args.self.now.loops c.ask.new.self.loops (question_in c.args.program.now.numbers c.in-Test.test c.args.instruction.now)
    (question_some c.args.program.now c.args.message.now c.requires.accepted c.requires.mail c.args.position c.args.self.now c.requires.running.0 c.requires.running.1 c.args.instruction.now c.requires.here c.in-Test.test (c.requires.named ∙ ap (λ o. Some o) c.in-Test.is))
    c.in_ok-ask-in-Test.ensures.looked)
