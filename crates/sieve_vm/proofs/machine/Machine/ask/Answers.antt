use Rattle.std.proofs.Common.{◌≡◌, true, Some, is_some, if◌then◌else◌, sym, ap, subst, ◌∙◌}
use Rattle.bytecode_format.specs.Questions.{counts_in, question_in}
use Rattle.mail_matching.specs.Questions.{need_of}
use Rattle.mail_matching.specs.declared.questions.Need.TheVariants as need
use Rattle.sieve_vm.specs.Charge.{cost_of_asking}
use Rattle.sieve_vm.specs.Standing.{asked, charged_for, held_of}
use Rattle.sieve_vm.specs.State.{current_part}
use Rattle.sieve_vm.specs.Looks.{HasLooked}
use Rattle.sieve_vm.specs.Visits.{IsFound, sought_for}
use Rattle.sieve_vm.proofs.Looking.{looked_for, looked_in}
use Rattle.sieve_vm.proofs.Tests.{lists_there, holds_now, same_loops}
use Rattle.sieve_vm.proofs.machine.Machine.ask.Goals as goal

pub returns-clause-done : goal.returns-clause-done
returns-clause-done c = λ s top question stands e asks.
    let mail = c.args.message.now in
    let m = c.args.self.now in
    let is : Some c.unwrap-question.result ≡ Some question = sym c.unwrap-question.ensures ∙ c.question_in.ensures ∙ ap (λ ns. question_in ns c.args.test c.args.instruction.now) c.numbers.ensures.value ∙ asks in
    let same : c.unwrap-question.result ≡ question = cc in
    let there = lists_there mail s m stands c.counts_in-counts.result (counts_in c.args.test c.args.instruction.now) top c.counts_in-counts.ensures e in
    let at = c.current-part.ensures ∙ ap current_part stands.frames in
    let told = c.in_ok-cost.ensures top there in
    let costs : c.in_ok-cost.cost ≡ cost_of_asking mail (current_part s.frames) question top = told.0 ∙ ap (λ x. cost_of_asking mail x c.unwrap-question.result top) at ∙ ap (λ q. cost_of_asking mail (current_part s.frames) q top) same in
    let held = told.1 ∙ ap (λ x. asked mail x c.unwrap-question.result top (held_of m.work)) at ∙ ap (λ q. asked mail (current_part s.frames) q top (held_of m.work)) same in (
      ap charged_for costs,
      same_loops mail _ _ (holds_now mail s m stands c.ask.new.self (asked mail (current_part s.frames) question top) held) c.find.new.self c.in_ok-find.ensures.same,
    )

pub returns-clause-held : goal.returns-clause-held
returns-clause-held c = λ question asks needs some.
    let is : Some c.unwrap-question.result ≡ Some question = sym c.unwrap-question.ensures ∙ c.question_in.ensures ∙ ap (λ ns. question_in ns c.args.test c.args.instruction.now) c.numbers.ensures.value ∙ asks in
    let same : c.unwrap-question.result ≡ question = cc in
    let part : is_some c.current-part.result ≡ true = ap is_some c.current-part.ensures ∙ some in
    c.in_ok-find.ensures.content (c.needed-need.ensures ∙ ap (λ b. if b then need_of c.unwrap-question.result else need.Nothing) part ∙ ap need_of same ∙ needs)

pub returns-clause-known : goal.returns-clause-known
returns-clause-known c = λ question asks found.
    let is : Some c.unwrap-question.result ≡ Some question = sym c.unwrap-question.ensures ∙ c.question_in.ensures ∙ ap (λ ns. question_in ns c.args.test c.args.instruction.now) c.numbers.ensures.value ∙ asks in
    let same : c.unwrap-question.result ≡ question = cc in
    let needs : c.needed-need.result ≡ (if is_some (current_part c.args.self.now.loops.frames) then need_of question else need.Nothing) =
    c.needed-need.ensures ∙ ap (λ at. if is_some at then need_of c.unwrap-question.result else need.Nothing) c.current-part.ensures ∙ ap (λ q. if is_some (current_part c.args.self.now.loops.frames) then need_of q else need.Nothing) same in
    c.in_ok-find.ensures.known (subst (λ n. IsFound n c.args.self.now.loops) (sym needs) found)

pub returns-clause-looked : goal.returns-clause-looked
returns-clause-looked c = λ question asks.
    let is : Some c.unwrap-question.result ≡ Some question = sym c.unwrap-question.ensures ∙ c.question_in.ensures ∙ ap (λ ns. question_in ns c.args.test c.args.instruction.now) c.numbers.ensures.value ∙ asks in
    let same : c.unwrap-question.result ≡ question = cc in
    let old = c.args.self.now.loops in
    let new = c.find.new.self in
    let needs : c.needed-need.result ≡ (if is_some (current_part old.frames) then need_of question else need.Nothing) =
    c.needed-need.ensures ∙ ap (λ at. if is_some at then need_of c.unwrap-question.result else need.Nothing) c.current-part.ensures ∙ ap (λ q. if is_some (current_part old.frames) then need_of q else need.Nothing) same in
    looked_in old new c.in_ok-find.ensures.same (need_of question)
    (subst (λ n. HasLooked (sought_for n) old new) needs (looked_for old new c.in_ok-find.ensures.same c.needed-need.result c.in_ok-find.ensures.found c.in_ok-find.ensures.known))
