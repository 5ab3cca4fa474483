use Rattle.std.proofs.Common.{◌≡◌, ◌∙◌, Some, slice_get, get_or, sym, ap, subst, arith}
use Rattle.std.proofs.lemmas.Option.{slice_get-get_or}
use Rattle.sieve_vm.specs.Machine.{step}
use Rattle.sieve_vm.specs.Going.{StandsFor}
use Rattle.sieve_vm.proofs.Steps.{no_instruction, place_within, operation_there, steps_to, charge_fits_in}
use Rattle.bytecode_format.specs.declared.instruction.Instruction.{Instruction}
use Rattle.bytecode_format.specs.Operations.{operation_of}
use Rattle.sieve_vm.specs.Looks.{HasLooked}
use Rattle.sieve_vm.specs.Visits.{sought_by}
use Rattle.sieve_vm.proofs.machine.Machine.advance.Goals as goal

pub bounds-instructions-position : goal.bounds-instructions-position
bounds-instructions-position c = rw c.instructions.ensures.value (place_within c.args.program.now c.args.message.now c.requires.accepted c.requires.mail c.args.position c.args.self.now c.requires.running.0 c.requires.running.1)

pub offset_bounds-instructions-position : goal.offset_bounds-instructions-position
offset_bounds-instructions-position c =
    let within = place_within c.args.program.now c.args.message.now c.requires.accepted c.requires.mail c.args.position c.args.self.now c.requires.running.0 c.requires.running.1 in
    omega (arith, within, c.instructions.ensures.program.instructions)

pub unwrap-operation-requires : goal.unwrap-operation-requires
unwrap-operation-requires c =
    let within = place_within c.args.program.now c.args.message.now c.requires.accepted c.requires.mail c.args.position c.args.self.now c.requires.running.0 c.requires.running.1 in
    let i = get_or c.instructions.result.now c.args.position.place no_instruction in
    let here : slice_get c.args.program.now.instructions c.args.position.place ≡ Some i =
    slice_get-get_or c.args.program.now.instructions c.args.position.place no_instruction within ∙ ap (λ xs. Some (get_or xs c.args.position.place no_instruction)) (sym c.instructions.ensures.value) in
    rw c.of.ensures (operation_there c.args.program.now c.args.message.now c.requires.accepted c.requires.mail c.args.position c.args.self.now c.requires.running.0 c.requires.running.1 i here)

pub act-requires-clause-here : goal.act-requires-clause-here
act-requires-clause-here c =
    slice_get-get_or c.args.program.now.instructions c.args.position.place no_instruction (place_within c.args.program.now c.args.message.now c.requires.accepted c.requires.mail c.args.position c.args.self.now c.requires.running.0 c.requires.running.1)
    ∙ ap (λ xs. Some (get_or xs c.args.position.place no_instruction)) (sym c.instructions.ensures.value)

pub after-requires-clause-place : goal.after-requires-clause-place
after-requires-clause-place c =
    let within = place_within c.args.program.now c.args.message.now c.requires.accepted c.requires.mail c.args.position c.args.self.now c.requires.running.0 c.requires.running.1 in
    omega (arith, within, c.instructions.ensures.program.instructions)

pub after-requires-clause-charged : goal.after-requires-clause-charged
after-requires-clause-charged c =
    let within = place_within c.args.program.now c.args.message.now c.requires.accepted c.requires.mail c.args.position c.args.self.now c.requires.running.0 c.requires.running.1 in
    let i = get_or c.instructions.result.now c.args.position.place no_instruction in
    let here : slice_get c.args.program.now.instructions c.args.position.place ≡ Some i =
    slice_get-get_or c.args.program.now.instructions c.args.position.place no_instruction within ∙ ap (λ xs. Some (get_or xs c.args.position.place no_instruction)) (sym c.instructions.ensures.value) in
    charge_fits_in c.args.program.now c.args.message.now c.requires.accepted c.requires.mail c.args.position c.args.self.now c.requires.running.0 c.requires.running.1 i here c.unwrap-operation.result
    (sym c.of.ensures ∙ c.unwrap-operation.ensures) c.in_ok-done.done c.act.new.self (c.in_ok-done.ensures.done c.requires.running.0 c.requires.running.1) c.instructions.ensures.program

pub returns-clause-stands : goal.returns-clause-stands
returns-clause-stands c = λ s at.
    let within = place_within c.args.program.now c.args.message.now c.requires.accepted c.requires.mail c.args.position c.args.self.now s at in
    let i = get_or c.instructions.result.now c.args.position.place no_instruction in
    let here : slice_get c.args.program.now.instructions c.args.position.place ≡ Some i =
    slice_get-get_or c.args.program.now.instructions c.args.position.place no_instruction within ∙ ap (λ xs. Some (get_or xs c.args.position.place no_instruction)) (sym c.instructions.ensures.value) in
    subst (λ turn. StandsFor c.args.message.now (step c.args.program.now c.args.message.now s) turn c.act.new.self) (sym c.after.ensures)
    (steps_to c.args.program.now c.args.message.now c.requires.accepted c.requires.mail c.args.position c.args.self.now s at i here c.unwrap-operation.result
    (sym c.of.ensures ∙ c.unwrap-operation.ensures) c.in_ok-done.done c.act.new.self (c.in_ok-done.ensures.done s at))

pub returns-clause-looked : goal.returns-clause-looked
returns-clause-looked c = λ instruction operation there named.
    let within = place_within c.args.program.now c.args.message.now c.requires.accepted c.requires.mail c.args.position c.args.self.now c.requires.running.0 c.requires.running.1 in
    let i = get_or c.instructions.result.now c.args.position.place no_instruction in
    let here : slice_get c.args.program.now.instructions c.args.position.place ≡ Some i =
    slice_get-get_or c.args.program.now.instructions c.args.position.place no_instruction within ∙ ap (λ xs. Some (get_or xs c.args.position.place no_instruction)) (sym c.instructions.ensures.value) in
    let same : i ≡ instruction = (let both : Some i ≡ Some instruction = sym here ∙ there in cc) in
    let does : c.unwrap-operation.result ≡ operation =
    (let both : Some c.unwrap-operation.result ≡ Some operation = sym (sym c.of.ensures ∙ c.unwrap-operation.ensures) ∙ ap (λ (x : Instruction). operation_of x.op) same ∙ named in cc) in
    subst (λ (x : Instruction). HasLooked (sought_by c.args.program.now.numbers operation x) c.args.self.now.loops c.act.new.self.loops) same
    (subst (λ o. HasLooked (sought_by c.args.program.now.numbers o i) c.args.self.now.loops c.act.new.self.loops) does c.in_ok-done.ensures.looked)
