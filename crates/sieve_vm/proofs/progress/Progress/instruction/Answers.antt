use Rattle.std.proofs.Common.{◌≡◌, ◌∙◌, Some, slice_get, get_or, sym, ap, subst, arith, true}
use Rattle.std.proofs.lemmas.Option.{slice_get-get_or}
use Rattle.sieve_vm.specs.Moment.{Moment, goes_on, state_at, turn_at}
use Rattle.sieve_vm.proofs.Moments.{going_at, stands_in}
use Rattle.sieve_vm.proofs.Steps.{no_instruction, place_within}
use Rattle.sieve_vm.proofs.progress.Progress.instruction.Goals as goal

pub bounds-instructions-self-inside : goal.bounds-instructions-self-inside
bounds-instructions-self-inside c =
    let p = c.self.inside in
    let on = subst (λ (m : Moment). goes_on (turn_at m) ≡ true) (sym c.self.view_is) c.requires in
    let at = going_at p.program.now p.message.now p.steps p.turn p.machine c.self.inside.stands on in
    rw c.instructions.ensures.value (place_within p.program.now p.message.now c.self.invariant.1 c.self.invariant.2 p.turn.position p.machine at.0 at.2)

pub offset_bounds-instructions-self-inside : goal.offset_bounds-instructions-self-inside
offset_bounds-instructions-self-inside c =
    let p = c.self.inside in
    let on = subst (λ (m : Moment). goes_on (turn_at m) ≡ true) (sym c.self.view_is) c.requires in
    let at = going_at p.program.now p.message.now p.steps p.turn p.machine c.self.inside.stands on in
    let within = place_within p.program.now p.message.now c.self.invariant.1 c.self.invariant.2 p.turn.position p.machine at.0 at.2 in
    omega (arith, within, c.instructions.ensures.program.instructions)

pub returns : goal.returns
returns c = λ state e.
    let p = c.self.inside in
    let on = subst (λ (m : Moment). goes_on (turn_at m) ≡ true) (sym c.self.view_is) c.requires in
    let at = going_at p.program.now p.message.now p.steps p.turn p.machine c.self.inside.stands on in
    let there = stands_in p.message.now _ p.turn p.machine state c.self.inside.stands (ap state_at c.self.view_is ∙ e) in
    let within = place_within p.program.now p.message.now c.self.invariant.1 c.self.invariant.2 p.turn.position p.machine at.0 at.2 in
    ap (λ (m : Moment). slice_get m.code.instructions state.place) (sym c.self.view_is)
    ∙ ap (slice_get p.program.now.instructions) (sym there.place)
    ∙ slice_get-get_or p.program.now.instructions p.turn.position.place no_instruction within
    ∙ ap (λ xs. Some (get_or xs p.turn.position.place no_instruction)) (sym c.instructions.ensures.value)
