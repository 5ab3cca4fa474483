use Rattle.std.proofs.Common.{◌≡◌, ◌≤◌, reverse, length, drop, ap, ◌∙◌, ◌-◌, List, take, get_or, arith}
use Rattle.sieve_vm.specs.declared.frame.Frame as code
use Rattle.sieve_vm.specs.State.{Frame}
use Rattle.sieve_vm.specs.Looks.{Visits}
use Rattle.sieve_vm.specs.Visits.{frame_of, frames_of, held_in}
use Rattle.std.proofs.lemmas.List.{length-map, length-reverse}
use Rattle.sieve_vm.proofs.Contents.{held_after, held_left}
use Rattle.sieve_vm.proofs.Visiting.{closes}
use Rattle.sieve_vm.proofs.loops.Loops.close.Goals as goal

pub returns-clause-closes : goal.returns-clause-closes
returns-clause-closes c = λ frame frames e.
    let items = c.self.inside.frames.items in
    let view_is = c.self.view_is ∙ c.let_go.ensures in
    let frames_are = ap (λ (v : Visits). v.frames) view_is in
    let there : c.args.number ≤ length items = omega (arith, c.requires.there, ap length frames_are, length-map (reverse items) frame_of, length-reverse items) in
    let is = closes items c.args.number frame frames c.requires.some there (ap (drop (c.args.number - 1)) frames_are ∙ e) in
    let held_are = ap (λ (v : Visits). v.held) view_is in
    let held_is = ap (drop c.args.number) held_are ∙ held_after c.args.self.now.held c.args.number c.requires.some in
    let place : c.len.result - c.args.number ≡ length items - c.args.number = ap (λ n. n - c.args.number) c.len.ensures.value in (
      ap (λ (xs : List code.Frame). (get_or xs (c.len.result - c.args.number) c.index-deref-left.result).next) c.deref.ensures.0 ∙ ap (λ n. (get_or items n c.index-deref-left.result).next) place ∙ ap (λ (f : Frame). f.next) (is.last c.index-deref-left.result),
      λ i. let v : Visits = record { mail = (view_is i).mail; frames = (ap frames_of c.truncate.ensures.items ∙ ap (λ n. frames_of (take n items)) place ∙ is.left) i; held = (ap held_in c.truncate.ensures.items ∙ ap (λ n. held_in (take n items)) place ∙ held_left items c.args.number there ∙ held_is) i; lengths = (view_is i).lengths; digests = (view_is i).digests; beginnings = (view_is i).beginnings } in v,
    )
