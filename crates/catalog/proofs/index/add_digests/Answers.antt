use Rattle.std.proofs.Common.{◌<◌, [], ℕ, List, ap, ◌∙◌, sym, arith, get_or, length}
use Rattle.std.specs.BTreeMap.{get}
use Rattle.std.specs.List.{slice_get}
use Rattle.std.specs.Option.{option_and_then}
use Rattle.std.specs.Ordering.{nat_cmp}
use Rattle.std.proofs.lemmas.List.{take_all}
use Rattle.catalog.specs.Index.{found}
use Rattle.catalog.specs.Stored.{stored_place}
use Rattle.catalog.proofs.SlotLemmas.{messages_kept, messages_put, part_place}
use Rattle.catalog.proofs.index.add_digests.Goals as goal
use Rattle.catalog.proofs.index.add_digests.Goals.{then-branch+in_ok-put, else-branch}

pub returns-clause-places : goal.returns-clause-places
returns-clause-places c = λ entries is at.
    (c.loop-part.invariant entries is).0 at
    ∙ ap (λ ds. option_and_then (stored_place ds) (slice_get entries at)) (take_all c.loop-part.part c.args.digests.now (omega (arith, c.loop-part-test.false)))

pub loop-part-preserved : goal.loop-part-preserved
loop-part-preserved c = λ entries is.
    let part : ℕ = c.loop-part.part in
    let digests : List (List ℕ) = c.args.digests.now in
    let lt : part < length digests = omega (arith, c.loop-part-test.true) in
    let so_far = c.loop-part.invariant entries is in
    let slots = c.found.ensures ∙ is (get_or digests part []) in
    let new = c.in_ok-add_part.ensures.new in (
      λ at. c.in_ok-add_part.ensures.places at ∙ part_place part digests entries (get nat_cmp c.loop-part.places) c.found.result.now lt slots so_far.0 at,
      λ other stored. elim c.if-branch.branch [
        | then-branch+in_ok-put w ↦
            messages_put c.args.number part digests entries (get nat_cmp c.loop-part.places) c.found.result.now lt slots so_far.0 other stored (found c.args.messages.now other)
            (found c.loop-part.messages other) (so_far.1 other stored) (found c.if-branch.messages other) (sym new ∙ w.if-branch.true)
            (ap (λ m. found m other) w.messages-is ∙ w.in_ok-put.ensures other)
        | else-branch w ↦
            messages_kept c.args.number part digests entries (get nat_cmp c.loop-part.places) c.found.result.now lt slots so_far.0 other stored (found c.args.messages.now other)
            (found c.loop-part.messages other) (so_far.1 other stored) (found c.if-branch.messages other) (sym new ∙ w.if-branch.false)
            (ap (λ m. found m other) w.messages-is)
      ],
    )
