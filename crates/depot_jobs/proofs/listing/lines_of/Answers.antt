use Rattle.std.proofs.Common.{◌≡◌, ◌+◌, ◌++◌, ℕ, suc, arith, drop, subst}
use Rattle.depot_jobs.specs.Printed.{parts_text, parts_text_from}
use Rattle.depot_jobs.proofs.ListingLemmas.{next_line}
use Rattle.depot_jobs.proofs.listing.lines_of.Goals as goal

pub parts-preserved : goal.parts-preserved
parts-preserved c =
    let parts = c.args.message.now.parts in
    let here = c.parts-part-end.ensures.value in
    let lt = c.parts-test.true in
    let next : suc c.parts.part ≡ c.parts.part + 1 = omega arith in
    subst (λ (n : ℕ). c.add_part.new.text.items ++ parts_text_from n (drop n parts) ≡ parts_text parts) next
    (next_line c.parts.text.items c.add_part.new.text.items (parts_text parts) c.parts.part c.parts.part parts (omega (arith, here, lt)) c.in_ok-add_part.ensures c.parts.invariant)
