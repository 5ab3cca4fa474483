use Rattle.std.proofs.Common.{ap, arith, rules, slice_get, subst, sym, ◌∙◌}
use Rattle.std.specs.List.{AllByRecursion, AllZip}
use Rattle.part_store.specs.Readings.{IsReadable, Shows}
use Rattle.part_store.proofs.Runs.{passed}
use Rattle.part_store.proofs.Siblings.{all_at, all_read, none_ok, one_read}
use Rattle.part_store.proofs.listing.sharing_in.Goals as goal

pub loop-row-preserved : goal.loop-row-preserved
loop-row-preserved c =
    let at = c.len-place.ensures ∙ c.loop-row.invariant.number in
    record {
      number = omega (arith, c.in_ok-push.ensures.len, c.loop-row.invariant.number);
      so_far = one_read c.deref-row-items.result.now c.loop-row.row-index c.row-item.result c.loop-row.sharing.items c.push.new.self.items c.in_ok-one.one c.loop-row.firsts c.sharing_row.new.firsts c.loop-row-test.true c.row-item.is
          c.in_ok-push.ensures.items c.loop-row.invariant.so_far
          (λ db xs x single firsts there shows. c.in_ok-one.ensures.shown db xs x single firsts (ap (slice_get xs) at ∙ there) shows)
          (λ db xs x firsts there shows. c.in_ok-one.ensures.noted db xs x firsts (ap (slice_get xs) at ∙ there) shows);
    }

pub returns : goal.returns
returns c = record {
  shown = λ db xs single zipped.
      all_read c.deref-row-items.result.now c.loop-row.row-index c.loop-row.sharing.items c.loop-row.firsts c.loop-row-test.false c.loop-row.invariant.so_far db xs single
      (subst (λ rows. AllZip (Shows db) rows xs) (sym c.deref-row-items.ensures.value) zipped);
  refused = search rules;
  cause = search rules;
}

pub returns-in_err-one : goal.returns-in_err-one
returns-in_err-one c =
    let told = c.from_residual-in_err-one.ensures.1 in
    record {
      shown = none_ok c.from_residual-in_err-one.result _ _ told;
      refused = passed c.from_residual-in_err-one.result _ _ told c.in_err-one.ensures.refused;
      cause = passed c.from_residual-in_err-one.result _ _ told (λ is readable.
          c.in_err-one.ensures.cause is
          (all_at IsReadable c.deref-row-items.result.now c.loop-row.row-index c.row-item.result (subst (AllByRecursion IsReadable) (sym c.deref-row-items.ensures.value) readable) c.loop-row-test.true c.row-item.is));
    }
