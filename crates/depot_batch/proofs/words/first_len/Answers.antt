use Rattle.std.proofs.Common.{◌≡◌, ◌∙◌, ◌+◌, suc, arith, subst, sym, drop, false}
use Rattle.depot_batch.specs.Words.{texts_from}
use Rattle.depot_batch.specs.Private.{parted_at}
use Rattle.depot_batch.proofs.WordLemmas.{at_end, at_gap, from_place, nothing_from, one_more}
use Rattle.depot_batch.proofs.words.first_len.Goals as goal

pub returns-then-is_gap-clause-first : goal.returns-then-is_gap-clause-first
returns-then-is_gap-clause-first c =
    let octets = c.args.octets.now in
    let len = c.octets.len in
    subst (λ n. texts_from false octets ≡ parted_at n octets) (let e : len + 0 ≡ len = omega arith in e)
    (c.octets.invariant.first 0 (from_place (λ rest. texts_from c.octets.quoted rest ≡ parted_at 0 rest) octets len c.octets-test.true
    (at_gap c.octets.quoted _ (drop (len + 1) octets) (sym c.is_gap.ensures ∙ c.if-is_gap.true))))

pub octets-preserved : goal.octets-preserved
octets-preserved c =
    let octets = c.args.octets.now in
    let len = c.octets.len in
    record {
      bound = omega (arith, c.octets-test.true);
      first = λ more later. subst (λ n. texts_from false octets ≡ parted_at n octets) (let e : len + suc more ≡ len + 1 + more = omega arith in e)
          (c.octets.invariant.first (suc more) (from_place (λ rest. texts_from c.octets.quoted rest ≡ parted_at (suc more) rest) octets len c.octets-test.true
          (one_more c.octets.quoted _ (drop (len + 1) octets) more (sym c.is_gap.ensures ∙ c.if-is_gap.false) (rw c.is_quoted_after-quoted.ensures at later))));
    }

pub returns-clause-first : goal.returns-clause-first
returns-clause-first c =
    let octets = c.args.octets.now in
    let len = c.octets.len in
    subst (λ n. texts_from false octets ≡ parted_at n octets) (let e : len + 0 ≡ len = omega arith in e)
    (c.octets.invariant.first 0 (at_end c.octets.quoted (drop len octets) (nothing_from octets len c.octets-test.false)))
