use Rattle.std.proofs.Common.{subst, ◌<◌, take_all, ◌≡◌, ◌≤◌, ◌+◌, ◌-◌, ◌*◌, ◌++◌, ap, ◌∙◌, sym, arith, length, take, drop, map, get_or, replicate, not, eqb, List, ℕ, ◌<◌}
use Rattle.std.specs.Simd.Lanes.{mask_l}
use Rattle.std.specs.Int.RustNames.{count_ones}
use Rattle.std.proofs.lemmas.List.{length-append, length-take, length-drop}
use Rattle.octet_lanes.specs.Encoding.{stray, values_among}
use Rattle.octet_lanes.specs.Private.{order_of}
use Rattle.octet_lanes.proofs.Closing.{closed_group, count_group, few_bits, few_values, eight_more, group_of, written_after, lanes_closed}
use Rattle.octet_lanes.proofs.close.close_up.Goals as goal

pub in_order-requires : goal.in_order-requires
in_order-requires c =
    let xs = c.args.classes.now in
    let i = c.loop-eighth.eighth in
    let long : length (take 8 (drop (i * 8) xs)) ≡ 8 = omega (arith, length-take 8 (drop (i * 8) xs), length-drop (i * 8) xs, c.told-classes, c.loop-eighth-test.true) in
    let bits : c.values_in-values.result ≡ mask_l (map (λ class. not (eqb class stray)) (take 8 (drop (i * 8) xs) ++ replicate 8 stray)) =
    c.values_in-values.ensures ∙ ap (λ g. mask_l (map (λ class. not (eqb class stray)) g)) (group_of xs c.eights-groups.result c.eights-groups.ensures i c.loop-eighth-test.true) in
    subst (λ m. m < 256) (sym bits) (few_bits (take 8 (drop (i * 8) xs)) long)

pub loop-eighth-preserved : goal.loop-eighth-preserved
loop-eighth-preserved c =
    let xs = c.args.classes.now in
    let i = c.loop-eighth.eighth in
    let n = c.loop-eighth.n in
    let l = c.loop-eighth.invariant in
    let group = take 8 (drop (i * 8) xs) in
    let within : i < 4 = c.loop-eighth-test.true in
    let long : length group ≡ 8 = omega (arith, length-take 8 (drop (i * 8) xs), length-drop (i * 8) xs, c.told-classes) in
    let is_group = group_of xs c.eights-groups.result c.eights-groups.ensures i within in
    let few : length (values_among group) ≤ 8 = omega (arith, few_values group) in
    let counted : count_ones c.values_in-values.result ≡ length (values_among group) = ap count_ones (c.values_in-values.ensures ∙ ap (λ g. mask_l (map (λ class. not (eqb class stray)) g)) is_group) ∙ count_group group in
    let more = eight_more xs i in
    let ordered : c.in_order.result ≡ values_among group ++ replicate (16 - length (values_among group)) stray =
    c.in_order.ensures
    ∙ (λ j. map (get_or_at (is_group j)) (order_of (c.values_in-values.ensures j)))
    ∙ ap (λ g. map (λ place. get_or (group ++ replicate 8 stray) place 0) (order_of (mask_l (map (λ class. not (eqb class stray)) g)))) is_group
    ∙ closed_group group long in
    let written = written_after (values_among (take (i * 8) xs)) (values_among group) n l.number (omega (arith, l.room)) few in
    let sum : n + count_ones c.values_in-values.result ≡ n + length (values_among group) = ap (λ k. n + k) counted in
    record {
      number = sum ∙ ap (λ k. k + length (values_among group)) l.number ∙ sym (length-append (values_among (take (i * 8) xs)) (values_among group)) ∙ ap length (sym more);
      room = omega (arith, sum, few, l.room);
      closed = c.put.ensures
          ∙ (λ j. take n (l.closed j) ++ (ordered j ++ drop (n + 16) (l.closed j)))
          ∙ written
          ∙ (λ j. sym more j ++ replicate (40 - sym sum j) stray);
    }
  where
    get_or_at : List ℕ → ℕ → ℕ
    get_or_at lanes place = get_or lanes place 0

pub returns-clause-lanes : goal.returns-clause-lanes
returns-clause-lanes c =
    let xs = c.args.classes.now in
    let l = c.loop-eighth.invariant in
    let end : c.loop-eighth.eighth * 8 ≡ 32 = omega (arith, c.loop-eighth.auto.eighth-end, c.loop-eighth-test.false) in
    let all : values_among (take (c.loop-eighth.eighth * 8) xs) ≡ values_among xs = ap (λ n. values_among (take n xs)) end ∙ ap values_among (take_all 32 xs (omega (arith, c.told-classes))) in
    ap (take 32) (l.closed ∙ ap (λ values. values ++ replicate (40 - c.loop-eighth.n) stray) all) ∙ lanes_closed (values_among xs) c.loop-eighth.n (l.number ∙ ap length all) (omega (arith, l.room, end))
