use Rattle.std.proofs.Common.{◌≡◌, ◌<◌, ◌-◌, ◌+◌, subst, arith}
use Rattle.volumes.specs.Places.{lasts_of}
use Rattle.volumes.proofs.Applied.{keeps_then}
use Rattle.volumes.proofs.Halving.{HasHalved, between_all, earlier_half, few_asked, half_asked, lasts_long, later_half, never_fall, none_asked, place_found}
use Rattle.volumes.proofs.Sought.{last_indexed}
use Rattle.volumes.proofs.searching.place_of.Goals as goal

pub halves-init : goal.halves-init
halves-init g c =
    let k = g.V.Volumes.holding in
    let all : c.args.count ≡ c.args.count - 0 = omega arith in
    record {
      keeps = record { same = λ sound vs holds. holds; sound = λ sound. sound };
      order = omega arith;
      within = omega arith;
      between = λ sound vs holds are there. between_all c.args.count c.args.number (lasts_of c.args.user.now vs);
      halved = subst (λ width. HasHalved c.args.count width (k.opened c.args.volumes.now) (k.opened c.args.volumes.now)) all (none_asked c.args.count (k.opened c.args.volumes.now));
    }

pub returns-in_err-last_at-clause-keeps : goal.returns-in_err-last_at-clause-keeps
returns-in_err-last_at-clause-keeps g c =
    keeps_then g.V.Volumes.holding c.args.volumes.now c.halves.volumes c.last_at.new.volumes c.halves.invariant.keeps c.last_at.ensures.keeps

pub returns-in_err-last_at-clause-few : goal.returns-in_err-last_at-clause-few
returns-in_err-last_at-clause-few g c =
    let opened = g.V.Volumes.holding.opened in
    let wide : 0 < c.halves.high - c.halves.low = omega (arith, c.halves-test.true) in
    few_asked c.args.count 0 (opened c.args.volumes.now) (opened c.last_at.new.volumes)
    (half_asked c.args.count (c.halves.high - c.halves.low) 0 (opened c.args.volumes.now) (opened c.halves.volumes) (opened c.last_at.new.volumes)
    c.halves.invariant.halved wide (omega arith) c.last_at.ensures.counted)

pub halves-preserved-then-branch-number : goal.halves-preserved-then-branch-number
halves-preserved-then-branch-number g c =
    let k = g.V.Volumes.holding in
    let before = c.halves.invariant in
    let low = c.halves.low in
    let high = c.halves.high in
    let middle = c.middle_of-middle.result in
    let wide : 0 < high - low = omega (arith, c.halves-test.true) in
    let within = c.middle_of-middle.ensures.within in
    record {
      keeps = keeps_then k c.args.volumes.now c.halves.volumes c.last_at.new.volumes before.keeps c.last_at.ensures.keeps;
      order = omega (arith, within.1);
      within = before.within;
      between = λ sound vs holds are there.
          let earlier = c.last_at.ensures.keeps.sound sound in
          let last = last_indexed k c.halves.volumes c.last_at.new.volumes c.args.user.now middle _ c.in_ok-last_at.ensures.last sound vs (before.keeps.same earlier vs holds) (omega (arith, within.1, before.within, there)) in
          later_half c.args.count c.args.number (lasts_of c.args.user.now vs) (never_fall c.args.user.now vs are) (omega (arith, there, lasts_long c.args.user.now vs)) low middle high (before.between earlier vs holds are there) within.0 within.1 (omega (arith, c.if-branch-number.true, last));
      halved = half_asked c.args.count (high - low) (high - (middle + 1)) (k.opened c.args.volumes.now) (k.opened c.halves.volumes) (k.opened c.last_at.new.volumes)
          before.halved wide c.middle_of-middle.ensures.halves.1 c.last_at.ensures.counted;
    }

pub halves-preserved : goal.halves-preserved
halves-preserved g c =
    let k = g.V.Volumes.holding in
    let before = c.halves.invariant in
    let low = c.halves.low in
    let high = c.halves.high in
    let middle = c.middle_of-middle.result in
    let wide : 0 < high - low = omega (arith, c.halves-test.true) in
    let within = c.middle_of-middle.ensures.within in
    record {
      keeps = keeps_then k c.args.volumes.now c.halves.volumes c.last_at.new.volumes before.keeps c.last_at.ensures.keeps;
      order = within.0;
      within = omega (arith, within.1, before.within);
      between = λ sound vs holds are there.
          let earlier = c.last_at.ensures.keeps.sound sound in
          let last = last_indexed k c.halves.volumes c.last_at.new.volumes c.args.user.now middle _ c.in_ok-last_at.ensures.last sound vs (before.keeps.same earlier vs holds) (omega (arith, within.1, before.within, there)) in
          earlier_half c.args.count c.args.number (lasts_of c.args.user.now vs) (never_fall c.args.user.now vs are) (omega (arith, there, lasts_long c.args.user.now vs)) low middle high (before.between earlier vs holds are there) within.0 within.1 (omega (arith, c.if-branch-number.false, last));
      halved = half_asked c.args.count (high - low) (middle - low) (k.opened c.args.volumes.now) (k.opened c.halves.volumes) (k.opened c.last_at.new.volumes)
          before.halved wide c.middle_of-middle.ensures.halves.0 c.last_at.ensures.counted;
    }

pub returns-clause-place : goal.returns-clause-place
returns-clause-place g c = λ sound vs holds are there.
    place_found c.args.count c.args.number (lasts_of c.args.user.now vs) c.halves.low c.halves.high (c.halves.invariant.between sound vs holds are there) (omega (arith, c.halves-test.false))

pub returns-clause-few : goal.returns-clause-few
returns-clause-few g c =
    few_asked c.args.count (c.halves.high - c.halves.low) (g.V.Volumes.holding.opened c.args.volumes.now) (g.V.Volumes.holding.opened c.halves.volumes) c.halves.invariant.halved
