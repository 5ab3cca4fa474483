use Rattle.std.proofs.Common.{◌≡◌, ◌<◌, ◌≤◌, ◌==◌, ℕ, true, false, cond, not, List, length, map, get_or, refl, sym, ap, ◌∙◌, inl, inr, arith}
use Rattle.std.specs.List.{position_or_len}
use Rattle.std.proofs.lemmas.Bool.{cases_Bool, true≢false}
use Rattle.std.proofs.lemmas.List.{get_or-map, length-map}
use Rattle.std.proofs.lemmas.List.Sums.{fails_before_first, prefix_len-le-length}
use Rattle.octet_lanes.proofs.Lanes.{none_equal, some_equal}
use Rattle.quoted_printable.specs.QuotedPrintable.{stands}
use Rattle.quoted_printable.proofs.lanes.standing_len.Goals as goal

-- what comes before the first octet that is written with digits stands
stand_before : (octets lanes : List ℕ) (n : ℕ) → lanes ≡ map (λ octet. cond (stands octet false) 1 0) octets → n ≡ position_or_len (λ y. y == 0) lanes
    → (n ≤ length octets) × ((i : ℕ) → i < n → stands (get_or octets i 0) false ≡ true)
stand_before octets lanes n is at =
    let few = prefix_len-le-length (λ y. not (y == 0)) lanes in
    let long = ap length is ∙ length-map octets (λ octet. cond (stands octet false) 1 0) in (
      omega (arith, few, long, at),
      λ i lt. elim (cases_Bool (stands (get_or octets i 0) false)) [
        | inl stands ↦ stands
        | inr written ↦
            let below : i < position_or_len (λ y. y == 0) lanes = omega arith in
            let within : i < length octets = omega (arith, few, long, at) in
            let here : get_or lanes i 0 ≡ 0 = ap (λ l. get_or l i 0) is ∙ get_or-map (λ octet. cond (stands octet false) 1 0) octets i 0 0 within ∙ (rw written refl) in
            absurd (true≢false (sym (ap (λ y. y == 0) here) ∙ fails_before_first (λ y. y == 0) lanes i 0 below))
      ],
    )

pub returns-then-written-eq0-clause-stand : goal.returns-then-written-eq0-clause-stand
returns-then-written-eq0-clause-stand c =
    let lanes = c.standing_lanes.result in
    let long = ap length c.standing_lanes.ensures ∙ length-map c.args.octets.now (λ octet. cond (stands octet false) 1 0) ∙ c.told-octets in
    (stand_before c.args.octets.now lanes 32 c.standing_lanes.ensures (none_equal lanes 32 0 long (omega arith) c.if-written-eq0.true)).1

pub returns-clause-few : goal.returns-clause-few
returns-clause-few c =
    let lanes = c.standing_lanes.result in
    let long = ap length c.standing_lanes.ensures ∙ length-map c.args.octets.now (λ octet. cond (stands octet false) 1 0) ∙ c.told-octets in
    let first = stand_before c.args.octets.now lanes _ c.standing_lanes.ensures (some_equal lanes 32 0 long (omega arith) c.if-written-eq0.false) in
    omega (arith, first.0, c.told-octets)

pub returns-clause-stand : goal.returns-clause-stand
returns-clause-stand c =
    let lanes = c.standing_lanes.result in
    let long = ap length c.standing_lanes.ensures ∙ length-map c.args.octets.now (λ octet. cond (stands octet false) 1 0) ∙ c.told-octets in
    (stand_before c.args.octets.now lanes _ c.standing_lanes.ensures (some_equal lanes 32 0 long (omega arith) c.if-written-eq0.false)).1
