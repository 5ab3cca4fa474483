use Rattle.std.proofs.Common.{◌≡◌, ◌≤◌, ◌∙◌, ◌∷◌, ap, sym, length, map, take, drop, arith}
use Rattle.std.specs.Simd.Lanes.{zip2}
use Rattle.glob_match.specs.Comparison.{compared_octet}
use Rattle.glob_match.specs.Containment.{begins_with}
use Rattle.glob_match.specs.Segments.{kept_if, marked}
use Rattle.glob_match.proofs.Marks.{marked_any, marked_literal, other_token}
use Rattle.glob_match.proofs.lanes.kept_by.Goals as goal

pub returns-in_default-clause-marks : goal.returns-in_default-clause-marks
returns-in_default-clause-marks c = λ key.
    let octets = c.args.octets.now in
    let any = other_token c.args.token c.in_default.not-Literal c.requires.no_star in
    ap (λ token. marked (begins_with c.args.comparator (token ∷ key)) c.args.kept octets) any
    ∙ marked_any c.args.comparator key c.args.kept octets (omega (arith, c.fits-kept.0, c.requires.room))

pub returns-clause-marks : goal.returns-clause-marks
returns-clause-marks c = λ key.
    let octets = c.args.octets.now in
    let literal = c.in-Literal.literal in
    let comparator = c.args.comparator in
    let long : length c.args.kept ≤ length octets = omega (arith, c.fits-kept.0, c.requires.room) in
    let lanes : c.compared_lanes.result ≡ map (compared_octet comparator) (take (length c.args.kept) octets) =
    c.compared_lanes.ensures ∙ ap (map (compared_octet comparator)) c.in-Some.ensures.cases.same
    ∙ ap (λ n. map (compared_octet comparator) (take n octets)) (sym c.fits-kept.0) in
    let marks : c.kept_where.result ≡ zip2 (kept_if (compared_octet comparator literal)) (map (compared_octet comparator) (take (length c.args.kept) octets)) c.args.kept =
    c.kept_where.ensures ∙ ap (λ x. zip2 (kept_if x) c.compared_lanes.result c.args.kept) c.compared.ensures
    ∙ ap (λ xs. zip2 (kept_if (compared_octet comparator literal)) xs c.args.kept) lanes in
    ap (λ token. marked (begins_with comparator (token ∷ key)) c.args.kept octets) c.in-Literal.is
    ∙ marked_literal comparator key literal c.args.kept octets long
    ∙ ap (λ marks. marked (begins_with comparator key) marks (drop 1 octets)) (sym marks)
