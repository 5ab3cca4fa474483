use Rattle.std.proofs.Common.{◌≡◌, ◌+◌, ◌++◌, ◌≤◌, length, drop, subst, None, Some, arith}
use Rattle.std.proofs.lemmas.List.{length-append, length-drop, length-map, length-take-le}
use Rattle.std.specs.Char.{to_ascii_uppercase}
use Rattle.memchr.specs.Find.{FindsNeedle}
use Rattle.glob_match.specs.declared.comparator.Comparator.TheVariants.{Casemap}
use Rattle.glob_match.specs.Comparison.{compared}
use Rattle.glob_match.proofs.Occurs.{folded_window, window_some, window_none}
use Rattle.glob_match.proofs.search.find_in_windows.Goals as goal

pub returns-in-Some : goal.returns-in-Some
returns-in-Some c =
    let value = c.args.value.now in
    let start = c.windows.start in
    let n = c.min-octets.result in
    let within : start + n ≤ length value = omega (arith, c.min-octets.ensures, c.windows.invariant.0) in
    let window = folded_window value c.windows.window c.fold.new.folded start n within c.fold.ensures in
    let within_compared : start + n ≤ length (compared Casemap value) = omega (arith, length-map value to_ascii_uppercase) in
    window_some (compared Casemap value) c.args.finder.now start n within_compared c.in-Some.place
    (subst (λ v. FindsNeedle v c.args.finder.now 0 (Some c.in-Some.place)) window c.in-Some.ensures) c.windows.invariant.1

pub returns-then-start-octets : goal.returns-then-start-octets
returns-then-start-octets c = λ k low high occurs.
    let value = c.args.value.now in
    let start = c.windows.start in
    let n = c.min-octets.result in
    let within : start + n ≤ length value = omega (arith, c.min-octets.ensures, c.windows.invariant.0) in
    let window = folded_window value c.windows.window c.fold.new.folded start n within c.fold.ensures in
    let within_compared : start + n ≤ length (compared Casemap value) = omega (arith, length-map value to_ascii_uppercase) in
    window_none (compared Casemap value) c.args.finder.now start n within_compared
    (subst (λ v. FindsNeedle v c.args.finder.now 0 None) window c.in_default.ensures) c.windows.invariant.1
    k (omega (arith, occurs.fits, length-map value to_ascii_uppercase, c.if-start-octets.true)) occurs

pub windows-preserved : goal.windows-preserved
windows-preserved c =
    let value = c.args.value.now in
    let start = c.windows.start in
    let n = c.min-octets.result in
    let within : start + n ≤ length value = omega (arith, c.min-octets.ensures, c.windows.invariant.0) in
    let window = folded_window value c.windows.window c.fold.new.folded start n within c.fold.ensures in
    let within_compared : start + n ≤ length (compared Casemap value) = omega (arith, length-map value to_ascii_uppercase) in
    let room : n ≤ length c.windows.window = omega (arith, c.min-octets.ensures, c.windows.invariant.3) in
    let kept : length (c.fold.new.folded ++ drop n c.windows.window) ≡ length c.windows.window =
    omega (arith, length-append c.fold.new.folded (drop n c.windows.window), length-drop n c.windows.window, c.fold.auto.folded, length-take-le n c.windows.window room) in (
      omega (arith, c.requires.some),
      λ k low high occurs.
          window_none (compared Casemap value) c.args.finder.now start n within_compared
          (subst (λ v. FindsNeedle v c.args.finder.now 0 None) window c.in_default.ensures) c.windows.invariant.1
          k (omega (arith, occurs.fits, c.requires.text)) occurs,
      omega (arith, kept, c.windows.invariant.2, c.windows.invariant.3),
      omega (arith, kept),
    )
