use Rattle.std.proofs.Common.{◌≡◌, length}
use Rattle.sieve_check.specs.Reading.{all_lists}
use Rattle.sieve_check.specs.Rules.{strings_of}
use Rattle.sieve_check.proofs.signature.Lists.first_string.Given as goal

abbrev pub invariant-lists : goal.invariant-lists
invariant-lists l = strings_of (all_lists l.lists) ≡ strings_of (all_lists l.self)

abbrev pub decreases-lists : goal.decreases-lists
decreases-lists l = length (all_lists l.lists)
