use Rattle.std.proofs.Common.{◌≡◌, map, take}
use Rattle.depot_actions.specs.Deliveries.{command_of as asked_of}
use Rattle.depot_batch.specs.Private.{command_of}
use Rattle.depot_batch.proofs.together.deliveries_of.Given as goal

abbrev pub invariant-loop-mail : goal.invariant-loop-mail
invariant-loop-mail l = map asked_of l.deliveries.items ≡ map command_of (take l.mail-index l.mails)
