use Rattle.std.proofs.Common.{◌≡◌, ◌++◌, drop}
use Rattle.depot_jobs.specs.Printed.{parts_text, parts_text_from}
use Rattle.depot_jobs.proofs.listing.lines_of.Given as goal

abbrev pub invariant-parts : goal.invariant-parts
invariant-parts l = l.text.items ++ parts_text_from l.part (drop l.part l.message.parts) ≡ parts_text l.message.parts
