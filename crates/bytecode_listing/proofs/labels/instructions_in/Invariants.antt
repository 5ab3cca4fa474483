use Rattle.std.proofs.Common.{◌≡◌, drop}
use Rattle.bytecode_listing.specs.Labels.{instructions_of}
use Rattle.bytecode_listing.proofs.Resolving.{after}
use Rattle.bytecode_listing.proofs.labels.instructions_in.Given as goal

abbrev pub invariant-lines : goal.invariant-lines
invariant-lines l = after l.instructions.items (instructions_of l.strings l.lines (drop l.line-index l.lines)) ≡ instructions_of l.strings l.lines l.lines
