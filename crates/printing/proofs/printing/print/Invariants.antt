use Rattle.std.proofs.Common.{take}
use Rattle.devices.specs.Pages.{Wrote}
use Rattle.printing.specs.Pieces.{pieces_text}
use Rattle.printing.proofs.printing.print.Given as goal

abbrev pub invariant-pieces : goal.invariant-pieces
invariant-pieces g l = Wrote (pieces_text (take l.piece-index l.pieces)) l.initial.page l.page
