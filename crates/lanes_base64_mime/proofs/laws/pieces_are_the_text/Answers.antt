use Rattle.std.proofs.Common.{arith}
use Rattle.lanes_base64_mime.specs.Pieces.{nothing_kept}
use Rattle.lanes_base64_mime.proofs.Pieces.{kept_in_turn-joined, mime_octets}
use Rattle.lanes_base64_mime.proofs.laws.pieces_are_the_text.Goals as goal

pub returns-clause-octets : goal.returns-clause-octets
returns-clause-octets c = mime_octets

pub returns-clause-left : goal.returns-clause-left
returns-clause-left c = λ pieces. kept_in_turn-joined pieces nothing_kept (omega arith)
