use Rattle.std.proofs.Common.{arith}
use Rattle.lanes_base64_mime.proofs.Rooms.{encoding_fits}
use Rattle.lanes_base64_mime.proofs.encode.text_room.Goals as goal

pub returns-clause-enough : goal.returns-clause-enough
returns-clause-enough c = omega (arith, encoding_fits c.args.octets.now)
