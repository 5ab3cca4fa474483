use Rattle.std.proofs.Common.{arith}
use Rattle.lanes_base64_mime.proofs.Rooms.{decoding_fits}
use Rattle.lanes_base64_mime.proofs.decode.decoding_room.Goals as goal

pub returns-clause-enough : goal.returns-clause-enough
returns-clause-enough c = omega (arith, decoding_fits c.args.text.now)
