use Rattle.std.proofs.Common.{arith, ◌∷◌, []}
use Rattle.octet_lanes.proofs.Closing.{eight_of}
use Rattle.octet_lanes.proofs.close.eights.Goals as goal

pub returns : goal.returns
returns c = λ i. eight_of c.args.classes c.fits-classes.0 0 (omega arith) i ∷ eight_of c.args.classes c.fits-classes.0 8 (omega arith) i ∷ eight_of c.args.classes c.fits-classes.0 16 (omega arith) i ∷ eight_of c.args.classes c.fits-classes.0 24 (omega arith) i ∷ []
