use Rattle.std.proofs.Common.{not, eqb, arith, w8}
use Rattle.std.proofs.lemmas.Simd.{bitmask_splat}
use Rattle.octet_lanes.proofs.close.values_in.Goals as goal

pub returns : goal.returns
returns c = bitmask_splat w8 (λ x y. not (eqb x y)) c.args.group 16 255 c.fits-group.0 (omega arith)
