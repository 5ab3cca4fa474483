use Rattle.std.proofs.Common.{◌-◌, drop, arith, append-nil, length-drop, take_all, drop-drop}
use Rattle.std.proofs.lemmas.List.{drop_all}
use Rattle.std.proofs.lemmas.Simd.{put_chunk_is}
use Rattle.octet_lanes.proofs.close.put.Goals as goal

pub returns : goal.returns
returns c =
    let closed = c.args.closed.now in
    let n = c.args.n in
    let long = length-drop n closed in
    rw (take_all (40 - n) (drop n closed) (omega (arith, c.told-closed)), put_chunk_is 0 (drop n closed) c.args.group (omega (arith, c.told-closed, c.fits-group.0)), drop_all (40 - n) (drop n closed) (omega (arith, c.told-closed)), append-nil, c.fits-group.0, drop-drop 16 n closed)
