use Rattle.std.proofs.Common.{◌-◌, ◌<◌, arith, length, vec_len}
use Rattle.mime_tree.proofs.Among.{among_at}
use Rattle.mime_tree.proofs.reader.end_parts.Goals as goal

pub end_part-requires : goal.end_part-requires
end_part-requires c =
    let opened = c.args.opened.now in
    let within : c.inner.left - 1 < length opened.items = omega (arith, c.inner-test.true, c.inner.invariant.high, opened.ok.0) in
    omega (arith, among_at (vec_len c.args.parts.now) opened.items (c.inner.left - 1) c.index.result.now c.requires.among within c.index.ensures, c.at.ensures, c.inner.invariant.len)
