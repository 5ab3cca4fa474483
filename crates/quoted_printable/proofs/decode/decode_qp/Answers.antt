use Rattle.quoted_printable.proofs.Pending.{reads_whole}
use Rattle.quoted_printable.proofs.decode.decode_qp.Goals as goal

pub returns : goal.returns
returns c =
    reads_whole c.in_ok-out.out.items c.append_known.new.out.items c.append_decoding.new.out.items c.args.text.now c.in_ok-pending.pending.now c.in_ok-out.ensures.items
    c.in_ok-pending.ensures.read c.in_ok-append_decoding.ensures.decoded
