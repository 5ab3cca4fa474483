use Rattle.std.proofs.Common.{◌≡◌, ◌-◌, ◌++◌, min, length, take, ap, ◌∙◌, arith}
use Rattle.sieve_vm.proofs.Holding.{put_at}
use Rattle.sieve_vm.proofs.joining.put.Goals as goal

pub returns : goal.returns
returns c =
    let len : c.len-room.result ≡ length c.args.out.now.items = c.len-room.ensures ∙ c.args.out.now.ok.0 in
    let cut : c.min.result ≡ min (16384 - length c.args.out.now.items) (length c.args.text.now) = omega (arith, c.min.ensures, len) in
    c.in_ok-extend_from_slice.ensures.items ∙ ap (λ n. c.args.out.now.items ++ take n c.args.text.now) cut ∙ put_at 16384 c.args.out.now.items c.args.text.now c.requires
