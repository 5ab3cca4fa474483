use Rattle.std.proofs.Common.{◌<◌, length, take, subst, sym, ◌∙◌, arith}
use Rattle.std.proofs.lemmas.List.{length-set, take_more_set}
use Rattle.quoted_printable.specs.Private.{AreFor}
use Rattle.quoted_printable.proofs.Known.{are_more}
use Rattle.quoted_printable.proofs.decode.first_octets.Goals as goal

pub octets-preserved : goal.octets-preserved
octets-preserved c =
    let n = c.octets.n in
    let octets = c.octets.octets in
    let octet = c.in-Some.octet in
    let within : n < length octets = omega (arith, c.octets.invariant.long, c.octets-test.true) in
    record {
      long = length-set octets n octet ∙ c.octets.invariant.long;
      are = subst (λ l. AreFor c.args.text.now l c.in-Some.after.now) (sym (take_more_set octets n octet within))
          (are_more c.args.text.now (take n octets) c.octets.rest.now c.in-Some.after.now octet c.octets.invariant.are c.in-Some.ensures);
      few = omega (arith, c.octets-test.true);
    }
