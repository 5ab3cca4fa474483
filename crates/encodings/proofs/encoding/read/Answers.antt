use Rattle.std.proofs.Common.{refl}
use Rattle.std.proofs.lemmas.Result.{err_from_is_err_and}
use Rattle.encodings.proofs.Hexadecimal.{decoded_is_written}
use Rattle.encodings.proofs.Readings.{refused_base16, refused_base64}
use Rattle.encodings.proofs.encoding.read.Goals as goal

pub returns-in_err-decode-in-Base64-clause-refused : goal.returns-in_err-decode-in-Base64-clause-refused
returns-in_err-decode-in-Base64-clause-refused c =
    let p = err_from_is_err_and c.from_residual-in_err-decode-in-Base64.result c.from_residual-in_err-decode-in-Base64.ensures.1 in
    rw (p.1, p.2, c.in-Base64.is) (refused_base64 c.args.text.now _ c.in_err-decode-in-Base64.ensures.err (c.decode.ensures.strict (refl, refl)))

pub returns-in_err-decode-in-Base16-clause-refused : goal.returns-in_err-decode-in-Base16-clause-refused
returns-in_err-decode-in-Base16-clause-refused c =
    let p = err_from_is_err_and c.from_residual-in_err-decode-in-Base16.result c.from_residual-in_err-decode-in-Base16.ensures.1 in
    rw (p.1, p.2, c.in-Base16.is) (refused_base16 c.args.text.now _ c.in_err-decode-in-Base16.ensures.err)

pub returns-in_ok-decode-in-Base16-clause-octets : goal.returns-in_ok-decode-in-Base16-clause-octets
returns-in_ok-decode-in-Base16-clause-octets c =
    rw c.in-Base16.is (decoded_is_written c.args.text.now _ c.in_ok-decode-in-Base16.ensures.ok)
