use Rattle.std.proofs.Common.{◌≡◌, ◌++◌, length, min, take, sym, ap, ◌∙◌, arith}
use Rattle.std.proofs.lemmas.List.{take-take}
use Rattle.std.proofs.lemmas.Result.{on_ok_weaker}
use Rattle.octet_lanes.specs.declared.alphabet.Alphabet.TheVariants.{Base64}
use Rattle.octet_lanes.specs.Encoding.{encoding_of}
use Rattle.lanes_base64_mime.specs.MimeBase64.{line_break}
use Rattle.lanes_base64_mime.proofs.encode.append_line.Goals as goal

pub returns-in-Some : goal.returns-in-Some
returns-in-Some c =
    let octets = c.args.octets.now in
    let out = c.args.out.now.items in
    let many : min (length octets) 57 ≡ 57 = omega (arith, c.in-Some.ensures.cases.enough) in
    let line : take 57 c.in-Some.lanes.now ≡ take (min (length octets) 57) octets = ap (take 57) c.in-Some.ensures.cases.same ∙ take-take 57 80 octets (omega arith) ∙ ap (λ n. take n octets) (sym many) in
    on_ok_weaker c.append_whole_line.result
    (λ (e : c.append_whole_line.new.out.items ≡ out ++ (encoding_of Base64 (take 57 c.in-Some.lanes.now) ++ line_break)).
    e ∙ ap (λ l. out ++ (encoding_of Base64 l ++ line_break)) line)
    c.append_whole_line.ensures
