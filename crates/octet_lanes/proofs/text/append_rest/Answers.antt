use Rattle.std.proofs.Common.{◌≡◌, ◌++◌, ◌*◌, ◌≤◌, length, take, drop, sym, ap, ◌∙◌, arith}
use Rattle.std.proofs.lemmas.Result.{on_ok_weaker}
use Rattle.std.proofs.lemmas.List.{append_assoc, length-take-le, take-append-drop}
use Rattle.octet_lanes.specs.Encoding.{encoding_of, width}
use Rattle.octet_lanes.proofs.Reading.{grown_on}
use Rattle.octet_lanes.proofs.Texts.{encoding_prefix}
use Rattle.octet_lanes.proofs.text.append_rest.Goals as goal

pub returns-clause-text : goal.returns-clause-text
returns-clause-text c =
    let a = c.args.alphabet in
    let xs = c.args.octets.now in
    let b = 4 * c.width-block.result in
    let out = c.args.out.now.items in
    let same : b ≡ 4 * width a = ap (λ w. 4 * w) c.width-block.ensures in
    let within : b ≤ length xs = omega arith in
    let prefix : encoding_of a xs ≡ encoding_of a (take b xs) ++ encoding_of a (drop b xs) =
    ap (encoding_of a) (sym (take-append-drop b xs)) ∙ encoding_prefix a (take b xs) (drop b xs) (length-take-le b xs within ∙ same) in
    on_ok_weaker c.append_block-3.result (λ (e : c.append_block-3.new.out.items ≡ c.append_block-2.new.out.items ++ encoding_of a c.split_at.result.1.now).
    e ∙ (λ i. c.in_ok-append_block.ensures.text i ++ encoding_of a (c.split_at.ensures.back i))
    ∙ ap (λ l. (out ++ encoding_of a l) ++ encoding_of a (drop b xs)) c.split_at.ensures.front
    ∙ append_assoc out (encoding_of a (take b xs)) (encoding_of a (drop b xs))
    ∙ ap (λ l. out ++ l) (sym prefix)) c.append_block-3.ensures.text

pub returns-clause-grown : goal.returns-clause-grown
returns-clause-grown c =
    grown_on c.args.out.now.items c.append_block-2.new.out.items c.append_block-3.new.out.items c.in_ok-append_block.ensures.grown c.append_block-3.ensures.grown
