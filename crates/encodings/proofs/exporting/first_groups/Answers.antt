use Rattle.std.proofs.Common.{◌∙◌, ◌++◌, take, drop, sym, ap}
use Rattle.encodings.specs.Texts.{text_of}
use Rattle.encodings.proofs.Pieces.{first_and_rest}
use Rattle.encodings.proofs.exporting.first_groups.Goals as goal

pub returns-clause-text : goal.returns-clause-text
returns-clause-text c =
    let octets = c.args.octets.now in
    let text = text_of c.args.encoding in
    let first = c.in_ok-encode.ensures ∙ ap text (c.split_at.ensures.front ∙ ap (λ n. take n octets) c.min.ensures) in
    let rest = c.split_at.ensures.back ∙ ap (λ n. drop n octets) c.min.ensures in
    first_and_rest c.args.encoding octets c.requires ∙ sym (λ i. first i ++ text (rest i))
