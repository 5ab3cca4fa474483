use Rattle.std.proofs.Common.{◌∙◌, arith, length, ap, subst}
use Rattle.std.specs.List.{HoldsAt}
use Rattle.mime_tree.specs.PartTree as tree
use Rattle.std.proofs.Common.{◌≡◌, List, ◌++◌}
use Rattle.std.proofs.lemmas.Result.{on_ok_weaker}
use Rattle.sieve_trace.proofs.MediaLemmas.{as_many, media_told}
use Rattle.sieve_trace.proofs.scene.push_media.Goals as goal

pub media_without_params-media-requires : goal.media_without_params-media-requires
media_without_params-media-requires c =
    let number = as_many c.args.message.now.octets c.tree.ensures.mail in
    let known = ap length c.tree.ensures.tree in
    omega (arith, number, known, c.requires)

pub returns : goal.returns
returns c =
    let octets = c.args.message.now.octets in
    let place = c.args.number in
    let media = c.media_without_params-media.result.now in
    let at = subst (λ (all : List tree.Part). HoldsAt (λ part. media ≡ tree.without_params part.media) all place) c.tree.ensures.tree c.media_without_params-media.ensures in
    let told = media_told c.args.message.now octets place media c.tree.ensures.mail c.requires at in
    on_ok_weaker c.append_text.result (λ h. h ∙ ap (λ t. c.args.out.now.items ++ t) told) c.append_text.ensures
