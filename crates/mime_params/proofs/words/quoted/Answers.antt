use Rattle.std.proofs.Common.{◌∙◌, ◌∷◌, ap}
use Rattle.mime_params.specs.Words.{quoted}
use Rattle.mime_params.proofs.Lists.{quoted_more, quoted_octet}
use Rattle.mime_params.proofs.words.quoted.Goals as goal

pub quoted-preserved-then-octet-eq92 : goal.quoted-preserved-then-octet-eq92
quoted-preserved-then-octet-eq92 c =
    rw c.in_ok-push.ensures.items
    (quoted_more c.args.text.now c.quoted.octets.items c.in-Some-first.escaped c.quoted.rest.now c.in-Some-first.after.now c.quoted.invariant
    (ap quoted (c.in-Some.ensures ∙ ap (λ x. x ∷ c.in-Some.more.now) c.if-octet-eq92.true ∙ ap (λ xs. 92 ∷ xs) c.in-Some-first.ensures)))

pub quoted-preserved : goal.quoted-preserved
quoted-preserved c =
    rw c.in_ok-push-2.ensures.items
    (quoted_more c.args.text.now c.quoted.octets.items c.in-Some.octet c.quoted.rest.now c.in-Some.more.now c.quoted.invariant
    (ap quoted c.in-Some.ensures ∙ quoted_octet c.in-Some.octet c.in-Some.more.now c.if-octet-eq34.false c.if-octet-eq92.false))
