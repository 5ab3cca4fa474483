use Rattle.std.proofs.Common.{◌∙◌, ap, sym}
use Rattle.mime_params.specs.Words.{quoted}
use Rattle.mime_params.specs.Reading.{after_word}
use Rattle.mime_params.proofs.Lists.{after_octet_of, quoted_octet}
use Rattle.mime_params.proofs.words.after_quoted.Goals as goal

pub quoted-preserved : goal.quoted-preserved
quoted-preserved c =
    sym (ap after_word (ap quoted c.in-Some.ensures ∙ quoted_octet c.in-Some.octet c.in-Some.more.now c.if-octet-eq34.false c.if-octet-eq92.false)
    ∙ after_octet_of (quoted c.in-Some.more.now) c.in-Some.octet)
    ∙ c.quoted.invariant
