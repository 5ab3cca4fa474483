use Rattle.std.proofs.Common.{subst}
use Rattle.std.specs.Cow.{cow_slice_items}
use Rattle.mime_params.specs.MediaValue.{SettlesDisposition}
use Rattle.mail_matching.proofs.TypeTexts.{settled_name}
use Rattle.mail_matching.proofs.reading.disposition_text.Goals as goal

pub returns-then-settles_disposition : goal.returns-then-settles_disposition
returns-then-settles_disposition c =
    settled_name 128 c.args.field.now.value (cow_slice_items c.in_ok-start.start) c.in_ok-start.ensures.start
    (subst SettlesDisposition c.as_slice.ensures.value (c.settles_disposition.ensures c.if-settles_disposition.true))
