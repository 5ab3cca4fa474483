use Rattle.std.proofs.Common.{subst}
use Rattle.std.specs.Cow.{cow_slice_items}
use Rattle.mime_params.specs.MediaValue.{SettlesType}
use Rattle.mail_matching.proofs.TypeTexts.{settled_media}
use Rattle.mail_matching.proofs.reading.media_text.Goals as goal

pub returns-then-settles_type : goal.returns-then-settles_type
returns-then-settles_type c =
    settled_media 128 c.args.field.now.value (cow_slice_items c.in_ok-start.start) c.in_ok-start.ensures.start
    (subst SettlesType c.as_slice.ensures.value (c.settles_type.ensures c.if-settles_type.true))
