use Rattle.std.proofs.Common.{refl}
use Rattle.header_fields.proofs.Trimming.{trailing_taken}
use Rattle.header_fields.proofs.field.without_last_blanks.Goals as goal

pub returns : goal.returns
returns c = rw (c.truncate.ensures.items, c.trim_trailing_blanks-length.ensures, c.deref.ensures.value, trailing_taken) refl
