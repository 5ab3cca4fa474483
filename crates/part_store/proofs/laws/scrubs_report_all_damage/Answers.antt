use Rattle.std.proofs.Common.{length, ap, sym, ◌∙◌}
use Rattle.part_store.proofs.Damaged.{all_sound, never_under, none_damaged}
use Rattle.part_store.proofs.Referring.{none_listed}
use Rattle.part_store.proofs.laws.scrubs_report_all_damage.Goals as goal

pub returns-clause-none : goal.returns-clause-none
returns-clause-none c db e x stands have is = (is.damaged ∙ ap length (none_damaged db e stands have), none_listed db e x.entries.items (never_under db e stands have) is.entries)

pub returns-clause-sound : goal.returns-clause-sound
returns-clause-sound c db e x stands is none = all_sound db e stands (sym is.damaged ∙ none)
