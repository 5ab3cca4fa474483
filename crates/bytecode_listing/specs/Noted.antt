-- Private: the notes that the writer of listings is given.
use Rattle.std.specs.Prelude.{None, slice_get, option_map}
use Rattle.bytecode_listing.specs.declared.notes.Notes as given
use Rattle.bytecode_listing.specs.declared.notes.Notes.TheVariants.{Without, Shares, Refusal}
use Rattle.bytecode_listing.specs.Listing.{Notes, share_text, refusal_notes}

-- what is said of the instruction at a place
abbrev pub notes_in : given.Notes → Notes
notes_in Without place = None
notes_in (Shares shares) place = option_map share_text (slice_get shares.now place)
notes_in (Refusal refusal) place = refusal_notes refusal.now place
