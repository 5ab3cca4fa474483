use Rattle.bytecode_listing.specs.Listing.{no_notes, share_notes, refusal_notes}
use Rattle.bytecode_listing.proofs.Lines.{lists_itself}
use Rattle.bytecode_listing.proofs.Skipped.{share_line, refusal_line}
use Rattle.bytecode_listing.proofs.laws.listings_say_their_programs.Goals as goal

pub returns-clause-plain : goal.returns-clause-plain
returns-clause-plain c = lists_itself no_notes (λ place. tt)

pub returns-clause-accepted : goal.returns-clause-accepted
returns-clause-accepted c = λ code. lists_itself (share_notes code) (share_line code) code

pub returns-clause-refused : goal.returns-clause-refused
returns-clause-refused c = λ refusal. lists_itself (refusal_notes refusal) (refusal_line refusal)
