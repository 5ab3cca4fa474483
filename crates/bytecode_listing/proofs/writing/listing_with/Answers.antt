use Rattle.std.proofs.Common.{◌≡◌, ℕ, List, All, sym, subst, rules, arith}
use Rattle.std.proofs.lemmas.Grind.{common_steps}
use Rattle.bytecode_listing.specs.Listing.{AreOctets, listing_with}
use Rattle.bytecode_listing.specs.Noted.{notes_in}
use Rattle.bytecode_listing.specs.Items.{Lists}
use Rattle.bytecode_listing.proofs.Lines.{lists_itself}
use Rattle.bytecode_listing.proofs.Noting.{notes_line}
use Rattle.bytecode_listing.proofs.writing.listing_with.Goals as goal

pub returns-clause-listed : goal.returns-clause-listed
returns-clause-listed c =
    let whole : c.put_instructions.new.out.items ≡ listing_with (notes_in c.args.notes) c.args.program.now = first_of (search rules, grind (arith, common_steps)) in
    let octets : All AreOctets c.args.program.now.strings = subst (All AreOctets) c.strings.ensures.value c.in_ok-put_strings.ensures.octets in
    subst (λ (t : List ℕ). Lists t c.args.program.now) (sym whole) (lists_itself (notes_in c.args.notes) (notes_line c.args.notes) c.args.program.now c.version.ensures.program octets)
