use Rattle.bytecode_listing.proofs.Faultless.{no_fault}
use Rattle.bytecode_listing.proofs.laws.listings_have_no_fault.Goals as goal

pub returns : goal.returns
returns c = no_fault
