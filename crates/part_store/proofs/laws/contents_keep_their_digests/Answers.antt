use Rattle.part_store.proofs.Digests.{digests_stay}
use Rattle.part_store.proofs.Opened.{finds_same, opens_same}
use Rattle.part_store.proofs.Verified.{none_verified}
use Rattle.part_store.proofs.laws.contents_keep_their_digests.Goals as goal

pub returns-clause-empty : goal.returns-clause-empty
returns-clause-empty g c = none_verified

pub returns-clause-changed : goal.returns-clause-changed
returns-clause-changed g c = digests_stay

pub returns-clause-opened : goal.returns-clause-opened
returns-clause-opened g c image d now has holds from clean = opens_same image now from clean d has holds

pub returns-clause-looked : goal.returns-clause-looked
returns-clause-looked g c image d found holds there clean = finds_same image d found holds there clean
