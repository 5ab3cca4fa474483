use Rattle.sqlite.proofs.StateLemmas.{clean_if_open}
use Rattle.depot_actions.proofs.laws.open_stores_leave_what_is_committed.Goals as goal

pub returns-clause-clean : goal.returns-clause-clean
returns-clause-clean g c store is_open = clean_if_open (g.S.Store.view store.store) (g.met.S.Store.shut_if_dirty store.store) is_open

pub returns-clause-left : goal.returns-clause-left
returns-clause-left g c store trees is_open left = g.met.S.Store.settled store.store trees is_open left
