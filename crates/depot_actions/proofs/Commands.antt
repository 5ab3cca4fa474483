-- What the calls of the store come to for the commands of a depot.
use Rattle.std.proofs.Common.{◌≡◌, ℕ, List, IsTrue, refl, sym, ap, subst, inl, inr, Result, Ok, Err, MatchResult, is_ok}
use Rattle.sqlite.specs.State.{State, Survives}
use Rattle.sqlite_trees.specs.Tree.{Trees}
use Rattle.encodings.specs.Texts.{text_of}
use Rattle.encodings.specs.declared.encoding.Encoding.{Encoding}
use Rattle.part_store.specs.Entries.{Entries, Entry, without_entry}
use Rattle.part_store.specs.Standing.{AddsVerified, IsEntryAt, IsStored, Makes, LeavesUnchanged, Stands}
use Rattle.depot_actions.specs.DepotState.{Accepts, Command, Does, Done, Export, Leaves, MayLeave, Remove, Reply, Steps, Text}
use Rattle.depot_actions.specs.Users.{is_user_name}

-- ---- what calls of the store leave

pub survives_more : (old new : State) (P Q : Trees → Type 0) → ((db : Trees) → P db → Q db) → Survives old new P → Survives old new Q
survives_more old new P Q f h = record {
  clean = h.clean;
  shield = h.shield;
  counts = h.counts;
  limit = h.limit;
  closes = h.closes;
  crash = λ clean db may. elim (h.crash clean db may) [ inl earlier ↦ inl earlier | inr made ↦ inr (f db made) ];
}

-- doing nothing leaves the store unchanged
pub unchanged_self : (s : State) → LeavesUnchanged s s
unchanged_self s = record { same = λ _ _. (refl, refl); stays_closed = λ is_open. is_open; closes = λ is_open. inl is_open }

-- what is unchanged stands for what it stood for
pub stands_still : (old new : State) (before : Entries) → LeavesUnchanged old new → Stands old.now before → IsTrue new.is_open → Stands new.now before
stands_still old new before spares stands is_open = subst (λ d. Stands d before) (sym (spares.same stands.schema is_open).0) stands

pub left_alone : (old new : State) (before : Entries) → IsTrue old.is_open → (IsTrue new.is_open → new.committed ≡ new.now) → LeavesUnchanged old new → Stands old.now before
    → Leaves before before old new
left_alone old new before was_open settled spares stands = record {
  stands = λ is_open. (stands_still old new before spares stands is_open, settled is_open);
  closes = elim (spares.closes was_open) [ inl is_open ↦ inl is_open | inr failed ↦ inr (refl, failed) ];
}

-- what the store makes is committed
pub made_done : (change : Entries → Entries) (command : Command) (reply : Reply) (old new : State) → Makes change old new
    → ((before : Entries) → Stands old.now before → Accepts before command reply (change before)) → Does command reply old new
made_done change command reply old new makes accepts = (
  makes.0.0,
  λ before stands. (
    change before,
    accepts before stands,
    record { stands = λ _. ((makes.1 before stands).0, makes.0.2); closes = inl makes.0.1 },
  ),
)

-- ---- commands that are done

module _ (old new : State) (user : List ℕ) (named : IsTrue (is_user_name user)) where
  pub export_step : (before : Entries) (number : ℕ) (encoding : Encoding) (octets : List ℕ) → (entry : Entry) × IsEntryAt before user number entry × (octets ≡ entry.octets)
      → Steps before (Export user number encoding) (Text (text_of encoding octets)) before
  export_step before number encoding octets (entry, at, is) = (entry, at, ap (λ o. Text (text_of encoding o)) is, refl)

  -- an entry's octets were read
  pub export_done : (number : ℕ) (encoding : Encoding) (octets : List ℕ) → IsTrue old.is_open → (IsTrue new.is_open → new.committed ≡ new.now) → LeavesUnchanged old new
      → ((before : Entries) → Stands old.now before → (entry : Entry) × IsEntryAt before user number entry × (octets ≡ entry.octets))
      → Does (Export user number encoding) (Text (text_of encoding octets)) old new
  export_done number encoding octets was_open settled spares told = (
    was_open,
    λ before stands. (
      before,
      record { named = named; step = export_step before number encoding octets (told before stands) },
      left_alone old new before was_open settled spares stands,
    ),
  )

  pub removal_left : (number : ℕ) → (trees : Trees)
      → IsTrue old.is_open × ((before : Entries) → Stands old.now before → ((x : Entry) × IsEntryAt before user number x) × IsStored trees (without_entry user number before) × AddsVerified old.now.trees trees)
      → MayLeave (Remove user number) old trees
  removal_left number trees (is_open, left) = (
    is_open,
    λ before stands.
        let found = left before stands in (
          Done,
          without_entry user number before,
          record { named = named; step = (found.0.0, found.0.1, refl, refl) },
          found.1,
        ),
  )

-- ---- answers of the store, as refusals

-- an answer is Ok where the store's is, and with the same value
pub ok_before : {T E D : Type 0} (r : Result T E) (r' : Result T D) (Q : E → Type 0) (x : T) → MatchResult r (λ y. r' ≡ Ok y) Q → is_ok r' ≡ is_ok r → r' ≡ Ok x → r ≡ Ok x
ok_before (Ok y) r' Q x same variant is = cc
ok_before (Err e) (Ok y) Q x same variant is = absurd (cc)
ok_before (Err e) (Err d) Q x same variant is = absurd (cc)
