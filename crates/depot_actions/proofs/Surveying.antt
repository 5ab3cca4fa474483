-- What looking a depot over comes to: each user is summarised in turn, and nothing changes.
use Rattle.std.proofs.Common.{◌≡◌, ℕ, ◌+◌, ◌<◌, ◌≤◌, List, [], ◌∷◌, ◌++◌, IsTrue, length, map, take, get_or, sym, ap, subst, ◌∙◌, string_bytes, arith}
use Rattle.std.specs.List.{AllZip}
use Rattle.std.proofs.lemmas.List.{map_more, take_all}
use Rattle.sqlite.specs.State.{State, HasCleanDisk, Survives}
use Rattle.sqlite.proofs.StateLemmas.{survives_then}
use Rattle.part_store.specs.Entries.{Entries, entries_of, listing_of}
use Rattle.part_store.specs.Standing.{LeavesUnchanged, Stands}
use Rattle.part_store.specs.UserLines.{line_of}
use Rattle.part_store.specs.declared.user_row.UserRow.{UserRow}
use Rattle.depot_actions.specs.Overviews.{AreSummaries, Summarises}
use Rattle.depot_actions.specs.declared.overview.UserOverview.{UserOverview}
use Rattle.depot_actions.proofs.Commands.{stands_still}
use Rattle.depot_actions.proofs.Delivering.{unchanged_twice}

-- so far these users were summarised, and nothing has changed
pub record Looking (rows : List UserRow) (place : ℕ) (users : List UserOverview) (old now : State) : Type 0 where
  pub survives : Survives old now (λ _. ⊥)
  pub unchanged : HasCleanDisk now → LeavesUnchanged old now
  pub told : HasCleanDisk now → (before : Entries) → Stands old.now before → AreSummaries before (map line_of (take place rows)) users

zip_pushed : {X Y : Type 0} (R : X → Y → Type 0) (xs : List X) (ys : List Y) (x : X) (y : Y) → AllZip R xs ys → R x y → AllZip R (xs ++ x ∷ []) (ys ++ y ∷ [])
zip_pushed R [] [] x y all one = (one, tt)
zip_pushed R [] (b ∷ ys) x y all one = absurd all
zip_pushed R (a ∷ xs) [] x y all one = absurd all
zip_pushed R (a ∷ xs) (b ∷ ys) x y all one = (all.0, zip_pushed R xs ys x y all.1 one)

pub one_looked : (rows : List UserRow) (place : ℕ) (row : UserRow) (users more : List UserOverview) (user : UserOverview) (old mid new : State) → place < length rows → row ≡ get_or rows place row → more ≡ users ++ user ∷ []
    → Looking rows place users old mid → Survives mid new (λ _. ⊥) → (HasCleanDisk new → LeavesUnchanged mid new) → (HasCleanDisk new → IsTrue mid.is_open)
    → (HasCleanDisk new → (before : Entries) → Stands mid.now before → Summarises (line_of row) (map listing_of (entries_of (string_bytes row.user) before)) user) → Looking rows (place + 1) more old new
one_looked rows place row users more user old mid new lt is all so_far survives unchanged was_open told =
    let early = λ (clean : HasCleanDisk new). let e : HasCleanDisk mid = omega (arith, survives.clean) in e in
    subst (λ out. Looking rows (place + 1) out old new) (sym all) (record {
      survives = survives_then old mid new (λ _. ⊥) (λ _. ⊥) (λ _. ⊥) (λ _ _ h. h) (λ _ _ h. h) so_far.survives survives;
      unchanged = λ clean. unchanged_twice old mid new so_far.survives.counts survives.counts (so_far.unchanged (early clean)) (unchanged clean);
      told = λ clean before stands.
          let there = stands_still old mid before (so_far.unchanged (early clean)) stands (was_open clean) in
          let lines : map line_of (take (place + 1) rows) ≡ map line_of (take place rows) ++ line_of row ∷ [] =
          map_more line_of rows place row lt ∙ ap (λ (r : UserRow). map line_of (take place rows) ++ line_of r ∷ []) (sym is) in
          subst (λ ls. AreSummaries before ls (users ++ user ∷ [])) (sym lines)
          (zip_pushed (λ line x. Summarises line (map listing_of (entries_of line.user before)) x) (map line_of (take place rows)) users (line_of row) user
          (so_far.told (early clean) before stands) (told clean before there));
    })

pub survived_then : (old mid new : State) → Survives old mid (λ _. ⊥) → Survives mid new (λ _. ⊥) → Survives old new (λ _. ⊥)
survived_then old mid new first later = survives_then old mid new (λ _. ⊥) (λ _. ⊥) (λ _. ⊥) (λ _ _ h. h) (λ _ _ h. h) first later

pub all_looked : (rows : List UserRow) (place : ℕ) (users : List UserOverview) (old now : State) → length rows ≤ place → Looking rows place users old now → HasCleanDisk now → (before : Entries) → Stands old.now before
    → AreSummaries before (map line_of rows) users
all_looked rows place users old now whole looking clean before stands =
    subst (λ rs. AreSummaries before (map line_of rs) users) (take_all place rows whole) (looking.told clean before stands)
