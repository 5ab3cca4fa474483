-- The depots of volumes: one of them goes out, or comes back.
use Rattle.std.proofs.Common.{◌≡◌, ℕ, zero, suc, ◌+◌, ◌<◌, true, false, true≢false, IsTrue, List, [], ◌∷◌, ◌++◌, Option, None, Some, IfSome, get_or, set, length, length-append, refl, sym, ap, subst, ◌∙◌, arith}
use Rattle.std.proofs.lemmas.List.{set-get_or}
use Rattle.std.proofs.lemmas.Slice.Zip.{AllZip-long}
use Rattle.std.specs.List.{AllByRecursion, AllZip}
use Rattle.std.specs.Option.{is_some}
use Rattle.sqlite_trees.specs.declared.store.Store.{Ghosts}
use Rattle.sqlite.specs.Held.{Held, state}
use Rattle.part_store.specs.Entries.{Entries, no_entries}
use Rattle.part_store.specs.Opening.{IsAt}
use Rattle.volumes.specs.Holding.{HasAdded, HasClosed, HasMade, HasOpened, Keeps}
use Rattle.volumes_rows.specs.Depots.{IsOpen, IsPut, Shows, holding_of}
use Rattle.volumes_rows.specs.declared.open_volumes.OpenVolumes.{OpenVolumes}

-- ---- one slot

-- a slot is overwritten
pub put_at : {X : Type 0} (xs : List (Option X)) (place : ℕ) (d was is : Option X) → place < length xs → get_or xs place d ≡ was → IsPut place xs (set xs place is) was is
put_at [] place d was is lt e = absurd (omega (arith, lt))
put_at (x ∷ xs) zero d was is lt e = record { earlier = []; later = xs; were = ap (λ y. y ∷ xs) e; are = refl; at = refl }
put_at (x ∷ xs) (suc place) d was is lt e =
    let rest = put_at xs place d was is (omega (arith, lt)) e in
    record { earlier = x ∷ rest.earlier; later = rest.later; were = ap (λ ys. x ∷ ys) rest.were; are = ap (λ ys. x ∷ ys) rest.are; at = ap suc rest.at }

-- what was taken from a slot
pub taken : {X : Type 0} (xs : List (Option X)) (place : ℕ) (d slot result : Option X) → slot ≡ None → place < length xs → result ≡ get_or xs place d → IfSome result (λ it. IsPut place xs (set xs place slot) (Some it) None)
taken xs place d slot None empty lt is = tt
taken xs place d slot (Some it) empty lt is = subst (λ s. IsPut place xs (set xs place s) (Some it) None) (sym empty) (put_at xs place d (Some it) None lt (sym is))

pub none_taken : {X : Type 0} (xs : List (Option X)) (place : ℕ) (d slot result : Option X) → slot ≡ None → result ≡ get_or xs place d → result ≡ None → set xs place slot ≡ xs
none_taken xs place d slot result empty is none = subst (λ s. set xs place s ≡ xs) (sym is ∙ none ∙ sym empty) (set-get_or xs place d)

pub is_empty : {X : Type 0} (slot : Option X) → is_some slot ≡ false → slot ≡ None
is_empty None e = refl
is_empty (Some it) e = absurd (true≢false e)

module _ {S : Type 0} (g : Ghosts S) where
  -- ---- what slots show

  -- the volumes that slots show, where one of the slots is named
  record Parted (earlier : List (Option (Held S))) (slot : Option (Held S)) (later : List (Option (Held S))) (vs : List Entries) : Type 0 where
    es : List Entries
    v : Entries
    ls : List Entries
    are : vs ≡ es ++ v ∷ ls
    before : AllZip (Shows g) earlier es
    here : Shows g slot v
    after : AllZip (Shows g) later ls

  parted : (earlier : List (Option (Held S))) (slot : Option (Held S)) (later : List (Option (Held S))) (vs : List Entries) → AllZip (Shows g) (earlier ++ slot ∷ later) vs → Parted earlier slot later vs
  parted [] slot later [] shows = absurd shows
  parted [] slot later (v ∷ vs) shows = record { es = []; v = v; ls = vs; are = refl; before = tt; here = shows.0; after = shows.1 }
  parted (x ∷ earlier) slot later [] shows = absurd shows
  parted (x ∷ earlier) slot later (v ∷ vs) shows =
      let rest = parted earlier slot later vs shows.1 in
      record { es = v ∷ rest.es; v = rest.v; ls = rest.ls; are = ap (λ others. v ∷ others) rest.are; before = (shows.0, rest.before); here = rest.here; after = rest.after }

  joined : (earlier : List (Option (Held S))) (es : List Entries) (slot : Option (Held S)) (v : Entries) (later : List (Option (Held S))) (ls : List Entries)
      → AllZip (Shows g) earlier es → Shows g slot v → AllZip (Shows g) later ls → AllZip (Shows g) (earlier ++ slot ∷ later) (es ++ v ∷ ls)
  joined [] [] slot v later ls front shows back = (shows, back)
  joined [] (e ∷ es) slot v later ls front shows back = absurd front
  joined (x ∷ earlier) [] slot v later ls front shows back = absurd front
  joined (x ∷ earlier) (e ∷ es) slot v later ls front shows back = (front.0, joined earlier es slot v later ls front.1 shows back)

  -- the same of volumes of which one is named, at the slot's place
  record ShowsEach (earlier : List (Option (Held S))) (slot : Option (Held S)) (later : List (Option (Held S))) (es : List Entries) (v : Entries) (ls : List Entries) : Type 0 where
    before : AllZip (Shows g) earlier es
    here : Shows g slot v
    after : AllZip (Shows g) later ls

  shown_each : (earlier : List (Option (Held S))) (slot : Option (Held S)) (later : List (Option (Held S))) (es : List Entries) (v : Entries) (ls : List Entries) → length es ≡ length earlier
      → AllZip (Shows g) (earlier ++ slot ∷ later) (es ++ v ∷ ls) → ShowsEach earlier slot later es v ls
  shown_each [] slot later [] v ls len shows = record { before = tt; here = shows.0; after = shows.1 }
  shown_each [] slot later (e ∷ es) v ls len shows = absurd (omega (arith, len))
  shown_each (x ∷ earlier) slot later [] v ls len shows = absurd (omega (arith, len))
  shown_each (x ∷ earlier) slot later (e ∷ es) v ls len shows =
      let rest = shown_each earlier slot later es v ls (omega (arith, len)) shows.1 in
      record { before = (shows.0, rest.before); here = rest.here; after = rest.after }

  module _ (place : ℕ) (old new : List (Option (Held S))) (was is : Option (Held S)) (put : IsPut place old new was is) where
    each_shown : (es : List Entries) (v : Entries) (ls : List Entries) → length es ≡ place → AllZip (Shows g) old (es ++ v ∷ ls) → ShowsEach put.earlier was put.later es v ls
    each_shown es v ls at shows = shown_each put.earlier was put.later es v ls (at ∙ sym put.at) (subst (λ xs. AllZip (Shows g) xs (es ++ v ∷ ls)) put.were shows)

    shown_at : (es : List Entries) (v : Entries) (ls : List Entries) → length es ≡ place → AllZip (Shows g) old (es ++ v ∷ ls) → Shows g was v
    shown_at es v ls at shows = (each_shown es v ls at shows).here

    shown_after : (es : List Entries) (v w : Entries) (ls : List Entries) → length es ≡ place → AllZip (Shows g) old (es ++ v ∷ ls) → Shows g is w → AllZip (Shows g) new (es ++ w ∷ ls)
    shown_after es v w ls at shows here =
        let parts = each_shown es v ls at shows in
        subst (λ xs. AllZip (Shows g) xs (es ++ w ∷ ls)) (sym put.are) (joined put.earlier es is w put.later ls parts.before here parts.after)

    still_shown : ((v : Entries) → Shows g was v → Shows g is v) → (vs : List Entries) → AllZip (Shows g) old vs → AllZip (Shows g) new vs
    still_shown weaker vs shows =
        let parts = parted put.earlier was put.later vs (subst (λ xs. AllZip (Shows g) xs vs) put.were shows) in
        subst (AllZip (Shows g) new) (sym parts.are)
        (subst (λ xs. AllZip (Shows g) xs (parts.es ++ parts.v ∷ parts.ls)) (sym put.are)
        (joined put.earlier parts.es is parts.v put.later parts.ls parts.before (weaker parts.v parts.here) parts.after))

    place_shown : (vs : List Entries) → AllZip (Shows g) old vs → place < length vs
    place_shown vs shows =
        let long : length vs ≡ length old = AllZip-long (Shows g) old vs shows in
        let were : length old ≡ length put.earlier + suc (length put.later) = ap length put.were ∙ length-append put.earlier (was ∷ put.later) in
        omega (arith, long, were, put.at)

  -- ---- which are open

  record OpensEach (earlier : List (Option (Held S))) (slot : Option (Held S)) (later : List (Option (Held S))) : Type 0 where
    here : IsOpen g slot
    others : (other : Option (Held S)) → IsOpen g other → AllByRecursion (IsOpen g) (earlier ++ other ∷ later)

  opens_each : (earlier : List (Option (Held S))) (slot : Option (Held S)) (later : List (Option (Held S))) → AllByRecursion (IsOpen g) (earlier ++ slot ∷ later) → OpensEach earlier slot later
  opens_each [] slot later opens = record { here = opens.0; others = λ other is. (is, opens.1) }
  opens_each (x ∷ earlier) slot later opens =
      let rest = opens_each earlier slot later opens.1 in
      record { here = rest.here; others = λ other is. (opens.0, rest.others other is) }

  open_front : (earlier later : List (Option (Held S))) → AllByRecursion (IsOpen g) (earlier ++ later) → AllByRecursion (IsOpen g) earlier
  open_front [] later opens = tt
  open_front (x ∷ earlier) later opens = (opens.0, open_front earlier later opens.1)

  -- ---- what the calls do

  pub counted : (depots : List (Option (Held S))) (count : ℕ) → count ≡ length depots → (vs : List Entries) → AllZip (Shows g) depots vs → length vs ≡ count
  counted depots count is vs shows = AllZip-long (Shows g) depots vs shows ∙ sym is

  module _ (place : ℕ) (old new : OpenVolumes S) (depot : Held S) (lost : new.has_lost ≡ old.has_lost) where
    pub goes_out : IsPut place old.depots.items new.depots.items (Some depot) None → HasOpened (holding_of g) g place old new depot
    goes_out put =
        let olds = old.depots.items in
        let news = new.depots.items in
        record {
          there = λ sound is_open vs shows. place_shown place olds news (Some depot) None put vs shows;
          found = λ sound is_open earlier v later shows at. shown_at place olds news (Some depot) None put earlier v later at shows;
          same = λ sound is_open vs shows. still_shown place olds news (Some depot) None put (λ v here. tt) vs shows;
          sound = λ sound is_open. (
            sym lost ∙ sound.0,
            subst (AllByRecursion (IsOpen g)) (sym put.were) ((opens_each put.earlier None put.later (subst (AllByRecursion (IsOpen g)) put.are sound.1)).others (Some depot) is_open),
          );
        }

    pub comes_back : IsPut place old.depots.items new.depots.items None (Some depot) → HasClosed (holding_of g) g place old new depot
    comes_back put =
        let olds = old.depots.items in
        let news = new.depots.items in
        record {
          held = λ sound earlier was is later shows at here. shown_after place olds news None (Some depot) put earlier was is later at shows here;
          sound = λ sound.
              let opens = opens_each put.earlier (Some depot) put.later (subst (AllByRecursion (IsOpen g)) put.are sound.1) in
              (opens.here, (sym lost ∙ sound.0, subst (AllByRecursion (IsOpen g)) (sym put.were) (opens.others None tt)));
        }

  pub lent : (place : ℕ) (old new : OpenVolumes S) (result : Option (Held S)) → new.has_lost ≡ old.has_lost → IfSome result (λ depot. IsPut place old.depots.items new.depots.items (Some depot) None)
      → IfSome result (HasOpened (holding_of g) g place old new)
  lent place old new None lost put = tt
  lent place old new (Some depot) lost put = goes_out place old new depot lost put

  pub is_lost : (place : ℕ) (old new : OpenVolumes S) (depot : Held S) → new.has_lost ≡ true → HasClosed (holding_of g) g place old new depot
  is_lost place old new depot lost = record {
    held = λ sound earlier was is later shows at here. absurd (true≢false (sym lost ∙ sound.0));
    sound = λ sound. absurd (true≢false (sym lost ∙ sound.0));
  }

  pub stays : (old new : OpenVolumes S) → new.has_lost ≡ old.has_lost → new.depots.items ≡ old.depots.items → Keeps (holding_of g) old new
  stays old new lost same = record {
    same = λ sound vs shows. subst (λ xs. AllZip (Shows g) xs vs) (sym same) shows;
    sound = λ sound. (sym lost ∙ sound.0, subst (AllByRecursion (IsOpen g)) same sound.1);
  }

  -- ---- the next volume

  -- a volume more
  pub is_added : (old new : OpenVolumes S) (depot : Held S) → new.has_lost ≡ old.has_lost → new.depots.items ≡ old.depots.items ++ Some depot ∷ [] → HasAdded (holding_of g) g old new depot
  is_added old new depot lost more = record {
    held = λ sound vs v shows here. subst (λ xs. AllZip (Shows g) xs (vs ++ v ∷ [])) (sym more) (joined old.depots.items vs (Some depot) v [] [] shows here tt);
    sound = λ sound.
        let opens = subst (AllByRecursion (IsOpen g)) more sound.1 in
        ((opens_each old.depots.items (Some depot) [] opens).here, (sym lost ∙ sound.0, open_front old.depots.items (Some depot ∷ []) opens));
  }

  pub is_not_added : (old new : OpenVolumes S) (depot : Held S) → new.has_lost ≡ true → HasAdded (holding_of g) g old new depot
  is_not_added old new depot lost = record {
    held = λ sound vs v shows here. absurd (true≢false (sym lost ∙ sound.0));
    sound = λ sound. absurd (true≢false (sym lost ∙ sound.0));
  }

  pub is_made : (old new : OpenVolumes S) (depot : Held S) → new.has_lost ≡ old.has_lost → new.depots.items ≡ old.depots.items → IsAt no_entries (state g depot) → HasMade (holding_of g) g old new depot
  is_made old new depot lost same empty = record { empty = λ clean. empty; keeps = stays old new lost same }
