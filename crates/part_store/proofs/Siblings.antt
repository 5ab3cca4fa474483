-- The entries that the rows of an answer show, each with a place at which an entry has the same octets.
use Rattle.std.proofs.Common.{◌≡◌, ◌⊎◌, inl, inr, ℕ, zero, suc, ◌+◌, ◌<◌, ◌≤◌, List, [], ◌∷◌, ◌++◌, Bool, true, false, cond, IfOk, IfSome, IsErrAnd, Option, Result, Ok, Err, Some, None, bytes_eq, get_or, length, slice_get, take, refl, sym, ap, subst, ◌∙◌, arith}
use Rattle.std.specs.BTreeMap.{BTreeMap, get, is_at}
use Rattle.std.specs.Cmp.Lexicographic.{slice_cmp}
use Rattle.std.specs.List.{AllByRecursion, AllZip}
use Rattle.std.specs.Map.{lookup}
use Rattle.std.specs.Ordering.{nat_cmp}
use Rattle.std.proofs.lemmas.List.{take_all, take_more}
use Rattle.std.proofs.lemmas.Map.Text.{is_eq-slice_cmp}
use Rattle.std.proofs.lemmas.Option.{get_or_from_slice_get, none-some, same_Some, slice_get_within}
use Rattle.std.proofs.lemmas.Slice.Eq.{bytes_eq-Decides}
use Rattle.sqlite_value.specs.Order.{Row}
use Rattle.sqlite_trees.specs.Tree.{Trees}
use Rattle.part_store.specs.Entries.{Entry}
use Rattle.part_store.specs.Noting.{AreFirsts, HasContentAt, HaveOneContent}
use Rattle.part_store.specs.Readings.{ArePartsOf, Shows}
use Rattle.part_store.specs.Sharing.{AreSharing, IsSharingRow}
use Rattle.part_store.specs.Standing.{HasContent}
use Rattle.part_store.specs.Tables.{contents_tree}
use Rattle.part_store.specs.declared.entry.SharingRow.{SharingRow}
use Rattle.part_store.specs.declared.listing.Parts.{Parts}

-- ---- what is noted

pub found_as : {A : Type 0} (found is : Option A) → found ≡ is → IfSome found (λ x. is ≡ Some x)
found_as None is same = tt
found_as (Some x) is same = sym same

chosen : (b : Bool) (P : Type 0) (place at : ℕ) (old new : Option ℕ) → (b ≡ true → P) → new ≡ cond b (Some place) old → new ≡ Some at → (old ≡ Some at) ⊎ (P × (at ≡ place))
chosen true P place at old new hit put now = inr (hit refl, same_Some at place (sym now ∙ put))
chosen false P place at old new hit put now = inl (sym put ∙ now)

-- a place was noted for the digest
pub noted_one : (key digest other : List ℕ) (place at : ℕ) (old new : Option ℕ) → key ≡ digest → new ≡ cond (is_at (slice_cmp nat_cmp key) other) (Some place) old → new ≡ Some at
    → (old ≡ Some at) ⊎ ((other ≡ digest) × (at ≡ place))
noted_one key digest other place at old new same put now =
    chosen (is_at (slice_cmp nat_cmp key) other) (other ≡ digest) place at old new
    (λ hit. sym ((bytes_eq-Decides key other).0 (sym (is_eq-slice_cmp key other) ∙ hit)) ∙ same) put now

-- nothing is noted at first
pub none_noted : (db : Trees) (xs : List Entry) (firsts : BTreeMap (List ℕ) ℕ) → firsts.entries ≡ [] → AreFirsts db xs firsts
none_noted db xs firsts empty digest place found = absurd (none-some place (sym (ap (lookup (is_at (slice_cmp nat_cmp digest))) empty) ∙ found))

pub place_noted : (db : Trees) (xs : List Entry) (x : Entry) (digest : List ℕ) (place : ℕ) (old new : BTreeMap (List ℕ) ℕ) → AreFirsts db xs old → slice_get xs place ≡ Some x → HasContent (db contents_tree) digest x.octets
    → ((other : List ℕ) (at : ℕ) → get (slice_cmp nat_cmp) new other ≡ Some at → (get (slice_cmp nat_cmp) old other ≡ Some at) ⊎ ((other ≡ digest) × (at ≡ place)))
    → AreFirsts db xs new
place_noted db xs x digest place old new firsts there has notes other at found = elim (notes other at found) [
  | inl before ↦ firsts other at before
  | inr (same, here) ↦ (x, ap (slice_get xs) here ∙ there, subst (λ d. HasContent (db contents_tree) d x.octets) (sym same) has)
]

-- ---- row by row

pub none_ok : {T E : Type 0} (result : Result T E) (Why : E → Type 0) (Is : T → Type 0) → IsErrAnd result Why → IfOk result Is
none_ok (Ok x) Why Is h = absurd h
none_ok (Err e) Why Is h = tt

pub all_at : {A : Type 0} (P : A → Type 0) (xs : List A) (place : ℕ) (x : A) → AllByRecursion P xs → place < length xs → x ≡ get_or xs place x → P x
all_at P [] place x all lt is = absurd (omega (arith, lt))
all_at P (y ∷ xs) zero x all lt is = subst P (sym is) all.0
all_at P (y ∷ xs) (suc place) x all lt is = all_at P xs place x all.1 (omega (arith, lt)) is

-- the entry that the row at a place shows
pub entry_shown : (db : Trees) (rows : List Row) (xs : List Entry) (place : ℕ) (row : Row) → AllZip (Shows db) rows xs → place < length rows → row ≡ get_or rows place row
    → (x : Entry) × (slice_get xs place ≡ Some x) × Shows db row x
entry_shown db [] xs place row all lt is = absurd (omega (arith, lt))
entry_shown db (r ∷ rows) [] place row all lt is = absurd all
entry_shown db (r ∷ rows) (y ∷ xs) zero row all lt is = (y, refl, subst (λ w. Shows db w y) (sym is) all.0)
entry_shown db (r ∷ rows) (y ∷ xs) (suc place) row all lt is = entry_shown db rows xs place row all.1 (omega (arith, lt)) is

pub row_shares : (db : Trees) (xs : List Entry) (x : Entry) (parts : Parts) (row : SharingRow) (named digest : List ℕ) → HaveOneContent db → ArePartsOf parts x named → digest ≡ parts.digest.items → HasContent (db contents_tree) named x.octets
    → row.number ≡ parts.number → row.kind ≡ parts.kind → row.folder ≡ parts.folder → row.name ≡ parts.name → row.media ≡ parts.media → HasContentAt db xs row.first digest → IsSharingRow xs row x
row_shares db xs x parts row named digest single are shows has number kind folder name media first =
    let (one, at, kept) = first in
    record {
      label = λ i. record {
        number = (number ∙ are.number) i;
        kind = (kind ∙ are.kind) i;
        folder = (ap (λ v. v.items) folder ∙ are.folder) i;
        name = (ap (λ v. v.items) name ∙ are.name) i;
        media = (ap (λ v. v.items) media ∙ are.media) i;
      };
      shared = (one, at, single digest one.octets x.octets kept (subst (λ d. HasContent (db contents_tree) d x.octets) (sym (shows ∙ are.digest)) has));
    }

zip_push : {A B : Type 0} (R : A → B → Type 0) (ms : List A) (ns : List B) (m : A) (n : B) → AllZip R ms ns → R m n → AllZip R (ms ++ m ∷ []) (ns ++ n ∷ [])
zip_push R [] [] m n all one = (one, tt)
zip_push R [] (y ∷ ns) m n all one = absurd all
zip_push R (x ∷ ms) [] m n all one = absurd all
zip_push R (x ∷ ms) (y ∷ ns) m n all one = (all.0, zip_push R ms ns m n all.1 one)

zip_long : {A B : Type 0} (R : A → B → Type 0) (ms : List A) (ns : List B) → AllZip R ms ns → length ms ≡ length ns
zip_long R [] [] all = refl
zip_long R [] (y ∷ ns) all = absurd all
zip_long R (x ∷ ms) [] all = absurd all
zip_long R (x ∷ ms) (y ∷ ns) all = omega (arith, zip_long R ms ns all.1)

-- so far the rows before a place were read
pub record SharingSoFar (rows : List Row) (place : ℕ) (sharing : List SharingRow) (firsts : BTreeMap (List ℕ) ℕ) : Type 0 where
  pub listed : (db : Trees) (xs : List Entry) → HaveOneContent db → AllZip (Shows db) rows xs → AllZip (IsSharingRow xs) sharing (take place xs)
  pub noted : (db : Trees) (xs : List Entry) → AllZip (Shows db) rows xs → AreFirsts db xs firsts

pub none_read : (rows : List Row) (sharing : List SharingRow) (firsts : BTreeMap (List ℕ) ℕ) → sharing ≡ [] → firsts.entries ≡ [] → SharingSoFar rows 0 sharing firsts
none_read rows sharing firsts none empty = record {
  listed = λ db xs single all. subst (λ s. AllZip (IsSharingRow xs) s []) (sym none) tt;
  noted = λ db xs all. none_noted db xs firsts empty;
}

pub one_read : (rows : List Row) (place : ℕ) (row : Row) (sharing more : List SharingRow) (one : SharingRow) (old new : BTreeMap (List ℕ) ℕ) → place < length rows → row ≡ get_or rows place row → more ≡ sharing ++ one ∷ []
    → SharingSoFar rows place sharing old
    → ((db : Trees) (xs : List Entry) (x : Entry) → HaveOneContent db → AreFirsts db xs old → slice_get xs place ≡ Some x → Shows db row x → IsSharingRow xs one x)
    → ((db : Trees) (xs : List Entry) (x : Entry) → AreFirsts db xs old → slice_get xs place ≡ Some x → Shows db row x → AreFirsts db xs new)
    → SharingSoFar rows (place + 1) more new
one_read rows place row sharing more one old new lt is all so_far shown noted = record {
  listed = λ db xs single zipped.
      let (x, there, shows) = entry_shown db rows xs place row zipped lt is in
      let taken : take (place + 1) xs ≡ take place xs ++ x ∷ [] =
      take_more xs place x (slice_get_within xs place x there) ∙ ap (λ y. take place xs ++ y ∷ []) (get_or_from_slice_get xs place x x there) in
      subst (λ s. AllZip (IsSharingRow xs) s (take (place + 1) xs)) (sym all)
      (subst (λ ys. AllZip (IsSharingRow xs) (sharing ++ one ∷ []) ys) (sym taken)
      (zip_push (IsSharingRow xs) sharing (take place xs) one x (so_far.listed db xs single zipped) (shown db xs x single (so_far.noted db xs zipped) there shows)));
  noted = λ db xs zipped.
      let (x, there, shows) = entry_shown db rows xs place row zipped lt is in
      noted db xs x (so_far.noted db xs zipped) there shows;
}

pub all_read : (rows : List Row) (place : ℕ) (sharing : List SharingRow) (firsts : BTreeMap (List ℕ) ℕ) → length rows ≤ place → SharingSoFar rows place sharing firsts
    → (db : Trees) (xs : List Entry) → HaveOneContent db → AllZip (Shows db) rows xs → AreSharing sharing xs
all_read rows place sharing firsts whole so_far db xs single zipped =
    subst (λ ys. AllZip (IsSharingRow xs) sharing ys) (take_all place xs (omega (arith, whole, zip_long (Shows db) rows xs zipped))) (so_far.listed db xs single zipped)
