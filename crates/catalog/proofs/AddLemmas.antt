-- An index with one more message.
use Rattle.std.proofs.Common.{◌≡◌, ℕ, List, [], ◌∷◌, ◌++◌, true, false, true≢false, if◌then◌else◌, Option, Some, None, Result, Ok, Err, OnOk, length, option_map, refl, sym, ap, ◌∙◌, arith}
use Rattle.std.specs.BTreeMap.{BTreeMap, btree_map_len, is_at}
use Rattle.std.specs.Cmp.Lexicographic.{slice_cmp}
use Rattle.std.specs.Global.{Vec}
use Rattle.std.specs.List.{cons_option}
use Rattle.std.specs.Map.{lookup}
use Rattle.std.specs.Option.{option_map_or}
use Rattle.std.specs.Ordering.{nat_cmp}
use Rattle.std.proofs.lemmas.List.{nil_from_length}
use Rattle.std.proofs.lemmas.List.Elements.{filter_map-append}
use Rattle.std.proofs.lemmas.Slice.Eq.{bytes_eq-Decides}
use Rattle.catalog.specs.Adding.{first_with}
use Rattle.catalog.specs.Index.{found, is_stored, slots_from}
use Rattle.catalog.specs.Stored.{Numbered, digests_of, message_place, messages_with, place_of}
use Rattle.catalog.specs.declared.entry.PartEntry.{PartEntry}
use Rattle.catalog.specs.declared.entry.Place.{Place}

pub always : {T E : Type 0} (result : Result T E) (P : Type 0) → P → OnOk result P
always (Ok x) P p = p
always (Err e) P p = tt

first_alone : (G : ℕ → Place) (place : Option ℕ) → cons_option (option_map G place) [] ≡ option_map_or (λ part. G part ∷ []) place []
first_alone G None = refl
first_alone G (Some part) = refl

pub one_more_message : (digest : List ℕ) (messages : List Numbered) (message : Numbered)
    → messages_with digest messages ++ first_with message.number (message.digests) digest ≡ messages_with digest (messages ++ message ∷ [])
one_more_message digest messages message =
    sym (
    filter_map-append (message_place digest) messages (message ∷ [])
    ∙ ap (λ l. messages_with digest messages ++ l) (first_alone (λ part. record { number = message.number; part = part }) (place_of (message.digests) digest))
    )
