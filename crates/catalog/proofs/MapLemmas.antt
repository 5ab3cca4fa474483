-- A map with one more value for a digest.
use Rattle.std.proofs.Common.{◌≡◌, ℕ, List, [], ◌∷◌, ◌++◌, Bool, true, false, cond, if◌then◌else◌, Option, Some, None, bytes_eq, is_eq, unwrap_or, refl, sym, ap, ◌∙◌}
use Rattle.std.specs.Cmp.Lexicographic.{slice_cmp}
use Rattle.std.specs.Global.{Vec}
use Rattle.std.specs.Option.{option_map_or}
use Rattle.std.specs.Ordering.{nat_cmp}
use Rattle.std.proofs.lemmas.List.{append-nil}
use Rattle.std.proofs.lemmas.Map.Text.{is_eq-slice_cmp}
use Rattle.std.proofs.lemmas.Slice.Eq.{bytes_eq-Decides}

module _ {X : Type 0} where
  abbrev items_of : Option (Vec X) → List X
  items_of list = option_map_or (λ l. l.items) list []

  or_empty : (list : Option (Vec X)) (empty : Vec X) → empty.items ≡ [] → (unwrap_or list empty).items ≡ items_of list
  or_empty None empty none = none
  or_empty (Some list) empty none = refl

  chosen : (b : Bool) (here there between after : Option (Vec X)) (list empty : Vec X) (value : X) → (b ≡ true → here ≡ there)
      → after ≡ cond b (Some list) between → between ≡ cond b None there
      → list.items ≡ (unwrap_or here empty).items ++ value ∷ [] → empty.items ≡ []
      → items_of after ≡ items_of there ++ (if b then value ∷ [] else [])
  chosen true here there between after list empty value same put removed pushed none =
      ap items_of put ∙ pushed ∙ ap (λ l. l ++ value ∷ []) (ap (λ l. (unwrap_or l empty).items) (same refl) ∙ or_empty there empty none)
  chosen false here there between after list empty value same put removed pushed none =
      ap items_of (put ∙ removed) ∙ sym (append-nil (items_of there))

  -- what a map has for a digest, after the values of one were taken from it and put back with one more
  pub with_value : (digest other : List ℕ) (here : List ℕ → Option (Vec X)) (between after : Option (Vec X)) (list empty : Vec X) (value : X)
      → after ≡ cond (is_eq (slice_cmp nat_cmp digest other)) (Some list) between
      → between ≡ cond (is_eq (slice_cmp nat_cmp digest other)) None (here other)
      → list.items ≡ (unwrap_or (here digest) empty).items ++ value ∷ [] → empty.items ≡ []
      → items_of after ≡ items_of (here other) ++ (if bytes_eq digest other then value ∷ [] else [])
  with_value digest other here between after list empty value put removed pushed none =
      let test = is_eq-slice_cmp digest other in
      chosen (bytes_eq digest other) (here digest) (here other) between after list empty value (λ hit. ap here ((bytes_eq-Decides digest other).0 hit))
      (put ∙ ap (λ b. cond b (Some list) between) test) (removed ∙ ap (λ b. cond b None (here other)) test) pushed none
