-- Words and their numbers.
use Rattle.std.proofs.Common.{◌≡◌, ℕ, zero, suc, ◌+◌, ◌<◌, Bool, cond, nat_lt, List, [], ◌∷◌, map, length, Option, Some, None, refl, sym, ap, subst, ◌∙◌, codes}
use Rattle.std.specs.Prelude.{bytes_eq, get_or, not}
use Rattle.std.specs.Option.{IfSome}
use Rattle.std.specs.Borrow.{Bor}
use Rattle.std.specs.List.{position, position_or_len}
use Rattle.std.proofs.lemmas.List.{length-map}
use Rattle.std.proofs.lemmas.List.Quantifiers.{position-Some}
use Rattle.std.proofs.lemmas.Option.{slice_get-get_or}
use Rattle.std.proofs.lemmas.Slice.Eq.{bytes_eq-Decides}
use Rattle.bytecode_listing.specs.Wording.{words, word_of, number_of}
use Rattle.bytecode_listing.specs.declared.wording.Facet.{Facet}
use Rattle.bytecode_listing.specs.declared.wording.Facet.TheVariants.{Match, Comparator, Scope, Selector}

-- the first place in a list that is seen by a view
place_seen : {X Y : Type 0} (view : X → Y) (p : Y → Bool) (xs : List X) → position_or_len p (map view xs) ≡ position_or_len (λ x. p (view x)) xs
place_seen view p [] = refl
place_seen view p (x ∷ xs) = ap (λ n. cond (not (p (view x))) (1 + n) 0) (place_seen view p xs)

pub position_seen : {X Y : Type 0} (view : X → Y) (p : Y → Bool) (xs : List X) → position p (map view xs) ≡ position (λ x. p (view x)) xs
position_seen view p xs =
    let long : length (map view xs) ≡ length xs = length-map xs view in
    ap (λ n. cond (nat_lt n (length (map view xs))) (Some n) None) (place_seen view p xs)
    ∙ ap (λ n. cond (nat_lt (position_or_len (λ x. p (view x)) xs) n) (Some (position_or_len (λ x. p (view x)) xs)) None) long

-- the word of a number's word
is_number : (facet : Facet) (n : ℕ) (listed word : List ℕ) → Some listed ≡ Some word → number_of facet listed ≡ Some n → number_of facet word ≡ Some n
is_number facet n listed word e h = let same : listed ≡ word = cc in subst (λ w. number_of facet w ≡ Some n) same h

pub numbered : (facet : Facet) (n : ℕ) (word : List ℕ) → word_of facet n ≡ Some word → number_of facet word ≡ Some n
numbered Match zero word e = is_number Match 0 (codes "is") word e refl
numbered Match (suc zero) word e = is_number Match 1 (codes "contains") word e refl
numbered Match (suc (suc zero)) word e = is_number Match 2 (codes "matches") word e refl
numbered Match (suc (suc (suc n))) word e = absurd cc
numbered Comparator zero word e = is_number Comparator 0 (codes "casemap") word e refl
numbered Comparator (suc zero) word e = is_number Comparator 1 (codes "octet") word e refl
numbered Comparator (suc (suc n)) word e = absurd cc
numbered Scope zero word e = is_number Scope 0 (codes "message") word e refl
numbered Scope (suc zero) word e = is_number Scope 1 (codes "part") word e refl
numbered Scope (suc (suc zero)) word e = is_number Scope 2 (codes "below") word e refl
numbered Scope (suc (suc (suc n))) word e = absurd cc
numbered Selector zero word e = is_number Selector 0 (codes "value") word e refl
numbered Selector (suc zero) word e = is_number Selector 1 (codes "type") word e refl
numbered Selector (suc (suc zero)) word e = is_number Selector 2 (codes "subtype") word e refl
numbered Selector (suc (suc (suc zero))) word e = is_number Selector 3 (codes "contenttype") word e refl
numbered Selector (suc (suc (suc (suc zero)))) word e = is_number Selector 4 (codes "param") word e refl
numbered Selector (suc (suc (suc (suc (suc n))))) word e = absurd cc

-- the number's word is the word
pub named : (facet : Facet) (n : ℕ) (word : List ℕ) → number_of facet word ≡ Some n → word_of facet n ≡ Some word
named facet n word e =
    let found = position-Some (λ listed. bytes_eq listed word) (words facet) n [] e in
    slice_get-get_or (words facet) n [] found.0 ∙ ap (λ (w : List ℕ). Some w) ((bytes_eq-Decides (get_or (words facet) n []) word).0 found.1)

pub both_ways : (facet : Facet) (n : ℕ) (word : List ℕ) → (word_of facet n ≡ Some word → number_of facet word ≡ Some n) × (number_of facet word ≡ Some n → word_of facet n ≡ Some word)
both_ways facet n word = (numbered facet n word, named facet n word)

-- a word that is listed isn't longer than the list
pub number_small : (facet : Facet) (n : ℕ) (word : List ℕ) → number_of facet word ≡ Some n → n < length (words facet)
number_small facet n word e = (position-Some (λ listed. bytes_eq listed word) (words facet) n [] e).0

-- the place among borrowed words is the number
pub number_seen : (facet : Facet) (word : List ℕ) (listed : List (Bor (List ℕ))) → map (λ (w : Bor (List ℕ)). w.now) listed ≡ words facet
    → (found : Option ℕ) → found ≡ position (λ (w : Bor (List ℕ)). bytes_eq w.now word) listed → found ≡ number_of facet word
number_seen facet word listed e found h =
    h ∙ sym (position_seen (λ (w : Bor (List ℕ)). w.now) (λ (l : List ℕ). bytes_eq l word) listed) ∙ ap (position (λ (l : List ℕ). bytes_eq l word)) e

pub seen_small : (facet : Facet) (word : List ℕ) (found : Option ℕ) → found ≡ number_of facet word → IfSome found (λ n. n < length (words facet))
seen_small facet word None h = tt
seen_small facet word (Some n) h = number_small facet n word (sym h)
