-- Texts of a type and nothing else.
use Rattle.std.proofs.Common.{◌≡◌, ◌≢◌, ℕ, ◌==◌, Bool, true, false, cond, List, [], ◌∷◌, ◌++◌, Option, Some, None, option_map, length, drop, refl, sym, ap, ◌∙◌, inl, inr, subst, arith}
use Rattle.std.specs.List.{take_while}
use Rattle.std.proofs.lemmas.Bool.{cases_eq, cases_Bool, ne_eqb, true≢false}
use Rattle.std.proofs.lemmas.List.{append-nil}
use Rattle.std.proofs.Math.Seq.{drop-append_seam}
use Rattle.std.proofs.lemmas.List.Sums.{take_while-cons}
use Rattle.octets.specs.Blank.{is_blank}
use Rattle.mime_params.specs.Gaps.{after_gap}
use Rattle.mime_params.specs.Words.{Word, word, is_token_octet}
use Rattle.mime_params.specs.MediaValue.{after_octet, disposition_name, token, type_names}
use Rattle.mime_params.proofs.Beginnings.{sub_named, slash_named, named, names_are, name_is}
use Rattle.mime_params.proofs.Gaps.{gap_none}

-- ---- tokens

-- an octet of a token begins no gap
solid : (c : ℕ) → is_token_octet c ≡ true → is_blank c ≡ false
solid c passes = elim (cases_eq c 32) [
  | inl space ↦ absurd (true≢false (sym (rw space at passes)))
  | inr no_space ↦ elim (cases_eq c 9) [
    | inl tab ↦ absurd (true≢false (sym (rw tab at passes)))
    | inr no_tab ↦ rw (ne_eqb c 32 no_space, ne_eqb c 9 no_tab) refl
  ]
]

no_bracket : (c : ℕ) → is_token_octet c ≡ true → c ≢ 40
no_bracket c passes = λ bracket. true≢false (sym (rw bracket at passes))

-- octets that were taken are taken again, where what follows begins with none
taken_again : (p : ℕ → Bool) (text rest : List ℕ) → take_while p rest ≡ [] → take_while p (take_while p text ++ rest) ≡ take_while p text
taken_again p [] rest none = none
taken_again p (c ∷ text) rest none = elim (cases_Bool (p c)) [
  | inl passes ↦
      let first : take_while p (c ∷ text) ≡ c ∷ take_while p text = take_while-cons p c text ∙ ap (λ b. cond b (c ∷ take_while p text) []) passes in
      ap (λ t. take_while p (t ++ rest)) first
      ∙ take_while-cons p c (take_while p text ++ rest)
      ∙ ap (λ b. cond b (c ∷ take_while p (take_while p text ++ rest)) []) passes
      ∙ ap (λ t. c ∷ t) (taken_again p text rest none)
      ∙ sym first
  | inr stops ↦
      let nothing : take_while p (c ∷ text) ≡ [] = take_while-cons p c text ∙ ap (λ b. cond b (c ∷ take_while p text) []) stops in
      ap (λ t. take_while p (t ++ rest)) nothing ∙ none ∙ sym nothing
]

-- a word that was read: its first octet, and the same word before other octets
record IsWord (p : ℕ → Bool) (w : Word) : Type 0 where
  pub first : ℕ
  pub more : List ℕ
  pub octets : w.octets ≡ first ∷ more
  pub passes : p first ≡ true
  pub again : (rest : List ℕ) → take_while p rest ≡ [] → word p (w.octets ++ rest) ≡ Some (record { octets = w.octets; rest = rest })

taken : (p : ℕ → Bool) (text octets : List ℕ) → take_while p text ≡ octets → (c : ℕ) (more : List ℕ) → octets ≡ c ∷ more → p c ≡ true
taken p [] octets is c more first = absurd (nothing (is ∙ first))
  where
    nothing : [] ≡ c ∷ more → ⊥
    nothing h = cc
taken p (d ∷ text) octets is c more first = elim (cases_Bool (p d)) [
  | inl passes ↦ same (sym (take_while-cons p d text ∙ ap (λ b. cond b (d ∷ take_while p text) []) passes) ∙ is ∙ first) passes
  | inr stops ↦ absurd (nothing (sym (take_while-cons p d text ∙ ap (λ b. cond b (d ∷ take_while p text) []) stops) ∙ is ∙ first))
]
  where
    same : d ∷ take_while p text ≡ c ∷ more → p d ≡ true → p c ≡ true
    same h passes = cc

    nothing : [] ≡ c ∷ more → ⊥
    nothing h = cc

some_octets : (c : ℕ) (more : List ℕ) → (length (c ∷ more) == 0) ≡ false
some_octets c more = ne_eqb (length (c ∷ more)) 0 (λ e. omega (arith, e))

word_again : (p : ℕ → Bool) (text : List ℕ) (rest : List ℕ) (octets : List ℕ) → take_while p text ≡ octets → (c : ℕ) (more : List ℕ) → octets ≡ c ∷ more → take_while p rest ≡ []
    → word p (octets ++ rest) ≡ Some (record { octets = octets; rest = rest })
word_again p text rest octets is c more first none =
    let again : take_while p (octets ++ rest) ≡ octets = ap (λ t. take_while p (t ++ rest)) (sym is) ∙ taken_again p text rest none ∙ is in
    ap (λ t. cond (length t == 0) None (Some (record { octets = t; rest = drop (length t) (octets ++ rest) }))) again
    ∙ ap (λ r. cond (length octets == 0) None (Some (record { octets = octets; rest = r }))) (drop-append_seam octets rest)
    ∙ ap (λ b. cond b None (Some (record { octets = octets; rest = rest }))) (ap (λ t. length t == 0) first ∙ some_octets c more)

is_word : (p : ℕ → Bool) (text octets : List ℕ) (w : Word) → take_while p text ≡ octets → cond (length octets == 0) None (Some (record { octets = octets; rest = drop (length octets) text })) ≡ Some w → IsWord p w
is_word p text [] w is e = absurd (nothing e)
  where
    nothing : None ≡ Some w → ⊥
    nothing h = cc
is_word p text (c ∷ more) w is e = record {
  first = c;
  more = more;
  octets = sym (same read);
  passes = taken p text (c ∷ more) is c more refl;
  again = λ rest none. subst (λ t. word p (t ++ rest) ≡ Some (record { octets = t; rest = rest })) (same read) (word_again p text rest (c ∷ more) is c more refl none);
}
  where
    read : Some (record { octets = c ∷ more; rest = drop (length (c ∷ more)) text }) ≡ Some w
    read = sym (ap (λ b. cond b None (Some (record { octets = c ∷ more; rest = drop (length (c ∷ more)) text }))) (some_octets c more)) ∙ e

    same : Some (record { octets = c ∷ more; rest = drop (length (c ∷ more)) text }) ≡ Some w → c ∷ more ≡ w.octets
    same h = cc

token_is : (text : List ℕ) (w : Word) → token text ≡ Some w → IsWord is_token_octet w
token_is text w e = is_word is_token_octet text (take_while is_token_octet text) w refl e

no_gap : (w : Word) (rest : List ℕ) → IsWord is_token_octet w → after_gap (w.octets ++ rest) ≡ w.octets ++ rest
no_gap w rest is =
    subst (λ t. after_gap (t ++ rest) ≡ t ++ rest) (sym is.octets) (gap_none is.first (is.more ++ rest) (solid is.first is.passes) (no_bracket is.first is.passes))

token_again : (w : Word) (rest : List ℕ) → IsWord is_token_octet w → take_while is_token_octet rest ≡ [] → token (after_gap (w.octets ++ rest)) ≡ Some (record { octets = w.octets; rest = rest })
token_again w rest is none = ap token (no_gap w rest is) ∙ is.again rest none

token_alone : (w : Word) → IsWord is_token_octet w → token (after_gap w.octets) ≡ Some (record { octets = w.octets; rest = [] })
token_alone w is = ap (λ t. token (after_gap t)) (sym (append-nil w.octets)) ∙ token_again w [] is refl

-- ---- types

-- a type with a slash and a subtype
written : (main sub : Word) → IsWord is_token_octet main → IsWord is_token_octet sub → type_names (main.octets ++ 47 ∷ sub.octets) ≡ Some (main.octets, sub.octets)
written main sub main_is sub_is =
    names_are (main.octets ++ 47 ∷ sub.octets)
    ∙ ap named (token_again main (47 ∷ sub.octets) main_is (take_while-cons is_token_octet 47 sub.octets))
    ∙ ap (λ t. slash_named (record { octets = main.octets; rest = 47 ∷ sub.octets }) (after_octet 47 t)) (gap_none 47 sub.octets refl (λ e. bracket e))
    ∙ ap (sub_named (record { octets = main.octets; rest = 47 ∷ sub.octets })) (token_alone sub sub_is)
  where
    bracket : ◌≡◌ {A = ℕ} 47 40 → ⊥
    bracket e = cc

sub_written : (main : Word) (text : List ℕ) (o : Option Word) (names : List ℕ × List ℕ) → IsWord is_token_octet main → token text ≡ o → sub_named main o ≡ Some names
    → type_names (names.0 ++ 47 ∷ names.1) ≡ Some (names.0, names.1)
sub_written main text None names main_is is e = absurd (nothing e)
  where
    nothing : None ≡ Some names → ⊥
    nothing h = cc
sub_written main text (Some sub) names main_is is e =
    subst (λ n. type_names (n.0 ++ 47 ∷ n.1) ≡ Some (n.0, n.1)) (same e) (written main sub main_is (token_is text sub is))
  where
    same : Some (main.octets, sub.octets) ≡ Some names → (main.octets, sub.octets) ≡ names
    same h = cc

slash_written : (main : Word) (o : Option (List ℕ)) (names : List ℕ × List ℕ) → IsWord is_token_octet main → slash_named main o ≡ Some names
    → type_names (names.0 ++ 47 ∷ names.1) ≡ Some (names.0, names.1)
slash_written main None names main_is e = absurd (nothing e)
  where
    nothing : None ≡ Some names → ⊥
    nothing h = cc
slash_written main (Some after) names main_is e = sub_written main (after_gap after) (token (after_gap after)) names main_is refl e

main_written : (text : List ℕ) (o : Option Word) (names : List ℕ × List ℕ) → token text ≡ o → named o ≡ Some names
    → type_names (names.0 ++ 47 ∷ names.1) ≡ Some (names.0, names.1)
main_written text None names is e = absurd (nothing e)
  where
    nothing : None ≡ Some names → ⊥
    nothing h = cc
main_written text (Some main) names is e = slash_written main (after_octet 47 (after_gap main.rest)) names (token_is text main is) e

-- the two names of a value, with a slash between them, have themselves as names
pub names_written : (text main sub : List ℕ) → type_names text ≡ Some (main, sub) → type_names (main ++ 47 ∷ sub) ≡ type_names text
names_written text main sub is = main_written (after_gap text) (token (after_gap text)) (main, sub) refl (sym (names_are text) ∙ is) ∙ sym is

-- ---- dispositions

octets_written : (text : List ℕ) (o : Option Word) (name : List ℕ) → token text ≡ o → option_map (λ (w : Word). w.octets) o ≡ Some name → disposition_name name ≡ Some name
octets_written text None name is e = absurd (nothing e)
  where
    nothing : None ≡ Some name → ⊥
    nothing h = cc
octets_written text (Some w) name is e =
    subst (λ n. disposition_name n ≡ Some n) (same e) (name_is w.octets ∙ ap (option_map (λ (w : Word). w.octets)) (token_alone w (token_is text w is)))
  where
    same : Some w.octets ≡ Some name → w.octets ≡ name
    same h = cc

-- the disposition of a value is its own
pub name_written : (text name : List ℕ) → disposition_name text ≡ Some name → disposition_name name ≡ disposition_name text
name_written text name is = octets_written (after_gap text) (token (after_gap text)) name refl (sym (name_is text) ∙ is) ∙ sym is

-- an empty text has no names
pub no_names : (text : List ℕ) → type_names text ≡ None → type_names [] ≡ type_names text
no_names text is = names_are [] ∙ sym is

pub no_name : (text : List ℕ) → disposition_name text ≡ None → disposition_name [] ≡ disposition_name text
no_name text is = name_is [] ∙ sym is
