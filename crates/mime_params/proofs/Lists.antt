-- Words and parameters, one by one.
use Rattle.std.proofs.Common.{◌≡◌, ◌≢◌, ℕ, zero, suc, ◌+◌, ◌<◌, ◌≤◌, ◌==◌, Bool, true, false, cond, List, [], ◌∷◌, ◌++◌, Option, Some, None, option_map, length, drop, get_or, refl, sym, ap, subst, ◌∙◌, inl, inr, arith}
use Rattle.std.specs.Prelude.{MatchOption, bytes_eq}
use Rattle.std.proofs.lemmas.Slice.Eq.{bytes_eq-Decides}
use Rattle.std.proofs.lemmas.Bool.{cases_eq, cases_Bool, ne_eqb}
use Rattle.std.specs.List.{take_while}
use Rattle.std.proofs.lemmas.List.{append_assoc, length-drop, drop_more}
use Rattle.octets.specs.Ascii.{lowercase_of}
use Rattle.mime_params.specs.declared.params.Parameter.{Parameter}
use Rattle.mime_params.specs.Gaps.{after_gap}
use Rattle.mime_params.specs.Words.{Word, with_octet, quoted, word, value, is_value_octet, is_token_octet}
use Rattle.mime_params.specs.Reading.{after_word, with_prefix, is_empty_param}
use Rattle.mime_params.specs.MediaValue.{◌>>=◌, ReadParam, after_octet, token, param_at, before_others, after_semicolon, params_of, params_in, value_named}
use Rattle.mime_params.proofs.Gaps.{gap_shorter}

-- one more octet of a word
pub prefix_more : (octets : List ℕ) (c : ℕ) (o : Option Word) → option_map (with_prefix octets) (option_map (with_octet c) o) ≡ option_map (with_prefix (octets ++ c ∷ [])) o
prefix_more octets c None = refl
prefix_more octets c (Some w) = ap (λ l. Some (record { octets = l; rest = w.rest })) (sym (append_assoc octets (c ∷ []) w.octets))

pub quoted_octet : (c : ℕ) (more : List ℕ) → c ≢ 34 → c ≢ 92 → quoted (c ∷ more) ≡ option_map (with_octet c) (quoted more)
quoted_octet c [] q b = rw (ne_eqb c 34 q) refl
quoted_octet c (d ∷ rest) q b = rw (ne_eqb c 34 q, ne_eqb c 92 b) refl

-- one more octet of a quoted string
pub quoted_more : (text octets : List ℕ) (c : ℕ) (rest more : List ℕ) → quoted text ≡ option_map (with_prefix octets) (quoted rest) → quoted rest ≡ option_map (with_octet c) (quoted more)
    → quoted text ≡ option_map (with_prefix (octets ++ c ∷ [])) (quoted more)
quoted_more text octets c rest more so_far e = so_far ∙ ap (option_map (with_prefix octets)) e ∙ prefix_more octets c (quoted more)

-- ---- lengths of what follows

abbrev Left : List ℕ → Option Word → Type 0
Left text o = MatchOption o (Unit {0}) (λ w. length w.rest ≤ length text)

drop_le : (n : ℕ) (text : List ℕ) → length (drop n text) ≤ length text
drop_le n text = omega (arith, length-drop n text)

word_left : (passes : ℕ → Bool) (text : List ℕ) → Left text (word passes text)
word_left passes text =
    elim (cases_eq (length (take_while passes text)) 0) [
      | inl none ↦ rw none tt
      | inr some ↦ rw (ne_eqb (length (take_while passes text)) 0 some) (drop_le (length (take_while passes text)) text)
    ]

more_left : (text more : List ℕ) (o : Option Word) (c : ℕ) → length more ≤ length text → Left more o → Left text (option_map (with_octet c) o)
more_left text more None c le h = tt
more_left text more (Some w) c le h = omega arith

quoted_left : (text : List ℕ) → Left text (quoted text)
quoted_left [] = tt
quoted_left (c ∷ []) =
    elim (cases_eq c 34) [
      | inl ends ↦ rw ends (omega arith)
      | inr other ↦ rw (ne_eqb c 34 other) tt
    ]
quoted_left (c ∷ d ∷ rest) =
    elim (cases_eq c 34) [
      | inl ends ↦ rw ends (omega arith)
      | inr other ↦ elim (cases_eq c 92) [
        | inl back ↦ rw back (more_left (c ∷ d ∷ rest) rest (quoted rest) d (omega arith) (quoted_left rest))
        | inr plain ↦ rw (ne_eqb c 34 other, ne_eqb c 92 plain) (more_left (c ∷ d ∷ rest) (d ∷ rest) (quoted (d ∷ rest)) c (omega arith) (quoted_left (d ∷ rest)))
      ]
    ]

longer_left : (text more : List ℕ) (o : Option Word) → length more ≤ length text → Left more o → Left text o
longer_left text more None le h = tt
longer_left text more (Some w) le h = omega arith

value_left : (text : List ℕ) → Left text (value text)
value_left [] = tt
value_left (c ∷ rest) =
    elim (cases_eq c 34) [
      | inl quote ↦ rw quote (longer_left (c ∷ rest) rest (quoted rest) (omega arith) (quoted_left rest))
      | inr other ↦ subst (λ b. Left (c ∷ rest) (cond b (quoted rest) (word is_value_octet (c ∷ rest)))) (sym (ne_eqb c 34 other)) (word_left is_value_octet (c ∷ rest))
    ]

octet_left : (octet : ℕ) (text : List ℕ) → MatchOption (after_octet octet text) (Unit {0}) (λ rest. length rest ≤ length text)
octet_left octet [] = tt
octet_left octet (c ∷ rest) =
    elim (cases_Bool (c == octet)) [
      | inl same ↦ rw same (omega arith)
      | inr other ↦ rw other tt
    ]

abbrev ParamLeft : List ℕ → Option ReadParam → Type 0
ParamLeft text o = MatchOption o (Unit {0}) (λ p. length p.rest ≤ length text)

param_left : (text : List ℕ) → ParamLeft text (param_at text)
unfolding param_at
param_left text = names (token text) (word_left is_token_octet text)
  where
    values : (name : Word) (after : List ℕ) → length after ≤ length text → (o : Option Word) → Left (after_gap after) o
        → ParamLeft text (o >>= (λ given. Some (record { param = record { name = name.octets; value = given.octets }; rest = given.rest })))
    values name after le None h = tt
    values name after le (Some given) h = omega (arith, gap_shorter (length after) after)

    signs : (name : Word) → length name.rest ≤ length text → (o : Option (List ℕ)) → MatchOption o (Unit {0}) (λ rest. length rest ≤ length (after_gap name.rest))
        → ParamLeft text (o >>= (λ after. value (after_gap after) >>= (λ given. Some (record { param = record { name = name.octets; value = given.octets }; rest = given.rest }))))
    signs name le None h = tt
    signs name le (Some after) h = values name after (omega (arith, gap_shorter (length name.rest) name.rest)) (value (after_gap after)) (value_left (after_gap after))

    names : (o : Option Word) → Left text o
        → ParamLeft text (o >>= (λ name. after_octet 61 (after_gap name.rest) >>= (λ after. value (after_gap after) >>= (λ given. Some (record { param = record { name = name.octets; value = given.octets }; rest = given.rest })))))
    names None h = tt
    names (Some name) h = signs name h (after_octet 61 (after_gap name.rest)) (octet_left 61 (after_gap name.rest))

-- ---- enough octets are enough

semicolon_enough : (n m : ℕ) (rest body : List ℕ) → length body ≤ length rest → ((more : List ℕ) → length more ≤ length rest → params_of n more ≡ params_of m more)
    → after_semicolon body (λ more. params_of n more) ≡ after_semicolon body (λ more. params_of m more)
semicolon_enough n m rest [] le more = refl
semicolon_enough n m rest (d ∷ body) le more =
    elim (cases_Bool (d == 59)) [
      | inl empty ↦ rw empty (more (d ∷ body) le)
      | inr some ↦ rw some (others (param_at (d ∷ body)) (param_left (d ∷ body)))
    ]
  where
    others : (o : Option ReadParam) → ParamLeft (d ∷ body) o → before_others o (λ t. params_of n t) ≡ before_others o (λ t. params_of m t)
    others None h = refl
    others (Some p) h = ap (λ ps. p.param ∷ ps) (more (after_gap p.rest) (omega (arith, gap_shorter (length p.rest) p.rest, h)))

params_enough : (n m : ℕ) (text : List ℕ) → length text ≤ n → length text ≤ m → params_of n text ≡ params_of m text
params_enough zero zero text le le' = refl
params_enough zero (suc m) [] le le' = refl
params_enough zero (suc m) (c ∷ rest) le le' = absurd (omega arith)
params_enough (suc n) zero [] le le' = refl
params_enough (suc n) zero (c ∷ rest) le le' = absurd (omega arith)
params_enough (suc n) (suc m) [] le le' = refl
params_enough (suc n) (suc m) (c ∷ rest) le le' =
    elim (cases_Bool (c == 59)) [
      | inl semi ↦ rw semi (semicolon_enough n m rest (after_gap rest) (gap_shorter (length rest) rest) (λ more short. params_enough n m more (omega arith) (omega arith)))
      | inr other ↦ rw other refl
    ]

-- ---- one parameter more

pub params_empty : (more : List ℕ) → is_empty_param (after_gap more) ≡ true → params_in (59 ∷ more) ≡ params_in (after_gap more)
params_empty more empty = go (after_gap more) (gap_shorter (length more) more) empty
  where
    go : (body : List ℕ) → length body ≤ length more → is_empty_param body ≡ true → after_semicolon body (λ t. params_of (length more) t) ≡ params_in body
    go [] le e = refl
    go (d ∷ body) le e =
        subst (λ b. cond b (params_of (length more) (d ∷ body)) (before_others (param_at (d ∷ body)) (λ t. params_of (length more) t)) ≡ params_in (d ∷ body)) (sym e)
        (params_enough (length more) (length (d ∷ body)) (d ∷ body) le (omega arith))

pub params_one : (more : List ℕ) (read : ReadParam) → is_empty_param (after_gap more) ≡ false → param_at (after_gap more) ≡ Some read → params_in (59 ∷ more) ≡ read.param ∷ params_in (after_gap read.rest)
params_one more read some e = go (after_gap more) (gap_shorter (length more) more) some e
  where
    go : (body : List ℕ) → length body ≤ length more → is_empty_param body ≡ false → param_at body ≡ Some read → after_semicolon body (λ t. params_of (length more) t) ≡ read.param ∷ params_in (after_gap read.rest)
    go [] le f e = absurd (cc)
    go (d ∷ body) le f e =
        let left : ParamLeft (d ∷ body) (Some read) = subst (ParamLeft (d ∷ body)) e (param_left (d ∷ body)) in
        let short = gap_shorter (length read.rest) read.rest in
        rw (f, e) (ap (λ ps. read.param ∷ ps) (params_enough (length more) (length (after_gap read.rest)) (after_gap read.rest) (omega (arith, short, left)) (omega arith)))

-- what follows a parameter, after a gap, is shorter than what follows its semicolon
pub param_shorter : (more : List ℕ) (read : ReadParam) → param_at (after_gap more) ≡ Some read → length (after_gap read.rest) ≤ length more
param_shorter more read e =
    let left : ParamLeft (after_gap more) (Some read) = subst (ParamLeft (after_gap more)) e (param_left (after_gap more)) in
    omega (arith, gap_shorter (length more) more, gap_shorter (length read.rest) read.rest, left)

-- ---- a parameter by its name

pub named_here : (name : List ℕ) (p : Parameter) (ps : List Parameter) → lowercase_of p.name ≡ lowercase_of name → value_named name (p ∷ ps) ≡ Some p.value
named_here name p ps e = rw ((bytes_eq-Decides (lowercase_of p.name) (lowercase_of name)).1 e) refl

pub named_later : (name : List ℕ) (p : Parameter) (ps : List Parameter) → (lowercase_of p.name ≡ lowercase_of name → ⊥) → value_named name (p ∷ ps) ≡ value_named name ps
named_later name p ps ne =
    elim (cases_Bool (bytes_eq (lowercase_of p.name) (lowercase_of name))) [
      | inl same ↦ absurd (ne ((bytes_eq-Decides (lowercase_of p.name) (lowercase_of name)).0 same))
      | inr other ↦ rw other refl
    ]

-- the parameter at a place, and those after it
pub named_at : (name : List ℕ) (ps : List Parameter) (i : ℕ) (p : Parameter) → i < length ps → p ≡ get_or ps i p → lowercase_of p.name ≡ lowercase_of name → value_named name (drop i ps) ≡ Some p.value
named_at name ps i p lt e same =
    ap (value_named name) (drop_more ps i p lt ∙ ap (λ (q : Parameter). q ∷ drop (i + 1) ps) (sym e)) ∙ named_here name p (drop (i + 1) ps) same

pub named_after : (name : List ℕ) (ps : List Parameter) (i : ℕ) (p : Parameter) → i < length ps → p ≡ get_or ps i p → (lowercase_of p.name ≡ lowercase_of name → ⊥) → value_named name (drop i ps) ≡ value_named name (drop (i + 1) ps)
named_after name ps i p lt e other =
    ap (value_named name) (drop_more ps i p lt ∙ ap (λ (q : Parameter). q ∷ drop (i + 1) ps) (sym e)) ∙ named_later name p (drop (i + 1) ps) other

-- what follows a quoted string is the same after one more octet
pub after_octet_of : (o : Option Word) (c : ℕ) → after_word (option_map (with_octet c) o) ≡ after_word o
after_octet_of None c = refl
after_octet_of (Some w) c = refl
