-- Values of which only the beginning is at hand.
use Rattle.std.proofs.Common.{IsTrue, not, ◌≡◌, ◌≢◌, ℕ, zero, suc, ◌+◌, ◌-◌, ◌<◌, ◌≤◌, ◌==◌, Bool, true, false, cond, List, [], ◌∷◌, ◌++◌, Option, Some, None, option_map, length, drop, take, refl, sym, ap, ◌∙◌, inl, inr, arith}
use Rattle.std.specs.List.{prefix_len, take_while}
use Rattle.std.proofs.lemmas.Bool.{cases_eq, cases_Bool, eqb-true, ne_eqb}
use Rattle.std.proofs.lemmas.List.{append-nil, drop-append-le, length-drop, take-append-le}
use Rattle.std.proofs.lemmas.List.Folds.{length-prefix_len, prefix_len-append}
use Rattle.octets.specs.Blank.{is_blank}
use Rattle.mime_params.specs.declared.media.Disposition.{Disposition}
use Rattle.mime_params.specs.Gaps.{after_comment, after_gap}
use Rattle.mime_params.specs.Words.{Word, word, is_token_octet}
use Rattle.mime_params.specs.MediaValue.{◌>>=◌, after_octet, disposition_name, disposition_of, media_type_of, names_of, params_in, token, type_names, SettlesDisposition, SettlesType}
use Rattle.mime_params.specs.Reading.{GapEnds, TokenEnds, with_rest}
use Rattle.mime_params.proofs.Gaps.{closed_shorter, comment_ends, gap_blank, gap_comment, gap_none, gap_open}

-- ---- gaps

-- a comment that is closed is so whatever follows
pub comment_with : (depth : ℕ) (text more after : List ℕ) → after_comment depth text ≡ Some after → after_comment depth (text ++ more) ≡ Some (after ++ more)
comment_with depth [] more after e = absurd (cc)
comment_with depth (c ∷ []) more after e =
    elim (cases_eq c 41) [
      | inl close ↦ elim (cases_eq depth 0) [
        | inl none ↦
            ap (λ x. after_comment depth (x ∷ more)) close ∙ ap (λ k. after_comment k (41 ∷ more)) none ∙ comment_ends more
            ∙ ap (λ o. option_map (λ t. t ++ more) o) (rw (close, none) at e)
        | inr some ↦ absurd (no_end (rw (close, ne_eqb depth 0 some) at e))
      ]
      | inr other ↦ absurd (no_end (rw (ne_eqb c 41 other) at e))
    ]
  where
    no_end : None ≡ Some after → ⊥
    no_end h = cc
comment_with depth (c ∷ d ∷ rest) more after e =
    elim (cases_eq c 41) [
      | inl close ↦ elim (cases_eq depth 0) [
        | inl none ↦ rw (close, none) (ap (λ o. option_map (λ t. t ++ more) o) (rw (close, none) at e))
        | inr some ↦ rw (close, ne_eqb depth 0 some) (comment_with (depth - 1) (d ∷ rest) more after (rw (close, ne_eqb depth 0 some) at e))
      ]
      | inr other ↦ elim (cases_eq c 92) [
        | inl back ↦ rw back (comment_with depth rest more after (rw back at e))
        | inr plain ↦ elim (cases_eq c 40) [
          | inl open_bracket ↦ rw open_bracket (comment_with (depth + 1) (d ∷ rest) more after (rw open_bracket at e))
          | inr none ↦ rw (ne_eqb c 41 other, ne_eqb c 92 plain, ne_eqb c 40 none) (comment_with depth (d ∷ rest) more after (rw (ne_eqb c 41 other, ne_eqb c 92 plain, ne_eqb c 40 none) at e))
        ]
      ]
    ]

-- a gap that something follows in the text, which is no comment that is open, ends there
pub gap_with : (n : ℕ) (text : List ℕ) (c : ℕ) (rest : List ℕ) → length text ≤ n → after_gap text ≡ c ∷ rest → c ≢ 40 → (more : List ℕ) → after_gap (text ++ more) ≡ c ∷ rest ++ more
gap_with n [] c rest le e other more = absurd (cc)
gap_with zero (d ∷ text) c rest le e other more = absurd (omega arith)
gap_with (suc n) (d ∷ text) c rest le e other more =
    elim (cases_Bool (is_blank d)) [
      | inl blank ↦ gap_blank d (text ++ more) blank ∙ gap_with n text c rest (omega arith) (sym (gap_blank d text blank) ∙ e) other more
      | inr solid ↦ elim (cases_eq d 40) [
        | inl bracket ↦ comments (λ after le e. gap_with n after c rest le e other more) (after_comment 0 text) refl bracket
        | inr plain ↦ gap_none d (text ++ more) solid plain ∙ ap (λ t. t ++ more) (sym (gap_none d text solid plain) ∙ e)
      ]
    ]
  where
    first_is : d ∷ text ≡ c ∷ rest → d ≡ c
    first_is h = cc

    comments : ((after : List ℕ) → length after ≤ n → after_gap after ≡ c ∷ rest → after_gap (after ++ more) ≡ c ∷ rest ++ more)
        → (o : Option (List ℕ)) → after_comment 0 text ≡ o → d ≡ 40 → after_gap (d ∷ (text ++ more)) ≡ c ∷ rest ++ more
    comments on None is bracket = absurd (other (sym (first_is (ap (λ x. x ∷ text) bracket ∙ sym (gap_open text is) ∙ sym (ap (λ x. after_gap (x ∷ text)) bracket) ∙ e)) ∙ bracket))
    comments on (Some after) is bracket =
        ap (λ x. after_gap (x ∷ (text ++ more))) bracket
        ∙ gap_comment (text ++ more) (after ++ more) (comment_with 0 text more after is)
        ∙ on after (omega (arith, closed_shorter text after is)) (sym (gap_comment text after is) ∙ sym (ap (λ x. after_gap (x ∷ text)) bracket) ∙ e)

-- ---- tokens

pub token_with : (passes : ℕ → Bool) (text more : List ℕ) → 0 < length (drop (length (take_while passes text)) text)
    → (take_while passes (text ++ more) ≡ take_while passes text) × (drop (length (take_while passes text)) (text ++ more) ≡ drop (length (take_while passes text)) text ++ more)
token_with passes text more some =
    let n = prefix_len passes text in
    let length_is : length (take_while passes text) ≡ n = length-prefix_len passes text in
    let lt : n < length text = omega (arith, length_is, some, length-drop (length (take_while passes text)) text) in
    let same : prefix_len passes (text ++ more) ≡ n = prefix_len-append passes text more ∙ ap (λ b. cond b (length text + prefix_len passes more) n) (ne_eqb n (length text) (λ e. omega arith)) in
    let le : n ≤ length text = omega arith in
    (ap (λ k. take k (text ++ more)) same ∙ take-append-le n text more le, rw length_is (drop-append-le n text more le))

pub word_with : (passes : ℕ → Bool) (text more : List ℕ) → 0 < length (drop (length (take_while passes text)) text)
    → word passes (text ++ more) ≡ option_map (with_rest more) (word passes text)
word_with passes text more some =
    let on = token_with passes text more some in
    rw (on.0, on.1) (elim (length (take_while passes text) == 0) as (λ b. cond b None (Some (record { octets = take_while passes text; rest = drop (length (take_while passes text)) text ++ more }))
    ≡ option_map (with_rest more) (cond b None (Some (record { octets = take_while passes text; rest = drop (length (take_while passes text)) text })))) [ true ↦ refl | false ↦ refl ])

word_ends : (passes : ℕ → Bool) (text : List ℕ) (w : Word) → word passes text ≡ Some w → w.rest ≡ drop (length (take_while passes text)) text
word_ends passes text w e = elim (cases_Bool (length (take_while passes text) == 0)) [
  | inl none ↦ absurd (no_word (rw none at e))
  | inr some ↦ same_rest (rw some at e)
]
  where
    no_word : None ≡ Some w → ⊥
    no_word h = cc

    same_rest : Some (record { octets = take_while passes text; rest = drop (length (take_while passes text)) text }) ≡ Some w → w.rest ≡ drop (length (take_while passes text)) text
    same_rest h = cc

no_word_none : (passes : ℕ → Bool) (text : List ℕ) → word passes text ≡ None → length (take_while passes text) ≡ 0
no_word_none passes text e = elim (cases_Bool (length (take_while passes text) == 0)) [
  | inl none ↦ eqb-true _ _ none
  | inr some ↦ absurd (some_word (rw some at e))
]
  where
    some_word : {w : Word} → Some w ≡ None → ⊥
    some_word h = cc

-- a token ends where something follows it
pub ends_before : (text rest octets : List ℕ) → token text ≡ Some (record { octets = octets; rest = rest }) → 0 < length rest → TokenEnds text
ends_before text rest octets is some = λ more.
    word_with is_token_octet text more (omega (arith, some, ap length (word_ends is_token_octet text (record { octets = octets; rest = rest }) is)))

-- none begins with another octet
pub ends_none : (text : List ℕ) → token text ≡ None → 0 < length text → TokenEnds text
ends_none text is some = λ more.
    let none = no_word_none is_token_octet text is in
    word_with is_token_octet text more (rw none some)

-- ---- types

-- the names alone
abbrev pub sub_named : Word → Option Word → Option (List ℕ × List ℕ)
sub_named main None = None
sub_named main (Some sub) = Some (main.octets, sub.octets)

abbrev pub slash_named : Word → Option (List ℕ) → Option (List ℕ × List ℕ)
slash_named main None = None
slash_named main (Some after) = sub_named main (token (after_gap after))

abbrev pub named : Option Word → Option (List ℕ × List ℕ)
named None = None
named (Some main) = slash_named main (after_octet 47 (after_gap main.rest))

subs_are : (main : Word) (o : Option Word) → option_map names_of (o >>= λ sub. Some (record { main = main.octets; sub = sub.octets; params = params_in (after_gap sub.rest) })) ≡ sub_named main o
subs_are main None = refl
subs_are main (Some sub) = refl

slashes_are : (main : Word) (o : Option (List ℕ))
    → option_map names_of (o >>= λ after. token (after_gap after) >>= λ sub. Some (record { main = main.octets; sub = sub.octets; params = params_in (after_gap sub.rest) })) ≡ slash_named main o
slashes_are main None = refl
slashes_are main (Some after) = subs_are main (token (after_gap after))

mains_are : (o : Option Word)
    → option_map names_of (o >>= λ main. after_octet 47 (after_gap main.rest) >>= λ after. token (after_gap after) >>= λ sub. Some (record { main = main.octets; sub = sub.octets; params = params_in (after_gap sub.rest) }))
    ≡ named o
mains_are None = refl
mains_are (Some main) = slashes_are main (after_octet 47 (after_gap main.rest))

pub names_are : (text : List ℕ) → type_names text ≡ named (token (after_gap text))
unfolding media_type_of
names_are text = mains_are (token (after_gap text))

-- the gap that ends is that of the text alone, too
gap_alone : (text rest : List ℕ) → GapEnds text rest → after_gap text ≡ rest
gap_alone text rest ends = ap after_gap (sym (append-nil text)) ∙ ends.after [] ∙ append-nil rest

first_with : (text rest : List ℕ) → GapEnds text rest → TokenEnds rest → (more : List ℕ) → token (after_gap (text ++ more)) ≡ option_map (with_rest more) (token (after_gap text))
first_with text rest gap ends more = ap token (gap.after more) ∙ ends more ∙ ap (λ t. option_map (with_rest more) (token t)) (sym (gap_alone text rest gap))

settled : (text : List ℕ) (o : Option Word) → token (after_gap text) ≡ o → (more : List ℕ) → token (after_gap (text ++ more)) ≡ option_map (with_rest more) (token (after_gap text))
    → named (option_map (with_rest more) o) ≡ named o → type_names (text ++ more) ≡ type_names text
settled text o is more first same =
    names_are (text ++ more) ∙ ap named (first ∙ ap (option_map (with_rest more)) is) ∙ same ∙ ap named (sym is) ∙ sym (names_are text)

-- no token begins the value
pub settled_none : (text rest : List ℕ) → GapEnds text rest → TokenEnds rest → token rest ≡ None → SettlesType text
settled_none text rest gap ends none = λ more.
    settled text None (ap token (gap_alone text rest gap) ∙ none) more (first_with text rest gap ends more) refl

after_octet_with : (text : List ℕ) (more : List ℕ) → text ≢ [] → after_octet 47 (text ++ more) ≡ option_map (λ t. t ++ more) (after_octet 47 text)
after_octet_with [] more some = absurd (some refl)
after_octet_with (c ∷ text) more some = elim (c == 47) as (λ b. cond b (Some (text ++ more)) None ≡ option_map (λ t. t ++ more) (cond b (Some text) None)) [ true ↦ refl | false ↦ refl ]

-- no slash follows the type
pub settled_main : (text rest slash : List ℕ) (main : Word) → GapEnds text rest → TokenEnds rest → token rest ≡ Some main → GapEnds main.rest slash → after_octet 47 slash ≡ None → SettlesType text
settled_main text rest slash main gap ends is slashes none = λ more.
    let alone : after_octet 47 (after_gap main.rest) ≡ None = ap (after_octet 47) (gap_alone main.rest slash slashes) ∙ none in
    let with_more : after_octet 47 (after_gap (main.rest ++ more)) ≡ None = ap (after_octet 47) (slashes.after more) ∙ after_octet_with slash more slashes.some ∙ ap (option_map (λ t. t ++ more)) none in
    settled text (Some main) (ap token (gap_alone text rest gap) ∙ is) more (first_with text rest gap ends more)
    (ap (slash_named main) with_more ∙ ap (slash_named main) (sym alone))

subs_with : (main : Word) (more : List ℕ) (o : Option Word) → sub_named main (option_map (with_rest more) o) ≡ sub_named main o
subs_with main more None = refl
subs_with main more (Some sub) = refl

-- the subtype, or what stands in its place, ends in the text
pub settled_sub : (text rest slash after last : List ℕ) (main : Word) → GapEnds text rest → TokenEnds rest → token rest ≡ Some main → GapEnds main.rest slash → after_octet 47 slash ≡ Some after
    → GapEnds after last → TokenEnds last → SettlesType text
settled_sub text rest slash after last main gap ends is slashes found next closes = λ more.
    let alone : after_octet 47 (after_gap main.rest) ≡ Some after = ap (after_octet 47) (gap_alone main.rest slash slashes) ∙ found in
    let with_more : after_octet 47 (after_gap (main.rest ++ more)) ≡ Some (after ++ more) = ap (after_octet 47) (slashes.after more) ∙ after_octet_with slash more slashes.some ∙ ap (option_map (λ t. t ++ more)) found in
    settled text (Some main) (ap token (gap_alone text rest gap) ∙ is) more (first_with text rest gap ends more)
    (ap (slash_named main) with_more ∙ ap (sub_named main) (first_with after last next closes more) ∙ subs_with main more (token (after_gap after))
    ∙ ap (slash_named main) (sym alone))

-- ---- dispositions

dispositions_are : (o : Option Word) → option_map (λ (disposition : Disposition). disposition.main) (o >>= λ main. Some (record { main = main.octets; params = params_in (after_gap main.rest) })) ≡ option_map (λ (w : Word). w.octets) o
dispositions_are None = refl
dispositions_are (Some main) = refl

pub name_is : (text : List ℕ) → disposition_name text ≡ option_map (λ (w : Word). w.octets) (token (after_gap text))
unfolding disposition_of
name_is text = dispositions_are (token (after_gap text))

octets_with : (more : List ℕ) (o : Option Word) → option_map (λ (w : Word). w.octets) (option_map (with_rest more) o) ≡ option_map (λ (w : Word). w.octets) o
octets_with more None = refl
octets_with more (Some w) = refl

pub settled_disposition : (text rest : List ℕ) → GapEnds text rest → TokenEnds rest → SettlesDisposition text
settled_disposition text rest gap ends = λ more.
    name_is (text ++ more) ∙ ap (option_map (λ (w : Word). w.octets)) (first_with text rest gap ends more)
    ∙ octets_with more (token (after_gap text)) ∙ sym (name_is text)

-- ---- what the code looks at

pub gap_ends : (text rest more : List ℕ) (octet : ℕ) → rest ≡ after_gap text → rest ≡ octet ∷ more → octet ≢ 40 → GapEnds text rest
gap_ends text rest more octet gap is other = record {
  some = λ none. not_empty (sym is ∙ none);
  after = λ after. gap_with (length text) text octet more (omega arith) (sym gap ∙ is) other after ∙ ap (λ t. t ++ after) (sym is);
}
  where
    not_empty : octet ∷ more ≡ [] → ⊥
    not_empty h = cc

-- a text that isn't empty
pub is_some : (text : List ℕ) (empty : Bool) → empty ≡ (length text == 0) → IsTrue (not empty) → 0 < length text
is_some [] empty e some = absurd (nothing empty e some)
  where
    nothing : (b : Bool) → b ≡ true → IsTrue (not b) → ⊥
    nothing true e h = cc
    nothing false e h = cc
is_some (c ∷ text) empty e some = omega arith
