-- What is read in a value is no longer than the value.
use Rattle.std.proofs.Common.{ℕ, zero, suc, ◌+◌, ◌≤◌, ◌==◌, Bool, cond, List, [], ◌∷◌, ◌++◌, Option, Some, None, option_map, length, drop, sym, subst, inl, inr, arith, not, codes}
use Rattle.std.specs.Prelude.{MatchOption}
use Rattle.std.specs.List.{prefix_len, take_while}
use Rattle.std.proofs.lemmas.Bool.{cases_eq, cases_Bool, ne_eqb}
use Rattle.std.proofs.lemmas.List.{length-append, length-drop, length-take}
use Rattle.std.proofs.lemmas.List.Elements.{All-nil, All-cons}
use Rattle.header_fields.specs.Fields.{Field}
use Rattle.mime_params.specs.declared.media.Disposition.{Disposition}
use Rattle.mime_params.specs.declared.media.MediaType.{MediaType}
use Rattle.mime_params.specs.declared.params.Parameter.{Parameter}
use Rattle.mime_params.specs.Gaps.{after_gap}
use Rattle.mime_params.specs.Words.{Word, with_octet, quoted, word, value, is_value_octet, is_token_octet}
use Rattle.mime_params.specs.MediaValue.{◌>>=◌, ReadParam, after_octet, after_semicolon, before_others, disposition_of, is_named, media_type_of, param_at, parameters_of, params_in, params_of, token, value_named}
use Rattle.mime_params.proofs.Gaps.{gap_shorter}
use Rattle.octets.specs.Ascii.{is_word}
use Rattle.mail_matching.specs.Headers.{AreWithin}
use Rattle.mail_matching.specs.Selection as selection

-- ---- words

while_le : (passes : ℕ → Bool) (text : List ℕ) → length (take_while passes text) ≤ length text
while_le passes text = omega (arith, length-take (prefix_len passes text) text)

-- the word and what follows it have no more octets than the text
abbrev WordIn : List ℕ → Option Word → Type 0
WordIn text o = MatchOption o (Unit {0}) (λ w. length w.octets + length w.rest ≤ length text)

word_in : (passes : ℕ → Bool) (text : List ℕ) → WordIn text (word passes text)
word_in passes text =
    elim (cases_eq (length (take_while passes text)) 0) [
      | inl none ↦ rw none tt
      | inr some ↦ rw (ne_eqb (length (take_while passes text)) 0 some) (omega (arith, while_le passes text, length-drop (length (take_while passes text)) text))
    ]

more_in : (text more : List ℕ) (o : Option Word) (c : ℕ) → length more + 1 ≤ length text → WordIn more o → WordIn text (option_map (with_octet c) o)
more_in text more None c le h = tt
more_in text more (Some w) c le h = omega (arith, le, h)

quoted_in : (text : List ℕ) → WordIn text (quoted text)
quoted_in [] = tt
quoted_in (c ∷ []) =
    elim (cases_eq c 34) [
      | inl ends ↦ rw ends (omega arith)
      | inr other ↦ rw (ne_eqb c 34 other) tt
    ]
quoted_in (c ∷ d ∷ rest) =
    elim (cases_eq c 34) [
      | inl ends ↦ rw ends (omega arith)
      | inr other ↦ elim (cases_eq c 92) [
        | inl back ↦ rw back (more_in (c ∷ d ∷ rest) rest (quoted rest) d (omega arith) (quoted_in rest))
        | inr plain ↦ rw (ne_eqb c 34 other, ne_eqb c 92 plain) (more_in (c ∷ d ∷ rest) (d ∷ rest) (quoted (d ∷ rest)) c (omega arith) (quoted_in (d ∷ rest)))
      ]
    ]

longer_in : (text more : List ℕ) (o : Option Word) → length more ≤ length text → WordIn more o → WordIn text o
longer_in text more None le h = tt
longer_in text more (Some w) le h = omega (arith, le, h)

value_in : (text : List ℕ) → WordIn text (value text)
value_in [] = tt
value_in (c ∷ rest) =
    elim (cases_eq c 34) [
      | inl quote ↦ rw quote (longer_in (c ∷ rest) rest (quoted rest) (omega arith) (quoted_in rest))
      | inr other ↦ subst (λ b. WordIn (c ∷ rest) (cond b (quoted rest) (word is_value_octet (c ∷ rest)))) (sym (ne_eqb c 34 other)) (word_in is_value_octet (c ∷ rest))
    ]

octet_in : (octet : ℕ) (text : List ℕ) → MatchOption (after_octet octet text) (Unit {0}) (λ rest. length rest + 1 ≤ length text)
octet_in octet [] = tt
octet_in octet (c ∷ rest) =
    elim (cases_Bool (c == octet)) [
      | inl same ↦ rw same (omega arith)
      | inr other ↦ rw other tt
    ]

-- ---- parameters

abbrev ParamIn : List ℕ → Option ReadParam → Type 0
ParamIn text o = MatchOption o (Unit {0}) (λ p. (length p.param.value ≤ length text) × (length p.rest ≤ length text))

param_in : (text : List ℕ) → ParamIn text (param_at text)
unfolding param_at
param_in text = names (token text) (word_in is_token_octet text)
  where
    values : (name : Word) (after : List ℕ) → length after ≤ length text → (o : Option Word) → WordIn (after_gap after) o
        → ParamIn text (o >>= (λ given. Some (record { param = record { name = name.octets; value = given.octets }; rest = given.rest })))
    values name after le None h = tt
    values name after le (Some given) h = let gap = gap_shorter (length after) after in (omega (arith, gap, le, h), omega (arith, gap, le, h))

    signs : (name : Word) → length name.rest ≤ length text → (o : Option (List ℕ)) → MatchOption o (Unit {0}) (λ rest. length rest + 1 ≤ length (after_gap name.rest))
        → ParamIn text (o >>= (λ after. value (after_gap after) >>= (λ given. Some (record { param = record { name = name.octets; value = given.octets }; rest = given.rest }))))
    signs name le None h = tt
    signs name le (Some after) h = values name after (omega (arith, gap_shorter (length name.rest) name.rest, le, h)) (value (after_gap after)) (value_in (after_gap after))

    names : (o : Option Word) → WordIn text o
        → ParamIn text (o >>= (λ name. after_octet 61 (after_gap name.rest) >>= (λ after. value (after_gap after) >>= (λ given. Some (record { param = record { name = name.octets; value = given.octets }; rest = given.rest })))))
    names None h = tt
    names (Some name) h = signs name (omega (arith, h)) (after_octet 61 (after_gap name.rest)) (octet_in 61 (after_gap name.rest))

pub widen : (small large : ℕ) (params : List Parameter) → small ≤ large → AreWithin small params → AreWithin large params
widen small large params le are = λ k d lt. omega (arith, are k d lt, le)

-- in what follows a semicolon, where it holds of shorter texts
semicolon_in : (n : ℕ) (limit : ℕ) (body : List ℕ) → length body ≤ limit → ((more : List ℕ) → length more ≤ limit → AreWithin limit (params_of n more)) → AreWithin limit (after_semicolon body (λ more. params_of n more))
semicolon_in n limit [] le more = All-nil (λ (p : Parameter). length p.value ≤ limit)
semicolon_in n limit (d ∷ body) le more =
    elim (cases_Bool (d == 59)) [
      | inl empty ↦ rw empty (more (d ∷ body) le)
      | inr some ↦ rw some (others (param_at (d ∷ body)) (param_in (d ∷ body)))
    ]
  where
    others : (o : Option ReadParam) → ParamIn (d ∷ body) o → AreWithin limit (before_others o (λ t. params_of n t))
    others None h = All-nil (λ (p : Parameter). length p.value ≤ limit)
    others (Some p) h =
        All-cons (λ (q : Parameter). length q.value ≤ limit) p.param (params_of n (after_gap p.rest)) (omega (arith, h.0, le))
        (more (after_gap p.rest) (omega (arith, gap_shorter (length p.rest) p.rest, h.1, le)))

params_of_in : (n limit : ℕ) (text : List ℕ) → length text ≤ limit → AreWithin limit (params_of n text)
params_of_in zero limit text le = All-nil (λ (p : Parameter). length p.value ≤ limit)
params_of_in (suc n) limit [] le = All-nil (λ (p : Parameter). length p.value ≤ limit)
params_of_in (suc n) limit (c ∷ rest) le =
    elim (cases_Bool (c == 59)) [
      | inl semicolon ↦ rw semicolon (semicolon_in n limit (after_gap rest) (omega (arith, gap_shorter (length rest) rest, le)) (λ more short. params_of_in n limit more short))
      | inr other ↦ rw other (All-nil (λ (p : Parameter). length p.value ≤ limit))
    ]

-- ---- media types and dispositions

abbrev MediaIn : ℕ → MediaType → Type 0
MediaIn limit media = (length media.main + 1 + length media.sub ≤ limit) × AreWithin limit media.params

abbrev DispositionIn : ℕ → Disposition → Type 0
DispositionIn limit disposition = (length disposition.main ≤ limit) × AreWithin limit disposition.params

media_in : (text : List ℕ) → MatchOption (media_type_of text) (Unit {0}) (MediaIn (length text))
unfolding media_type_of
media_in text = mains (token (after_gap text)) (word_in is_token_octet (after_gap text))
  where
    subs : (main : Word) (after : List ℕ) → length main.octets + 1 + length after ≤ length text → (o : Option Word) → WordIn (after_gap after) o
        → MatchOption (o >>= (λ sub. Some (record { main = main.octets; sub = sub.octets; params = params_in (after_gap sub.rest) }))) (Unit {0}) (MediaIn (length text))
    subs main after le None h = tt
    subs main after le (Some sub) h =
        let gap = gap_shorter (length after) after in
        let last = gap_shorter (length sub.rest) sub.rest in
        (omega (arith, gap, le, h), params_of_in (length (after_gap sub.rest)) (length text) (after_gap sub.rest) (omega (arith, gap, last, le, h)))

    slashes : (main : Word) → length main.octets + length main.rest ≤ length text → (o : Option (List ℕ)) → MatchOption o (Unit {0}) (λ rest. length rest + 1 ≤ length (after_gap main.rest))
        → MatchOption (o >>= (λ after. token (after_gap after) >>= (λ sub. Some (record { main = main.octets; sub = sub.octets; params = params_in (after_gap sub.rest) })))) (Unit {0}) (MediaIn (length text))
    slashes main le None h = tt
    slashes main le (Some after) h = subs main after (omega (arith, gap_shorter (length main.rest) main.rest, le, h)) (token (after_gap after)) (word_in is_token_octet (after_gap after))

    mains : (o : Option Word) → WordIn (after_gap text) o
        → MatchOption (o >>= (λ main. after_octet 47 (after_gap main.rest) >>= (λ after. token (after_gap after) >>= (λ sub. Some (record { main = main.octets; sub = sub.octets; params = params_in (after_gap sub.rest) }))))) (Unit {0}) (MediaIn (length text))
    mains None h = tt
    mains (Some main) h = slashes main (omega (arith, gap_shorter (length text) text, h)) (after_octet 47 (after_gap main.rest)) (octet_in 47 (after_gap main.rest))

disposition_in : (text : List ℕ) → MatchOption (disposition_of text) (Unit {0}) (DispositionIn (length text))
unfolding disposition_of
disposition_in text = mains (token (after_gap text)) (word_in is_token_octet (after_gap text))
  where
    mains : (o : Option Word) → WordIn (after_gap text) o
        → MatchOption (o >>= (λ main. Some (record { main = main.octets; params = params_in (after_gap main.rest) }))) (Unit {0}) (DispositionIn (length text))
    mains None h = tt
    mains (Some main) h =
        let gap = gap_shorter (length text) text in
        let last = gap_shorter (length main.rest) main.rest in
        (omega (arith, gap, h), params_of_in (length (after_gap main.rest)) (length text) (after_gap main.rest) (omega (arith, gap, last, h)))

-- ---- readings

-- what is read is no longer than this
pub record ReadIn (limit : ℕ) (read : selection.Reading) : Type 0 where
  pub main : length (selection.main_of read) ≤ limit
  pub sub : length (selection.sub_of read) ≤ limit
  pub content_type : length (selection.content_type_of read) ≤ limit
  pub params : AreWithin limit (selection.params_of read)

unreadable_in : (limit : ℕ) → ReadIn limit selection.Unreadable
unreadable_in limit = record { main = omega arith; sub = omega arith; content_type = omega arith; params = All-nil (λ (p : Parameter). length p.value ≤ limit) }

as_media_in : (limit : ℕ) (o : Option MediaType) → MatchOption o (Unit {0}) (MediaIn limit) → ReadIn limit (selection.as_media o)
as_media_in limit None h = unreadable_in limit
as_media_in limit (Some media) h =
    record {
      main = omega (arith, h.0);
      sub = omega (arith, h.0);
      content_type = omega (arith, h.0, length-append (media.main ++ codes "/") media.sub, length-append media.main (codes "/"));
      params = h.1;
    }

as_disposition_in : (limit : ℕ) (o : Option Disposition) → MatchOption o (Unit {0}) (DispositionIn limit) → ReadIn limit (selection.as_disposition o)
as_disposition_in limit None h = unreadable_in limit
as_disposition_in limit (Some disposition) h = record { main = h.0; sub = omega arith; content_type = h.0; params = h.1 }

others_in : (text : List ℕ) → ReadIn (length text) (selection.Others (parameters_of text))
others_in text =
    let n = length (take_while (λ c. not (c == 59)) text) in
    record {
      main = omega arith;
      sub = omega arith;
      content_type = omega arith;
      params = params_of_in (length (drop n text)) (length text) (drop n text) (omega (arith, length-drop n text));
    }

pub reading_in : (field : Field) → ReadIn (length field.value) (selection.reading_of field)
reading_in field =
    elim (cases_Bool (is_word field.name (codes "Content-Type"))) [
      | inl media ↦ rw media (as_media_in (length field.value) (media_type_of field.value) (media_in field.value))
      | inr other ↦ elim (cases_Bool (is_word field.name (codes "Content-Disposition"))) [
        | inl disposition ↦ rw (other, disposition) (as_disposition_in (length field.value) (disposition_of field.value) (disposition_in field.value))
        | inr neither ↦ rw (other, neither) (others_in field.value)
      ]
    ]

-- ---- the value of a parameter

-- what is given is no longer than this
pub given_in : (limit : ℕ) (name : List ℕ) (params : List Parameter) → AreWithin limit params → MatchOption (value_named name params) (Unit {0}) (λ v. length v ≤ limit)
given_in limit name [] are = tt
given_in limit name (param ∷ params) are = elim (cases_Bool (is_named name param)) [
  | inl here ↦ rw here (are 0 param (omega arith))
  | inr later ↦ rw later (given_in limit name params (λ k d lt. are (suc k) d (omega (arith, lt))))
]
