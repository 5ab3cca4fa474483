-- A string can be left out of the strings with names of variables if one before it has the same name.
use Rattle.std.proofs.Common.{◌≡◌, ◌∙◌, ◌<◌, ◌+◌, ℕ, Bool, true, false, List, [], ◌∷◌, ◌++◌, ap, drop, get_or, length, subst, sym, refl, arith, inl, inr}
use Rattle.std.proofs.lemmas.Bool.{or_cases, or_left, or_right}
use Rattle.std.proofs.lemmas.List.{append-nil, drop_more}
use Rattle.std.proofs.lemmas.List.Folds.{find-append}
use Rattle.std.proofs.lemmas.Slice.Eq.{bytes_eq-Decides}
use Rattle.std.specs.Char.{to_ascii_lowercase}
use Rattle.std.specs.Prelude.{◌||◌, if◌then◌else◌, is_some, None, Option, Some, codes}
use Rattle.std.specs.List.{cons_option, find, list_any}
use Rattle.std.specs.Option.{option_or}
use Rattle.octets.specs.Ascii.{is_word, lowercase_of}
use Rattle.sieve_lexer.specs.Values.{inner}
use Rattle.sieve_lexer.specs.declared.token.Token.{Token}
use Rattle.sieve_explain.specs.Marks.{text_of}
use Rattle.sieve_explain.specs.Notes.{expands_references, first_named, given_of, has_tag, is_backslash, is_named_by, is_read, may_name, most_captures, named_by, notes_from, notes_of}
use Rattle.sieve_explain.specs.Private.{NameAlike}

-- the case of letters doesn't change whether there is a backslash
same_backslash : (c : ℕ) → is_backslash (to_ascii_lowercase c) ≡ is_backslash c
same_backslash c = grind arith

backslash_lower : (text : List ℕ) → list_any is_backslash (lowercase_of text) ≡ list_any is_backslash text
backslash_lower [] = refl
backslash_lower (c ∷ text) = λ i. same_backslash c i || backslash_lower text i

same_letters : (a b : List ℕ) → is_word a b ≡ true → lowercase_of a ≡ lowercase_of b
same_letters a b is = (bytes_eq-Decides (lowercase_of a) (lowercase_of b)).0 is

are_letters : (a b : List ℕ) → lowercase_of a ≡ lowercase_of b → is_word a b ≡ true
are_letters a b same = (bytes_eq-Decides (lowercase_of a) (lowercase_of b)).1 same

-- what may be named by the second of two strings may be named by the first, if that may be the second's text
abbrev may_be : List ℕ → List ℕ → Bool
may_be text name = is_word text name || list_any is_backslash text

through : (a b name : List ℕ) → is_word a b ≡ true → may_be b name ≡ true → may_be a name ≡ true
through a b name same may = elim (or_cases (is_word b name) (list_any is_backslash b) may) [
  | inl is ↦ or_left (is_word a name) (list_any is_backslash a) (are_letters a name (same_letters a b same ∙ same_letters b name is))
  | inr is ↦ or_right (is_word a name) (list_any is_backslash a)
      (sym (backslash_lower a) ∙ ap (list_any is_backslash) (same_letters a b same) ∙ backslash_lower b ∙ is)
]

passed_on : (a b name : List ℕ) → may_be a b ≡ true → may_be b name ≡ true → may_be a name ≡ true
passed_on a b name first may = elim (or_cases (is_word a b) (list_any is_backslash a) first) [
  | inl same ↦ through a b name same may
  | inr is ↦ or_right (is_word a name) (list_any is_backslash a) is
]

kept : (script text name : List ℕ) (given : List Token) → is_named_by script given text ≡ true → may_be text name ≡ true → is_named_by script given name ≡ true
kept script text name [] has may = has
kept script text name (token ∷ given) has may = elim (or_cases (may_name script text token) (is_named_by script given text) has) [
  | inl is ↦ or_left (may_name script name token) (is_named_by script given name) (passed_on (inner (text_of script token)) text name is may)
  | inr is ↦ or_right (may_name script name token) (is_named_by script given name) (kept script text name given is may)
]

-- a first one is found exactly if there is one
picked : (b : Bool) (token : Token) (o : Option Token) → is_some (if b then Some token else o) ≡ (b || is_some o)
picked true token o = refl
picked false token o = refl

found_any : (p : Token → Bool) (tokens : List Token) → is_some (find p tokens) ≡ list_any p tokens
found_any p [] = refl
found_any p (token ∷ tokens) = picked (p token) token (find p tokens) ∙ ap (λ b. p token || b) (found_any p tokens)

same_named : (script : List ℕ) (a b : List Token) → NameAlike script a b → (name : List ℕ) → is_named_by script a name ≡ is_named_by script b name
same_named script a b same name =
    sym (found_any (may_name script name) a) ∙ ap is_some (same name) ∙ found_any (may_name script name) b

-- no string more; one more; one that is left out
pub with_none : (script : List ℕ) (given : List Token) → NameAlike script given (given ++ cons_option None [])
with_none script given name = ap (λ (l : List Token). first_named script l name) (sym (append-nil given))

pub with_one : (script : List ℕ) (given : List Token) (token : Token) → NameAlike script (given ++ (token ∷ [])) (given ++ cons_option (Some token) [])
with_one script given token name = refl

left_out : (o : Option Token) (c : Bool) (token : Token) → (c ≡ true → is_some o ≡ true) → o ≡ option_or o (if c then Some token else None)
left_out (Some first) c token follows = refl
left_out None true token follows = ap (λ (b : Bool). if b then Some token else None) (follows refl)
left_out None false token follows = refl

pub without_it : (script : List ℕ) (given : List Token) (token : Token) → is_named_by script given (inner (text_of script token)) ≡ true
    → NameAlike script given (given ++ cons_option (Some token) [])
without_it script given token has name =
    left_out (first_named script given name) (may_name script name token) token
    (λ may. found_any (may_name script name) given ∙ kept script (inner (text_of script token)) name given has may)
    ∙ sym (find-append (may_name script name) given (token ∷ []))

-- the strings so far, and those that are left
or_three : (o : Option Token) (b : Bool) (token : Token) (left : Option Token)
    → option_or (option_or o (if b then Some token else None)) left ≡ option_or o (if b then Some token else left)
or_three (Some first) b token left = refl
or_three None true token left = refl
or_three None false token left = refl

alike_step : (script : List ℕ) (new old left all : List Token) (o : Option Token) → NameAlike script new (old ++ cons_option o [])
    → NameAlike script (old ++ cons_option o left) all → NameAlike script (new ++ left) all
alike_step script new old left all None same whole name =
    find-append (may_name script name) new left
    ∙ ap (λ o. option_or o (first_named script left name)) (same name ∙ ap (λ (l : List Token). first_named script l name) (append-nil old))
    ∙ sym (find-append (may_name script name) old left) ∙ whole name
alike_step script new old left all (Some token) same whole name =
    find-append (may_name script name) new left
    ∙ ap (λ o. option_or o (first_named script left name)) (same name ∙ find-append (may_name script name) old (token ∷ []))
    ∙ or_three (first_named script old name) (may_name script name token) token (first_named script left name)
    ∙ sym (find-append (may_name script name) old (token ∷ left)) ∙ whole name

-- the string of the command at this place, and those of the commands after it
given_at : (script : List ℕ) (raised : Bool) (tokens rest : List Token) (place : ℕ) (d : Token) (o : Option Token) → place < length tokens → rest ≡ drop (place + 1) tokens
    → o ≡ named_by script raised (get_or tokens place d) rest
    → given_of script raised (drop place tokens) ≡ cons_option o (given_of script raised (drop (place + 1) tokens))
given_at script raised tokens rest place d o within behind is =
    ap (given_of script raised) (drop_more tokens place d within)
    ∙ sym (ap (λ (found : Option Token). cons_option found (given_of script raised (drop (place + 1) tokens))) (is ∙ ap (named_by script raised (get_or tokens place d)) behind))

pub given_more : (script : List ℕ) (raised : Bool) (tokens rest new old : List Token) (place : ℕ) (d : Token) (o : Option Token) → place < length tokens → rest ≡ drop (place + 1) tokens
    → o ≡ named_by script raised (get_or tokens place d) rest → NameAlike script new (old ++ cons_option o [])
    → NameAlike script (old ++ given_of script raised (drop place tokens)) (given_of script raised tokens)
    → NameAlike script (new ++ given_of script raised (drop (place + 1) tokens)) (given_of script raised tokens)
given_more script raised tokens rest new old place d o within behind is same whole =
    alike_step script new old (given_of script raised (drop (place + 1) tokens)) (given_of script raised tokens) o same
    (subst (λ (l : List Token). NameAlike script (old ++ l) (given_of script raised tokens)) (given_at script raised tokens rest place d o within behind is) whole)

-- so the notes are the same
pub known_notes : (script : List ℕ) (tokens given raised : List Token) (expands matches : Bool) (most : ℕ) → expands ≡ expands_references script tokens
    → matches ≡ has_tag script (codes ":matches") tokens → most ≡ most_captures script tokens → NameAlike script given (given_of script false tokens)
    → NameAlike script raised (given_of script true tokens)
    → notes_from script (record { expands = expands; matches = matches; most = most; has = is_named_by script given; raised = is_named_by script raised; first = first_named script given; read = is_read script tokens }) 0 tokens ≡ notes_of script tokens
known_notes script tokens given raised expands matches most e m w same alike =
    λ i. notes_from script (record {
      expands = e i;
      matches = m i;
      most = w i;
      has = λ name. same_named script given (given_of script false tokens) same name i;
      raised = λ name. same_named script raised (given_of script true tokens) alike name i;
      first = λ name. same name i;
      read = is_read script tokens;
    }) 0 tokens
