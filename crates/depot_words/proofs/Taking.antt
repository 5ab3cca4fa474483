-- Where a parse of a command without subcommands has no fault, each argument that has to be there is, and each text passes.
use Rattle.std.proofs.Common.{◌≡◌, ◌∙◌, refl, sym, ap, subst, cond, Bool, true, false, not, ◌&&◌, ◌||◌, ℕ, zero, suc, List, [], ◌∷◌, ◌++◌, length, Option, Some, None, is_some, ltb, unwrap_or, append-nil, arith, eqb-true, true≢false}
use Rattle.std.specs.Prelude.{IfSome, option_and_then, slice_get, ⊤}
use Rattle.std.specs.List.{find, fold, list_all, list_any}
use Rattle.std.specs.Option.{option_map_or}
use Rattle.std.specs.Str.{bytes_eq, chars}
use Rattle.std.proofs.lemmas.Option.{none-some}
use Rattle.std.proofs.lemmas.Slice.Eq.{bytes_eq-Decides}
use Rattle.clap.specs.Lexer.{long_of, short_of}
use Rattle.clap.specs.Facts.{explicit_source, parser_of_value, unwrap_or_range}
use Rattle.clap.specs.Values.{is_request}
use Rattle.clap.specs.ValueTests.{accepts}
use Rattle.clap.specs.Walk.{Held, Outcome, Row, Rule, Step, Text, Waiting, Walk, action_of, after_flag, after_step, arg_by_id, arg_by_index, arg_by_long, arg_by_short, at_row, bundle_met, bundle_step, done, default_rows, first_of, has_long, has_row, has_short, idle, is_empty, is_pending, long_or_other, more_values, next, nothing_held, option, option_word, plain, plain_word, positional, pushed, reading_by, refused, rows_after, settled, settled_rows, short_or_plain, subcommand, subcommand_or_other, takes_several, takes_values, to_positional, trailing, used, used_as, used_by_id, value, waits, walk, walk_from, walked, walked_from, with_default, with_values, word_met}
use Rattle.clap.specs.Simple.{Shape}
use Rattle.clap.specs.Takes.{is_given, value_passes}
use Rattle.clap.specs.Kinds.{Kinds, check_kinds, or_else}
use Rattle.clap.specs.Faults.{action_fault, bundle_fault, bundle_step_fault, flag_word_fault, flags_fault, level_fault, long_fault, other_fault, positional_fault, react_fault, set_fault, settle_fault, short_fault, step_fault, stray_fault, turn_fault, use_fault, walk_fault, word_fault}
use Rattle.clap.specs.declared.builder.action.ArgAction.{ArgAction}
use Rattle.clap.specs.declared.builder.action.ArgAction.TheVariants as action
use Rattle.clap.specs.declared.error.kind.ErrorKind.{ErrorKind}
use Rattle.clap.specs.declared.error.kind.ErrorKind.TheVariants.{ArgumentConflict, InvalidValue, TooManyValues}
use Rattle.clap.specs.declared.parser.matches.ValueSource.TheVariants.{CommandLine}
use Rattle.clap.proofs.WalkLemmas.{both}

-- ---- the arguments that the commands have

abbrev is_set : ArgAction → Bool
is_set action.Set = true
is_set _ = false

-- a flag that asks for help or the version
abbrev is_asking : Rule → Bool
is_asking a = not (is_some a.index) && (is_request (action_of a) && not (takes_values a))

-- a positional with one value or more
abbrev is_single : Rule → Bool
is_single a = is_some a.index && (is_set (action_of a) && ltb 0 (unwrap_or_range a.range).start_inclusive)

abbrev is_plain_rule : Rule → Bool
is_plain_rule a = is_empty a.defaults && (is_asking a || is_single a)

abbrev are_plain : List Rule → Bool
are_plain c = list_all is_plain_rule c

-- the command has such arguments alone, and a second use doesn't replace a first
abbrev pub is_plain_shape : Shape → Bool
is_plain_shape s = are_plain s.rules && not s.args_override_self

-- ---- tests and searches

same : (a b : Text) → bytes_eq a b ≡ true → a ≡ b
same a b e = (bytes_eq-Decides a b).0 e

not_true : (b : Bool) → not b ≡ true → b ≡ false
not_true true e = absurd (true≢false (sym e))
not_true false e = refl

pub found : {X : Type 0} (p q : X → Bool) (xs : List X) (x : X) → list_all p xs ≡ true → find q xs ≡ Some x → (p x ≡ true) × (q x ≡ true)
found p q [] x all is = absurd (none-some x is)
found p q (y ∷ ys) x all is = go (found p q ys x (both _ _ all).1) (q y) refl is
  where
    go : (find q ys ≡ Some x → (p x ≡ true) × (q x ≡ true)) → (b : Bool) → q y ≡ b → cond b (Some y) (find q ys) ≡ Some x → (p x ≡ true) × (q x ≡ true)
    go rest true e here =
        let at = ap (λ o. unwrap_or o y) here in
        (subst (λ z. p z ≡ true) at (both _ _ all).0, subst (λ z. q z ≡ true) at e)
    go rest false e later = rest later

not_any : {X : Type 0} (p q : X → Bool) (xs : List X) (x : X) → list_any p xs ≡ false → find q xs ≡ Some x → p x ≡ false
not_any p q [] x none is = absurd (none-some x is)
not_any p q (y ∷ ys) x none is = go (not_any p q ys x) (p y) (q y) refl none is
  where
    go : (list_any p ys ≡ false → find q ys ≡ Some x → p x ≡ false) → (a b : Bool) → p y ≡ a → (a || list_any p ys) ≡ false
        → cond b (Some y) (find q ys) ≡ Some x → p x ≡ false
    go more true b e some here = absurd (true≢false some)
    go more false true e rest here = subst (λ z. p z ≡ false) (ap (λ o. unwrap_or o y) here) e
    go more false false e rest later = more rest later

pub neither : (a b : Kinds) → or_else a b ≡ [] → (a ≡ []) × (b ≡ [])
neither [] b e = (refl, e)
neither (k ∷ ks) b e = absurd (cc e)

-- ---- one use

set_only : (x : ArgAction) → is_set x ≡ true → x ≡ action.Set
set_only action.Set e = refl
set_only action.Append e = absurd (true≢false (sym e))
set_only action.SetTrue e = absurd (true≢false (sym e))
set_only action.SetFalse e = absurd (true≢false (sym e))
set_only action.Count e = absurd (true≢false (sym e))
set_only action.Help e = absurd (true≢false (sym e))
set_only action.HelpShort e = absurd (true≢false (sym e))
set_only action.HelpLong e = absurd (true≢false (sym e))
set_only action.Version e = absurd (true≢false (sym e))

request_fails : (x : ArgAction) (again : Bool) (a : Rule) (values : List Text) (rows : List Row) → is_request x ≡ true → action_fault x again a values rows ≡ [] → ⊥
request_fails action.Set again a values rows e none = true≢false (sym e)
request_fails action.Append again a values rows e none = true≢false (sym e)
request_fails action.SetTrue again a values rows e none = true≢false (sym e)
request_fails action.SetFalse again a values rows e none = true≢false (sym e)
request_fails action.Count again a values rows e none = true≢false (sym e)
request_fails action.Help again a values rows e none = cc none
request_fails action.HelpShort again a values rows e none = cc none
request_fails action.HelpLong again a values rows e none = cc none
request_fails action.Version again a values rows e none = cc none

asking_fails : (again : Bool) (a : Rule) (values : List Text) (rows : List Row) → is_asking a ≡ true → use_fault again a values rows ≡ [] → ⊥
asking_fails again a values rows asks none =
    let request = (both _ _ (both (not (is_some a.index)) _ asks).1).0 in
    request_fails (action_of a) again a _ rows request (neither _ _ none).1

-- the argument's first value passes
abbrev HasFirst : Rule → List Text → Type 0
HasFirst a values = (text : Text) × (slice_get values 0 ≡ Some text) × (value_passes a text ≡ true)

abbrev RowFits : List Rule → Row → Type 0
RowFits c r = (a : Rule) → arg_by_id c r.id ≡ Some a → HasFirst a r.values

abbrev Good : List Rule → List Row → Type 0
Good c [] = ⊤
Good c (r ∷ rs) = RowFits c r × Good c rs

good_more : (c : List Rule) (rs : List Row) (r : Row) → Good c rs → RowFits c r → Good c (rs ++ r ∷ [])
good_more c [] r good fits = (fits, tt)
good_more c (x ∷ xs) r good fits = (good.0, good_more c xs r good.1 fits)

good_row : (c : List Rule) (rows : List Row) (id : Text) (r : Row) → Good c rows → find (λ r. bytes_eq r.id id) rows ≡ Some r → RowFits c r × (r.id ≡ id)
good_row c [] id r good is = absurd (none-some r is)
good_row c (x ∷ xs) id r good is = go (good_row c xs id r good.1) (bytes_eq x.id id) refl is
  where
    go : (find (λ r. bytes_eq r.id id) xs ≡ Some r → RowFits c r × (r.id ≡ id)) → (b : Bool) → bytes_eq x.id id ≡ b → cond b (Some x) (find (λ r. bytes_eq r.id id) xs) ≡ Some r → RowFits c r × (r.id ≡ id)
    go rest true e here = subst (λ y. RowFits c y × (y.id ≡ id)) (ap (λ o. unwrap_or o x) here) (good.0, same x.id id e)
    go rest false e later = rest later

new_row : (id : Text) (change : Row → List Row) (missing rows : List Row) → has_row id rows ≡ false → at_row id change missing rows ≡ rows ++ missing
new_row id change missing [] none = refl
new_row id change missing (r ∷ rs) none = go (new_row id change missing rs) (bytes_eq r.id id) none
  where
    go : (has_row id rs ≡ false → at_row id change missing rs ≡ rs ++ missing) → (b : Bool) → (b || has_row id rs) ≡ false → cond b (change r ++ rs) (r ∷ at_row id change missing rs) ≡ r ∷ rs ++ missing
    go more true some = absurd (true≢false some)
    go more false rest = ap (λ xs. r ∷ xs) (more rest)

abbrev used_row : Rule → List Text → Row
used_row a values = record { id = a.id; values = values; count = None; source = Some CommandLine; reading = reading_by a }

set_row : (a : Rule) (values : List Text) (rows : List Row) → has_row a.id rows ≡ false → used_as action.Set a.id (reading_by a) values rows ≡ rows ++ used_row a values ∷ []
set_row a values rows none =
    ap (with_values a.id (reading_by a) CommandLine values) (new_row a.id (λ _. []) [] rows none ∙ append-nil rows)
    ∙ new_row a.id (more_values CommandLine values) _ rows none

no_repeat : (b : Bool) → cond (b && not false) (ArgumentConflict ∷ []) [] ≡ [] → b ≡ false
no_repeat true e = absurd (cc e)
no_repeat false e = refl

not_none : (k : ErrorKind) (ks : Kinds) → ◌≡◌ {A = Kinds} (k ∷ ks) [] → ⊥
not_none k ks e = cc e

value_passed : (b : Bool) (ks : Kinds) → cond b [] ks ≡ [] → (ks ≡ [] → ⊥) → b ≡ true
value_passed true ks e some = refl
value_passed false ks e some = absurd (some e)

-- a positional's use without a fault adds a row with its values
single_adds : (c : List Rule) (a : Rule) (values : List Text) (rows : List Row) → arg_by_id c a.id ≡ Some a → is_single a ≡ true → use_fault false a values rows ≡ []
    → Good c rows → Good c (used a values rows)
single_adds c a [] rows at single none good =
    let least = (both _ _ (both (is_some a.index) _ single).1).1 in
    absurd (empty (ltb 0 (unwrap_or_range a.range).start_inclusive) _ least (neither _ _ none).0)
  where
    empty : (b : Bool) (ks : Kinds) → b ≡ true → cond (b && true) (InvalidValue ∷ []) ks ≡ [] → ⊥
    empty true ks e none = cc none
    empty false ks e none = true≢false (sym e)
single_adds c a (v ∷ vs) rows at single none good =
    let set = set_only (action_of a) (both _ _ (both (is_some a.index) _ single).1).0 in
    let fault : set_fault false a (v ∷ vs) rows ≡ [] = ap (λ x. action_fault x false a (v ∷ vs) rows) (sym set) ∙ (neither _ _ none).1 in
    let new = no_repeat (has_row a.id rows) (neither _ _ fault).0 in
    let passes = value_passed (value_passes a v) _ (neither _ _ (neither _ _ fault).1).0 (not_none _ []) in
    subst (Good c) (sym (ap (λ x. used_as x a.id (reading_by a) (v ∷ vs) rows) set ∙ set_row a (v ∷ vs) rows new))
    (good_more c rows (used_row a (v ∷ vs)) good (fits passes))
  where
    fits : value_passes a v ≡ true → RowFits c (used_row a (v ∷ vs))
    fits passes b is = (v, refl, subst (λ x. value_passes x v ≡ true) (ap (λ o. unwrap_or o a) (sym at ∙ is)) passes)

-- an option that waits for values is used with those that it has
settled_good : (c : List Rule) (pending : Option (Text × List Text)) (rows : List Row) (skip : ℕ) → are_plain c ≡ true
    → settle_fault c false (record { rows = rows; pending = pending; skip = skip }) ≡ [] → Good c rows → Good c (settled_rows c pending rows)
settled_good c None rows skip ok none good = good
settled_good c (Some p) rows skip ok none good = go (arg_by_id c p.0) refl none
  where
    go : (o : Option Rule) → arg_by_id c p.0 ≡ o → option_map_or (λ a. use_fault false a p.1 rows) o [] ≡ [] → Good c (settled_rows c (Some p) rows)
    go None is fault = subst (λ o. Good c (used_by_id o p.1 rows)) (sym is) good
    go (Some a) is fault =
        let here = found is_plain_rule (λ a. bytes_eq a.id p.0) c a ok is in
        let at : arg_by_id c a.id ≡ Some a = ap (arg_by_id c) (same a.id p.0 here.1) ∙ is in
        subst (λ o. Good c (used_by_id o p.1 rows)) (sym is)
        (by_kind (is_asking a) (is_single a) refl refl (both _ _ here.0).1 at)
      where
        by_kind : (b d : Bool) → is_asking a ≡ b → is_single a ≡ d → (b || d) ≡ true → arg_by_id c a.id ≡ Some a → Good c (used a p.1 rows)
        by_kind true d asks single e at = absurd (asking_fails false a p.1 rows asks fault)
        by_kind false true asks single e at = single_adds c a p.1 rows at single fault good
        by_kind false false asks single e at = absurd (true≢false (sym e))

-- a flag that there is asks for help, so it has a fault
flag_asks : (c : List Rule) (q : Rule → Bool) (a : Rule) → are_plain c ≡ true → find (λ a. not (is_some a.index) && q a) c ≡ Some a → is_asking a ≡ true
flag_asks c q a ok is =
    let here = found is_plain_rule (λ a. not (is_some a.index) && q a) c a ok is in
    go (is_some a.index) (is_asking a) refl refl (both _ _ here.0).1 (both _ _ here.1).0
  where
    go : (i b : Bool) → is_some a.index ≡ i → is_asking a ≡ b → (b || is_single a) ≡ true → not i ≡ true → is_asking a ≡ true
    go true b at asks e not_at = absurd (true≢false (sym not_at))
    go false true at asks e not_at = asks
    go false false at asks e not_at = absurd (true≢false (sym (both _ _ e).0 ∙ at))

no_values : (a : Rule) → is_asking a ≡ true → takes_values a ≡ false
no_values a asks = not_true (takes_values a) (both (is_request (action_of a)) _ (both (not (is_some a.index)) _ asks).1).1

react_fails : (c : List Rule) (a : Rule) (h : Held) → is_asking a ≡ true → react_fault c false a [] h ≡ [] → ⊥
react_fails c a h asks none = asking_fails false a [] _ asks (neither _ _ none).1

-- ---- a word

bundle_keeps : (c : List Rule) (k : ℕ) (flags : Text) (skip : ℕ) (so_far : Outcome) (h : Held) → are_plain c ≡ true
    → flags_fault c false k flags skip h ≡ [] → (bundle_met c k flags skip so_far h).0.rows ≡ h.rows
unfolding flags_fault bundle_met
bundle_keeps c zero flags skip so_far h ok none = refl
bundle_keeps c (suc k) flags skip so_far h ok none =
    go (λ rest less fault. bundle_keeps c k rest less so_far h ok fault) (slice_get (chars flags) 0) skip none
  where
    flag : (x : ℕ) (rest : Text) (o : Option Rule) → arg_by_short c x ≡ o → short_fault c false o rest h (flags_fault c false k rest 0) ≡ [] → ⊥
    flag x rest None is fault = cc fault
    flag x rest (Some a) is fault =
        let asks = flag_asks c (λ a. has_short a x) a ok is in
        react_fails c a h asks (neither _ _ (rw (no_values a asks) at fault)).0

    go : ((rest : Text) (less : ℕ) → flags_fault c false k rest less h ≡ [] → (bundle_met c k rest less so_far h).0.rows ≡ h.rows) → (o : Option ℕ) (skip : ℕ) → bundle_step_fault c false o flags skip h (flags_fault c false k) ≡ []
        → (bundle_step c o flags skip so_far h (bundle_met c k)).0.rows ≡ h.rows
    go more None skip fault = refl
    go more (Some x) zero fault = absurd (flag x _ (arg_by_short c x) refl fault)
    go more (Some x) (suc skip) fault = more _ skip fault

plain_keeps : (c : List Rule) (waiting : Waiting) (word : Text) (h : Held) → (plain_word c waiting word h).0.rows ≡ h.rows
plain_keeps c idle word h = refl
plain_keeps c positional word h = refl
plain_keeps c (option id) word h = go (arg_by_id c id)
  where
    go : (o : Option Rule) → (option_word o id word h).0.rows ≡ h.rows
    go None = refl
    go (Some a) = refl

after_keeps : (c : List Rule) (waiting : Waiting) (word : Text) (h : Held) (outcome : Outcome) → (after_flag c waiting word h outcome).0.rows ≡ h.rows
after_keeps c waiting word h done = refl
after_keeps c waiting word h (waits id) = refl
after_keeps c waiting word h plain = plain_keeps c waiting word h
after_keeps c waiting word h refused = plain_keeps c waiting word h

module _ (s : Shape) (again : s.args_override_self ≡ false) (ok : are_plain s.rules ≡ true) where
  flag_keeps : (waiting : Waiting) (word : Text) (h : Held) → flag_word_fault s.rules false (long_of word) word h ≡ []
      → (long_or_other s.rules waiting word (long_of word) h).0.rows ≡ h.rows
  flag_keeps waiting word h none = by_form (long_of word) none
    where
      long : (o : Option Rule) (q : Rule → Bool) (v : Option Text) → find (λ a. not (is_some a.index) && q a) s.rules ≡ o → long_fault s.rules false o v h ≡ [] → ⊥
      long None q v is fault = cc fault
      long (Some a) q v is fault =
          let asks = flag_asks s.rules q a ok is in
          by_value _ v (rw (no_values a asks) at fault)
        where
          by_value : (ks : Kinds) (v : Option Text) → cond (is_some v) (TooManyValues ∷ ks) (react_fault s.rules false a [] h) ≡ [] → ⊥
          by_value ks None fault = react_fails s.rules a h (flag_asks s.rules q a ok is) fault
          by_value ks (Some t) fault = cc fault

      by_short : (o : Option Text) → option_map_or (λ flags. bundle_fault s.rules false flags h) o [] ≡ []
          → (short_or_plain s.rules waiting word o h).0.rows ≡ h.rows
      by_short None fault = plain_keeps s.rules waiting word h
      by_short (Some flags) fault =
          after_keeps s.rules waiting word _ _ ∙ bundle_keeps s.rules (length flags) flags h.skip plain (record h { skip = 0 }) ok fault

      by_form : (o : Option (Text × Option Text)) → flag_word_fault s.rules false o word h ≡ [] → (long_or_other s.rules waiting word o h).0.rows ≡ h.rows
      by_form (Some p) fault = absurd (long (arg_by_long s.rules p.0) (λ a. has_long a p.0) p.1 refl fault)
      by_form None fault = by_short (short_of word) fault

  other_keeps : (waiting : Waiting) (position : ℕ) (word : Text) (h : Held) → other_fault s None word h ≡ []
      → (subcommand_or_other s.rules None waiting position word h).0.rows ≡ h.rows
  other_keeps waiting position word h none =
      go (bytes_eq word (45 ∷ 45 ∷ [])) (ap (λ again. cond (bytes_eq word (45 ∷ 45 ∷ [])) [] (flag_word_fault s.rules again (long_of word) word h)) (sym again) ∙ none)
    where
      go : (b : Bool) → cond b [] (flag_word_fault s.rules false (long_of word) word h) ≡ []
          → (cond b (h, trailing position) (long_or_other s.rules waiting word (long_of word) h)).0.rows ≡ h.rows
      go true fault = refl
      go false fault = flag_keeps waiting word h fault

  -- a word without a fault changes no row by itself
  word_keeps : (is_trailing : Bool) (waiting : Waiting) (position : ℕ) (word : Text) (h : Held) → word_fault s [] is_trailing waiting word h ≡ []
      → (word_met s.rules [] is_trailing waiting position word h).0.rows ≡ h.rows
  word_keeps true waiting position word h none = refl
  word_keeps false idle position word h none = other_keeps idle position word h none
  word_keeps false positional position word h none = other_keeps positional position word h none
  word_keeps false (option id) position word h none = other_keeps (option id) position word h none

  value_good : (word : Text) (w : Walk) (h : Held) (o : Option Rule) → option_map_or (λ a. positional_fault s.rules false a h) o (stray_fault s) ≡ []
      → Good s.rules h.rows → Good s.rules (to_positional s.rules o word w h).held.rows
  value_good word w h None fault good = good
  value_good word w h (Some a) fault good = go (is_pending a h.pending && takes_several a) fault
    where
      go : (b : Bool) → cond b [] (settle_fault s.rules false h) ≡ [] → Good s.rules (pushed a.id word (cond b h (settled s.rules h))).rows
      go true fault = good
      go false fault = settled_good s.rules h.pending h.rows h.skip ok fault good

  step_good : (word : Text) (w : Walk) (h : Held) (step : Step) → step_fault s w.position h step ≡ [] → Good s.rules h.rows
      → Good s.rules (after_step s.rules word w h step).held.rows
  step_good word w h (next waiting) fault good = good
  step_good word w h (trailing position) fault good = good
  step_good word w h (subcommand name) fault good = good
  step_good word w h value fault good = value_good word w h (arg_by_index s.rules w.position)
      (ap (λ again. option_map_or (λ a. positional_fault s.rules again a h) (arg_by_index s.rules w.position) (stray_fault s)) (sym again) ∙ fault) good

  turn_good : (w : Walk) (word : Text) → turn_fault s [] w word ≡ [] → Good s.rules w.held.rows → Good s.rules (walked s.rules [] w word).held.rows
  unfolding walked
  turn_good w word fault good = go w.stopped fault
    where
      go : (stop : Option (Text × List Text))
          → cond (is_some stop) []
          (or_else (word_fault s [] w.is_trailing w.waiting word w.held)
          (step_fault s w.position (word_met s.rules [] w.is_trailing w.waiting w.position word w.held).0 (word_met s.rules [] w.is_trailing w.waiting w.position word w.held).1)) ≡ []
          → Good s.rules (walked_from s.rules [] stop w word).held.rows
      go (Some p) fault = good
      go None fault =
          let met = word_met s.rules [] w.is_trailing w.waiting w.position word w.held in
          let parts = neither _ _ fault in
          step_good word w met.0 met.1 parts.1 (subst (Good s.rules) (sym (word_keeps w.is_trailing w.waiting w.position word w.held parts.0)) good)

  walk_good : (words : List Text) (w : Walk) → walk_fault s [] w words ≡ [] → Good s.rules w.held.rows → Good s.rules (fold (walked s.rules []) w words).held.rows
  unfolding walk_fault
  walk_good [] w fault good = good
  walk_good (word ∷ rest) w fault good =
      let parts = neither _ _ fault in
      walk_good rest (walked s.rules [] w word) parts.1 (turn_good w word parts.0 good)

-- ---- after the walk

default_keeps : (rules : List Rule) (rows : List Row) → are_plain rules ≡ true → fold with_default rows rules ≡ rows
default_keeps [] rows ok = refl
default_keeps (a ∷ more) rows ok =
    let here = both _ _ ok in
    ap (λ xs. fold with_default xs more) (go (has_row a.id rows) a.defaults (both _ _ here.0).0) ∙ default_keeps more rows here.1
  where
    go : (b : Bool) (values : List Text) → is_empty values ≡ true → cond b rows (default_rows a.id (reading_by a) values rows) ≡ rows
    go true values e = refl
    go false [] e = refl
    go false (v ∷ vs) e =
        let none = eqb-true (length (v ∷ vs)) 0 e in
        absurd (omega (arith, none))

checked : (a b negates missing : Bool) → check_kinds a b (not (negates && false) && missing) ≡ [] → missing ≡ false
checked true b negates missing e = absurd (cc e)
checked false true negates missing e = absurd (cc e)
checked false false true true e = absurd (cc e)
checked false false true false e = refl
checked false false false true e = absurd (cc e)
checked false false false false e = refl

-- each argument that has to be there has a text that passes, and any other has one that passes, or none
pub record HasRequired (s : Shape) (rows : List Row) : Type 0 where
  pub passing : (id : Text) (a : Rule) → arg_by_id s.rules id ≡ Some a → a.required ≡ true
      → (text : Text) × (first_of id rows ≡ Some text) × (accepts a.ignore_case (parser_of_value a.parser) text ≡ true)
  pub fitting : (id : Text) (a : Rule) → arg_by_id s.rules id ≡ Some a
      → IfSome (first_of id rows) (λ text. accepts a.ignore_case (parser_of_value a.parser) text ≡ true)

-- the rows of a parse fit, and what has to be there is
after_parse : (s : Shape) (words : List Text) → is_plain_shape s ≡ true → level_fault s [] nothing_held words false [] ≡ []
    → Good s.rules (rows_after s.rules [] words) × (list_any (λ a. a.required && not (is_given a.id (rows_after s.rules [] words))) s.rules ≡ false)
after_parse s words is_plain none =
    let ok = (both (are_plain s.rules) _ is_plain).0 in
    let again = not_true s.args_override_self (both (are_plain s.rules) _ is_plain).1 in
    let end = (walk s.rules [] nothing_held words).held in
    let walked = neither _ _ none in
    let settle = neither _ _ walked.1 in
    let last = neither _ _ settle.1 in
    let good = walk_good s again ok words (walk_from nothing_held) walked.0 tt in
    let settles : settle_fault s.rules false end ≡ [] = ap (λ again. settle_fault s.rules again end) (sym again) ∙ settle.0 in (
      subst (Good s.rules) (sym (default_keeps s.rules _ ok)) (settled_good s.rules end.pending end.rows end.skip ok settles good),
      checked _ _ s.subcommand_negates_reqs _ last.1,
    )

passing_of : (s : Shape) (words : List Text) → is_plain_shape s ≡ true → level_fault s [] nothing_held words false [] ≡ []
    → (id : Text) (a : Rule) → arg_by_id s.rules id ≡ Some a → a.required ≡ true
    → (text : Text) × (first_of id (rows_after s.rules [] words) ≡ Some text) × (accepts a.ignore_case (parser_of_value a.parser) text ≡ true)
passing_of s words is_plain none id a at wanted =
    let ok = (both (are_plain s.rules) _ is_plain).0 in
    let parsed = after_parse s words is_plain none in
    let rows = rows_after s.rules [] words in
    let given = not_any (λ a. a.required && not (is_given a.id rows)) (λ a. bytes_eq a.id id) s.rules a parsed.1 at in
    let name = same a.id id (found is_plain_rule (λ a. bytes_eq a.id id) s.rules a ok at).1 in
    by_row rows parsed.0 (find (λ r. bytes_eq r.id id) rows) refl
    (ap (λ n. option_map_or (λ r. explicit_source r.source) (find (λ r. bytes_eq r.id n) rows) false) (sym name) ∙ is_there a.required (is_given a.id rows) wanted given)
  where
    is_there : (b given : Bool) → b ≡ true → (b && not given) ≡ false → given ≡ true
    is_there true true e none = refl
    is_there true false e none = absurd (true≢false none)
    is_there false given e none = absurd (true≢false (sym e))

    by_row : (rows : List Row) → Good s.rules rows → (o : Option Row) → find (λ r. bytes_eq r.id id) rows ≡ o
        → option_map_or (λ r. explicit_source r.source) o false ≡ true
        → (text : Text) × (first_of id rows ≡ Some text) × (accepts a.ignore_case (parser_of_value a.parser) text ≡ true)
    by_row rows good None is there = absurd (true≢false (sym there))
    by_row rows good (Some r) is there =
        let row = good_row s.rules rows id r good is in
        let first = row.0 a (ap (arg_by_id s.rules) row.1 ∙ at) in
        (first.0, ap (λ o. option_and_then (λ r. slice_get r.values 0) o) is ∙ first.1, first.2)

fitting_of : (s : Shape) (words : List Text) → is_plain_shape s ≡ true → level_fault s [] nothing_held words false [] ≡ []
    → (id : Text) (a : Rule) → arg_by_id s.rules id ≡ Some a
    → IfSome (first_of id (rows_after s.rules [] words)) (λ text. accepts a.ignore_case (parser_of_value a.parser) text ≡ true)
fitting_of s words is_plain none id a at =
    let rows = rows_after s.rules [] words in
    by_row rows (after_parse s words is_plain none).0 (find (λ r. bytes_eq r.id id) rows) refl
  where
    passes : Text → Type 0
    passes text = accepts a.ignore_case (parser_of_value a.parser) text ≡ true

    by_row : (rows : List Row) → Good s.rules rows → (o : Option Row) → find (λ r. bytes_eq r.id id) rows ≡ o → IfSome (first_of id rows) passes
    by_row rows good None is = subst (λ o. IfSome (option_and_then (λ r. slice_get r.values 0) o) passes) (sym is) tt
    by_row rows good (Some r) is =
        let row = good_row s.rules rows id r good is in
        let first = row.0 a (ap (arg_by_id s.rules) row.1 ∙ at) in
        subst (λ o. IfSome (option_and_then (λ r. slice_get r.values 0) o) passes) (sym is) (subst (λ o. IfSome o passes) (sym first.1) first.2)

pub required : (s : Shape) (words : List Text) → is_plain_shape s ≡ true → level_fault s [] nothing_held words false [] ≡ [] → HasRequired s (rows_after s.rules [] words)
required s words is_plain none = record { passing = passing_of s words is_plain none; fitting = fitting_of s words is_plain none }
