-- A command of a known name, of which nothing is wrong, has a form, before commands that go on as they may behind it.
use Rattle.std.proofs.Common.{◌≡◌, ℕ, zero, suc, ◌<◌, ◌≤◌, Bool, true, false, List, [], ◌∷◌, ◌++◌, length, drop, take, All, Option, Some, None, option_map, refl, sym, ap, subst, ◌∙◌, arith, if◌then◌else◌, inl, inr}
use Rattle.std.specs.List.{list_any}
use Rattle.std.specs.Prelude.{min, unwrap_or}
use Rattle.std.proofs.Math.Nat.{min-le_right}
use Rattle.std.proofs.lemmas.Bool.{cases_Bool, ltb-true}
use Rattle.std.proofs.lemmas.List.{append-nil, append_assoc}
use Rattle.std.proofs.lemmas.List.Elements.{All-nil, All-cons}
use Rattle.std.proofs.lemmas.Option.{same_Some}
use Rattle.octets.specs.Ascii.{lowercase_of}
use Rattle.octets.specs.Limits.{max_loops, max_value}
use Rattle.sieve_references.specs.References.{names_in}
use Rattle.sieve_parser.specs.Tree.{ArgumentTree, text}
use Rattle.sieve_check.specs.declared.names.Capability.TheVariants as capability
use Rattle.sieve_check.specs.declared.table.CommandName.{CommandName}
use Rattle.sieve_check.specs.declared.table.CommandName.TheVariants.{Require, If, Elsif, Else, Set, ForEveryPart, Break, Take}
use Rattle.sieve_check.specs.declared.signature.Positional.TheVariants as positional
use Rattle.sieve_check.specs.declared.signature.Ending.TheVariants.{Semicolon, Block}
use Rattle.sieve_check.specs.declared.typed.Act.{Act}
use Rattle.sieve_check.specs.declared.typed.Act.TheVariants as act
use Rattle.sieve_check.specs.Acts.{Acting, act_row, act_strings, acting, bare, filing}
use Rattle.sieve_check.specs.Bounded.{IsBoundedString, IsBoundedAct, IsBoundedCommand, AreBoundedCommands, AreBoundedBranches, IsCommandIn, AreCommandsIn, AreBranchesIn}
use Rattle.sieve_check.specs.FormOf.{InnerForms, none, one, template_of, most_of, PartForm, action, with_text, setting_in, taking_in, act_by, act_of, action_at, simple_of, block_of, Forms, closed, closed_by, after_none, put}
use Rattle.sieve_check.specs.Rules.{ending_cause, may_stand, mentions_by, needs_of, opened_by, same_tests, strings_of}
use Rattle.sieve_check.specs.Rows.{command_row}
use Rattle.sieve_check.specs.declared.table.Place.TheVariants.{ToLeave}
use Rattle.sieve_check.specs.declared.table.Role.{Role}
use Rattle.sieve_check.specs.declared.table.Role.TheVariants.{Expanded, NameThenValue, NameAlone}
use Rattle.sieve_check.specs.Arguments.{reading}
use Rattle.sieve_check.specs.Signatures.{◌>>=◌, Read, is_positional, command_signature}
use Rattle.sieve_check.specs.Surroundings.{Loop, Context, first_lacking, in_loop, is_meant, loops_left, opens_many, following}
use Rattle.sieve_check.specs.Typed.{Template, CommandForm, does, for_every_part, choice, CommandForms, command, no_branch, otherwise, branch}
use Rattle.sieve_check.specs.Variables.{string_variables, strings_variables, test_variables, command_variables, commands_variables, branches_variables}
use Rattle.sieve_check.proofs.Lists.{expands, has_long_string, is_large, texted, both_texted}
use Rattle.sieve_check.proofs.TagSteps.{number_read}
use Rattle.sieve_check.proofs.Options.{map_some, not_false, not_both, some_of}
use Rattle.sieve_check.proofs.Regular.{IsRegularAct, is_common, loops_there, regular_act}
use Rattle.sieve_check.proofs.Templates.{names_at, mentioned_at, expanding_names, nothing_mentioned, template_names, template_bounded}
use Rattle.sieve_check.proofs.TestExistence.{IsInnerIn, inner_kind, IsBoundedInner, inner_variables, unnamed}

-- ---- forms that go on

-- the branches and commands are within the limits, and so many loops are open around them
pub record AreWithin (loops : ℕ) (forms : Forms) : Type 0 where
  pub branches : AreBoundedBranches forms.branches
  pub commands : AreBoundedCommands forms.commands
  pub branches_in : AreBranchesIn loops forms.branches
  pub commands_in : AreCommandsIn loops forms.commands

abbrev pub forms_variables : Forms → List (List ℕ)
forms_variables forms = branches_variables forms.branches ++ commands_variables forms.commands

-- forms of commands that go on with branches only where they may, within the limits, with these variables
pub record Goes (s : Context) (names : List (List ℕ)) (o : Option Forms) : Type 0 where
  pub forms : Forms
  pub is : o ≡ Some forms
  pub begins : s.after_if ≡ false → forms.branches ≡ no_branch
  pub bounded : AreWithin (length s.loops) forms
  pub variables : forms_variables forms ≡ names

-- the same forms, got in another way, and the same names
pub along : (s : Context) (names others : List (List ℕ)) (o p : Option Forms) → o ≡ p → names ≡ others → Goes s names p → Goes s others o
along s names others o p e f goes = record { forms = goes.forms; is = e ∙ goes.is; begins = goes.begins; bounded = goes.bounded; variables = goes.variables ∙ f }

pub shut : (rest : Forms) → rest.branches ≡ no_branch → closed rest ≡ Some rest.commands
shut rest h = ap (λ b. closed_by b rest.commands) h

-- the names that a command brings by its own arguments
abbrev pub own_names : Context → CommandName → Read → List (List ℕ)
own_names s name read = mentioned_at (expands s) (mentions_by (command_row name).role [] read.positional)

-- variables of a command before others that go on with no branch
behind : (own names : List (List ℕ)) (rest : Forms) → own ≡ names → rest.branches ≡ no_branch → own ++ commands_variables rest.commands ≡ (names ++ []) ++ forms_variables rest
behind own names rest same alone =
    ap (λ vs. vs ++ commands_variables rest.commands) (same ∙ sym (append-nil names))
    ∙ ap (λ bs. (names ++ []) ++ (branches_variables bs ++ commands_variables rest.commands)) (sym alone)

-- ---- a command of a known name, before commands that go on as they may behind it

-- one that does this, and brings these names
action_goes : (s : Context) (own : List (List ℕ)) (c : CommandForm) (rest : Forms) (part : Option PartForm) → part ≡ Some (action c) → IsBoundedCommand c → IsCommandIn (length s.loops) c → command_variables c ≡ own → rest.branches ≡ no_branch → AreWithin (length s.loops) rest
    → Goes s ((own ++ []) ++ forms_variables rest) (part >>= λ part. put part rest)
action_goes s own c rest part is within around same alone bounded = record {
  forms = after_none (command c rest.commands);
  is = ap (λ o. o >>= λ part. put part rest) is ∙ ap (option_map (λ cs. after_none (command c cs))) (shut rest alone);
  begins = λ _. refl;
  bounded = record { branches = tt; commands = (within, bounded.commands); branches_in = tt; commands_in = (around, bounded.commands_in) };
  variables = behind (command_variables c) own rest same alone;
}

-- what an action does, within the limits, with the loops that it needs, and with these names
record Acted (s : Context) (own : List (List ℕ)) (o : Option (Act × Template)) : Type 0 where
  act : Act
  string : Template
  is : o ≡ Some (act, string)
  bounded : IsBoundedAct act × All IsBoundedString (act_strings act string)
  around : (act_row act).loops ≤ length s.loops
  variables : strings_variables (act_strings act string) ++ (act_row act).sets ≡ own

acted : (s : Context) (name : CommandName) (at : ℕ) (read : Read) (rest : Forms) → simple_of s name at read none ≡ option_map (action_at at) (act_of s name read) → Acted s (own_names s name read) (act_of s name read) → rest.branches ≡ no_branch → AreWithin (length s.loops) rest
    → Goes s ((own_names s name read ++ []) ++ forms_variables rest) (simple_of s name at read none >>= λ part. put part rest)
acted s name at read rest same does_it alone bounded =
    action_goes s (own_names s name read) (does does_it.act does_it.string at) rest (simple_of s name at read none) (same ∙ ap (option_map (action_at at)) does_it.is) does_it.bounded does_it.around does_it.variables alone bounded

one_bounded : (t : Template) → IsBoundedString t → All IsBoundedString (t ∷ [])
one_bounded t bounded = All-cons IsBoundedString t [] bounded (All-nil IsBoundedString)

-- one that takes no argument
bare_act : (s : Context) (own : List (List ℕ)) (act : Act) → IsBoundedAct act → (act_row act).string ≡ false → (act_row act).sets ≡ [] → (act_row act).loops ≤ length s.loops → [] ≡ own → Acted s own (Some (act, []))
bare_act s own act bounded plain unset around nameless =
    let no_string : act_strings act [] ≡ [] = ap (λ b. if b then [] ∷ [] else []) plain in
    record {
      act = act;
      string = [];
      is = refl;
      bounded = (bounded, subst (All IsBoundedString) (sym no_string) (All-nil IsBoundedString));
      around = around;
      variables = ap (λ strings. strings_variables strings ++ (act_row act).sets) no_string ∙ unset ∙ nameless;
    }

-- what takes no argument brings no name
bare_names : (b : Bool) (xs : List ArgumentTree) → is_positional positional.Nothing xs ≡ true → [] ≡ mentioned_at b (mentions_by Expanded [] xs)
bare_names b [] h = unnamed b [] h
bare_names b (x ∷ xs) h = absurd (cc)

-- one string is the first of the arguments
one_half : (xs : List ArgumentTree) → is_positional positional.Text xs ≡ true → xs ≡ take 1 xs ++ [] ++ drop 1 xs
one_half (text x ∷ []) h = refl
one_half _ h = absurd (cc)

-- one that takes a folder
filed : (s : Context) (act : Act) (read : Read) → IsBoundedAct act → (act_row act).string ≡ true → (act_row act).sets ≡ [] → (act_row act).loops ≤ length s.loops
    → is_positional positional.Text read.positional ≡ true → has_long_string read.positional ≡ false → (expands s ≡ true → list_any is_large (mentions_by Expanded [] read.positional).expanded ≡ false)
    → Acted s (mentioned_at (expands s) (mentions_by Expanded [] read.positional)) (with_text s.required act read.positional)
filed s act read bounded stringed unset around positional short few =
    let b = expands s in
    let folder = texted b read.positional positional short (λ yes. ap (λ xs. list_any is_large (strings_of xs)) (one_half read.positional positional) ∙ few yes) in
    let t = template_of s.required folder.0 in
    let strings : act_strings act t ≡ t ∷ [] = ap (λ b. if b then t ∷ [] else []) stringed in
    record {
      act = act;
      string = t;
      is = ap (with_text s.required act) folder.1;
      bounded = (bounded, subst (All IsBoundedString) (sym strings) (one_bounded t (template_bounded b folder.0 folder.2)));
      around = around;
      variables = ap (λ strings. strings_variables strings ++ (act_row act).sets) strings ∙ ap (λ names. (string_variables t ++ []) ++ names) unset ∙ append-nil (string_variables t ++ []) ∙ append-nil (string_variables t) ∙ template_names b folder.0
          ∙ sym (append-nil (names_at b folder.0)) ∙ sym (expanding_names b (folder.0 ∷ [])) ∙ ap (λ xs. mentioned_at b (mentions_by Expanded [] xs)) (sym folder.1);
    }

-- an act that is made of no argument, or of one string
common : (s : Context) (name : CommandName) (how : Acting) (read : Read) → acting name ≡ how → is_common how ≡ true → may_stand s (command_row name).place read.name ≡ true → is_positional (command_signature name).positional read.positional ≡ true → has_long_string read.positional ≡ false
    → (expands s ≡ true → list_any is_large (mentions_by (command_row name).role [] read.positional).expanded ≡ false) → Acted s (own_names s name read) (act_by s how read)
common s name (bare act) read is h stands positional short few =
    let r = subst (λ (how : Acting). IsRegularAct how name) is (regular_act name) in
    let nameless = bare_names (expands s) read.positional (ap (λ p. is_positional p read.positional) r.arguments ∙ positional) in
    bare_act s (own_names s name read) act r.bounded r.string r.sets (omega (arith, r.loops, loops_there s (command_row name).place read.name stands))
    (nameless ∙ ap (λ role. mentioned_at (expands s) (mentions_by role [] read.positional)) r.role)
common s name (filing act) read is h stands positional short few =
    let r = subst (λ (how : Acting). IsRegularAct how name) is (regular_act name) in
    subst (λ (role : Role). Acted s (mentioned_at (expands s) (mentions_by role [] read.positional)) (with_text s.required act read.positional)) r.role
    (filed s act read r.bounded r.string r.sets (omega (arith, r.loops, loops_there s (command_row name).place read.name stands)) (ap (λ p. is_positional p read.positional) r.arguments ∙ positional) short
    (λ yes. ap (λ role. list_any is_large (mentions_by role [] read.positional).expanded) r.role ∙ few yes))
common s name _ read is h stands positional short few = absurd (cc)

-- what is needed first is there
there : {A : Type 0} (b : Bool) (x : A) (others : Option A) → (if b then others else Some x) ≡ None → b ≡ true
there true x others h = refl
there false x others h = absurd (cc)

-- what a `set` brings, where variables were required
set_names : (b : Bool) (name x : List ℕ) → b ≡ true → names_at b x ++ lowercase_of name ∷ [] ≡ mentioned_at b (record { expanded = x ∷ []; set = name ∷ [] })
set_names true name x h = ap (λ names. names ++ lowercase_of name ∷ []) (sym (append-nil (names_in x)))
set_names false name x h = absurd (cc)

assigned : (s : Context) (read : Read) → first_lacking (capability.Variables ∷ []) s.required ≡ None → is_positional (command_signature Set).positional read.positional ≡ true → has_long_string read.positional ≡ false → (expands s ≡ true → list_any is_large (strings_of (drop 1 read.positional)) ≡ false)
    → Acted s (own_names s Set read) (act_of s Set read)
assigned s read has positional short few =
    let b = expands s in
    let modifiers = read.tags.modifiers in
    let both = both_texted b read.positional positional short few in
    let name = both.0 in
    let x = both.1 in
    let t = template_of s.required x in
    record {
      act = act.Set modifiers (lowercase_of name);
      string = t;
      is = ap (setting_in s.required modifiers) both.2;
      bounded = (tt, one_bounded t (template_bounded b x both.3));
      around = omega arith;
      variables = ap (λ names. names ++ lowercase_of name ∷ []) (append-nil (string_variables t) ∙ template_names b x) ∙ set_names b name x (there b capability.Variables None has) ∙ ap (λ xs. mentioned_at b (mentions_by NameThenValue [] xs)) (sym both.2);
    }

-- what a `take` brings, where variables were required
taken_name : (b : Bool) (name : List ℕ) → b ≡ true → lowercase_of name ∷ [] ≡ mentioned_at b (record { expanded = []; set = name ∷ [] })
taken_name true name h = refl
taken_name false name h = absurd (cc)

one_text : (xs : List ArgumentTree) → is_positional positional.Text xs ≡ true → (x : List ℕ) × (xs ≡ text x ∷ [])
one_text (text x ∷ []) h = (x, refl)
one_text _ h = absurd (cc)

-- some octets are taken, and no more than a value may have
most_some : (first : Option ℕ) → ((n : ℕ) → first ≡ Some n → 0 < n) → (0 < min (unwrap_or first max_value) max_value) × (min (unwrap_or first max_value) max_value ≤ max_value)
most_some None some = (omega arith, omega arith)
most_some (Some n) some = (least n max_value (some n refl) (omega arith), min-le_right n max_value) where
  least : (a b : ℕ) → 0 < a → 0 < b → 0 < min a b
  least zero b h k = absurd (omega (arith, h))
  least (suc a) zero h k = absurd (omega (arith, k))
  least (suc a) (suc b) h k = omega arith

taken : (s : Context) (args : List ArgumentTree) (read : Read) → reading (command_signature Take) args ≡ Some read → first_lacking (needs_of (command_row Take) args) s.required ≡ None → in_loop s ≡ true → is_positional positional.Text read.positional ≡ true
    → Acted s (own_names s Take read) (act_of s Take read)
taken s args read is has stands positional =
    let b = expands s in
    let name = one_text read.positional positional in
    record {
      act = act.Take (most_of read.tags) (lowercase_of name.0);
      string = [];
      is = ap (taking_in read.tags) name.1;
      bounded = (most_some read.tags.first (number_read (command_signature Take) args read is), All-nil IsBoundedString);
      around = ltb-true 0 (length s.loops) stands;
      variables = taken_name b name.0 (there b capability.Variables _ has) ∙ ap (λ xs. mentioned_at b (mentions_by NameAlone [] xs)) (sym name.1);
    }

-- those that are left are open
left_there : (name : Option (List ℕ)) (loops : List Loop) (n : ℕ) → loops_left name loops ≡ Some n → (0 < n) × (n ≤ length loops)
left_there name [] n h = absurd (cc)
left_there name (loop ∷ loops) n h =
    elim (cases_Bool (is_meant name loop)) [
      | inl meant ↦
          let one : 1 ≡ n = same_Some 1 n (sym (ap (λ b. if b then Some 1 else option_map suc (loops_left name loops)) meant) ∙ h) in
          (omega (arith, one), omega (arith, one))
      | inr another ↦
          let further = map_some (loops_left name loops) suc n (sym (ap (λ b. if b then Some 1 else option_map suc (loops_left name loops)) another) ∙ h) in
          let one_more : suc further.0 ≡ n = same_Some (suc further.0) n further.2 in
          let there = left_there name loops further.0 further.1 in
          (omega (arith, one_more), omega (arith, one_more, there.1))
    ]

left : (s : Context) (read : Read) → may_stand s ToLeave read.name ≡ true → is_positional positional.Nothing read.positional ≡ true → Acted s (own_names s Break read) (act_of s Break read)
left s read stands positional =
    let loops = some_of (loops_left read.name s.loops) stands in
    let there = left_there read.name s.loops loops.0 loops.1 in
    record {
      act = act.Leave loops.0;
      string = [];
      is = ap (option_map (λ left. (act.Leave left, []))) loops.1;
      bounded = (there.0, All-nil IsBoundedString);
      around = there.1;
      variables = bare_names (expands s) read.positional positional;
    }

pub simple_goes : (s : Context) (name : CommandName) (at : ℕ) (args : List ArgumentTree) (read : Read) (inner : InnerForms) (rest : Forms) → reading (command_signature name) args ≡ Some read → may_stand s (command_row name).place read.name ≡ true → first_lacking (needs_of (command_row name) args) s.required ≡ None → is_positional (command_signature name).positional read.positional ≡ true → ending_cause (command_row name).ending (Some Semicolon) ≡ None
    → same_tests (command_signature name).tests (inner_kind inner) ≡ true → has_long_string read.positional ≡ false → (expands s ≡ true → list_any is_large (mentions_by (command_row name).role [] read.positional).expanded ≡ false)
    → ((following s (Some (command_row name)) (strings_of args)).after_if ≡ false → rest.branches ≡ no_branch) → AreWithin (length s.loops) rest → Goes s ((own_names s name read ++ inner_variables inner) ++ forms_variables rest) (simple_of s name at read inner >>= λ part. put part rest)
simple_goes s Require at args read none rest is stands has positional ends same short few begins bounded = record {
  forms = after_none rest.commands;
  is = ap (option_map after_none) (shut rest (begins refl));
  begins = λ _. refl;
  bounded = record { branches = tt; commands = bounded.commands; branches_in = tt; commands_in = bounded.commands_in };
  variables = behind [] (own_names s Require read) rest (sym (nothing_mentioned (expands s))) (begins refl);
}
simple_goes s Break at args read none rest is stands has positional ends same short few begins bounded = acted s Break at read rest refl (left s read stands positional) (begins refl) bounded
simple_goes s Set at args read none rest is stands has positional ends same short few begins bounded = acted s Set at read rest refl (assigned s read has positional short few) (begins refl) bounded
simple_goes s Take at args read none rest is stands has positional ends same short few begins bounded = acted s Take at read rest refl (taken s args read is has stands positional) (begins refl) bounded
simple_goes s If at args read _ rest is stands has positional ends same short few begins bounded = absurd (cc)
simple_goes s Elsif at args read _ rest is stands has positional ends same short few begins bounded = absurd (cc)
simple_goes s Else at args read _ rest is stands has positional ends same short few begins bounded = absurd (cc)
simple_goes s ForEveryPart at args read _ rest is stands has positional ends same short few begins bounded = absurd (cc)
simple_goes s name at args read none rest is stands has positional ends same short few begins bounded = acted s name at read rest refl (common s name (acting name) read refl refl stands positional short few) (begins refl) bounded
simple_goes s _ at args read _ rest is stands has positional ends same short few begins bounded = absurd (cc)

-- variables of a branch before others
branch_behind : (names tests within : List (List ℕ)) (rest : Forms) → [] ≡ names → tests ++ within ++ branches_variables rest.branches ++ commands_variables rest.commands ≡ ((names ++ tests) ++ within) ++ forms_variables rest
branch_behind names tests within rest same =
    append_assoc (tests ++ within) (branches_variables rest.branches) (commands_variables rest.commands)
    ∙ ap (λ vs. ((vs ++ tests) ++ within) ++ forms_variables rest) same

pub block_goes : (s : Context) (name : CommandName) (at : ℕ) (args : List ArgumentTree) (read : Read) (inner : InnerForms) (body : CommandForms) (rest : Forms) → is_positional (command_signature name).positional read.positional ≡ true → may_stand s (command_row name).place read.name ≡ true → opens_many (opened_by (command_row name) args) s ≡ false → ending_cause (command_row name).ending (Some Block) ≡ None
    → same_tests (command_signature name).tests (inner_kind inner) ≡ true → ((following s (Some (command_row name)) (strings_of args)).after_if ≡ false → rest.branches ≡ no_branch) → IsBoundedInner inner → IsInnerIn (length s.loops) inner
    → AreBoundedCommands body → AreCommandsIn (length (opened_by (command_row name) args ++ s.loops)) body → AreWithin (length s.loops) rest
    → Goes s (((own_names s name read ++ inner_variables inner) ++ commands_variables body) ++ forms_variables rest) (block_of name at inner body >>= λ part. put part rest)
block_goes s If at args read (one f) body rest positional stands room ends same begins tests tests_in within within_in bounded = record {
  forms = after_none (command (choice (branch f body at rest.branches)) rest.commands);
  is = refl;
  begins = λ _. refl;
  bounded = record { branches = tt; commands = ((tests, within, bounded.branches), bounded.commands); branches_in = tt; commands_in = ((tests_in, within_in, bounded.branches_in), bounded.commands_in) };
  variables = branch_behind (own_names s If read) (test_variables f) (commands_variables body) rest (bare_names (expands s) read.positional positional);
}
block_goes s Elsif at args read (one f) body rest positional stands room ends same begins tests tests_in within within_in bounded = record {
  forms = record { branches = branch f body at rest.branches; commands = rest.commands };
  is = refl;
  begins = λ h. absurd (not_both s.after_if stands h);
  bounded = record { branches = (tests, within, bounded.branches); commands = bounded.commands; branches_in = (tests_in, within_in, bounded.branches_in); commands_in = bounded.commands_in };
  variables = branch_behind (own_names s Elsif read) (test_variables f) (commands_variables body) rest (bare_names (expands s) read.positional positional);
}
block_goes s Else at args read none body rest positional stands room ends same begins tests tests_in within within_in bounded = record {
  forms = record { branches = otherwise body; commands = rest.commands };
  is = ap (option_map (λ cs. let x : Forms = record { branches = otherwise body; commands = cs } in x)) (shut rest (begins refl));
  begins = λ h. absurd (not_both s.after_if stands h);
  bounded = record { branches = within; commands = bounded.commands; branches_in = within_in; commands_in = bounded.commands_in };
  variables = ap (λ bs. commands_variables body ++ (branches_variables bs ++ commands_variables rest.commands)) (sym (begins refl))
      ∙ ap (λ vs. ((vs ++ []) ++ commands_variables body) ++ forms_variables rest) (bare_names (expands s) read.positional positional);
}
block_goes s ForEveryPart at args read none body rest positional stands room ends same begins tests tests_in within within_in bounded = record {
  forms = after_none (command (for_every_part body at) rest.commands);
  is = ap (option_map (λ cs. after_none (command (for_every_part body at) cs))) (shut rest (begins refl));
  begins = λ _. refl;
  bounded = record { branches = tt; commands = (within, bounded.commands); branches_in = tt; commands_in = ((ltb-true (length s.loops) max_loops (not_false _ room), within_in), bounded.commands_in) };
  variables = ap (λ bs. commands_variables body ++ (branches_variables bs ++ commands_variables rest.commands)) (sym (begins refl))
      ∙ ap (λ vs. ((vs ++ []) ++ commands_variables body) ++ forms_variables rest) (bare_names (expands s) read.positional positional);
}
block_goes s _ at args read _ body rest positional stands room ends same begins tests tests_in within within_in bounded = absurd (cc)
