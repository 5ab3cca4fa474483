-- The first reason that is told says the fault of least number.
use Rattle.std.proofs.Common.{◌≡◌, ◌∙◌, ℕ, ◌≤◌, Bool, true, false, not, ◌&&◌, ◌||◌, if◌then◌else◌, List, [], ◌∷◌, ◌++◌, length, nat_lt, bytes_eq, Option, Some, None, option_map, refl, sym, ap, subst, arith, inl, inr}
use Rattle.std.specs.Prelude.{is_some, slice_get, Result, Ok, Err}
use Rattle.std.specs.List.{find, list_any}
use Rattle.std.specs.Option.{option_and_then, option_map_or, option_or}
use Rattle.std.specs.Result.{result_err, result_ok}
use Rattle.std.proofs.lemmas.Bool.{cases_Bool, ltb-false}
use Rattle.std.proofs.lemmas.List.{append-nil, append_assoc, take_all}
use Rattle.octets.specs.Limits.{max_variables}
use Rattle.octets.specs.Once.{with_more}
use Rattle.sieve_references.specs.References.{Segment, beyond, foreign, segments, is_identifier}
use Rattle.sieve_parser.specs.Tree.{ArgumentTree, label, InvocationTree, invocation, TestsTree, no_test, one_test, test_list, MoreTests, last, next, CommandTree, simple, block, CommandsTree, no_command, command}
use Rattle.sieve_check.specs.declared.causes.ReasonKind.TheVariants as reasons
use Rattle.sieve_check.specs.declared.error.CheckError.{CheckError}
use Rattle.sieve_check.specs.declared.error.Fault.{Fault}
use Rattle.sieve_check.specs.declared.error.Fault.TheVariants.{UnknownCommand, MissingCapability, UnknownCapability, BadArguments, Limit}
use Rattle.sieve_check.specs.declared.names.Capability.{Capability}
use Rattle.sieve_check.specs.declared.table.Place.{Place}
use Rattle.sieve_check.specs.declared.table.Place.TheVariants.{ToLeave}
use Rattle.sieve_check.specs.declared.signature.Ending.{Ending}
use Rattle.sieve_check.specs.declared.signature.Ending.TheVariants.{Semicolon, Block}
use Rattle.sieve_check.specs.declared.signature.Positional.{Positional}
use Rattle.sieve_check.specs.declared.signature.Signature.{Signature}
use Rattle.sieve_check.specs.declared.signature.Tags.{Tags}
use Rattle.sieve_check.specs.declared.signature.Tests.{Tests}
use Rattle.sieve_check.specs.declared.string_flaws.StringFlaw.TheVariants.{Unknown, Long, Wrong, Large}
use Rattle.sieve_check.specs.declared.surroundings.Capabilities.{Capabilities}
use Rattle.sieve_check.specs.Arguments.{Awaiting, arguments_read, awaiting, expected, first_label, is_second_modifier, missing_cause, number_of, positional_cause, rest_read, sound}
use Rattle.sieve_check.specs.Causes.{Cause, Refused, about, fault_of_kind, plain, refusal_for}
use Rattle.sieve_check.specs.LeastFault.{Seen, all_of, all_of_command, all_of_commands, all_of_more, all_of_tests, ends_otherwise, fault_by, fault_read, first_fault, has_large, has_long, has_unknown, has_wrong, known_fault, lacks, least_fault, read_fault}
use Rattle.sieve_check.specs.Names.{row_named, tag_named}
use Rattle.sieve_check.specs.Rules.{Mentions, Visit, after_invocation, are_many, capability_arguments, cause_of, command_visits, commands_visits, ending_cause, fault_of, invocation_of, is_long_name, kind_of, known_cause, lacking, lacking_cause, lacks_by, large_cause, large_mention_cause, long_name, long_string_cause, looks_inside, loops_opened, many_loops_cause, many_strings_cause, may_stand, mention_cause, mentions_of, misplaced, more_visits, names_by, needs_of, opened_by, opened_past, past_invocation, place_cause, read_cause, reference_cause, reference_kind, refused_among, same_ending, same_reason, same_tests, string_has, strings_of, tests_cause, tests_visits, unknown_as, unknown_cause, visits_of, where_required}
use Rattle.sieve_check.specs.Rows.{Row, is_test}
use Rattle.sieve_check.specs.Signatures.{Given, Read, add_tag, asks_for_mime, is_positional, no_tag, nothing_given, takes_tag, with_argument}
use Rattle.sieve_check.specs.Surroundings.{Context, at_start, first_lacking, in_block, opens_many}
use Rattle.sieve_check.proofs.Existence.{Behind, behind_sound}
use Rattle.sieve_check.proofs.Faultless.{told_first}
use Rattle.sieve_check.proofs.TestExistence.{all_looked_at, known_row, row_well_formed}

-- ---- causes as faults

abbrev fault_for : Option Cause → Option Fault
fault_for = option_map (λ (c : Cause). fault_of_kind c.kind)

abbrev when : Bool → Fault → Option Fault
when b fault = if b then Some fault else None

of_either : (a b : Option Cause) → fault_for (option_or a b) ≡ option_or (fault_for a) (fault_for b)
of_either None b = refl
of_either (Some c) b = refl

of_map : {A : Type 0} (f : A → Cause) (fault : Fault) (o : Option A) → ((x : A) → fault_of_kind (f x).kind ≡ fault) → fault_for (option_map f o) ≡ when (is_some o) fault
of_map f fault None h = refl
of_map f fault (Some x) h = ap Some (h x)

some_found : {A : Type 0} (p : A → Bool) (xs : List A) → is_some (find p xs) ≡ list_any p xs
some_found p [] = refl
some_found p (x ∷ xs) = elim (cases_Bool (p x)) [ inl holds ↦ rw holds refl | inr fails ↦ rw fails (some_found p xs) ]

of_found : {A : Type 0} (f : A → Cause) (fault : Fault) (p : A → Bool) (xs : List A) → ((x : A) → fault_of_kind (f x).kind ≡ fault) → fault_for (option_map f (find p xs)) ≡ when (list_any p xs) fault
of_found f fault p xs h = of_map f fault (find p xs) h ∙ ap (λ b. when b fault) (some_found p xs)

of_if : (b : Bool) (c : Cause) (fault : Fault) → fault_of_kind c.kind ≡ fault → fault_for (if b then Some c else None) ≡ when b fault
of_if true c fault h = ap Some h
of_if false c fault h = refl

of_unless : (b : Bool) (c : Cause) (fault : Fault) → fault_of_kind c.kind ≡ fault → fault_for (if b then None else Some c) ≡ when (not b) fault
of_unless true c fault h = refl
of_unless false c fault h = ap Some h

one_of_both : (a b : Bool) (fault : Fault) → option_or (when a fault) (when b fault) ≡ when (a || b) fault
one_of_both true b fault = refl
one_of_both false b fault = refl

-- two that are of one fault
of_both : (a b : Option Cause) (x y : Bool) (fault : Fault) → fault_for a ≡ when x fault → fault_for b ≡ when y fault → fault_for (option_or a b) ≡ when (x || y) fault
of_both a b x y fault is_a is_b = of_either a b ∙ ap (λ o. option_or o (fault_for b)) is_a ∙ ap (λ o. option_or (when x fault) o) is_b ∙ one_of_both x y fault

first_when : (b : Bool) (fault : Fault) (o : Option Fault) → option_or (when b fault) o ≡ (if b then Some fault else o)
first_when true fault o = refl
first_when false fault o = refl

-- one before others
of_first : (a b : Option Cause) (x : Bool) (fault : Fault) (rest : Option Fault) → fault_for a ≡ when x fault → fault_for b ≡ rest → fault_for (option_or a b) ≡ (if x then Some fault else rest)
of_first a b x fault rest is_a is_b = of_either a b ∙ ap (λ o. option_or o (fault_for b)) is_a ∙ ap (λ o. option_or (when x fault) o) is_b ∙ first_when x fault rest

-- ---- of arguments that can't be read

abbrev IsBad : Result Read Cause → Type 0
IsBad (Ok read) = Unit {0}
IsBad (Err cause) = fault_of_kind cause.kind ≡ BadArguments

bad_expected : {A : Type 0} (o : Option A) (cause : Cause) (follow : A → Result Read Cause) → fault_of_kind cause.kind ≡ BadArguments → ((x : A) → IsBad (follow x)) → IsBad (expected o cause follow)
bad_expected None cause follow h rest = h
bad_expected (Some x) cause follow h rest = rest x

bad_untaken : (foreign second : Bool) → fault_of_kind (if foreign then reasons.ForeignTag else if second then reasons.TwoModifiers else reasons.RepeatedTag) ≡ BadArguments
bad_untaken true second = refl
bad_untaken false true = refl
bad_untaken false false = refl

abbrev IsBadCause : Option Cause → Type 0
IsBadCause None = Unit {0}
IsBadCause (Some cause) = fault_of_kind cause.kind ≡ BadArguments

bad_or : (a b : Option Cause) → IsBadCause a → IsBadCause b → IsBadCause (option_or a b)
bad_or None b is_a is_b = is_b
bad_or (Some c) b is_a is_b = is_a

bad_if : (x : Bool) (a b : Option Cause) → IsBadCause a → IsBadCause b → IsBadCause (if x then a else b)
bad_if true a b is_a is_b = is_a
bad_if false a b is_a is_b = is_b

bad_late : (o : Option (List ℕ)) → IsBadCause (option_map (about reasons.LateTag) o)
bad_late None = tt
bad_late (Some name) = refl

bad_positional : (positional : Positional) (args : List ArgumentTree) → IsBadCause (positional_cause positional args)
bad_positional positional args =
    bad_or (option_map (about reasons.LateTag) (first_label args)) _ (bad_late (first_label args))
    (bad_if (nat_lt (length args) (number_of positional)) _ _ refl
    (bad_if (nat_lt (number_of positional) (length args)) _ _ refl
    (bad_if (not (is_positional positional args)) _ None refl tt)))

bad_missing : (signature : Signature) (tags : Tags) (args : List ArgumentTree) → IsBadCause (missing_cause signature tags args)
bad_missing signature tags args = bad_if (signature.order && not (is_some tags.order)) _ _ refl (bad_if (asks_for_mime tags && not tags.mime) _ None refl tt)

bad_sound : (o : Option Cause) (read : Read) → IsBadCause o → IsBad (sound o read)
bad_sound None read h = tt
bad_sound (Some cause) read h = h

bad_rest : (signature : Signature) (all : List ArgumentTree) (given : Given) (awaited : Option Awaiting) (args : List ArgumentTree) → IsBad (rest_read signature all given awaited args)
bad_rest signature all given None (label name ∷ args) =
    bad_expected (tag_named name) _ _ refl (λ tag.
    bad_expected (add_tag signature tag given) _ _ (bad_untaken (not (takes_tag signature tag no_tag)) (is_second_modifier tag given.tags))
    (λ more. bad_rest signature all more (awaiting name tag) args))
bad_rest signature all given None args =
    bad_sound (option_or (positional_cause signature.positional args) (missing_cause signature given.tags all)) _
    (bad_or (positional_cause signature.positional args) _ (bad_positional signature.positional args) (bad_missing signature given.tags all))
bad_rest signature all given (Some awaited) (a ∷ args) =
    bad_expected (with_argument awaited.tag a given) _ _ refl (λ more. bad_rest signature all more None args)
bad_rest signature all given (Some awaited) [] = refl

-- arguments, and what is wrong with them as they were read
of_reading : (r : Result Read Cause) (cause : Read → Option Cause) (fault : Read → Option Fault) → IsBad r → ((read : Read) → fault_for (cause read) ≡ fault read)
    → fault_for (option_or (result_err r) (option_and_then cause (result_ok r))) ≡ fault_read fault (result_ok r)
of_reading (Ok read) cause fault bad same = same read
of_reading (Err c) cause fault bad same = ap Some bad

-- ---- of strings and places

of_reference : (found : List Segment) → fault_of_kind (reference_kind found) ≡ BadArguments
of_reference [] = refl
of_reference (foreign ∷ others) = refl
of_reference (beyond ∷ others) = refl
of_reference (_ ∷ others) = of_reference others

of_mentions : (mentions : Mentions) → fault_for (mention_cause mentions) ≡ when (has_wrong mentions) BadArguments
of_mentions mentions =
    of_both (option_map reference_cause (find (string_has Wrong) mentions.expanded)) _ (list_any (string_has Wrong) mentions.expanded) _ BadArguments
    (of_found reference_cause BadArguments (string_has Wrong) mentions.expanded (λ string. of_reference (segments string)))
    (of_found (about reasons.VariableName) BadArguments (λ name. not (is_identifier name)) mentions.set (λ name. refl))

of_name : (string : List ℕ) (o : Option (List ℕ)) → fault_of_kind (option_map_or (about reasons.LongName) o (about reasons.ManySegments string)).kind ≡ Limit
of_name string None = refl
of_name string (Some name) = refl

of_large : (mentions : Mentions) → fault_for (large_mention_cause mentions) ≡ when (has_large mentions) Limit
of_large mentions =
    of_both (option_map large_cause (find (string_has Large) mentions.expanded)) _ (list_any (string_has Large) mentions.expanded) _ Limit
    (of_found large_cause Limit (string_has Large) mentions.expanded (λ string. of_name string (long_name (segments string))))
    (of_found (about reasons.LongName) Limit is_long_name mentions.set (λ name. refl))

of_long : (args : List ArgumentTree) → fault_for (long_string_cause args) ≡ when (has_long args) Limit
of_long args = of_found (about reasons.LongString) Limit (string_has Long) (strings_of args) (λ string. refl)

of_tests : (signature : Signature) (tests : Tests) → fault_for (tests_cause signature tests) ≡ when (not (same_tests signature.tests tests)) BadArguments
of_tests signature tests = of_unless (same_tests signature.tests tests) _ BadArguments refl

unnamed : (o : Option (List ℕ)) → fault_of_kind (option_map_or (about reasons.NoSuchLoop) o (plain reasons.Misplaced)).kind ≡ BadArguments
unnamed None = refl
unnamed (Some name) = refl

of_misplaced : (place : Place) (name : Option (List ℕ)) → fault_of_kind (misplaced place name).kind ≡ BadArguments
of_misplaced ToLeave name = unnamed name
of_misplaced _ name = refl

of_ending : (wanted ending : Option Ending) → fault_for (ending_cause wanted ending) ≡ when (ends_otherwise wanted ending) BadArguments
of_ending None ending = refl
of_ending (Some wanted) None = refl
of_ending (Some wanted) (Some ending) = of_unless (same_ending wanted ending) _ BadArguments refl

of_lacking : (required : Capabilities) (needed : List Capability) → fault_for (lacking_cause required needed) ≡ when (lacks required needed) MissingCapability
of_lacking required needed = of_map lacking MissingCapability (first_lacking needed required) (λ capability. refl)

of_unknown : (row : Row) (args : List ArgumentTree) → fault_for (unknown_cause row args) ≡ when (has_unknown (capability_arguments row.follows args)) UnknownCapability
of_unknown row args = of_found (about reasons.UnknownCapability) UnknownCapability (string_has Unknown) (strings_of (capability_arguments row.follows args)) (λ string. refl)

-- ---- of a command or test

-- the causes that are of bad arguments, then those that are of a limit
two_groups : (a b c d e f g h : Bool) → option_or (option_or (when a BadArguments) (option_or (when b BadArguments) (when c BadArguments))) (option_or (when d BadArguments) (option_or (when e Limit) (option_or (when f Limit) (option_or (when g Limit) (when h Limit)))))
    ≡ (if a || b || c || d then Some BadArguments else if e || f || g || h then Some Limit else None)
two_groups true b c d e f g h = refl
two_groups false true c d e f g h = refl
two_groups false false true d e f g h = refl
two_groups false false false true e f g h = refl
two_groups false false false false true f g h = refl
two_groups false false false false false true g h = refl
two_groups false false false false false false true h = refl
two_groups false false false false false false false h = refl

of_groups : (o p q r u v w x : Option Cause) (a b c d e f g h : Bool)
    → fault_for o ≡ when a BadArguments → fault_for p ≡ when b BadArguments → fault_for q ≡ when c BadArguments → fault_for r ≡ when d BadArguments
    → fault_for u ≡ when e Limit → fault_for v ≡ when f Limit → fault_for w ≡ when g Limit → fault_for x ≡ when h Limit
    → fault_for (option_or (option_or o (option_or p q)) (option_or r (option_or u (option_or v (option_or w x))))) ≡ (if a || b || c || d then Some BadArguments else if e || f || g || h then Some Limit else None)
of_groups o p q r u v w x a b c d e f g h is_o is_p is_q is_r is_u is_v is_w is_x =
    of_either (option_or o (option_or p q)) _
    ∙ ap (λ y. option_or y (fault_for (option_or r (option_or u (option_or v (option_or w x)))))) (of_either o (option_or p q) ∙ ap (λ y. option_or (fault_for o) y) (of_either p q))
    ∙ ap (λ y. option_or (option_or (fault_for o) (option_or (fault_for p) (fault_for q))) y)
    (of_either r _ ∙ ap (λ y. option_or (fault_for r) y) (of_either u _ ∙ ap (λ y. option_or (fault_for u) y) (of_either v _ ∙ ap (λ y. option_or (fault_for v) y) (of_either w x))))
    ∙ rw (is_o, is_p, is_q, is_r, is_u, is_v, is_w, is_x) (two_groups a b c d e f g h)

of_read : (s : Context) (row : Row) (args : List ArgumentTree) (tests : Tests) (ending : Option Ending) (read : Read) → fault_for (read_cause s row args tests ending read) ≡ read_fault s row args tests ending read
of_read s row args tests ending read =
    let mentions = where_required s.required (mentions_of row.role read) in
    of_groups (tests_cause row.signature tests) (ending_cause row.ending ending) (mention_cause mentions) (place_cause s row.place read.name)
    (long_string_cause args) (many_strings_cause (is_test row.ending) read) (large_mention_cause mentions) (many_loops_cause s (opened_by row args)) _ _ _ _ _ _ _ _
    (of_tests row.signature tests) (of_ending row.ending ending) (of_mentions mentions)
    (of_unless (may_stand s row.place read.name) _ BadArguments (of_misplaced row.place read.name))
    (of_long args) (of_if (are_many (is_test row.ending) read) _ Limit refl) (of_large mentions) (of_if (opens_many (opened_by row args) s) _ Limit refl)

of_known : (s : Context) (args : List ArgumentTree) (tests : Tests) (ending : Option Ending) (row : Row) → fault_for (known_cause s args tests ending row) ≡ known_fault s args tests ending row
of_known s args tests ending row =
    of_first (lacking_cause s.required (needs_of row args)) _ (lacks s.required (needs_of row args)) MissingCapability _ (of_lacking s.required (needs_of row args))
    (of_first (unknown_cause row args) _ (has_unknown (capability_arguments row.follows args)) UnknownCapability _ (of_unknown row args)
    (of_reading (arguments_read row.signature args) (read_cause s row args tests ending) (read_fault s row args tests ending)
    (bad_rest row.signature args nothing_given None args) (of_read s row args tests ending)))

of_unnamed : (ending : Option Ending) → fault_of_kind (unknown_as ending) ≡ UnknownCommand
of_unnamed None = refl
of_unnamed (Some ending) = refl

of_any : (s : Context) (args : List ArgumentTree) (tests : Tests) (ending : Option Ending) (o : Option Row)
    → fault_for (cause_of (unknown_as ending) (known_cause s args tests ending) o) ≡ fault_by (known_fault s args tests ending) o
of_any s args tests ending None = ap Some (of_unnamed ending)
of_any s args tests ending (Some row) = of_known s args tests ending row

-- ---- one after the other

abbrev first_told : List (List ℕ) → List Visit → Option CheckError
first_told names vs = option_map refusal_for (slice_get (refused_among names vs) 0)

-- the first fault of both, whatever is after them
abbrev Meet : List Visit → List Seen → Type 0
Meet vs ws = (names : List (List ℕ)) → length names ≤ max_variables → (more : List Visit) (others : List Seen)
    → ((after : List (List ℕ)) → length after ≤ max_variables → first_told after more ≡ first_fault after others)
    → first_told names (vs ++ more) ≡ first_fault names (ws ++ others)

both_meet : (vs more : List Visit) (ws others : List Seen) → Meet vs ws → Meet more others → Meet (vs ++ more) (ws ++ others)
both_meet vs more ws others first second names few last_vs last_ws after =
    ap (first_told names) (append_assoc vs more last_vs)
    ∙ first names few (more ++ last_vs) (others ++ last_ws) (λ ns fits. second ns fits last_vs last_ws after)
    ∙ sym (ap (first_fault names) (append_assoc ws others last_ws))

-- one, and what is after it, which is looked at where nothing is wrong with it
one_meets : (token : ℕ) (name : List ℕ) (own : List (List ℕ)) (cause : Option Cause) (lacks : List Cause) (vs : List Visit) (ws : List Seen) → (cause ≡ None → Meet vs ws)
    → Meet (record { token = token; name = name; names = own; cause = cause; lacks = lacks } ∷ vs) (record { token = token; names = own; fault = fault_for cause } ∷ ws)
one_meets token name own (Some c) lacks vs ws inner names few more others after = refl
one_meets token name own None lacks vs ws inner names few more others after =
    elim (cases_Bool (nat_lt max_variables (length (with_more bytes_eq names own)))) [
      | inl many ↦ rw many refl
      | inr fits ↦
          let room = ltb-false max_variables (length (with_more bytes_eq names own)) fits in
          rw (fits, take_all max_variables (with_more bytes_eq names own) room) (inner refl (with_more bytes_eq names own) room more others after)
    ]

-- with nothing after them
alone : (vs : List Visit) (ws : List Seen) → Meet (vs ++ []) (ws ++ []) → Meet vs ws
alone vs ws both = subst (λ vs. Meet vs ws) (append-nil vs) (subst (λ ws. Meet (vs ++ []) ws) (append-nil ws) both)

nothing_after : Meet [] []
nothing_after names few more others after = after names few

-- nothing is wrong with a command, which ends so, or a test by itself
abbrev IsSound : Option Ending → Context → InvocationTree → Type 0
IsSound ending s (invocation token word args tests) = cause_of (unknown_as ending) (known_cause s args (kind_of tests) ending) (row_named ending word) ≡ None

mutual
  -- a command or test with its tests, and what is behind it, where nothing is wrong with it by itself
  invocation_meets : (ending : Option Ending) (s : Context) (i : InvocationTree) (vs : List Visit) (ws : List Seen) → (IsSound ending s i → Meet vs ws) → Meet (visits_of ending s i ++ vs) (all_of ending s i ++ ws)
  invocation_meets ending s (invocation token word args tests) vs ws rest_meets =
      let o = row_named ending word in
      let cause = cause_of (unknown_as ending) (known_cause s args (kind_of tests) ending) o in
      let own = names_by s.required args o in
      let inside = if looks_inside o then tests_visits s tests else [] in
      let inner : cause ≡ None → Meet (inside ++ vs) (all_of_tests s tests ++ ws) = λ none. (
      let found = known_row (unknown_as ending) (known_cause s args (kind_of tests) ending) o none in
      let well = row_well_formed s args (kind_of tests) ending found.0 found.2 in
      let looked = sym (all_looked_at s o found.0 tests found.1 well.same) in
      both_meet inside vs (all_of_tests s tests) ws (subst (λ vs. Meet vs (all_of_tests s tests)) looked (tests_meet s tests)) (rest_meets none)) in
      subst (λ (fault : Option Fault). Meet (visits_of ending s (invocation token word args tests) ++ vs) (record { token = token; names = own; fault = fault } ∷ (all_of_tests s tests ++ ws)))
      (of_any s args (kind_of tests) ending o)
      (one_meets token word own cause (lacks_by s.required args o) (inside ++ vs) (all_of_tests s tests ++ ws) inner)

  tests_meet : (s : Context) (ts : TestsTree) → Meet (tests_visits s ts) (all_of_tests s ts)
  tests_meet s no_test = nothing_after
  tests_meet s (one_test t) = alone (visits_of None s t) (all_of None s t) (invocation_meets None s t [] [] (λ sound. nothing_after))
  tests_meet s (test_list t ts) = invocation_meets None s t (more_visits s ts) (all_of_more s ts) (λ sound. more_meet s ts)

  more_meet : (s : Context) (ts : MoreTests) → Meet (more_visits s ts) (all_of_more s ts)
  more_meet s last = nothing_after
  more_meet s (next t ts) = invocation_meets None s t (more_visits s ts) (all_of_more s ts) (λ sound. more_meet s ts)

rear : (s : Context) (i : InvocationTree) (ending : Ending) → IsSound (Some ending) s i → Behind s i ending
rear s (invocation token word args tests) ending sound = behind_sound s token word args tests ending sound

mutual
  -- a command, and what is behind it, where it swallowed nothing
  command_meets : (s : Context) (c : CommandTree) (vs : List Visit) (ws : List Seen) → (past_invocation s (invocation_of c) ≡ after_invocation s (invocation_of c) → Meet vs ws) → Meet (command_visits s c ++ vs) (all_of_command s c ++ ws)
  command_meets s (simple i) vs ws rest_meets = invocation_meets (Some Semicolon) s i vs ws (λ sound. rest_meets (rear s i Semicolon sound).after)
  command_meets s (block i cs) vs ws rest_meets =
      let past = past_invocation s i in
      let around = in_block (loops_opened i) s in
      let inner = if opens_many (opened_past i) past then [] else commands_visits (in_block (opened_past i) past) cs in
      let both = invocation_meets (Some Block) s i (inner ++ vs) (all_of_commands around cs ++ ws) (λ sound. (
      let rear = rear s i Block sound in
      let entered : inner ≡ commands_visits around cs = ap (λ b. if b then [] else commands_visits (in_block (opened_past i) past) cs) rear.room ∙ ap (λ around. commands_visits around cs) (rear.within refl) in
      both_meet inner vs (all_of_commands around cs) ws (subst (λ vs. Meet vs (all_of_commands around cs)) (sym entered) (commands_meet around cs)) (rest_meets rear.after))) in
      subst (λ vs. Meet vs ((all_of (Some Block) s i ++ all_of_commands around cs) ++ ws)) (sym (append_assoc (visits_of (Some Block) s i) inner vs))
      (subst (λ ws. Meet (visits_of (Some Block) s i ++ (inner ++ vs)) ws) (sym (append_assoc (all_of (Some Block) s i) (all_of_commands around cs) ws)) both)

  commands_meet : (s : Context) (cs : CommandsTree) → Meet (commands_visits s cs) (all_of_commands s cs)
  commands_meet s no_command = nothing_after
  commands_meet s (command c cs) =
      let after = after_invocation s (invocation_of c) in
      let past = past_invocation s (invocation_of c) in
      command_meets s c (commands_visits past cs) (all_of_commands after cs)
      (λ same. subst (λ around. Meet (commands_visits around cs) (all_of_commands after cs)) (sym same) (commands_meet after cs))

-- what is told once is told first where all of it is
same_first : (all : List Refused) → slice_get (with_more same_reason [] all) 0 ≡ slice_get all 0
same_first [] = refl
same_first (x ∷ xs) = told_first x [] xs

pub least_first : (script : CommandsTree) → fault_of script ≡ least_fault script
least_first script =
    let vs = commands_visits at_start script in
    let ws = all_of_commands at_start script in
    let none : (after : List (List ℕ)) → length after ≤ max_variables → first_told after [] ≡ first_fault after [] = λ after few. refl in
    ap (option_map refusal_for) (same_first (refused_among [] vs))
    ∙ ap (first_told []) (sym (append-nil vs))
    ∙ commands_meet at_start script [] (omega arith) [] [] none
    ∙ ap (first_fault []) (append-nil ws)
