-- What is refused of a script stands where its token does, and a string that is no capability among its own arguments.
use Rattle.std.proofs.Common.{◌≡◌, ◌∙◌, ℕ, suc, Bool, true, false, if◌then◌else◌, List, [], ◌∷◌, ◌++◌, All, filter, map, ap, sym, refl, inl, inr}
use Rattle.std.specs.Prelude.{Option, Some, None, Result, Ok, Err, IfSome, not, ◌&&◌, length, nat_lt, is_some, option_map}
use Rattle.std.specs.List.{find}
use Rattle.std.specs.Option.{option_and_then, option_map_or, option_or}
use Rattle.std.specs.Result.{result_err}
use Rattle.std.proofs.lemmas.List.{append-nil, append_assoc}
use Rattle.std.proofs.lemmas.List.Elements.{All-append, All-cons, All-filter, All-head, All-map, All-nil, All-tail, All-weaker}
use Rattle.octets.specs.Limits.{max_variables}
use Rattle.octets.specs.Once.{is_listed, with_more, with_one}
use Rattle.sieve_references.specs.References.{Segment, beyond, foreign, segments}
use Rattle.sieve_parser.specs.Grammar.{Placed, at_depth, arguments_spelled, command_spelled, commands_spelled, invocation_spelled, more_tests_spelled, tests_spelled}
use Rattle.sieve_parser.specs.Lexemes.{identifier, opening_parenthesis, closing_parenthesis, comma, semicolon, opening_brace, closing_brace}
use Rattle.sieve_parser.specs.Tree.{ArgumentTree, label, InvocationTree, invocation, TestsTree, no_test, one_test, test_list, MoreTests, last, next, CommandTree, simple, block, CommandsTree, no_command, command}
use Rattle.sieve_check.specs.Arguments.{Awaiting, arguments_cause, arguments_read, awaiting, expected, first_label, is_second_modifier, missing_cause, number_of, positional_cause, reading, rest_read, sound}
use Rattle.sieve_check.specs.Causes.{Cause, Refused, about, plain, refused_for}
use Rattle.sieve_check.specs.Names.{row_named, tag_named}
use Rattle.sieve_check.specs.Rows.{Row, is_test}
use Rattle.sieve_check.specs.Rules.{Mentions, Visit, are_many, capability_arguments, cause_of, causes_by, command_visits, commands_visits, ending_cause, ill_formed, invocation_of, kind_of, known_cause, lacking, lacking_cause, lacking_causes, lacks_by, large_cause, large_mention_cause, long_name, long_string_cause, looks_inside, opened_past, many_strings_cause, may_stand, mention_cause, mentions_of, misplaced, more_visits, names_past, names_with, needs_of, opened_by, past_invocation, place_cause, read_cause, reasons_of, reference_cause, reference_kind, refused_after, refused_among, same_ending, same_reason, same_tests, string_has, strings_of, tests_cause, tests_visits, unknown_as, unknown_cause, unknown_causes, visit_causes, visit_of, visits_of, where_required}
use Rattle.sieve_check.specs.Signatures.{Given, Read, add_tag, asks_for_mime, is_positional, no_tag, nothing_given, takes_tag, with_argument}
use Rattle.sieve_check.specs.Surroundings.{Context, at_start, first_lacking, has_capability, in_block, opens_many}
use Rattle.sieve_check.specs.declared.causes.ReasonKind.{ReasonKind}
use Rattle.sieve_check.specs.declared.causes.ReasonKind.TheVariants as reasons
use Rattle.sieve_check.specs.declared.names.Capability.{Capability}
use Rattle.sieve_check.specs.declared.table.Follows.{Follows}
use Rattle.sieve_check.specs.declared.table.Follows.TheVariants.{Requires, Branches, Others}
use Rattle.sieve_check.specs.declared.table.Place.{Place}
use Rattle.sieve_check.specs.declared.table.Place.TheVariants.{ToLeave}
use Rattle.sieve_check.specs.declared.signature.Ending.{Ending}
use Rattle.sieve_check.specs.declared.signature.Ending.TheVariants as ending
use Rattle.sieve_check.specs.declared.signature.Positional.{Positional}
use Rattle.sieve_check.specs.declared.signature.Signature.{Signature}
use Rattle.sieve_check.specs.declared.signature.Tags.{Tags}
use Rattle.sieve_check.specs.declared.signature.Tests.{Tests}
use Rattle.sieve_check.specs.declared.string_flaws.StringFlaw.TheVariants.{Unknown}
use Rattle.sieve_check.specs.declared.surroundings.Capabilities.{Capabilities}
use Rattle.sieve_explain.proofs.OwnStrings.{IsAmong, found_among}

-- ---- causes

-- the kind of reason whose mark stands under a string
abbrev pub marks_string : ReasonKind → Bool
marks_string reasons.UnknownCapability = true
marks_string _ = false

-- a cause of another kind, if there is one
abbrev Other : Option Cause → Type 0
Other o = IfSome o (λ c. marks_string c.kind ≡ false)

other_or : (o p : Option Cause) → Other o → Other p → Other (option_or o p)
other_or None p a b = b
other_or (Some c) p a b = a

other_if : (x : Bool) (o p : Option Cause) → Other o → Other p → Other (if x then o else p)
other_if true o p a b = a
other_if false o p a b = b

other_map : {A : Type 0} (f : A → Cause) (o : Option A) → ((x : A) → marks_string (f x).kind ≡ false) → Other (option_map f o)
other_map f None h = tt
other_map f (Some x) h = h x

other_then : {A : Type 0} (f : A → Option Cause) (o : Option A) → ((x : A) → Other (f x)) → Other (option_and_then f o)
other_then f None h = tt
other_then f (Some x) h = h x

untaken : (foreign second : Bool) → marks_string (if foreign then reasons.ForeignTag else (if second then reasons.TwoModifiers else reasons.RepeatedTag)) ≡ false
untaken true second = refl
untaken false true = refl
untaken false false = refl

other_positional : (positional : Positional) (args : List ArgumentTree) → Other (positional_cause positional args)
other_positional positional args =
    other_or (option_map (about reasons.LateTag) (first_label args)) _ (other_map (about reasons.LateTag) (first_label args) (λ name. refl))
    (other_if (nat_lt (length args) (number_of positional)) _ _ refl
    (other_if (nat_lt (number_of positional) (length args)) _ _ refl
    (other_if (not (is_positional positional args)) _ _ refl tt)))

other_missing : (signature : Signature) (tags : Tags) (args : List ArgumentTree) → Other (missing_cause signature tags args)
other_missing signature tags args =
    other_if (signature.order && not (is_some tags.order)) _ _ refl
    (other_if (asks_for_mime tags && not tags.mime) _ _ refl tt)

-- arguments that were read, or a cause of another kind why they weren't
abbrev OtherRead : Result Read Cause → Type 0
OtherRead (Ok read) = Unit {0}
OtherRead (Err c) = marks_string c.kind ≡ false

other_expected : {A : Type 0} (o : Option A) (c : Cause) (follow : A → Result Read Cause) → marks_string c.kind ≡ false → ((x : A) → OtherRead (follow x)) → OtherRead (expected o c follow)
other_expected None c follow e h = e
other_expected (Some x) c follow e h = h x

other_sound : (o : Option Cause) (read : Read) → Other o → OtherRead (sound o read)
other_sound None read h = tt
other_sound (Some c) read h = h

other_rest : (signature : Signature) (all : List ArgumentTree) (given : Given) (awaited : Option Awaiting) (args : List ArgumentTree) → OtherRead (rest_read signature all given awaited args)
other_rest signature all given None (label name ∷ args) =
    other_expected (tag_named name) _ _ refl (λ tag.
    other_expected (add_tag signature tag given) _ _ (untaken (not (takes_tag signature tag no_tag)) (is_second_modifier tag given.tags))
    (λ more. other_rest signature all more (awaiting name tag) args))
other_rest signature all given None args =
    other_sound (option_or (positional_cause signature.positional args) (missing_cause signature given.tags all)) _
    (other_or (positional_cause signature.positional args) (missing_cause signature given.tags all)
    (other_positional signature.positional args) (other_missing signature given.tags all))
other_rest signature all given (Some awaited) (a ∷ args) =
    other_expected (with_argument awaited.tag a given) _ _ refl (λ more. other_rest signature all more None args)
other_rest signature all given (Some awaited) [] = refl

other_arguments : (signature : Signature) (args : List ArgumentTree) → Other (arguments_cause signature args)
other_arguments signature args = step (arguments_read signature args) (other_rest signature args nothing_given None args) where
  step : (r : Result Read Cause) → OtherRead r → Other (result_err r)
  step (Ok read) h = tt
  step (Err c) h = h

other_lacking : (required : Capabilities) (needed : List Capability) → Other (lacking_cause required needed)
other_lacking required needed = other_map lacking (first_lacking needed required) (λ capability. refl)

other_reference : (found : List Segment) → marks_string (reference_kind found) ≡ false
other_reference [] = refl
other_reference (foreign ∷ others) = refl
other_reference (beyond ∷ others) = refl
other_reference (_ ∷ others) = other_reference others

other_mention : (mentions : Mentions) → Other (mention_cause mentions)
other_mention mentions =
    other_or (option_map reference_cause _) (option_map (about reasons.VariableName) _)
    (other_map reference_cause _ (λ string. other_reference (segments string)))
    (other_map (about reasons.VariableName) _ (λ name. refl))

other_large : (string : List ℕ) (o : Option (List ℕ)) → marks_string (option_map_or (about reasons.LongName) o (about reasons.ManySegments string)).kind ≡ false
other_large string None = refl
other_large string (Some name) = refl

other_large_mention : (mentions : Mentions) → Other (large_mention_cause mentions)
other_large_mention mentions =
    other_or (option_map large_cause _) (option_map (about reasons.LongName) _)
    (other_map large_cause _ (λ string. other_large string (long_name (segments string))))
    (other_map (about reasons.LongName) _ (λ name. refl))

other_long_string : (args : List ArgumentTree) → Other (long_string_cause args)
other_long_string args = other_map (about reasons.LongString) _ (λ string. refl)

other_tests : (signature : Signature) (tests : Tests) → Other (tests_cause signature tests)
other_tests signature tests = other_if (same_tests signature.tests tests) None _ tt refl

unnamed : (o : Option (List ℕ)) → marks_string (option_map_or (about reasons.NoSuchLoop) o (plain reasons.Misplaced)).kind ≡ false
unnamed None = refl
unnamed (Some name) = refl

other_misplaced : (place : Place) (name : Option (List ℕ)) → marks_string (misplaced place name).kind ≡ false
other_misplaced ToLeave name = unnamed name
other_misplaced _ name = refl

other_ending : (wanted end : Option Ending) → Other (ending_cause wanted end)
other_ending None end = tt
other_ending (Some wanted) None = tt
other_ending (Some wanted) (Some end) = other_if (same_ending wanted end) None _ tt refl

other_read : (s : Context) (row : Row) (args : List ArgumentTree) (tests : Tests) (end : Option Ending) (read : Read) → Other (read_cause s row args tests end read)
other_read s row args tests end read =
    let mentions = where_required s.required (mentions_of row.role read) in
    other_or (ill_formed row tests end mentions) _
    (other_or (tests_cause row.signature tests) _ (other_tests row.signature tests)
    (other_or (ending_cause row.ending end) _ (other_ending row.ending end) (other_mention mentions)))
    (other_or (place_cause s row.place read.name) _ (other_if (may_stand s row.place read.name) None _ tt (other_misplaced row.place read.name))
    (other_or (long_string_cause args) _ (other_long_string args)
    (other_or (many_strings_cause (is_test row.ending) read) _ (other_if (are_many (is_test row.ending) read) _ None refl tt)
    (other_or (large_mention_cause mentions) _ (other_large_mention mentions)
    (other_if (opens_many (opened_by row args) s) _ None refl tt)))))

-- a string that is no capability is among the arguments
abbrev Good : List ArgumentTree → Option Cause → Type 0
Good args o = IfSome o (λ c. marks_string c.kind ≡ true → IsAmong c.subject (strings_of args))

good_other : (args : List ArgumentTree) (o : Option Cause) → Other o → Good args o
good_other args None h = tt
good_other args (Some c) h = λ e. absurd (cc)

good_or : (args : List ArgumentTree) (o p : Option Cause) → Good args o → Good args p → Good args (option_or o p)
good_or args None p a b = b
good_or args (Some c) p a b = a

good_found : (args : List ArgumentTree) (o : Option (List ℕ)) → ((s : List ℕ) → o ≡ Some s → IsAmong s (strings_of args)) → Good args (option_map (about reasons.UnknownCapability) o)
good_found args None h = tt
good_found args (Some s) h = λ e. h s refl

-- the strings of a require's arguments are among those of all
named_among : (follows : Follows) (args : List ArgumentTree) (s : List ℕ) → IsAmong s (strings_of (capability_arguments follows args)) → IsAmong s (strings_of args)
named_among Requires args s among = among
named_among Branches args s among = absurd among
named_among Others args s among = absurd among

good_unknown : (row : Row) (args : List ArgumentTree) → Good args (unknown_cause row args)
good_unknown row args =
    let strings = strings_of (capability_arguments row.follows args) in
    good_found args (find (string_has Unknown) strings) (λ s e. named_among row.follows args s (found_among (string_has Unknown) strings s e))

good_known : (s : Context) (args : List ArgumentTree) (tests : Tests) (end : Option Ending) (row : Row) → Good args (known_cause s args tests end row)
good_known s args tests end row =
    let read = reading row.signature args in
    let rest = option_and_then (read_cause s row args tests end) read in
    let behind = other_or (arguments_cause row.signature args) rest (other_arguments row.signature args)
    (other_then (read_cause s row args tests end) read (λ r. other_read s row args tests end r)) in
    good_or args (lacking_cause s.required (needs_of row args)) _ (good_other args _ (other_lacking s.required (needs_of row args)))
    (good_or args (unknown_cause row args) _ (good_unknown row args)
    (good_other args (option_or (arguments_cause row.signature args) rest) behind))

good_visit : (end : Option Ending) (s : Context) (token : ℕ) (name : List ℕ) (args : List ArgumentTree) (tests : Tests) → Good args (visit_of end s token name args tests).cause
good_visit end s token name args tests = step end (row_named end name) where
  step : (end : Option Ending) (o : Option Row) → Good args (cause_of (unknown_as end) (known_cause s args tests end) o)
  step None None = λ e. absurd (cc)
  step (Some ending) None = λ e. absurd (cc)
  step end (Some row) = good_known s args tests end row

-- what it lacks
abbrev IsGood : List ArgumentTree → Cause → Type 0
IsGood args c = marks_string c.kind ≡ true → IsAmong c.subject (strings_of args)

each_lacking : (args : List ArgumentTree) (needed : List Capability) → All (λ c. IsGood args (lacking c)) needed
each_lacking args [] = All-nil (λ c. IsGood args (lacking c))
each_lacking args (c ∷ cs) = All-cons (λ c. IsGood args (lacking c)) c cs (λ e. absurd (cc)) (each_lacking args cs)

good_lacking : (args : List ArgumentTree) (required : Capabilities) (needed : List Capability) → All (IsGood args) (lacking_causes required needed)
good_lacking args required needed = All-map (IsGood args) lacking _ (each_lacking args (filter (λ c. not (has_capability c required)) needed))

-- of strings among others
each_among : (all strings : List (List ℕ)) → ((s : List ℕ) → IsAmong s strings → IsAmong s all) → All (λ s. IsAmong s all) strings
each_among all [] h = All-nil (λ s. IsAmong s all)
each_among all (s ∷ ss) h = All-cons (λ s. IsAmong s all) s ss (h s (inl refl)) (each_among all ss (λ x later. h x (inr later)))

good_strings : (args : List ArgumentTree) (strings : List (List ℕ)) → All (λ s. IsAmong s (strings_of args)) strings → All (IsGood args) (unknown_causes strings)
good_strings args strings h =
    All-map (IsGood args) (about reasons.UnknownCapability) (filter (string_has Unknown) strings)
    (All-weaker (λ s. IsAmong s (strings_of args)) (λ s. IsGood args (about reasons.UnknownCapability s)) (λ s among e. among) (filter (string_has Unknown) strings)
    (All-filter (string_has Unknown) (λ s. IsAmong s (strings_of args)) strings h))

good_lacks : (required : Capabilities) (args : List ArgumentTree) (o : Option Row) → All (IsGood args) (lacks_by required args o)
good_lacks required args None = All-nil (IsGood args)
good_lacks required args (Some row) =
    let strings = strings_of (capability_arguments row.follows args) in
    All-append (IsGood args) (lacking_causes required (needs_of row args)) (unknown_causes strings) (good_lacking args required (needs_of row args))
    (good_strings args strings (each_among (strings_of args) strings (λ s among. named_among row.follows args s among)))

-- ---- places

-- the lexemes stand among all
abbrev Inside : List Placed → List Placed → Type 0
Inside all xs = (before : List Placed) × ((after : List Placed) × (all ≡ before ++ (xs ++ after)))

inside_left : (all xs ys : List Placed) → Inside all (xs ++ ys) → Inside all xs
inside_left all xs ys (before, (after, e)) = (before, (ys ++ after, e ∙ ap (λ (l : List Placed). before ++ l) (append_assoc xs ys after)))

inside_right : (all xs ys : List Placed) → Inside all (xs ++ ys) → Inside all ys
inside_right all xs ys (before, (after, e)) =
    (before ++ xs, (after, e ∙ ap (λ (l : List Placed). before ++ l) (append_assoc xs ys after) ∙ sym (append_assoc before xs (ys ++ after))))

inside_next : (all : List Placed) (x : Placed) (xs : List Placed) → Inside all (x ∷ xs) → Inside all xs
inside_next all x xs w = inside_right all (x ∷ []) xs w

-- a visit's name and arguments stand among all
abbrev Stands : List Placed → Visit → Type 0
Stands all v = (d : ℕ) × ((args : List ArgumentTree) × (Inside all (at_depth d (identifier v.token v.name) ∷ arguments_spelled d args) × Good args v.cause × All (IsGood args) v.lacks))

all_if : (P : Visit → Type 0) (b : Bool) (xs ys : List Visit) → All P xs → All P ys → All P (if b then xs else ys)
all_if P true xs ys p q = p
all_if P false xs ys p q = q

mutual
  invocation_stands : (end : Option Ending) (t : InvocationTree) (s : Context) (d : ℕ) (all : List Placed) → Inside all (invocation_spelled d t) → All (Stands all) (visits_of end s t)
  invocation_stands end (invocation token name args tests) s d all w =
      let own = at_depth d (identifier token name) ∷ arguments_spelled d args in
      All-cons (Stands all) (visit_of end s token name args (kind_of tests)) _
      (d, (args, (inside_left all own (tests_spelled d tests) w, good_visit end s token name args (kind_of tests), good_lacks s.required args (row_named end name))))
      (all_if (Stands all) (looks_inside (row_named end name)) (tests_visits s tests) []
      (tests_stand tests s d all (inside_right all own (tests_spelled d tests) w)) (All-nil (Stands all)))

  tests_stand : (ts : TestsTree) (s : Context) (d : ℕ) (all : List Placed) → Inside all (tests_spelled d ts) → All (Stands all) (tests_visits s ts)
  tests_stand no_test s d all w = All-nil (Stands all)
  tests_stand (one_test t) s d all w = invocation_stands None t s (suc d) all w
  tests_stand (test_list t ts) s d all w =
      let first = invocation_spelled (suc d) t in
      let more = more_tests_spelled d ts in
      let end = at_depth d closing_parenthesis ∷ [] in
      let inner = inside_next all (at_depth d opening_parenthesis) (first ++ (more ++ end)) w in
      All-append (Stands all) (visits_of None s t) (more_visits s ts)
      (invocation_stands None t s (suc d) all (inside_left all first (more ++ end) inner))
      (more_stand ts s d all (inside_left all more end (inside_right all first (more ++ end) inner)))

  more_stand : (ts : MoreTests) (s : Context) (d : ℕ) (all : List Placed) → Inside all (more_tests_spelled d ts) → All (Stands all) (more_visits s ts)
  more_stand last s d all w = All-nil (Stands all)
  more_stand (next t ts) s d all w =
      let first = invocation_spelled (suc d) t in
      let inner = inside_next all (at_depth d comma) (first ++ more_tests_spelled d ts) w in
      All-append (Stands all) (visits_of None s t) (more_visits s ts)
      (invocation_stands None t s (suc d) all (inside_left all first (more_tests_spelled d ts) inner))
      (more_stand ts s d all (inside_right all first (more_tests_spelled d ts) inner))

mutual
  command_stands : (c : CommandTree) (s : Context) (d : ℕ) (all : List Placed) → Inside all (command_spelled d c) → All (Stands all) (command_visits s c)
  command_stands (simple i) s d all w = invocation_stands (Some ending.Semicolon) i s d all (inside_left all (invocation_spelled d i) (at_depth d semicolon ∷ []) w)
  command_stands (block i cs) s d all w =
      let head = invocation_spelled d i in
      let word = commands_spelled (suc d) cs in
      let end = at_depth (suc d) closing_brace ∷ [] in
      let open_brace = at_depth (suc d) opening_brace in
      All-append (Stands all) (visits_of (Some ending.Block) s i) _
      (invocation_stands (Some ending.Block) i s d all (inside_left all head (open_brace ∷ (word ++ end)) w))
      (all_if (Stands all) (opens_many (opened_past i) (past_invocation s i)) [] (commands_visits (in_block (opened_past i) (past_invocation s i)) cs) (All-nil (Stands all))
      (commands_stand cs (in_block (opened_past i) (past_invocation s i)) (suc d) all
      (inside_left all word end (inside_next all open_brace (word ++ end) (inside_right all head (open_brace ∷ (word ++ end)) w)))))

  commands_stand : (cs : CommandsTree) (s : Context) (d : ℕ) (all : List Placed) → Inside all (commands_spelled d cs) → All (Stands all) (commands_visits s cs)
  commands_stand no_command s d all w = All-nil (Stands all)
  commands_stand (command c cs) s d all w =
      All-append (Stands all) (command_visits s c) (commands_visits (past_invocation s (invocation_of c)) cs)
      (command_stands c s d all (inside_left all (command_spelled d c) (commands_spelled d cs) w))
      (commands_stand cs (past_invocation s (invocation_of c)) d all (inside_right all (command_spelled d c) (commands_spelled d cs) w))

-- ---- what is told

-- the name and arguments of what is refused stand among all, and its string among the arguments
abbrev pub IsTold : List Placed → Refused → Type 0
IsTold all found = (d : ℕ) × ((args : List ArgumentTree) × (Inside all (at_depth d (identifier found.token found.reason.name) ∷ arguments_spelled d args)
    × (marks_string found.reason.kind ≡ true → IsAmong found.reason.subject (strings_of args))))

told_causes : (all : List Placed) (token : ℕ) (name : List ℕ) (d : ℕ) (args : List ArgumentTree) (causes : List Cause) → Inside all (at_depth d (identifier token name) ∷ arguments_spelled d args)
    → All (IsGood args) causes → All (IsTold all) (map (refused_for token name) causes)
told_causes all token name d args [] w good = All-nil (IsTold all)
told_causes all token name d args (c ∷ cs) w good =
    All-cons (IsTold all) (refused_for token name c) (map (refused_for token name) cs) (d, (args, (w, All-head (IsGood args) c cs good))) (told_causes all token name d args cs w (All-tail (IsGood args) c cs good))

good_causes : (args : List ArgumentTree) (o : Option Cause) (lacks : List Cause) (many : Bool) → Good args o → All (IsGood args) lacks → All (IsGood args) (causes_by o lacks many)
good_causes args (Some c) lacks many good others = All-cons (IsGood args) c lacks good others
good_causes args None lacks true good others = All-cons (IsGood args) (plain reasons.ManyVariables) [] (λ e. absurd (cc)) (All-nil (IsGood args))
good_causes args None lacks false good others = All-nil (IsGood args)

told_after : (all : List Placed) (names : List (List ℕ)) (v : Visit) → Stands all v → All (IsTold all) (refused_after names v)
told_after all names v (d, (args, (w, good, others))) =
    told_causes all v.token v.name d args (visit_causes names v) w (good_causes args v.cause v.lacks (nat_lt max_variables (length (names_with names v))) good others)

told_among : (all : List Placed) (names : List (List ℕ)) (vs : List Visit) → All (Stands all) vs → All (IsTold all) (refused_among names vs)
told_among all names [] h = All-nil (IsTold all)
told_among all names (v ∷ vs) h =
    All-append (IsTold all) (refused_after names v) (refused_among (names_past names v) vs)
    (told_after all names v (All-head (Stands all) v vs h)) (told_among all (names_past names v) vs (All-tail (Stands all) v vs h))

all_one : {A : Type 0} (P : A → Type 0) (b : Bool) (listed : List A) (x : A) → All P listed → P x → All P (if b then listed else listed ++ x ∷ [])
all_one P true listed x h p = h
all_one P false listed x h p = All-append P listed (x ∷ []) h (All-cons P x [] p (All-nil P))

all_more : {A : Type 0} (P : A → Type 0) (same : A → A → Bool) (listed more : List A) → All P listed → All P more → All P (with_more same listed more)
all_more P same listed [] h more = h
all_more P same listed (x ∷ xs) h more =
    all_more P same (with_one same listed x) xs (all_one P (is_listed same x listed) listed x h (All-head P x xs more)) (All-tail P x xs more)

pub reasons_told : (script : CommandsTree) → All (IsTold (commands_spelled 0 script)) (reasons_of script)
reasons_told script =
    let all = commands_spelled 0 script in
    all_more (IsTold all) same_reason [] (refused_among [] (commands_visits at_start script)) (All-nil (IsTold all))
    (told_among all [] (commands_visits at_start script) (commands_stand script at_start 0 all ([], ([], sym (append-nil all)))))
