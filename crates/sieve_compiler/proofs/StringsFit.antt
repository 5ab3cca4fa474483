-- The strings of a script's tables are within its extent: how many, how long, and all together.
use Rattle.std.proofs.Common.{◌≡◌, ℕ, ◌+◌, ◌*◌, ◌≤◌, bytes_eq, Bool, true, false, not, List, [], ◌∷◌, ◌++◌, filter, sum_by, if◌then◌else◌, length, All, refl, ap, ◌∙◌, arith}
use Rattle.std.proofs.lemmas.List.{length-append}
use Rattle.std.proofs.lemmas.List.Sums.{sum_by-cons, sum_by-append}
use Rattle.std.proofs.lemmas.List.Elements.{All-nil, All-cons, All-head, All-tail, All-append}
use Rattle.std.specs.List.{flat_map}
use Rattle.std.proofs.lemmas.List.Concat.{flat_map-cons}
use Rattle.bytecode_format.specs.Spelling.{string as spell, two_octets}
use Rattle.sieve_check.specs.declared.typed.Segment.{Segment}
use Rattle.sieve_check.specs.declared.typed.Segment.TheVariants.{Text, Variable, Capture}
use Rattle.sieve_check.specs.Acts.{act_strings}
use Rattle.sieve_check.specs.Typed.{Template, in_order, TestForm, asks, negation, all_of, any_of, TestForms, no_test, test, CommandForm, does, for_every_part, choice, CommandForms, no_command, command, BranchForms, no_branch, otherwise, branch}
use Rattle.octets.specs.Once.{each_once}
use Rattle.octets.specs.Limits.{max_string}
use Rattle.sieve_check.specs.Bounded.{IsBoundedSegment, IsBoundedString, IsBoundedTest, AreBoundedTests, IsBoundedCommand, AreBoundedCommands, AreBoundedBranches}
use Rattle.sieve_compiler.specs.Strings.{segment_strings, string_strings, strings_of, test_strings, tests_strings, command_strings, commands_strings, branches_strings}
use Rattle.sieve_check.specs.Extent.{segment_extent, string_extent, strings_extent, test_extent, tests_extent, command_extent, commands_extent, branches_extent}
use Rattle.sieve_compiler.specs.Tables.{tables_of}
use Rattle.sieve_compiler.specs.Lengths.{string_length, strings_length, test_length, tests_length, command_length, commands_length, branches_length}
use Rattle.octets.proofs.Once.{each_once_within}

-- the octets of texts
abbrev pub octets_of : List (List ℕ) → ℕ
octets_of texts = sum_by length texts

-- texts as a program spells them
spelt : (ss : List (List ℕ)) → length (flat_map spell ss) ≡ 2 * length ss + octets_of ss
spelt [] = refl
spelt (s ∷ ss) =
    let step : length (flat_map spell (s ∷ ss)) ≡ length (spell s) + length (flat_map spell ss) = ap length (flat_map-cons spell s ss) ∙ length-append (spell s) (flat_map spell ss) in
    let own : length (spell s) ≡ 2 + length s = length-append (two_octets (length s)) s in
    omega (arith, step, own, sum_by-cons length s ss, spelt ss)

both_octets : (a b : List (List ℕ)) → octets_of (a ++ b) ≡ octets_of a + octets_of b
both_octets a b = sum_by-append length a b

fewer_octets : (p : List ℕ → Bool) (ss : List (List ℕ)) → octets_of (filter p ss) ≤ octets_of ss
fewer_octets p [] = omega arith
fewer_octets p (s ∷ ss) = step (p s) (fewer_octets p ss)
  where
    step : (b : Bool) → octets_of (filter p ss) ≤ octets_of ss → octets_of (if b then s ∷ filter p ss else filter p ss) ≤ octets_of (s ∷ ss)
    step true h = omega (arith, sum_by-cons length s (filter p ss), sum_by-cons length s ss, h)
    step false h = omega (arith, sum_by-cons length s ss, h)

once_octets : (ss : List (List ℕ)) → octets_of (each_once bytes_eq ss) ≤ octets_of ss
once_octets [] = omega arith
once_octets (s ∷ ss) =
    omega (arith, sum_by-cons length s (filter (λ y. not (bytes_eq s y)) (each_once bytes_eq ss)), sum_by-cons length s ss, fewer_octets (λ y. not (bytes_eq s y)) (each_once bytes_eq ss), once_octets ss)

-- the texts of a piece have no more octets than it does, and are no more than its instructions, and none is too long
segment_spells : (segment : Segment) → octets_of (segment_strings segment) ≤ segment_extent segment
segment_spells (Text octets) = omega (arith, sum_by-cons length octets [])
segment_spells (Variable name) = omega arith
segment_spells (Capture n) = omega arith

segments_spell : (segments : Template) → octets_of (flat_map segment_strings segments) ≤ sum_by segment_extent segments
segments_spell [] = omega arith
segments_spell (segment ∷ segments) =
    omega (arith, both_octets (segment_strings segment) (flat_map segment_strings segments), sum_by-cons segment_extent segment segments, segment_spells segment, segments_spell segments)

string_spells : (s : Template) → octets_of (string_strings s) ≤ string_extent s
string_spells [] = omega arith
string_spells (segment ∷ segments) = omega (arith, segments_spell (segment ∷ segments))

strings_spell : (ss : List Template) → octets_of (strings_of ss) ≤ strings_extent ss
strings_spell [] = omega arith
strings_spell (s ∷ ss) = omega (arith, both_octets (string_strings s) (strings_of ss), sum_by-cons string_extent s ss, string_spells s, strings_spell ss)

mutual
  test_spells : (t : TestForm) → octets_of (test_strings t) ≤ test_extent t
  test_spells (asks question strings at) = omega (arith, strings_spell (in_order strings))
  test_spells (negation t at) = omega (arith, test_spells t)
  test_spells (all_of t ts at) = omega (arith, both_octets (test_strings t) (tests_strings ts), test_spells t, tests_spell ts)
  test_spells (any_of t ts at) = omega (arith, both_octets (test_strings t) (tests_strings ts), test_spells t, tests_spell ts)

  tests_spell : (ts : TestForms) → octets_of (tests_strings ts) ≤ tests_extent ts
  tests_spell no_test = omega arith
  tests_spell (test t ts) = omega (arith, both_octets (test_strings t) (tests_strings ts), test_spells t, tests_spell ts)

mutual
  command_spells : (c : CommandForm) → octets_of (command_strings c) ≤ command_extent c
  command_spells (does act string at) = omega (arith, strings_spell (act_strings act string))
  command_spells (for_every_part cs at) = omega (arith, commands_spell cs)
  command_spells (choice bs) = branches_spell bs

  commands_spell : (cs : CommandForms) → octets_of (commands_strings cs) ≤ commands_extent cs
  commands_spell no_command = omega arith
  commands_spell (command c cs) = omega (arith, both_octets (command_strings c) (commands_strings cs), command_spells c, commands_spell cs)

  branches_spell : (bs : BranchForms) → octets_of (branches_strings bs) ≤ branches_extent bs
  branches_spell no_branch = omega arith
  branches_spell (otherwise cs) = omega (arith, commands_spell cs)
  branches_spell (branch t cs at bs) = omega (arith, both_octets (test_strings t ++ commands_strings cs) (branches_strings bs), both_octets (test_strings t) (commands_strings cs), test_spells t, commands_spell cs, branches_spell bs)

segment_pushes : (segment : Segment) → length (segment_strings segment) ≤ 1
segment_pushes (Text octets) = omega arith
segment_pushes (Variable name) = omega arith
segment_pushes (Capture n) = omega arith

segments_push : (segments : Template) → length (flat_map segment_strings segments) ≤ length segments
segments_push [] = omega arith
segments_push (segment ∷ segments) = omega (arith, length-append (segment_strings segment) (flat_map segment_strings segments), segment_pushes segment, segments_push segments)

string_pushes : (s : Template) → length (string_strings s) ≤ string_length s
string_pushes [] = omega arith
string_pushes (segment ∷ []) = omega (arith, segments_push (segment ∷ []))
string_pushes (one ∷ other ∷ more) = omega (arith, segments_push (one ∷ other ∷ more))

strings_push : (ss : List Template) → length (strings_of ss) ≤ strings_length ss
strings_push [] = omega arith
strings_push (s ∷ ss) = omega (arith, length-append (string_strings s) (strings_of ss), sum_by-cons string_length s ss, string_pushes s, strings_push ss)

mutual
  test_pushes : (t : TestForm) → length (test_strings t) ≤ test_length t
  test_pushes (asks question strings at) = omega (arith, strings_push (in_order strings))
  test_pushes (negation t at) = test_pushes t
  test_pushes (all_of t ts at) = omega (arith, length-append (test_strings t) (tests_strings ts), test_pushes t, tests_push ts)
  test_pushes (any_of t ts at) = omega (arith, length-append (test_strings t) (tests_strings ts), test_pushes t, tests_push ts)

  tests_push : (ts : TestForms) → length (tests_strings ts) ≤ tests_length ts
  tests_push no_test = omega arith
  tests_push (test t ts) = omega (arith, length-append (test_strings t) (tests_strings ts), test_pushes t, tests_push ts)

mutual
  command_pushes : (c : CommandForm) → length (command_strings c) ≤ command_length c
  command_pushes (does act string at) = omega (arith, strings_push (act_strings act string))
  command_pushes (for_every_part cs at) = omega (arith, commands_push cs)
  command_pushes (choice bs) = branches_push bs

  commands_push : (cs : CommandForms) → length (commands_strings cs) ≤ commands_length cs
  commands_push no_command = omega arith
  commands_push (command c cs) = omega (arith, length-append (command_strings c) (commands_strings cs), command_pushes c, commands_push cs)

  branches_push : (bs : BranchForms) → length (branches_strings bs) ≤ branches_length bs
  branches_push no_branch = omega arith
  branches_push (otherwise cs) = commands_push cs
  branches_push (branch t cs at bs) = omega (arith, length-append (test_strings t ++ commands_strings cs) (branches_strings bs), length-append (test_strings t) (commands_strings cs), test_pushes t, commands_push cs, branches_push bs)

-- no longer than a string may be
abbrev pub IsShort : List ℕ → Type 0
IsShort text = length text ≤ max_string

segment_short : (segment : Segment) → IsBoundedSegment segment → All IsShort (segment_strings segment)
segment_short (Text octets) b = All-cons IsShort octets [] b (All-nil IsShort)
segment_short (Variable name) b = All-nil IsShort
segment_short (Capture n) b = All-nil IsShort

segments_short : (segments : Template) → All IsBoundedSegment segments → All IsShort (flat_map segment_strings segments)
segments_short [] b = All-nil IsShort
segments_short (segment ∷ segments) b = All-append IsShort _ _ (segment_short segment (All-head IsBoundedSegment segment segments b)) (segments_short segments (All-tail IsBoundedSegment segment segments b))

string_short : (s : Template) → IsBoundedString s → All IsShort (string_strings s)
string_short [] b = All-cons IsShort [] [] (omega arith) (All-nil IsShort)
string_short (segment ∷ segments) b = segments_short (segment ∷ segments) b.segments

strings_short : (ss : List Template) → All IsBoundedString ss → All IsShort (strings_of ss)
strings_short [] b = All-nil IsShort
strings_short (s ∷ ss) b = All-append IsShort _ _ (string_short s (All-head IsBoundedString s ss b)) (strings_short ss (All-tail IsBoundedString s ss b))

mutual
  test_short : (t : TestForm) → IsBoundedTest t → All IsShort (test_strings t)
  test_short (asks question strings at) b = strings_short (in_order strings) b.bounded
  test_short (negation t at) b = test_short t b
  test_short (all_of t ts at) b = All-append IsShort _ _ (test_short t b.0) (tests_short ts b.1)
  test_short (any_of t ts at) b = All-append IsShort _ _ (test_short t b.0) (tests_short ts b.1)

  tests_short : (ts : TestForms) → AreBoundedTests ts → All IsShort (tests_strings ts)
  tests_short no_test b = All-nil IsShort
  tests_short (test t ts) b = All-append IsShort _ _ (test_short t b.0) (tests_short ts b.1)

mutual
  command_short : (c : CommandForm) → IsBoundedCommand c → All IsShort (command_strings c)
  command_short (does act string at) b = strings_short (act_strings act string) b.1
  command_short (for_every_part cs at) b = commands_short cs b
  command_short (choice bs) b = branches_short bs b

  pub commands_short : (cs : CommandForms) → AreBoundedCommands cs → All IsShort (commands_strings cs)
  commands_short no_command b = All-nil IsShort
  commands_short (command c cs) b = All-append IsShort _ _ (command_short c b.0) (commands_short cs b.1)

  branches_short : (bs : BranchForms) → AreBoundedBranches bs → All IsShort (branches_strings bs)
  branches_short no_branch b = All-nil IsShort
  branches_short (otherwise cs) b = commands_short cs b
  branches_short (branch t cs at bs) b = All-append IsShort _ _ (All-append IsShort _ _ (test_short t b.0) (commands_short cs b.1)) (branches_short bs b.2)

-- the table has at most as many texts as the commands have instructions, and they have no more octets than the commands
pub strings_few : (cs : CommandForms) → length (tables_of cs).strings ≤ commands_length cs
strings_few cs = omega (arith, each_once_within bytes_eq (commands_strings cs), commands_push cs)

pub strings_small : (cs : CommandForms) → length (flat_map spell (tables_of cs).strings) ≤ 2 * commands_length cs + commands_extent cs
strings_small cs = omega (arith, spelt (tables_of cs).strings, strings_few cs, once_octets (commands_strings cs), commands_spell cs)
