-- The entries of a shape: how many they are, and how long their texts.
use Rattle.std.proofs.Common.{◌≡◌, ℕ, zero, suc, ◌^◌, ◌<◌, ◌≤◌, Bool, true, false, cond, nat_lt, List, [], ◌∷◌, Option, Some, None, All, min, sum, lit≤, length, slice_get, refl, subst, arith}
use Rattle.std.proofs.lemmas.Bool.{ltb-true}
use Rattle.std.proofs.lemmas.Option.{slice_get_within, get_or_from_slice_get}
use Rattle.std.proofs.lemmas.List.Elements.{All-get_or}
use Rattle.std.specs.Option.{option_and_then, option_map, option_map_or}
use Rattle.octets.specs.Limits.{max_string, max_stack, max_value}
use Rattle.bytecode_format.specs.declared.instruction.Instruction.{Instruction}
use Rattle.bytecode_format.specs.declared.operation.Operation.{Operation}
use Rattle.bytecode_format.specs.declared.operation.Operation.TheVariants.{Literal, Variable, Capture, Join, Set, Not, JumpIfTrue, JumpIfFalse, Keep, Discard, File, Store, Take, Test}
use Rattle.bytecode_format.specs.declared.question.Counts.{Counts}
use Rattle.bytecode_format.specs.Questions.{counts_in}
use Rattle.bytecode_format.specs.Operations.{operation_of}
use Rattle.bytecode_format.specs.Code.{Code}
use Rattle.bytecode_format.specs.Spelling.{Fits, IsProgram}
use Rattle.bytecode_verifier.specs.declared.shape.Entry.{Entry}
use Rattle.bytecode_verifier.specs.declared.shape.Entry.TheVariants.{Truth, Text}
use Rattle.bytecode_verifier.specs.Shape.{Entries, Texts, Lists, with_entry, is_empty, has_truth, without_truth, take_texts, take_counted, with_string, with_joined, entries_after, shape_after, is_target, shape_at}
use Rattle.bytecode_verifier.specs.Pass.{AreShort, IsSmall}
use Rattle.bytecode_verifier.proofs.Taking.{taken, taken_lists}

none : IsSmall []
none = record { few = omega arith; short = tt }

pushed : (entry : Entry) (entries after : Entries) → AreShort (entry ∷ entries) → with_entry entry entries ≡ Some after → IsSmall after
pushed entry entries after short e = go (nat_lt (length entries) max_stack) refl e
  where
    go : (b : Bool) → nat_lt (length entries) max_stack ≡ b → cond b (Some (entry ∷ entries)) None ≡ Some after → IsSmall after
    go true h f =
        let room : length entries < 1024 = ltb-true _ _ h in
        let same : entry ∷ entries ≡ after = cc in
        subst IsSmall same (record { few = omega arith; short = short })
    go false h f = absurd cc

guarded : (b : Bool) (entries after : Entries) → IsSmall entries → cond b (Some entries) None ≡ Some after → IsSmall after
guarded true entries after small e = let same : entries ≡ after = cc in subst IsSmall same small
guarded false entries after small e = absurd cc

emptied : (entries after : Entries) → without_truth entries ≡ Some after → IsSmall after
emptied [] after e = absurd cc
emptied (Truth ∷ []) after e = let same : [] ≡ after = cc in subst IsSmall same none
emptied (Truth ∷ x ∷ xs) after e = absurd cc
emptied (Text bound ∷ xs) after e = absurd cc

-- a string of a program is short
pub string_short : (strings : List (List ℕ)) (k : ℕ) (octets : List ℕ) → All (λ text. length text ≤ max_string) strings → slice_get strings k ≡ Some octets → length octets ≤ max_string
string_short strings k octets each e =
    let P : List ℕ → Type 0 = λ text. length text ≤ max_string in
    subst P (get_or_from_slice_get strings k octets octets e) (All-get_or P strings k octets (slice_get_within strings k octets e) each)

-- the length that an instruction of a program names takes two octets
pub length_short : (instructions : List Instruction) (k : ℕ) (i : Instruction) → All Fits instructions → slice_get instructions k ≡ Some i → i.b < 2 ^ 16
length_short instructions k i each e =
    let fits : Fits i = subst Fits (get_or_from_slice_get instructions k i i e) (All-get_or Fits instructions k i (slice_get_within instructions k i e) each) in
    fits.b

-- the text on top is taken
taken_one : (entries after : Entries) → IsSmall entries → option_map (λ (taken : Texts). taken.below) (take_texts 1 entries) ≡ Some after → IsSmall after
taken_one entries after small e = go (take_texts 1 entries) refl e
  where
    go : (o : Option Texts) → take_texts 1 entries ≡ o → option_map (λ (taken : Texts). taken.below) o ≡ Some after → IsSmall after
    go None h f = absurd cc
    go (Some top) h f =
        let t = taken 1 entries top small.short h in
        let same : top.below ≡ after = cc in
        let few = small.few in
        subst IsSmall same (record { few = omega (arith, t.left); short = t.short })

-- there were no entries
cleared : (b : Bool) (after : Entries) → cond b (Some []) None ≡ Some after → IsSmall after
cleared true after e = let same : [] ≡ after = cc in subst IsSmall same none
cleared false after e = absurd cc

-- a test takes texts
tested : (counts : Counts) (entries after : Entries) → IsSmall entries → option_and_then (λ (lists : Lists). with_entry Truth lists.below) (take_counted counts entries) ≡ Some after → IsSmall after
tested counts entries after small e = go (take_counted counts entries) refl e
  where
    go : (o : Option Lists) → take_counted counts entries ≡ o → option_and_then (λ (lists : Lists). with_entry Truth lists.below) o ≡ Some after → IsSmall after
    go None h f = absurd cc
    go (Some lists) h f = pushed Truth lists.below after (taken_lists counts entries lists small.short h).short f

module _ (code : Code) (fits : IsProgram code) where
  lent : (k : ℕ) (o : Option (List ℕ)) (entries after : Entries) → slice_get code.strings k ≡ o → IsSmall entries → with_string o entries ≡ Some after → IsSmall after
  lent k None entries after here small e = absurd cc
  lent k (Some octets) entries after here small e =
      pushed (Text (length octets)) entries after (string_short code.strings k octets fits.each_string here, small.short) e

  -- the entries that are left are short again
  small_after : (o : Operation) (i : Instruction) (entries after : Entries) → IsSmall entries → entries_after code o i entries ≡ Some after → IsSmall after
  small_after Literal i entries after small e = lent i.c (slice_get code.strings i.c) entries after refl small e
  small_after (Test test) i entries after small e = tested (counts_in test i) entries after small e
  small_after Not i entries after small e = guarded (has_truth entries) entries after small e
  small_after JumpIfTrue i entries after small e = emptied entries after e
  small_after JumpIfFalse i entries after small e = emptied entries after e
  small_after Variable i entries after small e = pushed (Text max_value) entries after (lit≤ tt, small.short) e
  small_after Capture i entries after small e = pushed (Text max_value) entries after (lit≤ tt, small.short) e
  small_after Join i entries after small e = go (take_texts i.b entries) refl e
    where
      go : (o : Option Texts) → take_texts i.b entries ≡ o → option_and_then with_joined o ≡ Some after → IsSmall after
      go None h f = absurd cc
      go (Some parts) h f = pushed (Text (min (sum parts.texts) max_string)) parts.below after (omega arith, (taken i.b entries parts small.short h).short) f
  small_after Set i entries after small e = taken_one entries after small e
  small_after File i entries after small e = taken_one entries after small e
  small_after Store i entries after small e = taken_one entries after small e
  small_after Keep i entries after small e = let same : entries ≡ after = cc in subst IsSmall same small
  small_after Discard i entries after small e = let same : entries ≡ after = cc in subst IsSmall same small
  small_after Take i entries after small e = let same : entries ≡ after = cc in subst IsSmall same small
  small_after _ i entries after small e = cleared (is_empty entries) after e

  -- the entries of the shape at a place
  pub shape_small : (place : ℕ) (entries : Entries) → shape_at code place ≡ Some entries → IsSmall entries
  shape_small zero entries e = let same : [] ≡ entries = cc in subst IsSmall same none
  shape_small (suc place) entries e = go (shape_at code place) refl (slice_get code.instructions place) e (λ before h. shape_small place before h)
    where
      over : (b : Bool) (o : Option Operation) (i : Instruction) (before : Entries) → IsSmall before → cond b None (option_and_then (λ o. entries_after code o i before) o) ≡ Some entries → IsSmall entries
      over true o i before small f = absurd cc
      over false None i before small f = absurd cc
      over false (Some o) i before small f = small_after o i before entries small f

      here : (i : Option Instruction) (before : Entries) → IsSmall before → option_map_or (λ i. shape_after code (is_target code.version code.instructions place) (operation_of i.op) i before) i (Some before) ≡ Some entries → IsSmall entries
      here None before small f = let same : before ≡ entries = cc in subst IsSmall same small
      here (Some i) before small f = over _ (operation_of i.op) i before small f

      go : (o : Option Entries) → shape_at code place ≡ o → (i : Option Instruction) → option_and_then (λ entries. option_map_or (λ i. shape_after code (is_target code.version code.instructions place) (operation_of i.op) i entries) i (Some entries)) o ≡ Some entries → ((before : Entries) → shape_at code place ≡ Some before → IsSmall before) → IsSmall entries
      go None h i f ih = absurd cc
      go (Some before) h i f ih = here i before (ih before h) f
