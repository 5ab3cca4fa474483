-- What a reader leaves is shorter than what it was given.
use Rattle.std.proofs.Common.{ℕ, suc, ◌+◌, ◌*◌, ◌^◌, ◌-◌, ◌<◌, ◌≤◌, ◌&&◌, Bool, true, false, if◌then◌else◌, List, [], ◌∷◌, length, Option, Some, None, is_some, Result, Ok, Err, codes, arith}
use Rattle.std.specs.Prelude.{bytes_eq, is_ok, nat_le, unwrap_or}
use Rattle.bytecode_listing.specs.declared.drafts.Target.{Target}
use Rattle.bytecode_listing.specs.declared.drafts.Target.TheVariants.{Number, Name, Quoted}
use Rattle.bytecode_listing.specs.declared.drafts.Draft.{Draft}
use Rattle.bytecode_listing.specs.declared.drafts.Line.{Line}
use Rattle.bytecode_listing.specs.declared.drafts.Line.TheVariants.{Label, Step}
use Rattle.bytecode_listing.specs.Labels.{◌>>=◌, count}
use Rattle.bytecode_format.specs.Operations.{operation_of}
use Rattle.bytecode_format.specs.declared.operation.Operation.{Operation}
use Rattle.bytecode_verifier.specs.Rows.{row_of}
use Rattle.bytecode_verifier.specs.declared.row.Range.{Range}
use Rattle.bytecode_verifier.specs.declared.row.Range.TheVariants as ranges
use Rattle.bytecode_listing.specs.declared.wording.Facet.{Facet}
use Rattle.bytecode_listing.specs.declared.wording.Facet.TheVariants.{Match, Comparator, Scope, Selector}
use Rattle.bytecode_listing.specs.Wording.{number_of}
use Rattle.bytecode_listing.specs.Names.{octet_named}
use Rattle.bytecode_listing.specs.Tokens.{Token, Word, Text, Wrong}
use Rattle.bytecode_listing.specs.Items.{Tokens, left_at, word_in, word_at, text_in, text_at, begins_with, begins_number, keyword_at, value_from, is_within, number_at, octet_in, found, octet_at, operation_at, field_number, field_at, Fields, round_at, fields_at, Said, facet_in, facet_from, facet_at, joined, then_said, match_at, selection_at, worded_as, worded_at, words_at, a_value, a_field, a_at, keys_after, counts_at, counted_at, name_at, target_at, target_field, c_at, place_at, draft_at, label_at, line_at, number_item, string_item}

-- fewer tokens than that are left, where something was read
abbrev pub Leaves : {A : Type 0} → ℕ → Result (A × Tokens) ℕ → Type 0
Leaves n (Ok x) = length x.1 < n
Leaves n (Err left) = Unit {0}

abbrev pub LeavesRest : ℕ → Result Tokens ℕ → Type 0
LeavesRest n (Ok rest) = length rest < n
LeavesRest n (Err left) = Unit {0}

chain : {A B : Type 0} (n m : ℕ) (r : Result (A × Tokens) ℕ) (f : A × Tokens → Result (B × Tokens) ℕ) → Leaves n r → ((x : A × Tokens) → length x.1 < n → Leaves m (f x)) → Leaves m (r >>= f)
chain n m (Ok x) f h k = k x h
chain n m (Err left) f h k = tt

then_rest : {A : Type 0} (n m : ℕ) (r : Result (A × Tokens) ℕ) (f : A × Tokens → Result Tokens ℕ) → Leaves n r → ((x : A × Tokens) → length x.1 < n → LeavesRest m (f x)) → LeavesRest m (r >>= f)
then_rest n m (Ok x) f h k = k x h
then_rest n m (Err left) f h k = tt

rest_then : {A : Type 0} (n m : ℕ) (r : Result Tokens ℕ) (f : Tokens → Result (A × Tokens) ℕ) → LeavesRest n r → ((rest : Tokens) → length rest < n → Leaves m (f rest)) → Leaves m (r >>= f)
rest_then n m (Ok rest) f h k = k rest h
rest_then n m (Err left) f h k = tt

wider : {A : Type 0} (n m : ℕ) (r : Result (A × Tokens) ℕ) → n ≤ m → Leaves n r → Leaves m r
wider n m (Ok x) le h = omega arith
wider n m (Err left) le h = tt

if_leaves : {A : Type 0} (n : ℕ) (b : Bool) (x y : Result (A × Tokens) ℕ) → Leaves n x → Leaves n y → Leaves n (if b then x else y)
if_leaves n true x y h k = h
if_leaves n false x y h k = k

if_leaves_rest : (n : ℕ) (b : Bool) (x y : Result Tokens ℕ) → LeavesRest n x → LeavesRest n y → LeavesRest n (if b then x else y)
if_leaves_rest n true x y h k = h
if_leaves_rest n false x y h k = k

word_leaves : (tokens : Tokens) → Leaves (length tokens) (word_at tokens)
word_leaves [] = tt
word_leaves (first ∷ rest) = in_token first.token
  where
    in_token : (token : Token) → Leaves (suc (length rest)) (word_in token first.left rest)
    in_token (Word w) = omega arith
    in_token (Text t) = tt
    in_token Wrong = tt

text_leaves : (tokens : Tokens) → Leaves (length tokens) (text_at tokens)
text_leaves [] = tt
text_leaves (first ∷ rest) = in_token first.token
  where
    in_token : (token : Token) → Leaves (suc (length rest)) (text_in token first.left rest)
    in_token (Word w) = tt
    in_token (Text t) = if_leaves (suc (length rest)) (nat_le (length t) 16384) (Ok (t, rest)) (Err first.left) (omega arith) tt
    in_token Wrong = tt

keyword_leaves : (word : List ℕ) (tokens : Tokens) → LeavesRest (length tokens) (keyword_at word tokens)
unfolding keyword_at
keyword_leaves word tokens =
    then_rest (length tokens) (length tokens) (word_at tokens) (λ read. if bytes_eq read.0 word then Ok read.1 else Err (left_at tokens)) (word_leaves tokens)
    (λ read h. if_leaves_rest (length tokens) (bytes_eq read.0 word) (Ok read.1) (Err (left_at tokens)) h tt)

number_leaves : (low high : ℕ) (tokens : Tokens) → Leaves (length tokens) (number_at low high tokens)
unfolding number_at
number_leaves low high tokens =
    chain (length tokens) (length tokens) (word_at tokens) (λ read. if is_within low high read.0 then Ok (value_from 0 read.0, read.1) else Err (left_at tokens)) (word_leaves tokens)
    (λ read h. if_leaves (length tokens) (is_within low high read.0) (Ok (value_from 0 read.0, read.1)) (Err (left_at tokens)) h tt)

found_leaves : {A : Type 0} (n : ℕ) (x : Option A) (left : ℕ) (rest : Tokens) → length rest < n → Leaves n (found x left rest)
found_leaves n None left rest h = tt
found_leaves n (Some x) left rest h = h

octet_leaves : (tokens : Tokens) → Leaves (length tokens) (octet_at tokens)
unfolding octet_at
octet_leaves tokens =
    chain (length tokens) (length tokens) (word_at tokens) (λ read. found (octet_in read.0) (left_at tokens) read.1) (word_leaves tokens)
    (λ read h. found_leaves (length tokens) (octet_in read.0) (left_at tokens) read.1 h)

operation_leaves : (tokens : Tokens) → Leaves (length tokens) (operation_at tokens)
unfolding operation_at
operation_leaves tokens =
    chain (length tokens) (length tokens) (word_at tokens) (λ read. if bytes_eq read.0 (codes "OP") then octet_at read.1 else found (octet_named read.0) (left_at tokens) read.1) (word_leaves tokens)
    (λ read h. if_leaves (length tokens) (bytes_eq read.0 (codes "OP")) (octet_at read.1) (found (octet_named read.0) (left_at tokens) read.1) (wider (length read.1) (length tokens) (octet_at read.1) (omega arith) (octet_leaves read.1)) (found_leaves (length tokens) (octet_named read.0) (left_at tokens) read.1 h))

field_number_leaves : (name : List ℕ) (highest : ℕ) (tokens : Tokens) → Leaves (length tokens) (field_number name highest tokens)
unfolding field_number
field_number_leaves name highest tokens =
    rest_then (length tokens) (length tokens) (keyword_at name tokens) (λ rest. number_at 0 highest rest) (keyword_leaves name tokens)
    (λ rest h. wider (length rest) (length tokens) (number_at 0 highest rest) (omega arith) (number_leaves 0 highest rest))

field_leaves : (name : List ℕ) (highest : ℕ) (given : Option ℕ) (tokens : Tokens) → Leaves (suc (length tokens)) (field_at name highest given tokens)
unfolding field_at
field_leaves name highest given tokens =
    let read : Result (Option ℕ × Tokens) ℕ = field_number name highest tokens >>= λ n. Ok (Some n.0, n.1) in
    let reads : Leaves (suc (length tokens)) read = chain (length tokens) (suc (length tokens)) (field_number name highest tokens) (λ n. Ok (Some n.0, n.1)) (field_number_leaves name highest tokens) (λ n h. omega (arith, h)) in
    if_leaves (suc (length tokens)) (begins_with name tokens) (if is_some given then Err (left_at tokens) else read) (Ok (given, tokens))
    (if_leaves (suc (length tokens)) (is_some given) (Err (left_at tokens)) read tt reads)
    (omega arith)

-- words of a test: something was read, or all is left
abbrev TookSome : ℕ → Option ℕ → ℕ → Type 0
TookSome n None left = left ≤ n
TookSome n (Some x) left = left < n

abbrev Took : ℕ → Said → Type 0
Took n said = TookSome n said.0 (length said.1)

facet_took : (facet : Facet) (tokens : Tokens) → Took (length tokens) (facet_at facet tokens)
unfolding facet_at
facet_took facet tokens = by_word (word_at tokens) (word_leaves tokens)
  where
    by_number : (o : Option ℕ) (rest : Tokens) → length rest < length tokens → Took (length tokens) (facet_in o rest tokens)
    by_number None rest h = omega arith
    by_number (Some n) rest h = h

    by_word : (read : Result (List ℕ × Tokens) ℕ) → Leaves (length tokens) read → Took (length tokens) (facet_from facet read tokens)
    by_word (Ok read) h = by_number (number_of facet read.0) read.1 h
    by_word (Err left) h = omega arith

then_took : (n unit : ℕ) (first : Said) (next : Tokens → Said) → Took n first → ((tokens : Tokens) → Took (length tokens) (next tokens)) → Took n (then_said first unit next)
then_took n unit first next h k = by_parts first.0 (next first.1) h (k first.1)
  where
    by_parts : (o : Option ℕ) (second : Said) → Took n (o, first.1) → Took (length first.1) second → Took n (joined o unit second.0, second.1)
    by_parts o (None, rest) h k = both o h k
      where
        both : (o : Option ℕ) → Took n (o, first.1) → length rest ≤ length first.1 → Took n (joined o unit None, rest)
        both None h k = omega arith
        both (Some m) h k = omega arith
    by_parts o (Some x, rest) h k = both o h k
      where
        both : (o : Option ℕ) → Took n (o, first.1) → length rest < length first.1 → Took n (joined o unit (Some x), rest)
        both None h k = omega arith
        both (Some m) h k = omega arith

match_took : (tokens : Tokens) → Took (length tokens) (match_at tokens)
unfolding match_at
match_took tokens = then_took (length tokens) 4 (facet_at Match tokens) (facet_at Comparator) (facet_took Match tokens) (facet_took Comparator)

selection_took : (tokens : Tokens) → Took (length tokens) (selection_at tokens)
unfolding selection_at
selection_took tokens =
    then_took (length tokens) 32 (then_said (match_at tokens) 8 (facet_at Scope)) (facet_at Selector)
    (then_took (length tokens) 8 (match_at tokens) (facet_at Scope) (match_took tokens) (facet_took Scope))
    (facet_took Selector)

range_took : (range : Range) (tokens : Tokens) → Took (length tokens) (worded_as range tokens)
range_took ranges.FieldTest tokens = selection_took tokens
range_took ranges.Scope tokens = facet_took Scope tokens
range_took ranges.Match tokens = match_took tokens
range_took _ tokens = omega arith

worded_took : (operation : Option Operation) (tokens : Tokens) → Took (length tokens) (worded_at operation tokens)
worded_took None tokens = omega arith
worded_took (Some operation) tokens = range_took (row_of operation).a tokens

words_leave : (operation : Option Operation) (tokens : Tokens) → Leaves (length tokens) (words_at operation tokens)
words_leave operation tokens = by_said (worded_at operation tokens) (worded_took operation tokens)
  where
    by_said : (said : Said) → Took (length tokens) said → Leaves (length tokens) (found said.0 (left_at tokens) said.1)
    by_said (None, rest) h = tt
    by_said (Some n, rest) h = h

a_value_leaves : (op : ℕ) (tokens : Tokens) → Leaves (length tokens) (a_value op tokens)
unfolding a_value
a_value_leaves op tokens =
    if_leaves (length tokens) (begins_number (word_at tokens)) (number_at 0 255 tokens) (words_at (operation_of op) tokens)
    (number_leaves 0 255 tokens) (words_leave (operation_of op) tokens)

a_field_leaves : (op : ℕ) (tokens : Tokens) → Leaves (length tokens) (a_field op tokens)
unfolding a_field
a_field_leaves op tokens =
    rest_then (length tokens) (length tokens) (keyword_at (codes "a") tokens) (λ rest. a_value op rest) (keyword_leaves (codes "a") tokens)
    (λ rest h. wider (length rest) (length tokens) (a_value op rest) (omega arith) (a_value_leaves op rest))

a_leaves : (op : ℕ) (given : Option ℕ) (tokens : Tokens) → Leaves (suc (length tokens)) (a_at op given tokens)
unfolding a_at
a_leaves op given tokens =
    let read : Result (Option ℕ × Tokens) ℕ = a_field op tokens >>= λ n. Ok (Some n.0, n.1) in
    let reads : Leaves (suc (length tokens)) read = chain (length tokens) (suc (length tokens)) (a_field op tokens) (λ n. Ok (Some n.0, n.1)) (a_field_leaves op tokens) (λ n h. omega (arith, h)) in
    if_leaves (suc (length tokens)) (begins_with (codes "a") tokens) (if is_some given then Err (left_at tokens) else read) (Ok (given, tokens))
    (if_leaves (suc (length tokens)) (is_some given) (Err (left_at tokens)) read tt reads)
    (omega arith)

-- c
keys_leave : (params : ℕ) (tokens : Tokens) → Leaves (length tokens) (keys_after params tokens)
unfolding keys_after
keys_leave params tokens =
    let n : ℕ = length tokens in
    let made : ℕ × Tokens → Tokens → Result (ℕ × Tokens) ℕ = λ keys last. Ok (65536 * params + keys.0, last) in
    rest_then n n (keyword_at (codes "params") tokens) (λ rest. number_at 0 65535 rest >>= λ keys. keyword_at (codes "keys") keys.1 >>= λ last. made keys last) (keyword_leaves (codes "params") tokens)
    (λ rest h. chain n n (number_at 0 65535 rest) (λ keys. keyword_at (codes "keys") keys.1 >>= λ last. made keys last) (wider (length rest) n (number_at 0 65535 rest) (omega (arith, h)) (number_leaves 0 65535 rest))
    (λ keys k. rest_then n n (keyword_at (codes "keys") keys.1) (λ last. made keys last) (narrower (length keys.1) n (keyword_at (codes "keys") keys.1) (omega (arith, k)) (keyword_leaves (codes "keys") keys.1)) (λ last l. l)))
  where
    narrower : (m n : ℕ) (r : Result Tokens ℕ) → m ≤ n → LeavesRest m r → LeavesRest n r
    narrower m n (Ok rest) le h = omega arith
    narrower m n (Err left) le h = tt

counts_leave : (number : ℕ) (tokens : Tokens) → Leaves (suc (length tokens)) (counts_at number tokens)
unfolding counts_at
counts_leave number tokens =
    let n : ℕ = length tokens in
    let alone : Result (ℕ × Tokens) ℕ = keyword_at (codes "keys") tokens >>= λ rest. Ok (number, rest) in
    if_leaves (suc n) (begins_with (codes "params") tokens && nat_le number 65535) (keys_after number tokens) (if begins_with (codes "keys") tokens then alone else Ok (number, tokens))
    (wider n (suc n) (keys_after number tokens) (omega arith) (keys_leave number tokens))
    (if_leaves (suc n) (begins_with (codes "keys") tokens) alone (Ok (number, tokens))
    (rest_then n (suc n) (keyword_at (codes "keys") tokens) (λ rest. Ok (number, rest)) (keyword_leaves (codes "keys") tokens) (λ rest h. omega (arith, h)))
    (omega arith))

counted_leaves : (tokens : Tokens) → Leaves (length tokens) (counted_at tokens)
unfolding counted_at
counted_leaves tokens =
    chain (length tokens) (length tokens) (number_at 0 4294967295 tokens) (λ n. counts_at n.0 n.1) (number_leaves 0 4294967295 tokens)
    (λ n h. wider (suc (length n.1)) (length tokens) (counts_at n.0 n.1) (omega (arith, h)) (counts_leave n.0 n.1))

name_leaves : (tokens : Tokens) → Leaves (length tokens) (name_at tokens)
unfolding name_at
name_leaves tokens = if_leaves (length tokens) (begins_number (word_at tokens)) (Err (left_at tokens)) (word_at tokens) tt (word_leaves tokens)

target_leaves : (tokens : Tokens) → Leaves (length tokens) (target_at tokens)
unfolding target_at
target_leaves tokens =
    let n : ℕ = length tokens in
    let number : ℕ × Tokens → Result (Target × Tokens) ℕ = λ n. Ok (Number n.0, n.1) in
    let name : List ℕ × Tokens → Result (Target × Tokens) ℕ = λ name. Ok (Name name.0 (left_at tokens), name.1) in
    let text : List ℕ × Tokens → Result (Target × Tokens) ℕ = λ text. Ok (Quoted text.0 (left_at tokens), text.1) in
    let other : Result (Target × Tokens) ℕ = if is_ok (word_at tokens) then (name_at tokens >>= name) else (text_at tokens >>= text) in
    if_leaves n (begins_number (word_at tokens)) (counted_at tokens >>= number) other
    (chain n n (counted_at tokens) number (counted_leaves tokens) (λ x h. h))
    (if_leaves n (is_ok (word_at tokens)) (name_at tokens >>= name) (text_at tokens >>= text)
    (chain n n (name_at tokens) name (name_leaves tokens) (λ x h. h))
    (chain n n (text_at tokens) text (text_leaves tokens) (λ x h. h)))

target_field_leaves : (tokens : Tokens) → Leaves (length tokens) (target_field tokens)
unfolding target_field
target_field_leaves tokens =
    rest_then (length tokens) (length tokens) (keyword_at (codes "c") tokens) (λ rest. target_at rest) (keyword_leaves (codes "c") tokens)
    (λ rest h. wider (length rest) (length tokens) (target_at rest) (omega arith) (target_leaves rest))

c_leaves : (given : Option Target) (tokens : Tokens) → Leaves (suc (length tokens)) (c_at given tokens)
unfolding c_at
c_leaves given tokens =
    let some : Target × Tokens → Result (Option Target × Tokens) ℕ = λ c. Ok (Some c.0, c.1) in
    let read : Result (Option Target × Tokens) ℕ = target_field tokens >>= some in
    let reads : Leaves (suc (length tokens)) read = chain (length tokens) (suc (length tokens)) (target_field tokens) some (target_field_leaves tokens) (λ n h. omega (arith, h)) in
    if_leaves (suc (length tokens)) (begins_with (codes "c") tokens) (if is_some given then Err (left_at tokens) else read) (Ok (given, tokens))
    (if_leaves (suc (length tokens)) (is_some given) (Err (left_at tokens)) read tt reads)
    (omega arith)

round_leaves : (op : ℕ) (given : Fields) (tokens : Tokens) → Leaves (suc (length tokens)) (round_at op given tokens)
unfolding round_at
round_leaves op given tokens =
    let n : ℕ = suc (length tokens) in
    let last : (a b : Option ℕ × Tokens) (c : Option Target × Tokens) → Result (Fields × Tokens) ℕ = λ a b c. Ok (record { a = a.0; b = b.0; c = c.0 }, c.1) in
    chain n n (a_at op given.a tokens) (λ a. field_at (codes "b") 65535 given.b a.1 >>= λ b. c_at given.c b.1 >>= λ c. last a b c) (a_leaves op given.a tokens)
    (λ a h. chain n n (field_at (codes "b") 65535 given.b a.1) (λ b. c_at given.c b.1 >>= λ c. last a b c) (wider (suc (length a.1)) n (field_at (codes "b") 65535 given.b a.1) (omega (arith, h)) (field_leaves (codes "b") 65535 given.b a.1))
    (λ b k. chain n n (c_at given.c b.1) (λ c. last a b c) (wider (suc (length b.1)) n (c_at given.c b.1) (omega (arith, k)) (c_leaves given.c b.1))
    (λ c l. l)))

fields_leaves : (op : ℕ) (tokens : Tokens) → Leaves (suc (length tokens)) (fields_at op tokens)
unfolding fields_at
fields_leaves op tokens =
    let n : ℕ = suc (length tokens) in
    let none : Fields = record { a = None; b = None; c = None } in
    chain n n (round_at op none tokens) (λ first. round_at op first.0 first.1 >>= λ second. round_at op second.0 second.1) (round_leaves op none tokens)
    (λ first h. chain n n (round_at op first.0 first.1) (λ second. round_at op second.0 second.1) (wider (suc (length first.1)) n (round_at op first.0 first.1) (omega (arith, h)) (round_leaves op first.0 first.1))
    (λ second k. wider (suc (length second.1)) n (round_at op second.0 second.1) (omega (arith, k)) (round_leaves op second.0 second.1)))

place_leaves : (place : ℕ) (tokens : Tokens) → LeavesRest (suc (length tokens)) (place_at place tokens)
unfolding place_at
place_leaves place tokens =
    let read : Result Tokens ℕ = number_at place place tokens >>= λ n. Ok n.1 in
    if_leaves_rest (suc (length tokens)) (begins_number (word_at tokens)) read (Ok tokens)
    (then_rest (length tokens) (suc (length tokens)) (number_at place place tokens) (λ n. Ok n.1) (number_leaves place place tokens) (λ n h. omega (arith, h)))
    (omega arith)

draft_leaves : (place : ℕ) (tokens : Tokens) → Leaves (length tokens) (draft_at place tokens)
unfolding draft_at
draft_leaves place tokens =
    let n : ℕ = length tokens in
    let last : (operation : ℕ × Tokens) (fields : Fields × Tokens) → Result (Draft × Tokens) ℕ =
    λ operation fields. Ok (record { op = operation.0; a = unwrap_or fields.0.a 0; b = unwrap_or fields.0.b 0; c = unwrap_or fields.0.c (Number 0) }, fields.1) in
    rest_then (suc n) n (place_at place tokens) (λ rest. operation_at rest >>= λ operation. fields_at operation.0 operation.1 >>= λ fields. last operation fields) (place_leaves place tokens)
    (λ rest h. chain n n (operation_at rest) (λ operation. fields_at operation.0 operation.1 >>= λ fields. last operation fields) (wider (length rest) n (operation_at rest) (omega (arith, h)) (operation_leaves rest))
    (λ operation k. chain n n (fields_at operation.0 operation.1) (λ fields. last operation fields) (wider (suc (length operation.1)) n (fields_at operation.0 operation.1) (omega (arith, k)) (fields_leaves operation.0 operation.1))
    (λ fields l. l)))

label_leaves : (tokens : Tokens) → Leaves (length tokens) (label_at tokens)
unfolding label_at
label_leaves tokens =
    let made : Tokens → List ℕ × Tokens → Result (Line × Tokens) ℕ = λ rest name. Ok (Label name.0 (left_at rest), name.1) in
    rest_then (length tokens) (length tokens) (keyword_at (codes "label") tokens) (λ rest. name_at rest >>= λ name. made rest name) (keyword_leaves (codes "label") tokens)
    (λ rest h. chain (length rest) (length tokens) (name_at rest) (λ name. made rest name) (name_leaves rest) (λ name k. omega (arith, k)))

pub line_leaves : (before : List Line) (tokens : Tokens) → Leaves (length tokens) (line_at before tokens)
unfolding line_at
line_leaves before tokens =
    let step : Draft × Tokens → Result (Line × Tokens) ℕ = λ x. Ok (Step x.0, x.1) in
    if_leaves (length tokens) (begins_with (codes "label") tokens) (label_at tokens) (draft_at (count before) tokens >>= step) (label_leaves tokens)
    (chain (length tokens) (length tokens) (draft_at (count before) tokens) step (draft_leaves (count before) tokens) (λ x h. h))

pub number_item_leaves : (place : List ℕ) (tokens : Tokens) → Leaves (length tokens) (number_item place tokens)
unfolding number_item
number_item_leaves place tokens =
    rest_then (length tokens) (length tokens) (keyword_at (codes "number") tokens) (λ rest. number_at 0 (2 ^ 64 - 1) rest) (keyword_leaves (codes "number") tokens)
    (λ rest h. wider (length rest) (length tokens) (number_at 0 (2 ^ 64 - 1) rest) (omega arith) (number_leaves 0 (2 ^ 64 - 1) rest))

pub string_item_leaves : (place : List (List ℕ)) (tokens : Tokens) → Leaves (length tokens) (string_item place tokens)
unfolding string_item
string_item_leaves place tokens =
    rest_then (length tokens) (length tokens) (keyword_at (codes "string") tokens) (λ rest. text_at rest) (keyword_leaves (codes "string") tokens)
    (λ rest h. wider (length rest) (length tokens) (text_at rest) (omega arith) (text_leaves rest))
