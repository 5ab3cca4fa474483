-- What a listing says: the items that its tokens are, in their order.
use Rattle.std.specs.Prelude.{◌≡◌, ℕ, zero, suc, ◌+◌, ◌++◌, ◌-◌, ◌*◌, ◌^◌, ◌&&◌, nat_le, Bool, true, false, List, [], ◌∷◌, length, Option, Some, None, is_some, unwrap_or, Result, Ok, Err, is_ok, MatchResult, bytes_eq, codes, if◌then◌else◌}
use Rattle.std.specs.Str.{all_ascii_digits}
use Rattle.std.specs.Char.{is_ascii_digit}
use Rattle.octets.specs.Escapes.{octet_of_digits}
use Rattle.octets.specs.Limits.{max_variables, max_string}
use Rattle.bytecode_format.specs.Code.{Code}
use Rattle.bytecode_format.specs.Spelling.{IsProgram}
use Rattle.bytecode_format.specs.Operations.{operation_of}
use Rattle.bytecode_format.specs.declared.operation.Operation.{Operation}
use Rattle.bytecode_verifier.specs.Rows.{row_of}
use Rattle.bytecode_verifier.specs.declared.row.Range.{Range}
use Rattle.bytecode_verifier.specs.declared.row.Range.TheVariants as ranges
use Rattle.bytecode_listing.specs.Names.{octet_named}
use Rattle.bytecode_listing.specs.Wording.{number_of}
use Rattle.bytecode_listing.specs.declared.wording.Facet.{Facet}
use Rattle.bytecode_listing.specs.declared.wording.Facet.TheVariants.{Match, Comparator, Scope, Selector}
use Rattle.bytecode_listing.specs.declared.drafts.Target.{Target}
use Rattle.bytecode_listing.specs.declared.drafts.Target.TheVariants.{Number, Name, Quoted}
use Rattle.bytecode_listing.specs.declared.drafts.Draft.{Draft}
use Rattle.bytecode_listing.specs.declared.drafts.Line.{Line}
use Rattle.bytecode_listing.specs.declared.drafts.Line.TheVariants.{Label, Step}
use Rattle.refusals.specs.declared.fault_kind.FaultKind.{FaultKind}
use Rattle.refusals.specs.declared.fault_kind.FaultKind.TheVariants.{Misplaced, SecondLabel, NoLabel, Limits}
use Rattle.bytecode_listing.specs.Labels.{◌>>=◌, count, double_after, resolved}
use Rattle.bytecode_listing.specs.Tokens.{Token, Word, Text, Wrong, Placed, tokens_of}

abbrev pub Tokens : Type 0
Tokens = List Placed

-- what was read and the tokens after it, or how many octets are left where the first token begins
-- that can't stand there
abbrev pub Read : Type 0 → Type 0
Read A = Result (A × Tokens) ℕ

-- how many octets are left where the first token begins
abbrev pub left_at : Tokens → ℕ
left_at [] = 0
left_at (token ∷ rest) = token.left

-- a word
abbrev pub word_in : Token → ℕ → Tokens → Read (List ℕ)
word_in (Word word) left rest = Ok (word, rest)
word_in (Text text) left rest = Err left
word_in Wrong left rest = Err left

abbrev pub word_at : Tokens → Read (List ℕ)
word_at [] = Err 0
word_at (first ∷ rest) = word_in first.token first.left rest

-- a string within the limit of strings
abbrev pub text_in : Token → ℕ → Tokens → Read (List ℕ)
text_in (Word word) left rest = Err left
text_in (Text text) left rest =
    if nat_le (length text) max_string then Ok (text, rest) else Err left
text_in Wrong left rest = Err left

abbrev pub text_at : Tokens → Read (List ℕ)
text_at [] = Err 0
text_at (first ∷ rest) = text_in first.token first.left rest

-- whether the first token is this word
abbrev pub is_word : List ℕ → Read (List ℕ) → Bool
is_word word (Ok read) = bytes_eq read.0 word
is_word word (Err left) = false

abbrev pub begins_with : List ℕ → Tokens → Bool
begins_with word tokens = is_word word (word_at tokens)

-- whether the first token is a word whose first octet is a digit
abbrev pub begins_number : Read (List ℕ) → Bool
begins_number (Ok ([], rest)) = false
begins_number (Ok (octet ∷ octets, rest)) = is_ascii_digit octet
begins_number (Err left) = false

-- this word
unfoldable pub keyword_at : List ℕ → Tokens → Result Tokens ℕ
keyword_at word tokens = do
  read ← word_at tokens
  if bytes_eq read.0 word then Ok read.1 else Err (left_at tokens)

-- the number that decimal digits spell, the highest digit first
abbrev pub value_from : ℕ → List ℕ → ℕ
value_from n [] = n
value_from n (digit ∷ digits) = value_from (10 * n + (digit - 48)) digits

-- whether a word is a number from low to high
abbrev pub is_within : ℕ → ℕ → List ℕ → Bool
is_within low high word =
    all_ascii_digits word
    && nat_le low (value_from 0 word)
    && nat_le (value_from 0 word) high

-- a number from low to high
unfoldable pub number_at : ℕ → ℕ → Tokens → Read ℕ
number_at low high tokens = do
  read ← word_at tokens
  if is_within low high read.0 then Ok (value_from 0 read.0, read.1) else Err (left_at tokens)

-- the octet that a word of two hexadecimal digits writes
abbrev pub octet_in : List ℕ → Option ℕ
octet_in (high ∷ low ∷ []) = octet_of_digits high low
octet_in _ = None

abbrev pub found : {A : Type 0} → Option A → ℕ → Tokens → Read A
found None left rest = Err left
found (Some x) left rest = Ok (x, rest)

unfoldable pub octet_at : Tokens → Read ℕ
octet_at tokens = do
  read ← word_at tokens
  found (octet_in read.0) (left_at tokens) read.1

-- an operation: its name, or OP and the octet
unfoldable pub operation_at : Tokens → Read ℕ
operation_at tokens = do
  read ← word_at tokens
  if bytes_eq read.0 (codes "OP")
      then octet_at read.1
      else found (octet_named read.0) (left_at tokens) read.1

-- a field's name and its number
unfoldable pub field_number : List ℕ → ℕ → Tokens → Read ℕ
field_number name highest tokens = keyword_at name tokens >>= λ rest. number_at 0 highest rest

-- a field whose name stands there: it must not have been given before
abbrev pub named_field : List ℕ → ℕ → Option ℕ → Tokens → Read (Option ℕ)
named_field name highest given tokens =
    if is_some given
    then Err (left_at tokens)
    else (field_number name highest tokens >>= λ n. Ok (Some n.0, n.1))

-- a field where its name stands; otherwise nothing is read
unfoldable pub field_at : List ℕ → ℕ → Option ℕ → Tokens → Read (Option ℕ)
field_at name highest given tokens =
    if begins_with name tokens
    then named_field name highest given tokens
    else Ok (given, tokens)

-- ---- a in words

-- what words say so far, and the tokens after them; None where no word was read
abbrev pub Said : Type 0
Said = Option ℕ × Tokens

-- the number of a facet's word; None, where it isn't one, and then nothing is read
abbrev pub facet_in : Option ℕ → Tokens → Tokens → Said
facet_in None rest tokens = (None, tokens)
facet_in (Some n) rest tokens = (Some n, rest)

abbrev pub facet_from : Facet → Read (List ℕ) → Tokens → Said
facet_from facet (Ok read) tokens = facet_in (number_of facet read.0) read.1 tokens
facet_from facet (Err left) tokens = (None, tokens)

-- the word of a facet, where one stands first
unfoldable pub facet_at : Facet → Tokens → Said
facet_at facet tokens = facet_from facet (word_at tokens) tokens

-- two numbers in one, the second so many times; one that isn't said is 0, unless neither is
abbrev pub joined : Option ℕ → ℕ → Option ℕ → Option ℕ
joined None unit None = None
joined None unit (Some n) = Some (unit * n)
joined (Some m) unit None = Some m
joined (Some m) unit (Some n) = Some (m + unit * n)

-- what is said, and then what is said after it, so many times
abbrev pub then_said : Said → ℕ → (Tokens → Said) → Said
then_said first unit next = (joined first.0 unit (next first.1).0, (next first.1).1)

-- a match number in words: of the match, and of the comparator
unfoldable pub match_at : Tokens → Said
match_at tokens = then_said (facet_at Match tokens) 4 (facet_at Comparator)

-- a selection in words: a match number, the scope and the selector
unfoldable pub selection_at : Tokens → Said
selection_at tokens =
    then_said (then_said (match_at tokens) 8 (facet_at Scope)) 32 (facet_at Selector)

-- the field a in words, where its numbers are those of ways to compare or of what is looked at
abbrev pub worded_as : Range → Tokens → Said
worded_as ranges.FieldTest tokens = selection_at tokens
worded_as ranges.Scope tokens = facet_at Scope tokens
worded_as ranges.Match tokens = match_at tokens
worded_as _ tokens = (None, tokens)

-- the field a of an operation in words
abbrev pub worded_at : Option Operation → Tokens → Said
worded_at None tokens = (None, tokens)
worded_at (Some operation) tokens = worded_as (row_of operation).a tokens

-- the number of a in words; at least one has to stand there
abbrev pub words_at : Option Operation → Tokens → Read ℕ
words_at operation tokens =
    found (worded_at operation tokens).0 (left_at tokens) (worded_at operation tokens).1

-- the number of a, in digits or in words
unfoldable pub a_value : ℕ → Tokens → Read ℕ
a_value op tokens =
    if begins_number (word_at tokens)
    then number_at 0 (2 ^ 8 - 1) tokens
    else words_at (operation_of op) tokens

-- the field's name a and its number
unfoldable pub a_field : ℕ → Tokens → Read ℕ
a_field op tokens = keyword_at (codes "a") tokens >>= λ rest. a_value op rest

-- the field a whose name stands there: it must not have been given before
abbrev pub named_a : ℕ → Option ℕ → Tokens → Read (Option ℕ)
named_a op given tokens =
    if is_some given
    then Err (left_at tokens)
    else (a_field op tokens >>= λ a. Ok (Some a.0, a.1))

-- the field a where its name stands; otherwise nothing is read
unfoldable pub a_at : ℕ → Option ℕ → Tokens → Read (Option ℕ)
a_at op given tokens =
    if begins_with (codes "a") tokens
    then named_a op given tokens
    else Ok (given, tokens)

-- ---- c

-- the most parameters, and the most keys, that c counts
abbrev pub max_count : ℕ
max_count = 2 ^ 16 - 1

-- the number of keys after so many parameters
unfoldable pub keys_after : ℕ → Tokens → Read ℕ
keys_after params tokens = do
  rest ← keyword_at (codes "params") tokens
  keys ← number_at 0 max_count rest
  last ← keyword_at (codes "keys") keys.1
  Ok (2 ^ 16 * params + keys.0, last)

-- the number of c after a first number: that, also where `keys` stands after it; where `params`
-- does, the numbers of parameters and keys in one
unfoldable pub counts_at : ℕ → Tokens → Read ℕ
counts_at n tokens =
    if begins_with (codes "params") tokens && nat_le n max_count
    then keys_after n tokens
    else if begins_with (codes "keys") tokens
    then (keyword_at (codes "keys") tokens >>= λ rest. Ok (n, rest))
    else Ok (n, tokens)

-- a number, or the counts of HEADER
unfoldable pub counted_at : Tokens → Read ℕ
counted_at tokens = number_at 0 (2 ^ 32 - 1) tokens >>= λ n. counts_at n.0 n.1

-- a name: a word that doesn't begin with a digit
unfoldable pub name_at : Tokens → Read (List ℕ)
name_at tokens =
    if begins_number (word_at tokens)
    then Err (left_at tokens)
    else word_at tokens

-- what stands for the number of c: a number, or a name or a string and where it stands
unfoldable pub target_at : Tokens → Read Target
target_at tokens =
    if begins_number (word_at tokens)
    then (counted_at tokens >>= λ n. Ok (Number n.0, n.1))
    else if is_ok (word_at tokens)
    then (name_at tokens >>= λ name. Ok (Name name.0 (left_at tokens), name.1))
    else (text_at tokens >>= λ text. Ok (Quoted text.0 (left_at tokens), text.1))

-- the field's name c and what stands for its number
unfoldable pub target_field : Tokens → Read Target
target_field tokens = keyword_at (codes "c") tokens >>= λ rest. target_at rest

-- the field c whose name stands there: it must not have been given before
abbrev pub named_c : Option Target → Tokens → Read (Option Target)
named_c given tokens =
    if is_some given
    then Err (left_at tokens)
    else (target_field tokens >>= λ c. Ok (Some c.0, c.1))

-- the field c where its name stands; otherwise nothing is read
unfoldable pub c_at : Option Target → Tokens → Read (Option Target)
c_at given tokens =
    if begins_with (codes "c") tokens
    then named_c given tokens
    else Ok (given, tokens)

-- the fields of an instruction, of which each may have been given
pub record Fields : Type 0 where
  pub a : Option ℕ
  pub b : Option ℕ
  pub c : Option Target

-- each field that stands there, in this order
unfoldable pub round_at : ℕ → Fields → Tokens → Read Fields
round_at op given tokens = do
  a ← a_at op given.a tokens
  b ← field_at (codes "b") (2 ^ 16 - 1) given.b a.1
  c ← c_at given.c b.1
  Ok (record { a = a.0; b = b.0; c = c.0 }, c.1)

-- the fields in any order, each at most once: three rounds read them all
unfoldable pub fields_at : ℕ → Tokens → Read Fields
fields_at op tokens = do
  first ← round_at op (record { a = None; b = None; c = None }) tokens
  second ← round_at op first.0 first.1
  round_at op second.0 second.1

-- the place of an instruction, which may be missing
unfoldable pub place_at : ℕ → Tokens → Result Tokens ℕ
place_at place tokens =
    if begins_number (word_at tokens)
    then (number_at place place tokens >>= λ n. Ok n.1)
    else Ok tokens

-- an operation with its fields, of which one that isn't given is 0
abbrev pub with_fields : ℕ → Fields → Draft
with_fields octet given = record {
  op = octet;
  a = unwrap_or given.a 0;
  b = unwrap_or given.b 0;
  c = unwrap_or given.c (Number 0);
}

-- an instruction at its place
unfoldable pub draft_at : ℕ → Tokens → Read Draft
draft_at place tokens = do
  rest ← place_at place tokens
  operation ← operation_at rest
  fields ← fields_at operation.0 operation.1
  Ok (with_fields operation.0 fields.0, fields.1)

-- a label: its name, and where that stands
unfoldable pub label_at : Tokens → Read Line
label_at tokens = do
  rest ← keyword_at (codes "label") tokens
  name ← name_at rest
  Ok (Label name.0 (left_at rest), name.1)

-- a label, or an instruction, whose place is the number of those before it
unfoldable pub line_at : List Line → Tokens → Read Line
line_at before tokens =
    if begins_with (codes "label") tokens
    then label_at tokens
    else (draft_at (count before) tokens >>= λ x. Ok (Step x.0, x.1))

-- a number and a string of the tables, after their words
unfoldable pub number_item : List ℕ → Tokens → Read ℕ
number_item before tokens =
    keyword_at (codes "number") tokens >>= λ rest. number_at 0 (2 ^ 64 - 1) rest

unfoldable pub string_item : List (List ℕ) → Tokens → Read (List ℕ)
string_item before tokens = keyword_at (codes "string") tokens >>= λ rest. text_at rest

-- an item before those that are read after it
abbrev pub onto : {A : Type 0} → A → Read (List A) → Read (List A)
onto x others = others >>= λ rest. Ok (x ∷ rest.0, rest.1)

-- at most so many items as long as they begin so; each is read knowing those before it
unfoldable pub many_at : {A : Type 0} → (Tokens → Bool) → (List A → Tokens → Read A)
    → ℕ → List A → Tokens → Read (List A)
many_at begins item zero before tokens = Ok ([], tokens)
many_at begins item (suc most) before tokens =
    if begins tokens
    then (item before tokens >>= λ x.
    onto x.0 (many_at begins item most (before ++ x.0 ∷ []) x.1))
    else Ok ([], tokens)

-- all items; there are at most as many as tokens
abbrev pub all_at : {A : Type 0} → (Tokens → Bool) → (List A → Tokens → Read A)
    → Tokens → Read (List A)
all_at begins item tokens = many_at begins item (length tokens) [] tokens

-- whether a token is left
abbrev pub is_left : Tokens → Bool
is_left [] = false
is_left (token ∷ rest) = true

-- the table of numbers, and that of strings
abbrev pub numbers_at : Tokens → Read (List ℕ)
numbers_at tokens = all_at (begins_with (codes "number")) number_item tokens

abbrev pub strings_at : Tokens → Read (List (List ℕ))
strings_at tokens = all_at (begins_with (codes "string")) string_item tokens

-- the labels and the instructions, up to the listing's end
abbrev pub lines_at : Tokens → Read (List Line)
lines_at tokens = all_at is_left line_at tokens

-- what a listing says before names and strings are looked up
pub record Drafted : Type 0 where
  pub version : ℕ
  pub variables : ℕ
  pub numbers : List ℕ
  pub strings : List (List ℕ)
  pub lines : List Line

-- a listing's tokens: version, variables, numbers, strings, and instructions with their labels
unfoldable pub items_at : Tokens → Result Drafted ℕ
items_at tokens = do
  after_version ← keyword_at (codes "version") tokens
  version ← number_at 1 2 after_version
  after_variables ← keyword_at (codes "variables") version.1
  variables ← number_at 0 max_variables after_variables
  numbers ← numbers_at variables.1
  strings ← strings_at numbers.1
  lines ← lines_at strings.1
  Ok (record {
    version = version.0;
    variables = variables.0;
    numbers = numbers.0;
    strings = strings.0;
    lines = lines.0;
  })

-- the program of it: each name and each string in a line is looked up
abbrev pub code_from : Drafted → Result Code ℕ
code_from drafted = do
  parts ← resolved drafted.strings drafted.lines
  Ok (record {
    version = drafted.version;
    variables = drafted.variables;
    numbers = drafted.numbers;
    strings = parts.0;
    instructions = parts.1;
  })

-- what a listing says: all of it is read, and then names and strings are looked up
abbrev pub said_by : List ℕ → Result Code ℕ
said_by listing = items_at (tokens_of listing) >>= code_from

-- a listing of a program: it says the program, whose limits it keeps
pub record Lists (listing : List ℕ) (code : Code) : Type 0 where
  pub says : said_by listing ≡ Ok code
  pub within : IsProgram code

-- where all tokens can stand: the fault is at the listing's end, and what is said exceeds the
-- limits of a program
abbrev pub ExceedsAt : List ℕ → ℕ → Code → Type 0
ExceedsAt listing place code = (place ≡ length listing) × ¬ IsProgram code

-- the fault of a listing, after so many octets: the first token that can't stand there; where all
-- can, the first label that is there again; where none is, the first name that is no label
abbrev pub FaultsAt : List ℕ → ℕ → Type 0
FaultsAt listing place =
    MatchResult (said_by listing) (ExceedsAt listing place) (λ left. place ≡ length listing - left)

-- of which kind the fault of lines is: a label that is there again; where none is, a name that is no
-- label; else what is said exceeds the limits
abbrev pub lines_fault : List (List ℕ) → List Line → FaultKind
lines_fault table lines =
    if is_some (double_after [] lines) then SecondLabel else
    if is_ok (resolved table lines) then Limits else
    NoLabel

-- and that of a listing: a token that can't stand there, or where all can, that of its lines
abbrev pub kind_in : Result Drafted ℕ → FaultKind
kind_in (Err left) = Misplaced
kind_in (Ok drafted) = lines_fault drafted.strings drafted.lines

abbrev pub kind_of : List ℕ → FaultKind
kind_of listing = kind_in (items_at (tokens_of listing))
