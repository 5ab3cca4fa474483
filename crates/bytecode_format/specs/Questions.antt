-- What tests ask, how an instruction says it, and what differs from question to question.
use Rattle.std.specs.Prelude.{◌≡◌, ℕ, ◌+◌, ◌*◌, max, Bool, true, false, All, List, [], ◌∷◌, Option, Some, slice_get}
use Rattle.std.specs.Option.{option_and_then, option_map}
use Rattle.bytecode_format.specs.declared.instruction.Instruction.{Instruction}
use Rattle.bytecode_format.specs.declared.operation.TestOperation.{TestOperation}
use Rattle.bytecode_format.specs.declared.operation.TestOperation.TheVariants as test
use Rattle.bytecode_format.specs.declared.question.Counts.{Counts}
use Rattle.bytecode_format.specs.declared.question.Most.{Most}
use Rattle.bytecode_format.specs.declared.question.Question.{Question}
use Rattle.bytecode_format.specs.declared.question.Question.TheVariants.{Constant, Header, Exists, Size, String, PartSize, PartBody, PartDigest}
use Rattle.bytecode_format.specs.declared.question.Sizes.{Sizes}
use Rattle.bytecode_format.specs.declared.question.Takes.{Takes}
use Rattle.bytecode_format.specs.declared.selection.Selector.{Selector}
use Rattle.bytecode_format.specs.declared.selection.Selector.TheVariants.{Value, Main, Sub, ContentType, Param}
use Rattle.bytecode_format.specs.Operations.{octet_of_test}
use Rattle.bytecode_format.specs.Selection.{counts_number, field_test_number, field_test_numbered, keys_in, match_number, match_numbered, order_number, order_numbered, params_in, scope_number, scope_numbered, truth_number, truth_numbered}

pub record Row : Type 0 where
  -- which lists of strings it takes
  pub takes : Takes
  -- the numbers that it compares with
  pub numbers : List ℕ
  -- so many loops are open around it, at least: one, where it is about the current part
  pub loops : ℕ

abbrev pub no_list : Takes
no_list = record { names = false; params = false; keys = false }

abbrev pub names_alone : Takes
names_alone = record { names = true; params = false; keys = false }

abbrev pub keys_alone : Takes
keys_alone = record { names = false; params = false; keys = true }

abbrev pub names_and_keys : Takes
names_and_keys = record { names = true; params = false; keys = true }

-- the values of parameters are taken, by their names
abbrev pub takes_params : Selector → Bool
takes_params Value = false
takes_params Main = false
takes_params Sub = false
takes_params ContentType = false
takes_params Param = true

-- those of a test of fields
abbrev pub fields_by : Selector → Takes
fields_by selector = record { names = true; params = takes_params selector; keys = true }

abbrev pub row_of : Question → Row
row_of (Constant value) = record { takes = no_list; numbers = []; loops = 0 }
row_of (Header test) = record { takes = fields_by test.selector; numbers = []; loops = 0 }
row_of (Exists scope) = record { takes = names_alone; numbers = []; loops = 0 }
row_of (Size order number) = record { takes = no_list; numbers = number ∷ []; loops = 0 }
row_of (String matching) = record { takes = names_and_keys; numbers = []; loops = 0 }
row_of (PartSize order number) = record { takes = no_list; numbers = number ∷ []; loops = 1 }
row_of (PartBody matching) = record { takes = keys_alone; numbers = []; loops = 1 }
row_of PartDigest = record { takes = keys_alone; numbers = []; loops = 1 }

-- ---- how an instruction asks it

-- an instruction that asks, by its fields
abbrev pub asking : TestOperation → ℕ → ℕ → ℕ → Instruction
asking operation a b c = record { op = octet_of_test operation; a = a; b = b; c = c }

-- the instruction of a question, with so many strings, and with a place of its number in the table of numbers
abbrev pub instruction_of : Question → Counts → ℕ → Instruction
instruction_of (Constant value) counts place = asking test.Constant (truth_number value) 0 0
instruction_of (Header fields) counts place =
    asking test.Header (field_test_number fields) counts.names (counts_number (record { params = counts.params; keys = counts.keys }))
instruction_of (Exists scope) counts place = asking test.Exists (scope_number scope) counts.names 0
instruction_of (Size order number) counts place = asking test.Size (order_number order) 0 place
instruction_of (String how) counts place = asking test.String (match_number how) counts.names counts.keys
instruction_of (PartSize order number) counts place = asking test.PartSize (order_number order) 0 place
instruction_of (PartBody how) counts place = asking test.PartBody (match_number how) 0 counts.keys
instruction_of PartDigest counts place = asking test.PartDigest 0 0 counts.keys

-- what an instruction asks, if its fields say it; its number is one of these
abbrev pub question_in : List ℕ → TestOperation → Instruction → Option Question
question_in numbers test.Constant i = option_map Constant (truth_numbered i.a)
question_in numbers test.Header i = option_map Header (field_test_numbered i.a)
question_in numbers test.Exists i = option_map Exists (scope_numbered i.a)
question_in numbers test.String i = option_map String (match_numbered i.a)
question_in numbers test.Size i = option_and_then (λ order. option_map (Size order) (slice_get numbers i.c)) (order_numbered i.a)
question_in numbers test.PartSize i = option_and_then (λ order. option_map (PartSize order) (slice_get numbers i.c)) (order_numbered i.a)
question_in numbers test.PartBody i = option_map PartBody (match_numbered i.a)
question_in numbers test.PartDigest i = Some PartDigest

-- how many strings it takes
abbrev pub counts_in : TestOperation → Instruction → Counts
counts_in test.Constant i = record { names = 0; params = 0; keys = 0 }
counts_in test.Header i = record { names = i.b; params = params_in i.c; keys = keys_in i.c }
counts_in test.Exists i = record { names = i.b; params = 0; keys = 0 }
counts_in test.String i = record { names = i.b; params = 0; keys = i.c }
counts_in test.Size i = record { names = 0; params = 0; keys = 0 }
counts_in test.PartSize i = record { names = 0; params = 0; keys = 0 }
counts_in test.PartBody i = record { names = 0; params = 0; keys = i.c }
counts_in test.PartDigest i = record { names = 0; params = 0; keys = i.c }

-- the operation of a question
abbrev pub operation_asking : Question → TestOperation
operation_asking (Constant value) = test.Constant
operation_asking (Header fields) = test.Header
operation_asking (Exists scope) = test.Exists
operation_asking (Size order number) = test.Size
operation_asking (String how) = test.String
operation_asking (PartSize order number) = test.PartSize
operation_asking (PartBody how) = test.PartBody
operation_asking PartDigest = test.PartDigest

-- its number, if it has one, stands at this place of the table
abbrev pub StandsIn : List ℕ → ℕ → Question → Type 0
StandsIn numbers place question = All (λ number. slice_get numbers place ≡ Some number) (row_of question).numbers

-- the lists that it doesn't take have no strings
pub record AreCountsOf (takes : Takes) (counts : Counts) : Type 0 where
  pub names : takes.names ≡ false → counts.names ≡ 0
  pub params : takes.params ≡ false → counts.params ≡ 0
  pub keys : takes.keys ≡ false → counts.keys ≡ 0

-- ---- what asking costs at most

abbrev pub most : ℕ → ℕ → Most
most fixed scaled = record { fixed = fixed; scaled = scaled }

-- how many octets a digest has
abbrev pub digest_length : ℕ
digest_length = 64

-- what a test costs whose texts are no larger: a message has no more fields than octets, and what a name, or a parameter of
-- that name, selects of all fields has no more octets than the message, nor has a part's content
abbrev pub most_of : TestOperation → Sizes → Most
most_of test.Constant sizes = most 0 0
most_of test.Header sizes = most 0 (sizes.names + sizes.number * max sizes.params 1 * sizes.keys)
most_of test.Exists sizes = most 0 sizes.names
most_of test.String sizes = most (sizes.names * sizes.keys) 0
most_of test.Size sizes = most 0 0
most_of test.PartSize sizes = most 0 0
most_of test.PartBody sizes = most 0 sizes.keys
most_of test.PartDigest sizes = most ((digest_length + 1) * sizes.keys) 0
