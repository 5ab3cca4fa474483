-- The budget of a program: the sums of its instructions' caps, by the number of open loops.
use Rattle.std.specs.Prelude.{ℕ, ◌+◌, Option, Some, None, List, [], ◌∷◌, if◌then◌else◌, length, ◌==◌, slice_get, sum, sum_by}
use Rattle.std.specs.Option.{option_map_or}
use Rattle.bytecode_format.specs.declared.instruction.Instruction.{Instruction}
use Rattle.bytecode_format.specs.declared.operation.Operation.{Operation}
use Rattle.bytecode_format.specs.declared.operation.Operation.TheVariants.{Halt, Literal, Variable, Capture, Join, Set, Not, Jump, JumpIfTrue, JumpIfFalse, Keep, Discard, File, Store, Each, Next, Break, Take, Test}
use Rattle.bytecode_format.specs.declared.operation.TestOperation.{TestOperation}
use Rattle.bytecode_format.specs.declared.question.Sizes.{Sizes}
use Rattle.bytecode_format.specs.Questions.{counts_in, most_of}
use Rattle.bytecode_format.specs.Operations.{operation_of}
use Rattle.bytecode_format.specs.Code.{Code}
use Rattle.bytecode_cost.specs.Sums.{Sums}
use Rattle.bytecode_verifier.specs.Places.{sum_below}
use Rattle.bytecode_verifier.specs.Loops.{open_loops}
use Rattle.bytecode_verifier.specs.Shape.{Entries, Texts, Lists, take_texts, take_counted, shape_at}
use Rattle.bytecode_verifier.specs.declared.cap.Cap.{Cap}
use Rattle.bytecode_verifier.specs.declared.share.Share.{Share}

abbrev pub no_cap : Cap
no_cap = record { fixed = 0; scaled = 0 }

-- one charge, however long the message is
abbrev pub one_charge : Cap
one_charge = record { fixed = 1; scaled = 0 }

-- the sum of the bounds, each with one more
abbrev pub one_more_each : List ℕ → ℕ
one_more_each bounds = sum_by (λ bound. bound + 1) bounds

-- one charge, and one for each octet of the texts that are taken
abbrev pub cap_of_octets : Texts → Cap
cap_of_octets taken = record { fixed = 1 + sum taken.texts; scaled = 0 }

-- one charge, and one for each octet of a part's content that a variable may be set to
abbrev pub cap_of_content : ℕ → Cap
cap_of_content most = record { fixed = 1 + most; scaled = 0 }

-- how large the texts are that are taken, by their bounds
abbrev pub sizes_of : Lists → Sizes
sizes_of lists = record { names = one_more_each lists.names; number = length lists.names; params = length lists.params; keys = one_more_each lists.keys }

-- one charge, and what asking costs at most
abbrev pub cap_of_test : TestOperation → Lists → Cap
cap_of_test test lists = record { fixed = 1 + (most_of test (sizes_of lists)).fixed; scaled = (most_of test (sizes_of lists)).scaled }

-- the cap of an instruction that finds these entries
abbrev pub cap_of : Option Operation → Instruction → Entries → Cap
cap_of None i entries = one_charge
cap_of (Some Halt) i entries = one_charge
cap_of (Some Literal) i entries = one_charge
cap_of (Some Variable) i entries = one_charge
cap_of (Some Capture) i entries = one_charge
cap_of (Some Join) i entries = option_map_or cap_of_octets (take_texts i.b entries) one_charge
cap_of (Some Set) i entries = option_map_or cap_of_octets (take_texts 1 entries) one_charge
cap_of (Some (Test test)) i entries = option_map_or (cap_of_test test) (take_counted (counts_in test i) entries) one_charge
cap_of (Some Not) i entries = one_charge
cap_of (Some Jump) i entries = one_charge
cap_of (Some JumpIfTrue) i entries = one_charge
cap_of (Some JumpIfFalse) i entries = one_charge
cap_of (Some Keep) i entries = one_charge
cap_of (Some Discard) i entries = one_charge
cap_of (Some File) i entries = option_map_or cap_of_octets (take_texts 1 entries) one_charge
cap_of (Some Store) i entries = option_map_or cap_of_octets (take_texts 1 entries) one_charge
cap_of (Some Each) i entries = one_charge
cap_of (Some Next) i entries = one_charge
cap_of (Some Break) i entries = one_charge
cap_of (Some Take) i entries = cap_of_content i.b

-- where there is an instruction, and the shape goes up to it
abbrev pub cap_found : Option Instruction → Option Entries → Cap
cap_found None entries = no_cap
cap_found (Some i) None = no_cap
cap_found (Some i) (Some entries) = cap_of (operation_of i.op) i entries

-- the cap of the instruction at a place
abbrev pub cap_at : Code → ℕ → Cap
cap_at code place = cap_found (slice_get code.instructions place) (shape_at code place)

-- what the instruction at a place adds to the budget: its cap, inside so many open loops
abbrev pub share_at : Code → ℕ → Share
share_at code place = record { loops = length (open_loops code place); cap = cap_at code place }

-- the sum over the instructions that stand inside k open loops
abbrev pub sum_inside : (Cap → ℕ) → Code → ℕ → ℕ
sum_inside part code k = sum_below (λ place. if length (open_loops code place) == k then part (cap_at code place) else 0) (length code.instructions)

-- the four sums
abbrev pub sums_inside : (Cap → ℕ) → Code → List ℕ
sums_inside part code = sum_inside part code 0 ∷ sum_inside part code 1 ∷ sum_inside part code 2
    ∷ sum_inside part code 3 ∷ []

-- the budget of the program
abbrev pub budget_of : Code → Sums
budget_of code = record { version = code.version; fixed = sums_inside (λ cap. cap.fixed) code; scaled = sums_inside (λ cap. cap.scaled) code }
