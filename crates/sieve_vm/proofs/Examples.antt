-- The definitions at small programs, by computation.
use Rattle.std.proofs.Common.{◌≡◌, ℕ, ◌+◌, ◌*◌, true, false, List, [], ◌∷◌, Some, None, length, codes, refl}
use Rattle.bytecode_format.specs.declared.action.Action.TheVariants as action
use Rattle.bytecode_format.specs.declared.instruction.Instruction.{Instruction}
use Rattle.bytecode_format.specs.declared.operation.Operation.{Operation}
use Rattle.bytecode_format.specs.declared.operation.Operation.TheVariants.{Literal, Variable, Capture, Join, Set, File, Test}
use Rattle.bytecode_format.specs.declared.operation.TestOperation.TheVariants.{Header, Exists, String}
use Rattle.bytecode_format.specs.Operations.{octet_of}
use Rattle.bytecode_format.specs.Code.{Code}
use Rattle.mime_decode.specs.Mail.{Part, Mail}
use Rattle.sieve_vm.specs.State.{Value, truth, text, State, start}
use Rattle.sieve_vm.specs.Stack.{texts_on_top, lists_on_top}
use Rattle.sieve_vm.specs.Charge.{charge_of}
use Rattle.sieve_vm.specs.Machine.{on, fails, effect, referred_in}

-- there are ten captures, and as many variables as the program says
ten_captures : (code : Code) → length (start code).captures ≡ 10
ten_captures code = refl

two_variables : (start (record { version = 1; variables = 2; numbers = []; strings = []; instructions = [] })).variables ≡ [] ∷ [] ∷ []
two_variables = refl

-- ---- texts

-- the text on top was pushed last
abbrev pushed : List Value
pushed = text (codes "c") ∷ text (codes "b") ∷ text (codes "a") ∷ truth true ∷ []

two_texts : texts_on_top 2 pushed ≡ Some (record { texts = codes "b" ∷ codes "c" ∷ []; below = text (codes "a") ∷ truth true ∷ [] })
two_texts = refl

too_many_texts : texts_on_top 4 pushed ≡ None
too_many_texts = refl

a_name_and_two_keys : lists_on_top 1 0 2 pushed ≡ Some (record { names = codes "a" ∷ []; params = []; keys = codes "b" ∷ codes "c" ∷ []; below = truth true ∷ [] })
a_name_and_two_keys = refl

one_of_each : lists_on_top 1 1 1 pushed ≡ Some (record { names = codes "a" ∷ []; params = codes "b" ∷ []; keys = codes "c" ∷ []; below = truth true ∷ [] })
one_of_each = refl

-- ---- a message with two fields

module _ (root : Part) where
  abbrev mail : Mail
  mail = record {
    octets = codes "X: b; subject: aa";
    parts = record root { fields = record { name = codes "X"; value = codes "b"; folded = false } ∷ record { name = codes "subject"; value = codes "aa"; folded = false } ∷ [] } ∷ [];
  }

  abbrev code : Code
  code = record { version = 1; variables = 0; numbers = []; strings = codes "x" ∷ []; instructions = [] }

  abbrev with_stack : List Value → State
  with_stack stack = record (start code) { stack = stack }

  abbrev lists : Operation → ℕ → ℕ → ℕ → Instruction
  lists operation a b c = record { op = octet_of operation; a = a; b = b; c = c }

  literal : effect (referred_in code) mail Literal (lists Literal 0 0 0) (with_stack []) ≡ on (with_stack (text (codes "x") ∷ []))
  literal = refl

  no_literal : effect (referred_in code) mail Literal (lists Literal 0 0 1) (with_stack []) ≡ fails
  no_literal = refl

  filed : effect (referred_in code) mail File (lists File 0 0 0) (with_stack (text (codes "x") ∷ [])) ≡ on (record (with_stack []) { actions = action.File (codes "x") ∷ []; implicit_keep = false })
  filed = refl

  truth_filed : effect (referred_in code) mail File (lists File 0 0 0) (with_stack (truth true ∷ [])) ≡ fails
  truth_filed = refl

  -- two fields and one more, of a name of 7 octets and one more; a value of 2 octets and one more, of a key of 1 and one more
  matched : effect (referred_in code) mail (Test Header) (lists (Test Header) 1 1 1) (with_stack (text (codes "A") ∷ text (codes "Subject") ∷ [])) ≡ on (with_stack (truth true ∷ []))
  matched = refl

  matched_charge : charge_of (referred_in code) mail (Test Header) (lists (Test Header) 1 1 1) (with_stack (text (codes "A") ∷ text (codes "Subject") ∷ [])) ≡ 1 + 3 * 8 + 3 * 2
  matched_charge = refl

  -- the captures of a match: the value, and what its wildcard stands for
  captured : effect (referred_in code) mail (Test Header) (lists (Test Header) 2 1 1) (with_stack (text (codes "a*") ∷ text (codes "Subject") ∷ []))
      ≡ on (record (with_stack (truth true ∷ [])) { captures = codes "aa" ∷ codes "a" ∷ [] ∷ [] ∷ [] ∷ [] ∷ [] ∷ [] ∷ [] ∷ [] ∷ [] })
  captured = refl

  -- a match that fails leaves them
  not_captured : effect (referred_in code) mail (Test Header) (lists (Test Header) 2 1 1) (record (with_stack (text (codes "b*") ∷ text (codes "Subject") ∷ [])) { captures = codes "old" ∷ [] })
      ≡ on (record (with_stack (truth false ∷ [])) { captures = codes "old" ∷ [] })
  not_captured = refl

  -- ---- variables

  abbrev with_variables : List (List ℕ) → List Value → State
  with_variables variables stack = record (with_stack stack) { variables = variables }

  variable : effect (referred_in code) mail Variable (lists Variable 0 0 1) (with_variables (codes "a" ∷ codes "b" ∷ []) []) ≡ on (with_variables (codes "a" ∷ codes "b" ∷ []) (text (codes "b") ∷ []))
  variable = refl

  no_variable : effect (referred_in code) mail Variable (lists Variable 0 0 2) (with_variables (codes "a" ∷ codes "b" ∷ []) []) ≡ fails
  no_variable = refl

  -- captures are empty until a match sets them
  capture : effect (referred_in code) mail Capture (lists Capture 9 0 0) (with_stack []) ≡ on (with_stack (text [] ∷ []))
  capture = refl

  -- the first text of a join was pushed first
  joined : effect (referred_in code) mail Join (lists Join 0 2 0) (with_stack (text (codes "b") ∷ text (codes "aa") ∷ truth true ∷ [])) ≡ on (with_stack (text (codes "aab") ∷ truth true ∷ []))
  joined = refl

  joined_charge : charge_of (referred_in code) mail Join (lists Join 0 2 0) (with_stack (text (codes "b") ∷ text (codes "aa") ∷ truth true ∷ [])) ≡ 1 + 2 + 1
  joined_charge = refl

  -- a is 9: lower case, and the first octet in upper case
  set : effect (referred_in code) mail Set (lists Set 9 0 1) (with_variables ([] ∷ codes "old" ∷ []) (text (codes "nEW") ∷ [])) ≡ on (with_variables ([] ∷ codes "New" ∷ []) [])
  set = refl

  set_charge : charge_of (referred_in code) mail Set (lists Set 9 0 1) (with_variables ([] ∷ codes "old" ∷ []) (text (codes "nEW") ∷ [])) ≡ 1 + 3
  set_charge = refl

  no_modifiers : effect (referred_in code) mail Set (lists Set 3 0 0) (with_variables ([] ∷ []) (text (codes "new") ∷ [])) ≡ fails
  no_modifiers = refl

  no_variable_to_set : effect (referred_in code) mail Set (lists Set 0 0 1) (with_variables ([] ∷ []) (text (codes "new") ∷ [])) ≡ fails
  no_variable_to_set = refl

  -- the second of two sources matches, and it sets captures
  source_matched : effect (referred_in code) mail (Test String) (lists (Test String) 2 2 1) (with_stack (text (codes "b*") ∷ text (codes "bc") ∷ text (codes "a") ∷ []))
      ≡ on (record (with_stack (truth true ∷ [])) { captures = codes "bc" ∷ codes "c" ∷ [] ∷ [] ∷ [] ∷ [] ∷ [] ∷ [] ∷ [] ∷ [] ∷ [] })
  source_matched = refl

  -- all sources and keys count: one octet and one more, two octets and one more, each times two octets and one more
  source_charge : charge_of (referred_in code) mail (Test String) (lists (Test String) 2 2 1) (with_stack (text (codes "b*") ∷ text (codes "bc") ∷ text (codes "a") ∷ [])) ≡ 1 + 2 * 3 + 3 * 3
  source_charge = refl

  exists : effect (referred_in code) mail (Test Exists) (lists (Test Exists) 0 2 0) (with_stack (text (codes "x") ∷ text (codes "Subject") ∷ [])) ≡ on (with_stack (truth true ∷ []))
  exists = refl

  exists_charge : charge_of (referred_in code) mail (Test Exists) (lists (Test Exists) 0 2 0) (with_stack (text (codes "x") ∷ text (codes "Subject") ∷ [])) ≡ 1 + 3 * (8 + 2)
  exists_charge = refl

  not_there : effect (referred_in code) mail (Test Exists) (lists (Test Exists) 0 2 0) (with_stack (text (codes "y") ∷ text (codes "Subject") ∷ [])) ≡ on (with_stack (truth false ∷ []))
  not_there = refl
