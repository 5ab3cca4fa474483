-- Loops over the parts of a small message, by computation.
use Rattle.std.proofs.Common.{◌≡◌, ℕ, zero, suc, ◌+◌, ◌*◌, true, false, List, [], ◌∷◌, codes, refl, ap}
use Rattle.bytecode_format.specs.declared.action.Action.TheVariants as action
use Rattle.bytecode_format.specs.declared.instruction.Instruction.{Instruction}
use Rattle.bytecode_format.specs.declared.operation.Operation.{Operation}
use Rattle.bytecode_format.specs.declared.operation.Operation.TheVariants.{Halt, Variable, Keep, File, Store, Each, Next, Break, Take, Test}
use Rattle.bytecode_format.specs.declared.operation.TestOperation.TheVariants.{Header, Exists, PartSize, PartBody, PartDigest}
use Rattle.bytecode_format.specs.Operations.{octet_of}
use Rattle.bytecode_format.specs.Code.{Code}
use Rattle.mime_decode.specs.Mail.{Mail, Part}
use Rattle.mail_matching.proofs.Extents.{digest_cost-is}
use Rattle.sieve_vm.specs.State.{Value, truth, text, Frame, State, Turn, goes, ends, traps, start}
use Rattle.sieve_vm.specs.Charge.{charge_of}
use Rattle.sieve_vm.specs.Machine.{on, jumps, fails, effect, step, referred_in}
use Rattle.sieve_vm.specs.Potential.{potential, limit_of}

module _ (root : Part) where
  -- a part with so many below it, a subject and a content
  abbrev part : ℕ → List ℕ → List ℕ → Part
  part below subject content = record root { below = below; fields = record { name = codes "Subject"; value = subject; folded = false } ∷ []; content = content }

  -- the root, one part with another below it
  abbrev mail : Mail
  mail =
      record {
        octets = codes "0123456789";
        parts =
            part 2 (codes "root") (codes "rr")
            ∷ part 1 (codes "one") (codes "one")
            ∷ part 0 (codes "below") (codes "body")
            ∷ [];
      }

  abbrev instruction : Operation → ℕ → ℕ → ℕ → Instruction
  instruction operation a b c = record { op = octet_of operation; a = a; b = b; c = c }

  abbrev program : List Instruction → Code
  program instructions = record { version = 1; variables = 0; numbers = 3 ∷ []; strings = []; instructions = instructions }

  -- so many steps
  abbrev steps_of : ℕ → Code → Mail → Turn → Turn
  steps_of zero code message turn = turn
  steps_of (suc n) code message (goes state) = steps_of n code message (step code message state)
  steps_of (suc n) code message (ends state) = ends state
  steps_of (suc n) code message traps = traps

  abbrev after : ℕ → Code → Turn → Turn
  after n code turn = steps_of n code mail turn

  abbrev keeps : List Instruction → ℕ → ℕ → State
  keeps instructions place charge =
      record (start (program instructions)) { place = place; charge = charge }

  -- ---- runs

  -- each part once: the Each, a Keep and a Next for each part, and the Halt
  abbrev one_loop : List Instruction
  one_loop = instruction Each 0 0 2 ∷ instruction Keep 0 0 0 ∷ instruction Next 0 0 0 ∷ instruction Halt 0 0 0 ∷ []

  three_parts : after 8 (program one_loop) (goes (start (program one_loop)))
      ≡ ends (record (keeps one_loop 3 8) { actions = action.Keep ∷ action.Keep ∷ action.Keep ∷ []; implicit_keep = false })
  three_parts = refl

  not_ended_before : after 7 (program one_loop) (goes (start (program one_loop)))
      ≡ goes (record (keeps one_loop 3 7) { actions = action.Keep ∷ action.Keep ∷ action.Keep ∷ []; implicit_keep = false })
  not_ended_before = refl

  -- an inner loop visits what is below the current part: two parts at the root, one at the first part, and none at the last
  abbrev nested : Instruction → List Instruction
  nested inner = instruction Each 0 0 4 ∷ instruction Each 0 0 3 ∷ inner ∷ instruction Next 0 0 1 ∷ instruction Next 0 0 0 ∷ instruction Halt 0 0 0 ∷ []

  below_each : after 14 (program (nested (instruction Keep 0 0 0))) (goes (start (program (nested (instruction Keep 0 0 0)))))
      ≡ ends (record (keeps (nested (instruction Keep 0 0 0)) 5 14) { actions = action.Keep ∷ action.Keep ∷ action.Keep ∷ []; implicit_keep = false })
  below_each = refl

  -- both loops are closed
  break_two : after 4 (program (nested (instruction Break 2 0 0))) (goes (start (program (nested (instruction Break 2 0 0))))) ≡ ends (keeps (nested (instruction Break 2 0 0)) 5 4)
  break_two = refl

  -- the inner one alone
  break_one : after 10 (program (nested (instruction Break 1 0 0))) (goes (start (program (nested (instruction Break 1 0 0))))) ≡ ends (keeps (nested (instruction Break 1 0 0)) 5 10)
  break_one = refl

  break_three : after 3 (program (nested (instruction Break 3 0 0))) (goes (start (program (nested (instruction Break 3 0 0))))) ≡ traps
  break_three = refl

  -- ---- what may still be charged

  -- the same program in the other version, whose inner loop counts for each pair of parts of which one may be below the other
  abbrev in_version : ℕ → Code
  in_version version = record (program (nested (instruction Keep 0 0 0))) { version = version }

  -- what a state has been charged, and what it may still be charged
  abbrev in_all : Code → Turn → ℕ
  in_all code (goes state) = potential code mail state + state.charge
  in_all code (ends state) = state.charge
  in_all code traps = 0

  by_powers : limit_of (in_version 1) mail ≡ 2 + 2 * 3 + 2 * 9
  by_powers = refl

  by_chains : limit_of (in_version 2) mail ≡ 2 + 2 * 3 + 2 * 3
  by_chains = refl

  -- at the first part, inside of both loops, at its Next, at the last part, and at the end
  at_start : in_all (in_version 2) (after 0 (in_version 2) (goes (start (in_version 2)))) ≡ 14
  at_start = refl

  inside_both : in_all (in_version 2) (after 3 (in_version 2) (goes (start (in_version 2)))) ≡ 14
  inside_both = refl

  went_on : in_all (in_version 2) (after 8 (in_version 2) (goes (start (in_version 2)))) ≡ 14
  went_on = refl

  at_the_last : in_all (in_version 2) (after 12 (in_version 2) (goes (start (in_version 2)))) ≡ 14
  at_the_last = refl

  at_the_end : in_all (in_version 2) (after 14 (in_version 2) (goes (start (in_version 2)))) ≡ 14
  at_the_end = refl

  -- with powers both loops may run over all parts once more
  powers_inside : in_all (in_version 1) (after 3 (in_version 1) (goes (start (in_version 1)))) ≡ 24
  powers_inside = refl

  -- ---- operations on the current part, which is the first below the root

  abbrev frame : Frame
  frame = record { each = 0; next = 2; part = 1; rest = 2 ∷ [] }

  abbrev in_loop : List Value → State
  in_loop stack = record (start (program one_loop)) { place = 1; frames = frame ∷ []; stack = stack }

  abbrev code : Code
  code = program one_loop

  -- its content has three octets: not over three, and not under three
  not_over : effect (referred_in code) mail (Test PartSize) (instruction (Test PartSize) 0 0 0) (in_loop []) ≡ on (in_loop (truth false ∷ []))
  not_over = refl

  no_part : effect (referred_in code) mail (Test PartSize) (instruction (Test PartSize) 0 0 0) (start code) ≡ fails
  no_part = refl

  body_is : effect (referred_in code) mail (Test PartBody) (instruction (Test PartBody) 0 0 1) (in_loop (text (codes "ONE") ∷ [])) ≡ on (in_loop (truth true ∷ []))
  body_is = refl

  body_charge : charge_of (referred_in code) mail (Test PartBody) (instruction (Test PartBody) 0 0 1) (in_loop (text (codes "ON") ∷ [])) ≡ 1 + 4 * 3
  body_charge = refl

  -- 64 octets and one more
  digest_charge : charge_of (referred_in code) mail (Test PartDigest) (instruction (Test PartDigest) 0 0 1) (in_loop (text (codes "ab") ∷ [])) ≡ 1 + 65 * 3
  digest_charge = ap (λ n. 1 + (0 + n)) (digest_cost-is (part 1 (codes "one") (codes "one")) (codes "ab" ∷ []))

  -- the part's number is stored, and the implicit keep stays
  stored : effect (referred_in code) mail Store (instruction Store 0 0 0) (in_loop (text (codes "box") ∷ [])) ≡ on (record (in_loop []) { actions = action.Store (codes "box") 1 ∷ [] })
  stored = refl

  -- ---- the first octets of the current part's content

  abbrev with_variable : List (List ℕ) → State
  with_variable variables = record (in_loop []) { variables = variables }

  takes_two : effect (referred_in code) mail Take (instruction Take 0 2 0) (with_variable (codes "old" ∷ [])) ≡ on (with_variable (codes "on" ∷ []))
  takes_two = refl

  takes_all : effect (referred_in code) mail Take (instruction Take 0 9 0) (with_variable (codes "old" ∷ [])) ≡ on (with_variable (codes "one" ∷ []))
  takes_all = refl

  two_charge : charge_of (referred_in code) mail Take (instruction Take 0 2 0) (with_variable (codes "old" ∷ [])) ≡ 3
  two_charge = refl

  all_charge : charge_of (referred_in code) mail Take (instruction Take 0 9 0) (with_variable (codes "old" ∷ [])) ≡ 4
  all_charge = refl

  no_variable : effect (referred_in code) mail Take (instruction Take 0 2 1) (with_variable (codes "old" ∷ [])) ≡ fails
  no_variable = refl

  outside_loops : effect (referred_in code) mail Take (instruction Take 0 2 0) (record (with_variable (codes "old" ∷ [])) { frames = [] }) ≡ fails
  outside_loops = refl

  -- it is filed after the loop
  abbrev taking : Code
  taking =
      record {
        version = 2;
        variables = 1;
        numbers = [];
        strings = [];
        instructions = instruction Each 0 0 2 ∷ instruction Take 0 3 0 ∷ instruction Next 0 0 0 ∷ instruction Variable 0 0 0 ∷ instruction File 0 0 0 ∷ instruction Halt 0 0 0 ∷ [];
      }

  abbrev six_octets : Mail
  six_octets = record { octets = codes "_abcdef"; parts = part 0 (codes "root") (codes "abcdef") ∷ [] }

  taken_and_filed : steps_of 6 taking six_octets (goes (start taking))
      ≡ ends (record (start taking) { place = 5; variables = codes "abc" ∷ []; actions = action.File (codes "abc") ∷ []; implicit_keep = false; charge = 12 })
  taken_and_filed = refl

  budget_of_taking : limit_of taking six_octets ≡ 4105
  budget_of_taking = refl

  -- the root; the current part; that with those below it
  root_alone : effect (referred_in code) mail (Test Header) (instruction (Test Header) 0 1 1) (in_loop (text (codes "root") ∷ text (codes "Subject") ∷ [])) ≡ on (in_loop (truth true ∷ []))
  root_alone = refl

  current_alone : effect (referred_in code) mail (Test Header) (instruction (Test Header) 8 1 1) (in_loop (text (codes "below") ∷ text (codes "Subject") ∷ [])) ≡ on (in_loop (truth false ∷ []))
  current_alone = refl

  current_and_below : effect (referred_in code) mail (Test Header) (instruction (Test Header) 16 1 1) (in_loop (text (codes "below") ∷ text (codes "Subject") ∷ [])) ≡ on (in_loop (truth true ∷ []))
  current_and_below = refl

  -- two fields and one more, of a name of 7 octets and one more; values of 3 and 5 octets, each with one more, of a key of 1 and one more
  scope_charge : charge_of (referred_in code) mail (Test Header) (instruction (Test Header) 16 1 1) (in_loop (text (codes "x") ∷ text (codes "Subject") ∷ [])) ≡ 1 + 3 * 8 + (4 * 2 + 6 * 2)
  scope_charge = refl

  exists_charge : charge_of (referred_in code) mail (Test Exists) (instruction (Test Exists) 1 1 0) (in_loop (text (codes "Subject") ∷ [])) ≡ 1 + 2 * 8
  exists_charge = refl

  -- ---- brackets

  -- the Each of another place
  other_each : effect (referred_in code) mail Next (instruction Next 0 0 1) (record (in_loop []) { place = 2 }) ≡ fails
  other_each = refl

  last_part : effect (referred_in code) mail Next (instruction Next 0 0 0) (record (in_loop []) { place = 2; frames = record frame { part = 2; rest = [] } ∷ [] }) ≡ on (record (in_loop []) { place = 2; frames = [] })
  last_part = refl

  next_part : effect (referred_in code) mail Next (instruction Next 0 0 0) (record (in_loop []) { place = 2 }) ≡ jumps 1 (record (in_loop []) { place = 2; frames = record frame { part = 2; rest = [] } ∷ [] })
  next_part = refl

  -- three loops are open
  no_fourth : effect (referred_in code) mail Each (instruction Each 0 0 2) (record (start code) { frames = frame ∷ frame ∷ frame ∷ [] }) ≡ fails
  no_fourth = refl
