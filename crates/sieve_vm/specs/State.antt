-- The state of the machine.
use Rattle.std.specs.Prelude.{ℕ, Bool, true, List, [], ◌∷◌, Option, None, Some, replicate}
use Rattle.bytecode_format.specs.declared.action.Action.{Action}
use Rattle.bytecode_format.specs.Code.{Code}
use Rattle.mail_matching.specs.FirstMatch.{no_captures}

-- an entry of the stack
pub data Value : Type 0 where
  truth : Bool → Value
  text : List ℕ → Value

-- an open loop: the places of its Each and Next, the current part, and the parts not yet visited
pub record Frame : Type 0 where
  pub each : ℕ
  pub next : ℕ
  pub part : ℕ
  pub rest : List ℕ

-- the state before an instruction: the top of the stack and the innermost loop come first
pub record State : Type 0 where
  pub place : ℕ
  pub stack : List Value
  pub frames : List Frame
  pub variables : List (List ℕ)
  pub captures : List (List ℕ)
  pub actions : List Action
  pub implicit_keep : Bool
  pub charge : ℕ

-- the current part, that of the innermost open loop
abbrev pub current_part : List Frame → Option ℕ
current_part [] = None
current_part (frame ∷ frames) = Some frame.part

-- what a step comes to: the next state, the end of the run, or a trap
pub data Turn : Type 0 where
  goes : State → Turn
  ends : State → Turn
  traps : Turn

-- before the first instruction: variables and captures are empty, the implicit keep stands, the
-- stack is empty, no loop is open
abbrev pub start : Code → State
start code = record { place = 0; stack = []; frames = []; variables = replicate code.variables []; captures = no_captures; actions = []; implicit_keep = true; charge = 0 }

-- what an instruction may refer to in its program: its strings and its numbers, whether the same loops are open at two places, and
-- whether two places have an Each and a Next that name each other; of the version nothing
pub record Referred : Type 0 where
  pub strings : List (List ℕ)
  pub numbers : List ℕ
  pub same_loops : ℕ → ℕ → Bool
  pub are_partners : ℕ → ℕ → Bool
