-- What differs from act to act.
use Rattle.std.specs.Prelude.{ℕ, Bool, true, false, List, [], ◌∷◌, Option, Some, None, if◌then◌else◌}
use Rattle.sieve_check.specs.declared.table.CommandName.{CommandName}
use Rattle.sieve_check.specs.declared.table.CommandName.TheVariants as called
use Rattle.sieve_check.specs.declared.typed.Act.{Act}
use Rattle.sieve_check.specs.declared.typed.Act.TheVariants.{Keep, Discard, FileInto, Set, Take, Store, Leave, Stop}
use Rattle.sieve_check.specs.Typed.{Template}

-- a number that has bounds: so many octets are taken, or so many loops are left
pub data Bound : Type 0 where
  unbounded : Bound
  some_octets : ℕ → Bound
  some_loops : ℕ → Bound

-- so many loops are left, if any are
abbrev pub left_by : Bound → Option ℕ
left_by unbounded = None
left_by (some_octets most) = None
left_by (some_loops left) = Some left

pub record ActRow : Type 0 where
  -- the command that does it
  pub name : CommandName
  -- it takes a string
  pub string : Bool
  -- the names of the variables that it sets
  pub sets : List (List ℕ)
  -- so many loops are open around it, at least
  pub loops : ℕ
  -- its number, if it has one
  pub bound : Bound

abbrev pub act_row : Act → ActRow
act_row Keep = record { name = called.Keep; string = false; sets = []; loops = 0; bound = unbounded }
act_row Discard = record { name = called.Discard; string = false; sets = []; loops = 0; bound = unbounded }
act_row FileInto = record { name = called.FileInto; string = true; sets = []; loops = 0; bound = unbounded }
act_row (Set modifiers name) = record { name = called.Set; string = true; sets = name ∷ []; loops = 0; bound = unbounded }
act_row (Take most name) = record { name = called.Take; string = false; sets = name ∷ []; loops = 1; bound = some_octets most }
act_row Store = record { name = called.Store; string = true; sets = []; loops = 1; bound = unbounded }
act_row (Leave left) = record { name = called.Break; string = false; sets = []; loops = left; bound = some_loops left }
act_row Stop = record { name = called.Stop; string = false; sets = []; loops = 0; bound = unbounded }

-- the string, where the act takes one
abbrev pub act_strings : Act → Template → List Template
act_strings act string = if (act_row act).string then string ∷ [] else []

-- how the act of an action is made: it is this one, without an argument; this one, with one string; that of `set`, of
-- `take`, or of `break`; or the command is none
pub data Acting : Type 0 where
  bare : Act → Acting
  filing : Act → Acting
  setting : Acting
  taking : Acting
  leaving : Acting
  inactive : Acting

abbrev pub acting : CommandName → Acting
acting called.Keep = bare Keep
acting called.Discard = bare Discard
acting called.FileInto = filing FileInto
acting called.Set = setting
acting called.Take = taking
acting called.Store = filing Store
acting called.Break = leaving
acting called.Stop = bare Stop
acting called.Require = inactive
acting called.If = inactive
acting called.Elsif = inactive
acting called.Else = inactive
acting called.ForEveryPart = inactive
