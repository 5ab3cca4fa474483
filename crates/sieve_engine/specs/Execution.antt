-- What executing octets as a program on octets as a message comes to.
use Rattle.std.specs.Prelude.{◌≡◌, ℕ, ◌≤◌, List, length, Some}
use Rattle.bytecode_format.specs.declared.action.Action.{Action}
use Rattle.bytecode_format.specs.Code.{Code}
use Rattle.bytecode_format.specs.Spelling.{IsProgram, spelling}
use Rattle.bytecode_cost.specs.Sums.{budget_at}
use Rattle.bytecode_verifier.specs.declared.error.Refusal.{Refusal as BrokenRule}
use Rattle.bytecode_verifier.specs.declared.error.Refusal.TheVariants as verifier
use Rattle.bytecode_verifier.specs.Acceptance.{IsAccepted, refusal_of}
use Rattle.bytecode_verifier.specs.Budget.{budget_of}
use Rattle.mime_decode.specs.Mail.{IsReadable, mail_of, size_of}
use Rattle.mime_decode.specs.Refusals.{IsMessageRefusal}
use Rattle.mime_tree.specs.declared.error.MessageError.TheVariants as mail
use Rattle.sieve_vm.specs.Ending.{IsOutcome}
use Rattle.refusals.specs.declared.refusal.Refusal.{Refusal}
use Rattle.refusals.specs.declared.refusal.Refusal.TheVariants.{Memory, MessageTooLarge, TooManyParts, Spelling, Index, Form, End, Loop, Jump, NoPart, Stack}

-- the octets spell this program
pub record Spells (octets : List ℕ) (code : Code) : Type 0 where
  pub within : IsProgram code
  pub spelt : octets ≡ spelling code

-- the octets spell this program, and it is accepted
pub record IsChecked (octets : List ℕ) (code : Code) : Type 0 where
  pub spells : Spells octets code
  pub accepted : IsAccepted code

-- the octets spell a program that the verifier refuses so
abbrev pub IsRefusedBy : List ℕ → BrokenRule → Type 0
IsRefusedBy octets refusal = (code : Code) × Spells octets code × (refusal_of code ≡ Some refusal)

-- the first refusal of octets as a program; Memory has no cause in them
abbrev pub IsProgramRefusal : List ℕ → Refusal → Type 0
IsProgramRefusal octets Memory = Unit {0}
IsProgramRefusal octets Spelling = (code : Code) → Spells octets code → ⊥
IsProgramRefusal octets (Index place) = IsRefusedBy octets (verifier.Index place)
IsProgramRefusal octets (Form place) = IsRefusedBy octets (verifier.Form place)
IsProgramRefusal octets (End place) = IsRefusedBy octets (verifier.End place)
IsProgramRefusal octets (Loop place) = IsRefusedBy octets (verifier.Loop place)
IsProgramRefusal octets (Jump place) = IsRefusedBy octets (verifier.Jump place)
IsProgramRefusal octets (NoPart place) = IsRefusedBy octets (verifier.NoPart place)
IsProgramRefusal octets (Stack place) = IsRefusedBy octets (verifier.Stack place)
IsProgramRefusal octets _ = ⊥

-- the first refusal of a program and a message, the program's first
abbrev pub IsRefusal : List ℕ → List ℕ → Refusal → Type 0
IsRefusal program message MessageTooLarge = IsMessageRefusal message mail.MessageTooLarge
    × ((code : Code) × IsChecked program code)
IsRefusal program message TooManyParts = IsMessageRefusal message mail.TooManyParts
    × ((code : Code) × IsChecked program code)
IsRefusal program message error = IsProgramRefusal program error

-- why a message isn't read
abbrev pub IsUnread : List ℕ → Refusal → Type 0
IsUnread message Memory = Unit {0}
IsUnread message MessageTooLarge = IsMessageRefusal message mail.MessageTooLarge
IsUnread message TooManyParts = IsMessageRefusal message mail.TooManyParts
IsUnread message _ = ⊥

-- the message is read, and the program's run on it comes to these actions and this charge, within this limit
pub record IsReport (code : Code) (message : List ℕ) (actions : List Action) (charged limit : ℕ) : Type 0 where
  pub read : IsReadable message
  pub outcome : IsOutcome code (mail_of message) actions charged
  pub within : charged ≤ limit
  pub budget : limit ≡ budget_at (budget_of code) (size_of (mail_of message)) (length (mail_of message).parts)

-- the octets spell an accepted program, and this is the report of its run on the message
pub record IsExecution (program message : List ℕ) (actions : List Action) (charged limit : ℕ) : Type 0 where
  pub code : Code
  pub checked : IsChecked program code
  pub report : IsReport code message actions charged limit
