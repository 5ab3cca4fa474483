-- What evaluating octets as a script on octets as a message comes to.
use Rattle.std.specs.Prelude.{◌≡◌, ℕ, List, None}
use Rattle.bytecode_format.specs.declared.action.Action.{Action}
use Rattle.bytecode_format.specs.Code.{Code}
use Rattle.bytecode_verifier.specs.Acceptance.{IsAccepted}
use Rattle.mime_decode.specs.Mail.{Mail, IsMail, mail_of}
use Rattle.mime_decode.specs.Refusals.{IsMessageRefusal}
use Rattle.mime_tree.specs.declared.error.MessageError.TheVariants as mail
use Rattle.sieve_parser.specs.Scripts.{IsParsed}
use Rattle.sieve_parser.specs.Tree.{CommandsTree}
use Rattle.sieve_check.specs.FormOf.{IsFormOf}
use Rattle.sieve_check.specs.Rules.{fault_of}
use Rattle.sieve_check.specs.Typed.{CommandForms}
use Rattle.sieve_meaning.specs.Meaning.{meaning}
use Rattle.sieve_vm.specs.Ending.{IsOutcome}
use Rattle.sieve_compiler.specs.Coding.{code_of}
use Rattle.refusals.specs.declared.refusal.Refusal.{Refusal}
use Rattle.refusals.specs.declared.refusal.Refusal.TheVariants.{MessageTooLarge, TooManyParts}
use Rattle.refusals.specs.Scripts.{IsScriptRefusal}
use Rattle.sieve_engine.specs.Execution.{IsReport}

-- the octets are a script without faults, of this typed form
pub record IsScript (octets : List ℕ) (form : CommandForms) : Type 0 where
  pub tree : CommandsTree
  pub parsed : IsParsed octets tree
  pub faultless : fault_of tree ≡ None
  pub typed : IsFormOf tree form

-- the first refusal of a script and a message, the script's first
abbrev pub IsEvaluationRefusal : List ℕ → List ℕ → Refusal → Type 0
IsEvaluationRefusal script message MessageTooLarge = IsMessageRefusal message mail.MessageTooLarge
    × ((form : CommandForms) × IsScript script form)
IsEvaluationRefusal script message TooManyParts = IsMessageRefusal message mail.TooManyParts
    × ((form : CommandForms) × IsScript script form)
IsEvaluationRefusal script message error = IsScriptRefusal script error

-- the program is the script's code, is accepted, and on every message its run ends with the final
-- actions of the script's meaning
pub record IsCompiled (script : List ℕ) (code : Code) : Type 0 where
  pub form : CommandForms
  pub checked : IsScript script form
  pub is : code ≡ code_of form
  pub accepted : IsAccepted code
  pub means : (mail : Mail) → IsMail mail → (charged : ℕ) × IsOutcome code mail (meaning mail form) charged

-- the actions are the final actions of the script's meaning on the message, and this is the report
-- of the run of its code
pub record IsEvaluation (script message : List ℕ) (actions : List Action) (charged limit : ℕ) : Type 0 where
  pub form : CommandForms
  pub checked : IsScript script form
  pub meant : actions ≡ meaning (mail_of message) form
  pub accepted : IsAccepted (code_of form)
  pub report : IsReport (code_of form) message actions charged limit
