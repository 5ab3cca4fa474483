-- The trace of a script or a program on a message.
use Rattle.std.specs.Prelude.{◌≡◌, ◌++◌, ℕ, Bool, true, false, List, take, bytes_eq, codes}
use Rattle.bytecode_format.specs.declared.action.Action.{Action}
use Rattle.bytecode_format.specs.Code.{Code}
use Rattle.bytecode_trace.specs.Printed as program
use Rattle.mime_decode.specs.Mail.{mail_of}
use Rattle.refusals.specs.declared.refusal.Refusal.{Refusal}
use Rattle.sieve_check.specs.Typed.{CommandForms}
use Rattle.sieve_engine.specs.Evaluation.{IsEvaluation, IsEvaluationRefusal, IsScript}
use Rattle.sieve_engine.specs.Execution.{IsChecked, IsExecution, IsRefusal}
use Rattle.sieve_lexer.specs.Tokens.{AreTokens}
use Rattle.sieve_lexer.specs.declared.token.Token.{Token}
use Rattle.sieve_trace.specs.Places.{places_of}
use Rattle.sieve_trace.specs.Printed.{sheet}
use Rattle.sieve_trace.specs.Written.{trace_text}
use Rattle.printing.specs.Printed.{report_text}

-- whether octets are taken for a program: they begin as every program does
abbrev pub is_program : List ℕ → Bool
is_program octets = bytes_eq (take 4 octets) (codes "SVBC")

-- The text is the trace of the script on the message, by the name of the script's file: the lines of the events that its
-- meaning has, and then the report of its run.
pub record IsTracedScript (name script message text : List ℕ) : Type 0 where
  pub form : CommandForms
  pub checked : IsScript script form
  pub tokens : List Token
  pub are : AreTokens script tokens
  pub actions : List Action
  pub charged : ℕ
  pub limit : ℕ
  pub evaluated : IsEvaluation script message actions charged limit
  pub is : text ≡ trace_text (sheet name (places_of script tokens) (mail_of message)) form ++ report_text actions charged limit

-- The text is the trace of the program on the message: the lines of the steps of its run, and then the report of that.
pub record IsTracedProgram (octets message text : List ℕ) : Type 0 where
  pub code : Code
  pub checked : IsChecked octets code
  pub actions : List Action
  pub charged : ℕ
  pub limit : ℕ
  pub executed : IsExecution octets message actions charged limit
  pub is : text ≡ program.trace_text code (mail_of message) ++ report_text actions charged limit

abbrev pub IsTracedAs : Bool → List ℕ → List ℕ → List ℕ → List ℕ → Type 0
IsTracedAs true name octets message text = IsTracedProgram octets message text
IsTracedAs false name octets message text = IsTracedScript name octets message text

-- the text is the trace of the octets, as a program where they are one, else as a script
abbrev pub IsTraced : List ℕ → List ℕ → List ℕ → List ℕ → Type 0
IsTraced name octets message text = IsTracedAs (is_program octets) name octets message text

abbrev pub IsTraceRefusalAs : Bool → List ℕ → List ℕ → Refusal → Type 0
IsTraceRefusalAs true octets message refusal = IsRefusal octets message refusal
IsTraceRefusalAs false octets message refusal = IsEvaluationRefusal octets message refusal

-- the first refusal of the octets, as a program where they are one, else as a script, and of a message
abbrev pub IsTraceRefusal : List ℕ → List ℕ → Refusal → Type 0
IsTraceRefusal octets message refusal = IsTraceRefusalAs (is_program octets) octets message refusal
