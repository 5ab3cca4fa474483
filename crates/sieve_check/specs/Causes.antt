-- What is wrong with a command or test, what in it is at fault, and which fault that is.
use Rattle.std.specs.Prelude.{ℕ, List, []}
use Rattle.sieve_check.specs.declared.causes.ReasonKind.{ReasonKind}
use Rattle.sieve_check.specs.declared.causes.ReasonKind.TheVariants.{UnknownCommand, UnknownTest, MissingCapability, UnknownCapability, UnknownTag, ForeignTag, RepeatedTag, TwoModifiers, TagArgument, MissingOrder, MissingMime, LateTag, MissingArgument, ExtraArgument, WrongArgument, WrongTests, WrongEnding, Namespace, CaptureIndex, VariableName, NoSuchLoop, Misplaced, LongString, ManyStrings, ManySegments, LongName, ManyLoops, ManyVariables}
use Rattle.sieve_check.specs.declared.error.CheckError.{CheckError}
use Rattle.sieve_check.specs.declared.error.CheckError.TheVariants as refused
use Rattle.sieve_check.specs.declared.error.Fault.{Fault}
use Rattle.sieve_check.specs.declared.error.Fault.TheVariants as fault

-- the subject is a tag without its colon, a string, a name, or nothing
pub record Cause : Type 0 where
  pub kind : ReasonKind
  pub subject : List ℕ

abbrev pub about : ReasonKind → List ℕ → Cause
about kind subject = record { kind = kind; subject = subject }

abbrev pub plain : ReasonKind → Cause
plain kind = about kind []

-- why a command or test is refused, with its name as it is written
pub record Reason : Type 0 where
  pub kind : ReasonKind
  pub name : List ℕ
  pub subject : List ℕ

-- the command or test that is refused, by the number of its identifier's token, and why
pub record Refused : Type 0 where
  pub token : ℕ
  pub reason : Reason

abbrev pub refused_for : ℕ → List ℕ → Cause → Refused
refused_for token name cause = record { token = token; reason = record { kind = cause.kind; name = name; subject = cause.subject } }

-- the fault that each kind of reason is
abbrev pub fault_of_kind : ReasonKind → Fault
fault_of_kind UnknownCommand = fault.UnknownCommand
fault_of_kind UnknownTest = fault.UnknownCommand
fault_of_kind (MissingCapability capability) = fault.MissingCapability
fault_of_kind UnknownCapability = fault.UnknownCapability
fault_of_kind UnknownTag = fault.BadArguments
fault_of_kind ForeignTag = fault.BadArguments
fault_of_kind RepeatedTag = fault.BadArguments
fault_of_kind TwoModifiers = fault.BadArguments
fault_of_kind (TagArgument tag) = fault.BadArguments
fault_of_kind MissingOrder = fault.BadArguments
fault_of_kind MissingMime = fault.BadArguments
fault_of_kind LateTag = fault.BadArguments
fault_of_kind (MissingArgument positional) = fault.BadArguments
fault_of_kind (ExtraArgument positional) = fault.BadArguments
fault_of_kind (WrongArgument positional) = fault.BadArguments
fault_of_kind (WrongTests tests) = fault.BadArguments
fault_of_kind (WrongEnding ending) = fault.BadArguments
fault_of_kind Namespace = fault.BadArguments
fault_of_kind CaptureIndex = fault.BadArguments
fault_of_kind VariableName = fault.BadArguments
fault_of_kind NoSuchLoop = fault.BadArguments
fault_of_kind Misplaced = fault.BadArguments
fault_of_kind LongString = fault.Limit
fault_of_kind ManyStrings = fault.Limit
fault_of_kind ManySegments = fault.Limit
fault_of_kind LongName = fault.Limit
fault_of_kind ManyLoops = fault.Limit
fault_of_kind ManyVariables = fault.Limit

-- a fault as the refusal that names it, with the place of the command or test
abbrev pub refusal : ℕ → Fault → CheckError
refusal place fault.UnknownCommand = refused.UnknownCommand place
refusal place fault.MissingCapability = refused.MissingCapability place
refusal place fault.UnknownCapability = refused.UnknownCapability place
refusal place fault.BadArguments = refused.BadArguments place
refusal place fault.Limit = refused.Limit place

-- the refusal for a reason
abbrev pub refusal_for : Refused → CheckError
refusal_for why = refusal why.token (fault_of_kind why.reason.kind)
