-- The errors of the crates below, as refusals: each as the one of its name.
use Rattle.base64.specs.declared.decode.DecodeAllocError.{DecodeAllocError}
use Rattle.base64.specs.declared.decode.DecodeAllocError.TheVariants as base64
use Rattle.bytecode_format.specs.declared.error.FormatError.{FormatError}
use Rattle.bytecode_format.specs.declared.error.FormatError.TheVariants as format
use Rattle.bytecode_verifier.specs.declared.error.Refusal.{Refusal as BrokenRule}
use Rattle.bytecode_verifier.specs.declared.error.Refusal.TheVariants as verifier
use Rattle.hex.specs.declared.error.FromHexError.{FromHexError}
use Rattle.hex.specs.declared.error.FromHexError.TheVariants as hex
use Rattle.lanes_base32.specs.declared.error.Refusal.{Refusal as Base32Refusal}
use Rattle.lanes_base32.specs.declared.error.Refusal.TheVariants as base32
use Rattle.mime_tree.specs.declared.error.MessageError.{MessageError}
use Rattle.mime_tree.specs.declared.error.MessageError.TheVariants as message
use Rattle.sieve_check.specs.declared.error.CheckError.{CheckError}
use Rattle.sieve_check.specs.declared.error.CheckError.TheVariants as checker
use Rattle.sieve_parser.specs.declared.error.ParseError.{ParseError}
use Rattle.sieve_parser.specs.declared.error.ParseError.TheVariants as parser
use Rattle.refusals.specs.declared.refusal.Refusal.{Refusal}
use Rattle.refusals.specs.declared.refusal.Refusal.TheVariants.{Memory, MessageTooLarge, TooManyParts, NotCanonical, Lexical, ScriptTooLong, Syntax, TooDeep, UnknownCommand, MissingCapability, UnknownCapability, BadArguments, Limit, Spelling, Index, Form, End, Loop, Jump, NoPart, Stack}

-- an error of the parser
abbrev pub of_parser : ParseError → Refusal
of_parser parser.Memory = Memory
of_parser (parser.Lexical place) = Lexical place
of_parser parser.ScriptTooLong = ScriptTooLong
of_parser (parser.Syntax place) = Syntax place
of_parser (parser.TooDeep place) = TooDeep place

-- of the checker
abbrev pub of_checker : CheckError → Refusal
of_checker checker.Memory = Memory
of_checker (checker.UnknownCommand place) = UnknownCommand place
of_checker (checker.MissingCapability place) = MissingCapability place
of_checker (checker.UnknownCapability place) = UnknownCapability place
of_checker (checker.BadArguments place) = BadArguments place
of_checker (checker.Limit place) = Limit place

-- of reading a program
abbrev pub of_format : FormatError → Refusal
of_format format.Memory = Memory
of_format format.Spelling = Spelling

-- of the verifier
abbrev pub of_verifier : BrokenRule → Refusal
of_verifier verifier.Memory = Memory
of_verifier (verifier.Index place) = Index place
of_verifier (verifier.Form place) = Form place
of_verifier (verifier.End place) = End place
of_verifier (verifier.Loop place) = Loop place
of_verifier (verifier.Jump place) = Jump place
of_verifier (verifier.NoPart place) = NoPart place
of_verifier (verifier.Stack place) = Stack place

-- of reading a message
abbrev pub of_message : MessageError → Refusal
of_message message.Memory = Memory
of_message message.MessageTooLarge = MessageTooLarge
of_message message.TooManyParts = TooManyParts

-- of base32 and base32hex
abbrev pub of_base32 : Base32Refusal → Refusal
of_base32 base32.Memory = Memory
of_base32 base32.NotCanonical = NotCanonical

-- of base64
abbrev pub of_base64 : DecodeAllocError → Refusal
of_base64 base64.OutOfMemory = Memory
of_base64 (base64.DecodeError error) = NotCanonical

-- of base16
abbrev pub of_base16 : FromHexError → Refusal
of_base16 hex.OutOfMemory = Memory
of_base16 _ = NotCanonical
