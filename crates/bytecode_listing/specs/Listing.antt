-- The listing of a program.
use Rattle.std.specs.Prelude.{ℕ, suc, ◌^◌, ◌<◌, ◌==◌, nat_lt, List, [], ◌∷◌, ◌++◌, length, All, Option, Some, None, slice_get, option_map, option_and_then, if◌then◌else◌, codes}
use Rattle.std.specs.List.{flat_map}
use Rattle.std.specs.Fmt.{decimal}
use Rattle.bytecode_format.specs.Code.{Code}
use Rattle.bytecode_format.specs.Operations.{name_of, operation_of}
use Rattle.bytecode_format.specs.declared.instruction.Instruction.{Instruction}
use Rattle.bytecode_format.specs.declared.operation.Operation.{Operation}
use Rattle.bytecode_verifier.specs.Rows.{row_of}
use Rattle.bytecode_verifier.specs.declared.row.Range.{Range}
use Rattle.bytecode_verifier.specs.declared.row.Table as index
use Rattle.bytecode_verifier.specs.declared.row.Table.TheVariants as indices
use Rattle.bytecode_verifier.specs.Budget.{share_at}
use Rattle.bytecode_verifier.specs.declared.error.Refusal.{Refusal as BrokenRule}
use Rattle.refusals.specs.Causes.{of_verifier}
use Rattle.refusals.specs.Lines.{name_of as refusal_name, number_of, place_of}
use Rattle.refusals.specs.declared.refusal.Refusal.{Refusal}
use Rattle.bytecode_verifier.specs.declared.share.Share.{Share}
use Rattle.readable_text.specs.Quoted.{cut, quoted, two_digits}
use Rattle.bytecode_listing.specs.Wording.{a_words, after_a, said_a}
use Rattle.bytecode_listing.specs.declared.comments.Table.{Table}
use Rattle.bytecode_listing.specs.declared.comments.Table.TheVariants.{Strings, Numbers, Instructions}

-- a line: its text and LF
abbrev pub line : List ℕ → List ℕ
line text = text ++ 10 ∷ []

-- an operation: its name, or OP and the octet that names none
abbrev pub title : ℕ → Option Operation → List ℕ
title octet None = codes "OP " ++ two_digits octet
title octet (Some operation) = name_of operation

abbrev pub operation_text : ℕ → List ℕ
operation_text octet = title octet (operation_of octet)

-- a field: a space, its name, a space and its number; nothing where it is 0
abbrev pub field_text : List ℕ → ℕ → List ℕ
field_text name n = if n == 0 then [] else codes " " ++ name ++ codes " " ++ decimal n

-- the fields of an instruction
abbrev pub fields_text : Instruction → List ℕ
fields_text i =
    field_text (codes "a") i.a ++ field_text (codes "b") i.b ++ field_text (codes "c") i.c

-- an instruction at its place
abbrev pub instruction_text : ℕ → Instruction → List ℕ
instruction_text place i =
    decimal place ++ codes " " ++ operation_text i.op ++ fields_text i

-- ---- comments

-- how the entries of a program's table are told; a variable has nothing to tell
abbrev pub told_by : index.Table → Option Table
told_by indices.Variables = None
told_by indices.Numbers = Some Numbers
told_by indices.Strings = Some Strings

-- the table that c of an operation is a place in, where its entries are told
abbrev pub table_of : Operation → Option Table
table_of operation =
    if (row_of operation).jumps then Some Instructions else option_and_then told_by (row_of operation).index

-- the most octets of a string that a comment has
abbrev pub max_shown : ℕ
max_shown = 40

-- a string in a comment: between quotes; of a longer one the first octets, and dots
abbrev pub shown : List ℕ → List ℕ
shown text = cut max_shown (codes "...") text

-- what a place in a table refers to: the string, the number in decimal digits, or the place of the
-- instruction; None outside of the table
abbrev pub entry_text : Code → ℕ → Table → Option (List ℕ)
entry_text code place Strings = option_map shown (slice_get code.strings place)
entry_text code place Numbers = option_map decimal (slice_get code.numbers place)
entry_text code place Instructions =
    if nat_lt place (length code.instructions) then Some (codes "to " ++ decimal place) else None

-- what the fields of an instruction say in words
abbrev pub in_words : Range → Instruction → Option (List ℕ)
in_words range i = option_map (λ words. said_a words ++ after_a range i.c) (a_words range i.a)

-- what an operation's fields refer to, or say in words
abbrev pub told : Code → Instruction → Operation → Option Table → Option (List ℕ)
told code i operation (Some table) = entry_text code i.c table
told code i operation None = in_words (row_of operation).a i

-- what an instruction refers to, or says in words
abbrev pub meant : Code → Instruction → Option (List ℕ)
meant code i = option_and_then (λ o. told code i o (table_of o)) (operation_of i.op)

-- a comment, where there is something to say
abbrev pub comment : Option (List ℕ) → List ℕ
comment None = []
comment (Some text) = codes " ; " ++ text

-- ---- notes

-- what a listing says of the instruction at a place beside that, where it says something
abbrev pub Notes : Type 0
Notes = ℕ → Option (List ℕ)

abbrev pub no_notes : Notes
no_notes place = None

-- what is added to a sum of the budget: the sum's letter, its number of open loops, and the number
-- after a plus sign
abbrev pub added : List ℕ → ℕ → ℕ → List ℕ
added letter loops number = letter ++ decimal loops ++ codes "+" ++ decimal number

-- what is added for each octet of the message and one more; nothing where it is 0
abbrev pub scaled_text : ℕ → ℕ → List ℕ
scaled_text loops number = if number == 0 then [] else codes " " ++ added (codes "B") loops number

-- what an instruction adds to the budget
abbrev pub share_text : Share → List ℕ
share_text share = added (codes "A") share.loops share.cap.fixed ++ scaled_text share.loops share.cap.scaled

-- each instruction's share
abbrev pub share_notes : Code → Notes
share_notes code place = Some (share_text (share_at code place))

-- the number and the name of a refusal
abbrev pub kind_text : Refusal → List ℕ
kind_text refusal = codes "refused " ++ decimal (number_of refusal) ++ codes " " ++ refusal_name refusal

-- where a program is refused, and for what; nowhere where memory was refused
abbrev pub refused_at : BrokenRule → Option (ℕ × List ℕ)
refused_at rule = option_map (λ place. (place, kind_text (of_verifier rule))) (place_of (of_verifier rule))

-- the refusal, at its place
abbrev pub refusal_notes : BrokenRule → Notes
refusal_notes rule place =
    option_and_then (λ at. if at.0 == place then Some at.1 else None) (refused_at rule)

-- ---- lines

-- the line of an instruction: what it refers to, and a note, are told in comments
abbrev pub instruction_line : Code → ℕ → Instruction → Option (List ℕ) → List ℕ
instruction_line code place i note =
    line (instruction_text place i ++ comment (meant code i) ++ comment note)

-- some instructions of a program, a line each, of which the first has this place
abbrev pub instruction_lines : Notes → Code → ℕ → List Instruction → List ℕ
instruction_lines notes code place [] = []
instruction_lines notes code place (i ∷ others) =
    instruction_line code place i (notes place) ++ instruction_lines notes code (suc place) others

abbrev pub number_line : ℕ → List ℕ
number_line n = line (codes "number " ++ decimal n)

abbrev pub string_line : List ℕ → List ℕ
string_line text = line (codes "string " ++ quoted text)

-- a listing of a program: its version, its number of variables, its numbers, its strings and its
-- instructions with notes
abbrev pub listing_with : Notes → Code → List ℕ
listing_with notes code =
    line (codes "version " ++ decimal code.version)
    ++ line (codes "variables " ++ decimal code.variables)
    ++ flat_map number_line code.numbers
    ++ flat_map string_line code.strings
    ++ instruction_lines notes code 0 code.instructions

-- the listing of a program, without notes
abbrev pub listing_of : Code → List ℕ
listing_of code = listing_with no_notes code

-- that of an accepted program, with what each instruction adds to the budget
abbrev pub accepted_listing : Code → List ℕ
accepted_listing code = listing_with (share_notes code) code

-- that of a refused program, with the refusal at its place
abbrev pub refused_listing : BrokenRule → Code → List ℕ
refused_listing rule code = listing_with (refusal_notes rule) code

-- each is an octet
abbrev pub AreOctets : List ℕ → Type 0
AreOctets text = All (λ octet. octet < 2 ^ 8) text
