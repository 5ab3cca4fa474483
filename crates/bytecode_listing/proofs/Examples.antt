-- Listings, by computation.
use Rattle.std.proofs.Common.{◌≡◌, ℕ, [], ◌∷◌, Ok, Err, codes, refl}
use Rattle.std.specs.Fmt.{digits}
use Rattle.bytecode_format.specs.Code.{Code}
use Rattle.bytecode_format.specs.declared.instruction.Instruction.{Instruction}
use Rattle.bytecode_listing.specs.declared.drafts.Target.{Target}
use Rattle.bytecode_listing.specs.declared.drafts.Target.TheVariants.{Number, Name, Quoted}
use Rattle.bytecode_listing.specs.declared.drafts.Line.{Line}
use Rattle.bytecode_listing.specs.declared.drafts.Line.TheVariants.{Label, Step}
use Rattle.bytecode_listing.specs.Labels.{resolved}
use Rattle.bytecode_verifier.specs.declared.error.Refusal.TheVariants.{Jump as JumpRefused}
use Rattle.bytecode_listing.specs.Listing.{listing_of, operation_text, fields_text, instruction_text, comment, meant, share_text, accepted_listing, refused_listing}
use Rattle.readable_text.specs.Quoted.{quoted}

-- a quote, a backslash and what isn't printed are told by their digits
quotes : quoted (97 ∷ 0 ∷ 97 ∷ 34 ∷ 98 ∷ 92 ∷ 126 ∷ 127 ∷ 255 ∷ []) ≡ codes "\"a\\00a\\22b\\5c~\\7f\\ff\""
quotes = refl

nothing_quoted : quoted [] ≡ codes "\"\""
nothing_quoted = refl

blank_stays : quoted (codes "Rock n") ≡ codes "\"Rock n\""
blank_stays = refl

first_operation : operation_text 0x01 ≡ codes "HALT"
first_operation = refl

last_operation : operation_text 0x1A ≡ codes "TAKE"
last_operation = refl

no_operation : (operation_text 0x00 ≡ codes "OP 00") × (operation_text 0xFF ≡ codes "OP ff")
no_operation = (refl, refl)

-- fields in their order, without those that are 0
no_field : fields_text (record { op = 0; a = 0; b = 0; c = 0 }) ≡ []
no_field = refl

outer_fields : fields_text (record { op = 0; a = 1; b = 0; c = 300 }) ≡ codes " a 1 c 300"
unfolding digits
outer_fields = refl

all_fields : fields_text (record { op = 0; a = 255; b = 65535; c = 4294967295 }) ≡ codes " a 255 b 65535 c 4294967295"
unfolding digits
all_fields = refl

header : instruction_text 7 (record { op = 0x0C; a = 0; b = 1; c = 2 }) ≡ codes "7 HEADER b 1 c 2"
unfolding digits
header = refl

-- places count from 0
small : listing_of (record { version = 2; variables = 1; numbers = 1048576 ∷ []; strings = codes "Subject" ∷ []; instructions = (record { op = 0x02; a = 0; b = 0; c = 0 }) ∷ (record { op = 0x01; a = 0; b = 0; c = 0 }) ∷ [] })
    ≡ codes "version 2\nvariables 1\nnumber 1048576\nstring \"Subject\"\n0 LIT ; \"Subject\"\n1 HALT\n"
unfolding digits
small = refl

-- what comments say, and where there is none
program : Code
program = record { version = 1; variables = 1; numbers = 7 ∷ []; strings = codes "0123456789012345678901234567890123456789" ∷ codes "01234567890123456789012345678901234567890" ∷ []; instructions = (record { op = 0x01; a = 0; b = 0; c = 0 }) ∷ [] }

whole_string : comment (meant program (record { op = 0x02; a = 0; b = 0; c = 0 })) ≡ codes " ; \"0123456789012345678901234567890123456789\""
unfolding program
whole_string = refl

cut_string : comment (meant program (record { op = 0x02; a = 0; b = 0; c = 1 })) ≡ codes " ; \"0123456789012345678901234567890123456789\"..."
unfolding program
cut_string = refl

number : (comment (meant program (record { op = 0x0F; a = 0; b = 0; c = 0 })) ≡ codes " ; 7") × (comment (meant program (record { op = 0x10; a = 0; b = 0; c = 0 })) ≡ codes " ; 7")
unfolding program digits
number = (refl, refl)

jump : comment (meant program (record { op = 0x09; a = 0; b = 0; c = 0 })) ≡ codes " ; to 0"
unfolding program digits
jump = refl

outside : (comment (meant program (record { op = 0x02; a = 0; b = 0; c = 2 })) ≡ []) × (comment (meant program (record { op = 0x0F; a = 0; b = 0; c = 1 })) ≡ []) × (comment (meant program (record { op = 0x0B; a = 0; b = 0; c = 1 })) ≡ [])
unfolding program
outside = (refl, refl, refl)

nothing_meant : (comment (meant program (record { op = 0x03; a = 0; b = 0; c = 0 })) ≡ []) × (comment (meant program (record { op = 0xFF; a = 0; b = 0; c = 0 })) ≡ [])
unfolding program
nothing_meant = (refl, refl)

-- labels before and after they are used, one after the last instruction
abbrev jump_to : Target → Line
jump_to target = Step (record { op = 0x09; a = 0; b = 0; c = target })

abbrev jumps : ℕ → Instruction
jumps c = record { op = 0x09; a = 0; b = 0; c = c }

labels : resolved [] (Label (codes "start") 90 ∷ jump_to (Name (codes "end") 80) ∷ Label (codes "two") 75 ∷ jump_to (Name (codes "start") 70) ∷ jump_to (Name (codes "two") 65) ∷ Label (codes "end") 60 ∷ []) ≡ Ok ([], jumps 3 ∷ jumps 0 ∷ jumps 1 ∷ [])
labels = refl

-- the second of a label's names, also where another name is no label
double_label : resolved [] (jump_to (Name (codes "no") 90) ∷ Label (codes "x") 80 ∷ Label (codes "x") 70 ∷ Label (codes "x") 60 ∷ []) ≡ Err 70
double_label = refl

no_label : resolved [] (jump_to (Number 5) ∷ jump_to (Name (codes "a") 80) ∷ jump_to (Name (codes "b") 70) ∷ []) ≡ Err 80
no_label = refl

-- strings in lines: the first place in the table, or its end
strings_of_lines : resolved (codes "a" ∷ codes "b" ∷ codes "a" ∷ []) (jump_to (Quoted (codes "b") 90) ∷ jump_to (Quoted (codes "new") 80) ∷ jump_to (Quoted (codes "a") 70) ∷ jump_to (Quoted (codes "new") 60) ∷ [])
    ≡ Ok (codes "a" ∷ codes "b" ∷ codes "a" ∷ codes "new" ∷ [], jumps 1 ∷ jumps 3 ∷ jumps 0 ∷ jumps 3 ∷ [])
strings_of_lines = refl

-- what instructions add to the budget, and where a program is refused
share : share_text (record { loops = 1; cap = record { fixed = 16; scaled = 29 } }) ≡ codes "A1+16 B1+29"
unfolding digits
share = refl

fixed_share : share_text (record { loops = 0; cap = record { fixed = 4097; scaled = 0 } }) ≡ codes "A0+4097"
unfolding digits
fixed_share = refl

halt : Code
halt = record { version = 2; variables = 0; numbers = []; strings = []; instructions = (record { op = 0x01; a = 0; b = 0; c = 0 }) ∷ [] }

accepted : accepted_listing halt ≡ codes "version 2\nvariables 0\n0 HALT ; A0+1\n"
unfolding halt digits
accepted = refl

endless : Code
endless = record { version = 1; variables = 0; numbers = []; strings = []; instructions = (record { op = 0x09; a = 0; b = 0; c = 0 }) ∷ (record { op = 0x01; a = 0; b = 0; c = 0 }) ∷ [] }

refused : refused_listing (JumpRefused 0) endless ≡ codes "version 1\nvariables 0\n0 JMP ; to 0 ; refused 25 Jump\n1 HALT\n"
unfolding endless digits
refused = refl
