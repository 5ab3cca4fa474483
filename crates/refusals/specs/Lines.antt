-- The numbers, names and lines of refusals.
use Rattle.std.specs.Prelude.{ℕ, List, [], ◌++◌, Option, None, Some, codes}
use Rattle.std.specs.Fmt.{decimal}
use Rattle.refusals.specs.declared.refusal.Refusal.{Refusal}
use Rattle.refusals.specs.declared.refusal.Refusal.TheVariants.{Memory, MessageTooLarge, TooManyParts, NotCanonical, Lexical, ScriptTooLong, Syntax, TooDeep, UnknownCommand, MissingCapability, UnknownCapability, BadArguments, Limit, Spelling, Index, Form, End, Loop, Jump, NoPart, Stack, Listing, NoSuchEntry, NumberFull, Collision, Database, UserName, Write, Read}

-- a row of the table: a refusal's number, its name, and the place that it names
pub record Row : Type 0 where
  pub number : ℕ
  pub name : List ℕ
  pub place : Option ℕ

abbrev pub plain : ℕ → List ℕ → Row
plain number name = record { number = number; name = name; place = None }

abbrev pub placed : ℕ → List ℕ → ℕ → Row
placed number name place = record { number = number; name = name; place = Some place }

-- the table of refusals
abbrev pub row_of : Refusal → Row
row_of Memory = plain 1 (codes "Memory")
row_of MessageTooLarge = plain 2 (codes "MessageTooLarge")
row_of TooManyParts = plain 3 (codes "TooManyParts")
row_of NotCanonical = plain 10 (codes "NotCanonical")
row_of (Lexical place) = placed 11 (codes "Lexical") place
row_of ScriptTooLong = plain 12 (codes "ScriptTooLong")
row_of (Syntax place) = placed 13 (codes "Syntax") place
row_of (TooDeep place) = placed 14 (codes "TooDeep") place
row_of (UnknownCommand place) = placed 15 (codes "UnknownCommand") place
row_of (MissingCapability place) = placed 16 (codes "MissingCapability") place
row_of (UnknownCapability place) = placed 17 (codes "UnknownCapability") place
row_of (BadArguments place) = placed 18 (codes "BadArguments") place
row_of (Limit place) = placed 19 (codes "Limit") place
row_of Spelling = plain 20 (codes "Spelling")
row_of (Index place) = placed 21 (codes "Index") place
row_of (Form place) = placed 22 (codes "Form") place
row_of (End place) = placed 23 (codes "End") place
row_of (Loop place) = placed 24 (codes "Loop") place
row_of (Jump place) = placed 25 (codes "Jump") place
row_of (NoPart place) = placed 26 (codes "NoPart") place
row_of (Stack place) = placed 27 (codes "Stack") place
row_of (Listing place) = placed 28 (codes "Listing") place
row_of NoSuchEntry = plain 40 (codes "NoSuchEntry")
row_of NumberFull = plain 41 (codes "NumberFull")
row_of Collision = plain 42 (codes "Collision")
row_of Database = plain 43 (codes "Database")
row_of UserName = plain 44 (codes "UserName")
row_of Write = plain 45 (codes "Write")
row_of Read = plain 46 (codes "Read")

abbrev pub number_of : Refusal → ℕ
number_of refusal = (row_of refusal).number

abbrev pub name_of : Refusal → List ℕ
name_of refusal = (row_of refusal).name

abbrev pub place_of : Refusal → Option ℕ
place_of refusal = (row_of refusal).place

-- the place, where there is one
abbrev pub place_text : Option ℕ → List ℕ
place_text None = []
place_text (Some place) = codes " at " ++ decimal place

-- the line of a refusal, without its end
abbrev pub refusal_text : Refusal → List ℕ
refusal_text refusal = codes "refused " ++ decimal (number_of refusal) ++ codes " " ++ name_of refusal
    ++ place_text (place_of refusal)
