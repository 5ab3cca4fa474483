-- What the store holds, and the steps of its calls.
use Rattle.std.specs.Prelude.{◌≡◌, ℕ, ◌+◌, ◌==◌, nat_lt, ◌&&◌, Bool, not, List, [], ◌∷◌, ◌++◌, filter, length, Option, Some, None, option_map, if◌then◌else◌, bytes_eq}
use Rattle.std.specs.List.{AllByRecursion}
use Rattle.std.specs.Ordering.{nat_cmp}
use Rattle.std.specs.Cmp.Lexicographic.{slice_cmp}
use Rattle.std.specs.declared.cmp.Ordering.TheVariants.{Less}
use Rattle.sqlite_trees.specs.Tree.{IsAscending}
use Rattle.sqlite_rules.specs.Lists.{Has}
use Rattle.part_store.specs.declared.entry.Kind.{Kind}

pub record Entry : Type 0 where
  pub user : List ℕ
  pub number : ℕ
  pub folder : List ℕ
  pub kind : Kind
  pub name : List ℕ
  pub media : List ℕ
  pub octets : List ℕ

-- the entries in the order in which they were made, and of each user the program, if he has one,
-- and the last number that was given, 0 at first
pub record Entries : Type 0 where
  pub entries : List Entry
  pub programs : List ℕ → Option (List ℕ)
  pub lasts : List ℕ → ℕ

abbrev pub no_entries : Entries
no_entries = record { entries = []; programs = λ _. None; lasts = λ _. 0 }

-- the user has another program
abbrev pub with_program : List ℕ → List ℕ → Entries → Entries
with_program user program e = record e { programs = λ name. if bytes_eq name user then Some program else e.programs name }

-- a user and a program
abbrev pub UserProgram : Type 0
UserProgram = List ℕ × List ℕ

-- the program that a list names for the user, the last one where it names several, or else this one
abbrev pub program_named : List UserProgram → List ℕ → List ℕ → List ℕ
program_named [] user program = program
program_named (pair ∷ pairs) user program = program_named pairs user (if bytes_eq user pair.0 then pair.1 else program)

-- the users that have a program have the one that the list names for them; nobody else gets one
abbrev pub with_programs : List UserProgram → Entries → Entries
with_programs pairs e = record e { programs = λ user. option_map (program_named pairs user) (e.programs user) }

-- the first name comes before the second, octet by octet
abbrev pub IsBefore : UserProgram → UserProgram → Type 0
IsBefore one other = slice_cmp nat_cmp one.0 other.0 ≡ Less

-- the users that have a program, each once and in the order of their names, with their programs
pub record AreProgramsOf (e : Entries) (pairs : List UserProgram) : Type 0 where
  pub each : AllByRecursion (λ pair. e.programs pair.0 ≡ Some pair.1) pairs
  pub all : (user program : List ℕ) → e.programs user ≡ Some program → Has pairs (user, program)
  pub rising : IsAscending IsBefore pairs

-- an entry that has no number yet
pub record Draft : Type 0 where
  pub folder : List ℕ
  pub kind : Kind
  pub name : List ℕ
  pub media : List ℕ
  pub octets : List ℕ

abbrev pub entry_of : List ℕ → ℕ → Draft → Entry
entry_of user number d = record { user = user; number = number; folder = d.folder; kind = d.kind; name = d.name; media = d.media; octets = d.octets }

-- the drafts as entries of the user, numbered from a number on
abbrev pub numbered : List ℕ → ℕ → List Draft → List Entry
numbered user number [] = []
numbered user number (d ∷ ds) = entry_of user number d ∷ numbered user (number + 1) ds

abbrev pub with_last : List ℕ → ℕ → Entries → Entries
with_last user last e = record e { lasts = λ name. if bytes_eq name user then last else e.lasts name }

-- the drafts become entries under the next numbers
abbrev pub with_entries : List ℕ → List Draft → Entries → Entries
with_entries user drafts e = with_last user (e.lasts user + length drafts) (record e { entries = e.entries ++ numbered user (e.lasts user + 1) drafts })

-- the user's entry of that number
abbrev pub is_at : List ℕ → ℕ → Entry → Bool
is_at user number x = bytes_eq x.user user && (x.number == number)

-- the entry is gone, and the last number stays
abbrev pub without_entry : List ℕ → ℕ → Entries → Entries
without_entry user number e = record e { entries = filter (λ x. not (is_at user number x)) e.entries }

-- an entry as it is listed, with the number of its octets in their place
pub record Listing : Type 0 where
  pub number : ℕ
  pub kind : Kind
  pub folder : List ℕ
  pub name : List ℕ
  pub media : List ℕ
  pub octets : ℕ

abbrev pub listing_of : Entry → Listing
listing_of x = record { number = x.number; kind = x.kind; folder = x.folder; name = x.name; media = x.media; octets = length x.octets }

-- the user's entries in the order in which they were made, which is that of their numbers
abbrev pub entries_of : List ℕ → Entries → List Entry
entries_of user e = filter (λ x. bytes_eq x.user user) e.entries

-- those of them that have numbers above this one
abbrev pub entries_since : List ℕ → ℕ → Entries → List Entry
entries_since user number e = filter (λ x. nat_lt number x.number) (entries_of user e)
