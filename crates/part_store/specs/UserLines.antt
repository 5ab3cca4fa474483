-- All users of a store, and the step that puts users in.
use Rattle.std.specs.Prelude.{◌≡◌, ℕ, max, true, List, [], ◌∷◌, Option, None, option_map, string_bytes, bytes_eq, if◌then◌else◌}
use Rattle.std.specs.List.{AllByRecursion}
use Rattle.std.specs.Ordering.{nat_cmp}
use Rattle.std.specs.Cmp.Lexicographic.{slice_cmp}
use Rattle.std.specs.declared.cmp.Ordering.TheVariants.{Less}
use Rattle.sqlite_value.specs.declared.value.Value.TheVariants.{Text}
use Rattle.sqlite_value.specs.Order.{Row}
use Rattle.sqlite_trees.specs.Tree.{IsAscending}
use Rattle.sqlite_rules.specs.Lists.{Has}
use Rattle.part_store.specs.Entries.{Entries}
use Rattle.part_store.specs.declared.user_row.UserRow.{UserRow}
use Rattle.part_store.specs.Tables.{equals}

-- a user with his last number, and his program if he has one
pub record UserLine : Type 0 where
  pub user : List ℕ
  pub last : ℕ
  pub program : Option (List ℕ)

-- a user as the definitions see him
abbrev pub line_of : UserRow → UserLine
line_of row = record { user = string_bytes row.user; last = row.last; program = option_map (λ v. v.items) row.program }

-- what the state has of a user
abbrev pub user_line : Entries → List ℕ → UserLine
user_line e user = record { user = user; last = e.lasts user; program = e.programs user }

-- the table has a row of the user
abbrev pub HasRow : List Row → List ℕ → Type 0
HasRow table user = (r : Row) × Has table r × (equals 1 (Text user) r ≡ true)

-- the first name comes before the second, octet by octet
abbrev pub IsBeforeLine : UserLine → UserLine → Type 0
IsBeforeLine one other = slice_cmp nat_cmp one.user other.user ≡ Less

-- The users that have a row in the table, each once and in the order of their names, with what the
-- state has of them. Who has no row has no number and no program.
pub record AreUsersOf (table : List Row) (e : Entries) (lines : List UserLine) : Type 0 where
  pub each : AllByRecursion (λ x. HasRow table x.user × (x ≡ user_line e x.user)) lines
  pub all : (user : List ℕ) → HasRow table user → Has lines (user_line e user)
  pub strangers : (user : List ℕ) → (HasRow table user → ⊥) → (e.lasts user ≡ 0) × (e.programs user ≡ None)
  pub rising : IsAscending IsBeforeLine lines

-- ---- putting users in

-- the program of the user in these lines, or none where his line has none, the last line where he has several, or else this one
abbrev pub program_among : List UserLine → List ℕ → Option (List ℕ) → Option (List ℕ)
program_among [] user program = program
program_among (line ∷ lines) user program = program_among lines user (if bytes_eq user line.user then line.program else program)

-- the largest last number of the user in these lines, or this one where it is larger
abbrev pub last_among : List UserLine → List ℕ → ℕ → ℕ
last_among [] user last = last
last_among (line ∷ lines) user last = last_among lines user (if bytes_eq user line.user then max last line.last else last)

-- These users have the programs of their lines, or none, and at least the last numbers: nobody's falls. All others stay.
abbrev pub with_users : List UserLine → Entries → Entries
with_users lines e = record e { programs = λ user. program_among lines user (e.programs user); lasts = λ user. last_among lines user (e.lasts user) }
