-- What surrounds a command or test.
use Rattle.std.specs.Prelude.{ℕ, suc, Bool, true, false, not, nat_lt, bytes_eq, if◌then◌else◌, List, [], ◌∷◌, ◌++◌, length, Option, Some, None, option_map}
use Rattle.octets.specs.Limits.{max_loops}
use Rattle.sieve_check.specs.declared.names.Capability.{Capability}
use Rattle.sieve_check.specs.declared.names.Capability.TheVariants.{FileInto, Variables, Mime, ForEveryPart, Depot, OctetComparator, CasemapComparator}
use Rattle.sieve_check.specs.declared.surroundings.Capabilities.{Capabilities}
use Rattle.sieve_check.specs.declared.table.Follows.{Follows}
use Rattle.sieve_check.specs.declared.table.Follows.TheVariants.{Requires, Branches, Others}
use Rattle.sieve_check.specs.Names.{capability_named}
use Rattle.sieve_check.specs.Rows.{Row}

-- a loop that is open: it has no name, or this one; or its arguments can't be read, so that any may be its name
pub data Loop : Type 0 where
  nameless : Loop
  called : List ℕ → Loop
  unreadable : Loop

-- what surrounds a command or test: what was required before it, the loops that are open around it,
-- and where the command stands
pub record Context : Type 0 where
  pub required : Capabilities
  -- the innermost first
  pub loops : List Loop
  -- at the top level, and after no other command than require
  pub takes_require : Bool
  -- directly after an if or elsif of the same block
  pub after_if : Bool

-- the capability was required; the comparators are always there
abbrev pub has_capability : Capability → Capabilities → Bool
has_capability FileInto all = all.file_into
has_capability Variables all = all.variables
has_capability Mime all = all.mime
has_capability ForEveryPart all = all.for_every_part
has_capability Depot all = all.depot
has_capability OctetComparator all = true
has_capability CasemapComparator all = true

abbrev pub same_capability : Capability → Capability → Bool
same_capability FileInto FileInto = true
same_capability Variables Variables = true
same_capability Mime Mime = true
same_capability ForEveryPart ForEveryPart = true
same_capability Depot Depot = true
same_capability OctetComparator OctetComparator = true
same_capability CasemapComparator CasemapComparator = true
same_capability _ _ = false

-- the first of the capabilities that isn't there, if one isn't
abbrev pub first_lacking : List Capability → Capabilities → Option Capability
first_lacking [] all = None
first_lacking (capability ∷ others) all = if has_capability capability all then first_lacking others all else Some capability

-- one more capability
abbrev pub with_capability : Capability → Capabilities → Capabilities
with_capability FileInto all = record all { file_into = true }
with_capability Variables all = record all { variables = true }
with_capability Mime all = record all { mime = true }
with_capability ForEveryPart all = record all { for_every_part = true }
with_capability Depot all = record all { depot = true }
with_capability OctetComparator all = all
with_capability CasemapComparator all = all

abbrev pub with_known : Option Capability → Capabilities → Capabilities
with_known None all = all
with_known (Some capability) all = with_capability capability all

-- the capability of that name, too
abbrev pub with_required : List ℕ → Capabilities → Capabilities
with_required name all = with_known (capability_named name) all

-- those of the names, too
abbrev pub requiring : List (List ℕ) → Capabilities → Capabilities
requiring [] all = all
requiring (name ∷ names) all = requiring names (with_required name all)

-- before the first command of a script
abbrev pub at_start : Context
at_start = record {
  required = record { file_into = false; variables = false; mime = false; for_every_part = false; depot = false };
  loops = [];
  takes_require = true;
  after_if = false;
}

-- before the first command of a block, around which these loops were opened
abbrev pub in_block : List Loop → Context → Context
in_block opened s = record s { loops = opened ++ s.loops; takes_require = false; after_if = false }

-- around these loops are opened, one of which would be more than may be open
abbrev pub opens_many : List Loop → Context → Bool
opens_many [] s = false
opens_many (loop ∷ loops) s = not (nat_lt (length s.loops) max_loops)

-- before the first command of a block, where there may be so many loops
abbrev pub inside : List Loop → Context → Option Context
inside opened s = if opens_many opened s then None else Some (in_block opened s)

-- a loop is open around
abbrev pub in_loop : Context → Bool
in_loop s = nat_lt 0 (length s.loops)

-- a loop is meant: each one where none is named, else those of just that name, and those that may have it
abbrev pub is_meant : Option (List ℕ) → Loop → Bool
is_meant None loop = true
is_meant (Some name) nameless = false
is_meant (Some name) (called other) = bytes_eq name other
is_meant (Some name) unreadable = true

-- how many of the open loops are left, the innermost first, up to the first that is meant, if one is
abbrev pub loops_left : Option (List ℕ) → List Loop → Option ℕ
loops_left name [] = None
loops_left name (loop ∷ loops) = if is_meant name loop then Some 1 else option_map suc (loops_left name loops)

-- where neither a require nor an elsif or else may stand
abbrev pub elsewhere : Context → Context
elsewhere s = record s { takes_require = false; after_if = false }

-- after a command that means this for those behind it, and has these strings
abbrev pub followed : Context → Follows → List (List ℕ) → Context
followed s Requires strings = record s { required = requiring strings s.required; after_if = false }
followed s Branches strings = record s { takes_require = false; after_if = true }
followed s Others strings = elsewhere s

-- after a command of which that is known; after one that isn't known, as before it
abbrev pub following : Context → Option Row → List (List ℕ) → Context
following s None strings = s
following s (Some row) strings = followed s row.follows strings

-- after a command that stands behind another as its test, since a `;` before it is forgotten: what it requires is required, and an
-- elsif or else may stand behind an if or elsif
abbrev pub swallowed : Context → Follows → List (List ℕ) → Context
swallowed s Requires strings = record s { required = requiring strings s.required }
swallowed s Branches strings = record s { after_if = true }
swallowed s Others strings = s

abbrev pub swallowing : Context → Option Row → List (List ℕ) → Context
swallowing s None strings = s
swallowing s (Some row) strings = swallowed s row.follows strings
