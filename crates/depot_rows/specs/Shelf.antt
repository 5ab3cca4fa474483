-- Private: what a shelf tells.
use Rattle.std.specs.Prelude.{List, ℕ, Option, None, Some, if◌then◌else◌, map, string_bytes}
use Rattle.std.specs.Str.{bytes_eq}
use Rattle.depot_jobs.specs.Host.{Call, HostState, Origin, file, keeps, makes, opens, standard}
use Rattle.depot_rows.specs.declared.shelf.Known.{Known}
use Rattle.depot_rows.specs.declared.shelf.Shelf.{Shelf}
use Rattle.depot_rows.specs.declared.shelf.Asked.{Asked}
use Rattle.depot_rows.specs.declared.shelf.Asked.TheVariants.{OpenedInput, Opened, Made, Kept}

-- what was asked for
abbrev pub call_of : Asked → Call
call_of OpenedInput = opens standard
call_of (Opened name) = opens (file (string_bytes name))
call_of (Made name script) = makes (string_bytes name) (string_bytes script)
call_of (Kept octets) = keeps octets.items

-- the octets of the file of a name, where one of two has it
abbrev pub octets_of : Known → Known → List ℕ → Option (List ℕ)
octets_of first second name =
    if bytes_eq name first.name.now then Some first.octets.now else if bytes_eq name second.name.now then Some second.octets.now else None

-- what is read from where
abbrev pub contents_of : Known → Known → List ℕ → Origin → Option (List ℕ)
contents_of first second input standard = Some input
contents_of first second input (file name) = octets_of first second name

-- all that a shelf knows
abbrev pub state_of : Shelf → HostState
state_of s = record { contents = contents_of s.first s.second s.input.now; calls = Some (map call_of s.asked.items); given = s.given; faults = s.faults }
