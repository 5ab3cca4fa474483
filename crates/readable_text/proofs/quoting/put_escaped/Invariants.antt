use Rattle.std.proofs.Common.{◌≡◌, ◌++◌, take}
use Rattle.std.specs.List.{flat_map}
use Rattle.readable_text.specs.Quoted.{escaped_octet}
use Rattle.readable_text.proofs.quoting.put_escaped.Given as goal

abbrev pub invariant-octets : goal.invariant-octets
invariant-octets l = l.out.items ≡ l.initial.out.items ++ flat_map escaped_octet (take l.octet-index l.octets)
