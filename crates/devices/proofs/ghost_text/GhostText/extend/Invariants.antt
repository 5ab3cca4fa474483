use Rattle.std.proofs.Common.{◌≡◌, ◌++◌, take}
use Rattle.devices.proofs.ghost_text.GhostText.extend.Given as goal

abbrev pub invariant-octets : goal.invariant-octets
invariant-octets l = l.self ≡ l.initial.self ++ take l.octet-index l.octets
