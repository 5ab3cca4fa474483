use Rattle.std.proofs.Common.{◌≡◌, ◌≤◌, ◌*◌, take}
use Rattle.bytecode_format.specs.Modifiers.{characters, quoted}
use Rattle.bytecode_format.proofs.modifiers.Modifiers.characters.Given as goal

abbrev pub invariant-text : goal.invariant-text
invariant-text l = (l.count ≡ characters (quoted l.self.quote_wildcard (take l.octet-index l.text))) × (l.count ≤ 2 * l.octet-index)
