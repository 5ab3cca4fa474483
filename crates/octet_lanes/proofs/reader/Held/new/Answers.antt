use Rattle.std.proofs.Common.{◌^◌, ◌<◌, refl, arith}
use Rattle.std.proofs.lemmas.List.Elements.{All-replicate}
use Rattle.octet_lanes.specs.Encoding.{width}
use Rattle.octet_lanes.proofs.Reading.{some_characters, zero_small}
use Rattle.octet_lanes.proofs.reader.Held.new.Goals as goal

pub returns-clause-held : goal.returns-clause-held
returns-clause-held c = λ alphabet. record {
  long = refl;
  few = omega (arith, some_characters alphabet);
  small = All-replicate (λ value. value < 2 ^ width alphabet) 32 0 (zero_small alphabet);
}
