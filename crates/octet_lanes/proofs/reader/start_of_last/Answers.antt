use Rattle.std.proofs.Common.{◌+◌, length, ap, ◌∙◌, arith}
use Rattle.std.proofs.lemmas.List.{drop_all}
use Rattle.octet_lanes.specs.Encoding.{values_among}
use Rattle.octet_lanes.proofs.reader.start_of_last.Goals as goal

pub values-init : goal.values-init
values-init c = record {
  within = omega arith;
  values = ap (λ l. length (values_among l) + c.args.n) (drop_all 32 c.args.classes.now (omega (arith, c.told-classes))) ∙ (omega arith);
}
