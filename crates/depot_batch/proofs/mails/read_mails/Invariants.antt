use Rattle.std.proofs.Common.{◌≡◌, length, map, take}
use Rattle.depot_batch.specs.Effects.{AreDeliveries}
use Rattle.depot_batch.specs.Private.{command_of, lines_of}
use Rattle.depot_batch.proofs.mails.read_mails.Given as goal

abbrev pub invariant-loop-line : goal.invariant-loop-line
invariant-loop-line g l = record {
  number : length l.mails.items ≡ l.line-index;
  none : l.line-index ≡ 0 → l.octets ≡ 0;
  read : AreDeliveries (take l.line-index (lines_of l.lines)) (map command_of l.mails.items) (g.H.Host.state l.initial.host) (g.H.Host.state l.host);
}
