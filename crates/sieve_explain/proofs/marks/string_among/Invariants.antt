use Rattle.std.proofs.Common.{◌≡◌, drop}
use Rattle.sieve_explain.specs.Marks.{string_among}
use Rattle.sieve_explain.proofs.marks.string_among.Given as goal

abbrev pub invariant-loop-token : goal.invariant-loop-token
invariant-loop-token l = string_among l.source.octets.now l.string (drop l.token-index l.tokens) ≡ string_among l.source.octets.now l.string l.tokens
