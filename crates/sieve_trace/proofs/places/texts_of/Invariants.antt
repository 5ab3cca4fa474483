use Rattle.std.proofs.Common.{◌≡◌, ◌≤◌, ◌*◌, length, take}
use Rattle.sieve_trace.specs.Pieces.{Rise, pieces}
use Rattle.sieve_trace.specs.Places.{place_at, places_of}
use Rattle.sieve_trace.proofs.places.texts_of.Given as goal

abbrev pub invariant-tokens : goal.invariant-tokens
invariant-tokens l = record {
  within : l.octet ≤ length l.script;
  reached : l.place ≡ place_at l.script l.octet;
  so_far : pieces l.texts.items l.bounds.items ≡ places_of l.script (take l.token-index l.tokens);
  rise : Rise l.bounds.items (length l.texts.items);
  short : length l.texts.items ≤ 14 * l.token-index;
}
