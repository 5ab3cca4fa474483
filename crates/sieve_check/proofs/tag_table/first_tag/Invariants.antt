use Rattle.std.proofs.Common.{◌≡◌, drop}
use Rattle.std.specs.List.{find}
use Rattle.octets.specs.Ascii.{is_word}
use Rattle.sieve_check.specs.TagRows.{tag_word}
use Rattle.sieve_check.proofs.tag_table.first_tag.Given as goal

abbrev pub invariant-loop-known : goal.invariant-loop-known
invariant-loop-known l = find (λ known. is_word l.name (tag_word known)) (drop l.known-index l.tags) ≡ find (λ known. is_word l.name (tag_word known)) l.tags
