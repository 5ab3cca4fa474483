use Rattle.std.proofs.Common.{◌≡◌, ◌++◌, take}
use Rattle.std.specs.List.{flat_map}
use Rattle.sieve_explain.specs.Sentences.{filled_octet}
use Rattle.sieve_explain.specs.Private.{blanks_of}
use Rattle.sieve_explain.proofs.sentence.push_sentence.Given as goal

abbrev pub invariant-loop-octet : goal.invariant-loop-octet
invariant-loop-octet l = l.out.items ≡ l.initial.out.items ++ flat_map (filled_octet (blanks_of l.sentence)) (take l.octet-index l.sentence.text.now)
