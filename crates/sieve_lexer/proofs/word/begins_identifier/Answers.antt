use Rattle.std.proofs.Common.{◌==◌, refl, slice_index_or, arith}
use Rattle.std.proofs.lemmas.Bool.{agree_below_at}
use Rattle.sieve_lexer.specs.Classes.{begins_identifier}
use Rattle.sieve_lexer.specs.declared.word.TheConstants.{CLASSES}
use Rattle.sieve_lexer.proofs.word.begins_identifier.Goals as goal

pub returns : goal.returns
returns c = agree_below_at (λ o. slice_index_or CLASSES o 0 == 1) begins_identifier 256 c.args.octet refl (omega arith)
