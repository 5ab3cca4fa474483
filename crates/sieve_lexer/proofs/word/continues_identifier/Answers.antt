use Rattle.std.proofs.Common.{◌==◌, refl, not, slice_index_or, arith}
use Rattle.std.proofs.lemmas.Bool.{agree_below_at}
use Rattle.sieve_lexer.specs.Classes.{continues_identifier}
use Rattle.sieve_lexer.specs.declared.word.TheConstants.{CLASSES}
use Rattle.sieve_lexer.proofs.word.continues_identifier.Goals as goal

pub returns : goal.returns
returns c = agree_below_at (λ o. not (slice_index_or CLASSES o 0 == 0)) continues_identifier 256 c.args.octet refl (omega arith)
