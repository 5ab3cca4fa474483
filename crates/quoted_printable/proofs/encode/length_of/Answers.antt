use Rattle.std.proofs.Common.{◌≡◌, ◌<◌, ◌==◌, refl, ℕ, Bool, true, slice_index_or, arith, eqb-true}
use Rattle.std.proofs.lemmas.Bool.{agree_below_at}
use Rattle.quoted_printable.specs.Written.{length_of}
use Rattle.quoted_printable.specs.declared.encode.TheConstants.{LENGTHS}
use Rattle.quoted_printable.proofs.encode.length_of.Goals as goal

-- the table says of an octet what the definition says
told : ℕ → Bool
told o = slice_index_or LENGTHS o 0 == length_of o

all_told : (o : ℕ) → o < 256 → told o ≡ true
unfolding told
all_told o h = agree_below_at told (λ _. true) 256 o refl h

pub returns : goal.returns
unfolding told
returns c = eqb-true (slice_index_or LENGTHS c.args.octet 0) (length_of c.args.octet) (all_told c.args.octet (omega arith))
