use Rattle.octet_lanes.specs.declared.alphabet.Alphabet.TheVariants.{Base64}
use Rattle.lanes_base64_mime.proofs.decode.Decoder.new.Goals as goal

pub invariant_of-result : goal.invariant_of-result
invariant_of-result c = c.new.ensures.held Base64

pub returns : goal.returns
returns c = λ i. record { bits = c.new.ensures.nothing Base64 i; ended = c.new.ensures.goes_on i }
