-- What asking costs at most, of a message that was read.
use Rattle.std.specs.Prelude.{◌≤◌, ℕ, ◌+◌, ◌*◌, length}
use Rattle.bytecode_format.specs.declared.question.Most.{Most}
use Rattle.bytecode_format.specs.declared.question.Sizes.{Sizes}
use Rattle.mail_matching.specs.Costs.{extent_of}
use Rattle.mail_matching.specs.Questions.{Texts}

-- the texts are no larger
pub record AreWithin (sizes : Sizes) (texts : Texts) : Type 0 where
  pub names : extent_of texts.names ≤ sizes.names
  pub number : length texts.names ≤ sizes.number
  pub params : length texts.params ≤ sizes.params
  pub keys : extent_of texts.keys ≤ sizes.keys

-- so much, and so much for each octet of the message and for one more
abbrev pub value_of : Most → ℕ → ℕ
value_of cost octets = cost.fixed + cost.scaled * (octets + 1)
