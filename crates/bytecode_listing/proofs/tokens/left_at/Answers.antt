use Rattle.std.proofs.Common.{ap, ◌∙◌}
use Rattle.bytecode_listing.specs.Items.{left_at}
use Rattle.bytecode_listing.proofs.Lexing.{first_left}
use Rattle.bytecode_listing.proofs.tokens.left_at.Goals as goal

pub returns : goal.returns
returns c = first_left c.token_start.result.now c.token_start.ensures.start ∙ ap left_at c.token_start.ensures.tokens
