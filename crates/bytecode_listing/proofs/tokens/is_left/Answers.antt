use Rattle.std.proofs.Common.{ap, ◌∙◌}
use Rattle.std.specs.Prelude.{not}
use Rattle.bytecode_listing.specs.Items.{is_left}
use Rattle.bytecode_listing.proofs.Lexing.{some_left}
use Rattle.bytecode_listing.proofs.tokens.is_left.Goals as goal

pub returns : goal.returns
returns c = ap not c.is_empty.ensures ∙ some_left c.token_start.result.now c.token_start.ensures.start ∙ ap is_left c.token_start.ensures.tokens
