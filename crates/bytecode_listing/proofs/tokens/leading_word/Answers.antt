use Rattle.std.proofs.Common.{sym, ap, ◌∙◌}
use Rattle.bytecode_listing.specs.Items.{word_at}
use Rattle.bytecode_listing.proofs.Lexing.{leads_at}
use Rattle.bytecode_listing.proofs.tokens.leading_word.Goals as goal

pub returns : goal.returns
returns c =
    ap word_at (sym c.token_start-start.ensures.tokens)
    ∙ leads_at c.token_start-start.result.now c.split_at.result.0.now c.split_at.result.1.now c.word_len.result c.token_start-start.ensures.start c.word_len.ensures c.split_at.ensures.front c.split_at.ensures.back
