use Rattle.std.proofs.Common.{◌∙◌, sym, ap}
use Rattle.std.specs.Prelude.{bytes_eq}
use Rattle.mime_tree.proofs.Delimiters.{no_delimiter, delimiter_after}
use Rattle.mime_tree.proofs.delimiter.name_of.Goals as goal

pub returns-in_default : goal.returns-in_default
returns-in_default c boundary = sym (no_delimiter boundary c.args.line.now c.in_default.ensures)

pub returns : goal.returns
returns c boundary =
    sym (delimiter_after boundary c.args.line.now c.in-Some.after.now c.in-Some.ensures)
    ∙ ap (λ t. bytes_eq t boundary) (sym c.trim_trailing_blanks.ensures)
