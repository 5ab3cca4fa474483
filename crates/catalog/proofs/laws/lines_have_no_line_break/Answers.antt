use Rattle.std.proofs.Common.{◌≤◌}
use Rattle.std.proofs.lemmas.List.Elements.{All-from_recursion}
use Rattle.catalog.specs.Lines.{message_line, part_line}
use Rattle.catalog.proofs.PlainLines.{message_plain, part_plain}
use Rattle.catalog.proofs.laws.lines_have_no_line_break.Goals as goal

pub returns-clause-messages : goal.returns-clause-messages
returns-clause-messages c = λ row mail stored.
    All-from_recursion (λ octet. 32 ≤ octet) (message_line row mail stored) (message_plain row mail stored).visible

pub returns-clause-parts : goal.returns-clause-parts
returns-clause-parts c = λ row messages.
    All-from_recursion (λ octet. 32 ≤ octet) (part_line row messages) (part_plain row messages).visible
