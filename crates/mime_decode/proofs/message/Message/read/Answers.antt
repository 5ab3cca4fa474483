use Rattle.std.proofs.lemmas.Result.{err_from_is_err_and}
use Rattle.mime_decode.proofs.MailLemmas.{is_mail, refused_by_tree}
use Rattle.mime_decode.proofs.message.Message.read.Goals as goal

pub returns-clause-mail : goal.returns-clause-mail
returns-clause-mail c = is_mail c.args.octets.now c.in_ok-tree.ensures.read.0

pub returns-in_err-tree-clause-refused : goal.returns-in_err-tree-clause-refused
returns-in_err-tree-clause-refused c =
    let p = err_from_is_err_and c.from_residual.result c.from_residual.ensures.1 in
    rw (p.1, p.2) (refused_by_tree c.args.octets.now c.in_err-tree.field-0.0 c.in_err-tree.ensures.refused)
