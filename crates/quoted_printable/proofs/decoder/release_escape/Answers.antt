use Rattle.std.proofs.Common.{◌++◌, ◌∷◌, [], ap, ◌∙◌, sym, get_or}
use Rattle.quoted_printable.proofs.Held.{release_literal, release_octet}
use Rattle.quoted_printable.proofs.Known.{digits_none, digits_some}
use Rattle.quoted_printable.proofs.Stretches.{reads_left}
use Rattle.quoted_printable.proofs.decoder.release_escape.Goals as goal

pub returns-in-Some-clause-read : goal.returns-in-Some-clause-read
returns-in-Some-clause-read c =
    let digits = digits_some (get_or c.args.held.now 1 0) (get_or c.args.rest.now 0 0) c.in-Some.octet c.in-Some.ensures in
    reads_left _ _ _ _ _ (sym c.split_at.ensures.back) (release_octet c.args.out.now.items _ c.args.held.now c.args.rest.now c.requires.held c.requires.digit c.requires.some digits.0 (c.in_ok-push.ensures.items ∙ ap (λ n. c.args.out.now.items ++ n ∷ []) digits.1))

pub returns-clause-read : goal.returns-clause-read
returns-clause-read c =
    release_literal c.args.out.now.items _ c.args.held.now c.args.rest.now c.requires.held c.requires.digit c.requires.some
    (digits_none (get_or c.args.held.now 1 0) (get_or c.args.rest.now 0 0) c.in_default.ensures) c.in_ok-extend_from_slice.ensures.items
