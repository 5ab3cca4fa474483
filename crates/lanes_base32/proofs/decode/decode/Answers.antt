use Rattle.std.proofs.Common.{◌<◌, ◌*◌, ◌++◌, take, drop, sym, ap, ◌∙◌}
use Rattle.std.proofs.lemmas.List.{append_assoc}
use Rattle.std.proofs.lemmas.List.Elements.{All-drop}
use Rattle.std.proofs.lemmas.Result.{err_from_is_err_and}
use Rattle.octet_lanes.specs.Encoding.{encoding_of, width}
use Rattle.lanes_base32.proofs.Blocks.{block_before, in_prefix}
use Rattle.lanes_base32.proofs.decode.decode.Goals as goal

pub returns-in_err-append_block-clause-refused : goal.returns-in_err-append_block-clause-refused
returns-in_err-append_block-clause-refused c =
    let parts = c.in-Some.ensures in
    let p = err_from_is_err_and c.from_residual-in_err-append_block.result c.from_residual-in_err-append_block.ensures.1 in
    rw (p.1, p.2) (λ e octets are spells.
    let l = c.whole.invariant.left octets are spells in
    let prefix = in_prefix c.args.alphabet c.whole.rest.now c.in-Some.block.now c.in-Some.after.now l.0 parts.0 parts.1 parts.3 l.2 in
    c.in_err-append_block.ensures.refused e (take (4 * width c.args.alphabet) l.0) prefix.long prefix.first)

pub whole-preserved : goal.whole-preserved
whole-preserved c =
    let a = c.args.alphabet in
    let text = c.whole.rest.now in
    let block = c.in-Some.block.now in
    let after = c.in-Some.after.now in
    let out = c.whole.out.items in
    let parts = c.in-Some.ensures in
    let read = c.in_ok-append_block.ensures.octets in
    let first = read.0 in
    record {
      spelled = λ octets spells.
          c.whole.invariant.spelled (first ++ octets) (block_before a text block after first octets parts.0 parts.1 read.2 read.3 spells)
          ∙ ap (λ l. encoding_of a l) (sym (append_assoc out first octets) ∙ ap (λ l. l ++ octets) (sym read.1));
      left = λ octets are spells.
          let l = c.whole.invariant.left octets are spells in
          let prefix = in_prefix a text block after l.0 parts.0 parts.1 parts.3 l.2 in
          (drop (4 * width a) l.0, All-drop (λ octet. octet < 256) (4 * width a) l.0 l.1, prefix.second);
    }
