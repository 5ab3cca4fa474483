use Rattle.std.proofs.Common.{◌+◌, ◌∙◌, [], sym, ap, subst, arith, length, take, drop, set, vec_len}
use Rattle.mime_tree.specs.OpenParts.{OpenPart, all_ended, finished, lines_at}
use Rattle.mime_tree.specs.Reading.{AreAmong, IsMet}
use Rattle.mime_tree.proofs.Ahead.{none_left}
use Rattle.mime_tree.proofs.Among.{among_kept, among_met}
use Rattle.mime_tree.proofs.Going.{closed_on, begun_on}
use Rattle.mime_tree.proofs.reader.next_part.Goals as goal

pub returns-in-Delimiter-clause-same : goal.returns-in-Delimiter-clause-same
returns-in-Delimiter-clause-same c =
    let text = c.args.text.now in
    let was = c.lines.invariant in
    let hit = c.in-Some.hit in
    let parts = c.lines.parts.items in
    let opened = c.as_slice.result.now in
    let kept = c.end_parts.new.opened.items in
    begun_on c.lines.preamble opened kept c.as_slice-in-Delimiter.result.now text c.lines.place c.lines.end parts c.end_parts.new.parts.items hit c.child_after.result c.in-Some.ensures c.in-Delimiter.is
    (record {
      parts_as = c.end_parts.ensures.parts ∙ ap (λ os. all_ended hit.end (drop (hit.met.place + 1) os) parts) (sym c.as_slice.ensures.value);
      opened_as = c.end_parts.ensures.opened ∙ ap (λ os. take (hit.met.place + 1) os) (sym c.as_slice.ensures.value);
    }) c.as_slice-in-Delimiter.ensures.value c.child_after.ensures
    ∙ ap (λ os. finished c.lines.preamble [] c.lines.place c.lines.end (lines_at text c.lines.place) os parts) c.as_slice.ensures.value
    ∙ was.so_far

pub returns-in-Delimiter-clause-among : goal.returns-in-Delimiter-clause-among
returns-in-Delimiter-clause-among c =
    let kept = c.end_parts.new.opened.items in
    subst (λ n. AreAmong n kept) (sym c.end_parts.ensures.len)
    (subst (AreAmong (vec_len c.lines.parts)) (sym c.end_parts.ensures.opened)
    (among_kept (vec_len c.lines.parts) c.lines.opened.items (c.in-Some.hit.met.place + 1) c.lines.invariant.among))

pub lines-preserved : goal.lines-preserved
lines-preserved c =
    let text = c.args.text.now in
    let was = c.lines.invariant in
    let hit = c.in-Some.hit in
    let parts = c.lines.parts.items in
    let opened = c.as_slice.result.now in
    let kept = c.end_parts.new.opened.items in
    let h = c.in-Some.ensures in record {
      within = h.within;
      before = omega (arith, h.after, h.content);
      among = subst (λ n. AreAmong n (set kept hit.met.place c.close.new.self)) (sym c.end_parts.ensures.len)
          (among_met (vec_len c.lines.parts) c.lines.preamble c.lines.opened.items kept h.line.content hit.met c.index_mut.result.now c.close.new.self was.among
          (subst (λ os. IsMet c.lines.preamble os h.line.content hit.met) c.as_slice.ensures.value h.met) c.end_parts.ensures.opened c.index_mut.ensures.value (ap (λ (o : OpenPart). o.at) c.close.ensures));
      len = c.end_parts.ensures.len ∙ was.len;
      so_far = closed_on c.lines.preamble opened kept text c.lines.place c.lines.end parts c.end_parts.new.parts.items hit c.index_mut.result.now c.close.new.self h c.in_default-mark.is
          (record {
            parts_as = c.end_parts.ensures.parts ∙ ap (λ os. all_ended hit.end (drop (hit.met.place + 1) os) parts) (sym c.as_slice.ensures.value);
            opened_as = c.end_parts.ensures.opened ∙ ap (λ os. take (hit.met.place + 1) os) (sym c.as_slice.ensures.value);
          }) c.index_mut.ensures.value c.close.ensures
          ∙ ap (λ os. finished c.lines.preamble [] c.lines.place c.lines.end (lines_at text c.lines.place) os parts) c.as_slice.ensures.value
          ∙ was.so_far;
    }

pub returns-clause-same : goal.returns-clause-same
returns-clause-same c =
    let text = c.args.text.now in
    let was = c.lines.invariant in
    let parts = c.lines.parts.items in
    let opened = c.lines.opened.items in
    c.end_parts-2.ensures.parts
    ∙ sym (none_left c.lines.preamble opened [] (length text) (length text) parts)
    ∙ ap (λ os. finished c.lines.preamble [] (length text) (length text) [] os parts) (sym c.as_slice.ensures.value)
    ∙ sym (c.in_default.ensures parts)
    ∙ ap (λ os. finished c.lines.preamble [] c.lines.place c.lines.end (lines_at text c.lines.place) os parts) c.as_slice.ensures.value
    ∙ was.so_far
