use Rattle.std.proofs.Common.{◌++◌, ap, ◌∙◌}
use Rattle.header_fields.proofs.Steps.{taken_of, field_taken, line_skipped, body_kept, taken_falls}
use Rattle.header_fields.specs.Fields.{Field}
use Rattle.header_fields.proofs.Hashing.{hashes_more}
use Rattle.header_fields.proofs.header.read_fields.Goals as goal

pub lines-smaller : goal.lines-smaller
lines-smaller c =
    taken_falls _ _ _ _ _ _ (taken_of _ _ _ _ _ _ c.lines.invariant.same_text c.in-Some.ensures.steps c.if-line.false c.continued_end-end.ensures)

pub lines-smaller-in-Continue-branch-2 : goal.lines-smaller-in-Continue-branch-2
lines-smaller-in-Continue-branch-2 c =
    taken_falls _ _ _ _ _ _ (taken_of _ _ _ _ _ _ c.lines.invariant.same_text c.in-Some.ensures.steps c.if-line.false c.continued_end-end.ensures)

pub lines-preserved : goal.lines-preserved
lines-preserved c =
    let was = c.lines.invariant in
    let taken = taken_of _ _ _ _ _ _ was.same_text c.in-Some.ensures.steps c.if-line.false c.continued_end-end.ensures in record {
      same_text = c.continued_end-end.ensures.same_text;
      fields = ap (λ x. c.lines.fields.items ++ x) (line_skipped _ _ _ _ _ _ taken c.in_default-field_at.ensures) ∙ was.fields;
      hashes = was.hashes;
      body = body_kept _ _ _ _ _ _ taken ∙ was.body;
    }

pub lines-preserved-in-Continue-branch-2 : goal.lines-preserved-in-Continue-branch-2
lines-preserved-in-Continue-branch-2 c =
    let was = c.lines.invariant in
    let taken = taken_of _ _ _ _ _ _ was.same_text c.in-Some.ensures.steps c.if-line.false c.continued_end-end.ensures in record {
      same_text = c.continued_end-end.ensures.same_text;
      fields = rw c.in_ok-push.ensures.items (field_taken _ _ _ _ _ _ c.lines.fields.items c.in-Some-field_at.field taken c.in-Some-field_at.ensures.0 ∙ was.fields);
      hashes =
          hashes_more _ _ _ _ c.in-Some-field_at.field c.in-Some-field_at.hash _ was.hashes c.in_ok-push.ensures.items c.in_ok-push-2.ensures.items
          (ap (λ (f : Field). f.name) c.in-Some-field_at.ensures.0.1) c.in-Some-field_at.ensures.1;
      body = body_kept _ _ _ _ _ _ taken ∙ was.body;
    }
