use Rattle.std.proofs.Common.{◌+◌, ◌∙◌, [], sym, ap, subst, arith, length, vec_len}
use Rattle.header_fields.specs.Header.{header_length}
use Rattle.mime_tree.specs.OpenParts.{boundaries_in, cut, lines_at, opening}
use Rattle.mime_tree.specs.Reading.{AreAmong}
use Rattle.mime_tree.proofs.Among.{among_more}
use Rattle.mime_tree.proofs.Below.{wanted_longer}
use Rattle.mime_tree.proofs.Opening.{message_opened, other_opened}
use Rattle.mime_tree.proofs.reader.read_part.Goals as goal

pub returns-then-len-eq-MAX_PARTS-clause-refused : goal.returns-then-len-eq-MAX_PARTS-clause-refused
returns-then-len-eq-MAX_PARTS-clause-refused c =
    let more = wanted_longer c.args.text.now c.args.beginning c.args.opened.now.items c.args.parts.now.items in
    omega (arith, more, c.len.ensures, c.if-len-eq-MAX_PARTS.true, c.args.parts.now.ok.0)

pub returns-then-holds_message-clause-same : goal.returns-then-holds_message-clause-same
returns-then-holds_message-clause-same c =
    let text = c.args.text.now in
    let read = c.in_ok-part.ensures in
    let added = c.in_ok-holds_message.ensures in
    message_opened text c.args.beginning c.in_ok-part.header c.args.opened.now.items c.add_part.new.opened.items c.args.parts.now.items c.add_part.new.parts.items c.in_ok-part.part
    (record {
      is = c.requires.beginning;
      long = read.header ∙ ap (λ os. header_length (cut (boundaries_in [] os) (lines_at text c.args.beginning.place))) c.as_slice.ensures.value;
      read = read.part;
      opened_as = added.opened;
      parts_as = added.parts;
    }) (sym added.message ∙ c.if-holds_message.true)

pub returns-clause-same : goal.returns-clause-same
returns-clause-same c =
    let text = c.args.text.now in
    let read = c.in_ok-part.ensures in
    let added = c.in_ok-holds_message.ensures in
    c.next_part.ensures.same
    ∙ other_opened text c.args.beginning c.in_ok-part.header c.args.opened.now.items c.add_part.new.opened.items c.args.parts.now.items c.add_part.new.parts.items c.in_ok-part.part
    (record {
      is = c.requires.beginning;
      long = read.header ∙ ap (λ os. header_length (cut (boundaries_in [] os) (lines_at text c.args.beginning.place))) c.as_slice.ensures.value;
      read = read.part;
      opened_as = added.opened;
      parts_as = added.parts;
    }) (sym added.message ∙ c.if-holds_message.false)

pub returns-then-holds_message-clause-among : goal.returns-then-holds_message-clause-among
returns-then-holds_message-clause-among c =
    let parts = c.args.parts.now in
    let opened = c.args.opened.now.items in
    let new = opening (length parts.items) c.args.beginning.levels c.in_ok-part.part in
    let added = c.in_ok-holds_message.ensures in
    subst (λ n. AreAmong n c.add_part.new.opened.items) (sym added.len)
    (subst (AreAmong (vec_len parts + 1)) (sym added.opened) (among_more (vec_len parts) opened new c.requires.among (omega (arith, parts.ok.0))))

pub next_part-requires-clause-among : goal.next_part-requires-clause-among
next_part-requires-clause-among c =
    let parts = c.args.parts.now in
    let opened = c.args.opened.now.items in
    let new = opening (length parts.items) c.args.beginning.levels c.in_ok-part.part in
    let added = c.in_ok-holds_message.ensures in
    subst (λ n. AreAmong n c.add_part.new.opened.items) (sym added.len)
    (subst (AreAmong (vec_len parts + 1)) (sym added.opened) (among_more (vec_len parts) opened new c.requires.among (omega (arith, parts.ok.0))))
