use Rattle.std.proofs.Common.{◌≤◌, ap, ◌∙◌, subst, take, arith, length}
use Rattle.std.proofs.lemmas.List.{take-take}
use Rattle.octet_lanes.specs.Private.{IsRead}
use Rattle.octet_lanes.proofs.Reading.{ok_both, padded_read}
use Rattle.octet_lanes.proofs.reader.append_first.Goals as goal

pub returns-in-Some-clause-read : goal.returns-in-Some-clause-read
returns-in-Some-clause-read c =
    let text = c.args.text.now in
    ok_both c.append_block.result c.append_block.ensures.within c.append_block.ensures.read (λ end le read.
    subst (λ l. IsRead c.args.alphabet l c.args.out.now.items c.append_block.new.out.items) (ap (take end) c.in-Some.ensures.cases.same ∙ take-take end 32 text le) read)

pub returns-in-None-clause-within : goal.returns-in-None-clause-within
returns-in-None-clause-within c =
    let few : length c.args.text.now ≤ 32 = omega (arith, c.in-None.ensures.cases) in
    ok_both c.append_block-in-None.result c.append_block-in-None.ensures.within c.append_block-in-None.ensures.read (λ end le read.
    (padded_read c.args.alphabet c.args.text.now c.padded.result c.args.out.now.items c.append_block-in-None.new.out.items end few c.padded.ensures le read).0)

pub returns-in-None-clause-read : goal.returns-in-None-clause-read
returns-in-None-clause-read c =
    let few : length c.args.text.now ≤ 32 = omega (arith, c.in-None.ensures.cases) in
    ok_both c.append_block-in-None.result c.append_block-in-None.ensures.within c.append_block-in-None.ensures.read (λ end le read.
    (padded_read c.args.alphabet c.args.text.now c.padded.result c.args.out.now.items c.append_block-in-None.new.out.items end few c.padded.ensures le read).1)
