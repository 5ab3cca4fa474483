use Rattle.mime_params.proofs.Beginnings.{settled_main, settled_none, settled_sub}
use Rattle.mime_params.specs.Words.{Word}
use Rattle.mime_params.proofs.beginning.settles_type.Goals as goal

pub returns-in_default-token : goal.returns-in_default-token
returns-in_default-token c = λ _.
    settled_none c.args.start.now c.in-Some.name.now c.in-Some.ensures (c.ends_token.ensures c.if-not-ends_token.false) c.in_default-token.ensures

pub returns-in_default-after_slash : goal.returns-in_default-after_slash
returns-in_default-after_slash c = λ _.
    let main : Word = record { octets = c.in-Some-token._main.now; rest = c.in-Some-token.after.now } in
    settled_main c.args.start.now c.in-Some.name.now c.in-Some-gap_end.slash.now main c.in-Some.ensures (c.ends_token.ensures c.if-not-ends_token.false) c.in-Some-token.ensures c.in-Some-gap_end.ensures
    c.in_default-after_slash.ensures

pub returns : goal.returns
returns c = λ ends.
    let main : Word = record { octets = c.in-Some-token._main.now; rest = c.in-Some-token.after.now } in
    settled_sub c.args.start.now c.in-Some.name.now c.in-Some-gap_end.slash.now c.in-Some-after_slash.after.now c.in-Some-gap_end-2.name.now main c.in-Some.ensures
    (c.ends_token.ensures c.if-not-ends_token.false) c.in-Some-token.ensures c.in-Some-gap_end.ensures c.in-Some-after_slash.ensures c.in-Some-gap_end-2.ensures (c.ends_token-2.ensures ends)
