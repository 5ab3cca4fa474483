use Rattle.std.proofs.Common.{◌∙◌, sym}
use Rattle.depot_batch.proofs.WordLemmas.{empty_len, ended, not_ended, some_len, said_breaks, said_ends, said_goes_on, said_stops}
use Rattle.depot_batch.proofs.words.said_in.Goals as goal

pub octets-preserved : goal.octets-preserved
octets-preserved c =
    rw c.in_ok-push-in-Some-said_of.ensures.items (said_goes_on c.octets.said.items c.args.octets.now c.octets.rest.now c.in-Some.octet c.in-Some-said_of.one c.in-Some.after.now c.in-Some-said_of.later.now
    c.in-Some.ensures c.if-octet-eq34.false c.in-Some-said_of.ensures.said c.octets.invariant)

pub returns-then-is_empty : goal.returns-then-is_empty
returns-then-is_empty c =
    sym (said_ends c.octets.said.items c.args.octets.now c.octets.rest.now c.in-Some.octet c.in-Some.after.now c.in-Some.ensures c.if-octet-eq34.true c.octets.invariant
    ∙ ended c.octets.said.items c.in-Some.after.now (empty_len c.in-Some.after.now (sym c.is_empty.ensures ∙ c.if-is_empty.true)))

pub returns-then-octet-eq34 : goal.returns-then-octet-eq34
returns-then-octet-eq34 c =
    sym (said_ends c.octets.said.items c.args.octets.now c.octets.rest.now c.in-Some.octet c.in-Some.after.now c.in-Some.ensures c.if-octet-eq34.true c.octets.invariant
    ∙ not_ended c.octets.said.items c.in-Some.after.now (some_len c.in-Some.after.now (sym c.is_empty.ensures ∙ c.if-is_empty.false)))

pub returns-in-None : goal.returns-in-None
returns-in-None c =
    said_stops c.octets.said.items c.args.octets.now c.octets.rest.now c.in-Some.octet c.in-Some.after.now c.in-Some.ensures c.if-octet-eq34.false c.in-None.ensures.said c.octets.invariant

pub returns : goal.returns
returns c = said_breaks c.octets.said.items c.args.octets.now c.octets.rest.now c.in_default.ensures c.octets.invariant
