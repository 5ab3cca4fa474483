use Rattle.std.proofs.Common.{◌≡◌, ◌+◌, ◌++◌, ◌∷◌, [], map, length, ◌∙◌, ap, arith, get_or, replicate, None, rules, subst, sym}
use Rattle.std.proofs.lemmas.List.{map-append, length-map}
use Rattle.part_store.specs.Sharing.{first_of}
use Rattle.sieve_vm.specs.Stores.{NamesPart}
use Rattle.std.proofs.lemmas.List.Elements.{All-get_or}
use Rattle.depot_actions.specs.Sources.{source_of}
use Rattle.depot_actions.proofs.Sharing.{AreShared, none_shared_yet, one_shared, shares, source_within}
use Rattle.depot_actions.proofs.contents.shared_contents.Goals as goal

pub loop-action-init : goal.loop-action-init
loop-action-init c =
    let mail = c.args.message.now in
    let firsts = c.in_ok-firsts.ensures.items_if_clones_equal (λ y is. search rules) ∙ ap (λ n. replicate (n + 1) None) c.parts-parts.ensures.value in
    subst (λ xs. AreShared mail c.args.actions.now 0 xs (map first_of c.in_ok-shared.shared.items)) (sym firsts)
    (subst (AreShared mail c.args.actions.now 0 (replicate (length mail.parts + 1) None)) (sym (ap (map first_of) c.in_ok-shared.ensures.items)) (none_shared_yet mail c.args.actions.now))

pub first_place-first-requires : goal.first_place-first-requires
first_place-first-requires c =
    let mail = c.args.message.now in
    let actions = c.args.actions.now in
    let place = c.loop-action.action-index in
    let item = c.action-item.result in
    let within = source_within mail (get_or actions place item) (All-get_or (NamesPart mail) actions place item c.loop-action-test.true c.requires) in
    let same = c.source_of.ensures ∙ ap (λ n. source_of n item) c.parts-parts.ensures.value ∙ ap (source_of (length mail.parts)) c.action-item.is in
    omega (arith, same, within, c.loop-action.invariant.long)

pub loop-action-preserved : goal.loop-action-preserved
loop-action-preserved c =
    let mail = c.args.message.now in
    let actions = c.args.actions.now in
    let place = c.loop-action.action-index in
    let item = c.action-item.result in
    let shared = c.loop-action.shared.items in
    let same = c.source_of.ensures ∙ ap (λ n. source_of n item) c.parts-parts.ensures.value ∙ ap (source_of (length mail.parts)) c.action-item.is in
    let here : c.len-place.result ≡ place = omega (arith, c.len-place.ensures, c.loop-action.invariant.count, length-map shared first_of) in
    let first = rw (here) at c.first_place-first.ensures.first in
    let firsts = rw (here) at c.first_place-first.ensures.firsts in
    let items = ap (map first_of) c.in_ok-push.ensures.items ∙ map-append first_of shared (c.with.result ∷ []) ∙ ap (λ n. map first_of shared ++ n ∷ []) c.with.ensures in
    subst (AreShared mail actions (place + 1) c.first_place-first.new.firsts.items) (sym items)
    (one_shared mail actions place item c.loop-action.firsts.items c.first_place-first.new.firsts.items (map first_of shared) c.source_of.result c.first_place-first.result c.loop-action-test.true same c.loop-action.invariant
    c.first_place-first.ensures.long first firsts
    (record { known = c.first_place-first.ensures.known; fresh = λ none. c.first_place-first.ensures.fresh none ∙ here; noted = c.first_place-first.ensures.noted; others = c.first_place-first.ensures.others }))

pub returns-clause-shares : goal.returns-clause-shares
returns-clause-shares c = shares c.args.message.now c.args.actions.now (map first_of c.loop-action.shared.items) c.requires c.loop-action.invariant.have

pub returns-clause-earliest : goal.returns-clause-earliest
returns-clause-earliest c = c.loop-action.invariant.names
