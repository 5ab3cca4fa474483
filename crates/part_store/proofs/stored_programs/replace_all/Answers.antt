use Rattle.std.proofs.Common.{map, take, drop, ◌≡◌, ◌+◌, [], ◌∷◌, ◌++◌, ◌∙◌, ap, sym, arith, subst}
use Rattle.std.proofs.lemmas.List.{take_all}
use Rattle.sqlite.specs.Held.{state}
use Rattle.part_store.specs.Entries.{with_programs}
use Rattle.part_store.specs.Inside.{Brings}
use Rattle.part_store.specs.Standing.{pair_of}
use Rattle.part_store.proofs.Replacing.{Replacing, IsPairTooBig, items_refused, mapped_more, mapped_split, programs_push, replaced_more, same_pair}
use Rattle.part_store.proofs.Runs.{passed}
use Rattle.part_store.proofs.stored_programs.replace_all.Goals as goal

pub loop-user-preserved : goal.loop-user-preserved
loop-user-preserved g c =
    let old = state g.S.Store c.args.tx.now.conn.now in
    let mid = state g.S.Store c.loop-user.tx.conn.now in
    let new = state g.S.Store c.replace_program.new.tx.conn.now in
    let programs = c.args.programs.now in
    let place = c.loop-user.user-index in
    let user = c.deref.result.now in
    let program = c.deref-in-loop-user.result.now in
    let pair = same_pair c.loop-user-item.result user program c.deref.ensures c.deref-in-loop-user.ensures.value in
    let whole = mapped_more pair_of programs place c.loop-user-item.result c.loop-user-test.true c.loop-user-item.is in
    record {
      same_reference = c.replace_program.ensures.within.same_reference ∙ c.loop-user.invariant.same_reference;
      so_far = subst (λ pairs. Replacing with_programs pairs old new) (ap (λ p. map pair_of (take place programs) ++ p ∷ []) (sym pair) ∙ whole)
          (replaced_more with_programs (map pair_of (take place programs)) (user, program) old mid new c.loop-user.invariant.so_far c.replace_program.ensures.within.survives
          (programs_push (map pair_of (take place programs)) (user, program)) c.in_ok-replace_program.ensures.step c.in_ok-replace_program.ensures.inside c.in_ok-replace_program.ensures.schema c.in_ok-replace_program.ensures.within.was_open c.replace_program.ensures.within.stays_closed c.replace_program.ensures.within.kept c.in_ok-replace_program.ensures.rowids);
    }

pub returns-clause-step : goal.returns-clause-step
returns-clause-step g c clean =
    let programs = c.args.programs.now in
    let all : take c.loop-user.user-index programs ≡ programs = take_all c.loop-user.user-index programs (omega (arith, c.loop-user-test.false)) in
    subst (λ ps. Brings (with_programs (map pair_of ps)) (state g.S.Store c.args.tx.now.conn.now) (state g.S.Store c.loop-user.tx.conn.now)) all (c.loop-user.invariant.so_far.brought clean)

pub returns-in_err-replace_program-clause-cause : goal.returns-in_err-replace_program-clause-cause
returns-in_err-replace_program-clause-cause g c clean =
    let old = state g.S.Store c.args.tx.now.conn.now in
    let mid = state g.S.Store c.loop-user.tx.conn.now in
    let new = state g.S.Store c.replace_program.new.tx.conn.now in
    let programs = c.args.programs.now in
    let place = c.loop-user.user-index in
    let user = c.deref.result.now in
    let program = c.deref-in-loop-user.result.now in
    let pair = same_pair c.loop-user-item.result user program c.deref.ensures c.deref-in-loop-user.ensures.value in
    let done = map pair_of (take place programs) in
    let later = map pair_of (drop (place + 1) programs) in
    let whole : map pair_of programs ≡ done ++ (user, program) ∷ later =
    mapped_split pair_of programs place c.loop-user-item.result c.loop-user-test.true c.loop-user-item.is ∙ ap (λ p. done ++ p ∷ later) pair in
    passed c.from_residual.result _ _ c.from_residual.ensures.1
    (items_refused with_programs done (user, program) old mid new c.loop-user.invariant.so_far c.replace_program.ensures.within.survives IsPairTooBig (λ _ big. big) later (map pair_of programs) _ whole clean
    (c.in_err-replace_program.ensures.cause clean))
