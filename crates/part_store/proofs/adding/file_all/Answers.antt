use Rattle.std.proofs.Common.{◌≡◌, ◌+◌, ◌-◌, true, false, length, map, take, drop, rules, arith, sym, ◌∙◌}
use Rattle.std.proofs.lemmas.List.{length-map, length-take}
use Rattle.sqlite.specs.State.{HasCleanDisk}
use Rattle.sqlite.specs.Held.{state}
use Rattle.part_store.specs.Standing.{draft_of}
use Rattle.part_store.proofs.Afterwards.{both_kept, both_survive, undone}
use Rattle.part_store.proofs.FiledAll.{collides, drafts_more, drafts_split, earlier_draft, entry_at, octets_here, one_more}
use Rattle.part_store.proofs.NoRoom.{filing_refused}
use Rattle.part_store.proofs.Runs.{passed}
use Rattle.part_store.proofs.adding.file_all.Goals as goal

pub file_entry-requires : goal.file_entry-requires
file_entry-requires g c =
    let entries = c.args.entries.now in
    let place = c.loop-entry.entry-index in
    let here : c.loop-entry.number - c.args.last ≡ place = omega (arith, c.loop-entry.invariant.number) in
    let told = rw (here) at (c.digest_at-is_there.ensures (map draft_of entries)) in
    let known = told c.loop-entry.invariant.noted (omega (arith, length-map entries draft_of, c.loop-entry-test.true)) (octets_here entries place) in
    known.is

pub returns-then-not-branch-clause-other : goal.returns-then-not-branch-clause-other
returns-then-not-branch-clause-other g c clean _ =
    let old = state g.S.Store c.args.tx.now.conn.now in
    let mid = state g.S.Store c.loop-entry.tx.conn.now in
    let early : HasCleanDisk mid = omega (arith, c.file_entry.ensures.within.survives.clean) in
    let entries = c.args.entries.now in
    let place = c.loop-entry.entry-index in
    let failed : c.in_ok-file_entry.field-0 ≡ false = search rules in
    collides c.args.user.now c.args.last (length entries) (map draft_of (take place entries)) (map draft_of (drop (place + 1) entries)) (map draft_of entries) (draft_of (entry_at entries place)) old mid early
    (drafts_split entries place c.loop-entry-test.true) c.loop-entry.invariant.so_far (c.in_ok-file_entry.ensures.other clean failed)

pub loop-entry-preserved : goal.loop-entry-preserved
loop-entry-preserved g c =
    let old = state g.S.Store c.args.tx.now.conn.now in
    let mid = state g.S.Store c.loop-entry.tx.conn.now in
    let new = state g.S.Store c.file_entry.new.tx.conn.now in
    let entries = c.args.entries.now in
    let place = c.loop-entry.entry-index in
    let here : c.loop-entry.number - c.args.last ≡ place = omega (arith, c.loop-entry.invariant.number) in
    let told = rw (here) at (c.digest_at-is_there.ensures (map draft_of entries)) in
    let known = told c.loop-entry.invariant.noted (omega (arith, length-map entries draft_of, c.loop-entry-test.true)) (octets_here entries place) in
    let drafts = map draft_of (take place entries) in
    let long : length drafts ≡ place = length-map (take place entries) draft_of ∙ omega (arith, length-take place entries, c.loop-entry-test.true) in
    let done : c.in_ok-file_entry.field-0 ≡ true = search rules in
    record {
      same_reference = c.file_entry.ensures.within.same_reference ∙ c.loop-entry.invariant.same_reference;
      noted = known.noted;
      number = omega (arith, c.loop-entry.invariant.number);
      so_far = one_more c.args.user.now c.args.last (length entries) (c.loop-entry.number + 1) drafts (map draft_of (take (place + 1) entries)) (draft_of (entry_at entries place)) c.digest_at-is_there.result.1 old mid new (λ is. earlier_draft entries place c.loop-entry-test.true (known.earlier is))
          (omega (arith, long, c.loop-entry-test.true)) (omega (arith, long, c.loop-entry.invariant.number)) (drafts_more entries place c.loop-entry-test.true) c.loop-entry.invariant.so_far
          c.file_entry.ensures.within.survives (λ clean. c.in_ok-file_entry.ensures.filed clean done) (λ clean. c.in_ok-file_entry.ensures.inside clean done) (λ clean. c.in_ok-file_entry.ensures.within.schema clean) c.file_entry.ensures.within.kept;
    }

pub returns-in_err-file_entry-clause-cause : goal.returns-in_err-file_entry-clause-cause
returns-in_err-file_entry-clause-cause g c clean =
    let old = state g.S.Store c.args.tx.now.conn.now in
    let mid = state g.S.Store c.loop-entry.tx.conn.now in
    let new = state g.S.Store c.file_entry.new.tx.conn.now in
    let entries = c.args.entries.now in
    let place = c.loop-entry.entry-index in
    let drafts = map draft_of (take place entries) in
    let here : c.loop-entry.number - c.args.last ≡ place = omega (arith, c.loop-entry.invariant.number) in
    let told = rw (here) at (c.digest_at-is_there.ensures (map draft_of entries)) in
    let known = told c.loop-entry.invariant.noted (omega (arith, length-map entries draft_of, c.loop-entry-test.true)) (octets_here entries place) in
    let long : length drafts ≡ place = length-map (take place entries) draft_of ∙ omega (arith, length-take place entries, c.loop-entry-test.true) in
    passed c.from_residual.result _ _ c.from_residual.ensures.1
    (filing_refused c.args.user.now c.args.last (length entries) (c.loop-entry.number + 1) drafts (map draft_of (drop (place + 1) entries)) (map draft_of entries) (draft_of (entry_at entries place)) c.digest_at-is_there.result.1 old mid new _ (λ is. earlier_draft entries place c.loop-entry-test.true (known.earlier is))
    (omega (arith, long, c.loop-entry-test.true)) (omega (arith, long, c.loop-entry.invariant.number)) (drafts_split entries place c.loop-entry-test.true) (sym (length-map entries draft_of))
    c.loop-entry.invariant.so_far c.file_entry.ensures.within.survives clean (c.in_err-file_entry.ensures.cause clean))

pub returns-in_err-file_entry-clause-within : goal.returns-in_err-file_entry-clause-within
returns-in_err-file_entry-clause-within g c =
    let old = state g.S.Store c.args.tx.now.conn.now in
    let mid = state g.S.Store c.loop-entry.tx.conn.now in
    let new = state g.S.Store c.file_entry.new.tx.conn.now in
    let so_far = c.loop-entry.invariant.so_far in
    let last = c.file_entry.ensures.within in
    record {
      same_reference = last.same_reference ∙ c.loop-entry.invariant.same_reference;
      schema = λ _. undone c.from_residual.result _ _ c.from_residual.ensures.1;
      kept = both_kept old mid new so_far.survives last.survives so_far.kept so_far.schema last.kept;
      survives = both_survive old mid new so_far.survives last.survives;
    }

pub returns-then-not-branch-clause-within : goal.returns-then-not-branch-clause-within
returns-then-not-branch-clause-within g c =
    let old = state g.S.Store c.args.tx.now.conn.now in
    let mid = state g.S.Store c.loop-entry.tx.conn.now in
    let new = state g.S.Store c.file_entry.new.tx.conn.now in
    let so_far = c.loop-entry.invariant.so_far in
    let last = c.file_entry.ensures.within in
    record {
      same_reference = last.same_reference ∙ c.loop-entry.invariant.same_reference;
      schema = λ clean has.
          let early : HasCleanDisk mid = omega (arith, clean, last.survives.clean) in
          c.in_ok-file_entry.ensures.within.schema clean (so_far.schema early has);
      kept = both_kept old mid new so_far.survives last.survives so_far.kept so_far.schema last.kept;
      survives = both_survive old mid new so_far.survives last.survives;
    }
