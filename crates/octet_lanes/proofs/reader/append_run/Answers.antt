use Rattle.std.proofs.Common.{◌≡◌, ℕ, ◌+◌, ◌-◌, ◌%◌, ◌^◌, ◌<◌, map, take, get_or, refl, sym, ap, ◌∙◌, arith}
use Rattle.std.proofs.lemmas.List.Elements.{All-map, All-same}
use Rattle.std.proofs.Math.Nat.{mod-lt}
use Rattle.octet_lanes.specs.Encoding.{contains_padding, values_of, width}
use Rattle.octet_lanes.proofs.Reading.{run_read, run_within, strays_read, zero_small}
use Rattle.octet_lanes.proofs.reader.append_run.Goals as goal

pub append_values-requires-clause-few : goal.append_values-requires-clause-few
append_values-requires-clause-few c = run_within c.args.classes.now c.run_len-run.result c.quantum_characters.result c.told-classes c.run_len-run.ensures

pub append_values-requires-clause-small : goal.append_values-requires-clause-small
append_values-requires-clause-small c =
    let w = width c.args.alphabet in
    let P : ℕ → Type 0 = λ value. value < 2 ^ w in
    let f : ℕ → ℕ = λ class. class % 2 ^ w in
    All-same P c.some_values.result (map f c.args.classes.now) c.some_values.ensures (All-map P f c.args.classes.now (λ k d l. mod-lt _ (zero_small c.args.alphabet)))

pub returns-then-whole-run-clause-within : goal.returns-then-whole-run-clause-within
returns-then-whole-run-clause-within c = run_within c.args.classes.now c.run_len-run.result c.quantum_characters.result c.told-classes c.run_len-run.ensures

pub returns-then-whole-run-clause-read : goal.returns-then-whole-run-clause-read
returns-then-whole-run-clause-read c =
    let a = c.args.alphabet in
    let run = c.run_len-run.result in
    let n = run - run % c.quantum_characters.result in
    run_read a run n n c.args.block.now c.args.classes.now c.some_values.result c.args.out.now.items c.append_values.new.out.items
    c.requires c.run_len-run.ensures (ap (λ q. run - run % q) c.quantum_characters.ensures) c.some_values.ensures (refl, refl) c.in_ok-append_values.ensures.bits

pub end_of_strays-requires : goal.end_of_strays-requires
end_of_strays-requires c = run_within c.args.classes.now c.run_len-run.result c.quantum_characters.result c.told-classes c.run_len-run.ensures

pub returns-clause-read : goal.returns-clause-read
returns-clause-read c =
    let a = c.args.alphabet in
    let run = c.run_len-run.result in
    let n = run - run % c.quantum_characters.result in
    let end = c.end_of_strays.result in
    let block = c.args.block.now in
    let count : n + (end - n) ≡ end = omega (arith, c.end_of_strays.ensures.within.0) in
    let passed =
    strays_read a block n (end - n) (omega (arith, c.end_of_strays.ensures.within.1, c.told-block))
    (λ i l h. let s = c.end_of_strays.ensures.strays i l (omega arith) in (ap (λ xs. get_or xs i 0) (sym c.requires) ∙ s.0, s.1)) in
    run_read a run n end block c.args.classes.now c.some_values.result c.args.out.now.items c.append_values.new.out.items
    c.requires c.run_len-run.ensures (ap (λ q. run - run % q) c.quantum_characters.ensures) c.some_values.ensures
    (ap (λ k. values_of a (take k block)) (sym count) ∙ passed.0, ap (λ k. contains_padding (take k block)) (sym count) ∙ passed.1)
    c.in_ok-append_values.ensures.bits
