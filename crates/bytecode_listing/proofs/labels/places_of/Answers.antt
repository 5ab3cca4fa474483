use Rattle.std.proofs.Common.{◌≡◌, ℕ, ◌+◌, ◌≤◌, List, [], ◌∷◌, ◌++◌, take, drop, Option, is_some, true, false, Some, sym, ap, subst, ◌∙◌, rules, arith}
use Rattle.std.specs.Borrow.{Bor}
use Rattle.std.specs.BTreeMap.{BTreeMap, get_by}
use Rattle.std.specs.Ordering.{nat_cmp}
use Rattle.std.specs.Cmp.Lexicographic.{slice_cmp}
use Rattle.std.proofs.lemmas.Grind.{common_steps}
use Rattle.std.proofs.lemmas.Map.Text.{btree_map_updates_str}
use Rattle.bytecode_listing.specs.declared.drafts.Line.{Line}
use Rattle.bytecode_listing.specs.declared.drafts.Line.TheVariants.{Label, Step}
use Rattle.bytecode_listing.specs.Labels.{count, place_of, double_after}
use Rattle.bytecode_listing.proofs.Resolving.{take_line, drop_line, count_taken, count_label, count_step, place_past_step, place_more, single_more, double_here}
use Rattle.bytecode_listing.proofs.labels.places_of.Goals as goal
use Rattle.bytecode_listing.proofs.labels.places_of.Goals.{in-Label+else-contains_key+in_ok-insert-in-Label, in-Step}

abbrev lookup : BTreeMap (Bor (List ℕ)) ℕ → List ℕ → Option ℕ
lookup places name = get_by (λ (key : Bor (List ℕ)). slice_cmp nat_cmp name key.now) places

pub returns-then-contains_key : goal.returns-then-contains_key
returns-then-contains_key c = λ left same.
    let i : ℕ = c.lines.line-index in
    let lines : List Line = c.args.lines.now in
    let key : List ℕ = c.as_slice-name.result.now in
    let here : Line = Label key c.in-Label.left in
    let at = sym c.line-item.is ∙ c.in-Label.is ∙ ap (λ n. Label n c.in-Label.left) (sym c.as_slice-name.ensures) in
    let left_over : drop i lines ≡ here ∷ drop (i + 1) lines = drop_line lines i c.line-item.result here c.lines-test.true at in
    let old : is_some (place_of (take i lines) key) ≡ true = sym (c.contains_key.ensures ∙ ap is_some (c.lines.invariant.known key)) ∙ c.if-contains_key.true in
    let equal : c.in-Label.left ≡ left = cc in
    double_here (take i lines) (drop (i + 1) lines) key c.in-Label.left (double_after [] lines) old (ap (double_after (take i lines)) (sym left_over) ∙ c.lines.invariant.single)
    ∙ ap Some equal

pub overflow_add-place : goal.overflow_add-place
overflow_add-place c =
    let within : c.lines.place ≤ c.lines.line-index = subst (λ (n : ℕ). n ≤ c.lines.line-index) (sym c.lines.invariant.counted) (count_taken c.args.lines.now c.lines.line-index) in
    first_of (search rules, grind (arith, common_steps))

pub lines-preserved : goal.lines-preserved
lines-preserved c = elim c.match-line.branch [
  | in-Label+else-contains_key+in_ok-insert-in-Label w ↦
      (let i : ℕ = c.lines.line-index in
      let lines : List Line = c.args.lines.now in
      let key : List ℕ = w.as_slice-name.result.now in
      let here : Line = Label key w.in-Label.left in
      let at = sym c.line-item.is ∙ w.in-Label.is ∙ ap (λ n. Label n w.in-Label.left) (sym w.as_slice-name.ensures) in
      let taken : take (i + 1) lines ≡ take i lines ++ here ∷ [] = take_line lines i c.line-item.result here c.lines-test.true at in
      let left_over : drop i lines ≡ here ∷ drop (i + 1) lines = drop_line lines i c.line-item.result here c.lines-test.true at in
      let new : is_some (place_of (take i lines) key) ≡ false = sym (w.contains_key.ensures ∙ ap is_some (c.lines.invariant.known key)) ∙ w.if-contains_key.false in
      record {
        counted = w.place-is ∙ c.lines.invariant.counted ∙ sym (count_label (take i lines) key w.in-Label.left) ∙ ap count (sym taken);
        known = λ name. ap (λ m. lookup m name) w.places-is
            ∙ btree_map_updates_str key c.lines.places w.insert.new.self _ w.in_ok-insert-in-Label.ensures.updates name
            ∙ place_more (take i lines) key w.in-Label.left c.lines.place (lookup c.lines.places) name c.lines.invariant.counted new (c.lines.invariant.known name)
            ∙ ap (λ l. place_of l name) (sym taken);
        single = ap (λ l. double_after l (drop (i + 1) lines)) taken
            ∙ single_more (take i lines) (drop (i + 1) lines) key w.in-Label.left (double_after [] lines) new (ap (double_after (take i lines)) (sym left_over) ∙ c.lines.invariant.single);
      })
  | in-Step w ↦
      (let i : ℕ = c.lines.line-index in
      let lines : List Line = c.args.lines.now in
      let here : Line = Step w.in-Step.field-0 in
      let at = sym c.line-item.is ∙ w.in-Step.is in
      let taken : take (i + 1) lines ≡ take i lines ++ here ∷ [] = take_line lines i c.line-item.result here c.lines-test.true at in
      let left_over : drop i lines ≡ here ∷ drop (i + 1) lines = drop_line lines i c.line-item.result here c.lines-test.true at in
      let more : c.lines.place + 1 ≡ count (take (i + 1) lines) = omega (arith, c.lines.invariant.counted, count_step (take i lines) w.in-Step.field-0, ap count taken) in
      record {
        counted = w.place-is ∙ more;
        known = λ name. ap (λ m. lookup m name) w.places-is ∙ c.lines.invariant.known name ∙ sym (place_past_step 0 (take i lines) w.in-Step.field-0 name) ∙ ap (λ l. place_of l name) (sym taken);
        single = ap (λ l. double_after l (drop (i + 1) lines)) taken ∙ ap (double_after (take i lines)) (sym left_over) ∙ c.lines.invariant.single;
      })
]
