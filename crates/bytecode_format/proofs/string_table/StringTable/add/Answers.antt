use Rattle.std.proofs.Common.{◌≡◌, ℕ, bytes_eq, List, [], ◌∷◌, ◌++◌, map, length, is_some, refl, sym, ap, ◌∙◌}
use Rattle.std.specs.Borrow.{Bor}
use Rattle.std.proofs.lemmas.Cmp.{nat_list_eq_equiv}
use Rattle.std.proofs.lemmas.List.{map-append, length-map}
use Rattle.std.proofs.lemmas.Map.Text.{btree_map_updates_str}
use Rattle.octets.specs.Once.{found_in, is_listed, with_one}
use Rattle.octets.proofs.Once.{found_listed, found_insert, listed_kept, unlisted_added}
use Rattle.bytecode_format.proofs.string_table.StringTable.add.Goals as goal

abbrev texts : List (Bor (List ℕ)) → List (List ℕ)
texts items = map (λ (text : Bor (List ℕ)). text.now) items

pub returns-then-contains_key-clause-ok : goal.returns-then-contains_key-clause-ok
returns-then-contains_key-clause-ok c =
    let all = texts c.self.inside.listed.items in
    let found : c.contains_key.result ≡ is_listed bytes_eq c.args.text.now all =
    c.contains_key.ensures ∙ ap is_some (c.self.invariant c.args.text.now) ∙ found_listed bytes_eq all c.args.text.now in
    sym c.self.view_is ∙ listed_kept bytes_eq all c.args.text.now (sym found ∙ c.if-contains_key.true) ∙ ap (λ l. with_one bytes_eq l c.args.text.now) c.self.view_is

pub invariant_of-self-2 : goal.invariant_of-self-2
invariant_of-self-2 c = λ q.
    let all = texts c.self.inside.listed.items in
    let found : c.contains_key.result ≡ is_listed bytes_eq c.args.text.now all =
    c.contains_key.ensures ∙ ap is_some (c.self.invariant c.args.text.now) ∙ found_listed bytes_eq all c.args.text.now in
    let added : c.push.new.self.items ≡ c.self.inside.listed.items ++ c.args.text ∷ [] =
    rw c.unwrap.ensures at c.push.ensures.items ∙ ap (λ l. l ++ c.args.text ∷ []) c.in_ok-reserve.ensures.items in
    let place : c.len.result ≡ length all =
    c.len.ensures ∙ c.reserve.new.self.ok.0 ∙ ap length c.in_ok-reserve.ensures.items ∙ sym (length-map c.self.inside.listed.items (λ (text : Bor (List ℕ)). text.now)) in
    let moved = btree_map_updates_str c.args.text.now c.self.inside.places c.insert.new.self _ c.in_ok-insert.ensures.updates q in
    moved
    ∙ rw place (found_insert bytes_eq nat_list_eq_equiv all c.args.text.now q (bytes_eq c.args.text.now q) _ (sym found ∙ c.if-contains_key.false) refl (c.self.invariant q))
    ∙ ap (λ l. found_in bytes_eq l q) (sym (ap texts added ∙ map-append (λ (text : Bor (List ℕ)). text.now) c.self.inside.listed.items (c.args.text ∷ [])))

pub returns-clause-ok : goal.returns-clause-ok
returns-clause-ok c =
    let all = texts c.self.inside.listed.items in
    let found : c.contains_key.result ≡ is_listed bytes_eq c.args.text.now all =
    c.contains_key.ensures ∙ ap is_some (c.self.invariant c.args.text.now) ∙ found_listed bytes_eq all c.args.text.now in
    let added : c.push.new.self.items ≡ c.self.inside.listed.items ++ c.args.text ∷ [] =
    rw c.unwrap.ensures at c.push.ensures.items ∙ ap (λ l. l ++ c.args.text ∷ []) c.in_ok-reserve.ensures.items in
    ap texts added ∙ map-append (λ (text : Bor (List ℕ)). text.now) c.self.inside.listed.items (c.args.text ∷ []) ∙ unlisted_added bytes_eq all c.args.text.now (sym found ∙ c.if-contains_key.false) ∙ ap (λ l. with_one bytes_eq l c.args.text.now) c.self.view_is
