use Rattle.std.proofs.Common.{◌≡◌, ℕ, bytes_eq, OnOk, List, [], ◌∷◌, map, false, is_some, sym, ap, subst, ◌∙◌}
use Rattle.std.specs.Borrow.{Bor}
use Rattle.std.proofs.lemmas.List.{map-append}
use Rattle.octets.specs.Once.{found_in, is_listed}
use Rattle.octets.proofs.Once.{found_listed, unlisted_added}
use Rattle.bytecode_format.proofs.StringLemmas.{found_again}
use Rattle.bytecode_format.proofs.string_table.StringTable.push.Goals as goal

abbrev texts : List (Bor (List ℕ)) → List (List ℕ)
texts items = map (λ (text : Bor (List ℕ)). text.now) items

pub invariant_of-self-then-contains_key : goal.invariant_of-self-then-contains_key
invariant_of-self-then-contains_key c = λ q.
    let all = texts c.self.inside.listed.items in
    let found : c.contains_key.result ≡ is_listed bytes_eq c.args.text.now all =
    c.contains_key.ensures ∙ ap is_some (c.self.invariant c.args.text.now) ∙ found_listed bytes_eq all c.args.text.now in
    c.self.invariant q
    ∙ sym (found_again all c.args.text.now q (sym found ∙ c.if-contains_key.true))
    ∙ ap (λ l. found_in bytes_eq l q) (sym (ap texts c.in_ok-push.ensures.items ∙ map-append (λ (text : Bor (List ℕ)). text.now) c.self.inside.listed.items (c.args.text ∷ [])))

pub returns-clause-ok : goal.returns-clause-ok
returns-clause-ok c =
    let all = texts c.self.inside.listed.items in
    let found : c.contains_key.result ≡ is_listed bytes_eq c.args.text.now all =
    c.contains_key.ensures ∙ ap is_some (c.self.invariant c.args.text.now) ∙ found_listed bytes_eq all c.args.text.now in
    let fresh : is_listed bytes_eq c.args.text.now c.args.self.now ≡ false = ap (is_listed bytes_eq c.args.text.now) (sym c.self.view_is) ∙ sym found ∙ c.if-contains_key.false in
    subst (λ l. OnOk c.add.result (c.add.new.self ≡ l)) (sym (unlisted_added bytes_eq c.args.self.now c.args.text.now fresh)) c.add.ensures.ok
