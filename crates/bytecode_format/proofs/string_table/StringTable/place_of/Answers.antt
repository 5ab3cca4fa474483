use Rattle.std.proofs.Common.{◌≡◌, ◌≤◌, ℕ, bytes_eq, List, length, sym, ap, subst, ◌∙◌}
use Rattle.std.specs.Borrow.{Bor}
use Rattle.std.proofs.lemmas.List.{length-map}
use Rattle.octets.specs.Once.{place_in}
use Rattle.octets.proofs.Once.{found_at, place_within}
use Rattle.bytecode_format.proofs.string_table.StringTable.place_of.Goals as goal

pub returns-clause-place : goal.returns-clause-place
returns-clause-place c =
    let number : c.len.result ≡ length c.args.self.now =
    c.len.ensures ∙ c.self.inside.listed.ok.0 ∙ sym (length-map c.self.inside.listed.items (λ (text : Bor (List ℕ)). text.now)) ∙ ap length c.self.view_is in
    c.unwrap_or.ensures ∙ found_at bytes_eq c.args.self.now c.args.text.now c.get.result c.len.result c.get.ensures number

pub returns-clause-within : goal.returns-clause-within
returns-clause-within c =
    let place : c.unwrap_or.result ≡ place_in bytes_eq c.args.self.now c.args.text.now = returns-clause-place c in
    subst (λ (n : ℕ). n ≤ length c.args.self.now) (sym place) (place_within bytes_eq c.args.self.now c.args.text.now)
