use Rattle.std.proofs.Common.{◌≡◌, ◌∙◌, ℕ, List, subst}
use Rattle.std.specs.Prelude.{IfOk}
use Rattle.sieve_explain.specs.Explaining.{printed}
use Rattle.sieve_explain.specs.Notes.{notes_of}
use Rattle.sieve_explain.proofs.NoteLemmas.{listed_first}
use Rattle.sieve_explain.proofs.explaining.notes_told.Goals as goal

pub returns : goal.returns
returns c =
    let same = listed_first c.args.source.now.octets.now c.deref.result.now (notes_of c.args.source.now.octets.now c.args.tokens.now) (c.deref.ensures.value ∙ c.in_ok-found.ensures) in
    subst (λ (told : List (List ℕ)). IfOk c.listed_told.result (λ text. text.items ≡ printed c.args.source.now.name.now told)) same c.listed_told.ensures
