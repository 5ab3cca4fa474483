use Rattle.std.proofs.Common.{◌≡◌, ◌∙◌, ap, refl, List, ℕ, Option, Some, None, [], option_map, unwrap_or}
use Rattle.std.specs.Borrow.{Bor}
use Rattle.clap.proofs.WalkLemmas.{first_value-rows}
use Rattle.clap.specs.Words.{found_of}
use Rattle.depot_jobs.proofs.arguments.argument.Goals as goal

text_or_empty : (o : Option (Bor (List ℕ))) (e : Bor (List ℕ)) (t : Option (List ℕ)) → e.now ≡ [] → option_map (λ s. s.now) o ≡ t → (unwrap_or o e).now ≡ unwrap_or t []
text_or_empty None e t empty is = empty ∙ ap (λ (x : Option (List ℕ)). unwrap_or x []) is
text_or_empty (Some s) e t empty is = ap (λ (x : Option (List ℕ)). unwrap_or x []) is

pub returns : goal.returns
returns c = ap (λ (s : Bor (List ℕ)). s.now) c.unwrap_or.ensures ∙ text_or_empty c.get_str.result _ _ refl (c.get_str.ensures ∙ first_value-rows (found_of c.args.matches.now) c.args.name.now)
