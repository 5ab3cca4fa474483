use Rattle.std.proofs.Common.{◌≡◌, ℕ, Bool, true, false, List, [], Option, Some, unwrap_or, bytes_eq, refl, ap, ◌∙◌, cond}
use Rattle.std.proofs.lemmas.Map.Text.{btree_map_updates_str}
use Rattle.sieve_meaning.proofs.variables.Variables.set.Goals as goal

-- a value that is chosen before it is looked at
chosen : (b : Bool) (value : List ℕ) (others : Option (List ℕ)) → unwrap_or (cond b (Some value) others) [] ≡ cond b value (unwrap_or others [])
chosen true value others = refl
chosen false value others = refl

pub returns : goal.returns
returns c = λ other.
    let moved = btree_map_updates_str c.args.name.now c.args.self.now.values c.insert.new.self (Some c.args.value) c.in_ok-insert.ensures.updates other in
    ap (λ found. unwrap_or found []) moved ∙ chosen (bytes_eq c.args.name.now other) c.args.value _
