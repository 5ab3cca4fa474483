-- Printed texts.
use Rattle.std.proofs.Common.{◌≡◌, ◌<◌, ℕ, List, [], ◌∷◌, arith, length, refl, true}
use Rattle.std.specs.List.{flat_map, list_all}
use Rattle.std.proofs.lemmas.List.Concat.{flat_map-cons}
use Rattle.bytecode_format.specs.declared.action.Action.{Action}
use Rattle.printing.specs.Printed.{action_text, actions_text, escaped, escaped_octet, is_plain, line}
use Rattle.printing.specs.declared.piece.Setting.{Setting}

-- plain octets are printed as they are
pub plain_escaped : (setting : Setting) (xs : List ℕ) → list_all (is_plain setting) xs ≡ true → escaped setting xs ≡ xs
plain_escaped setting [] plain = refl
plain_escaped setting (x ∷ xs) plain = grind (arith, flat_map-cons (escaped_octet setting) x xs, plain_escaped setting xs)

-- where there is an action, there is a line for each
pub some_actions : (xs : List Action) (i : ℕ) → i < length xs → actions_text xs ≡ flat_map (λ a. line (action_text a)) xs
some_actions [] i within = absurd (omega arith)
some_actions (x ∷ xs) i within = refl
