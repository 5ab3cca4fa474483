-- Private: texts that several may hold.
use Rattle.std.specs.Prelude.{◌≡◌, ℕ, List, [], Option, None, IfSome, slice_index_or}
use Rattle.sieve_vm.specs.declared.shared_text.SharedText.{SharedText}
use Rattle.sieve_vm.specs.declared.shared_text.SharedText.TheVariants.{Lent, Shared}

-- the octets of such a text
abbrev pub items_of : SharedText → List ℕ
items_of (Lent octets) = octets.now
items_of (Shared octets) = octets.value.items

-- the texts that were made of captures are those of the captures
abbrev pub AreMade : List (Option SharedText) → List (List ℕ) → Type 0
AreMade texts captures = (number : ℕ)
    → IfSome (slice_index_or texts number None) (λ text. items_of text ≡ slice_index_or captures number [])
