-- The field a in words is read as it is written: each of its 256 numbers, by computation.
use Rattle.std.proofs.Common.{◌≡◌, ℕ, ◌<◌, ◌==◌, Bool, true, false, List, [], ◌∷◌, Option, Some, None, refl, ap, subst, eqb-true}
use Rattle.std.proofs.lemmas.Bool.{agree_below_at}
use Rattle.bytecode_format.specs.declared.operation.Operation.{Operation}
use Rattle.bytecode_verifier.specs.Rows.{row_of}
use Rattle.bytecode_verifier.specs.declared.row.Range.{Range}
use Rattle.bytecode_verifier.specs.declared.row.Range.TheVariants as ranges
use Rattle.bytecode_listing.specs.Wording.{a_words}
use Rattle.bytecode_listing.specs.Tokens.{tokens_from, tokens_of}
use Rattle.bytecode_listing.specs.Items.{Said, facet_at, match_at, selection_at, worded_as, worded_at}

-- all was read, as this number
is_said : ℕ → Said → Bool
is_said a (None, rest) = false
is_said a (Some n, []) = n == a
is_said a (Some n, token ∷ rest) = false

is_read : Range → ℕ → Option (List ℕ) → Bool
is_read range a None = true
is_read range a (Some words) = is_said a (worded_as range (tokens_of words))

reads : Range → ℕ → Bool
reads range a = is_read range a (a_words range a)

each_field_test : (a : ℕ) → a < 256 → reads ranges.FieldTest a ≡ true
unfolding reads is_read is_said tokens_from facet_at match_at selection_at
each_field_test a h = agree_below_at (reads ranges.FieldTest) (λ _. true) 256 a refl h

each_scope : (a : ℕ) → a < 256 → reads ranges.Scope a ≡ true
unfolding reads is_read is_said tokens_from facet_at
each_scope a h = agree_below_at (reads ranges.Scope) (λ _. true) 256 a refl h

each_match : (a : ℕ) → a < 256 → reads ranges.Match a ≡ true
unfolding reads is_read is_said tokens_from facet_at match_at
each_match a h = agree_below_at (reads ranges.Match) (λ _. true) 256 a refl h

each : (range : Range) (a : ℕ) → a < 256 → reads range a ≡ true
unfolding reads is_read
each ranges.FieldTest a h = each_field_test a h
each ranges.Scope a h = each_scope a h
each ranges.Match a h = each_match a h
each _ a h = refl

said_is : (a : ℕ) (said : Said) → is_said a said ≡ true → said ≡ (Some a, [])
unfolding is_said
said_is a (None, rest) h = absurd cc
said_is a (Some n, []) h = ap (λ n. let s : Said = (Some n, []) in s) (eqb-true n a h)
said_is a (Some n, token ∷ rest) h = absurd cc

pub said_again : (operation : Operation) (a : ℕ) (words : List ℕ) → a < 256 → a_words (row_of operation).a a ≡ Some words → worded_at (Some operation) (tokens_of words) ≡ (Some a, [])
unfolding reads is_read
said_again operation a words h e =
    said_is a (worded_as (row_of operation).a (tokens_of words)) (subst (λ (o : Option (List ℕ)). is_read (row_of operation).a a o ≡ true) e (each (row_of operation).a a h))
