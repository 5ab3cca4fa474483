-- What is known of a search behind a star, from segment to segment.
use Rattle.std.proofs.Common.{◌≡◌, ℕ, ◌+◌, ◌*◌, ◌≤◌, List, ◌∷◌, ◌++◌, length, take, drop, ◌-◌, Option, Some, None, MatchOption, Bor, sym, ap, subst, ◌∙◌, arith}
use Rattle.std.proofs.Math.Nat.{mul-le-mul_right}
use Rattle.std.proofs.lemmas.List.{length-drop, take_rest}
use Rattle.std.specs.Option.{option_map}
use Rattle.glob_match.specs.declared.captures.Stretch.{Stretch}
use Rattle.glob_match.specs.declared.comparator.Comparator.{Comparator}
use Rattle.glob_match.specs.declared.token.Token.TheVariants.{Star}
use Rattle.glob_match.specs.Captures.{stretch_at}
use Rattle.glob_match.specs.Containment.{begins_with, first_place}
use Rattle.glob_match.specs.Matching.{least_fit, max_captures}
use Rattle.glob_match.specs.Segments.{NoStar, any_places, with_places, with_stretches}
use Rattle.glob_match.specs.Tokens.{literals, tokens_of}
use Rattle.glob_match.proofs.Segmented.{length-tokens_of}
use Rattle.glob_match.proofs.Steps.{literals-append, literals_most, next_found, next_within}

-- Behind a star of a key `rest` is left, and from `start` on the value: with the captures so far they give what is wanted.
pub record IsSearched (comparator : Comparator) (value key : List ℕ) (wanted : Option (List Stretch))
    (rest : List ℕ) (captures : List Stretch) (start gone_over : ℕ) : Type 0 where
  pub within : start ≤ length value
  pub few : length captures ≤ max_captures
  pub answer : option_map (with_places captures start (Star ∷ tokens_of rest)) (least_fit comparator (Star ∷ tokens_of rest) (drop start value)) ≡ wanted
  pub most : gone_over + (length value + 1) * (length rest + 1) ≤ (length value + 1) * (length key + 1)
  pub least : literals (tokens_of key) ≤ gone_over + literals (tokens_of rest)

-- what a split says where there is a star, and where there is none
module _ (key segment : List ℕ) (o : Option (Bor (List ℕ))) where
  abbrev tokens_split : Option (Bor (List ℕ)) → Type 0
  tokens_split o = MatchOption o (tokens_of key ≡ tokens_of segment) (λ rest. tokens_of key ≡ tokens_of segment ++ Star ∷ tokens_of rest.now)

  abbrev lengths_split : Option (Bor (List ℕ)) → Type 0
  lengths_split o = MatchOption o (length key ≡ length segment) (λ rest. length key ≡ length segment + (1 + length rest.now))

  pub split_end : o ≡ None → tokens_split o → tokens_of key ≡ tokens_of segment
  split_end is = subst tokens_split is

  pub split_next : (next : Bor (List ℕ)) → o ≡ Some next → tokens_split o → tokens_of key ≡ tokens_of segment ++ Star ∷ tokens_of next.now
  split_next next is = subst tokens_split is

  pub split_lengths : (next : Bor (List ℕ)) → o ≡ Some next → lengths_split o → length key ≡ length segment + (1 + length next.now)
  split_lengths next is = subst lengths_split is

module _ (comparator : Comparator) (value key : List ℕ) (wanted : Option (List Stretch))
    (rest : List ℕ) (captures : List Stretch) (start gone_over : ℕ)
    (so_far : IsSearched comparator value key wanted rest captures start gone_over)
    (segment : List ℕ) (no_star : NoStar (tokens_of segment)) where
  -- the last segment
  pub ended_literals : tokens_of rest ≡ tokens_of segment → literals (tokens_of key) ≤ gone_over + length segment
  ended_literals tokens = omega (arith, so_far.least, ap literals tokens, literals_most (tokens_of segment), length-tokens_of segment)

  -- a search in what is left
  pub placed : (k : ℕ) (found : Option ℕ) → found ≡ Some k
      → found ≡ first_place (begins_with comparator (tokens_of segment)) (take (length value - start) (drop start value))
      → Some k ≡ first_place (begins_with comparator (tokens_of segment)) (drop start value)
  placed k found is place = sym is ∙ place ∙ ap (first_place (begins_with comparator (tokens_of segment))) (take_rest value start)

  pub placed_within : (k : ℕ) (found : Option ℕ) → found ≡ Some k
      → found ≡ first_place (begins_with comparator (tokens_of segment)) (take (length value - start) (drop start value))
      → start + k + length (tokens_of segment) ≤ length value
  placed_within k found is place =
      next_within comparator value (tokens_of segment) no_star start captures so_far.within k (placed k found is place)

  module _ (next : List ℕ) (tokens : tokens_of rest ≡ tokens_of segment ++ Star ∷ tokens_of next)
      (lengths : length rest ≡ length segment + (1 + length next)) (more : ℕ)
      (most : more ≤ (length (drop start value) + 1) * (length segment + 1)) (least : length segment ≤ more) where
    pub more_gone_over : (gone_over + more) + (length value + 1) * (length next + 1) ≤ (length value + 1) * (length key + 1)
    more_gone_over =
        let shorter : length (drop start value) + 1 ≤ length value + 1 = omega (arith, length-drop start value) in
        omega (arith, so_far.most, most, mul-le-mul_right (length segment + 1) shorter, ap (λ n. (length value + 1) * (n + 1)) lengths)

    more_literals : literals (tokens_of key) ≤ (gone_over + more) + literals (tokens_of next)
    more_literals =
        omega (arith, so_far.least, ap literals tokens, literals-append (tokens_of segment) (Star ∷ tokens_of next), literals_most (tokens_of segment), length-tokens_of segment)

    -- a segment that stands at place k of what is left, up to the place stop of the value
    pub searched_more : (k stop : ℕ) → Some k ≡ first_place (begins_with comparator (tokens_of segment)) (drop start value)
        → stop ≡ start + k + length (tokens_of segment) → (new : List Stretch) → length new ≤ max_captures
        → new ≡ with_stretches captures (stretch_at start k ∷ any_places (start + k) (tokens_of segment))
        → IsSearched comparator value key wanted next new stop (gone_over + more)
    searched_more k stop place ends new few e =
        let sum : stop ≡ start + (k + length (tokens_of segment)) = omega (arith, ends) in
        record {
          within = omega (arith, sum, next_within comparator value (tokens_of segment) no_star start captures so_far.within k place);
          few = few;
          answer =
              ap (λ cs. option_map (with_places cs stop (Star ∷ tokens_of next)) (least_fit comparator (Star ∷ tokens_of next) (drop stop value))) e
              ∙ ap (λ n. option_map (with_places (with_stretches captures (stretch_at start k ∷ any_places (start + k) (tokens_of segment))) n (Star ∷ tokens_of next))
              (least_fit comparator (Star ∷ tokens_of next) (drop n value))) sum
              ∙ next_found comparator value (tokens_of segment) no_star start captures so_far.within k place (tokens_of next)
              ∙ ap (λ ts. option_map (with_places captures start (Star ∷ ts)) (least_fit comparator (Star ∷ ts) (drop start value))) (sym tokens)
              ∙ so_far.answer;
          most = more_gone_over;
          least = more_literals;
        }
