-- The names of variables, as they are met.
use Rattle.std.proofs.Common.{◌≡◌, ℕ, ◌+◌, ◌<◌, true, false, ◌||◌, bytes_eq, List, [], ◌∷◌, ◌++◌, length, drop, take, get_or, refl, sym, ap, ◌∙◌, arith, length-append, add-one}
use Rattle.std.proofs.Math.Seq.{drop-cons}
use Rattle.std.specs.Prelude.{Result, Ok, Err}
use Rattle.std.specs.Borrow.{Bor}
use Rattle.std.proofs.lemmas.List.{length-map, map-append, take-append-le, take_all}
use Rattle.octets.specs.Ascii.{lowercase_of}
use Rattle.octets.specs.Limits.{max_variables}
use Rattle.octets.specs.Once.{is_listed, with_more}
use Rattle.octets.proofs.Once.{more_after, unlisted_added}
use Rattle.sieve_check.specs.declared.causes.ReasonKind.{ReasonKind}
use Rattle.sieve_check.specs.Refusing.{Adds, Overflows, shown}
use Rattle.sieve_check.proofs.OnceSteps.{grows, kept_more}

-- ---- whether a name is among them

at_index : (name : List ℕ) (names : List (Bor (List ℕ))) (i : ℕ) (d : Bor (List ℕ)) → i < length names
    → is_listed bytes_eq (lowercase_of name) (shown (drop i names)) ≡ (bytes_eq (lowercase_of name) (lowercase_of (get_or names i d).now) || is_listed bytes_eq (lowercase_of name) (shown (drop (i + 1) names)))
at_index name names i d lt = ap (λ l. is_listed bytes_eq (lowercase_of name) (shown l)) (drop-cons names i d lt ∙ ap (λ n. get_or names i d ∷ drop n names) (sym (add-one i)))

pub found_at_index : (name : List ℕ) (names : List (Bor (List ℕ))) (i : ℕ) (d : Bor (List ℕ)) → i < length names → bytes_eq (lowercase_of name) (lowercase_of (get_or names i d).now) ≡ true
    → is_listed bytes_eq (lowercase_of name) (shown (drop i names)) ≡ true
found_at_index name names i d lt same = at_index name names i d lt ∙ ap (λ b. b || is_listed bytes_eq (lowercase_of name) (shown (drop (i + 1) names))) same

pub passed_at_index : (name : List ℕ) (names : List (Bor (List ℕ))) (i : ℕ) (d : Bor (List ℕ)) → i < length names → bytes_eq (lowercase_of name) (lowercase_of (get_or names i d).now) ≡ false
    → is_listed bytes_eq (lowercase_of name) (shown (drop (i + 1) names)) ≡ is_listed bytes_eq (lowercase_of name) (shown (drop i names))
passed_at_index name names i d lt differs =
    sym (at_index name names i d lt ∙ ap (λ b. b || is_listed bytes_eq (lowercase_of name) (shown (drop (i + 1) names))) differs)

-- ---- names that are added

pub added_kept : (names : List (List ℕ)) (name : List ℕ) → is_listed bytes_eq name names ≡ true → names ≡ with_more bytes_eq names (name ∷ [])
added_kept names name listed = sym (rw listed refl)

pub added_new : (names : List (List ℕ)) (name : List ℕ) → is_listed bytes_eq name names ≡ false → names ++ name ∷ [] ≡ with_more bytes_eq names (name ∷ [])
added_new names name fresh = unlisted_added bytes_eq names name fresh

pub shown_push : (names more : List (Bor (List ℕ))) (name : Bor (List ℕ)) → more ≡ names ++ name ∷ [] → shown more ≡ shown names ++ lowercase_of name.now ∷ []
shown_push names more name is = ap shown is ∙ map-append (λ (name : Bor (List ℕ)). lowercase_of name.now) names (name ∷ [])

pub shown_len : (names : List (Bor (List ℕ))) → length (shown names) ≡ length names
shown_len names = length-map names (λ (name : Bor (List ℕ)). lowercase_of name.now)

-- too many of the first are too many of both
pub many_with_more : (names first second after : List (List ℕ)) → Overflows names first after → Overflows names (first ++ second) after
many_with_more names first second after many =
    let both = more_after bytes_eq names first second in
    record {
      many = omega (arith, many.many, grows bytes_eq (with_more bytes_eq names first) second, ap length both);
      kept = many.kept ∙ sym (kept_more bytes_eq max_variables (with_more bytes_eq names first) second (omega (arith, many.many))) ∙ ap (take max_variables) (sym both);
    }

-- the same names with more of them
same_overflow : (names more others ns after : List (List ℕ)) → with_more bytes_eq names more ≡ with_more bytes_eq ns others → Overflows names more after → Overflows ns others after
same_overflow names more others ns after is many = record {
  many = omega (arith, many.many, ap length is);
  kept = many.kept ∙ ap (take max_variables) is;
}

-- one more than there may be
pub full_overflows : (names : List (List ℕ)) (name : List ℕ) → is_listed bytes_eq name names ≡ false → length names ≡ max_variables → Overflows names (name ∷ []) names
full_overflows names name fresh full =
    let added = added_new names name fresh in
    record {
      many = omega (arith, full, ap length added, length-append names (name ∷ []));
      kept = sym (ap (take max_variables) (sym added) ∙ take-append-le max_variables names (name ∷ []) (omega (arith, full)) ∙ take_all max_variables names (omega (arith, full)));
    }

-- names and then others
module _ {A : Type 0} where
  pub adds_both : (names first second between : List (List ℕ)) (result : Result A ReasonKind) (after : List (List ℕ)) → between ≡ with_more bytes_eq names first
      → Adds between second result after → Adds names (first ++ second) result after
  adds_both names first second between (Ok x) after is adds = adds ∙ ap (λ l. with_more bytes_eq l second) is ∙ sym (more_after bytes_eq names first second)
  adds_both names first second between (Err e) after is adds =
      let both : with_more bytes_eq between second ≡ with_more bytes_eq names (first ++ second) = ap (λ l. with_more bytes_eq l second) is ∙ sym (more_after bytes_eq names first second) in
      (adds.0, same_overflow between second (first ++ second) names after both adds.1)

-- where names after others come to too many, all of them do
pub many_of_all : (now first left start all after : List (List ℕ)) → with_more bytes_eq now (first ++ left) ≡ with_more bytes_eq start all → Overflows now first after → Overflows start all after
many_of_all now first left start all after is many = same_overflow now (first ++ left) all start after is (many_with_more now first left after many)

-- where the names are so far that, with those that are left, they are those with all of them: one step further
pub further : (now first left start all after : List (List ℕ)) → with_more bytes_eq now (first ++ left) ≡ with_more bytes_eq start all → after ≡ with_more bytes_eq now first
    → with_more bytes_eq after left ≡ with_more bytes_eq start all
further now first left start all after is added = ap (λ l. with_more bytes_eq l left) added ∙ sym (more_after bytes_eq now first left) ∙ is
