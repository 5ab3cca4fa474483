-- Visits, one after another.
use Rattle.std.proofs.Common.{◌≡◌, ℕ, ◌≤◌, nat_lt, bytes_eq, true, false, if◌then◌else◌, List, [], ◌∷◌, ◌++◌, length, map, take, Some, None, refl, sym, ap, subst, ◌∙◌, ◌≢◌, arith, length-append}
use Rattle.std.specs.Prelude.{is_some}
use Rattle.std.proofs.lemmas.Bool.{le-ltb}
use Rattle.std.proofs.lemmas.List.{append-nil, append_assoc, length-map, map-append, take_all}
use Rattle.arrayvec.specs.ArrayVec.{ArrayVec}
use Rattle.octets.specs.Limits.{max_variables}
use Rattle.octets.specs.Once.{is_listed, with_one, with_more}
use Rattle.octets.proofs.Once.{listed_kept, more_after, unlisted_added}
use Rattle.sieve_check.specs.declared.causes.Refused.{Refused}
use Rattle.sieve_check.specs.declared.findings.Findings.{Findings}
use Rattle.sieve_check.specs.Causes as causes
use Rattle.sieve_check.specs.Causes.{refused_for}
use Rattle.sieve_check.specs.ReasonView.{refused_view}
use Rattle.sieve_check.specs.Refusing.{AreNoted, AreVisited, listed, names_after, refused_in}
use Rattle.sieve_check.specs.Rules.{Visit, max_found, names_past, names_with, causes_by, refused_after, refused_among, same_reason}
use Rattle.sieve_check.proofs.NameSteps.{shown_len}
use Rattle.sieve_check.proofs.OnceSteps.{kept_one, more_of_first}

-- what is refused of visits after others, and the names after both
refused_of_both : (names : List (List ℕ)) (vs ws : List Visit) → refused_among names (vs ++ ws) ≡ refused_among names vs ++ refused_among (names_after names vs) ws
refused_of_both names [] ws = refl
refused_of_both names (v ∷ vs) ws =
    let own = refused_after names v in
    ap (λ l. own ++ l) (refused_of_both (names_past names v) vs ws)
    ∙ sym (append_assoc own (refused_among (names_past names v) vs) (refused_among (names_after (names_past names v) vs) ws))

names_of_both : (names : List (List ℕ)) (vs ws : List Visit) → names_after names (vs ++ ws) ≡ names_after (names_after names vs) ws
names_of_both names [] ws = refl
names_of_both names (v ∷ vs) ws = names_of_both (names_past names v) vs ws

-- what was refused, once some visits were made and others are left
refused_then : (old between : Findings) (vs ws : List Visit) → AreVisited old vs between
    → take max_found (with_more same_reason (refused_in between) (refused_among (listed between.names) ws)) ≡ take max_found (with_more same_reason (refused_in old) (refused_among (listed old.names) (vs ++ ws)))
refused_then old between vs ws first =
    let here = refused_among (listed old.names) vs in
    let later = refused_among (names_after (listed old.names) vs) ws in
    ap (λ l. take max_found (with_more same_reason l (refused_among (listed between.names) ws))) first.refused
    ∙ ap (λ l. take max_found (with_more same_reason (take max_found (with_more same_reason (refused_in old) here)) (refused_among l ws))) first.names
    ∙ more_of_first same_reason max_found (with_more same_reason (refused_in old) here) later
    ∙ ap (take max_found) (sym (more_after same_reason (refused_in old) here later))
    ∙ ap (λ l. take max_found (with_more same_reason (refused_in old) l)) (sym (refused_of_both (listed old.names) vs ws))

names_then : (old between : Findings) (vs ws : List Visit) → AreVisited old vs between → names_after (listed between.names) ws ≡ names_after (listed old.names) (vs ++ ws)
names_then old between vs ws first = ap (λ l. names_after l ws) first.names ∙ sym (names_of_both (listed old.names) vs ws)

-- visits that are those and then others
pub both_visited : (old between new : Findings) (all vs ws : List Visit) → all ≡ vs ++ ws → AreVisited old vs between → AreVisited between ws new → AreVisited old all new
both_visited old between new all vs ws is first second =
    subst (λ (l : List Visit). AreVisited old l new) (sym is)
    record { names = second.names ∙ names_then old between vs ws first; refused = second.refused ∙ refused_then old between vs ws first }

-- what was refused is within the limit
all_in : (old : Findings) → take max_found (refused_in old) ≡ refused_in old
all_in old = take_all max_found (refused_in old) (omega (arith, old.few, length-map old.refused.items refused_view))

-- one more that is refused, where there is room for something else, where there is none, and where it is lacking already
pub refused_more : (old : Findings) (items : List Refused) (found : Refused) (is : causes.Refused) → items ≡ old.refused.items ++ found ∷ [] → length old.refused.items ≢ 21 → is_listed same_reason is (refused_in old) ≡ false → refused_view found ≡ is
    → map refused_view items ≡ take max_found (with_one same_reason (refused_in old) is)
refused_more old items found is more room fresh same =
    let all : map refused_view items ≡ refused_in old ++ is ∷ [] = ap (map refused_view) more ∙ map-append refused_view old.refused.items (found ∷ []) ∙ ap (λ x. refused_in old ++ x ∷ []) same in
    let few : length items ≤ max_found = omega (arith, old.few, room, ap length more, length-append old.refused.items (found ∷ [])) in
    sym (ap (take max_found) (sym (unlisted_added same_reason (refused_in old) is fresh) ∙ sym all) ∙ take_all max_found (map refused_view items) (omega (arith, few, length-map items refused_view)))

pub refused_beyond : (old : Findings) (is : causes.Refused) → length old.refused.items ≡ 21 → refused_in old ≡ take max_found (with_one same_reason (refused_in old) is)
refused_beyond old is full =
    let len : length (refused_in old) ≡ max_found = length-map old.refused.items refused_view ∙ full in
    sym (kept_one same_reason max_found (refused_in old) is (omega (arith, len)) ∙ all_in old)

pub refused_before : (old : Findings) (is : causes.Refused) → is_listed same_reason is (refused_in old) ≡ true → refused_in old ≡ take max_found (with_one same_reason (refused_in old) is)
refused_before old is listed = sym (ap (take max_found) (sym (listed_kept same_reason (refused_in old) is listed)) ∙ all_in old)

-- ---- reasons that are noted, one after another

noted_then : (old between : Findings) (xs ys : List causes.Refused) → AreNoted old xs between
    → take max_found (with_more same_reason (refused_in between) ys) ≡ take max_found (with_more same_reason (refused_in old) (xs ++ ys))
noted_then old between xs ys first =
    ap (λ l. take max_found (with_more same_reason l ys)) first.refused
    ∙ more_of_first same_reason max_found (with_more same_reason (refused_in old) xs) ys
    ∙ ap (take max_found) (sym (more_after same_reason (refused_in old) xs ys))

pub both_noted : (old between new : Findings) (all xs ys : List causes.Refused) → all ≡ xs ++ ys → AreNoted old xs between → AreNoted between ys new → AreNoted old all new
both_noted old between new all xs ys is first second =
    subst (λ (l : List causes.Refused). AreNoted old l new) (sym is)
    record { names = second.names ∙ first.names; refused = second.refused ∙ noted_then old between xs ys first }

pub none_noted : (findings : Findings) → AreNoted findings [] findings
none_noted findings = record { names = refl; refused = sym (all_in findings) }

-- with the reasons that are left, it is as it is with all of them
pub record AreToNote (now : Findings) (left : List causes.Refused) (start : Findings) (all : List causes.Refused) : Type 0 where
  pub names : listed now.names ≡ listed start.names
  pub refused : take max_found (with_more same_reason (refused_in now) left) ≡ take max_found (with_more same_reason (refused_in start) all)

pub fewer_to_note : (now between start : Findings) (here xs left all : List causes.Refused) → here ≡ xs ++ left → AreNoted now xs between → AreToNote now here start all → AreToNote between left start all
fewer_to_note now between start here xs left all is noted h = record {
  names = noted.names ∙ h.names;
  refused = noted_then now between xs left noted ∙ ap (λ l. take max_found (with_more same_reason (refused_in now) l)) (sym is) ∙ h.refused;
}

pub none_to_note : (now start : Findings) (left all : List causes.Refused) → left ≡ [] → AreToNote now left start all → AreNoted start all now
none_to_note now start left all is h = record {
  names = h.names;
  refused = sym (all_in now) ∙ ap (λ l. take max_found (with_more same_reason (refused_in now) l)) (sym is) ∙ h.refused;
}

-- ---- visits

-- no visits
pub none_visited : (findings : Findings) → AreVisited findings [] findings
none_visited findings = record { names = refl; refused = sym (all_in findings) }

-- with the visits that are left, it is as it is with all of them
pub record AreLeft (now : Findings) (left : List Visit) (start : Findings) (all : List Visit) : Type 0 where
  pub names : names_after (listed now.names) left ≡ names_after (listed start.names) all
  pub refused : take max_found (with_more same_reason (refused_in now) (refused_among (listed now.names) left)) ≡ take max_found (with_more same_reason (refused_in start) (refused_among (listed start.names) all))

pub fewer_left : (now between start : Findings) (here vs left all : List Visit) → here ≡ vs ++ left → AreVisited now vs between → AreLeft now here start all → AreLeft between left start all
fewer_left now between start here vs left all is visited h = record {
  names = names_then now between vs left visited ∙ ap (names_after (listed now.names)) (sym is) ∙ h.names;
  refused = refused_then now between vs left visited ∙ ap (λ l. take max_found (with_more same_reason (refused_in now) (refused_among (listed now.names) l))) (sym is) ∙ h.refused;
}

pub none_left : (now start : Findings) (left all : List Visit) → left ≡ [] → AreLeft now left start all → AreVisited start all now
none_left now start left all is h =
    let none = none_visited now in
    record {
      names = ap (names_after (listed now.names)) (sym is) ∙ h.names;
      refused = none.refused ∙ ap (λ l. take max_found (with_more same_reason (refused_in now) (refused_among (listed now.names) l))) (sym is) ∙ h.refused;
    }

-- one visit, for which these reasons were noted, and after which these are the names
one_visited : (old new : Findings) (v : Visit) (noted : List causes.Refused) → refused_after (listed old.names) v ≡ noted → names_past (listed old.names) v ≡ listed new.names
    → refused_in new ≡ take max_found (with_more same_reason (refused_in old) noted) → AreVisited old (v ∷ []) new
one_visited old new v noted are past refused = record {
  names = sym past;
  refused = refused ∙ ap (λ l. take max_found (with_more same_reason (refused_in old) l)) (sym (append-nil (refused_after (listed old.names) v) ∙ are));
}

-- a visit with which nothing is wrong, with names for which there is room
pub one_passed : (old new : Findings) (v : Visit) → v.cause ≡ None → listed new.names ≡ with_more bytes_eq (listed old.names) v.names → new.refused ≡ old.refused → AreVisited old (v ∷ []) new
one_passed old new v right is same =
    let names = listed old.names in
    let all = names_with names v in
    let few : length all ≤ max_variables = omega (arith, new.names.few, shown_len new.names.names.items, ap length is) in
    one_visited old new v []
    (ap (λ o. map (refused_for v.token v.name) (causes_by o v.lacks (nat_lt max_variables (length all)))) right
    ∙ ap (λ b. map (refused_for v.token v.name) (causes_by None v.lacks b)) (le-ltb max_variables (length all) few))
    (ap (λ o. if is_some o then names else take max_variables all) right ∙ take_all max_variables all few ∙ sym is)
    (ap (λ (r : ArrayVec Refused). map refused_view r.items) same ∙ sym (all_in old))

-- one with which something is wrong, and all that it lacks
pub one_refused : (old between new : Findings) (v : Visit) (cause : causes.Cause) → v.cause ≡ Some cause → AreNoted old (refused_for v.token v.name cause ∷ []) between
    → AreNoted between (map (refused_for v.token v.name) v.lacks) new → AreVisited old (v ∷ []) new
one_refused old between new v cause wrong first second =
    let names = listed old.names in
    let all = names_with names v in
    let told = refused_for v.token v.name cause ∷ map (refused_for v.token v.name) v.lacks in
    let both = both_noted old between new told (refused_for v.token v.name cause ∷ []) (map (refused_for v.token v.name) v.lacks) refl first second in
    one_visited old new v told
    (ap (λ o. map (refused_for v.token v.name) (causes_by o v.lacks (nat_lt max_variables (length all)))) wrong)
    (ap (λ o. if is_some o then names else take max_variables all) wrong ∙ sym both.names)
    both.refused
