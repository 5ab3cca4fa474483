-- What is looked for in contents is found once.
use Rattle.std.proofs.Common.{◌≡◌, ℕ, suc, ◌≤◌, ◌==◌, if◌then◌else◌, Bool, true, false, cond, not, ◌&&◌, List, [], ◌∷◌, Option, Some, None, IfSome, is_some, slice_get, slice_index_or, take, refl, sym, ap, subst, ◌∙◌, arith}
use Rattle.std.proofs.lemmas.Bool.{and_parts, eq-eqb, eqb-true}
use Rattle.std.specs.Option.{option_and_then, option_map_or}
use Rattle.bytecode_format.specs.declared.question.Question.{Question}
use Rattle.mail_matching.specs.Questions.{need_of}
use Rattle.mail_matching.specs.declared.questions.Need.{Need}
use Rattle.mail_matching.specs.declared.questions.Need.TheVariants as need
use Rattle.mime_decode.specs.Content.{is_decoded}
use Rattle.mime_decode.specs.Mail.{Mail, Part}
use Rattle.octets.specs.Limits.{max_value}
use Rattle.sieve_vm.specs.State.{current_part}
use Rattle.sieve_vm.specs.Visits.{HasSameLoops, IsFound, Learns, known_of, part_in, sought_for}
use Rattle.sieve_vm.specs.Looks.{Visits, Remembers, Sought, Length, Digest, Beginning, knows, keeps, HasSought, HasLooked, Look, AreLooks, is_same, has_to_find, times_found}

-- what was known of a part still is
pub still_known : (sought : Sought) (part : ℕ) (old new : Visits) → Remembers old new → knows sought part old ≡ true → knows sought part new ≡ true
still_known Length part old new still known = still.lengths part known
still_known Digest part old new still known = still.digests part known
still_known Beginning part old new still known = still.beginnings part known

same_sought : (one other : Sought) → is_same one other ≡ true → one ≡ other
same_sought Length Length e = refl
same_sought Digest Digest e = refl
same_sought Beginning Beginning e = refl
same_sought Length Digest e = absurd cc
same_sought Length Beginning e = absurd cc
same_sought Digest Length e = absurd cc
same_sought Digest Beginning e = absurd cc
same_sought Beginning Length e = absurd cc
same_sought Beginning Digest e = absurd cc

module _ (sought : Sought) (part : ℕ) where
  -- a step that has to find it knows it then
  finds : (look : Look) → HasLooked look.sought look.old look.new → has_to_find sought part look ≡ true → knows sought part look.new ≡ true
  finds look looked has =
      let unknown = not (knows sought part look.old) in
      let same = option_map_or (is_same sought) look.sought false in
      let here = option_map_or (λ current. current == part) (current_part look.old.frames) false in
      let three = and_parts (unknown && same && here) (keeps sought part look.old) has in
      let two = and_parts (unknown && same) here three.0 in
      go look.sought (current_part look.old.frames) looked.seeks (and_parts unknown same two.0).1 two.1 three.1
    where
      go : (s : Option Sought) (at : Option ℕ) → IfSome s (λ it. IfSome at (λ place. HasSought it place look.old look.new)) → option_map_or (is_same sought) s false ≡ true → option_map_or (λ current. current == part) at false ≡ true
          → keeps sought part look.old ≡ true → knows sought part look.new ≡ true
      go None at seeks same here kept = absurd cc
      go (Some it) None seeks same here kept = absurd cc
      go (Some it) (Some place) seeks same here kept =
          let is : it ≡ sought = sym (same_sought sought it same) in
          let there : place ≡ part = eqb-true place part here in
          let seeks' : HasSought sought part look.old look.new = subst (λ p. HasSought sought p look.old look.new) there (subst (λ x. HasSought x place look.old look.new) is seeks) in
          seeks'.found kept

  -- what is known has to be found by none
  none_finds : (from : Visits) (looks : List Look) → AreLooks from looks → knows sought part from ≡ true → times_found sought part looks ≡ 0
  none_finds from [] are known = refl
  none_finds from (look ∷ looks) are known =
      let here : knows sought part look.old ≡ true = ap (knows sought part) are.0 ∙ known in
      let none : has_to_find sought part look ≡ false =
      ap (λ known. not known && option_map_or (is_same sought) look.sought false && option_map_or (λ current. current == part) (current_part look.old.frames) false && keeps sought part look.old) here in
      let others = none_finds look.new looks are.2 (still_known sought part look.old look.new are.1.remembers here) in
      ap (λ b. cond b (suc (times_found sought part looks)) (times_found sought part looks)) none ∙ others

  -- and what isn't by one at most
  pub one_finds : (from : Visits) (looks : List Look) → AreLooks from looks → times_found sought part looks ≤ 1
  one_finds from [] are = omega arith
  one_finds from (look ∷ looks) are = go (has_to_find sought part look) refl (one_finds look.new looks are.2)
    where
      go : (b : Bool) → has_to_find sought part look ≡ b → times_found sought part looks ≤ 1 → cond b (suc (times_found sought part looks)) (times_found sought part looks) ≤ 1
      go true has others =
          let none = none_finds look.new looks are.2 (finds look are.1 has) in
          omega (arith, none)
      go false has others = others

-- ---- what a step has looked for

-- nothing, and it has changed nothing
pub looked_for_nothing : (old new : Visits) → new ≡ old → HasLooked None old new
looked_for_nothing old new same = record { remembers = subst (Remembers old) (sym same) (record { lengths = λ part known. known; digests = λ part known. known; beginnings = λ part known. known }); seeks = tt }

-- what a test asks was looked for
pub looked_for_question : (old new : Visits) (asks : Option Question) → is_some asks ≡ true → ((question : Question) → asks ≡ Some question → HasLooked (sought_for (need_of question)) old new)
    → HasLooked (option_and_then (λ question. sought_for (need_of question)) asks) old new
looked_for_question old new (Some question) some looked = looked question refl
looked_for_question old new None some looked = absurd cc

module _ (old new : Visits) (same : HasSameLoops old new) where
  pub remembered : Remembers old new
  remembered = record { lengths = same.lengths; digests = same.digests; beginnings = same.beginnings }

  -- outside of loops it can't have
  looked_outside : (sought : Option Sought) → current_part old.frames ≡ None → HasLooked sought old new
  looked_outside None e = record { remembers = remembered; seeks = tt }
  looked_outside (Some it) e = record { remembers = remembered; seeks = subst (λ at. IfSome at (λ part. HasSought it part old new)) (sym e) tt }

  -- what is known of the current part, in such a list
  known_at : {A : Type 0} (list : List (Option A)) (visits : Visits) (part : ℕ) → current_part visits.frames ≡ Some part → is_some (known_of list visits) ≡ is_some (slice_index_or list part None)
  known_at list visits part e = ap (λ at. is_some (option_and_then (λ p. slice_index_or list p None) at)) e

  sought_in : (sought : Sought) → ((part : ℕ) → current_part old.frames ≡ Some part → HasSought sought part old new) → HasLooked (Some sought) old new
  sought_in sought has = record { remembers = remembered; seeks = go (current_part old.frames) refl }
    where
      go : (at : Option ℕ) → current_part old.frames ≡ at → IfSome at (λ part. HasSought sought part old new)
      go None e = tt
      go (Some part) e = has part e

  part_there : is_some (part_in new) ≡ true → is_some (part_in old) ≡ true
  part_there now = sym (ap (λ (m : Mail). is_some (option_and_then (slice_get m.parts) (current_part new.frames))) same.mail ∙ ap (λ fs. is_some (option_and_then (slice_get old.mail.parts) (current_part fs))) same.frames) ∙ now

  -- what a test needs was found
  pub looked_for : (needed : Need) → IsFound needed new → (IsFound needed old → new ≡ old) → HasLooked (sought_for needed) old new
  looked_for need.Nothing found again = record { remembers = remembered; seeks = tt }
  looked_for need.Content found again = record { remembers = remembered; seeks = tt }
  looked_for need.Length found again =
      sought_in Length
      (λ part e. record { again = λ known. again (part_there found.0, known_at old.lengths old part e ∙ known); found = λ _. sym (known_at new.lengths new part (ap current_part same.frames ∙ e)) ∙ found.1 })
  looked_for need.Digest found again =
      sought_in Digest
      (λ part e. record { again = λ known. again (part_there found.0, known_at old.digests old part e ∙ known); found = λ _. sym (known_at new.digests new part (ap current_part same.frames ∙ e)) ∙ found.1 })

  -- a test outside of loops needs nothing
  pub looked_in : (needed : Need) → HasLooked (sought_for (if is_some (current_part old.frames) then needed else need.Nothing)) old new → HasLooked (sought_for needed) old new
  looked_in needed looked = go (current_part old.frames) refl looked
    where
      go : (at : Option ℕ) → current_part old.frames ≡ at → HasLooked (sought_for (if is_some at then needed else need.Nothing)) old new → HasLooked (sought_for needed) old new
      go None e looked = looked_outside (sought_for needed) e
      go (Some part) e looked = looked

  -- and so were the first octets
  pub looked_for_beginning : (is_some (known_of old.beginnings old) ≡ true → new ≡ old)
      → ((part : Part) → part_in old ≡ Some part → is_decoded part.encoding ≡ true → Learns (take max_value part.content) old.beginnings new.beginnings old) → HasLooked (Some Beginning) old new
  looked_for_beginning again learns =
      sought_in Beginning
      (λ part e. record { again = λ known. again (known_at old.beginnings old part e ∙ known); found = λ kept. go part e (slice_get old.mail.parts part) refl kept })
    where
      go : (part : ℕ) → current_part old.frames ≡ Some part → (at : Option Part) → slice_get old.mail.parts part ≡ at → option_map_or (λ (p : Part). is_decoded p.encoding) at false ≡ true → knows Beginning part new ≡ true
      go part e None is kept = absurd cc
      go part e (Some p) is kept =
          ap is_some (learns p (ap (option_and_then (slice_get old.mail.parts)) e ∙ is) kept part part e) ∙ rw (eq-eqb part part refl) refl
