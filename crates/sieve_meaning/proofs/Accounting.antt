-- What the events list is what was done.
use Rattle.std.proofs.Common.{◌≡◌, ℕ, Bool, true, false, refl, subst, List, [], ◌∷◌, ◌++◌, Option, Some, None, sym, ap, ◌∙◌, append_assoc, append-nil, inl, inr}
use Rattle.std.specs.Prelude.{◌&&◌, if◌then◌else◌, nat_lt}
use Rattle.std.proofs.lemmas.Bool.{cases_Bool}
use Rattle.std.proofs.lemmas.Grind.{flat_map-append}
use Rattle.mail_matching.specs.Questions.{answer, found}
use Rattle.mail_matching.specs.declared.finding.Finding.{Finding}
use Rattle.mime_decode.specs.Mail.{Mail}
use Rattle.mime_decode.specs.Visited.{visited}
use Rattle.bytecode_format.specs.Actions.{final_actions}
use Rattle.sieve_check.specs.declared.typed.Act.{Act}
use Rattle.sieve_check.specs.declared.typed.Act.TheVariants.{Keep, Discard, FileInto, Set, Take, Store, Leave, Stop}
use Rattle.bytecode_format.specs.declared.question.Question.{Question}
use Rattle.sieve_check.specs.Typed.{TestForm, asks, negation, all_of, any_of, TestForms, no_test, test, CommandForm, does, for_every_part, choice, CommandForms, no_command, command, BranchForms, no_branch, otherwise, branch}
use Rattle.sieve_meaning.specs.Meaning.{Effects, no_effects, expanded, Verdict, matched, and_then, or_else, test_does, all_do, any_do, Ending, normal, stopped, broken, effects_of, followed_by, left, after_turn, turns, act_does, command_does, commands_do, choice_does, meaning, texts_of}
use Rattle.sieve_meaning.specs.Traced.{Event, event, Occurrence, asked, acted, turned, negated, all_held, any_held, listed_by, event_actions, keep_after, keeps, told_of, on_true, on_false, on_normal, test_events, all_events, any_events, turns_events, command_events, commands_events, choice_events, script_events, come_to}

-- what was done before and after events, as far as these tell it
pub record Accounts (before : Effects) (events : List Event) (after : Effects) : Type 0 where
  pub actions : after.actions ≡ before.actions ++ listed_by events
  pub keep : after.implicit_keep ≡ keep_after before.implicit_keep events

accounts_none : (e : Effects) → Accounts e [] e
accounts_none e = record { actions = sym (append-nil e.actions); keep = refl }

keep_both : (stands : Bool) (xs ys : List Event) → keep_after stands (xs ++ ys) ≡ keep_after (keep_after stands xs) ys
keep_both stands [] ys = refl
keep_both stands (x ∷ xs) ys = keep_both (stands && keeps x.what) xs ys

accounts_both : (a b c : Effects) (xs ys : List Event) → Accounts a xs b → Accounts b ys c → Accounts a (xs ++ ys) c
accounts_both a b c xs ys first later = record {
  actions = later.actions ∙ ap (λ l. l ++ listed_by ys) first.actions ∙ append_assoc a.actions (listed_by xs) (listed_by ys) ∙ ap (λ l. a.actions ++ l) (sym (flat_map-append event_actions xs ys));
  keep = later.keep ∙ ap (λ k. keep_after k ys) first.keep ∙ sym (keep_both a.implicit_keep xs ys);
}

stays : (k : Bool) → k ≡ (k && true)
stays true = refl
stays false = refl

-- an event that lists nothing and leaves the implicit keep
accounts_plain : (at : ℕ) (part : Option ℕ) (what : Occurrence) (e : Effects) → event_actions (event at part what) ≡ [] → keeps what ≡ true → Accounts e (event at part what ∷ []) e
accounts_plain at part what e lists keeps_it = record {
  actions = sym (ap (λ l. e.actions ++ (l ++ [])) lists ∙ append-nil e.actions);
  keep = stays e.implicit_keep ∙ ap (λ k. e.implicit_keep && k) (sym keeps_it);
}

-- a test that was asked
asked_accounts : (at : ℕ) (part : Option ℕ) (question : Question) (value : Bool) (finding : Option Finding) (o : Option (List (List ℕ))) (e : Effects) → Accounts e (event at part (asked question value finding) ∷ []) (matched o e).effects
asked_accounts at part question value finding None e = accounts_plain at part (asked question value finding) e refl refl
asked_accounts at part question value finding (Some captures) e =
    let plain = accounts_plain at part (asked question value finding) e refl refl in
    record { actions = plain.actions; keep = plain.keep }

-- tests that were asked where the one before didn't decide
then_accounts : (a : Effects) (v : Verdict) (xs : List Event) (next : Effects → Verdict) (told : Effects → List Event) → Accounts a xs v.effects
    → ((e : Effects) → Accounts e (told e) (next e).effects) → Accounts a (xs ++ on_true v told) (and_then v next).effects
then_accounts a v xs next told first later = elim (cases_Bool v.value) [
  | inl holds ↦ rw holds (accounts_both a v.effects (next v.effects).effects xs (told v.effects) first (later v.effects))
  | inr fails ↦ rw fails (accounts_both a v.effects v.effects xs [] first (accounts_none v.effects))
]

else_accounts : (a : Effects) (v : Verdict) (xs : List Event) (next : Effects → Verdict) (told : Effects → List Event) → Accounts a xs v.effects
    → ((e : Effects) → Accounts e (told e) (next e).effects) → Accounts a (xs ++ on_false v told) (or_else v next).effects
else_accounts a v xs next told first later = elim (cases_Bool v.value) [
  | inl holds ↦ rw holds (accounts_both a v.effects v.effects xs [] first (accounts_none v.effects))
  | inr fails ↦ rw fails (accounts_both a v.effects (next v.effects).effects xs (told v.effects) first (later v.effects))
]

mutual
  test_accounts : (mail : Mail) (part : Option ℕ) (t : TestForm) (e : Effects) → Accounts e (test_events mail part t e) (test_does mail part t e).effects
  test_accounts mail part (asks question strings at) e =
      asked_accounts at part question _ (found mail part question (texts_of e strings)) (answer mail part question (texts_of e strings) e.captures) e
  test_accounts mail part (negation t at) e =
      accounts_both e _ _ (test_events mail part t e) _ (test_accounts mail part t e) (accounts_plain at part (negated _) _ refl refl)
  test_accounts mail part (all_of t ts at) e =
      accounts_both e _ _ _ _
      (then_accounts e (test_does mail part t e) (test_events mail part t e) (λ x. all_do mail part ts x) (λ x. all_events mail part ts x) (test_accounts mail part t e) (λ x. all_accounts mail part ts x))
      (accounts_plain at part (all_held _) _ refl refl)
  test_accounts mail part (any_of t ts at) e =
      accounts_both e _ _ _ _
      (else_accounts e (test_does mail part t e) (test_events mail part t e) (λ x. any_do mail part ts x) (λ x. any_events mail part ts x) (test_accounts mail part t e) (λ x. any_accounts mail part ts x))
      (accounts_plain at part (any_held _) _ refl refl)

  all_accounts : (mail : Mail) (part : Option ℕ) (ts : TestForms) (e : Effects) → Accounts e (all_events mail part ts e) (all_do mail part ts e).effects
  all_accounts mail part no_test e = accounts_none e
  all_accounts mail part (test t ts) e =
      then_accounts e (test_does mail part t e) (test_events mail part t e) (λ x. all_do mail part ts x) (λ x. all_events mail part ts x) (test_accounts mail part t e) (λ x. all_accounts mail part ts x)

  any_accounts : (mail : Mail) (part : Option ℕ) (ts : TestForms) (e : Effects) → Accounts e (any_events mail part ts e) (any_do mail part ts e).effects
  any_accounts mail part no_test e = accounts_none e
  any_accounts mail part (test t ts) e =
      else_accounts e (test_does mail part t e) (test_events mail part t e) (λ x. any_do mail part ts x) (λ x. any_events mail part ts x) (test_accounts mail part t e) (λ x. any_accounts mail part ts x)

-- an action that was done
without : (k : Bool) → false ≡ (k && false)
without true = refl
without false = refl

act_accounts : (mail : Mail) (part : Option ℕ) (act : Act) (text : List ℕ) (at : ℕ) (e : Effects)
    → Accounts e (event at part (acted act (told_of act text (effects_of (act_does mail part act text e)))) ∷ []) (effects_of (act_does mail part act text e))
act_accounts mail part Keep text at e = record { actions = refl; keep = without e.implicit_keep }
act_accounts mail part Discard text at e = record { actions = sym (append-nil e.actions); keep = without e.implicit_keep }
act_accounts mail part FileInto text at e = record { actions = refl; keep = without e.implicit_keep }
act_accounts mail part (Set modifiers name) text at e = record { actions = sym (append-nil e.actions); keep = stays e.implicit_keep }
act_accounts mail part (Take most name) text at e = record { actions = sym (append-nil e.actions); keep = stays e.implicit_keep }
act_accounts mail None Store text at e = record { actions = refl; keep = stays e.implicit_keep }
act_accounts mail (Some number) Store text at e = record { actions = refl; keep = stays e.implicit_keep }
act_accounts mail part (Leave loops) text at e = record { actions = sym (append-nil e.actions); keep = stays e.implicit_keep }
act_accounts mail part Stop text at e = record { actions = sym (append-nil e.actions); keep = stays e.implicit_keep }

-- commands after others
followed_accounts : (a : Effects) (x : Ending) (xs : List Event) (next : Effects → Ending) (told : Effects → List Event) → Accounts a xs (effects_of x)
    → ((e : Effects) → Accounts e (told e) (effects_of (next e))) → Accounts a (xs ++ on_normal x told) (effects_of (followed_by x next))
followed_accounts a (normal e) xs next told first later = accounts_both a e (effects_of (next e)) xs (told e) first (later e)
followed_accounts a (stopped e) xs next told first later = accounts_both a e e xs [] first (accounts_none e)
followed_accounts a (broken loops e) xs next told first later = accounts_both a e e xs [] first (accounts_none e)

left_effects : (loops : ℕ) (e : Effects) → effects_of (left loops e) ≡ e
left_effects loops e = elim (cases_Bool (nat_lt 1 loops)) [
  | inl more ↦ rw more refl
  | inr last ↦ rw last refl
]

-- a turn after others
turn_accounts : (a : Effects) (x : Ending) (xs : List Event) (next : Effects → Ending) (told : Effects → List Event) → Accounts a xs (effects_of x)
    → ((e : Effects) → Accounts e (told e) (effects_of (next e))) → Accounts a (xs ++ on_normal x told) (effects_of (after_turn x next))
turn_accounts a (normal e) xs next told first later = accounts_both a e (effects_of (next e)) xs (told e) first (later e)
turn_accounts a (stopped e) xs next told first later = accounts_both a e e xs [] first (accounts_none e)
turn_accounts a (broken loops e) xs next told first later =
    subst (λ f. Accounts a (xs ++ []) f) (sym (left_effects loops e)) (accounts_both a e e xs [] first (accounts_none e))

turns_accounts : (at : ℕ) (turn : ℕ → Effects → Ending) (told : ℕ → Effects → List Event) (parts : List ℕ) → ((number : ℕ) (e : Effects) → Accounts e (told number e) (effects_of (turn number e))) → (e : Effects)
    → Accounts e (turns_events at turn told parts e) (effects_of (turns turn parts e))
turns_accounts at turn told [] each e = accounts_none e
turns_accounts at turn told (number ∷ parts) each e =
    turn_accounts e (turn number e) (event at (Some number) turned ∷ told number e) (λ x. turns turn parts x) (λ x. turns_events at turn told parts x)
    (accounts_both e e (effects_of (turn number e)) (event at (Some number) turned ∷ []) (told number e) (accounts_plain at (Some number) turned e refl refl) (each number e))
    (λ x. turns_accounts at turn told parts each x)

-- the branches after a test
branch_accounts : (a : Effects) (v : Verdict) (xs : List Event) (block others : Effects → Ending) (told other : Effects → List Event) → Accounts a xs v.effects
    → ((e : Effects) → Accounts e (told e) (effects_of (block e))) → ((e : Effects) → Accounts e (other e) (effects_of (others e)))
    → Accounts a (xs ++ (if v.value then told v.effects else other v.effects)) (effects_of (if v.value then block v.effects else others v.effects))
branch_accounts a v xs block others told other first yes_later no_later = elim (cases_Bool v.value) [
  | inl holds ↦ rw holds (accounts_both a v.effects _ xs (told v.effects) first (yes_later v.effects))
  | inr fails ↦ rw fails (accounts_both a v.effects _ xs (other v.effects) first (no_later v.effects))
]

mutual
  command_accounts : (mail : Mail) (part : Option ℕ) (c : CommandForm) (e : Effects) → Accounts e (command_events mail part c e) (effects_of (command_does mail part c e))
  command_accounts mail part (does act string at) e = act_accounts mail part act (expanded e string) at e
  command_accounts mail part (for_every_part cs at) e =
      turns_accounts at (λ number x. commands_do mail (Some number) cs x) (λ number x. commands_events mail (Some number) cs x) (visited part mail) (λ number x. commands_accounts mail (Some number) cs x) e
  command_accounts mail part (choice branches) e = choice_accounts mail part branches e

  commands_accounts : (mail : Mail) (part : Option ℕ) (cs : CommandForms) (e : Effects) → Accounts e (commands_events mail part cs e) (effects_of (commands_do mail part cs e))
  commands_accounts mail part no_command e = accounts_none e
  commands_accounts mail part (command c cs) e =
      followed_accounts e (command_does mail part c e) (command_events mail part c e) (λ x. commands_do mail part cs x) (λ x. commands_events mail part cs x) (command_accounts mail part c e) (λ x. commands_accounts mail part cs x)

  choice_accounts : (mail : Mail) (part : Option ℕ) (bs : BranchForms) (e : Effects) → Accounts e (choice_events mail part bs e) (effects_of (choice_does mail part bs e))
  choice_accounts mail part no_branch e = accounts_none e
  choice_accounts mail part (otherwise cs) e = commands_accounts mail part cs e
  choice_accounts mail part (branch t cs at bs) e =
      branch_accounts e (test_does mail part t e) (test_events mail part t e) (λ x. commands_do mail part cs x) (λ x. choice_does mail part bs x) (λ x. commands_events mail part cs x) (λ x. choice_events mail part bs x)
      (test_accounts mail part t e) (λ x. commands_accounts mail part cs x) (λ x. choice_accounts mail part bs x)

-- forgetting the events is the meaning
pub forgotten : (mail : Mail) (script : CommandForms) → come_to (script_events mail script) ≡ meaning mail script
forgotten mail script =
    let all = commands_accounts mail None script no_effects in
    ap (λ l. final_actions l (keep_after true (script_events mail script))) (sym all.actions)
    ∙ ap (λ k. final_actions (effects_of (commands_do mail None script no_effects)).actions k) (sym all.keep)
