-- A delivery appends no more than its limit says: as many entries as final actions, and of their contents each once.
use Rattle.std.proofs.Common.{◌≡◌, ◌⊎◌, ℕ, zero, suc, ◌+◌, ◌*◌, ◌<◌, ◌≤◌, Bool, true, false, not, cond, List, [], ◌∷◌, ◌++◌, filter, length, map, min, Option, Some, None, All, slice_get, sum_by, refl, sym, ap, subst, ◌∙◌, inl, inr, arith}
use Rattle.std.specs.Prelude.{bytes_eq}
use Rattle.std.proofs.Math.Nat.{mul-le-mul}
use Rattle.std.proofs.lemmas.Bool.{cases_lt}
use Rattle.std.proofs.lemmas.List.{append-nil, length-map}
use Rattle.std.proofs.lemmas.List.Sums.{sum_by-cons}
use Rattle.std.proofs.lemmas.Slice.Eq.{bytes_eq-Decides}
use Rattle.octets.specs.Limits.{max_depth}
use Rattle.octets.specs.Once.{each_once}
use Rattle.bytecode_format.specs.Code.{Code}
use Rattle.bytecode_format.specs.declared.action.Action.{Action}
use Rattle.bytecode_format.specs.declared.action.Action.TheVariants.{Keep, File, Store}
use Rattle.bytecode_verifier.specs.Counting.{times_at, entries_at, octets_at}
use Rattle.bytecode_verifier.specs.declared.counting.Counted.TheVariants.{Stores}
use Rattle.bytecode_verifier.proofs.Numbers.{octets_at_most}
use Rattle.mime_decode.specs.Mail.{Mail, Part, IsMail, IsReadable, mail_of, size_of}
use Rattle.mime_decode.specs.Together.{contents_together}
use Rattle.mime_decode.proofs.MailLemmas.{is_mail, octets_are, size_is}
use Rattle.mime_decode.proofs.Together.{mail_together}
use Rattle.sieve_vm.specs.Ending.{IsOutcome}
use Rattle.sieve_vm.specs.Listed.{number_of}
use Rattle.sieve_vm.specs.Stores.{NamesPart}
use Rattle.sieve_vm.proofs.Bounds.{outcome_stores}
use Rattle.sieve_vm.proofs.Listed.{final_few, final_stores}
use Rattle.sieve_engine.specs.Execution.{IsChecked}
use Rattle.part_store.specs.Entries.{Draft, Entries, Entry, numbered}
use Rattle.depot_actions.specs.Amounts.{AppendsWithin, IsLimit}
use Rattle.depot_actions.specs.DepotState.{Accepts, AreActions, Deliver, Delivers, Reply, filed}
use Rattle.depot_actions.specs.Drafts.{draft_of_action, drafts_of, stored_draft}

-- ---- different texts among others

abbrev together : List (List ℕ) → ℕ
together texts = sum_by length texts

abbrev differs : List ℕ → List ℕ → Bool
differs x y = not (bytes_eq x y)

-- the text is none of these
abbrev IsOther : List ℕ → List (List ℕ) → Type 0
IsOther x [] = Unit {0}
IsOther x (y ∷ ys) = (bytes_eq x y ≡ false) × IsOther x ys

abbrev AreDistinct : List (List ℕ) → Type 0
AreDistinct [] = Unit {0}
AreDistinct (x ∷ xs) = IsOther x xs × AreDistinct xs

other_left : (keep : List ℕ → Bool) (x : List ℕ) (ys : List (List ℕ)) → IsOther x ys → IsOther x (filter keep ys)
other_left keep x [] is = tt
other_left keep x (y ∷ ys) is = go (keep y) (other_left keep x ys is.1)
  where
    go : (b : Bool) → IsOther x (filter keep ys) → IsOther x (cond b (y ∷ filter keep ys) (filter keep ys))
    go true rest = (is.0, rest)
    go false rest = rest

distinct_left : (keep : List ℕ → Bool) (xs : List (List ℕ)) → AreDistinct xs → AreDistinct (filter keep xs)
distinct_left keep [] are = tt
distinct_left keep (x ∷ xs) are = go (keep x) (distinct_left keep xs are.1)
  where
    go : (b : Bool) → AreDistinct (filter keep xs) → AreDistinct (cond b (x ∷ filter keep xs) (filter keep xs))
    go true rest = (other_left keep x xs are.0, rest)
    go false rest = rest

-- without a text
others_left : (x : List ℕ) (ys : List (List ℕ)) → IsOther x (filter (differs x) ys)
others_left x [] = tt
others_left x (y ∷ ys) = go (bytes_eq x y) refl (others_left x ys)
  where
    go : (b : Bool) → bytes_eq x y ≡ b → IsOther x (filter (differs x) ys) → IsOther x (cond (not b) (y ∷ filter (differs x) ys) (filter (differs x) ys))
    go true e rest = rest
    go false e rest = (e, rest)

distinct_once : (xs : List (List ℕ)) → AreDistinct (each_once bytes_eq xs)
distinct_once [] = tt
distinct_once (x ∷ xs) = (others_left x (each_once bytes_eq xs), distinct_left (differs x) (each_once bytes_eq xs) (distinct_once xs))

all_left : (x : List ℕ) (ys : List (List ℕ)) → IsOther x ys → filter (differs x) ys ≡ ys
all_left x [] is = refl
all_left x (y ∷ ys) is = rw (is.0, all_left x ys is.1) refl

-- of different texts one is taken out at most
one_out : (y : List ℕ) (xs : List (List ℕ)) → AreDistinct xs → together xs ≤ length y + together (filter (differs y) xs)
one_out y [] are = omega arith
one_out y (x ∷ xs) are = go (bytes_eq y x) refl (one_out y xs are.1)
  where
    go : (b : Bool) → bytes_eq y x ≡ b → together xs ≤ length y + together (filter (differs y) xs) → together (x ∷ xs) ≤ length y + together (cond (not b) (x ∷ filter (differs y) xs) (filter (differs y) xs))
    go true e others =
        let same : y ≡ x = (bytes_eq-Decides y x).0 e in
        let rest : filter (differs y) xs ≡ xs = ap (λ t. filter (differs t) xs) same ∙ all_left x xs are.0 in
        omega (arith, sum_by-cons length x xs, ap length same, ap together rest)
    go false e others = omega (arith, sum_by-cons length x xs, sum_by-cons length x (filter (differs y) xs), others)

-- each of them is one of others
abbrev Among : List ℕ → List (List ℕ) → Type 0
Among x [] = ⊥
Among x (y ∷ ys) = (x ≡ y) ⊎ Among x ys

abbrev AreAmong : List (List ℕ) → List (List ℕ) → Type 0
AreAmong [] ys = Unit {0}
AreAmong (x ∷ xs) ys = Among x ys × AreAmong xs ys

among_left : (keep : List ℕ → Bool) (xs ys : List (List ℕ)) → AreAmong xs ys → AreAmong (filter keep xs) ys
among_left keep [] ys are = tt
among_left keep (x ∷ xs) ys are = go (keep x) (among_left keep xs ys are.1)
  where
    go : (b : Bool) → AreAmong (filter keep xs) ys → AreAmong (cond b (x ∷ filter keep xs) (filter keep xs)) ys
    go true rest = (are.0, rest)
    go false rest = rest

among_once : (xs ys : List (List ℕ)) → AreAmong xs ys → AreAmong (each_once bytes_eq xs) ys
among_once [] ys are = tt
among_once (x ∷ xs) ys are = (are.0, among_left (differs x) (each_once bytes_eq xs) ys (among_once xs ys are.1))

among_rest : (x y : List ℕ) (ys : List (List ℕ)) → bytes_eq y x ≡ false → Among x (y ∷ ys) → Among x ys
among_rest x y ys e (inl is) = absurd (let same : bytes_eq y x ≡ true = (bytes_eq-Decides y x).1 (sym is) in let both : true ≡ false = sym same ∙ e in cc)
among_rest x y ys e (inr more) = more

without_first : (y : List ℕ) (xs ys : List (List ℕ)) → AreAmong xs (y ∷ ys) → AreAmong (filter (differs y) xs) ys
without_first y [] ys are = tt
without_first y (x ∷ xs) ys are = go (bytes_eq y x) refl (without_first y xs ys are.1)
  where
    go : (b : Bool) → bytes_eq y x ≡ b → AreAmong (filter (differs y) xs) ys → AreAmong (cond (not b) (x ∷ filter (differs y) xs) (filter (differs y) xs)) ys
    go true e rest = rest
    go false e rest = (among_rest x y ys e are.0, rest)

no_longer : (ys xs : List (List ℕ)) → AreDistinct xs → AreAmong xs ys → together xs ≤ together ys
no_longer [] [] distinct are = omega arith
no_longer [] (x ∷ xs) distinct are = absurd are.0
no_longer (y ∷ ys) xs distinct are =
    omega (
      arith,
      one_out y xs distinct,
      no_longer ys (filter (differs y) xs) (distinct_left (differs y) xs distinct) (without_first y xs ys are),
      sum_by-cons length y ys,
    )

-- so each once they have no more octets than those have
once_within : (xs ys : List (List ℕ)) → AreAmong xs ys → together (each_once bytes_eq xs) ≤ together ys
once_within xs ys are = no_longer ys (each_once bytes_eq xs) (distinct_once xs) (among_once xs ys are)

-- ---- what actions file

abbrev contents_of : Mail → List Action → List (List ℕ)
contents_of mail actions = map (λ (draft : Draft). draft.octets) (drafts_of mail actions)

abbrev content_of : Mail → List ℕ → ℕ → List ℕ
content_of mail folder part = (stored_draft folder (slice_get mail.parts part)).octets

abbrev part_contents : List Part → List (List ℕ)
part_contents parts = map (λ (part : Part). part.content) parts

content_among : (parts : List Part) (folder : List ℕ) (number : ℕ) → number < length parts → Among (stored_draft folder (slice_get parts number)).octets (part_contents parts)
content_among [] folder number lt = absurd (omega (arith, lt))
content_among (part ∷ parts) folder zero lt = inl refl
content_among (part ∷ parts) folder (suc number) lt = inr (content_among parts folder number (omega (arith, lt)))

-- the message, or the content of a part
contents_among : (mail : Mail) (actions : List Action) → All (NamesPart mail) actions → AreAmong (contents_of mail actions) (mail.octets ∷ part_contents mail.parts)
contents_among mail [] all = tt
contents_among mail (Keep ∷ actions) all = (inl refl, contents_among mail actions (λ k d lt. all (suc k) d (omega (arith, lt))))
contents_among mail (File folder ∷ actions) all = (inl refl, contents_among mail actions (λ k d lt. all (suc k) d (omega (arith, lt))))
contents_among mail (Store folder part ∷ actions) all =
    (inr (content_among mail.parts folder part (all 0 Keep (omega arith))), contents_among mail actions (λ k d lt. all (suc k) d (omega (arith, lt))))

-- the contents of the parts that are stored
abbrev stored_contents : Mail → List Action → List (List ℕ)
stored_contents mail [] = []
stored_contents mail (Keep ∷ actions) = stored_contents mail actions
stored_contents mail (File folder ∷ actions) = stored_contents mail actions
stored_contents mail (Store folder part ∷ actions) = content_of mail folder part ∷ stored_contents mail actions

later_among : (x y z : List ℕ) (ys : List (List ℕ)) → Among x (y ∷ ys) → Among x (y ∷ (z ∷ ys))
later_among x y z ys (inl is) = inl is
later_among x y z ys (inr more) = inr (inr more)

all_later : (xs : List (List ℕ)) (y z : List ℕ) (ys : List (List ℕ)) → AreAmong xs (y ∷ ys) → AreAmong xs (y ∷ (z ∷ ys))
all_later [] y z ys are = tt
all_later (x ∷ xs) y z ys are = (later_among x y z ys are.0, all_later xs y z ys are.1)

contents_stored : (mail : Mail) (actions : List Action) → AreAmong (contents_of mail actions) (mail.octets ∷ stored_contents mail actions)
contents_stored mail [] = tt
contents_stored mail (Keep ∷ actions) = (inl refl, contents_stored mail actions)
contents_stored mail (File folder ∷ actions) = (inl refl, contents_stored mail actions)
contents_stored mail (Store folder part ∷ actions) =
    (inr (inl refl), all_later (contents_of mail actions) mail.octets (content_of mail folder part) (stored_contents mail actions) (contents_stored mail actions))

parts_together : (parts : List Part) → together (part_contents parts) ≡ contents_together parts
parts_together [] = refl
parts_together (part ∷ parts) =
    omega (arith, sum_by-cons length part.content (part_contents parts), sum_by-cons (λ (p : Part). length p.content) part parts, parts_together parts)

content_small : (mail : Mail) → IsMail mail → (folder : List ℕ) (part : ℕ) → length (content_of mail folder part) ≤ size_of mail
content_small mail known folder part = go (slice_get mail.parts part) refl
  where
    go : (o : Option Part) → slice_get mail.parts part ≡ o → length (stored_draft folder o).octets ≤ size_of mail
    go None e = omega arith
    go (Some p) e = let within = known.within part p e in omega (arith, within.content, within.body)

stored_together : (mail : Mail) → IsMail mail → (actions : List Action) → together (stored_contents mail actions) ≤ number_of Stores actions * size_of mail
stored_together mail known [] = omega arith
stored_together mail known (Keep ∷ actions) = stored_together mail known actions
stored_together mail known (File folder ∷ actions) = stored_together mail known actions
stored_together mail known (Store folder part ∷ actions) =
    let more : suc (number_of Stores actions) * size_of mail ≡ size_of mail + number_of Stores actions * size_of mail = grind arith in
    omega (arith, sum_by-cons length (content_of mail folder part) (stored_contents mail actions), content_small mail known folder part, stored_together mail known actions, more)

-- ---- within the limit

-- a number of times, up to the greatest depth
least_times : (stores times n filed : ℕ) → stores ≤ times → filed ≤ n + stores * n → filed ≤ n + max_depth * n → filed ≤ (1 + min times max_depth) * n
least_times stores times n filed few by_stores by_depth = go (cases_lt times max_depth)
  where
    same : n ≤ n
    same = omega arith

    go : (times < max_depth) ⊎ (max_depth ≤ times) → filed ≤ (1 + min times max_depth) * n
    go (inl lt) =
        let all : stores * n ≤ times * n = mul-le-mul few same in
        let one : (1 + times) * n ≡ n + times * n = grind arith in
        let least : min times max_depth ≡ times = omega (arith, lt) in
        subst (λ m. filed ≤ (1 + m) * n) (sym least) (omega (arith, by_stores, all, one))
    go (inr le) =
        let least : min times max_depth ≡ max_depth = omega (arith, le) in
        subst (λ m. filed ≤ (1 + m) * n) (sym least) (omega (arith, by_depth))

module _ (message : List ℕ) (readable : IsReadable message) (actions : List Action) where
  abbrev mail : Mail
  mail = mail_of message

  by_depth : All (NamesPart mail) actions → together (each_once bytes_eq (contents_of mail actions)) ≤ length message + max_depth * length message
  by_depth all =
      omega (
        arith,
        once_within (contents_of mail actions) (mail.octets ∷ part_contents mail.parts) (contents_among mail actions all),
        sum_by-cons length mail.octets (part_contents mail.parts),
        parts_together mail.parts,
        mail_together message,
        ap length (octets_are message),
      )

  by_stores : together (each_once bytes_eq (contents_of mail actions)) ≤ length message + number_of Stores actions * length message
  by_stores =
      omega (
        arith,
        once_within (contents_of mail actions) (mail.octets ∷ stored_contents mail actions) (contents_stored mail actions),
        sum_by-cons length mail.octets (stored_contents mail actions),
        stored_together mail (is_mail message readable) actions,
        ap (λ n. number_of Stores actions * n) (size_is message),
        ap length (octets_are message),
      )

  -- of a program's final actions
  program_within : (code : Code) (charged : ℕ) (program : List ℕ) → IsChecked program code → IsOutcome code mail actions charged
      → (length actions ≤ entries_at code (length mail.parts)) × (together (each_once bytes_eq (contents_of mail actions)) ≤ octets_at code (length message) (length mail.parts))
  program_within code charged program checked outcome =
      let known = is_mail message readable in (
        final_few code mail checked.accepted known actions charged outcome,
        least_times (number_of Stores actions) (times_at Stores code (length mail.parts)) (length message) (together (each_once bytes_eq (contents_of mail actions)))
            (final_stores code mail checked.accepted known actions charged outcome) by_stores
            (by_depth (outcome_stores code mail checked.accepted known actions charged outcome)),
      )

-- ---- what is appended

abbrev octets_in : List Entry → List (List ℕ)
octets_in entries = map (λ (entry : Entry). entry.octets) entries

numbered_octets : (user : List ℕ) (number : ℕ) (drafts : List Draft) → octets_in (numbered user number drafts) ≡ map (λ (draft : Draft). draft.octets) drafts
numbered_octets user number [] = refl
numbered_octets user number (draft ∷ drafts) = ap (λ xs. draft.octets ∷ xs) (numbered_octets user (number + 1) drafts)

numbered_length : (user : List ℕ) (number : ℕ) (drafts : List Draft) → length (numbered user number drafts) ≡ length drafts
numbered_length user number [] = refl
numbered_length user number (draft ∷ drafts) = ap suc (numbered_length user (number + 1) drafts)

filed_entries : (user : List ℕ) (drafts : List Draft) (before : Entries) → (filed user drafts before).entries ≡ before.entries ++ numbered user (before.lasts user + 1) drafts
filed_entries user [] before = sym (append-nil before.entries)
filed_entries user (draft ∷ drafts) before = refl

appends : (user : List ℕ) (drafts : List Draft) (before after : Entries) (entries octets : ℕ) → after ≡ filed user drafts before → length drafts ≤ entries
    → together (each_once bytes_eq (map (λ (draft : Draft). draft.octets) drafts)) ≤ octets → AppendsWithin entries octets before after
appends user drafts before after entries octets is few small =
    let added = numbered user (before.lasts user + 1) drafts in
    record {
      added = added;
      are = ap (λ (e : Entries). e.entries) is ∙ filed_entries user drafts before;
      few = omega (arith, numbered_length user (before.lasts user + 1) drafts);
      small = omega (arith, ap (λ xs. together (each_once bytes_eq xs)) (numbered_octets user (before.lasts user + 1) drafts));
    }

-- the limit of a user's program, and a delivery within it
pub record HasLimit (program : Option (List ℕ)) (message : List ℕ) (before after : Entries) : Type 0 where
  pub entries : ℕ
  pub octets : ℕ
  pub is : IsLimit program message entries octets
  pub least : octets ≤ (1 + max_depth) * length message
  pub within : AppendsWithin entries octets before after

module _ (before after : Entries) (user message : List ℕ) (reply : Reply) (done : Delivers before user message reply after) where
  abbrev drafts : List Draft
  drafts = drafts_of (mail_of message) done.actions

  number : length drafts ≡ length done.actions
  number = length-map done.actions (draft_of_action (mail_of message))

  has_limit : (program : Option (List ℕ)) → AreActions program (mail_of message) done.actions → HasLimit program message before after
  has_limit None are =
      let one = by_stores message done.readable done.actions in
      let stores : number_of Stores done.actions ≡ 0 = ap (number_of Stores) are in
      let none : number_of Stores done.actions * length message ≡ 0 = ap (λ n. n * length message) stores ∙ omega arith in
      let single : length done.actions ≡ 1 = ap length are in
      record {
        entries = 1;
        octets = length message;
        is = (refl, refl);
        least = omega arith;
        within = appends user drafts before after 1 (length message) done.filed (omega (arith, number, single)) (omega (arith, one, none));
      }
  has_limit (Some program) are =
      let code = are.0 in
      let parts = length (mail_of message).parts in
      let both = program_within message done.readable done.actions code are.1 program are.2 are.3 in
      record {
        entries = entries_at code parts;
        octets = octets_at code (length message) parts;
        is = (code, are.2, refl, refl);
        least = octets_at_most code (length message) parts;
        within = appends user drafts before after (entries_at code parts) (octets_at code (length message) parts) done.filed (omega (arith, number, both.0)) both.1;
      }

pub deliveries_within : (before after : Entries) (user message : List ℕ) (reply : Reply) → Accepts before (Deliver user message) reply after → HasLimit (before.programs user) message before after
deliveries_within before after user message reply accepts = has_limit before after user message reply accepts.step (before.programs user) accepts.step.are
