-- Turns that are taken one after another, and why that ends.
use Rattle.std.proofs.Common.{◌≡◌, ◌≤◌, ◌+◌, ◌-◌, ◌^◌, ◌++◌, ◌∙◌, length-append, ap, inl, inr, min, refl, subst, sym, arith, ℕ, zero, suc, List, [], ◌∷◌, Option, Some, None, Result, Ok, Err, IfNone, IfSome, length}
use Rattle.std.specs.Io.KnownBytes.{Keeps}
use Rattle.std.proofs.KnownBytes.{Consumes-kept, Consumes-nil, Consumes-trans, Keeps-trans}
use Rattle.sqlite_trees.specs.declared.store.Store.{Ghosts}
use Rattle.sqlite.specs.Held.{Held}
use Rattle.devices.specs.Device.{Output, counted}
use Rattle.devices.specs.Supply.{HasGiven, HasStoppedGiving, Supply}
use Rattle.refusals.specs.declared.refusal.Refusal.{Refusal}
use Rattle.refusals.specs.declared.refusal.Refusal.TheVariants.{Database, Memory, Read, Write}
use Rattle.depot_jobs.specs.Jobs.{HasTold}
use Rattle.depot_batch.specs.Batch.{AreTaken, Happens, HasServed}
use Rattle.depot_batch.specs.Effects.{DepotAndOutput}
use Rattle.depot_batch.specs.Lines.{HasNotTaken, HasShown, HasTakenAll, IsLine, IsUnfinished}
use Rattle.depot_batch.specs.Private.{Begins, ComesNext, HasBegun, HasFirst, HasTakenNext, HasTried, HasTurned, IsAhead}
use Rattle.depot_batch.specs.Turns.{Alone, BeginsSo, Broken, EndsBy, GoesOn, MakeProgress, Takes, Together, Turn, Whole, Withdrawn}
use Rattle.depot_batch.specs.declared.ahead.Ahead.{Ahead}
use Rattle.depot_batch.specs.declared.first.First.{First}
use Rattle.depot_batch.specs.declared.first.First.TheVariants as firsts
use Rattle.depot_batch.specs.declared.format.Format.{Format}
use Rattle.depot_batch.specs.declared.format.Format.TheVariants.{Json, Plain}
use Rattle.depot_batch.specs.declared.outcome.Outcome.{Outcome}
use Rattle.depot_batch.specs.declared.outcome.Outcome.TheVariants.{Refused}
use Rattle.depot_batch.specs.declared.reading.Taken.{Taken}
use Rattle.depot_batch.specs.declared.reading.Taken.TheVariants.{Line, Unfinished, Nothing}
use Rattle.depot_batch.specs.declared.together.Tried.{Tried}
use Rattle.depot_batch.proofs.Progress.{Owe, owe_next, progress_last, progress_next}

-- ---- what is read

capped_both : (count a b most : ℕ) → min (min (count + a) most + b) most ≡ min (count + (a + b)) most
capped_both count a b most = omega arith

-- a count after so many more, and then some more
pub counted_both : (m n count : ℕ) → counted n (counted m count) ≡ counted (m + n) count
counted_both zero n count = let same : zero + n ≡ n = omega arith in ap (λ k. counted k count) (sym same)
counted_both (suc m) zero count = let same : suc m + zero ≡ suc m = omega arith in ap (λ k. counted k count) (sym same)
counted_both (suc m) (suc n) count =
    let more : suc (m + suc n) ≡ suc m + suc n = omega arith in
    capped_both count (suc m) (suc n) (2 ^ 64 - 1) ∙ ap (λ k. min (count + k) (2 ^ 64 - 1)) (sym more) ∙ ap (λ k. counted k count) more

-- what is known of what is left was known before
kept_known : (a b : Option (List ℕ)) (P : List ℕ → Type 0) → Keeps a b → IfSome b P → IfSome a P
kept_known None b P kept known = tt
kept_known (Some x) None P kept known = absurd kept
kept_known (Some x) (Some y) P kept known = subst P kept known

-- ---- an input that was looked at

module _ (s0 s1 s2 : Supply) (first : HasShown [] s0 s1) where
  given_after : (octets : List ℕ) → HasGiven octets s1 s2 → HasGiven octets s0 s2
  given_after octets later = record {
    left = Consumes-trans s0.left s1.left s2.left [] octets (Consumes-kept s0.left s0.left s1.left [] (Consumes-nil s0.left) first.left) later.left;
    given = later.given ∙ ap (counted (length octets)) first.given;
    faults = later.faults ∙ first.faults;
  }

  all_after : (octets : List ℕ) → HasTakenAll octets s1 s2 → HasTakenAll octets s0 s2
  all_after octets later = record {
    given = given_after octets later.given;
    all = kept_known s0.left s1.left (λ left. left ≡ octets) first.left later.all;
    flag = later.flag;
  }

  shown_after : (octets : List ℕ) → HasShown octets s1 s2 → HasShown octets s0 s2
  shown_after octets later = record {
    left = Keeps-trans s0.left s1.left s2.left first.left later.left;
    next = kept_known s0.left s1.left _ first.left later.next;
    given = later.given ∙ first.given;
    faults = later.faults ∙ first.faults;
  }

  stopped_after : (octets : List ℕ) → HasStoppedGiving octets s1 s2 → HasStoppedGiving octets s0 s2
  stopped_after octets later = record {
    left = Consumes-trans s0.left s1.left s2.left [] octets (Consumes-kept s0.left s0.left s1.left [] (Consumes-nil s0.left) first.left) later.left;
    given = later.given ∙ ap (counted (length octets)) first.given;
    faults = later.faults ∙ ap (counted 1) first.faults;
  }

  pub unread_after : (refusal : Refusal) (octets : List ℕ) → HasNotTaken refusal octets s1 s2 → HasNotTaken refusal octets s0 s2
  unread_after Memory octets later = (later.0, given_after octets later.1)
  unread_after Read octets later = (later.0, stopped_after octets later.1)
  unread_after _ octets later = absurd later

  takes_after : (turn : Turn) → Takes turn s1 s2 → Takes turn s0 s2
  takes_after (Alone line outcome) takes = (takes.0, given_after line takes.1)
  takes_after (Together lines) takes = (takes.0, given_after _ takes.1)
  takes_after (Withdrawn lines) takes = (takes.0, shown_after _ takes.1)

  -- what comes first comes first in an input that was only looked at
  pub first_after : (it : First) → HasFirst it s1 s2 → HasFirst it s0 s2
  first_after firsts.Json has = given_after _ has
  first_after firsts.Ready has = (shown_after [] has.0, kept_known s0.left s1.left _ first.left has.1)
  first_after (firsts.Taken Line line) has = ((has.0.0, given_after _ has.0.1), has.1)
  first_after (firsts.Taken Unfinished line) has = ((has.0.0, all_after _ has.0.1), has.1)
  first_after (firsts.Taken Nothing line) has = ((has.0.0, all_after [] has.0.1), has.1)

-- ---- turns

-- where a batch stands after so many turns, when so many lines are to be done alone
pub record StandsAfter {S : Type 0} (g : Ghosts S) (name : List ℕ) (format : Format) (count alone : ℕ) (input rest : Supply) (old new : DepotAndOutput (Held S)) : Type 0 where
  pub turns : List Turn
  pub taken : AreTaken g name format turns input rest old new
  pub counted : length turns ≡ count
  pub progress : MakeProgress turns
  pub owed : Owe alone turns

-- the same turn, by an equal name, an equal format and an equal result
pub turned_as : {S : Type 0} (g : Ghosts S) {n m : List ℕ} {f h : Format} {x y : Result (Option ℕ) Refusal} {alone later : ℕ} {s0 s1 : Supply} {old new : DepotAndOutput (Held S)} → n ≡ m → f ≡ h → x ≡ y
    → HasTurned g n f x alone later s0 s1 old new → HasTurned g m h y alone later s0 s1 old new
turned_as {S} g {n} {m} {f} {h} {x} {y} {alone} {later} {s0} {s1} {old} {new} same same2 is turned =
    subst (λ (name : List ℕ). HasTurned g name h y alone later s0 s1 old new) same
    (subst (λ (format : Format). HasTurned g n format y alone later s0 s1 old new) same2 (subst (λ (came : Result (Option ℕ) Refusal). HasTurned g n f came alone later s0 s1 old new) is turned))

-- what is ready, known by its name
pub ahead_as : {a b : Ahead} (s0 s1 : Supply) → a ≡ b → IsAhead a s0 s1 → IsAhead b s0 s1
ahead_as s0 s1 is ahead = subst (λ (a : Ahead). IsAhead a s0 s1) is ahead

-- what came of lines that were to be done together, known by its name
pub tried_as : {S : Type 0} (g : Ghosts S) (name : List ℕ) (format : Format) {t u : Tried} (lines : List (List ℕ)) (old new : DepotAndOutput (Held S)) → t ≡ u → HasTried g name format t lines old new
    → HasTried g name format u lines old new
tried_as g name format lines old new is tried = subst (λ (t : Tried). HasTried g name format t lines old new) is tried

-- what was taken, known by its name
pub taken_as : {t u : Taken} (octets : List ℕ) (s0 s1 : Supply) → t ≡ u → HasTakenNext t octets s0 s1 → HasTakenNext u octets s0 s1
taken_as octets s0 s1 is taken = subst (λ (t : Taken). HasTakenNext t octets s0 s1) is taken

-- how a batch begins, by its turns
begins_so : (format : Format) (input begun : Supply) (turns : List Turn) → Begins format input begun → BeginsSo format turns input begun
begins_so Json input begun turns begins = begins
begins_so Plain input begun [] begins = begins.0
begins_so Plain input begun (turn ∷ turns) begins = begins

module _ {S : Type 0} (g : Ghosts S) (name : List ℕ) (format : Format) where
  -- why a batch ends, whatever number of turns it had
  abbrev Ends : ℕ → ℕ → List Turn → Supply → Supply → DepotAndOutput (Held S) → DepotAndOutput (Held S) → Output → Output → Type 0
  Ends status count last rest left old new err err2 = EndsBy (Happens g name format) status count last rest left old new err err2

  -- one turn more was taken
  taken_more : (turns : List Turn) (turn : Turn) (input rest left : Supply) (old mid new : DepotAndOutput (Held S)) → AreTaken g name format turns input rest old mid
      → Takes turn rest left → Happens g name format turn Whole mid new → GoesOn turn → AreTaken g name format (turns ++ turn ∷ []) input left old new
  taken_more [] turn input rest left old mid new before takes happens on =
      (left, new, subst (λ (s : Supply). Takes turn s left) before.0 takes, subst (λ (o : DepotAndOutput (Held S)). Happens g name format turn Whole o new) before.1 happens, on, (refl, refl))
  taken_more (first ∷ turns) turn input rest left old mid new before takes happens on =
      (before.0, before.1, before.2, before.3, before.4, taken_more turns turn before.0 rest left before.1 mid new before.5 takes happens on)

  pub stands_first : {input : Supply} {old : DepotAndOutput (Held S)} → StandsAfter g name format 0 0 input input old old
  stands_first = record { turns = []; taken = (refl, refl); counted = refl; progress = tt; owed = tt }

  -- the reasons don't hang on the number of turns, but for that of counting
  ends_at : (status count : ℕ) (last : List Turn) (rest left : Supply) (old new : DepotAndOutput (Held S)) (err err2 : Output) → Ends status 0 last rest left old new err err2
      → Ends status count last rest left old new err err2
  ends_at status count last rest left old new err err2 (inl all) = inl (all.0, all.1, elim all.2 [ inl end ↦ inl end | inr counted ↦ absurd (omega (arith, counted.0)) ], all.3, all.4)
  ends_at status count last rest left old new err err2 (inr others) = inr others

  module _ {count alone later : ℕ} {begun rest left : Supply} {old mid new : DepotAndOutput (Held S)} (before : StandsAfter g name format count alone begun rest old mid) where
    pub stands_on : HasTurned g name format (Ok None) alone later rest left mid new → StandsAfter g name format (count + 1) later begun left old new
    stands_on turned =
        let come = turned.come in
        record {
          turns = before.turns ++ come.0 ∷ [];
          taken = taken_more before.turns come.0 begun rest left old mid new before.taken come.1 come.2 come.3;
          counted = length-append before.turns (come.0 ∷ []) ∙ ap (λ m. m + 1) before.counted;
          progress = progress_next before.turns come.0 alone later before.progress before.owed come.4;
          owed = owe_next before.turns come.0 alone later before.owed come.4;
        }

    -- a turn with which the batch ends, or a refusal that was told
    pub ends : {status : ℕ} {input : Supply} {err err2 : Output} → Begins format input begun → err2 ≡ err → HasTurned g name format (Ok (Some status)) alone later rest left mid new → HasServed g name status input left old new err err2
    ends {status} {input} {err} begins silent turned =
        let come = turned.come in
        record {
          format = format;
          turns = before.turns;
          begun = begun;
          rest = rest;
          mid = mid;
          taken = before.taken;
          last = come.0;
          ended =
              subst (λ (e : Output). Ends status (length before.turns) come.0 rest left mid new err e) (sym silent)
              (ends_at status (length before.turns) come.0 rest left mid new err err (come.1 err));
          begins = begins_so format input begun (before.turns ++ come.0) begins;
          progress = progress_last before.turns come.0 alone later before.progress before.owed come.2;
        }

    pub ends_told : {refusal : Refusal} {input : Supply} {err err2 err3 : Output} → Begins format input begun → err2 ≡ err → HasTurned g name format (Err refusal) alone later rest left mid new → HasTold refusal err2 err3
        → HasServed g name 1 input left old new err err3
    ends_told {refusal} {input} {err} {err2} {err3} begins silent turned told =
        let come = turned.come in
        record {
          format = format;
          turns = before.turns;
          begun = begun;
          rest = rest;
          mid = mid;
          taken = before.taken;
          last = come.0;
          ended = ends_at 1 (length before.turns) come.0 rest left mid new err err3 (come.1 err err3 (subst (λ (e : Output). HasTold refusal e err3) silent told));
          begins = begins_so format input begun (before.turns ++ come.0) begins;
          progress = progress_last before.turns come.0 alone later before.progress before.owed come.2;
        }

  -- the end of counting
  pub ends_counting : {count alone : ℕ} {input begun rest : Supply} {old new : DepotAndOutput (Held S)} {err err2 : Output} → StandsAfter g name format count alone begun rest old new
      → Begins format input begun → err2 ≡ err → count ≡ 2 ^ 64 - 1 → HasServed g name 0 input rest old new err err2
  ends_counting {count} {alone} {input} {begun} {rest} {old} {new} before begins silent all = record {
    format = format;
    turns = before.turns;
    begun = begun;
    rest = rest;
    mid = new;
    taken = before.taken;
    last = [];
    ended = inl (refl, refl, inr (before.counted ∙ all, refl), refl, silent);
    begins = begins_so format input begun (before.turns ++ []) begins;
    progress = progress_last before.turns [] alone alone before.progress before.owed tt;
  }

  -- ---- one turn

  -- the input was only looked at before a turn
  ends_after : (status : ℕ) (last : List Turn) (s0 s1 s2 : Supply) (old new : DepotAndOutput (Held S)) (err err2 : Output) → HasShown [] s0 s1 → Ends status 0 last s1 s2 old new err err2
      → Ends status 0 last s0 s2 old new err err2
  ends_after status last s0 s1 s2 old new err err2 first (inl all) =
      inl (all.0, all.1, inl (elim all.2 [ inl end ↦ all_after s0 s1 s2 first [] end | inr counted ↦ absurd (omega (arith, counted.0)) ]), all.3, all.4)
  ends_after status last s0 s1 s2 old new err err2 first (inr (inl all)) = inr (inl (all.0, all.1, all.2, all.3, all_after s0 s1 s2 first all.0 all.4, all.5))
  ends_after status last s0 s1 s2 old new err err2 first (inr (inr (inl all))) = inr (inr (inl (all.0, all.1, all.2, all.3, given_after s0 s1 s2 first all.1 all.4, all.5, all.6)))
  ends_after status last s0 s1 s2 old new err err2 first (inr (inr (inr (inl all)))) =
      inr (inr (inr (inl (all.0, all.1, all.2, takes_after s0 s1 s2 first all.1 all.3, all.4, all.5))))
  ends_after status last s0 s1 s2 old new err err2 first (inr (inr (inr (inr all)))) =
      inr (inr (inr (inr (all.0, all.1, all.2, all.3, unread_after s0 s1 s2 first all.2 all.3 all.4, all.5, all.6))))

  pub turned_after : (came : Result (Option ℕ) Refusal) {alone later : ℕ} {s0 s1 s2 : Supply} {old new : DepotAndOutput (Held S)} → HasShown [] s0 s1
      → HasTurned g name format came alone later s1 s2 old new → HasTurned g name format came alone later s0 s2 old new
  turned_after (Ok None) {alone} {later} {s0} {s1} {s2} first turned =
      let come = turned.come in
      record { come = (come.0, takes_after s0 s1 s2 first come.0 come.1, come.2, come.3, come.4) }
  turned_after (Ok (Some status)) {alone} {later} {s0} {s1} {s2} {old} {new} first turned =
      let come = turned.come in
      record { come = (come.0, (λ err. ends_after status come.0 s0 s1 s2 old new err err first (come.1 err)), come.2) }
  turned_after (Err refusal) {alone} {later} {s0} {s1} {s2} {old} {new} first turned =
      let come = turned.come in
      record { come = (come.0, (λ err err2 told. ends_after 1 come.0 s0 s1 s2 old new err err2 first (come.1 err err2 told)), come.2) }

  module _ {alone later : ℕ} {s0 s1 : Supply} {old : DepotAndOutput (Held S)} where
    -- the end of the input
    pub turned_end : HasTakenAll [] s0 s1 → HasTurned g name format (Ok (Some 0)) alone later s0 s1 old old
    turned_end end = record { come = ([], (λ err. inl (refl, refl, inl end, refl, refl)), tt) }

    -- no line could be read
    pub turned_unread : {refusal : Refusal} (octets : List ℕ) → HasNotTaken refusal octets s0 s1 → HasTurned g name format (Err refusal) alone later s0 s1 old old
    turned_unread {refusal} octets unread = record { come = ([], (λ err err2 told. inr (inr (inr (inr (refl, refl, refusal, octets, unread, told, refl))))), tt) }

  module _ {alone later : ℕ} {s0 s1 : Supply} {old new : DepotAndOutput (Held S)} where
    -- answers broke off
    pub turned_broken : (turn : Turn) → ComesNext alone turn later → Takes turn s0 s1 → Happens g name format turn Broken old new → HasTurned g name format (Err Write) alone later s0 s1 old new
    turned_broken turn next takes breaks = record { come = (turn ∷ [], (λ err err2 told. inr (inr (inr (inl (refl, turn, refl, takes, breaks, told))))), next) }

    module _ (octets : List ℕ) (outcome : Outcome) (one : alone ≤ later + 1) where
      -- a line was answered: the batch goes on, or ends since it was refused `Database`
      pub turned_line : (came : Option ℕ) → IsLine octets × HasGiven octets s0 s1 → Happens g name format (Alone octets outcome) Whole old new
          → IfSome came (λ status. (status ≡ 1) × (outcome ≡ Refused Database)) → IfNone came (outcome ≡ Refused Database → ⊥) → HasTurned g name format (Ok came) alone later s0 s1 old new
      turned_line None taken answered shut on = record { come = (Alone octets outcome, taken, answered, on, one) }
      turned_line (Some status) taken answered shut on =
          let refused = subst (λ (o : Outcome). Happens g name format (Alone octets o) Whole old new) shut.1 answered in
          record { come = (Alone octets (Refused Database) ∷ [], (λ err. inr (inr (inl (shut.0, octets, refl, taken.0, taken.1, refused, refl)))), one) }

      -- the end of the input within a line, whose answer was written, or broke off
      module _ (taken : IsUnfinished octets × HasTakenAll octets s0 s1) where
        pub turned_within : Happens g name format (Alone octets outcome) Whole old new → HasTurned g name format (Ok (Some 0)) alone later s0 s1 old new
        turned_within answered = record {
          come = (Alone octets outcome ∷ [], (λ err. inr (inl (octets, outcome, refl, taken.0, taken.1, inl (refl, answered, refl)))), one);
        }

        pub broken_within : Happens g name format (Alone octets outcome) Broken old new → HasTurned g name format (Err Write) alone later s0 s1 old new
        broken_within broken = record {
          come = (Alone octets outcome ∷ [], (λ err err2 told. inr (inl (octets, outcome, refl, taken.0, taken.1, inr (refl, broken, told)))), one);
        }

-- where a batch stands after so many turns, and how it began
pub record StandsSo {S : Type 0} (g : Ghosts S) (name : List ℕ) (format : Format) (count alone : ℕ) (input rest : Supply) (old new : DepotAndOutput (Held S)) : Type 0 where
  pub begun : Supply
  pub begins : Begins format input begun
  pub stands : StandsAfter g name format count alone begun rest old new

module _ {S : Type 0} (g : Ghosts S) (name : List ℕ) (format : Format) where
  -- after the first turn
  pub so_begun : {came : Result (Option ℕ) Refusal} {later : ℕ} {input rest : Supply} {old new : DepotAndOutput (Held S)} → came ≡ Ok None → HasBegun g name format came later input rest old new
      → StandsSo g name format 1 later input rest old new
  so_begun {came} {later} {input} {rest} {old} {new} is first = record {
    begun = first.begun;
    begins = first.begins;
    stands = stands_on g name format (stands_first g name format) (turned_as g refl refl is first.turned);
  }

  -- a batch that ended with it
  pub first_ends : {came : Result (Option ℕ) Refusal} {later status : ℕ} {input rest : Supply} {old new : DepotAndOutput (Held S)} {err : Output} → came ≡ Ok (Some status)
      → HasBegun g name format came later input rest old new → HasServed g name status input rest old new err err
  first_ends is first = ends g name format (stands_first g name format) first.begins refl (turned_as g refl refl is first.turned)

  pub first_ends_told : {came : Result (Option ℕ) Refusal} {refusal : Refusal} {later : ℕ} {input rest : Supply} {old new : DepotAndOutput (Held S)} {err err2 : Output} → came ≡ Err refusal
      → HasBegun g name format came later input rest old new → HasTold refusal err err2 → HasServed g name 1 input rest old new err err2
  first_ends_told is first told = ends_told g name format (stands_first g name format) first.begins refl (turned_as g refl refl is first.turned) told

  module _ {count alone later : ℕ} {input rest left : Supply} {old mid new : DepotAndOutput (Held S)} (before : StandsSo g name format count alone input rest old mid) where
    -- after one turn more
    pub so_on : HasTurned g name format (Ok None) alone later rest left mid new → StandsSo g name format (count + 1) later input left old new
    so_on turned = record { begun = before.begun; begins = before.begins; stands = stands_on g name format before.stands turned }

    -- the end
    pub so_ends : {status : ℕ} {err err2 : Output} → err2 ≡ err → HasTurned g name format (Ok (Some status)) alone later rest left mid new → HasServed g name status input left old new err err2
    so_ends silent turned = ends g name format before.stands before.begins silent turned

    pub so_ends_told : {refusal : Refusal} {err err2 err3 : Output} → err2 ≡ err → HasTurned g name format (Err refusal) alone later rest left mid new → HasTold refusal err2 err3
        → HasServed g name 1 input left old new err err3
    so_ends_told silent turned told = ends_told g name format before.stands before.begins silent turned told

  pub so_counting : {count alone : ℕ} {input rest : Supply} {old new : DepotAndOutput (Held S)} {err err2 : Output} → StandsSo g name format count alone input rest old new
      → err2 ≡ err → count ≡ 2 ^ 64 - 1 → HasServed g name 0 input rest old new err err2
  so_counting before silent all = ends_counting g name format before.stands before.begins silent all

-- nothing could be read
pub served_none : {S : Type 0} (g : Ghosts S) (name : List ℕ) (refusal : Refusal) {input rest : Supply} {old : DepotAndOutput (Held S)} {err err2 : Output} (octets : List ℕ)
    → HasNotTaken refusal octets input rest → HasTold refusal err err2 → HasServed g name 1 input rest old old err err2
served_none g name refusal {input} {rest} {old} {err} {err2} octets unread told = record {
  format = Plain;
  turns = [];
  begun = input;
  rest = input;
  mid = old;
  taken = (refl, refl);
  last = [];
  ended = inr (inr (inr (inr (refl, refl, refusal, octets, unread, told, refl))));
  begins = refl;
  progress = tt;
}
