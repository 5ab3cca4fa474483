-- What a migration comes to: all programs are read, and those that have another version are replaced.
use Rattle.std.proofs.Common.{◌≡◌, inl, inr, ℕ, suc, ◌+◌, ◌<◌, Bool, true, false, not, List, [], ◌∷◌, ◌++◌, filter, length, map, take, get_or, Option, Some, None, option_map, IsTrue, is_eq, if◌then◌else◌, bytes_eq, refl, sym, ap, subst, ◌∙◌, arith, eqb-true}
use Rattle.std.specs.Prelude.{String, Vec, string_bytes}
use Rattle.std.specs.declared.alloc.Global.{Global}
use Rattle.std.specs.declared.cmp.Ordering.TheVariants.{Less}
use Rattle.std.specs.Cmp.Lexicographic.{slice_cmp}
use Rattle.std.specs.Ordering.{nat_cmp}
use Rattle.std.specs.List.{AllByRecursion, AllZip}
use Rattle.std.proofs.lemmas.Cmp.{nat_list_eq_equiv}
use Rattle.std.proofs.lemmas.List.{map_more}
use Rattle.std.proofs.lemmas.Map.Text.{is_eq-slice_cmp}
use Rattle.std.proofs.lemmas.Slice.Eq.{bytes_eq-Decides}
use Rattle.sqlite.specs.State.{State, HasCleanDisk, Survives}
use Rattle.sqlite_rules.specs.Lists.{Has}
use Rattle.sqlite_rules.proofs.ListLemmas.{all_has, has_at}
use Rattle.sqlite_rules.proofs.ProbeLemmas.{mapped_has}
use Rattle.sqlite_trees.specs.Tree.{IsAscending, Trees}
use Rattle.bytecode_format.specs.Code.{Code, latest_version}
use Rattle.bytecode_format.specs.Spelling.{spelling}
use Rattle.sieve_engine.specs.Execution.{IsChecked}
use Rattle.part_store.specs.Entries.{AreProgramsOf, Entries, IsBefore, UserProgram, program_named, with_programs}
use Rattle.part_store.specs.Standing.{Makes, MayMake, LeavesUnchanged, Stands, pair_of}
use Rattle.part_store.specs.Refusals.{HaveNoUserRoom}
use Rattle.refusals.specs.declared.refusal.Refusal.{Refusal}
use Rattle.refusals.specs.declared.refusal.Refusal.TheVariants as refusal
use Rattle.depot_actions.specs.Causes.{IsFault, IsHindered, IsSpoilt, IsStoreFault}
use Rattle.depot_actions.specs.DepotState.{Accepts, Does, IsRenewed, MayLeave, Migrate, Migrated, Migrates, is_latest}
use Rattle.depot_actions.specs.Renewing.{AreRenewals, renewal, renewals, renewed_octets, with_renewal}
use Rattle.depot_actions.proofs.Commands.{left_alone, stands_still}
use Rattle.depot_actions.proofs.StoreFaults.{later_fault, weaker_fault}

-- ---- codes

latest_same : (code : Code) → is_latest code ≡ true → record code { version = latest_version } ≡ code
latest_same code latest = let same : code.version ≡ 2 = eqb-true code.version 2 latest in λ i. record code { version = sym same i }

-- octets of the latest version are the octets of the same code with the latest version
kept_octets : (program : List ℕ) (code : Code) → IsChecked program code → is_latest code ≡ true → program ≡ renewed_octets code
kept_octets program code checked latest = checked.spells.spelt ∙ ap spelling (sym (latest_same code latest))

-- ---- who is named

-- a name that comes before others isn't among them
apart : (m n : List ℕ) → slice_cmp nat_cmp m n ≡ Less → bytes_eq m n ≡ false
apart m n less = sym (is_eq-slice_cmp m n) ∙ ap is_eq less

apart_too : (m n : List ℕ) → slice_cmp nat_cmp m n ≡ Less → bytes_eq n m ≡ false
apart_too m n less = nat_list_eq_equiv.symm n m ∙ apart m n less

-- who comes before all isn't renewed
unnamed : (user program : List ℕ) (stored : List UserProgram) (codes : List Code) → AllByRecursion (λ (pair : UserProgram). slice_cmp nat_cmp user pair.0 ≡ Less) stored → program_named (renewals stored codes) user program ≡ program
unnamed user program [] codes up = refl
unnamed user program (pair ∷ stored) [] up = refl
unnamed user program (pair ∷ stored) (code ∷ codes) up = go (renewal code) (unnamed user program stored codes up.1)
  where
    go : (renewed : Option (List ℕ)) → program_named (renewals stored codes) user program ≡ program → program_named (with_renewal renewed pair (renewals stored codes)) user program ≡ program
    go None later = later
    go (Some octets) later = ap (λ (b : Bool). program_named (renewals stored codes) user (if b then octets else program)) (apart user pair.0 up.0) ∙ later

-- each user's program is renewed
record IsNamed (stored : List UserProgram) (codes : List Code) (user program : List ℕ) : Type 0 where
  code : Code
  checked : IsChecked program code
  named : program_named (renewals stored codes) user program ≡ renewed_octets code

bytes_same : (m n : List ℕ) → m ≡ n → bytes_eq m n ≡ true
bytes_same m n same = (bytes_eq-Decides m n).1 same

abbrev Checked : UserProgram → Code → Type 0
Checked pair code = IsChecked pair.1 code

first_named : (user program : List ℕ) (pair : UserProgram) (stored : List UserProgram) (code : Code) (codes : List Code) → pair.0 ≡ user → pair.1 ≡ program → AllByRecursion (λ (q : UserProgram). slice_cmp nat_cmp pair.0 q.0 ≡ Less) stored
    → IsChecked pair.1 code → IsNamed (pair ∷ stored) (code ∷ codes) user program
first_named user program pair stored code codes name is up checked = record {
  code = code;
  checked = mine;
  named = go (is_latest code) refl;
}
  where
    mine : IsChecked program code
    mine = subst (λ p. IsChecked p code) is checked

    others : (x : List ℕ) → program_named (renewals stored codes) user x ≡ x
    others x = unnamed user x stored codes (subst (λ n. AllByRecursion (λ (q : UserProgram). slice_cmp nat_cmp n q.0 ≡ Less) stored) name up)

    go : (latest : Bool) → is_latest code ≡ latest → program_named (with_renewal (if latest then None else Some (renewed_octets code)) pair (renewals stored codes)) user program ≡ renewed_octets code
    go true latest = others program ∙ kept_octets program code mine latest
    go false old = ap (λ (b : Bool). program_named (renewals stored codes) user (if b then renewed_octets code else program)) (bytes_same user pair.0 (sym name)) ∙ others (renewed_octets code)

later_named : (user program : List ℕ) (pair : UserProgram) (stored : List UserProgram) (code : Code) (codes : List Code) → slice_cmp nat_cmp pair.0 user ≡ Less → IsNamed stored codes user program → IsNamed (pair ∷ stored) (code ∷ codes) user program
later_named user program pair stored code codes before h = record {
  code = h.code;
  checked = h.checked;
  named = go (renewal code);
}
  where
    go : (renewed : Option (List ℕ)) → program_named (with_renewal renewed pair (renewals stored codes)) user program ≡ renewed_octets h.code
    go None = h.named
    go (Some octets) = ap (λ (b : Bool). program_named (renewals stored codes) user (if b then octets else program)) (apart_too pair.0 user before) ∙ h.named

one_named : (user program : List ℕ) (stored : List UserProgram) (codes : List Code) → IsAscending IsBefore stored → AllZip Checked stored codes → Has stored (user, program) → IsNamed stored codes user program
one_named user program [] codes up zip there = absurd there
one_named user program (pair ∷ stored) [] up zip there = absurd zip
one_named user program (pair ∷ stored) (code ∷ codes) up zip (inl same) =
    first_named user program pair stored code codes (sym (ap (λ (p : UserProgram). p.0) same)) (sym (ap (λ (p : UserProgram). p.1) same)) up.0 zip.0
one_named user program (pair ∷ stored) (code ∷ codes) up zip (inr later) =
    later_named user program pair stored code codes (all_has (IsBefore pair) stored (user, program) up.0 later) (one_named user program stored codes up.1 zip.1 later)

-- ---- how many there are

counted : (stored : List UserProgram) (codes : List Code) → AllZip Checked stored codes → length (renewals stored codes) ≡ length (filter (λ code. not (is_latest code)) codes)
counted [] [] zip = refl
counted [] (code ∷ codes) zip = absurd zip
counted (pair ∷ stored) [] zip = absurd zip
counted (pair ∷ stored) (code ∷ codes) zip = go (is_latest code) (counted stored codes zip.1)
  where
    go : (latest : Bool) → length (renewals stored codes) ≡ length (filter (λ code. not (is_latest code)) codes)
        → length (with_renewal (if latest then None else Some (renewed_octets code)) pair (renewals stored codes)) ≡ length (if not latest then code ∷ filter (λ code. not (is_latest code)) codes else filter (λ code. not (is_latest code)) codes)
    go true h = h
    go false h = ap suc h

-- ---- one after another

zip_push : (stored : List UserProgram) (codes : List Code) (pair : UserProgram) (code : Code) → AllZip Checked stored codes → IsChecked pair.1 code → AllZip Checked (stored ++ pair ∷ []) (codes ++ code ∷ [])
zip_push [] [] pair code zip checked = (checked, tt)
zip_push [] (c ∷ codes) pair code zip checked = absurd zip
zip_push (p ∷ stored) [] pair code zip checked = absurd zip
zip_push (p ∷ stored) (c ∷ codes) pair code zip checked = (zip.0, zip_push stored codes pair code zip.1 checked)

renewals_push : (stored : List UserProgram) (codes : List Code) (pair : UserProgram) (code : Code) → AllZip Checked stored codes
    → renewals stored codes ++ with_renewal (renewal code) pair [] ≡ renewals (stored ++ pair ∷ []) (codes ++ code ∷ [])
renewals_push [] [] pair code zip = refl
renewals_push [] (c ∷ codes) pair code zip = absurd zip
renewals_push (p ∷ stored) [] pair code zip = absurd zip
renewals_push (p ∷ stored) (c ∷ codes) pair code zip = go (renewal c) (renewals_push stored codes pair code zip.1)
  where
    go : (renewed : Option (List ℕ)) → renewals stored codes ++ with_renewal (renewal code) pair [] ≡ renewals (stored ++ pair ∷ []) (codes ++ code ∷ [])
        → with_renewal renewed p (renewals stored codes) ++ with_renewal (renewal code) pair [] ≡ with_renewal renewed p (renewals (stored ++ pair ∷ []) (codes ++ code ∷ []))
    go None h = h
    go (Some octets) h = ap (λ pairs. (p.0, octets) ∷ pairs) h

-- one program more was read
pub renewed_more : (programs : List (String Global × Vec ℕ Global)) (place : ℕ) (item : String Global × Vec ℕ Global) (user program : List ℕ) (code : Code) (renewed more : List UserProgram) → place < length programs
    → item ≡ get_or programs place item → user ≡ string_bytes item.0 → program ≡ item.1.items → AreRenewals (map pair_of (take place programs)) renewed → IsChecked program code
    → more ≡ renewed ++ with_renewal (renewal code) (user, program) [] → AreRenewals (map pair_of (take (place + 1) programs)) more
renewed_more programs place item user program code renewed more lt is named octets so_far checked all =
    let stored = map pair_of (take place programs) in
    let pair : (user, program) ≡ pair_of item = λ i. (named i, octets i) in
    let whole : stored ++ (user, program) ∷ [] ≡ map pair_of (take (place + 1) programs) = ap (λ p. stored ++ p ∷ []) (pair ∙ ap pair_of is) ∙ sym (map_more pair_of programs place item lt) in
    subst (λ stored. AreRenewals stored more) whole (
      so_far.0 ++ code ∷ [],
      zip_push stored so_far.0 (user, program) code so_far.1 checked,
      all ∙ ap (λ pairs. pairs ++ with_renewal (renewal code) (user, program) []) so_far.2 ∙ renewals_push stored so_far.0 (user, program) code so_far.1,
    )

-- ---- the migration

all_renewed : (before : Entries) (stored : List UserProgram) (codes : List Code) → AreProgramsOf before stored → AllZip Checked stored codes → (user : List ℕ) → IsRenewed (before.programs user) (option_map (program_named (renewals stored codes) user) (before.programs user))
all_renewed before stored codes are zip user = go (before.programs user) refl
  where
    go : (program : Option (List ℕ)) → before.programs user ≡ program → IsRenewed program (option_map (program_named (renewals stored codes) user) program)
    go None is = refl
    go (Some program) is =
        let h = one_named user program stored codes are.rising zip (are.all user program is) in
        (h.code, h.checked, ap Some h.named)

migrates : (before : Entries) (stored renewed : List UserProgram) → AreProgramsOf before stored → AreRenewals stored renewed → Migrates before (Migrated (length renewed)) (with_programs renewed before)
migrates before stored renewed are (codes, zip, is) = subst (λ pairs. Migrates before (Migrated (length pairs)) (with_programs pairs before)) (sym is) (record {
  stored = stored;
  are = are;
  codes = codes;
  checked = zip;
  counted = ap Migrated (counted stored codes zip);
  renewed = all_renewed before stored codes are zip;
  entries = refl;
  lasts = refl;
})

-- where none is renewed nothing changes
none_named : (before : Entries) → with_programs [] before ≡ before
none_named before = λ i. record before { programs = λ user. go user (before.programs user) i }
  where
    go : (user : List ℕ) (program : Option (List ℕ)) → option_map (program_named [] user) program ≡ program
    go user None = refl
    go user (Some program) = refl

accepts : (before : Entries) (stored renewed : List UserProgram) → AreProgramsOf before stored → AreRenewals stored renewed → Accepts before Migrate (Migrated (length renewed)) (with_programs renewed before)
accepts before stored renewed are renewals = record { named = tt; step = migrates before stored renewed are renewals }

module _ (old mid new : State) (stored renewed : List UserProgram) (was_open : IsTrue old.is_open) (told : (before : Entries) → Stands old.now before → AreProgramsOf before stored) (spares : LeavesUnchanged old mid)
    (are : AreRenewals stored renewed) where
  pub migrated : (number : ℕ) → number ≡ length renewed → Makes (with_programs renewed) mid new → Does Migrate (Migrated number) old new
  migrated number same makes = (
    was_open,
    λ before stands. (
      with_programs renewed before,
      subst (λ n. Accepts before Migrate (Migrated n) (with_programs renewed before)) (sym same) (accepts before stored renewed (told before stands) are),
      record { stands = λ _. ((makes.1 before (stands_still old mid before spares stands makes.0.0)).0, makes.0.2); closes = inl makes.0.1 },
    ),
  )

  pub none_migrated : (IsTrue mid.is_open → mid.committed ≡ mid.now) → length renewed ≡ 0 → Does Migrate (Migrated 0) old mid
  none_migrated settled none = (
    was_open,
    λ before stands.
        let empty : renewed ≡ [] = nothing renewed none in
        let same : with_programs renewed before ≡ before = ap (λ pairs. with_programs pairs before) empty ∙ none_named before in (
          before,
          subst (Accepts before Migrate (Migrated 0)) same (subst (λ n. Accepts before Migrate (Migrated n) (with_programs renewed before)) none (accepts before stored renewed (told before stands) are)),
          left_alone old mid before was_open settled spares stands,
        ),
  )
    where
      nothing : (pairs : List UserProgram) → length pairs ≡ 0 → pairs ≡ []
      nothing [] h = refl
      nothing (pair ∷ pairs) h = absurd (omega (arith, h))

  pub may_be_migrated : (trees : Trees) → IsTrue mid.is_open → MayMake (with_programs renewed) mid trees → MayLeave Migrate old trees
  may_be_migrated trees is_open left = (
    was_open,
    λ before stands. (
      Migrated (length renewed),
      with_programs renewed before,
      accepts before stored renewed (told before stands) are,
      (left before (stands_still old mid before spares stands is_open)).0,
    ),
  )

-- ---- what is refused

-- a program that is passed over is one of those that are stored
pub stored_there : (programs : List (String Global × Vec ℕ Global)) (place : ℕ) (item : String Global × Vec ℕ Global) (user program : List ℕ) → place < length programs → item ≡ get_or programs place item
    → user ≡ string_bytes item.0 → program ≡ item.1.items → Has (map pair_of programs) (user, program)
stored_there programs place item user program lt is named code =
    let pair : pair_of item ≡ (user, program) = λ i. (sym named i, sym code i) in
    subst (Has (map pair_of programs)) pair (mapped_has pair_of programs item (has_at programs place item lt is))

pub spoilt_fault : (old new : State) (stored : List UserProgram) (e : Refusal) → ((before : Entries) → Stands old.now before → AreProgramsOf before stored)
    → (e ≡ refusal.Database → (pair : UserProgram) × Has stored pair × IsSpoilt (Some pair.1)) → IsFault Migrate old new e
spoilt_fault old new stored e told cause is before stands =
    let found = cause is in
    let own = all_has (λ (pair : UserProgram). before.programs pair.0 ≡ Some pair.1) stored found.0 (told before stands).each found.1 in
    inr (inl (found.0.0, subst IsSpoilt (sym own) found.2))

pub roomless_fault : {P Q : Trees → Type 0} (old mid new : State) (stored renewed : List UserProgram) (e : Refusal) → ((before : Entries) → Stands old.now before → AreProgramsOf before stored) → AreRenewals stored renewed
    → LeavesUnchanged old mid → Survives old mid P → Survives mid new Q → HasCleanDisk new → IsStoreFault (HaveNoUserRoom renewed) mid new e → IsFault Migrate old new e
roomless_fault old mid new stored renewed e told are spares one two clean fault =
    weaker_fault (HaveNoUserRoom renewed) (IsHindered Migrate) old new e (λ before stands none. inr (stored, renewed, told before stands, are, none))
    (later_fault (HaveNoUserRoom renewed) old mid new e spares one two clean fault)
