-- Programs are replaced one after another.
use Rattle.std.proofs.Common.{◌≡◌, ℕ, ◌+◌, ◌<◌, Bool, true, false, List, [], ◌∷◌, ◌++◌, length, map, take, get_or, drop, ◌⊎◌, inl, inr, length-append, IsTrue, Option, Some, None, option_map, if◌then◌else◌, refl, sym, ap, subst, ◌∙◌, bytes_eq, arith}
use Rattle.std.specs.Prelude.{String, Vec, string_bytes}
use Rattle.std.specs.declared.alloc.Global.{Global}
use Rattle.std.proofs.lemmas.List.{drop_more, map-append, map_more, take-append-drop}
use Rattle.sqlite_trees.specs.Tree.{Trees}
use Rattle.sqlite_rules.specs.Lists.{Has}
use Rattle.sqlite.specs.declared.error.Error.{Error}
use Rattle.sqlite.specs.State.{State, HasCleanDisk, KeepsCommit, Survives}
use Rattle.sqlite.proofs.StateLemmas.{survives_then}
use Rattle.part_store.specs.Tables.{store_schema, contents_tree, users_table, users_tree}
use Rattle.part_store.specs.Entries.{Entries, UserProgram, program_named, with_program, with_programs}
use Rattle.part_store.specs.Inside.{Brings, Stays}
use Rattle.part_store.specs.Standing.{AddsVerified, Stands, pair_of}
use Rattle.part_store.specs.Refusals.{refusal_of, user_values, OnlyWhenFailedOr, OnlyWhenFailedOrNoProgramRoom, OnlyWhenFailedOrNoUserRoom, IsTooBig, RunsOut}
use Rattle.part_store.specs.Causes.{RisesFrom}
use Rattle.part_store.proofs.Apart.{bytes_same, same_bytes}
use Rattle.part_store.proofs.Digests.{same_verified, then_verified}
use Rattle.part_store.proofs.Failing.{later_failed}
use Rattle.part_store.proofs.Room.{ran_out, rises_after}
use Rattle.part_store.proofs.Entering.{kept_then, stands_still}
use Rattle.part_store.proofs.FiledAll.{has_right}

-- ---- what is named

named_push : (pairs : List UserProgram) (pair : UserProgram) (user program : List ℕ) → program_named (pairs ++ pair ∷ []) user program ≡ program_named (pair ∷ []) user (program_named pairs user program)
named_push [] pair user program = refl
named_push (first ∷ pairs) pair user program = named_push pairs pair user (if bytes_eq user first.0 then first.1 else program)

pub programs_push : (pairs : List UserProgram) (pair : UserProgram) (e : Entries) → with_programs (pair ∷ []) (with_programs pairs e) ≡ with_programs (pairs ++ pair ∷ []) e
programs_push pairs pair e = λ i. record e { programs = λ user. go user (e.programs user) i }
  where
    go : (user : List ℕ) (program : Option (List ℕ)) → option_map (program_named (pair ∷ []) user) (option_map (program_named pairs user) program) ≡ option_map (program_named (pairs ++ pair ∷ []) user) program
    go user None = refl
    go user (Some program) = ap Some (sym (named_push pairs pair user program))

-- who has a program has this one now
pub one_replaced : (user program was : List ℕ) (e : Entries) → Some was ≡ e.programs user → with_program user program e ≡ with_programs ((user, program) ∷ []) e
one_replaced user program was e has = λ i. record e { programs = λ name. pick (bytes_eq name user) (e.programs name) (λ mine. ap e.programs (same_bytes name user mine) ∙ sym has) i }
  where
    pick : (b : Bool) (o : Option (List ℕ)) → (b ≡ true → o ≡ Some was) → (if b then Some program else o) ≡ option_map (λ p. if b then program else p) o
    pick true None given = absurd (let h = given refl in cc)
    pick true (Some p) given = refl
    pick false None given = refl
    pick false (Some p) given = refl

-- who has none gets none
pub none_replaced : (user program : List ℕ) (e : Entries) → None ≡ e.programs user → e ≡ with_programs ((user, program) ∷ []) e
none_replaced user program e has = λ i. record e { programs = λ name. pick (bytes_eq name user) (e.programs name) (λ mine. ap e.programs (same_bytes name user mine) ∙ sym has) i }
  where
    pick : (b : Bool) (o : Option (List ℕ)) → (b ≡ true → o ≡ None) → o ≡ option_map (λ p. if b then program else p) o
    pick true None given = refl
    pick true (Some p) given = absurd (let h = given refl in cc)
    pick false None given = refl
    pick false (Some p) given = refl

-- ---- one after another

-- so far these were put in, by a step that goes over a list
pub record Replacing {X : Type 0} (step : List X → Entries → Entries) (items : List X) (old now : State) : Type 0 where
  pub survives : Survives old now (λ _. ⊥)
  pub brought : HasCleanDisk now → Brings (step items) old now
  pub inside : HasCleanDisk now → old.now.schema ≡ store_schema → IsTrue old.in_transaction → IsTrue now.in_transaction
  pub schema : HasCleanDisk now → old.now.schema ≡ store_schema → now.now.schema ≡ store_schema
  pub opened : HasCleanDisk now → 0 < length items → IsTrue old.is_open
  pub stays_closed : HasCleanDisk now → IsTrue now.is_open → IsTrue old.is_open
  pub kept : HasCleanDisk now → old.now.schema ≡ store_schema → KeepsCommit old now
  pub rowids : HasCleanDisk now → (before : Entries) → Stands old.now before → RisesFrom (length items) (old.now.trees users_tree) (now.now.trees users_tree)

module _ {X : Type 0} (step : List X → Entries → Entries) (items : List X) (item : X) (old mid new : State) (so_far : Replacing step items old mid) (survives : Survives mid new (λ _. ⊥)) where
  pub replaced_more : ((e : Entries) → step (item ∷ []) (step items e) ≡ step (items ++ item ∷ []) e) → (HasCleanDisk new → Brings (step (item ∷ [])) mid new)
      → (HasCleanDisk new → mid.now.schema ≡ store_schema → IsTrue mid.in_transaction → IsTrue new.in_transaction) → (HasCleanDisk new → mid.now.schema ≡ store_schema → new.now.schema ≡ store_schema)
      → (HasCleanDisk new → IsTrue mid.is_open) → (HasCleanDisk new → IsTrue new.is_open → IsTrue mid.is_open) → (HasCleanDisk new → mid.now.schema ≡ store_schema → KeepsCommit mid new)
      → (HasCleanDisk new → (before : Entries) → Stands mid.now before → RisesFrom 1 (mid.now.trees users_tree) (new.now.trees users_tree)) → Replacing step (items ++ item ∷ []) old new
  replaced_more push brings inside schema opened shut kept rowids =
      let early = λ (clean : HasCleanDisk new). let e : HasCleanDisk mid = omega (arith, survives.clean) in e in
      record {
        survives = survives_then old mid new (λ _. ⊥) (λ _. ⊥) (λ _. ⊥) (λ _ _ h. h) (λ _ _ h. h) so_far.survives survives;
        brought = λ clean before stands.
            let first = so_far.brought (early clean) before stands in
            let second = brings clean (step items before) first.0 in
            (subst (Stands new.now) (push before) second.0, second.1 ∙ first.1, then_verified old.now.trees mid.now.trees new.now.trees first.2 second.2);
        inside = λ clean has h. inside clean (so_far.schema (early clean) has) (so_far.inside (early clean) has h);
        schema = λ clean has. schema clean (so_far.schema (early clean) has);
        opened = λ clean some. so_far.stays_closed (early clean) (opened clean);
        stays_closed = λ clean h. so_far.stays_closed (early clean) (shut clean h);
        kept = λ clean has. kept_then old mid new (so_far.kept (early clean) has) (kept clean (so_far.schema (early clean) has));
        rowids = λ clean before stands.
            subst (λ n. RisesFrom n (old.now.trees users_tree) (new.now.trees users_tree)) (sym (length-append items (item ∷ [])))
            (rises_after (length items) 1 (old.now.trees users_tree) (mid.now.trees users_tree) (new.now.trees users_tree) (so_far.rowids (early clean) before stands)
            (rowids clean (step items before) (so_far.brought (early clean) before stands).0));
      }

  -- one that has no room among all, where it has none once those before it were put in
  pub items_refused : (Big : X → Entries → Type 0) → ((before : Entries) → Big item (step items before) → Big item before) → (later whole : List X) (e : Error) → whole ≡ items ++ item ∷ later → HasCleanDisk new
      → (IsTrue mid.in_transaction → OnlyWhenFailedOr (λ before db. RunsOut (db users_tree) 1 ⊎ ((x : X) × Has (item ∷ []) x × Big x before)) mid new (refusal_of e))
      → IsTrue old.in_transaction → OnlyWhenFailedOr (λ before db. RunsOut (db users_tree) (length whole) ⊎ ((x : X) × Has whole x × Big x before)) old new (refusal_of e)
  items_refused Big keeps later whole e place clean cause begun is before stands =
      let early : HasCleanDisk mid = omega (arith, clean, survives.clean) in
      let brought = so_far.brought early before stands in
      let there : Has whole item = subst (λ l. Has l item) (sym place) (has_right items (item ∷ later) item (inl refl)) in
      elim (cause (so_far.inside early stands.schema begun) is (step items before) brought.0) [
        | inl failed ↦ inl (later_failed old mid new so_far.survives survives clean failed)
        | inr (inl full) ↦ inr (inl (ran_out (length items) (length whole) (old.now.trees users_tree) (mid.now.trees users_tree) (omega (arith, ap length place, length-append items (item ∷ later))) (so_far.rowids early before stands) full))
        | inr (inr (other, inl is, big)) ↦ inr (inr (item, there, keeps before (subst (λ x. Big x (step items before)) is big)))
        | inr (inr (other, inr none, big)) ↦ absurd none
      ]

-- one more of a list that is mapped
pub mapped_more : {A X : Type 0} (f : A → X) (all : List A) (place : ℕ) (item : A) → place < length all → item ≡ get_or all place item → map f (take place all) ++ f item ∷ [] ≡ map f (take (place + 1) all)
mapped_more f all place item lt is = ap (λ x. map f (take place all) ++ x ∷ []) (ap f is) ∙ sym (map_more f all place item lt)

pub mapped_split : {A X : Type 0} (f : A → X) (all : List A) (place : ℕ) (item : A) → place < length all → item ≡ get_or all place item → map f all ≡ map f (take place all) ++ f item ∷ map f (drop (place + 1) all)
mapped_split f all place item lt is =
    ap (map f) (sym (take-append-drop place all) ∙ ap (λ rest. take place all ++ rest) (drop_more all place item lt))
    ∙ map-append f (take place all) (get_or all place item ∷ drop (place + 1) all) ∙ ap (λ x. map f (take place all) ++ f x ∷ map f (drop (place + 1) all)) (sym is)

-- the pair of a user and a program that were read in place
pub same_pair : (item : String Global × Vec ℕ Global) (user program : List ℕ) → user ≡ string_bytes item.0 → program ≡ item.1.items → pair_of item ≡ (user, program)
same_pair item user program named code = λ i. (sym named i, sym code i)

-- ---- one of them

still_verified : (old new : State) → Stays old new → old.now.schema ≡ store_schema → AddsVerified old.now.trees new.now.trees
still_verified old new stays has = same_verified old.now.trees new.now.trees (ap (λ (t : Trees). t contents_tree) (stays has).1)

pub replaced_one : (old mid new : State) (user program was : List ℕ) → ((before : Entries) → Stands old.now before → Some was ≡ before.programs user) → Stays old mid
    → (old.now.schema ≡ store_schema → KeepsCommit old mid) → (old.now.schema ≡ store_schema → IsTrue mid.is_open) → Brings (with_program user program) mid new → Brings (with_programs ((user, program) ∷ [])) old new
replaced_one old mid new user program was told stays kept is_open brings before stands =
    let second = brings before (stands_still old mid before stays stands) in (
      subst (Stands new.now) (one_replaced user program was before (told before stands)) second.0,
      second.1 ∙ (kept stands.schema).committed (is_open stands.schema),
      then_verified old.now.trees mid.now.trees new.now.trees (still_verified old mid stays stands.schema) second.2,
    )

pub passed_over : (old new : State) (user program : List ℕ) → ((before : Entries) → Stands old.now before → None ≡ before.programs user) → Stays old new → (old.now.schema ≡ store_schema → KeepsCommit old new) → (old.now.schema ≡ store_schema → IsTrue new.is_open)
    → Brings (with_programs ((user, program) ∷ [])) old new
passed_over old new user program told stays kept is_open before stands = (
  subst (Stands new.now) (none_replaced user program before (told before stands)) (stands_still old new before stays stands),
  (kept stands.schema).committed (is_open stands.schema),
  still_verified old new stays stands.schema,
)

-- ---- what is refused

own_program : (user program : List ℕ) (before : Entries) → (with_program user program before).programs user ≡ Some program
own_program user program before = rw (bytes_same user)

pub one_refused : (old mid new : State) (user program : List ℕ) (e : Error) → Stays old mid → Survives old mid (λ _. ⊥) → Survives mid new (λ _. ⊥) → HasCleanDisk new
    → (old.now.schema ≡ store_schema → IsTrue old.in_transaction → IsTrue mid.in_transaction)
    → (IsTrue mid.in_transaction → OnlyWhenFailedOrNoUserRoom user (with_program user program) mid new (refusal_of e)) → IsTrue old.in_transaction → OnlyWhenFailedOrNoProgramRoom ((user, program) ∷ []) old new (refusal_of e)
one_refused old mid new user program e stays one two clean inside cause begun is before stands =
    let same = (stays stands.schema).1 in
    elim (cause (inside stands.schema begun) is before (stands_still old mid before stays stands)) [
      | inl failed ↦ inl (later_failed old mid new one two clean failed)
      | inr (inl full) ↦ inr (inl (subst (λ (t : Trees). RunsOut (t users_tree) 1) same full))
      | inr (inr big) ↦ inr (inr ((user, program), inl refl, subst (λ p. IsTooBig users_table (user_values user (before.lasts user) p)) (own_program user program before) big))
    ]

-- the row of a user with a program is too big, whatever was replaced before
abbrev pub IsPairTooBig : UserProgram → Entries → Type 0
IsPairTooBig pair before = IsTooBig users_table (user_values pair.0 (before.lasts pair.0) (Some pair.1))
