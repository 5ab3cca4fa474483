-- Users that are put in, one after another; and those of one store in an empty one.
use Rattle.std.proofs.Common.{◌≡◌, ◌⊎◌, inl, inr, ℕ, ◌≤◌, max, List, [], ◌∷◌, ◌++◌, Option, None, if◌then◌else◌, refl, sym, ap, subst, ◌∙◌, bytes_eq, arith}
use Rattle.std.specs.List.{AllByRecursion}
use Rattle.std.proofs.Math.Nat.{max-eq_left, max-eq_right}
use Rattle.std.proofs.lemmas.Bool.{cases_Bool, true≢false}
use Rattle.sqlite_value.specs.declared.value.Value.TheVariants.{Text}
use Rattle.sqlite_value.specs.Order.{Row}
use Rattle.sqlite_rules.specs.Lists.{Has}
use Rattle.sqlite_rules.proofs.ListLemmas.{all_from, all_has}
use Rattle.octets.specs.Limits.{max_entry_number}
use Rattle.part_store.specs.Tables.{equals, users_table}
use Rattle.part_store.specs.Entries.{Entries, no_entries}
use Rattle.part_store.specs.Refusals.{user_values, IsTooBig}
use Rattle.part_store.specs.UserLines.{AreUsersOf, HasRow, UserLine, last_among, program_among, user_line, with_users}
use Rattle.part_store.proofs.Apart.{bytes_same, same_bytes}

-- ---- one after another

program_push : (lines : List UserLine) (line : UserLine) (user : List ℕ) (program : Option (List ℕ)) → program_among (line ∷ []) user (program_among lines user program) ≡ program_among (lines ++ line ∷ []) user program
program_push [] line user program = refl
program_push (first ∷ lines) line user program = program_push lines line user (if bytes_eq user first.user then first.program else program)

last_push : (lines : List UserLine) (line : UserLine) (user : List ℕ) (last : ℕ) → last_among (line ∷ []) user (last_among lines user last) ≡ last_among (lines ++ line ∷ []) user last
last_push [] line user last = refl
last_push (first ∷ lines) line user last = last_push lines line user (if bytes_eq user first.user then max last first.last else last)

pub users_push : (lines : List UserLine) (line : UserLine) (e : Entries) → with_users (line ∷ []) (with_users lines e) ≡ with_users (lines ++ line ∷ []) e
users_push lines line e = λ i. record e { programs = λ user. program_push lines line user (e.programs user) i; lasts = λ user. last_push lines line user (e.lasts user) i }

-- the row of a user is too big, whatever last number he has
abbrev pub IsLineTooBig : UserLine → Entries → Type 0
IsLineTooBig line before = (last : ℕ) × (last ≤ max_entry_number) × IsTooBig users_table (user_values line.user last line.program)

-- ---- carried over

-- who is in no line keeps what he has
abbrev IsIn : List UserLine → List ℕ → Type 0
IsIn lines user = (line : UserLine) × Has lines line × (line.user ≡ user)

program_beside : (lines : List UserLine) (user : List ℕ) (program : Option (List ℕ)) → (IsIn lines user → ⊥) → program_among lines user program ≡ program
program_beside [] user program none = refl
program_beside (line ∷ lines) user program none = elim (cases_Bool (bytes_eq user line.user)) [
  | inl mine ↦ absurd (none (line, inl refl, sym (same_bytes user line.user mine)))
  | inr other ↦ rw other (program_beside lines user program (λ h. none (h.0, inr h.1, h.2)))
]

last_beside : (lines : List UserLine) (user : List ℕ) (last : ℕ) → (IsIn lines user → ⊥) → last_among lines user last ≡ last
last_beside [] user last none = refl
last_beside (line ∷ lines) user last none = elim (cases_Bool (bytes_eq user line.user)) [
  | inl mine ↦ absurd (none (line, inl refl, sym (same_bytes user line.user mine)))
  | inr other ↦ rw other (last_beside lines user last (λ h. none (h.0, inr h.1, h.2)))
]

-- lines of a state, for who has its program and last number, or isn't among those before
abbrev AreLinesOf : Entries → List UserLine → Type 0
AreLinesOf e lines = AllByRecursion (λ line. line ≡ user_line e line.user) lines

program_kept : (e : Entries) (lines : List UserLine) (user : List ℕ) → AreLinesOf e lines → program_among lines user (e.programs user) ≡ e.programs user
program_kept e [] user are = refl
program_kept e (line ∷ lines) user are = elim (cases_Bool (bytes_eq user line.user)) [
  | inl mine ↦
      let own : line.program ≡ e.programs user = ap (λ (l : UserLine). l.program) are.0 ∙ ap e.programs (sym (same_bytes user line.user mine)) in
      rw (mine, own) (program_kept e lines user are.1)
  | inr other ↦ rw other (program_kept e lines user are.1)
]

program_carried : (e : Entries) (lines : List UserLine) (user : List ℕ) (program : Option (List ℕ)) → AreLinesOf e lines → IsIn lines user → program_among lines user program ≡ e.programs user
program_carried e [] user program are has = absurd has.1
program_carried e (line ∷ lines) user program are has = elim (cases_Bool (bytes_eq user line.user)) [
  | inl mine ↦
      let own : line.program ≡ e.programs user = ap (λ (l : UserLine). l.program) are.0 ∙ ap e.programs (sym (same_bytes user line.user mine)) in
      rw (mine, own) (program_kept e lines user are.1)
  | inr other ↦ elim has.1 [
    | inl is ↦ absurd (true≢false (sym (ap (bytes_eq user) (ap (λ (l : UserLine). l.user) (sym is) ∙ has.2) ∙ bytes_same user) ∙ other))
    | inr later ↦ rw other (program_carried e lines user program are.1 (has.0, later, has.2))
  ]
]

most : (n : ℕ) → max n n ≡ n
most n = let le : n ≤ n = omega arith in max-eq_left le

at_least : (n : ℕ) → max 0 n ≡ n
at_least n = let le : 0 ≤ n = omega arith in max-eq_right le

last_kept : (e : Entries) (lines : List UserLine) (user : List ℕ) → AreLinesOf e lines → last_among lines user (e.lasts user) ≡ e.lasts user
last_kept e [] user are = refl
last_kept e (line ∷ lines) user are = elim (cases_Bool (bytes_eq user line.user)) [
  | inl mine ↦
      let own : line.last ≡ e.lasts user = ap (λ (l : UserLine). l.last) are.0 ∙ ap e.lasts (sym (same_bytes user line.user mine)) in
      rw (mine, own, most (e.lasts user)) (last_kept e lines user are.1)
  | inr other ↦ rw other (last_kept e lines user are.1)
]

last_carried : (e : Entries) (lines : List UserLine) (user : List ℕ) → AreLinesOf e lines → IsIn lines user → last_among lines user 0 ≡ e.lasts user
last_carried e [] user are has = absurd has.1
last_carried e (line ∷ lines) user are has = elim (cases_Bool (bytes_eq user line.user)) [
  | inl mine ↦
      let own : line.last ≡ e.lasts user = ap (λ (l : UserLine). l.last) are.0 ∙ ap e.lasts (sym (same_bytes user line.user mine)) in
      rw (mine, own, at_least (e.lasts user)) (last_kept e lines user are.1)
  | inr other ↦ elim has.1 [
    | inl is ↦ absurd (true≢false (sym (ap (bytes_eq user) (ap (λ (l : UserLine). l.user) (sym is) ∙ has.2) ∙ bytes_same user) ∙ other))
    | inr later ↦ rw other (last_carried e lines user are.1 (has.0, later, has.2))
  ]
]

has_row : (table : List Row) (user : List ℕ) → HasRow table user ⊎ (HasRow table user → ⊥)
has_row [] user = inr (λ h. absurd h.1)
has_row (r ∷ rows) user = elim (cases_Bool (equals 1 (Text user) r)) [
  | inl is ↦ inl (r, inl refl, is)
  | inr other ↦ elim (has_row rows user) [
    | inl h ↦ inl (h.0, inr h.1, h.2)
    | inr none ↦ inr (λ h. elim h.1 [
      | inl same ↦ true≢false (sym h.2 ∙ ap (equals 1 (Text user)) same ∙ other)
      | inr later ↦ none (h.0, later, h.2)
    ])
  ]
]

module _ (table : List Row) (e : Entries) (lines : List UserLine) (are : AreUsersOf table e lines) where
  lines_of : AreLinesOf e lines
  lines_of = all_from _ lines (λ x there. (all_has _ lines x are.each there).1)

  -- a user is in a line, or has nothing
  in_or_not : (user : List ℕ) → IsIn lines user ⊎ ((IsIn lines user → ⊥) × (e.lasts user ≡ 0) × (e.programs user ≡ None))
  in_or_not user = elim (has_row table user) [
    | inl has ↦ inl (user_line e user, are.all user has, refl)
    | inr none ↦
        let nothing = are.strangers user none in
        inr ((λ h. none (subst (HasRow table) h.2 (all_has _ lines h.0 are.each h.1).0)), nothing.0, nothing.1)
  ]

  programs_are : (user : List ℕ) → program_among lines user None ≡ e.programs user
  programs_are user = elim (in_or_not user) [
    | inl has ↦ program_carried e lines user None lines_of has
    | inr none ↦ program_beside lines user None none.0 ∙ sym none.2
  ]

  lasts_are : (user : List ℕ) → last_among lines user 0 ≡ e.lasts user
  lasts_are user = elim (in_or_not user) [
    | inl has ↦ last_carried e lines user lines_of has
    | inr none ↦ last_beside lines user 0 none.0 ∙ sym none.1
  ]

  pub users_carried : with_users lines no_entries ≡ record e { entries = [] }
  users_carried = λ i. record { entries = []; programs = λ user. programs_are user i; lasts = λ user. lasts_are user i }
