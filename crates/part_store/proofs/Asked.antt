-- Why a query is refused: each is one that the three tables answer, whatever values it is given.
use Rattle.std.proofs.Common.{◌≡◌, ◌⊎◌, inl, inr, ℕ, pos, List, [], ◌∷◌, Option, refl, subst, arith}
use Rattle.std.proofs.lemmas.Bool.{true≢false}
use Rattle.sqlite_value.specs.declared.value.Value.TheVariants.{Int, Text, Blob}
use Rattle.sqlite_value.specs.Order.{Row}
use Rattle.sqlite_sql.specs.Query.{Query}
use Rattle.sqlite_tied.specs.Compute.{everything}
use Rattle.sqlite.specs.Effect.{Database, RefusesQuery}
use Rattle.sqlite.specs.Listing.{understood}
use Rattle.sqlite.specs.State.{State, FailsToQuery, IsTooLate}
use Rattle.sqlite.specs.declared.error.Error.{Error}
use Rattle.part_store.specs.Tables.{store_schema}
use Rattle.part_store.specs.Causes.{Faults}
use Rattle.part_store.specs.Statements.{find_user_text, find_last_text, list_programs_text, list_users_text, find_content_text, size_content_text, list_contents_text, list_entries_text, find_entry_text}
use Rattle.part_store.proofs.Meaning.{alone, find_user_query, find_user_is, find_last_query, find_last_is, list_programs_query, list_programs_is, list_users_query, list_users_is, find_content_query, find_content_is, size_content_query, size_content_is, list_contents_query, list_contents_is, list_entries_query, list_entries_is, find_entry_query, find_entry_is}
use Rattle.part_store.proofs.Faults.{IsAsked, IsAnswered, query_faults}

abbrev Refused : List ℕ → Row → State → State → Error → Type 0
Refused sql params old new e = FailsToQuery sql params old new e ⊎ IsTooLate sql params old new e

pub over : (limit : Option ℕ) (db : Database) (query : Query) (params : Row) (e : Error) → db.schema ≡ store_schema → RefusesQuery limit db (alone query) params e
    → RefusesQuery limit (record { schema = store_schema; trees = db.trees }) (alone query) params e
over limit db query params e has h = subst (λ s. RefusesQuery limit (record { schema = s; trees = db.trees }) (alone query) params e) has h

find_user_asked : IsAsked (understood store_schema find_user_text) find_user_text 1
unfolding understood everything
find_user_asked = (omega arith, refl)

find_user_answered : (user : List ℕ) → IsAnswered find_user_query (Text user ∷ [])
unfolding everything
find_user_answered user limit db e has h = elim (over limit db find_user_query (Text user ∷ []) e has h) [
  | inl untyped ↦ absurd (true≢false untyped.1)
  | inr (inl sum) ↦ elim sum.1 [ inl none ↦ absurd none | inr more ↦ absurd more.4 ]
  | inr (inr steps) ↦ steps.1
]

pub find_user_faults : (old new : State) (user : List ℕ) (e : Error) → Refused find_user_text (Text user ∷ []) old new e → Faults old new e
find_user_faults old new user e = query_faults find_user_text (Text user ∷ []) find_user_query _ find_user_is find_user_asked (find_user_answered user) old new e

find_last_asked : IsAsked (understood store_schema find_last_text) find_last_text 1
unfolding understood everything
find_last_asked = (omega arith, refl)

find_last_answered : (user : List ℕ) → IsAnswered find_last_query (Text user ∷ [])
unfolding everything
find_last_answered user limit db e has h = elim (over limit db find_last_query (Text user ∷ []) e has h) [
  | inl untyped ↦ absurd (true≢false untyped.1)
  | inr (inl sum) ↦ elim sum.1 [ inl none ↦ absurd none | inr more ↦ absurd more.4 ]
  | inr (inr steps) ↦ steps.1
]

pub find_last_faults : (old new : State) (user : List ℕ) (e : Error) → Refused find_last_text (Text user ∷ []) old new e → Faults old new e
find_last_faults old new user e = query_faults find_last_text (Text user ∷ []) find_last_query _ find_last_is find_last_asked (find_last_answered user) old new e

list_programs_asked : IsAsked (understood store_schema list_programs_text) list_programs_text 0
unfolding understood everything
list_programs_asked = (omega arith, refl)

list_programs_answered : IsAnswered list_programs_query []
unfolding everything
list_programs_answered limit db e has h = elim (over limit db list_programs_query [] e has h) [
  | inl untyped ↦ absurd (true≢false untyped.1)
  | inr (inl sum) ↦ elim sum.1 [ inl none ↦ absurd none | inr more ↦ absurd more.4 ]
  | inr (inr steps) ↦ steps.1
]

pub list_programs_faults : (old new : State) (e : Error) → Refused list_programs_text [] old new e → Faults old new e
list_programs_faults old new e = query_faults list_programs_text [] list_programs_query _ list_programs_is list_programs_asked list_programs_answered old new e

list_users_asked : IsAsked (understood store_schema list_users_text) list_users_text 0
unfolding understood everything
list_users_asked = (omega arith, refl)

list_users_answered : IsAnswered list_users_query []
unfolding everything
list_users_answered limit db e has h = elim (over limit db list_users_query [] e has h) [
  | inl untyped ↦ absurd (true≢false untyped.1)
  | inr (inl sum) ↦ elim sum.1 [ inl none ↦ absurd none | inr more ↦ absurd more.4 ]
  | inr (inr steps) ↦ steps.1
]

pub list_users_faults : (old new : State) (e : Error) → Refused list_users_text [] old new e → Faults old new e
list_users_faults old new e = query_faults list_users_text [] list_users_query _ list_users_is list_users_asked list_users_answered old new e

find_content_asked : IsAsked (understood store_schema find_content_text) find_content_text 1
unfolding understood everything
find_content_asked = (omega arith, refl)

find_content_answered : (digest : List ℕ) → IsAnswered find_content_query (Blob digest ∷ [])
unfolding everything
find_content_answered digest limit db e has h = elim (over limit db find_content_query (Blob digest ∷ []) e has h) [
  | inl untyped ↦ absurd (true≢false untyped.1)
  | inr (inl sum) ↦ elim sum.1 [ inl none ↦ absurd none | inr more ↦ absurd more.4 ]
  | inr (inr steps) ↦ steps.1
]

pub find_content_faults : (old new : State) (digest : List ℕ) (e : Error) → Refused find_content_text (Blob digest ∷ []) old new e → Faults old new e
find_content_faults old new digest e = query_faults find_content_text (Blob digest ∷ []) find_content_query _ find_content_is find_content_asked (find_content_answered digest) old new e

size_content_asked : IsAsked (understood store_schema size_content_text) size_content_text 1
unfolding understood everything
size_content_asked = (omega arith, refl)

size_content_answered : (digest : List ℕ) → IsAnswered size_content_query (Blob digest ∷ [])
unfolding everything
size_content_answered digest limit db e has h = elim (over limit db size_content_query (Blob digest ∷ []) e has h) [
  | inl untyped ↦ absurd (true≢false untyped.1)
  | inr (inl sum) ↦ elim sum.1 [ inl none ↦ absurd none | inr more ↦ absurd more.4 ]
  | inr (inr steps) ↦ steps.1
]

pub size_content_faults : (old new : State) (digest : List ℕ) (e : Error) → Refused size_content_text (Blob digest ∷ []) old new e → Faults old new e
size_content_faults old new digest e = query_faults size_content_text (Blob digest ∷ []) size_content_query _ size_content_is size_content_asked (size_content_answered digest) old new e

list_contents_asked : IsAsked (understood store_schema list_contents_text) list_contents_text 0
unfolding understood everything
list_contents_asked = (omega arith, refl)

list_contents_answered : IsAnswered list_contents_query []
unfolding everything
list_contents_answered limit db e has h = elim (over limit db list_contents_query [] e has h) [
  | inl untyped ↦ absurd (true≢false untyped.1)
  | inr (inl sum) ↦ elim sum.1 [ inl none ↦ absurd none | inr more ↦ absurd more.4 ]
  | inr (inr steps) ↦ steps.1
]

pub list_contents_faults : (old new : State) (e : Error) → Refused list_contents_text [] old new e → Faults old new e
list_contents_faults old new e = query_faults list_contents_text [] list_contents_query _ list_contents_is list_contents_asked list_contents_answered old new e

list_entries_asked : IsAsked (understood store_schema list_entries_text) list_entries_text 2
unfolding understood everything
list_entries_asked = (omega arith, refl)

list_entries_answered : (user : List ℕ) (number : ℕ) → IsAnswered list_entries_query (Text user ∷ Int (pos number) ∷ [])
unfolding everything
list_entries_answered user number limit db e has h = elim (over limit db list_entries_query (Text user ∷ Int (pos number) ∷ []) e has h) [
  | inl untyped ↦ absurd (true≢false untyped.1)
  | inr (inl sum) ↦ elim sum.1 [ inl none ↦ absurd none | inr more ↦ absurd more.4 ]
  | inr (inr steps) ↦ steps.1
]

pub list_entries_faults : (old new : State) (user : List ℕ) (number : ℕ) (e : Error) → Refused list_entries_text (Text user ∷ Int (pos number) ∷ []) old new e → Faults old new e
list_entries_faults old new user number e = query_faults list_entries_text (Text user ∷ Int (pos number) ∷ []) list_entries_query _ list_entries_is list_entries_asked (list_entries_answered user number) old new e

find_entry_asked : IsAsked (understood store_schema find_entry_text) find_entry_text 2
unfolding understood everything
find_entry_asked = (omega arith, refl)

find_entry_answered : (user : List ℕ) (number : ℕ) → IsAnswered find_entry_query (Text user ∷ Int (pos number) ∷ [])
unfolding everything
find_entry_answered user number limit db e has h = elim (over limit db find_entry_query (Text user ∷ Int (pos number) ∷ []) e has h) [
  | inl untyped ↦ absurd (true≢false untyped.1)
  | inr (inl sum) ↦ elim sum.1 [ inl none ↦ absurd none | inr more ↦ absurd more.4 ]
  | inr (inr steps) ↦ steps.1
]

pub find_entry_faults : (old new : State) (user : List ℕ) (number : ℕ) (e : Error) → Refused find_entry_text (Text user ∷ Int (pos number) ∷ []) old new e → Faults old new e
find_entry_faults old new user number e = query_faults find_entry_text (Text user ∷ Int (pos number) ∷ []) find_entry_query _ find_entry_is find_entry_asked (find_entry_answered user number) old new e
