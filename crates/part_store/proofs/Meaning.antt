-- What the statements mean under the schema of the three tables: each is computed from its text.
use Rattle.std.proofs.Common.{◌≡◌, ℕ, pos, negsuc, List, [], ◌∷◌, codes, Ok, None, false, refl}
use Rattle.sqlite_sql.specs.Term.{Term, lit, col, op1, op2}
use Rattle.sqlite_sql.specs.Query.{Query, inner, end}
use Rattle.sqlite_sql.specs.declared.ops.UnaryOp.TheVariants.{Length, Not}
use Rattle.sqlite_sql.specs.declared.ops.BinaryOp.TheVariants.{Compare, Is}
use Rattle.sqlite_sql.specs.declared.ops.CompareOp.TheVariants.{Eq, Gt}
use Rattle.sqlite_value.specs.declared.keys.Collation.TheVariants.{Binary}
use Rattle.sqlite_value.specs.declared.keys.Key.{Key}
use Rattle.sqlite_value.specs.declared.value.Value.TheVariants.{Null, Int}
use Rattle.sqlite_value.specs.Keys.{ascending}
use Rattle.sqlite_schema.specs.declared.program.Program.{Program}
use Rattle.sqlite_schema.specs.declared.schema.Schema.{Schema}
use Rattle.sqlite_schema.specs.declared.command.Command.{Command}
use Rattle.sqlite_schema.specs.declared.command.Source.TheVariants.{Values}
use Rattle.sqlite_schema.specs.declared.command.Command.TheVariants.{Insert, Select, Update, Delete, CreateTable}
use Rattle.sqlite_resolve.specs.Compile.{table_defined_by}
use Rattle.sqlite_tied.specs.Compute.{everything}
use Rattle.sqlite.specs.Listing.{understood, reads_listing}
use Rattle.sqlite.proofs.Callers.{IsPlain, command_of, statement_of}
use Rattle.part_store.specs.Tables.{users, contents, entries, no_schema, with_users, with_contents, store_schema}
use Rattle.part_store.specs.Statements.{users_text, contents_text, entries_text, find_user_text, find_last_text, renew_user_text, drop_user_text, add_user_text, list_programs_text, list_users_text, find_content_text, size_content_text, list_contents_text, add_content_text, drop_content_text, list_entries_text, find_entry_text, add_entry_text, drop_entry_text}

-- a column of the table equals a parameter
abbrev pub is_given : ℕ → ℕ → Term
is_given column parameter = op2 (Compare Eq Binary) (col 1 column) (col 0 parameter)

-- it is above a parameter
abbrev pub is_above : ℕ → ℕ → Term
is_above column parameter = op2 (Compare Gt Binary) (col 1 column) (col 0 parameter)

-- a query on one table
abbrev pub picked : ℕ → List Term → List Term → List (Term × Key) → Query
picked tree filter project order = record {
  from = inner tree end;
  filter = filter;
  group = None;
  project = project;
  distinct = false;
  collations = [];
  order = order;
  limit = lit (Int (negsuc 0));
  offset = lit (Int (pos 0));
}

abbrev pub alone : Query → Program
alone query = record { lets = []; body = query }

-- the text is this command
abbrev pub Means : Schema → List ℕ → Command → Type 0
Means schema text command = (command_of (understood schema text) ≡ command) × IsPlain (understood schema text) × (reads_listing schema text ≡ false)

pub users_made : Means no_schema users_text CreateTable × (statement_of users_text (understood no_schema users_text) ≡ users_text) × (table_defined_by users_text ≡ Ok users)
unfolding understood everything
users_made = ((refl, (refl, refl), refl), refl, refl)

pub contents_made : Means with_users contents_text CreateTable × (statement_of contents_text (understood with_users contents_text) ≡ contents_text) × (table_defined_by contents_text ≡ Ok contents)
unfolding understood everything
contents_made = ((refl, (refl, refl), refl), refl, refl)

pub entries_made : Means with_contents entries_text CreateTable × (statement_of entries_text (understood with_contents entries_text) ≡ entries_text) × (table_defined_by entries_text ≡ Ok entries)
unfolding understood everything
entries_made = ((refl, (refl, refl), refl), refl, refl)

abbrev pub find_user_query : Query
find_user_query = picked 0 (is_given 1 0 ∷ []) (col 1 2 ∷ col 1 3 ∷ []) []

pub find_user_is : Means store_schema find_user_text (Select (alone find_user_query) (codes "last" ∷ codes "program" ∷ []))
unfolding understood everything
find_user_is = (refl, (refl, refl), refl)

abbrev pub find_last_query : Query
find_last_query = picked 0 (is_given 1 0 ∷ []) (col 1 2 ∷ []) []

pub find_last_is : Means store_schema find_last_text (Select (alone find_last_query) (codes "last" ∷ []))
unfolding understood everything
find_last_is = (refl, (refl, refl), refl)

-- the rowid of the user's row, and the row with another last number
abbrev pub renew_user_query : Query
renew_user_query = picked 0 (is_given 1 0 ∷ []) (col 1 0 ∷ col 1 0 ∷ col 1 1 ∷ col 0 1 ∷ col 1 3 ∷ []) []

pub renew_user_is : Means store_schema renew_user_text (Update 0 (alone renew_user_query))
unfolding understood everything
renew_user_is = (refl, (refl, refl), refl)

abbrev pub list_programs_query : Query
list_programs_query = picked 0 (op1 Not (op2 (Is Binary) (col 1 3) (lit Null)) ∷ []) (col 1 1 ∷ col 1 3 ∷ []) ((col 1 1, ascending Binary) ∷ [])

pub list_programs_is : Means store_schema list_programs_text (Select (alone list_programs_query) (codes "user" ∷ codes "program" ∷ []))
unfolding understood everything
list_programs_is = (refl, (refl, refl), refl)

abbrev pub list_users_query : Query
list_users_query = picked 0 [] (col 1 1 ∷ col 1 2 ∷ col 1 3 ∷ []) ((col 1 1, ascending Binary) ∷ [])

pub list_users_is : Means store_schema list_users_text (Select (alone list_users_query) (codes "user" ∷ codes "last" ∷ codes "program" ∷ []))
unfolding understood everything
list_users_is = (refl, (refl, refl), refl)

abbrev pub drop_user_query : Query
drop_user_query = picked 0 (is_given 1 0 ∷ []) (col 1 0 ∷ []) []

pub drop_user_is : Means store_schema drop_user_text (Delete 0 (alone drop_user_query))
unfolding understood everything
drop_user_is = (refl, (refl, refl), refl)

pub add_user_is : Means store_schema add_user_text (Insert 0 (Values (lit Null ∷ col 0 0 ∷ col 0 1 ∷ col 0 2 ∷ []) 4))
unfolding understood everything
add_user_is = (refl, (refl, refl), refl)

abbrev pub find_content_query : Query
find_content_query = picked 2 (is_given 1 0 ∷ []) (col 1 2 ∷ []) []

pub find_content_is : Means store_schema find_content_text (Select (alone find_content_query) (codes "octets" ∷ []))
unfolding understood everything
find_content_is = (refl, (refl, refl), refl)

abbrev pub size_content_query : Query
size_content_query = picked 2 (is_given 1 0 ∷ []) (op1 Length (col 1 2) ∷ []) []

pub size_content_is : Means store_schema size_content_text (Select (alone size_content_query) (codes "length(octets)" ∷ []))
unfolding understood everything
size_content_is = (refl, (refl, refl), refl)

abbrev pub list_contents_query : Query
list_contents_query = picked 2 [] (col 1 1 ∷ op1 Length (col 1 2) ∷ []) ((col 1 1, ascending Binary) ∷ [])

pub list_contents_is : Means store_schema list_contents_text (Select (alone list_contents_query) (codes "digest" ∷ codes "length(octets)" ∷ []))
unfolding understood everything
list_contents_is = (refl, (refl, refl), refl)

pub add_content_is : Means store_schema add_content_text (Insert 1 (Values (lit Null ∷ col 0 0 ∷ col 0 1 ∷ []) 3))
unfolding understood everything
add_content_is = (refl, (refl, refl), refl)

abbrev pub drop_content_query : Query
drop_content_query = picked 2 (is_given 1 0 ∷ []) (col 1 0 ∷ []) []

pub drop_content_is : Means store_schema drop_content_text (Delete 1 (alone drop_content_query))
unfolding understood everything
drop_content_is = (refl, (refl, refl), refl)

abbrev pub list_entries_query : Query
list_entries_query = picked 4 (is_given 1 0 ∷ is_above 2 1 ∷ []) (col 1 2 ∷ col 1 4 ∷ col 1 3 ∷ col 1 5 ∷ col 1 6 ∷ col 1 7 ∷ []) ((col 1 2, ascending Binary) ∷ [])

pub list_entries_is : Means store_schema list_entries_text (Select (alone list_entries_query) (codes "number" ∷ codes "kind" ∷ codes "folder" ∷ codes "name" ∷ codes "media" ∷ codes "digest" ∷ []))
unfolding understood everything
list_entries_is = (refl, (refl, refl), refl)

abbrev pub find_entry_query : Query
find_entry_query = picked 4 (is_given 1 0 ∷ is_given 2 1 ∷ []) (col 1 7 ∷ []) []

pub find_entry_is : Means store_schema find_entry_text (Select (alone find_entry_query) (codes "digest" ∷ []))
unfolding understood everything
find_entry_is = (refl, (refl, refl), refl)

pub add_entry_is : Means store_schema add_entry_text (Insert 2 (Values (lit Null ∷ col 0 0 ∷ col 0 1 ∷ col 0 2 ∷ col 0 3 ∷ col 0 4 ∷ col 0 5 ∷ col 0 6 ∷ []) 8))
unfolding understood everything
add_entry_is = (refl, (refl, refl), refl)

abbrev pub drop_entry_query : Query
drop_entry_query = picked 4 (is_given 1 0 ∷ is_given 2 1 ∷ []) (col 1 0 ∷ []) []

pub drop_entry_is : Means store_schema drop_entry_text (Delete 2 (alone drop_entry_query))
unfolding understood everything
drop_entry_is = (refl, (refl, refl), refl)
