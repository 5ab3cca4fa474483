-- The three tables, and their trees in the database.
use Rattle.std.specs.Prelude.{ℕ, true, false, List, [], ◌∷◌, None, codes, Bool}
use Rattle.sqlite_value.specs.declared.keys.Collation.TheVariants.{Binary}
use Rattle.sqlite_value.specs.declared.value.Value.TheVariants.{Null}
use Rattle.sqlite_value.specs.Keys.{plain as unordered}
use Rattle.sqlite_schema.specs.declared.schema.Column.{Column}
use Rattle.sqlite_schema.specs.declared.schema.Table.{Table}
use Rattle.sqlite_schema.specs.declared.schema.Schema.{Schema}
use Rattle.sqlite_schema.specs.declared.schema.Kind.{Kind}
use Rattle.sqlite_schema.specs.declared.schema.Kind.TheVariants.{Integer, Text, Blob}
use Rattle.sqlite_schema.specs.declared.schema.Action.TheVariants.{NoAction}
use Rattle.sqlite_schema.specs.declared.schema.Reference.{Reference}
use Rattle.sqlite_catalog.specs.Change.{created}
use Rattle.sqlite_schema.specs.Rules.{equal}
use Rattle.sqlite_value.specs.Order.{Row, column}
use Rattle.sqlite_value.specs.declared.value.Value.{Value}

abbrev pub nullable : List ℕ → Kind → Column
nullable name kind = record { name = name; kind = kind; is_strict = true; not_null = false; default = Null; collation = Binary }

abbrev pub required : List ℕ → Kind → Column
required name kind = record { name = name; kind = kind; is_strict = true; not_null = true; default = Null; collation = Binary }

-- a table whose key has these places, and that refers to others
abbrev pub keyed : List ℕ → List Column → List ℕ → List Reference → Table
keyed name columns key references = record {
  name = name;
  tree = 0;
  columns = columns;
  key = None;
  primary = key;
  uniques = key ∷ [];
  orders = unordered ∷ [];
  checks = [];
  references = references;
  computed = [];
  stamps = record { places = []; terms = []; formats = [] };
  is_counted = false;
}

-- a user's last number, and his program if he has one
abbrev pub user_columns : List Column
user_columns = required (codes "user") Text ∷ required (codes "last") Integer ∷ nullable (codes "program") Blob ∷ []

abbrev pub users : Table
users = keyed (codes "users") user_columns (1 ∷ []) []

-- the octets of a digest
abbrev pub content_columns : List Column
content_columns = required (codes "digest") Blob ∷ required (codes "octets") Blob ∷ []

abbrev pub contents : Table
contents = keyed (codes "contents") content_columns (1 ∷ []) []

-- an entry, whose octets are those of its digest
abbrev pub entry_columns : List Column
entry_columns =
    required (codes "user") Text ∷ required (codes "number") Integer ∷ required (codes "folder") Blob
    ∷ required (codes "kind") Integer ∷ required (codes "name") Blob
    ∷ required (codes "media") Blob ∷ required (codes "digest") Blob ∷ []

-- its digest is that of a content
abbrev pub entry_reference : Reference
entry_reference = record { columns = 7 ∷ []; parent = codes "contents"; parent_columns = []; on_delete = NoAction; on_update = NoAction; is_deferred = false }

abbrev pub entry_references : List Reference
entry_references = entry_reference ∷ []

abbrev pub entries : Table
entries = keyed (codes "entries") entry_columns (1 ∷ 2 ∷ []) entry_references

abbrev pub no_schema : Schema
no_schema = record { tables = []; indexes = []; views = [] }

abbrev pub with_users : Schema
with_users = created no_schema users

abbrev pub with_contents : Schema
with_contents = created with_users contents

abbrev pub store_schema : Schema
store_schema = created with_contents entries

-- the tables as the schema has them
abbrev pub users_table : Table
users_table = record users { tree = 0 }

abbrev pub contents_table : Table
contents_table = record contents { tree = 2 }

abbrev pub entries_table : Table
entries_table = record entries { tree = 4 }

-- the trees of the tables
abbrev pub users_tree : ℕ
users_tree = 0

abbrev pub contents_tree : ℕ
contents_tree = 2

abbrev pub entries_tree : ℕ
entries_tree = 4

-- the column of the row equals the value
abbrev pub equals : ℕ → Value → Row → Bool
equals at value row = equal Binary (column row at) value
