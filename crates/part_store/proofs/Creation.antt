-- What the three CREATE TABLEs make.
use Rattle.std.proofs.Common.{◌≡◌, ℕ, false, List, [], None, Ok, Result, sym, ap, subst, ◌∙◌}
use Rattle.std.specs.List.{AllByRecursion}
use Rattle.sqlite_catalog.specs.Change.{created, next_tree}
use Rattle.sqlite_resolve.specs.Compile.{table_defined_by}
use Rattle.sqlite_schema.specs.declared.schema.Schema.{Schema}
use Rattle.sqlite_schema.specs.declared.schema.Table.{Table}
use Rattle.sqlite_schema.specs.declared.command.Command.TheVariants.{CreateTable}
use Rattle.sqlite.specs.Effect.{Database}
use Rattle.sqlite.specs.Does.{Tally, lacks_sequence}
use Rattle.sqlite.specs.Listing.{understood}
use Rattle.sqlite.specs.State.{State, Writes, ExecutesInside}
use Rattle.sqlite.proofs.Callers.{statement_of, runs_as}
use Rattle.part_store.specs.Changes.{IsMade}
use Rattle.part_store.proofs.Meaning.{Means}
use Rattle.part_store.proofs.Writes.{same_value, went}

module _ (text : List ℕ) (was : Schema) (table : Table) (means : Means was text CreateTable) (same : statement_of text (understood was text) ≡ text) (defined : table_defined_by text ≡ Ok table)
    (plain : lacks_sequence (created was table) ≡ false) where
  pub table_made : (old new : State) (count : ℕ) → ExecutesInside 0 text [] old new (Ok count) → IsMade was (created was table) (next_tree was) old.now new.now
  table_made old new count h has =
      let w = subst (λ t. Writes old new None CreateTable t [] count) same (runs_as text [] old new was has CreateTable means.0 means.1 count h.0) in
      let all = went w.changed in
      let first = went all.1 in
      let made = first.1 in
      let both : ◌≡◌ {A = Result Table _} (Ok made.table) (Ok table) = sym made.defined ∙ defined in
      let one : made.table ≡ table = same_value both in
      let schema : first.0.schema ≡ created was table = made.is ∙ ap (λ s. created s made.table) has ∙ ap (created was) one in
      let none : lacks_sequence first.0.schema ≡ false = ap lacks_sequence schema ∙ plain in
      let now : new.now ≡ first.0 = ap (λ (p : Tally × Database). p.1) (same_value all.2) ∙ same_value (rw none at first.2) in
      record {
        schema = ap (λ (d : Database). d.schema) now ∙ schema;
        listed = w.sound;
        empty = ap (λ (d : Database). d.trees (next_tree was)) now ∙ subst (λ s. first.0.trees (next_tree s) ≡ []) has made.empty;
        others = subst (λ (d : Database). AllByRecursion (λ t. d.trees t.tree ≡ old.now.trees t.tree) was.tables) (sym now) (subst (λ (s : Schema). AllByRecursion (λ t. first.0.trees t.tree ≡ old.now.trees t.tree) s.tables) has made.others);
      }
