-- A table that older versions lack, read whole.
use Rattle.std.proofs.Common.{◌≡◌, ◌≢◌, List, [], Bool, true, length, Result, IfOk, IfErr, OnOk, refl}
use Rattle.sqlite.specs.Order.{Row}
use Rattle.sqlite.specs.Query.{output_cmp}
use Rattle.sqlite.specs.Schema.{Schema}
use Rattle.sqlite.specs.State.{State, HasCleanDisk, IsUnchanged}
use Rattle.queue_rows.specs.Versions.{Version}
use Rattle.queue_tables.specs.Leaving.{LeavesTables}
use Rattle.queue_tables.specs.Tables.{schema_of}
use Rattle.queue_tables.specs.declared.fault.Fault.{Fault}
use Rattle.queue_tables.specs.declared.fault.Fault.TheVariants.{Damaged}
use Rattle.queue_tables.proofs.PlainQueries.{plain_query, shown_of}
use Rattle.queue_load.specs.Loaded.{AreFormedRows, IsTable, key_cmp}
use Rattle.queue_load.specs.Reads.{FindsFormless, HasBook, HasRead, IsUnderstood, ReadsTable}
use Rattle.queue_load.proofs.Listing.{sorted_by}
use Rattle.queue_load.proofs.Telling.{reads_by}
use Rattle.queue_load.proofs.Texts.{IsReading, IsWhole, WholeQuery}
use Rattle.queue_load.proofs.Whole.{table_formless, table_read}

module _ (q : WholeQuery) (is : IsWhole q) (has : Schema → Bool) (IsWith : Schema → Type 0) (with : (n : Version) (s : Schema) → s ≡ schema_of n → has s ≡ true → IsWith s) (reads : (s : Schema) → IsWith s → IsReading s q) where
  understands : (s : State) → has s.now.schema ≡ true → HasBook s → IsUnderstood q.sql s
  understands s there fits clean = let it = fits clean in (reads s.now.schema (with it.0 s.now.schema it.1 there)).plain

  -- where the table is there
  pub newer_reads : {T : Type 0} (tells : T → Row → Type 0) (values : T → Row) (IsFormed : T → Type 0) (is_formless : Row → Type 0) → ((t : T) (r : Row) → tells t r → length r ≡ q.width → r ≡ values t)
      → ((a b : T) → output_cmp (plain_query q.tree [] q.terms q.order) (sorted_by q.keys (values a)) (sorted_by q.keys (values b)) ≡ key_cmp q.keys (values a) (values b))
      → ((r : Row) → is_formless r → (t : T) → IsFormed t → r ≢ values t)
      → {old new : State} (r : Result (List T) Fault) → has old.now.schema ≡ true → LeavesTables old new → (HasCleanDisk new → OnOk r (IsUnchanged old new)) → (IsUnderstood q.sql old → HasCleanDisk new → IfOk r (HasRead tells q.sql old))
      → (IsUnderstood q.sql old → HasCleanDisk new → IfErr r (λ e. e ≡ Damaged → FindsFormless is_formless q.sql old))
      → ReadsTable old new r (λ d items. IsWith d.schema × IsTable values (shown_of q.terms []) q.keys items (d.trees q.tree)) (λ d. IsWith d.schema → AreFormedRows IsFormed values (shown_of q.terms []) (d.trees q.tree))
  newer_reads tells values IsFormed is_formless told ordered never {old} r there leaves same read formless =
      let schema = old.now.schema in
      reads_by r leaves same (understands old there) read formless
      (λ n numbered items has_read. let newer = with n schema numbered there in (newer, table_read q is schema (reads schema newer) tells values told ordered old items refl has_read))
      (λ n numbered found form. let newer = with n schema numbered there in table_formless q is schema (reads schema newer) values IsFormed is_formless never old refl found (form newer))
