-- What a book is of which a refusal hands back the store alone.
use Rattle.std.proofs.Common.{◌≡◌, ◌∙◌, Ok, Err, Result, IfOk, IfErr, IsErrAnd, IsTrue, subst}
use Rattle.sqlite.specs.Held.{Held, state}
use Rattle.sqlite.specs.State.{HasCleanDisk}
use Rattle.sqlite_trees.specs.declared.store.Store.{Ghosts}
use Rattle.queue_types.specs.Settings.{SettingValues}
use Rattle.queue_core.specs.World.{World, empty_queue}
use Rattle.queue_core.specs.declared.book.BookFault.{BookFault}
use Rattle.queue_core.specs.declared.book.BookFault.TheVariants.{Damaged}
use Rattle.queue_load.specs.Queues.{IsQueueIn}
use Rattle.queue_load.specs.Store.{FitsIn}
use Rattle.queue_store.specs.Handed.{AdoptsBook, IsBehind, MakesBook}
use Rattle.queue_store.specs.Kept.{IsHonest, StandsFor, StandsForOne, shown_by}
use Rattle.queue_store.specs.New.{KeepsTables}
use Rattle.queue_store.specs.Older.{LeavesOldOrTaken, TakesQueue}
use Rattle.queue_store.specs.declared.book.TableBook.{TableBook}
use Rattle.queue_tables.specs.Tables.{no_schema}

module _ {S : Type 0} (store : Ghosts S) (conn : Held S) where
  pub makes_book : (settings : SettingValues) (result : Result (TableBook S) (BookFault × S)) (came : Result (TableBook S) (BookFault × Held S)) → IfOk result (λ b. came ≡ Ok b)
      → IfOk came (λ b. IsHonest store b → HasCleanDisk (state store conn)) → IfOk came (λ b. (state store conn).now.schema ≡ no_schema) → IfOk came (λ b. StandsFor store b (empty_queue settings))
      → IfOk came (λ b. IsHonest store b → IsTrue (shown_by store b).is_open) → MakesBook store conn result settings
  makes_book settings (Ok b) came book clean blank stands live = record {
    clean = subst (λ z. IfOk z (λ b. IsHonest store b → HasCleanDisk (state store conn))) book clean;
    blank = subst (λ z. IfOk z (λ b. (state store conn).now.schema ≡ no_schema)) book blank;
    stands = subst (λ z. IfOk z (λ b. StandsFor store b (empty_queue settings))) book stands;
    live = subst (λ z. IfOk z (λ b. IsHonest store b → IsTrue (shown_by store b).is_open)) book live;
  }
  makes_book settings (Err e) came book clean blank stands live = record { clean = tt; blank = tt; stands = tt; live = tt }

  pub adopts_book : (result : Result (TableBook S) (BookFault × S)) (came : Result (TableBook S) (BookFault × Held S)) → IfOk result (λ b. came ≡ Ok b)
      → IfErr result (λ e. IsErrAnd came (λ f. (f.0 ≡ e.0) × IsBehind store f.1 e.1)) → (FitsIn (state store conn) → IfOk came (λ b. StandsForOne store b))
      → (FitsIn (state store conn) → IfOk came (λ b. IsHonest store b → TakesQueue (state store conn) (shown_by store b) b.settings)) → IfOk came (λ b. IsHonest store b → HasCleanDisk (state store conn))
      → (FitsIn (state store conn) → IfErr came (λ e. HasCleanDisk (state store e.1) → e.0 ≡ Damaged → (w : World) → ¬ IsQueueIn w (state store conn).now))
      → IfErr came (λ e. KeepsTables (state store conn) (state store e.1)) → (FitsIn (state store conn) → IfErr came (λ e. LeavesOldOrTaken (state store conn) (state store e.1))) → AdoptsBook store conn result
  adopts_book (Ok b) came book left stands takes was_clean damaged handed crash = record {
    stands = λ fits. subst (λ z. IfOk z (λ b. StandsForOne store b)) book (stands fits);
    takes = λ fits. subst (λ z. IfOk z (λ b. IsHonest store b → TakesQueue (state store conn) (shown_by store b) b.settings)) book (takes fits);
    was_clean = subst (λ z. IfOk z (λ b. IsHonest store b → HasCleanDisk (state store conn))) book was_clean;
    clean = tt;
    damaged = λ fits. tt;
    left = λ fits. tt;
  }
  adopts_book (Err e) (Ok b) book left stands takes was_clean damaged handed crash = absurd left
  adopts_book (Err e) (Err f) book left stands takes was_clean damaged handed crash = record {
    stands = λ fits. tt;
    takes = λ fits. tt;
    was_clean = tt;
    clean = λ clean. handed.clean (left.1.clean clean);
    damaged = λ fits clean told. damaged fits (left.1.clean clean) (left.0 ∙ told);
    left = λ fits clean db may. crash fits (left.1.clean clean) db (left.1.left_by db may);
  }
