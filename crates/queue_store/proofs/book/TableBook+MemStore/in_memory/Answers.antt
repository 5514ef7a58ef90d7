use Rattle.std.proofs.Common.{◌≡◌, ◌≢◌, true, false, IsTrue, subst}
use Rattle.sqlite.specs.Schema.{Schema}
use Rattle.queue_core.specs.declared.book.BookFault.{BookFault}
use Rattle.queue_core.specs.declared.book.BookFault.TheVariants.{Damaged}
use Rattle.queue_store.specs.New.{has_any}
use Rattle.queue_tables.specs.Tables.{no_schema}
use Rattle.queue_store.proofs.book.TableBook+MemStore.in_memory.Goals as goal

-- of a schema without tables none has a name that is taken
none_taken : (e : BookFault) (s : Schema) → s ≡ no_schema → (e ≡ Damaged → IsTrue (has_any s)) → e ≢ Damaged
none_taken e s none told = λ is.
    let taken : false ≡ true = subst (λ (z : Schema). IsTrue (has_any z)) none (told is) in
    cc taken

pub returns-in-Err-clause-never : goal.returns-in-Err-clause-never
returns-in-Err-clause-never c = none_taken c.in-Err.fault _ c.in_ok-conn.ensures.empty.2 c.in-Err.ensures.damaged
