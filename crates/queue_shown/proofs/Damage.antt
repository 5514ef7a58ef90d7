-- What is told of a document that is not sent: when damage, and when the writer's fault.
use Rattle.std.proofs.Common.{◌≡◌, Ok, Err, Result, IfErr, refl}
use Rattle.queue_core.specs.declared.book.BookFault.TheVariants.{Damaged as BookDamaged}
use Rattle.queue_core.specs.declared.book.SendCause.TheVariants.{Book, Write as NotWritten}
use Rattle.queue_shown.specs.Stops.{told_cause}
use Rattle.queue_shown.specs.declared.send.Stop.{Stop}
use Rattle.queue_shown.specs.declared.send.Stop.TheVariants.{Tables, Write}
use Rattle.queue_tables.specs.declared.fault.Fault.TheVariants.{Damaged}

-- what holds at whatever stop
pub at_stop : {T : Type 0} (r : Result T Stop) (cause : Stop) {P : Type 0} → P → IfErr r (λ s. s ≡ cause → P)
at_stop (Err s) cause p = λ is. p
at_stop (Ok x) cause p = tt

-- the cause that is told is damage only where the tables were
pub damage_told : (stop : Stop) → told_cause stop ≡ Book BookDamaged → stop ≡ Tables Damaged
damage_told (Tables Damaged) told = refl
damage_told _ told = absurd cc

-- the writer's fault is told of the writer alone
pub write_told : (stop : Stop) → told_cause stop ≡ NotWritten → stop ≡ Write
write_told (Tables fault) told = absurd cc
write_told Write told = refl
