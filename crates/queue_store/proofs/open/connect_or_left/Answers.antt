use Rattle.std.proofs.Common.{◌∙◌, Bool, List, ap₂, cond, false, sym, true, ℕ}
use Rattle.sqlite_disk.specs.Events.{Event, replay}
use Rattle.sqlite_std_file.specs.File.{IsFresh}
use Rattle.sqlite_wal.specs.Files.{image_at}
use Rattle.sqlite_wal.specs.Recovery.{Image}
use Rattle.queue_store.proofs.Refused.{never_damaged}
use Rattle.queue_store.proofs.Unharmed.{held_behind, left_alone}
use Rattle.queue_store.proofs.open.connect_or_left.Goals as goal

abbrev image : List ℕ → List ℕ → Image
image log db = record { log = log; db = db }

abbrev seen : List ℕ → List ℕ → Bool → List Event → List ℕ
seen log db is_log history = (replay (cond is_log log db) history).seen

pub returns-in-Err-clause-damaged : goal.returns-in-Err-clause-damaged
returns-in-Err-clause-damaged g c = λ w kept faultless told.
    let at = seen g.S.Start.log g.S.Start.db in
    never_damaged c.in-Err.error (sym c.fault_of_open.ensures ∙ told) (image_at g.S.Start) (λ files. IsFresh true files.log) (λ files. IsFresh false files.db)
    (λ files log db. ap₂ image (ap₂ at log.0 log.1) (ap₂ at db.0 db.1)) w kept c.in-Err.left c.in-Err.ensures.unopened c.in-Err.ensures.cause faultless

pub returns-in-Err-clause-unharmed : goal.returns-in-Err-clause-unharmed
returns-in-Err-clause-unharmed g c = λ db held.
    let logs = g.S.Start.log in
    let dbs = g.S.Start.db in
    let at = seen logs dbs in
    held_behind (image_at g.S.Start) db held (λ files. IsFresh true files.log) (λ files. IsFresh false files.db)
    (λ files log db. (
      ap₂ image (ap₂ at log.0 log.1) (ap₂ at db.0 db.1),
      λ left may. ap₂ image (left_alone _ _ true logs dbs _ _ log.0 log.1 left.log may.0) (left_alone _ _ false logs dbs _ _ db.0 db.1 left.db may.1),
    )) c.in-Err.error c.in-Err.left c.in-Err.ensures.cause
