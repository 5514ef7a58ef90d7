-- Tables that hold a queue.
use Rattle.std.specs.Prelude.{◌≡◌}
use Rattle.sqlite.specs.Effect.{Database}
use Rattle.queue_core.specs.Sound.{IsSound}
use Rattle.queue_core.specs.World.{World}
use Rattle.queue_rows.specs.Rows.{Tables, rows_of}
use Rattle.queue_rows.specs.Versions.{IsOf, Version}
use Rattle.queue_tables.specs.Content.{HasQueueOf}
use Rattle.queue_tables.specs.Tables.{schema_of}

-- the tables are those of one of the versions, and hold this sound queue
pub record IsQueueIn (w : World) (d : Database) : Type 0 where
  pub version : Version
  pub fits : IsOf version w
  pub sound : IsSound w
  pub schema : d.schema ≡ schema_of version
  pub rows : HasQueueOf version w d.trees

-- the typed rows are those of the queue that the tables hold
pub record HasQueue (t : Tables) (d : Database) : Type 0 where
  pub world : World
  pub queue : IsQueueIn world d
  pub rows : rows_of queue.version world ≡ t
