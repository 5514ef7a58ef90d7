use Rattle.std.proofs.Common.{◌≡◌, All, map, take}
use Rattle.sqlite.specs.Held.{state}
use Rattle.queue_core.specs.Limits.{IsKnown}
use Rattle.queue_core.specs.World.{known_grant}
use Rattle.queue_tables.proofs.Telling.{HaveTold}
use Rattle.queue_scenes.proofs.grants.known_rows.Given as goal

abbrev pub invariant-loop-row : goal.invariant-loop-row
invariant-loop-row g l = record {
  read : HaveTold (state g.S.Store l.fn.conn) (state g.S.Store l.conn) (λ w. l.all.items ≡ map (known_grant w) (take l.row-index l.rows));
  within : All IsKnown l.all.items;
}
