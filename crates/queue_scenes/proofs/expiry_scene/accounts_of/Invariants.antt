use Rattle.std.proofs.Common.{◌≡◌, All, take}
use Rattle.sqlite.specs.Held.{state}
use Rattle.queue_core.specs.Limits.{IsAmount}
use Rattle.queue_core.specs.World.{rows_of_accounts}
use Rattle.queue_types.specs.declared.event.FreeRow.{FreeRow}
use Rattle.queue_tables.proofs.Telling.{HaveTold}
use Rattle.queue_scenes.specs.Expiry.{texts}
use Rattle.queue_scenes.proofs.expiry_scene.accounts_of.Given as goal

abbrev pub invariant-loop-name : goal.invariant-loop-name
invariant-loop-name g l = record {
  read : HaveTold (state g.S.Store l.fn.conn) (state g.S.Store l.conn) (λ w. l.free.items ≡ rows_of_accounts w.free (texts (take l.name-index l.names)));
  within : All (λ (a : FreeRow). IsAmount a.free) l.free.items;
}
