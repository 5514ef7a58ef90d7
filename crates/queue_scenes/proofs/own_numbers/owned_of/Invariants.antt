use Rattle.std.proofs.Common.{◌≡◌, ◌&&◌, ◌==◌, All, take, bytes_eq, filter}
use Rattle.std.specs.List.{list_any}
use Rattle.sqlite.specs.Held.{state}
use Rattle.queue_core.specs.Limits.{IsSoundJob}
use Rattle.queue_core.specs.World.{rows}
use Rattle.queue_types.specs.declared.job.Job.{Job}
use Rattle.queue_tables.proofs.Telling.{HaveTold}
use Rattle.queue_scenes.proofs.own_numbers.owned_of.Given as goal

abbrev pub invariant-loop-number : goal.invariant-loop-number
invariant-loop-number g l = record {
  read : HaveTold (state g.S.Store l.fn.conn) (state g.S.Store l.conn) (λ w. l.own.items ≡ filter (λ (j : Job). bytes_eq j.owner l.owner && list_any (λ n. n == j.number) (take l.number-index l.numbers)) (rows w));
  sound : All IsSoundJob l.own.items;
}
