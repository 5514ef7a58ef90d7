-- What is held while a connection is open.
use Rattle.std.proofs.Common.{List, ℕ, Err}
use Rattle.sqlite.specs.Order.{Row}
use Rattle.sqlite.specs.State.{State, ExecutesInside}
use Rattle.sqlite_schema.specs.declared.schema.Constraint.{Constraint}
use Rattle.queue_tables.specs.Content.{Content, Holds, HoldsWhileOpen}
use Rattle.queue_tables.specs.Refusing.{IsRefused}
use Rattle.queue_tables.proofs.Refused.{told, refused_open}

-- where tables with these rows refuse nothing, they had others
pub held_others : (sql : List ℕ) (params : Row) (old new : State) (c : Content) → (Holds c old → (rule : Constraint) → ¬ ExecutesInside 0 sql params old new (Err (told rule))) → IsRefused sql params old new → ¬ HoldsWhileOpen c old
held_others sql params old new c never refused holds = never (holds (refused_open sql params old new refused.rule refused.refused)) refused.rule refused.refused
