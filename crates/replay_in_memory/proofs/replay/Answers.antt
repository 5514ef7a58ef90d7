use Rattle.std.proofs.Common.{ℕ, List, subst}
use Rattle.std.specs.Prelude.{IfOk}
use Rattle.std.specs.Io.KnownBytes.{Appends}
use Rattle.queue_types.specs.Settings.{SettingValues}
use Rattle.queue_core.specs.World.{empty_queue}
use Rattle.replay.specs.Replay.{Replays, first}
use Rattle.replay.specs.Session.{State}
use Rattle.replay_in_memory.proofs.replay.Goals as goal

pub returns-clause-answered : goal.returns-clause-answered
returns-clause-answered g c =
    subst (λ (s : SettingValues). IfOk c.replay_with.result (λ (status : ℕ). (last : State) × (text : List ℕ)
    × Replays (g.R.Read.remaining c.args.input.now) (first (empty_queue s)) status text last
    × Appends (g.W.Write.contents c.args.output.now) (g.W.Write.contents c.replay_with.new.output) text))
    c.in_ok-settings.ensures c.replay_with.ensures.answered
