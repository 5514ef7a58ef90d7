use Rattle.std.proofs.Common.{ℕ, List, subst, refl}
use Rattle.std.proofs.lemmas.Result.{IfOk-weaker}
use Rattle.std.specs.Io.KnownBytes.{Appends}
use Rattle.queue_types.specs.Settings.{SettingValues}
use Rattle.queue_core.specs.World.{empty_queue}
use Rattle.queue_store.specs.Kept.{StandsFor}
use Rattle.replay.specs.Replay.{Replays, first}
use Rattle.replay.specs.Session.{State}
use Rattle.replay_in_memory.proofs.MemoryLemmas.{is_honest}
use Rattle.sqlite.specs.Steps.{over_memory}
use Rattle.replay_in_memory.proofs.replay_with.Goals as goal

pub returns-clause-answered : goal.returns-clause-answered
returns-clause-answered g c =
    let stands = subst (λ (s : SettingValues). StandsFor over_memory c.in_ok-book.book (empty_queue s)) c.in_ok-try_clone.ensures.same c.in_ok-book.ensures in
    IfOk-weaker c.replay_over.result _
    (λ (status : ℕ). (last : State) × (text : List ℕ) × Replays (g.R.Read.remaining c.args.input.now) (first (empty_queue c.args.printer.now)) status text last
    × Appends (g.W.Write.contents c.args.output.now) (g.W.Write.contents c.replay_over.new.output) text)
    (λ status replays. let r = replays (empty_queue c.args.printer.now) stands refl in (r.0, r.1, r.2, r.4))
    (c.replay_over.ensures.answered (is_honest c.replay_over.new.book))
