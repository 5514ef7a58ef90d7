use Rattle.replay.proofs.RunLemmas.{keeps_balance, moves_along, places_in}
use Rattle.replay.proofs.SettingsLemmas.{are_settings}
use Rattle.replay.specs.Replay.{settings}
use Rattle.replay.proofs.law.replays_are_runs.Goals as goal

pub returns-clause-runs : goal.returns-clause-runs
returns-clause-runs c = λ input begin last status text moment r.
    places_in (c.calls_are_events.ensures.within, c.lines_are_events.ensures.within) (c.calls_are_events.ensures.done, c.lines_are_events.ensures.done)
    c.files_are_events.ensures c.run_keeps.ensures.joined moment r

pub returns-clause-moves : goal.returns-clause-moves
returns-clause-moves c = moves_along (c.calls_are_events.ensures.within, c.lines_are_events.ensures.within) (c.calls_are_events.ensures.done, c.lines_are_events.ensures.done)
    c.files_are_events.ensures c.run_keeps.ensures.joined c.run_keeps.ensures.moves

pub returns-clause-balances : goal.returns-clause-balances
returns-clause-balances c = keeps_balance (c.calls_are_events.ensures.within, c.lines_are_events.ensures.within) (c.calls_are_events.ensures.done, c.lines_are_events.ensures.done)
    c.files_are_events.ensures c.run_keeps.ensures.joined c.run_keeps.ensures.balances

pub returns-clause-empty : goal.returns-clause-empty
returns-clause-empty c = c.empty_is_sound.ensures settings are_settings
