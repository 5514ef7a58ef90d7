use Rattle.std.proofs.Common.{Err, ◌∙◌, ap, subst, sym}
use Rattle.queue_types.specs.Settings.{AreSettings}
use Rattle.replay.specs.Replay.{settings}
use Rattle.replay.proofs.SettingsLemmas.{are_settings}
use Rattle.replay.proofs.settings.replay_settings.Goals as goal

pub unreachable-requires : goal.unreachable-requires
unreachable-requires c =
    c.new.ensures.bad.0 (c.in-Err-Bad.is ∙ ap (λ fault. Err fault) c.in-Err-Bad.field-0-is)
    (subst (λ operators. AreSettings (record settings { operators = operators })) (sym c.in_ok-operators.ensures) are_settings)
