-- The row of the table `meta`.
use Rattle.std.specs.Prelude.{◌≡◌, ℕ, List, Option}
use Rattle.queue_types.specs.Settings.{SettingValues, AreSettings}
use Rattle.queue_rows.specs.Versions.{FitsPolicy, keep_in, operators_in}
use Rattle.queue_rows.specs.declared.rows.MetaRow.{MetaRow}
use Rattle.queue_rows.specs.declared.rows.PolicyRow.{PolicyRow}

-- with the seconds for which a job may be held, and the operators
abbrev pub settings_in : ℕ → List (List ℕ) → MetaRow → SettingValues
settings_in keep operators m = record { uri = m.uri; name = m.name; estimate = m.estimate; epoch = m.epoch; keep = keep; operators = operators }

-- the row has the number of the schema with such tables, and with the rows of policy and operators its settings are within their limits
pub record IsSoundMeta (m : MetaRow) (policy : Option (List PolicyRow)) (operators : Option (List (List ℕ))) : Type 0 where
  pub one : m.one ≡ 1
  pub schema : FitsPolicy m.schema policy operators
  pub settings : AreSettings (settings_in (keep_in policy) (operators_in operators) m)
