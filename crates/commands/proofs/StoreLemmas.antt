-- When the settings of a new store are refused.
use Rattle.std.proofs.Common.{◌≡◌, ℤ, refl, inl, inr}
use Rattle.command_words.specs.declared.outcome.Init.{Init}
use Rattle.queue_types.specs.Settings.{AreSettings}
use Rattle.queue_core.specs.declared.book.BookFault.{BookFault}
use Rattle.queue_core.specs.declared.book.BookFault.TheVariants as book
use Rattle.queue_types.specs.declared.settings.SettingFault.{SettingFault}
use Rattle.queue_types.specs.declared.settings.SettingFault.TheVariants as setting
use Rattle.command_ends.specs.Faults.{IsOfStream, fault_of_book, fault_of_setting}
use Rattle.commands.specs.Store.{settings_of}
use Rattle.command_ends.specs.declared.fault.Fault.{Fault}
use Rattle.command_ends.specs.declared.fault.Fault.TheVariants.{BadSetting}

-- whether settings are within their limits does not hang on the epoch
pub at_any_second : (words : Init) (a b : ℤ) → AreSettings (settings_of words a) → AreSettings (settings_of words b)
at_any_second words a b s = record {
  uri_some = s.uri_some;
  uri_fits = s.uri_fits;
  uri_bytes = s.uri_bytes;
  uri_path = s.uri_path;
  name_some = s.name_some;
  name_fits = s.name_fits;
  name_utf8 = s.name_utf8;
  estimate_fits = s.estimate_fits;
  keep_fits = s.keep_fits;
  operators_fit = s.operators_fit;
}

pub is_bad : (told : SettingFault) → fault_of_setting told ≡ BadSetting → told ≡ setting.Bad
is_bad setting.Bad e = refl
is_bad setting.Memory e = cc

-- a book never tells of a setting
pub is_no_setting : (told : BookFault) → fault_of_book told ≡ BadSetting → ⊥
is_no_setting book.Memory e = cc
is_no_setting _ e = cc

-- nor does a stream
pub is_stream : (fault : Fault) → IsOfStream fault → fault ≡ BadSetting → ⊥
is_stream fault told bad = elim told [ inl e ↦ cc | inr e ↦ cc ]
