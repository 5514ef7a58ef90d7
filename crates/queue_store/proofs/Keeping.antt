-- What a call leaves of the world that a book keeps.
use Rattle.std.proofs.Common.{◌≡◌, ℕ, false, inl, inr, IfSome, IsSome, IsTrue, List, None, Option, Some, refl, sym, ◌∙◌}
use Rattle.std.specs.FinMap.{get}
use Rattle.std.proofs.lemmas.Bool.{cases_Bool}
use Rattle.sqlite.specs.State.{State, HasCleanDisk}
use Rattle.queue_types.specs.Settings.{AreSettings, SettingValues}
use Rattle.queue_types.specs.declared.event.KeptReport.{KeptReport}
use Rattle.queue_core.specs.Shown.{document_at}
use Rattle.queue_core.specs.Sound.{IsKept, IsSound}
use Rattle.queue_core.specs.World.{World, empty_queue}
use Rattle.queue_tables.specs.Content.{content_of}
use Rattle.queue_tables.specs.Leaving.{LeavesTables}
use Rattle.queue_tables.specs.Steps.{with_operators}
use Rattle.queue_tables.proofs.Leaving.{holds_after}
use Rattle.queue_store.specs.Kept.{Keeps}

module _ (old new : State) where
  -- where the rows are kept, so is the world
  pub still_keeps : (settings : SettingValues) (w : World) → LeavesTables old new → (HasCleanDisk old → Keeps old settings w) → HasCleanDisk new → Keeps new settings w
  still_keeps settings w leaves stood honest =
      let was = stood (leaves.clean honest) in
      record {
        sound = was.sound;
        settings_are = was.settings_are;
        holds = λ is_open. holds_after leaves honest (content_of w) (was.holds (leaves.opened honest is_open)) is_open;
        settled = λ is_open. leaves.same honest is_open ∙ (was.settled (leaves.opened honest is_open) ∙ sym (leaves.committed honest is_open));
        outside = λ is_open. leaves.mode ∙ was.outside (leaves.opened honest is_open);
        unlimited = λ is_open. leaves.serves.limit ∙ was.unlimited (leaves.opened honest is_open);
      }

-- a shut connection keeps an empty queue, as any
shut_keeps : (s : State) (settings : SettingValues) → IsSound (empty_queue settings) → s.is_open ≡ false → Keeps s settings (empty_queue settings)
shut_keeps s settings sound shut = record {
  sound = sound;
  settings_are = refl;
  holds = λ shown. absurd (never shown);
  settled = λ shown. absurd (never shown);
  outside = λ shown. absurd (never shown);
  unlimited = λ shown. absurd (never shown);
}
  where
    never : IsTrue s.is_open → ⊥
    never shown = let both = sym shut ∙ shown in cc

-- a book that stands for an empty queue, as one on a shut connection does, has no document
pub open_with_document : (s : State) (settings : SettingValues) (job n : ℕ) → HasCleanDisk s → IsSound (empty_queue settings)
    → ((w : World) → HasCleanDisk s → (HasCleanDisk s → Keeps s settings w) → IsSome (document_at w job n)) → IsTrue s.is_open
unfolding document_at
open_with_document s settings job n honest sound there = elim (cases_Bool s.is_open) [
  | inl shown ↦ shown
  | inr shut ↦ absurd (none (there (empty_queue settings) honest (λ h. shut_keeps s settings sound shut)))
]
  where
    none : IsSome (document_at (empty_queue settings) job n) → ⊥
    none h = cc

-- ---- other operators

kept_with : (names : List (List ℕ)) (w : World) (job seq : ℕ) (o : Option KeptReport) → IfSome o (IsKept w job seq) → IfSome o (IsKept (with_operators names w) job seq)
kept_with names w job seq None kept = tt
kept_with names w job seq (Some k) kept = record { job = kept.job; seq = kept.seq; there = kept.there; positive = kept.positive; count = kept.count; total = kept.total }

-- nothing else of a world speaks of its operators
pub sound_with : (names : List (List ℕ)) (w : World) → AreSettings (with_operators names w).settings → IsSound w → IsSound (with_operators names w)
sound_with names w settings s = record {
  settings = settings;
  numbers = s.numbers;
  next = s.next;
  entries = s.entries;
  live = s.live;
  grants = s.grants;
  most = s.most;
  accounts = s.accounts;
  reports = λ job seq. kept_with names w job seq (get w.reports (job, seq)) (s.reports job seq);
  counts = s.counts;
  idle = s.idle;
  balances = s.balances;
}
