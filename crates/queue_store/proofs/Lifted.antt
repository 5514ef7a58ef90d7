-- A book over a connection whose step limit was lifted.
use Rattle.std.proofs.Common.{◌≡◌, IsTrue, None, false, refl, sym, subst}
use Rattle.sqlite.specs.Held.{Held, state}
use Rattle.sqlite.specs.State.{State, HasCleanDisk}
use Rattle.sqlite_trees.specs.declared.store.Store.{Ghosts}
use Rattle.queue_types.specs.Settings.{SettingValues}
use Rattle.queue_core.specs.Sound.{IsSound}
use Rattle.queue_core.specs.World.{empty_queue}
use Rattle.queue_tables.proofs.Ending.{same_holds}
use Rattle.queue_tables.specs.Content.{Holds, content_of}
use Rattle.queue_tables.specs.Leaving.{LeavesTables}
use Rattle.queue_store.specs.Kept.{HasWorld, IsHonest, Keeps, StandsFor, StandsForOne, connection_of, shown_by, without_limit}
use Rattle.queue_store.specs.Older.{TakesQueue}
use Rattle.queue_store.specs.declared.book.TableBook.{TableBook}

module _ {S : Type 0} (store : Ghosts S) (b : TableBook S) (conn : Held S) (lifted : connection_of b ≡ record conn { step_limit = None }) where
  abbrev before : State
  before = state store conn

  pub was_clean : IsHonest store b → HasCleanDisk before
  was_clean honest = subst (λ (h : Held S). HasCleanDisk (state store h)) lifted honest

  -- a new book
  module _ (settings : SettingValues) (holds : HasCleanDisk before → Holds (content_of (empty_queue settings)) before) where
    pub new_live : IsHonest store b → IsTrue (shown_by store b).is_open
    new_live honest = subst (λ (h : Held S). IsTrue (state store h).is_open) (sym lifted) (holds (was_clean honest)).live

    pub new_stands : b.settings ≡ settings → IsSound (empty_queue settings) → (HasCleanDisk before → before.now ≡ before.committed) → before.in_transaction ≡ false → StandsFor store b (empty_queue settings)
    new_stands same sound settled outside honest =
        let clean = was_clean honest in
        let has = holds clean in
        let keeps : Keeps (without_limit before) b.settings (empty_queue settings) = record {
          sound = sound;
          settings_are = same;
          holds = λ is_open. same_holds (content_of (empty_queue settings)) before (without_limit before) has refl is_open;
          settled = λ _. settled clean;
          outside = λ _. outside;
          unlimited = λ _. refl;
        } in
        subst (λ (h : Held S). Keeps (state store h) b.settings (empty_queue settings)) (sym lifted) keeps

  -- a book whose tables are there
  pub adopted_stands : (settings : SettingValues) → b.settings ≡ settings → (HasCleanDisk before → HasWorld (without_limit before) settings) → StandsForOne store b
  adopted_stands settings same world honest =
      let has = subst (HasWorld (without_limit before)) (sym same) (world (was_clean honest)) in
      subst (λ (h : Held S). HasWorld (state store h) b.settings) (sym lifted) has

  pub adopted_takes : (old : State) (settings : SettingValues) → b.settings ≡ settings → (HasCleanDisk before → TakesQueue old (without_limit before) settings) → IsHonest store b → TakesQueue old (shown_by store b) b.settings
  adopted_takes old settings same takes honest =
      let has = subst (TakesQueue old (without_limit before)) (sym same) (takes (was_clean honest)) in
      subst (λ (h : Held S). TakesQueue old (state store h) b.settings) (sym lifted) has

  pub adopted_leaves : (old : State) → LeavesTables old before → LeavesTables (without_limit old) (shown_by store b)
  adopted_leaves old leaves =
      let kept : LeavesTables (without_limit old) (without_limit before) = record {
        clean = leaves.clean;
        opened = leaves.opened;
        same = leaves.same;
        committed = leaves.committed;
        left = leaves.left;
        mode = leaves.mode;
        serves = record { limit = refl; counts = leaves.serves.counts; closes = leaves.serves.closes };
      } in
      subst (λ (h : Held S). LeavesTables (without_limit old) (state store h)) (sym lifted) kept

pub world_of : (old new : State) (settings : SettingValues) → TakesQueue old new settings → HasWorld new settings
world_of old new settings it = record { world = it.world; keeps = it.keeps; live = it.live }
