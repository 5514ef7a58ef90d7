-- Connections over a book, one after another.
use Rattle.std.proofs.Common.{◌≡◌, ◌∙◌, ℕ, [], ◌∷◌, ◌++◌, Result, refl, sym}
use Rattle.std.specs.Prelude.{IsErr}
use Rattle.queue_types.specs.Settings.{SettingValues}
use Rattle.queue_types.specs.Event.{expire}
use Rattle.queue_core.specs.Crash.{Carries as CarriesSweep}
use Rattle.queue_core.specs.Limits.{IsMoment}
use Rattle.queue_core.specs.Sweep.{Sweeps}
use Rattle.queue_core.specs.World.{World}
use Rattle.queue_core.specs.declared.book.BookFault.{BookFault}
use Rattle.queue_core.specs.declared.book.QueueBook.{Ghosts}
use Rattle.http_front.specs.Connections.{WorkedOver}
use Rattle.print_server.specs.Connections.{ConnectedOver, IsAtMostOneMore, IsConnection, ServedOver}
use Rattle.print_server.proofs.ConnectionLemmas.{joined, one, settings_after, swept_settings}
use Rattle.print_server.proofs.CrashLemmas.{carries_at, carries_none, carries_on, carries_seen, left_one}

module _ {B : Type 0} {book : Ghosts B} where
  -- none
  abbrev pub served_none : {now : B} {w : World} → book.stands now w → ServedOver book now now w
  served_none {now} {w} stands = record { counts = []; queue = w; are = refl; stands = stands; carries = carries_none (book.crash_leaves now) w }

  -- one
  abbrev pub served_one : {old new : B} {w : World} (acted : ℕ)
      → (u : World) × book.stands new u × ConnectedOver (book.crash_leaves old) (book.crash_leaves new) w u acted
      → ServedOver book old new w
  served_one {old} {new} {w} acted it = record {
    counts = acted ∷ [];
    queue = it.0;
    are = one w it.0 acted it.2.0;
    stands = it.1;
    carries = it.2.1;
  }

  -- a look at the book behind them
  abbrev pub served_seen : {old between new : B} {w : World} → ((u : World) → book.stands between u → book.stands new u)
      → ((u x : World) → book.crash_leaves between u x → book.crash_leaves new u x) → ServedOver book old between w → ServedOver book old new w
  served_seen {old} {between} {new} {w} stands leaves s = record {
    counts = s.counts;
    queue = s.queue;
    are = s.are;
    stands = stands s.queue s.stands;
    carries = carries_seen (book.crash_leaves old) (book.crash_leaves between) (book.crash_leaves new) w s.counts s.queue s.are leaves s.carries;
  }

  -- some behind others
  abbrev pub served_on : {old between new : B} {w : World} (s : ServedOver book old between w) → ServedOver book between new s.queue → ServedOver book old new w
  served_on {old} {between} {new} {w} s t = record {
    counts = s.counts ++ t.counts;
    queue = t.queue;
    are = joined w s.queue t.queue s.counts t.counts s.are t.are;
    stands = t.stands;
    carries = carries_on (book.crash_leaves old) (book.crash_leaves between) (book.crash_leaves new) w s.queue t.queue s.counts t.counts s.are t.are s.carries t.carries;
  }

  -- the settings stay
  pub served_settings : {old new : B} {w : World} {set : SettingValues} (s : ServedOver book old new w) → set ≡ w.settings → set ≡ s.queue.settings
  served_settings {w = w} s is = is ∙ sym (settings_after w s.queue s.counts s.are)

  -- where a crash left just the queue before them
  pub served_left : {old new : B} {w : World} (s : ServedOver book old new w) → book.crash_leaves old w w
      → (x : World) × book.crash_leaves new s.queue x × IsAtMostOneMore w s.counts s.queue s.are x
  served_left {w = w} s lasts =
      let left = s.carries w lasts in
      (left.0, left.1, left_one w s.counts s.queue s.are left.0 left.2)

-- what a sweep and then requests come to at a moment
pub connected : {B : Type 0} (book : Ghosts B) {old between new : B} {w : World} {set : SettingValues} (now acted : ℕ) (r : Result ℕ BookFault) → IsMoment now → set ≡ w.settings
    → (v : World) × Sweeps w now v r × book.stands between v × CarriesSweep (book.crash_leaves old) (book.crash_leaves between) (λ e. e ≡ expire) (IsErr r) now w v
    → ((v : World) → book.stands between v → set ≡ v.settings → (u : World) × book.stands new u × WorkedOver (book.crash_leaves between) (book.crash_leaves new) now v u acted)
    → (u : World) × book.stands new u × ConnectedOver (book.crash_leaves old) (book.crash_leaves new) w u acted
connected {B} book {old} {between} {new} {w} now acted r moment is s works =
    let it = works s.0 s.2 (is ∙ sym (swept_settings w s.0 now r s.1)) in
    let c : IsConnection w acted it.0 = record { now = now; moment = moment; sweep = r; swept = s.0; sweeps = s.1; worked = it.2.0 } in
    (it.0, it.1, (c, carries_at (book.crash_leaves old) (book.crash_leaves between) (book.crash_leaves new) w it.0 acted c s.3 it.2.1))
