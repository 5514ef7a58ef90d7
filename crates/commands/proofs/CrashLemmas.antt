-- What a crash leaves of a book where an account file was to be taken, expired jobs were to end or connections were served, or where nothing was done.
use Rattle.std.proofs.Common.{◌≡◌, ◌∙◌, ◌⊎◌, ℕ, List, [], IsTrue, Some, length, refl, subst, sym, inl, inr}
use Rattle.sqlite.specs.State.{State}
use Rattle.sqlite_trees.specs.Tree.{Trees}
use Rattle.sqlite_trees.specs.declared.store.Store.{Ghosts}
use Rattle.queue_types.specs.Event.{Event, expire, grant}
use Rattle.queue_core.specs.Crash.{Leaves, broken_off as left_off, taken as left_taken, untaken as left_untaken}
use Rattle.queue_core.specs.Grants.{Taken, all_taken, none_taken, take_rows}
use Rattle.queue_core.specs.Limits.{IsMoment}
use Rattle.queue_core.specs.Machine.{grant_row, step}
use Rattle.queue_core.specs.World.{World, cut, made_on}
use Rattle.queue_store.specs.Kept.{IsHonest, StandsFor, connection_of, shown_by}
use Rattle.queue_store.specs.Laws.{open_lasts}
use Rattle.queue_store.specs.declared.book.TableBook.{TableBook}
use Rattle.queue_tables.specs.Content.{IsBookOf, LeavesOneOf}
use Rattle.grants_csv.specs.Import.{Adds, Asks, grants}
use Rattle.grants_csv.specs.declared.importing.Imported.{Imported}
use Rattle.office.specs.Told.{HaveExpired, IsTaken}
use Rattle.print_server.specs.Connections.{AreConnections, Carries}
use Rattle.print_server.proofs.CrashLemmas.{left_one}
use Rattle.commands.specs.Books.{LeavesBeside, StoreServed}
use Rattle.commands.specs.Work.{HasSweep, IsAllOrNone, IsSweep, IsSweepOrNone, IsTakenAt, broken_off, taken, untaken}

-- of an open book a crash leaves the queue that it stands for
pub lasts : {S : Type 0} (store : Ghosts S) → ((s : S) (db : Trees) → IsTrue (store.view s).is_open → store.recovers s db → db ≡ (store.view s).committed)
    → (b : TableBook S) (w : World) → IsHonest store b → IsTrue (shown_by store b).is_open → StandsFor store b w → LeavesOneOf w w (shown_by store b)
lasts store settled b w honest live stands = open_lasts w stands (settled (connection_of b).store) honest live

-- connections over a book, and none
module _ {S : Type 0} (store : Ghosts S) (settled : (s : S) (db : Trees) → IsTrue (store.view s).is_open → store.recovers s db → db ≡ (store.view s).committed) where
  abbrev pub served_over : (old new : TableBook S) (w : World) → IsHonest store old → StandsFor store old w → (counts : List ℕ) (u : World) (are : AreConnections w counts u)
      → StandsFor store new u → Carries (λ (v x : World). LeavesOneOf v x (shown_by store old)) (λ (v x : World). LeavesOneOf v x (shown_by store new)) w counts u are
      → StoreServed store old new w
  served_over old new w honest stood counts u are stands carried = record {
    counts = counts;
    queue = u;
    are = are;
    stands = stands;
    left = λ live. let left = carried w (lasts store settled old w honest live stood) in (left.0, left.1, left_one w counts u are left.0 left.2);
  }

  abbrev pub none_served : (b : TableBook S) (w : World) → IsHonest store b → StandsFor store b w → StoreServed store b b w
  none_served b w honest stands = record { counts = []; queue = w; are = refl; stands = stands; left = λ live. (w, lasts store settled b w honest live stands, refl) }

-- rows that are refused change nothing
added_or_same : (t : Taken) (w : World) → ((n : Imported) × Adds (grant_row t).reply n) ⊎ (made_on (grant_row t).change w ≡ w)
added_or_same (all_taken new free repeats) w = inl (record { added = _; repeats = repeats }, refl)
added_or_same (none_taken fault row) w = inr refl

taken_or_same : (now : ℕ) (w : World) (bytes : List ℕ) (e : Event) → Asks bytes (Some e)
    → IsTakenAt now bytes w (step w now e).world ⊎ ((step w now e).world ≡ w)
taken_or_same now w bytes e (grants rows read) = elim (added_or_same (take_rows rows (cut w now (grant rows)).known 1 [] [] 0) w) [
  | inl added ↦ inl (added.0, (rows, read, added.1, refl))
  | inr same ↦ inr same
]

module _ {failed : Type 0} {now : ℕ} {w u x : World} {bytes : List ℕ} where
  -- all of the rows, or none
  pub all_or_none : Leaves (λ e. Asks bytes (Some e)) failed now w w u x → IsAllOrNone (IsTakenAt now bytes w) w u x
  all_or_none (left_untaken stays left) = untaken stays (left ∙ sym stays)
  all_or_none (left_taken e asks made left) = elim (taken_or_same now w bytes e asks) [
    | inl all ↦ taken (all.0, subst (λ (v : World). IsTaken now w v bytes all.0) (sym made) all.1) left
    | inr same ↦ untaken (made ∙ same) left
  ]
  all_or_none (left_off e asks told stays left) = elim (taken_or_same now w bytes e asks) [
    | inl all ↦ broken_off stays (all.0, subst (λ (v : World). IsTaken now w v bytes all.0) (sym left) all.1)
    | inr same ↦ untaken stays (left ∙ same ∙ sym stays)
  ]

-- jobs that expired at a moment
pub sweep_at : (now : ℕ) → IsMoment now → (w u : World) (n : ℕ) → HaveExpired now w u n → IsSweep w u n
sweep_at now moment w u n told = record { now = now; moment = moment; expired = told }

swept : (now : ℕ) → IsMoment now → (w u : World) → u ≡ (step w now expire).world → HasSweep w u
swept now moment w u made = (length (cut w now expire).jobs, sweep_at now moment w u (length (cut w now expire).jobs) (refl, made))

-- all of the expired jobs, or none
pub swept_or_none : {failed : Type 0} (now : ℕ) → IsMoment now → (w u x : World) → Leaves (λ e. e ≡ expire) failed now w w u x → IsSweepOrNone w u x
swept_or_none now moment w u x (left_untaken stays left) = untaken stays (left ∙ sym stays)
swept_or_none now moment w u x (left_taken e asks made left) = taken (swept now moment w u (subst (λ (z : Event). u ≡ (step w now z).world) asks made)) left
swept_or_none now moment w u x (left_off e asks told stays left) = broken_off stays (swept now moment w x (subst (λ (z : Event). x ≡ (step w now z).world) asks left))

-- of a store that stands for w too, a crash leaves w, or another
pub beside : (all : World → Type 0) (w u x : World) (s : State) → LeavesOneOf u x s → IsAllOrNone all w u x → LeavesBeside s w (IsAllOrNone all w w)
beside all w u x s leaves (untaken stays left) = (
  w,
  λ db may. elim (leaves db may) [ inl b ↦ inl (subst (λ (z : World). IsBookOf z db) stays b) | inr b ↦ inl (subst (λ (z : World). IsBookOf z db) (left ∙ stays) b) ],
  untaken refl refl,
)
beside all w u x s leaves (taken is left) = (
  u,
  λ db may. elim (leaves db may) [ inl b ↦ inr b | inr b ↦ inr (subst (λ (z : World). IsBookOf z db) left b) ],
  broken_off refl is,
)
beside all w u x s leaves (broken_off stays is) = (
  x,
  λ db may. elim (leaves db may) [ inl b ↦ inl (subst (λ (z : World). IsBookOf z db) stays b) | inr b ↦ inr b ],
  broken_off refl is,
)

-- so it is where something else is known of all
pub known_of_all : (P Q : World → Type 0) (w u x : World) → ((v : World) → P v → Q v) → IsAllOrNone P w u x → IsAllOrNone Q w u x
known_of_all P Q w u x known (untaken stays left) = untaken stays left
known_of_all P Q w u x known (taken all left) = taken (known u all) left
known_of_all P Q w u x known (broken_off stays all) = broken_off stays (known x all)
