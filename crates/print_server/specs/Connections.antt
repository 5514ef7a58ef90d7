-- What connections, one after another, make of the queue.
use Rattle.std.specs.Prelude.{◌≡◌, ◌⊎◌, ℕ, List, [], ◌∷◌, Result, IsErr, refl}
use Rattle.std.specs.List.{AllByRecursion}
use Rattle.queue_types.specs.Event.{expire}
use Rattle.queue_core.specs.Crash.{CarriesBy, IsLeftOr}
use Rattle.queue_core.specs.Limits.{IsMoment}
use Rattle.queue_core.specs.Machine.{step}
use Rattle.queue_core.specs.Runs.{IsPlace, Place, run}
use Rattle.queue_core.specs.Sweep.{Sweeps}
use Rattle.queue_core.specs.World.{World}
use Rattle.queue_core.specs.declared.book.BookFault.{BookFault}
use Rattle.queue_core.specs.declared.book.QueueBook.{Ghosts}
use Rattle.http_front.specs.Connections.{Worked}
use Rattle.http_front.specs.Crash.{IsAtMostOneMore as IsAtMostOneMoreIn}
use Rattle.http_front.specs.Turns.{most_requests}

-- at some moment a sweep and then a connection's requests, `acted` of which acted, made u of the world w
pub record IsConnection (w : World) (acted : ℕ) (u : World) : Type 0 where
  pub now : ℕ
  pub moment : IsMoment now
  -- the sweep's answer, and the world after it
  pub sweep : Result ℕ BookFault
  pub swept : World
  pub sweeps : Sweeps w now swept sweep
  pub worked : Worked most_requests now swept u acted

-- connections with these counts, one after another, made u of the world w
abbrev pub AreConnections : World → List ℕ → World → Type 0
AreConnections w [] u = u ≡ w
AreConnections w (acted ∷ rest) u = (v : World) × IsConnection w acted v × AreConnections v rest u

-- a run of the machine made u of the world w
abbrev pub IsRun : World → World → Type 0
IsRun w u = (places : List Place) × AllByRecursion IsPlace places × (u ≡ run w places)

-- ---- a crash at any moment

-- x is the queue u; or the event of a request of this connection, which was answered by a fault, makes x of u; or its sweep, which met a
-- fault, does. The queue was u before that request or sweep already
abbrev pub IsAtMostOneMoreAt : {w : World} {acted : ℕ} {v : World} → IsConnection w acted v → World → World → Type 0
IsAtMostOneMoreAt {w} c u x = (IsErr c.sweep × (u ≡ w) × (x ≡ (step u c.now expire).world)) ⊎ IsAtMostOneMoreIn c.now c.swept c.worked.turns u x

-- x is the queue u, which these connections made of w, or what one of them left open makes of u
abbrev pub IsAtMostOneMore : (w : World) (counts : List ℕ) (u : World) → AreConnections w counts u → World → Type 0
IsAtMostOneMore w [] u are x = x ≡ u
IsAtMostOneMore w (acted ∷ rest) u are x = IsAtMostOneMoreAt are.1 u x ⊎ IsAtMostOneMore are.0 rest u are.2 x

-- behind these connections, which made u of the queue w: nothing was done, and a crash leaves v, as before; or it leaves u, or what the
-- event of one of their requests, which was answered by a fault, or one of their sweeps, which met one, makes of u
abbrev pub IsLeft : (w : World) (counts : List ℕ) (u : World) → AreConnections w counts u → World → World → Type 0
IsLeft w counts u are v x = IsLeftOr (IsAtMostOneMore w counts u are) w v u x

-- what a crash leaves beside the queue w, before these connections, comes to what it leaves beside u, after them
abbrev pub Carries : (World → World → Type 0) → (World → World → Type 0) → (w : World) (counts : List ℕ) (u : World) → AreConnections w counts u → Type 0
Carries before after w counts u are = CarriesBy before after (IsLeft w counts u are) w u

-- ---- over a book

-- one connection made u of the queue w, over a book beside which a crash left `before` and leaves `after` now; and a crash leaves what goes with it
abbrev pub ConnectedOver : (before after : World → World → Type 0) → World → World → ℕ → Type 0
ConnectedOver before after w u acted = (c : IsConnection w acted u) × Carries before after w (acted ∷ []) u (u, c, refl)

-- connections, one after another, over a book that was old before them and is new behind them, and stood for the queue w
pub record ServedOver {B : Type 0} (book : Ghosts B) (old new : B) (w : World) : Type 0 where
  -- how many requests of each acted
  pub counts : List ℕ
  -- what they made of w
  pub queue : World
  pub are : AreConnections w counts queue
  -- the book stands for it
  pub stands : book.stands new queue
  -- what a crash leaves of the book goes with just these connections
  pub carries : Carries (book.crash_leaves old) (book.crash_leaves new) w counts queue are
