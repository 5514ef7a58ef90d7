-- What the turns of a connection are to the machine: places of a run.
use Rattle.std.specs.Prelude.{◌≡◌, ⊤, ℕ, List, [], ◌∷◌, Option, None, MatchBool}
use Rattle.std.specs.List.{AllByRecursion}
use Rattle.queue_types.specs.Event.{Event}
use Rattle.queue_core.specs.Runs.{Place, IsPlace, after, run}
use Rattle.queue_core.specs.World.{World}
use Rattle.ipp_ops.specs.Answer.{Asks}
use Rattle.device_lines.specs.Reports.{Tells}
use Rattle.http_head.specs.declared.target.Target.{Target}
use Rattle.http_head.specs.declared.target.Target.TheVariants.{Ipp, Report, Queue, Document as DocumentTarget}
use Rattle.http_front.specs.Turns.{Turn, plan}

-- what a request asks of the machine: its event, or nothing where a check refuses it or it is a GET
abbrev pub AsksFor : Target → List ℕ → Option Event → Type 0
AsksFor Ipp content e = Asks content e
AsksFor Report content e = Tells content e
AsksFor Queue content e = e ≡ None
AsksFor (DocumentTarget n) content e = e ≡ None

-- a turn is a place of a run: at its moment, what it asks for makes the world after it; and where a fault answers it, nothing happens
pub record IsPlaceOf (now : ℕ) (w : World) (t : Turn) (p : Place) : Type 0 where
  pub moment : p.now ≡ now
  pub within : IsPlace p
  pub asks : MatchBool t.is_fault (p.event ≡ None) (AsksFor (plan t).target t.content p.event)
  pub world : t.after ≡ after w now p.event

-- each of the turns is the place of its number, in the world that the one before it leaves
abbrev pub ArePlacesOf : ℕ → World → List Turn → List Place → Type 0
ArePlacesOf now w [] [] = ⊤
ArePlacesOf now w (t ∷ ts) (p ∷ ps) = IsPlaceOf now w t p × ArePlacesOf now t.after ts ps
ArePlacesOf now w _ _ = ⊥

-- the turns are a run of the machine, within the limits, from w to u
abbrev pub IsRunOf : ℕ → World → List Turn → World → Type 0
IsRunOf now w turns u = (ps : List Place) × ArePlacesOf now w turns ps × AllByRecursion IsPlace ps × (u ≡ run w ps)
