-- What a caller is told, and when two lists of places differ in nothing but what other callers ask.
use Rattle.std.specs.Prelude.{◌≡◌, List, [], ◌∷◌, Option, Some, None, ⊤, ◌⊎◌, not, is_none, ◌==◌, ◌&&◌, ◌||◌, bytes_eq, ℕ, Bool, true, false, IsTrue, if◌then◌else◌}
use Rattle.std.specs.List.{AllByRecursion as Each}
use Rattle.queue_types.specs.Event.{Event, Call, NewJob, ask, tell, grant, expire, print_job, validate_job, create_job, send_document, cancel_job, cancel_my_jobs, hold_job, release_job, get_job_attributes, get_jobs, get_printer_attributes}
use Rattle.queue_types.specs.Operators.{is_operator}
use Rattle.queue_core.specs.World.{World, has_number}
use Rattle.queue_core.specs.Runs.{Place, IsPlace, after as after_place}
use Rattle.queue_core.specs.Sound.{IsSound}
use Rattle.queue_types.specs.declared.document.Document.{Document}
use Rattle.queue_types.specs.declared.event.Reply.{Reply}
use Rattle.queue_laws.specs.Calls.{prints}
use Rattle.queue_laws.specs.Operating.{IsNoOperator}
use Rattle.queue_laws.specs.Own.{Own, own, own_jobs}
use Rattle.queue_laws.specs.Replies.{refuses}
use Rattle.queue_laws.specs.Steps.{answer}

-- what is the caller's own after each place
abbrev pub own_along : List ℕ → World → List Place → List Own
own_along u w [] = []
own_along u w (p ∷ ps) = own u (after_place w p.now p.event) ∷ own_along u (after_place w p.now p.event) ps

-- Get-Printer-Attributes counts everybody's jobs
abbrev pub counts_all : Call → Bool
counts_all get_printer_attributes = true
counts_all (print_job new format payload) = false
counts_all (validate_job new) = false
counts_all (create_job new) = false
counts_all (send_document n format payload last) = false
counts_all (cancel_job n) = false
counts_all (cancel_my_jobs numbers) = false
counts_all (hold_job n) = false
counts_all (release_job n) = false
counts_all (get_job_attributes n) = false
counts_all (get_jobs which limit mine) = false

-- the reply to a request of the caller's own, those to Get-Printer-Attributes aside, the answer to a report on a job of
-- the caller's own, and the answer to an account file
abbrev pub told : List ℕ → World → ℕ → Option Event → Option Reply
told u w now None = None
told u w now (Some (ask caller call)) = if bytes_eq caller u && not (counts_all call) then Some (answer w now (ask caller call)) else None
told u w now (Some (tell r)) = if has_number r.job (own_jobs u w.jobs) then Some (answer w now (tell r)) else None
told u w now (Some (grant file)) = Some (answer w now (grant file))
told u w now (Some expire) = None

-- what is told at each place
abbrev pub told_along : List ℕ → World → List Place → List (Option Reply)
told_along u w [] = []
told_along u w (p ∷ ps) = told u w p.now p.event ∷ told_along u (after_place w p.now p.event) ps

-- a request of a caller that is neither u nor an operator
abbrev pub may_differ : List (List ℕ) → List ℕ → Option Event → Bool
may_differ operators u None = false
may_differ operators u (Some (ask caller call)) = not (bytes_eq caller u) && not (is_operator operators caller)
may_differ operators u (Some (tell r)) = false
may_differ operators u (Some (grant file)) = false
may_differ operators u (Some expire) = false

-- a request of a caller other than u
abbrev pub is_others : List ℕ → Option Event → Bool
is_others u None = false
is_others u (Some (ask caller call)) = not (bytes_eq caller u)
is_others u (Some (tell r)) = false
is_others u (Some (grant file)) = false
is_others u (Some expire) = false

-- a job number is drawn
abbrev pub draws : World → Place → Bool
draws w p = not ((after_place w p.now p.event).next == w.next)

-- the places have one moment and one event, or each a request of a caller that is neither u nor an operator, or nothing;
-- and where others ask, a number is drawn at both or at neither
pub record IsAlikePlace (u : List ℕ) (w v : World) (p q : Place) : Type 0 where
  pub now : p.now ≡ q.now
  pub event : (p.event ≡ q.event) ⊎ (IsTrue (is_none p.event || may_differ w.settings.operators u p.event) × IsTrue (is_none q.event || may_differ v.settings.operators u q.event))
  pub draw : IsTrue (is_others u p.event || is_others u q.event) → draws w p ≡ draws v q

-- place by place, in the run of ps from w and the run of qs from v
abbrev pub IsAlike : List ℕ → World → World → List Place → List Place → Type 0
IsAlike u w v [] [] = ⊤
IsAlike u w v [] (q ∷ qs) = ⊥
IsAlike u w v (p ∷ ps) [] = ⊥
IsAlike u w v (p ∷ ps) (q ∷ qs) = IsAlikePlace u w v p q × IsAlike u (after_place w p.now p.event) (after_place v q.now q.event) ps qs

-- each is a moment, with an event or nothing, within their limits
abbrev pub ArePlaces : List Place → Type 0
ArePlaces ps = Each IsPlace ps

-- two runs from one sound queue, alike for u, who is no operator
pub record AreAlikeRuns (u : List ℕ) (w : World) (ps qs : List Place) : Type 0 where
  pub sound : IsSound w
  pub plain : IsNoOperator u w
  pub left : ArePlaces ps
  pub right : ArePlaces qs
  pub alike : IsAlike u w w ps qs

-- ---- places

abbrev pub place_of : ℕ → Event → Place
place_of now event = record { now = now; event = Some event }

-- nothing happens
abbrev pub idle : ℕ → Place
idle now = record { now = now; event = None }

-- a Print-Job of a caller that is neither u nor an operator, in a sound queue, which isn't refused
pub record IsOthersPrint (u : List ℕ) (w : World) (now : ℕ) (event : Event) : Type 0 where
  pub sound : IsSound w
  pub caller : List ℕ
  pub new : NewJob
  pub payload : Document
  pub is : event ≡ prints caller new payload
  pub other : bytes_eq caller u ≡ false
  pub plain : IsNoOperator caller w
  pub taken : refuses (answer w now event) ≡ false
