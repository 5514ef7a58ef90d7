-- What a crash leaves, from one thing to the next.
use Rattle.std.proofs.Common.{◌≡◌, ◌∙◌, ℕ, Bor, List, [], ◌∷◌, ◌++◌, inl, inr, refl, sym, ap, subst}
use Rattle.queue_types.specs.Event.{Event}
use Rattle.queue_core.specs.Crash.{Carries as CarriesOne, Leaves, broken_off, taken, untaken}
use Rattle.queue_core.specs.Limits.{IsEvent, IsMoment}
use Rattle.queue_core.specs.Machine.{step}
use Rattle.queue_core.specs.Runs.{Place}
use Rattle.queue_core.specs.World.{World}
use Rattle.http_front.specs.Connections.{Answers, AreTurns, Breaks}
use Rattle.http_front.specs.Crash.{CarriesAll, IsAskedIn, IsLeft as IsLeftOn}
use Rattle.http_front.specs.Turns.{Turn}
use Rattle.http_front.specs.declared.outcome.ServeFault.{ServeFault}
use Rattle.http_front.specs.declared.outcome.Served.{Served as Service}
use Rattle.arrivals.specs.Crash.{IsAskedBy, AsksAt, AsksFor, Carries, IsAtMostOneMore, IsLeft}
use Rattle.arrivals.specs.History.{AreTaken}
use Rattle.arrivals.specs.declared.arrival.Arrival.{Arrival}
use Rattle.arrivals.specs.declared.arrival.Arrived.{Arrived}
use Rattle.arrivals.specs.declared.arrival.Arrived.TheVariants.{Connection}
use Rattle.arrivals.specs.declared.arrival.Outcome.{Outcome}
use Rattle.arrivals.specs.declared.arrival.Outcome.TheVariants.{Broken, Served}

-- ---- from one thing to the next

-- where nothing was taken
pub carries_none : (before : World → World → Type 0) (os : List Outcome) (w : World) → Carries before before (IsAskedBy [] os) w w
carries_none before os w = λ v left. (v, left, inl (refl, refl))

-- where a crash left just the queue
pub left_one : (is_asked : ℕ → Event → Type 0) (w u x : World) → IsLeft is_asked w w u x → IsAtMostOneMore is_asked u x
left_one is_asked w u x (inl e) = inl (e.1 ∙ sym e.0)
left_one is_asked w u x (inr h) = h

asked_first : (xs : List Arrival) (os : List Outcome) (a : Arrival) (o : Outcome) (w u : World) (now : ℕ) (e : Event) → IsAskedBy xs os w u now e
    → IsAskedBy (xs ++ a ∷ []) (os ++ o ∷ []) w u now e
asked_first [] os a o w u now e h = absurd h
asked_first (x ∷ xs) [] a o w u now e h = absurd h
asked_first (x ∷ xs) (p ∷ os) a o w u now e (inl h) = inl h
asked_first (x ∷ xs) (p ∷ os) a o w u now e (inr h) = inr (h.0, h.1, h.2, h.3, asked_first xs os a o h.0 u now e h.4)

asked_last : (xs : List Arrival) (os : List Outcome) (a : Arrival) (o : Outcome) (written : List ℕ) (places : List Place) (w u p : World) (now : ℕ) (e : Event)
    → AreTaken w xs os written places u → AsksAt a.moment a.what o u p now e → IsAskedBy (xs ++ a ∷ []) (os ++ o ∷ []) w p now e
asked_last [] [] a o written places w u p now e t h = inl (subst (λ (z : World). AsksAt a.moment a.what o z p now e) t.2 h)
asked_last [] (q ∷ os) a o written places w u p now e t h = absurd t
asked_last (x ∷ xs) [] a o written places w u p now e t h = absurd t
asked_last (x ∷ xs) (q ∷ os) a o written places w u p now e t h = inr (t.4, t.0, t.2, t.7, asked_last xs os a o t.1 t.3 t.4 u p now e t.8 h)

left_longer : (xs : List Arrival) (os : List Outcome) (a : Arrival) (o : Outcome) (w v u x : World) → IsLeft (IsAskedBy xs os w u) w v u x
    → IsLeft (IsAskedBy (xs ++ a ∷ []) (os ++ o ∷ []) w u) w v u x
left_longer xs os a o w v u x (inl e) = inl e
left_longer xs os a o w v u x (inr (inl e)) = inr (inl e)
left_longer xs os a o w v u x (inr (inr h)) = inr (inr (h.0, h.1, asked_first xs os a o w u h.0 h.1 h.2, h.3, h.4))

left_more : (xs : List Arrival) (os : List Outcome) (a : Arrival) (o : Outcome) (written : List ℕ) (places : List Place) (w v u x p y : World) → AreTaken w xs os written places u
    → IsLeft (IsAskedBy xs os w u) w v u x → IsLeft (AsksAt a.moment a.what o u p) u x p y → IsLeft (IsAskedBy (xs ++ a ∷ []) (os ++ o ∷ []) w p) w v p y
left_more xs os a o written places w v u x p y t h (inl e) =
    left_longer xs os a o w v p y (subst (λ (z : World). IsLeft (IsAskedBy xs os w z) w v z y) (sym e.0) (subst (λ (z : World). IsLeft (IsAskedBy xs os w u) w v u z) (sym e.1) h))
left_more xs os a o written places w v u x p y t h (inr (inl e)) = inr (inl e)
left_more xs os a o written places w v u x p y t h (inr (inr m)) = inr (inr (m.0, m.1, asked_last xs os a o written places w u p m.0 m.1 t m.2, m.3, m.4))

-- one thing more
pub carries_more : (before between after : World → World → Type 0) (xs : List Arrival) (os : List Outcome) (a : Arrival) (o : Outcome) (written : List ℕ) (places : List Place) (w u p : World)
    → AreTaken w xs os written places u → Carries before between (IsAskedBy xs os) w u → Carries between after (AsksAt a.moment a.what o) u p
    → Carries before after (IsAskedBy (xs ++ a ∷ []) (os ++ o ∷ [])) w p
carries_more before between after xs os a o written places w u p t h c = λ v left.
    let r = h v left in
    let l = c r.0 r.1 in
    (l.0, l.1, left_more xs os a o written places w v u r.0 p l.0 t r.2 l.2)

-- ---- one event

left_by : (asks : Event → Type 0) (failed : Type 0) (asked : Event → Type 0) (now : ℕ) (w v u x : World) → ((e : Event) → asks e → IsEvent e)
    → ((e : Event) → asks e → failed → u ≡ w → asked e) → IsMoment now → Leaves asks failed now w v u x → IsLeft (λ at e. (at ≡ now) × asked e) w v u x
left_by asks failed asked now w v u x within told_so moment (untaken p q) = inl (p, q)
left_by asks failed asked now w v u x within told_so moment (taken e is p q) = inr (inl q)
left_by asks failed asked now w v u x within told_so moment (broken_off e is told p q) =
    inr (inr (now, e, (refl, told_so e is told p), (moment, within e is), q ∙ ap (λ (z : World). (step z now e).world) (sym p)))

-- what asks for one event
pub carries_one : (before after : World → World → Type 0) (asks : Event → Type 0) (failed : Type 0) (now : ℕ) (what : Arrived) (o : Outcome) (w u : World) → ((e : Event) → asks e → IsEvent e)
    → ((e : Event) → asks e → failed → u ≡ w → AsksFor now what o w u e) → IsMoment now → CarriesOne before after asks failed now w u → Carries before after (AsksAt now what o) w u
carries_one before after asks failed now what o w u within told_so moment c = λ v left.
    let l = c v left in
    (l.0, l.1, left_by asks failed (AsksFor now what o w u) now w v u l.0 within told_so moment l.2)

-- ---- a connection

-- what requests ask for is within the limits: the law of connections
abbrev pub AreEvents : Type 0
AreEvents = (now : ℕ) (w u : World) (turns : List Turn) (e : Event) → AreTurns now w turns → IsAskedIn w turns u e → IsEvent e

left_at : (asks : Event → Type 0) (now : ℕ) (turns : List Turn) (w v u x : World) → ((e : Event) → IsAskedIn w turns u e → asks e × IsEvent e) → IsMoment now → IsLeftOn now turns w v u x
    → IsLeft (λ at e. (at ≡ now) × asks e) w v u x
left_at asks now turns w v u x asked moment (inl e) = inl e
left_at asks now turns w v u x asked moment (inr (inl e)) = inr (inl e)
left_at asks now turns w v u x asked moment (inr (inr h)) = let a = asked h.0 h.1 in inr (inr (now, h.0, (refl, a.0), (moment, a.1), h.2))

-- one that was served
pub carries_served : AreEvents → (before after : World → World → Type 0) (now : ℕ) (stream : Bor (List ℕ)) (written : List ℕ) (w u : World) (s : Service) → IsMoment now
    → (a : Answers now w stream.now written u s.acted s.faults s.end) → CarriesAll before after now a.turns w u → Carries before after (AsksAt now (Connection stream) (Served s)) w u
carries_served events before after now stream written w u s moment a c = λ v left.
    let l = c v left in
    (l.0, l.1, left_at (AsksFor now (Connection stream) (Served s) w u) now a.turns w v u l.0 (λ e asked. ((written, u, a, asked), events now w u a.turns e a.are asked)) moment l.2)

-- one that was broken off
pub carries_broken : AreEvents → (before after : World → World → Type 0) (now : ℕ) (stream : Bor (List ℕ)) (written : List ℕ) (w u : World) (f : ServeFault) → IsMoment now
    → (b : Breaks now w stream.now written u f.acted f.faults) → CarriesAll before after now (b.turns ++ b.broken) w u → Carries before after (AsksAt now (Connection stream) (Broken f)) w u
carries_broken events before after now stream written w u f moment b c = λ v left.
    let l = c v left in
    (l.0, l.1, left_at (AsksFor now (Connection stream) (Broken f) w u) now (b.turns ++ b.broken) w v u l.0 (λ e asked. ((written, u, b, asked), events now w u (b.turns ++ b.broken) e b.are asked)) moment l.2)
