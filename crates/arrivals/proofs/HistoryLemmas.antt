-- A list of arrivals grows by one, and what a run keeps.
use Rattle.std.proofs.Common.{◌≡◌, ◌∙◌, ℕ, ◌+◌, zero, suc, List, [], ◌∷◌, ◌++◌, Option, None, Some, Result, Ok, Err, IsErrAnd, Vec, inl, refl, sym, ap, subst, append_assoc, append-nil, take}
use Rattle.std.specs.List.{AllByRecursion as Each}
use Rattle.std.proofs.KnownBytes.{Appends-nil, Appends-trans}
use Rattle.std.proofs.Math.Numerals.{add-one}
use Rattle.queue_types.specs.Event.{Event}
use Rattle.queue_types.specs.Settings.{SettingValues}
use Rattle.queue_types.specs.declared.job.Job.{Job}
use Rattle.queue_core.specs.Runs.{Place, IsPlace, Follows, MovesAlong, after, run}
use Rattle.queue_core.specs.Sound.{Balances, IsSound}
use Rattle.queue_core.specs.World.{World, job_at, rows}
use Rattle.queue_core.specs.declared.book.QueueBook.{Ghosts}
use Rattle.arrivals.specs.Books.{CameTo, HistoryOver, IsTakenOver}
use Rattle.arrivals.specs.Crash.{IsAskedBy, Carries}
use Rattle.arrivals.specs.History.{AreTaken}
use Rattle.arrivals.specs.Taken.{IsTaken, Takes}
use Rattle.arrivals.specs.declared.arrival.Arrival.{Arrival}
use Rattle.arrivals.specs.declared.arrival.Outcome.{Outcome}
use Rattle.arrivals.proofs.CrashLemmas.{carries_more, carries_none}

-- ---- the settings stay

after_settings : (w : World) (now : ℕ) (e : Option Event) → (after w now e).settings ≡ w.settings
after_settings w now None = refl
after_settings w now (Some e) = refl

run_settings : (w : World) (ps : List Place) → (run w ps).settings ≡ w.settings
run_settings w [] = refl
run_settings w (p ∷ ps) = run_settings (after w p.now p.event) ps ∙ after_settings w p.now p.event

pub settings_after : (set : SettingValues) (w u : World) (ps : List Place) → u ≡ run w ps → set ≡ w.settings → set ≡ u.settings
settings_after set w u ps e f = f ∙ sym (run_settings w ps) ∙ ap (λ (x : World). x.settings) (sym e)

-- ---- what is taken so far

-- These reached a book that was old before them and is new behind them, one after another, and came to these outcomes; the book stood for the queue w.
abbrev pub AreTakenOver : {B : Type 0} (book : Ghosts B) (old new : B) (w : World) → List Arrival → List Outcome → (before after : Option (List ℕ)) → Type 0
AreTakenOver book old new w arrivals outcomes before after =
    IsTaken (book.stands new) (Carries (book.crash_leaves old) (book.crash_leaves new) (IsAskedBy arrivals outcomes) w) w before after (AreTaken w arrivals outcomes)

-- ---- one more at the end

-- the run of a joined list: a law of runs
abbrev pub AreJoined : Type 0
AreJoined = (w : World) (ps qs : List Place) → run w (ps ++ qs) ≡ run (run w ps) qs

each_append : (ps qs : List Place) → Each IsPlace ps → Each IsPlace qs → Each IsPlace (ps ++ qs)
each_append [] qs h k = k
each_append (p ∷ ps) qs h k = (h.0, each_append ps qs h.1 k)

taken_more : (w v u : World) (xs : List Arrival) (os : List Outcome) (a : Arrival) (o : Outcome) (written more : List ℕ) (ps qs : List Place)
    → AreTaken w xs os written ps v → Takes a.moment v a.what o more qs u → AreTaken w (xs ++ a ∷ []) (os ++ o ∷ []) (written ++ more) (ps ++ qs) u
taken_more w v u [] [] a o written more ps qs t c = (
  more,
  [],
  qs,
  [],
  u,
  ap (λ (z : List ℕ). z ++ more) t.0 ∙ sym (append-nil more),
  ap (λ (z : List Place). z ++ qs) t.1 ∙ sym (append-nil qs),
  subst (λ (z : World). Takes a.moment z a.what o more qs u) t.2 c,
  (refl, refl, refl),
)
taken_more w v u [] (p ∷ os) a o written more ps qs t c = absurd t
taken_more w v u (x ∷ xs) [] a o written more ps qs t c = absurd t
taken_more w v u (x ∷ xs) (p ∷ os) a o written more ps qs t c = (
  t.0,
  t.1 ++ more,
  t.2,
  t.3 ++ qs,
  t.4,
  ap (λ (z : List ℕ). z ++ more) t.5 ∙ append_assoc t.0 t.1 more,
  ap (λ (z : List Place). z ++ qs) t.6 ∙ append_assoc t.2 t.3 qs,
  t.7,
  taken_more t.4 v u xs os a o t.1 more t.3 qs t.8 c,
)

pub more_taken : AreJoined → {B : Type 0} (book : Ghosts B) (old between new : B) (w : World) (xs : List Arrival) (os : List Outcome) (a : Arrival) (o : Outcome) (v x y : Option (List ℕ))
    → (t : AreTakenOver book old between w xs os v x) → IsTakenOver book between new t.after a.moment a.what o x y
    → AreTakenOver book old new w (xs ++ a ∷ []) (os ++ o ∷ []) v y
more_taken joined book old between new w xs os a o v x y t k = record {
  after = k.after;
  stands_after = k.stands_after;
  written = t.written ++ k.written;
  appended = Appends-trans v x y t.written k.written t.appended k.appended;
  places = t.places ++ k.places;
  are = each_append t.places k.places t.are k.are;
  run_is = k.run_is ∙ ap (λ (z : World). run z k.places) t.run_is ∙ sym (joined w t.places k.places);
  comes = taken_more w t.after k.after xs os a o t.written k.written t.places k.places t.comes k.comes;
  is_left = carries_more (book.crash_leaves old) (book.crash_leaves between) (book.crash_leaves new) xs os a o t.written t.places w t.after k.after t.comes t.is_left k.is_left;
}

pub none_taken : {B : Type 0} (book : Ghosts B) (b : B) (w : World) (os : List Outcome) (v : Option (List ℕ)) → os ≡ [] → book.stands b w → AreTakenOver book b b w [] os v v
none_taken book b w os v e s = record {
  after = w;
  stands_after = s;
  written = [];
  appended = Appends-nil v;
  places = [];
  are = tt;
  run_is = refl;
  comes = subst (λ (z : List Outcome). AreTaken w [] z [] [] w) (sym e) (refl, refl, refl);
  is_left = carries_none (book.crash_leaves b) os w;
}

-- after an error none was taken
pub came_to_none : {Z E : Type 0} (Q : E → Type 0) (w : World) (arrivals : List Arrival) (r : Result (Vec Outcome Z) E) → IsErrAnd r Q → CameTo w arrivals r [] w
came_to_none Q w arrivals (Ok outcomes) h = absurd h
came_to_none Q w arrivals (Err e) h = (refl, refl)

-- the same of lists by other names
pub taken_by : {B : Type 0} (book : Ghosts B) (old new : B) (w : World) (v x : Option (List ℕ)) (xs ys : List Arrival) (os qs : List Outcome) → ys ≡ xs → qs ≡ os
    → AreTakenOver book old new w xs os v x → AreTakenOver book old new w ys qs v x
taken_by book old new w v x xs ys os qs e f t =
    subst (λ (z : List Arrival). AreTakenOver book old new w z qs v x) (sym e) (subst (λ (z : List Outcome). AreTakenOver book old new w xs z v x) (sym f) t)

-- ---- what a run keeps

-- the laws of runs
abbrev pub KeepsSound : Type 0
KeepsSound = (w : World) (ps : List Place) → IsSound w → Each IsPlace ps → IsSound (run w ps)

abbrev pub KeepsMoves : Type 0
KeepsMoves = (w : World) (ps : List Place) (p : Place) → IsSound w → Each IsPlace ps → IsPlace p → MovesAlong (run w ps) (run w (ps ++ p ∷ []))

abbrev pub KeepsBalances : Type 0
KeepsBalances = (w : World) (ps : List Place) → IsSound w → Each IsPlace ps → Balances (run w ps)

each_take : (k : ℕ) (ps : List Place) → Each IsPlace ps → Each IsPlace (take k ps)
each_take zero ps h = tt
each_take (suc k) [] h = tt
each_take (suc k) (p ∷ ps) h = (h.0, each_take k ps h.1)

same_follows : (j : Option Job) → Follows j j
same_follows None = tt
same_follows (Some j) = inl refl

same_moves : (w : World) → MovesAlong w w
same_moves w n = same_follows (job_at n (rows w))

moves_suc : KeepsSound → KeepsMoves → (k : ℕ) (w : World) (ps : List Place) → IsSound w → Each IsPlace ps → MovesAlong (run w (take k ps)) (run w (take (suc k) ps))
moves_suc sound moves zero w [] s h = same_moves w
moves_suc sound moves zero w (p ∷ ps) s h = moves w [] p s tt h.0
moves_suc sound moves (suc k) w [] s h = same_moves w
moves_suc sound moves (suc k) w (p ∷ ps) s h = moves_suc sound moves k (after w p.now p.event) ps (sound w (p ∷ []) s (h.0, tt)) h.1

moves_more : KeepsSound → KeepsMoves → (k : ℕ) (w : World) (ps : List Place) → IsSound w → Each IsPlace ps → MovesAlong (run w (take k ps)) (run w (take (k + 1) ps))
moves_more sound moves k w ps s h = subst (λ (n : ℕ). MovesAlong (run w (take k ps)) (run w (take n ps))) (sym (add-one k)) (moves_suc sound moves k w ps s h)

-- ---- the whole

pub history_of : KeepsSound → KeepsMoves → KeepsBalances → {B : Type 0} (book : Ghosts B) (old new : B) (w : World) (xs ys : List Arrival) (os : List Outcome) (v x : Option (List ℕ))
    → xs ≡ ys → IsSound w → AreTakenOver book old new w xs os v x → HistoryOver book old new w ys os v x
history_of sound moves balances book old new w xs ys os v x same s t = record {
  queue = t.after;
  stands = t.stands_after;
  written = t.written;
  appended = t.appended;
  history = record {
    places = t.places;
    taken = subst (λ (z : List Arrival). AreTaken w z os t.written t.places t.after) same t.comes;
    are = t.are;
    run_is = t.run_is;
    moves = λ k. moves_more sound moves k w t.places s t.are;
    balances = λ k. balances w (take k t.places) s (each_take k t.places t.are);
    sound = λ k. sound w (take k t.places) s (each_take k t.places t.are);
  };
  carries = subst (λ (z : List Arrival). Carries (book.crash_leaves old) (book.crash_leaves new) (IsAskedBy z os) w t.after) same t.is_left;
}

-- ---- the last of a list

pub each_before_last : {A : Type 0} (P : A → Type 0) (xs : List A) (x : A) → Each P (xs ++ x ∷ []) → Each P xs × P x
each_before_last P [] x h = (tt, h.0)
each_before_last P (y ∷ ys) x h =
    let rest = each_before_last P ys x h.1 in
    ((h.0, rest.0), rest.1)
