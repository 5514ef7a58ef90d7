-- The lines of a replay as places of a run.
use Rattle.std.proofs.Common.{◌≡◌, ◌∙◌, ℕ, ◌≤◌, List, [], ◌∷◌, ◌++◌, Bool, true, false, Bor, ◌⊎◌, Option, None, Some, Result, Ok, Err, inl, inr, length, refl, sym, ap, subst, arith, length-append, length-take}
use Rattle.std.specs.Prelude.{⊤, IfSome, MatchBool, codes}
use Rattle.std.specs.List.{AllByRecursion as Each}
use Rattle.hex.specs.Hex.{decode_of}
use Rattle.queue_types.specs.Event.{Event, grant, expire}
use Rattle.queue_core.specs.Limits.{IsEvent, IsMoment}
use Rattle.queue_core.specs.Runs.{Place, IsPlace, MovesAlong, after, run}
use Rattle.queue_core.specs.Sound.{Balances, IsSound}
use Rattle.queue_core.specs.Sweep.{Sweeps}
use Rattle.queue_core.specs.World.{World}
use Rattle.queue_core.specs.declared.book.BookFault.{BookFault}
use Rattle.ipp_ops.specs.Answer.{Answers, Asks, Fails, is_fault}
use Rattle.device_lines.specs.Reports.{AnswersLine, IsReported, Tells}
use Rattle.grants_csv.specs.Import.{Asks as AsksOfFile, Imports, grants}
use Rattle.grants_csv.specs.declared.fault.ImportFault.{ImportFault}
use Rattle.grants_csv.specs.declared.importing.Imported.{Imported}
use Rattle.replay.specs.Line.{GivesLine}
use Rattle.replay.specs.Places.{ArePlacesOf, AsksFor, IsPlaceOf, IsRunOf, TellsOfNothing}
use Rattle.replay.specs.Replay.{Replays, Taken, TakesLine, TakesNext, broken, none, one_more, whole}
use Rattle.replay.specs.RequestLine.{Says}
use Rattle.replay.specs.Session.{AnswersMessage, State, Takes, file_of, import_line, reply_line, sweep_line}
use Rattle.replay.specs.declared.lines.Line.{Line}
use Rattle.replay.specs.declared.request_line.RequestLine.{RequestLine}
use Rattle.replay.specs.declared.request_line.RequestLine.TheVariants.{Now, Ipp, Dev, Grant, Expire}
use Rattle.replay.proofs.HexadecimalLemmas.{length-decoded}

-- what messages and lines of the device ask for is within the limits, and what they are answered says what it comes to: the laws of requests and of lines
abbrev pub AreEvents : Type 0
AreEvents = ((b : List ℕ) (e : Option Event) → length b ≤ 16777216 → Asks b e → IfSome e IsEvent)
    × ((line : List ℕ) (e : Option Event) → Tells line e → IfSome e IsEvent)

abbrev pub AreDone : Type 0
AreDone = ((now : ℕ) (w u : World) (b out : List ℕ) → Answers w now b u out → (e : Option Event) × Asks b e × (u ≡ after w now e))
    × ((now : ℕ) (w u : World) (line out : List ℕ) → IsReported w now line u out → (e : Option Event) × Tells line e × (u ≡ after w now e))

-- what account files are: the law of files
abbrev pub AreFiles : Type 0
AreFiles = (file : List ℕ) (e : Option Event) → AsksOfFile file e → IfSome e IsEvent

-- ---- one line

-- what a line comes to: the event that it asks for, or none
abbrev ComesTo : RequestLine → State → State → List ℕ → Type 0
ComesTo request old new answer =
    (e : Option Event) × (AsksFor request e ⊎ ((e ≡ None) × TellsOfNothing request answer)) × IfSome e IsEvent × (new.queue ≡ after old.queue old.now e)

reply_comes : AreEvents → AreDone → (fault : Bool) (digits : Bor (List ℕ)) (old new : State) (message out answer : List ℕ) → decode_of digits.now ≡ Ok message → length message ≤ 16777216
    → MatchBool fault (Fails message out × (new.queue ≡ old.queue)) (Answers old.queue old.now message new.queue out) → answer ≡ reply_line out → ComesTo (Ipp digits) old new answer
reply_comes are done false digits old new message out answer is fits a e =
    let v = done.0 old.now old.queue new.queue message out a in
    (v.0, inl (message, is, v.1), are.0 message v.0 fits v.1, v.2)
reply_comes are done true digits old new message out answer is fits f e = (None, inr (refl, inr (message, out, is, f.0, e)), tt, f.1)

message_comes : AreEvents → AreDone → (digits : Bor (List ℕ)) (old new : State) (message answer : List ℕ) → decode_of digits.now ≡ Ok message → length message ≤ 16777216
    → AnswersMessage old.queue old.now message new.queue answer → ComesTo (Ipp digits) old new answer
message_comes are done digits old new message answer is fits (inl a) = reply_comes are done (is_fault a.1) digits old new message a.1 answer is fits a.2 a.3
message_comes are done digits old new message answer is fits (inr f) = (None, inr (refl, inl f.2), tt, f.1)

line_comes : AreEvents → AreDone → (line : Bor (List ℕ)) (old new : State) (answer : List ℕ) → AnswersLine old.queue old.now (line.now ++ 10 ∷ []) new.queue answer
    → ComesTo (Dev line) old new answer
line_comes are done line old new answer (inl r) =
    let v = done.1 old.now old.queue new.queue (line.now ++ 10 ∷ []) answer r in
    (v.0, inl v.1, are.1 (line.now ++ 10 ∷ []) v.0 v.1, v.2)
line_comes are done line old new answer (inr u) = (None, inr (refl, u.0.text), tt, u.1)

file_comes : AreFiles → (row : Bor (List ℕ)) (old new : State) (said : Result Imported ImportFault) (answer : List ℕ)
    → Imports old.queue old.now (file_of row.now) new.queue said → answer ≡ import_line said → ComesTo (Grant row) old new answer
file_comes are row old new (Ok n) answer i e = let asks = grants i.0 i.1 in (Some (grant i.0), inl asks, are (file_of row.now) (Some (grant i.0)) asks, i.3)
file_comes are row old new (Err why) answer i e = (None, inr (refl, (why, e)), tt, i.1)

sweep_comes : (old new : State) (said : Result ℕ BookFault) (answer : List ℕ) → Sweeps old.queue old.now new.queue said → answer ≡ sweep_line said → ComesTo Expire old new answer
sweep_comes old new (Ok n) answer s e = (Some expire, inl refl, tt, s.1)
sweep_comes old new (Err why) answer s e = (None, inr (refl, (why, e)), tt, s)

-- a message is within its limit
abbrev FitsIn : RequestLine → Type 0
FitsIn (Ipp digits) = (message : List ℕ) → decode_of digits.now ≡ Ok message → length message ≤ 16777216
FitsIn _ = ⊤

comes : AreEvents → AreDone → AreFiles → (request : RequestLine) (old new : State) (answer : List ℕ) → FitsIn request → Takes request old new answer
    → ComesTo request old new answer
comes are done are_files (Now n) old new answer fits t = (None, inl refl, tt, t.1)
comes are done are_files (Ipp digits) old new answer fits t = message_comes are done digits old new t.1.0 answer t.1.1 (fits t.1.0 t.1.1) t.1.2
comes are done are_files (Dev line) old new answer fits t = line_comes are done line old new answer t.1
comes are done are_files (Grant row) old new answer fits t = file_comes are_files row old new t.1.0 answer t.1.1 t.1.2
comes are done are_files Expire old new answer fits t = sweep_comes old new t.1.0 answer t.1.1 t.1.2

-- of a line there are so many bytes that its message fits
fits_in : (before behind : Option (List ℕ)) (line : Line) → GivesLine before behind line → (request : RequestLine) → Says line.bytes.items request → FitsIn request
fits_in before behind line gives (Ipp digits) says = λ message is.
    let kept = ap length gives.front.0 ∙ length-take 33554436 gives.bytes in
    let whole = ap length says ∙ length-append (codes "ipp ") digits.now in
    let half = length-decoded digits.now message is in
    omega (arith, kept, whole, half)
fits_in before behind line gives _ says = tt

pub place_of : AreEvents → AreDone → AreFiles → (before behind : Option (List ℕ)) (line : Line) (old new : State) (answer : List ℕ) → IsMoment old.now
    → GivesLine before behind line → (t : TakesLine line old new answer)
    → (p : Place) × IsPlaceOf t.request old new answer p × IsPlace p × (new.queue ≡ run old.queue (p ∷ []))
place_of are done are_files before behind line old new answer moment gives t =
    let e = comes are done are_files t.request old new answer (fits_in before behind line gives t.request t.says) t.takes in (
      record { now = old.now; event = e.0 },
      record { moment = refl; asks = e.1; world = e.3 },
      (moment, e.2),
      e.3,
    )

moment_kept : (request : RequestLine) (old new : State) (line answer : List ℕ) → Says line request → Takes request old new answer → IsMoment old.now → IsMoment new.now
moment_kept (Now n) old new line answer says t moment = subst IsMoment (sym t.0) says.0
moment_kept _ old new line answer says t moment = subst IsMoment (sym t.0) moment

-- ---- one line after the other

moment_after : {input : Option (List ℕ)} {begin : State} {count : ℕ} {text : List ℕ} {left : Option (List ℕ)} {last : State} → IsMoment begin.now
    → Taken input begin count text left last → IsMoment last.now
moment_after moment none = moment
moment_after moment (one_more count text answer before behind old new line taken gives takes) =
    moment_kept takes.request old new line.bytes.items answer takes.says takes.takes (moment_after moment taken)

each_more : (ps : List Place) (p : Place) → Each IsPlace ps → IsPlace p → Each IsPlace (ps ++ p ∷ [])
each_more [] p h k = (k, tt)
each_more (q ∷ ps) p h k = (h.0, each_more ps p h.1 k)

-- the run of a joined list: a law of runs
abbrev pub AreJoined : Type 0
AreJoined = (w : World) (ps qs : List Place) → run w (ps ++ qs) ≡ run (run w ps) qs

run_more : AreJoined → (w v u : World) (ps : List Place) (p : Place) → v ≡ run w ps → u ≡ run v (p ∷ []) → u ≡ run w (ps ++ p ∷ [])
run_more joined w v u ps p before one = one ∙ ap (λ (z : World). run z (p ∷ [])) before ∙ sym (joined w ps (p ∷ []))

pub places_of : AreEvents → AreDone → AreFiles → AreJoined → {input : Option (List ℕ)} {begin : State} {count : ℕ} {text : List ℕ} {left : Option (List ℕ)} {last : State}
    → IsMoment begin.now → (t : Taken input begin count text left last)
    → (ps : List Place) × ArePlacesOf t ps × Each IsPlace ps × (last.queue ≡ run begin.queue ps)
places_of are done are_files joined moment none = ([], refl, tt, refl)
places_of are done are_files joined {begin = begin} moment (one_more count text answer before behind old new line taken gives takes) =
    let r = places_of are done are_files joined moment taken in
    let p = place_of are done are_files before behind line old new answer (moment_after moment taken) gives takes in
    (r.0 ++ p.0 ∷ [], (r.0, p.0, refl, r.1, p.1), each_more r.0 p.0 r.2 p.2, run_more joined begin.queue old.queue new.queue r.0 p.0 r.3 p.3)

pub places_in : AreEvents → AreDone → AreFiles → AreJoined → {input : Option (List ℕ)} {begin : State} {status : ℕ} {text : List ℕ} {last : State}
    → IsMoment begin.now → (r : Replays input begin status text last) → IsRunOf r
places_in are done are_files joined moment (whole count text left last taken end) =
    let r = places_of are done are_files joined moment taken in
    record { places = r.0; lines = r.1; are = r.2; run_is = r.3 }
places_in are done are_files joined moment (broken count text before behind last line taken gives bad) =
    let r = places_of are done are_files joined moment taken in
    record { places = r.0; lines = r.1; are = r.2; run_is = r.3 }

-- ---- what lines keep

pub moves_along : AreEvents → AreDone → AreFiles → AreJoined
    → ((w : World) (ps : List Place) (p : Place) → IsSound w → Each IsPlace ps → IsPlace p → MovesAlong (run w ps) (run w (ps ++ p ∷ [])))
    → (input : Option (List ℕ)) (begin old new : State) → IsMoment begin.now → IsSound begin.queue → TakesNext input begin old new → MovesAlong old.queue new.queue
moves_along are done are_files joined moves input begin old new moment sound next =
    let r = places_of are done are_files joined moment next.taken in
    let p = place_of are done are_files next.before next.after next.line old new next.answer (moment_after moment next.taken) next.gives next.takes in
    let e = run_more joined begin.queue old.queue new.queue r.0 p.0 r.3 p.3 in
    subst (λ (z : World). MovesAlong z new.queue) (sym r.3)
    (subst (λ (z : World). MovesAlong (run begin.queue r.0) z) (sym e) (moves begin.queue r.0 p.0 sound r.2 p.2))

pub keeps_balance : AreEvents → AreDone → AreFiles → AreJoined → ((w : World) (ps : List Place) → IsSound w → Each IsPlace ps → Balances (run w ps))
    → (input left : Option (List ℕ)) (begin last : State) (count : ℕ) (text : List ℕ)
    → IsMoment begin.now → IsSound begin.queue → Taken input begin count text left last → Balances last.queue
keeps_balance are done are_files joined balances input left begin last count text moment sound taken =
    let r = places_of are done are_files joined moment taken in
    subst Balances (sym r.3) (balances begin.queue r.0 sound r.2)
