-- Runs without what repeats.
use Rattle.std.specs.Prelude.{◌≡◌, ℕ, List, [], ◌∷◌, ◌++◌, Option, Some, None, ⊤, not, ◌==◌, ◌&&◌, bytes_eq, Bool, true, if◌then◌else◌}
use Rattle.std.specs.List.{list_any, AllByRecursion as Each}
use Rattle.queue_types.specs.Event.{Event, ask, tell, grant, expire}
use Rattle.queue_types.specs.Event.{kind_number}
use Rattle.queue_core.specs.Runs.{Place, after as after_place}
use Rattle.queue_core.specs.World.{World}
use Rattle.queue_types.specs.declared.event.GrantRow.{GrantRow}
use Rattle.queue_types.specs.declared.event.Report.{Report}
use Rattle.queue_types.specs.declared.event.Reply.{Reply}
use Rattle.queue_laws.specs.Replies.{refuses}
use Rattle.queue_laws.specs.Steps.{answer}

abbrev pub are_equal_reports : Report → Report → Bool
are_equal_reports a b = a.job == b.job && a.seq == b.seq && kind_number a.kind == kind_number b.kind && a.count == b.count

abbrev pub are_equal_rows : GrantRow → GrantRow → Bool
are_equal_rows a b = bytes_eq a.batch b.batch && bytes_eq a.account b.account && a.pages == b.pages

-- one of these reports equals r
abbrev pub has_report : Report → List Report → Bool
has_report r kept = list_any (λ s. are_equal_reports s r) kept

-- one of these rows equals g
abbrev pub has_row : GrantRow → List GrantRow → Bool
has_row g rows = list_any (λ h. are_equal_rows h g) rows

-- the event is not refused
abbrev pub is_accepted : World → ℕ → Event → Bool
is_accepted w now e = not (refuses (answer w now e))

-- ---- what was accepted so far

abbrev pub reports_then : List Report → World → ℕ → Option Event → List Report
reports_then kept w now None = kept
reports_then kept w now (Some (ask caller call)) = kept
reports_then kept w now (Some (tell r)) = if is_accepted w now (tell r) then r ∷ kept else kept
reports_then kept w now (Some (grant file)) = kept
reports_then kept w now (Some expire) = kept

abbrev pub rows_then : List GrantRow → World → ℕ → Option Event → List GrantRow
rows_then given w now None = given
rows_then given w now (Some (ask caller call)) = given
rows_then given w now (Some (tell r)) = given
rows_then given w now (Some (grant file)) = if is_accepted w now (grant file) then file ++ given else given
rows_then given w now (Some expire) = given

-- ---- the run without repeats

-- the rows of a file that equal none of those accepted before and, where the file is accepted, none before them in it
abbrev pub thin_rows : Bool → List GrantRow → List GrantRow → List GrantRow
thin_rows accepted given [] = []
thin_rows accepted given (g ∷ file) = if has_row g given then thin_rows accepted given file else g ∷ thin_rows accepted (if accepted then g ∷ given else given) file

-- the place without what equals an accepted report or row; a file without rows stays
abbrev pub thin_place : List Report → List GrantRow → World → ℕ → Option Event → List Place
thin_place kept given w now None = record { now = now; event = None } ∷ []
thin_place kept given w now (Some (ask caller call)) = record { now = now; event = Some (ask caller call) } ∷ []
thin_place kept given w now (Some (tell r)) = if has_report r kept then [] else record { now = now; event = Some (tell r) } ∷ []
thin_place kept given w now (Some (grant file)) = record { now = now; event = Some (grant (thin_rows (is_accepted w now (grant file)) given file)) } ∷ []
thin_place kept given w now (Some expire) = record { now = now; event = Some expire } ∷ []

abbrev pub thin_from : List Report → List GrantRow → World → List Place → List Place
thin_from kept given w [] = []
thin_from kept given w (p ∷ ps) = thin_place kept given w p.now p.event ++ thin_from (reports_then kept w p.now p.event) (rows_then given w p.now p.event) (after_place w p.now p.event) ps

-- without each report and each row of a file that equals one accepted before it in the run from w
abbrev pub thin : World → List Place → List Place
thin w ps = thin_from [] [] w ps

-- ---- the answers to repeats

-- an accepted report and what it was answered
abbrev pub Answered : Type 0
Answered = Report × Reply

abbrev pub answered_then : List Answered → World → ℕ → Option Event → List Answered
answered_then before w now None = before
answered_then before w now (Some (ask caller call)) = before
answered_then before w now (Some (tell r)) = if is_accepted w now (tell r) then (r, answer w now (tell r)) ∷ before else before
answered_then before w now (Some (grant file)) = before
answered_then before w now (Some expire) = before

-- a report is answered as each equal one was that was accepted before it
abbrev pub IsAnsweredAgain : List Answered → World → ℕ → Option Event → Type 0
IsAnsweredAgain before w now None = ⊤
IsAnsweredAgain before w now (Some (ask caller call)) = ⊤
IsAnsweredAgain before w now (Some (tell r)) = Each (λ (x : Answered). are_equal_reports x.0 r ≡ true → answer w now (tell r) ≡ x.1) before
IsAnsweredAgain before w now (Some (grant file)) = ⊤
IsAnsweredAgain before w now (Some expire) = ⊤

abbrev pub AnswerAgain : List Answered → World → List Place → Type 0
AnswerAgain before w [] = ⊤
AnswerAgain before w (p ∷ ps) = IsAnsweredAgain before w p.now p.event × AnswerAgain (answered_then before w p.now p.event) (after_place w p.now p.event) ps
