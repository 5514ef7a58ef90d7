-- What stays in a run without repeats, as the run goes on.
use Rattle.std.proofs.Common.{◌≡◌, ℕ, List, [], ◌∷◌, ◌++◌, refl, ap, sym, ◌∙◌, subst, append_assoc, append-nil, Bool, true, false, cond}
use Rattle.std.specs.Prelude.{Option, Some, None, not, ◌||◌}
use Rattle.std.specs.List.{AllByRecursion as Each}
use Rattle.std.proofs.lemmas.List.Folds.{list_any-append}
use Rattle.queue_types.specs.Event.{Event, Call, ask, tell, grant, expire}
use Rattle.queue_core.specs.Runs.{Place, after, run}
use Rattle.queue_core.specs.World.{World}
use Rattle.queue_types.specs.declared.event.GrantRow.{GrantRow}
use Rattle.queue_types.specs.declared.event.Report.{Report}
use Rattle.queue_laws.specs.Alike.{place_of, idle}
use Rattle.queue_laws.specs.Before.{WasAccepted, WasGranted, HasNewRows}
use Rattle.queue_laws.specs.Replies.{refuses}
use Rattle.queue_laws.specs.Steps.{answer}
use Rattle.queue_laws.specs.Thin.{are_equal_reports, are_equal_rows, has_report, has_row, is_accepted, reports_then, rows_then, thin_rows, thin_place, thin_from, thin}
use Rattle.queue_laws.proofs.Moving.{same_kind}
use Rattle.queue_laws.proofs.Once.{clash, or_left, or_right, still_among, now_among, still_given, now_given, other_rows, rows_among, IsOtherRow, own_row}
use Rattle.queue_laws.proofs.Thinned.{are_equal, equal_rows}

-- ---- the reports and rows that were accepted along a run

abbrev reports_along : List Report → World → List Place → List Report
reports_along kept w [] = kept
reports_along kept w (p ∷ ps) = reports_along (reports_then kept w p.now p.event) (after w p.now p.event) ps

abbrev rows_along : List GrantRow → World → List Place → List GrantRow
rows_along given w [] = given
rows_along given w (p ∷ ps) = rows_along (rows_then given w p.now p.event) (after w p.now p.event) ps

not_off : (b : Bool) → not b ≡ true → b ≡ false
not_off true e = absurd (cc)
not_off false e = refl

-- ---- reports

equal_reports : (a b : Report) → are_equal_reports a b ≡ true → a ≡ b
equal_reports a b e =
    let same = are_equal a b e in
    λ i. record { job = same.job i; seq = same.seq i; kind = same_kind a.kind b.kind same.kind i; count = same.count i }

abbrev Came : World → ℕ → Option Event → Event → Type 0
Came w now o e = (o ≡ Some e) × (refuses (answer w now e) ≡ false)

told_here : (kept : List Report) (w : World) (now : ℕ) (s r : Report) → has_report r kept ≡ false → has_report r (reports_then kept w now (Some (tell s))) ≡ true → Came w now (Some (tell s)) (tell r)
told_here kept w now s r none there =
    elim (is_accepted w now (tell s)) as (λ b. is_accepted w now (tell s) ≡ b → has_report r (cond b (s ∷ kept) kept) ≡ true → Came w now (Some (tell s)) (tell r)) [
      | true ↦ λ accepted there.
          elim (are_equal_reports s r) as (λ b. are_equal_reports s r ≡ b → (b || has_report r kept) ≡ true → Came w now (Some (tell s)) (tell r)) [
            | true ↦ λ is there.
                let same = equal_reports s r is in
                (ap (λ x. Some (tell x)) same, ap (λ x. refuses (answer w now (tell x))) (sym same) ∙ not_off (refuses (answer w now (tell s))) accepted)
            | false ↦ λ is there. clash (Came w now (Some (tell s)) (tell r)) (has_report r kept) none there
          ] refl there
      | false ↦ λ accepted there. clash (Came w now (Some (tell s)) (tell r)) (has_report r kept) none there
    ] refl there

came_here : (kept : List Report) (w : World) (now : ℕ) (o : Option Event) (r : Report) → has_report r kept ≡ false → has_report r (reports_then kept w now o) ≡ true → Came w now o (tell r)
came_here kept w now None r none there = clash (Came w now None (tell r)) (has_report r kept) none there
came_here kept w now (Some (ask caller call)) r none there = clash (Came w now (Some (ask caller call)) (tell r)) (has_report r kept) none there
came_here kept w now (Some (tell s)) r none there = told_here kept w now s r none there
came_here kept w now (Some (grant file)) r none there = clash (Came w now (Some (grant file)) (tell r)) (has_report r kept) none there
came_here kept w now (Some expire) r none there = clash (Came w now (Some expire) (tell r)) (has_report r kept) none there

-- what is among the reports at the end was so before or was accepted along the run
came : (ps : List Place) (kept : List Report) (w : World) (r : Report) → has_report r kept ≡ false → has_report r (reports_along kept w ps) ≡ true → WasAccepted w ps (tell r)
came [] kept w r none there = clash (WasAccepted w [] (tell r)) (has_report r kept) none there
came (p ∷ ps) kept w r none there =
    elim (has_report r (reports_then kept w p.now p.event)) as (λ b. has_report r (reports_then kept w p.now p.event) ≡ b → WasAccepted w (p ∷ ps) (tell r)) [
      | true ↦ λ is.
          let here = came_here kept w p.now p.event r none is in
          record { front = []; now = p.now; back = ps; is = λ i. record { now = p.now; event = here.0 i } ∷ ps; accepted = here.1 }
      | false ↦ λ is.
          let x = came ps (reports_then kept w p.now p.event) (after w p.now p.event) r is there in
          record { front = p ∷ x.front; now = x.now; back = x.back; is = ap (λ qs. p ∷ qs) x.is; accepted = x.accepted }
    ] refl

stays_along : (ps : List Place) (kept : List Report) (w : World) (r : Report) → has_report r kept ≡ true → has_report r (reports_along kept w ps) ≡ true
stays_along [] kept w r there = there
stays_along (p ∷ ps) kept w r there = stays_along ps (reports_then kept w p.now p.event) (after w p.now p.event) r (still_among kept w p.now p.event r there)

along_front : (front : List Place) (kept : List Report) (w : World) (now : ℕ) (r : Report) (back : List Place) → refuses (answer (run w front) now (tell r)) ≡ false → has_report r (reports_along kept w (front ++ place_of now (tell r) ∷ back)) ≡ true
along_front [] kept w now r back accepted = stays_along back (reports_then kept w now (Some (tell r))) (after w now (Some (tell r))) r (now_among kept w now r accepted)
along_front (p ∷ front) kept w now r back accepted = along_front front (reports_then kept w p.now p.event) (after w p.now p.event) now r back accepted

accepted_along : (w : World) (ps : List Place) (r : Report) → WasAccepted w ps (tell r) → has_report r (reports_along [] w ps) ≡ true
accepted_along w ps r was = ap (λ qs. has_report r (reports_along [] w qs)) was.is ∙ along_front was.front [] w was.now r was.back was.accepted

-- ---- rows

record IsRowOf (g : GrantRow) (file : List GrantRow) : Type 0 where
  before : List GrantRow
  behind : List GrantRow
  is : file ≡ before ++ g ∷ behind

row_of : (g : GrantRow) (file : List GrantRow) → has_row g file ≡ true → IsRowOf g file
row_of g [] there = absurd (cc)
row_of g (h ∷ file) there =
    elim (are_equal_rows h g) as (λ b. are_equal_rows h g ≡ b → (b || has_row g file) ≡ true → IsRowOf g (h ∷ file)) [
      | true ↦ λ is there. record { before = []; behind = file; is = ap (λ x. x ∷ file) (equal_rows h g is) }
      | false ↦ λ is there. (let x = row_of g file there in record { before = h ∷ x.before; behind = x.behind; is = ap (λ hs. h ∷ hs) x.is })
    ] refl there

has_own : (g : GrantRow) (before behind : List GrantRow) → has_row g (before ++ g ∷ behind) ≡ true
has_own g [] behind = or_left (are_equal_rows g g) (has_row g behind) (own_row g)
has_own g (h ∷ before) behind = or_right (are_equal_rows h g) (has_row g (before ++ g ∷ behind)) (has_own g before behind)

record Granted (w : World) (now : ℕ) (o : Option Event) (g : GrantRow) : Type 0 where
  before : List GrantRow
  behind : List GrantRow
  is : o ≡ Some (grant (before ++ g ∷ behind))
  accepted : refuses (answer w now (grant (before ++ g ∷ behind))) ≡ false

file_here : (given : List GrantRow) (w : World) (now : ℕ) (file : List GrantRow) (g : GrantRow) → has_row g given ≡ false → has_row g (rows_then given w now (Some (grant file))) ≡ true → Granted w now (Some (grant file)) g
file_here given w now file g none there =
    elim (is_accepted w now (grant file)) as (λ b. is_accepted w now (grant file) ≡ b → has_row g (cond b (file ++ given) given) ≡ true → Granted w now (Some (grant file)) g) [
      | true ↦ λ accepted there.
          elim (has_row g file) as (λ b. has_row g file ≡ b → (b || has_row g given) ≡ true → Granted w now (Some (grant file)) g) [
            | true ↦ λ has there.
                let x = row_of g file has in
                record {
                  before = x.before;
                  behind = x.behind;
                  is = ap (λ rows. Some (grant rows)) x.is;
                  accepted = ap (λ rows. refuses (answer w now (grant rows))) (sym x.is) ∙ not_off (refuses (answer w now (grant file))) accepted;
                }
            | false ↦ λ has there. clash (Granted w now (Some (grant file)) g) (has_row g given) none there
          ] refl (sym (list_any-append (λ h. are_equal_rows h g) file given) ∙ there)
      | false ↦ λ accepted there. clash (Granted w now (Some (grant file)) g) (has_row g given) none there
    ] refl there

granted_here : (given : List GrantRow) (w : World) (now : ℕ) (o : Option Event) (g : GrantRow) → has_row g given ≡ false → has_row g (rows_then given w now o) ≡ true → Granted w now o g
granted_here given w now None g none there = clash (Granted w now None g) (has_row g given) none there
granted_here given w now (Some (ask caller call)) g none there = clash (Granted w now (Some (ask caller call)) g) (has_row g given) none there
granted_here given w now (Some (tell r)) g none there = clash (Granted w now (Some (tell r)) g) (has_row g given) none there
granted_here given w now (Some (grant file)) g none there = file_here given w now file g none there
granted_here given w now (Some expire) g none there = clash (Granted w now (Some expire) g) (has_row g given) none there

granted : (ps : List Place) (given : List GrantRow) (w : World) (g : GrantRow) → has_row g given ≡ false → has_row g (rows_along given w ps) ≡ true → WasGranted w ps g
granted [] given w g none there = clash (WasGranted w [] g) (has_row g given) none there
granted (p ∷ ps) given w g none there =
    elim (has_row g (rows_then given w p.now p.event)) as (λ b. has_row g (rows_then given w p.now p.event) ≡ b → WasGranted w (p ∷ ps) g) [
      | true ↦ λ is.
          let here = granted_here given w p.now p.event g none is in
          record {
            before = here.before;
            behind = here.behind;
            file = record { front = []; now = p.now; back = ps; is = λ i. record { now = p.now; event = here.is i } ∷ ps; accepted = here.accepted };
          }
      | false ↦ λ is.
          let x = granted ps (rows_then given w p.now p.event) (after w p.now p.event) g is there in
          record {
            before = x.before;
            behind = x.behind;
            file = record { front = p ∷ x.file.front; now = x.file.now; back = x.file.back; is = ap (λ qs. p ∷ qs) x.file.is; accepted = x.file.accepted };
          }
    ] refl

given_along : (ps : List Place) (given : List GrantRow) (w : World) (g : GrantRow) → has_row g given ≡ true → has_row g (rows_along given w ps) ≡ true
given_along [] given w g there = there
given_along (p ∷ ps) given w g there = given_along ps (rows_then given w p.now p.event) (after w p.now p.event) g (still_given given w p.now p.event g there)

given_front : (front : List Place) (given : List GrantRow) (w : World) (now : ℕ) (file : List GrantRow) (g : GrantRow) (back : List Place) → refuses (answer (run w front) now (grant file)) ≡ false → has_row g file ≡ true → has_row g (rows_along given w (front ++ place_of now (grant file) ∷ back)) ≡ true
given_front [] given w now file g back accepted there = given_along back (rows_then given w now (Some (grant file))) (after w now (Some (grant file))) g (now_given given w now file g (ap not accepted) there)
given_front (p ∷ front) given w now file g back accepted there = given_front front (rows_then given w p.now p.event) (after w p.now p.event) now file g back accepted there

was_given : (w : World) (ps : List Place) (g : GrantRow) → WasGranted w ps g → has_row g (rows_along [] w ps) ≡ true
was_given w ps g was =
    ap (λ qs. has_row g (rows_along [] w qs)) was.file.is
    ∙ given_front was.file.front [] w was.file.now (was.before ++ g ∷ was.behind) g was.file.back was.file.accepted (has_own g was.before was.behind)

-- what holds of each row holds of one
one_row : (P : GrantRow → Type 0) (g : GrantRow) (rows : List GrantRow) → Each P rows → has_row g rows ≡ true → P g
one_row P g [] each there = absurd (cc)
one_row P g (h ∷ rows) each there =
    elim (are_equal_rows h g) as (λ b. are_equal_rows h g ≡ b → (b || has_row g rows) ≡ true → P g) [
      | true ↦ λ is there. subst P (equal_rows h g is) each.0
      | false ↦ λ is there. one_row P g rows each.1 there
    ] refl there

not_next : (b : Bool) (g h : GrantRow) (given : List GrantRow) → are_equal_rows h g ≡ false → has_row g given ≡ false → has_row g (cond b (h ∷ given) given) ≡ false
not_next true g h given other none = ap (λ t. t || has_row g given) other ∙ none
not_next false g h given other none = none

new_stays : (b : Bool) (file given : List GrantRow) (g : GrantRow) → has_row g given ≡ false → has_row g file ≡ true → has_row g (thin_rows b given file) ≡ true
new_stays b [] given g none there = absurd (cc)
new_stays b (h ∷ file) given g none there =
    let next = cond b (h ∷ given) given in
    elim (are_equal_rows h g) as (λ c. are_equal_rows h g ≡ c → (c || has_row g file) ≡ true → has_row g (cond (has_row h given) (thin_rows b given file) (h ∷ thin_rows b next file)) ≡ true) [
      | true ↦ λ is there.
          ap (λ c. has_row g (cond c (thin_rows b given file) (h ∷ thin_rows b next file))) (ap (λ x. has_row x given) (equal_rows h g is) ∙ none)
          ∙ or_left (are_equal_rows h g) (has_row g (thin_rows b next file)) is
      | false ↦ λ is there. elim (has_row h given) as (λ c. has_row g (cond c (thin_rows b given file) (h ∷ thin_rows b next file)) ≡ true) [
        | true ↦ new_stays b file given g none there
        | false ↦ or_right (are_equal_rows h g) (has_row g (thin_rows b next file)) (new_stays b file next g (not_next b g h given is none) there)
      ]
    ] refl there

-- ---- by one place more

goes_on : (ps : List Place) (kept : List Report) (given : List GrantRow) (w : World) (p : Place)
    → thin_from kept given w (ps ++ p ∷ []) ≡ thin_from kept given w ps ++ thin_place (reports_along kept w ps) (rows_along given w ps) (run w ps) p.now p.event
goes_on [] kept given w p = append-nil (thin_place kept given w p.now p.event)
goes_on (q ∷ ps) kept given w p =
    let more = reports_then kept w q.now q.event in
    let rows = rows_then given w q.now q.event in
    let v = after w q.now q.event in
    ap (λ x. thin_place kept given w q.now q.event ++ x) (goes_on ps more rows v p)
    ∙ sym (append_assoc (thin_place kept given w q.now q.event) (thin_from more rows v ps) (thin_place (reports_along more v ps) (rows_along rows v ps) (run v ps) p.now p.event))

module _ (w : World) (ps : List Place) (now : ℕ) where
  pub idle_stays : thin w (ps ++ idle now ∷ []) ≡ thin w ps ++ idle now ∷ []
  idle_stays = goes_on ps [] [] w (idle now)

  pub request_stays : (caller : List ℕ) (call : Call) → thin w (ps ++ place_of now (ask caller call) ∷ []) ≡ thin w ps ++ place_of now (ask caller call) ∷ []
  request_stays caller call = goes_on ps [] [] w (place_of now (ask caller call))

  pub new_report_stays : (r : Report) → (WasAccepted w ps (tell r) → ⊥) → thin w (ps ++ place_of now (tell r) ∷ []) ≡ thin w ps ++ place_of now (tell r) ∷ []
  new_report_stays r never =
      goes_on ps [] [] w (place_of now (tell r))
      ∙ elim (has_report r (reports_along [] w ps)) as (λ b. has_report r (reports_along [] w ps) ≡ b → thin w ps ++ cond b [] (place_of now (tell r) ∷ []) ≡ thin w ps ++ place_of now (tell r) ∷ []) [
        | true ↦ λ is. absurd (never (came ps [] w r refl is))
        | false ↦ λ is. refl
      ] refl

  pub repeat_goes : (r : Report) → WasAccepted w ps (tell r) → thin w (ps ++ place_of now (tell r) ∷ []) ≡ thin w ps
  repeat_goes r was =
      goes_on ps [] [] w (place_of now (tell r))
      ∙ ap (λ b. thin w ps ++ cond b [] (place_of now (tell r) ∷ [])) (accepted_along w ps r was)
      ∙ append-nil (thin w ps)

  has_new : (file : List GrantRow) (b : Bool) → HasNewRows w ps file (thin_rows b (rows_along [] w ps) file)
  has_new file b g = (
    λ has. (
      one_row (λ x. has_row x file ≡ true) g (thin_rows b (rows_along [] w ps) file) (rows_among b file (rows_along [] w ps)) has,
      λ was. one_row (IsOtherRow g) g (thin_rows b (rows_along [] w ps) file) (other_rows b file (rows_along [] w ps) g (was_given w ps g was)) has refl,
    ),
    λ both. elim (has_row g (rows_along [] w ps)) as (λ c. has_row g (rows_along [] w ps) ≡ c → has_row g (thin_rows b (rows_along [] w ps) file) ≡ true) [
      | true ↦ λ is. absurd (both.1 (granted ps [] w g refl is))
      | false ↦ λ is. new_stays b file (rows_along [] w ps) g is both.0
    ] refl,
  )

  pub file_stays : (file : List GrantRow) → (left : List GrantRow) × (thin w (ps ++ place_of now (grant file) ∷ []) ≡ thin w ps ++ place_of now (grant left) ∷ []) × HasNewRows w ps file left
  file_stays file =
      let b = is_accepted (run w ps) now (grant file) in
      (thin_rows b (rows_along [] w ps) file, goes_on ps [] [] w (place_of now (grant file)), has_new file b)
