-- A run without repeats has none.
use Rattle.std.proofs.Common.{◌≡◌, ℕ, List, [], ◌∷◌, ◌++◌, refl, ap, sym, ◌∙◌, subst, append_assoc, Bool, true, false, cond}
use Rattle.std.specs.Prelude.{Option, Some, None, not, ◌&&◌, ◌||◌, ⊤}
use Rattle.std.specs.List.{AllByRecursion as Each}
use Rattle.std.proofs.lemmas.List.Folds.{list_any-append}
use Rattle.queue_types.specs.Event.{Event, ask, tell, grant, expire, kind_number}
use Rattle.queue_core.specs.Runs.{Place, IsPlace, after, run}
use Rattle.queue_core.specs.Sound.{IsSound}
use Rattle.queue_core.specs.World.{World}
use Rattle.queue_types.specs.declared.event.GrantRow.{GrantRow}
use Rattle.queue_types.specs.declared.event.Report.{Report}
use Rattle.queue_laws.specs.Alike.{place_of}
use Rattle.queue_laws.specs.Before.{WasAccepted, WasGranted}
use Rattle.queue_laws.specs.Replies.{refuses}
use Rattle.queue_laws.specs.Steps.{answer}
use Rattle.queue_laws.specs.Thin.{are_equal_reports, are_equal_rows, has_report, has_row, is_accepted, reports_then, rows_then, thin_rows, thin_place, thin_from, thin}
use Rattle.queue_laws.proofs.Again.{KeepsSound}
use Rattle.queue_laws.proofs.Base.{itself, own_key, each_map}
use Rattle.queue_laws.proofs.Thinned.{Holds, each_append, then_holds, report_stays, thin_file, thin_accepted}

pub or_left : (b c : Bool) → b ≡ true → (b || c) ≡ true
or_left b c e = ap (λ x. x || c) e

pub or_right : (b c : Bool) → c ≡ true → (b || c) ≡ true
or_right true c e = refl
or_right false c e = e

pub clash : (A : Type 0) (b : Bool) → b ≡ false → b ≡ true → A
clash A b off on = let one : false ≡ true = sym off ∙ on in absurd (cc)

-- what holds of each holds of one
at_last : {A : Type 0} (P : A → Type 0) (xs : List A) (x : A) (ys : List A) → Each P (xs ++ x ∷ ys) → P x
at_last P [] x ys each = each.0
at_last P (z ∷ xs) x ys each = at_last P xs x ys each.1

-- ---- a report that is among those kept comes no more

own_report : (r : Report) → are_equal_reports r r ≡ true
own_report r = λ i. itself r.job i && itself r.seq i && itself (kind_number r.kind) i && itself r.count i

abbrev IsOther : Report → Place → Type 0
IsOther r p = p.event ≡ Some (tell r) → ⊥

pub still_among : (kept : List Report) (w : World) (now : ℕ) (o : Option Event) (r : Report) → has_report r kept ≡ true → has_report r (reports_then kept w now o) ≡ true
still_among kept w now None r e = e
still_among kept w now (Some (ask caller call)) r e = e
still_among kept w now (Some (tell s)) r e = elim (is_accepted w now (tell s)) as (λ b. has_report r (cond b (s ∷ kept) kept) ≡ true) [
  | true ↦ or_right (are_equal_reports s r) (has_report r kept) e
  | false ↦ e
]
still_among kept w now (Some (grant file)) r e = e
still_among kept w now (Some expire) r e = e

pub now_among : (kept : List Report) (w : World) (now : ℕ) (r : Report) → refuses (answer w now (tell r)) ≡ false → has_report r (reports_then kept w now (Some (tell r))) ≡ true
now_among kept w now r accepted = ap (λ b. has_report r (cond (not b) (r ∷ kept) kept)) accepted ∙ or_left (are_equal_reports r r) (has_report r kept) (own_report r)

other_here : (kept : List Report) (given : List GrantRow) (w : World) (now : ℕ) (o : Option Event) (r : Report) → has_report r kept ≡ true → Each (IsOther r) (thin_place kept given w now o)
other_here kept given w now None r here = (λ e. cc, tt)
other_here kept given w now (Some (ask caller call)) r here = (λ e. cc, tt)
other_here kept given w now (Some (tell s)) r here =
    elim (has_report s kept) as (λ b. has_report s kept ≡ b → Each (IsOther r) (cond b [] (place_of now (tell s) ∷ []))) [
      | true ↦ λ is. tt
      | false ↦ λ is. (λ e. let same : s ≡ r = cc in clash ⊥ (has_report s kept) is (ap (λ t. has_report t kept) same ∙ here), tt)
    ] refl
other_here kept given w now (Some (grant file)) r here = (λ e. cc, tt)
other_here kept given w now (Some expire) r here = (λ e. cc, tt)

others : (ps : List Place) (kept : List Report) (given : List GrantRow) (w : World) (r : Report) → has_report r kept ≡ true → Each (IsOther r) (thin_from kept given w ps)
others [] kept given w r here = tt
others (p ∷ ps) kept given w r here =
    let more = reports_then kept w p.now p.event in
    let rows = rows_then given w p.now p.event in
    let v = after w p.now p.event in
    each_append (IsOther r) (thin_place kept given w p.now p.event) (thin_from more rows v ps) (other_here kept given w p.now p.event r here) (others ps more rows v r (still_among kept w p.now p.event r here))

-- ---- so with a row that was granted

pub own_row : (g : GrantRow) → are_equal_rows g g ≡ true
own_row g = λ i. own_key g.batch g.batch refl i && own_key g.account g.account refl i && itself g.pages i

abbrev pub IsOtherRow : GrantRow → GrantRow → Type 0
IsOtherRow g h = h ≡ g → ⊥

among_next : (b : Bool) (g h : GrantRow) (given : List GrantRow) → has_row g given ≡ true → has_row g (cond b (h ∷ given) given) ≡ true
among_next true g h given e = or_right (are_equal_rows h g) (has_row g given) e
among_next false g h given e = e

pub other_rows : (b : Bool) (file given : List GrantRow) (g : GrantRow) → has_row g given ≡ true → Each (IsOtherRow g) (thin_rows b given file)
other_rows b [] given g here = tt
other_rows b (h ∷ file) given g here =
    let next = cond b (h ∷ given) given in
    elim (has_row h given) as (λ t. has_row h given ≡ t → Each (IsOtherRow g) (cond t (thin_rows b given file) (h ∷ thin_rows b next file))) [
      | true ↦ λ is. other_rows b file given g here
      | false ↦ λ is. (λ same. clash ⊥ (has_row h given) is (ap (λ x. has_row x given) same ∙ here), other_rows b file next g (among_next b g h given here))
    ] refl

pub still_given : (given : List GrantRow) (w : World) (now : ℕ) (o : Option Event) (g : GrantRow) → has_row g given ≡ true → has_row g (rows_then given w now o) ≡ true
still_given given w now None g e = e
still_given given w now (Some (ask caller call)) g e = e
still_given given w now (Some (tell r)) g e = e
still_given given w now (Some (grant file)) g e = elim (is_accepted w now (grant file)) as (λ b. has_row g (cond b (file ++ given) given) ≡ true) [
  | true ↦ list_any-append (λ h. are_equal_rows h g) file given ∙ or_right (has_row g file) (has_row g given) e
  | false ↦ e
]
still_given given w now (Some expire) g e = e

pub now_given : (given : List GrantRow) (w : World) (now : ℕ) (file : List GrantRow) (g : GrantRow) → is_accepted w now (grant file) ≡ true → has_row g file ≡ true → has_row g (rows_then given w now (Some (grant file))) ≡ true
now_given given w now file g accepted there =
    ap (λ b. has_row g (cond b (file ++ given) given)) accepted
    ∙ list_any-append (λ h. are_equal_rows h g) file given
    ∙ or_left (has_row g file) (has_row g given) there

abbrev HasNoRow : GrantRow → Place → Type 0
HasNoRow g p = (before behind : List GrantRow) → p.event ≡ Some (grant (before ++ g ∷ behind)) → ⊥

no_row_here : (kept : List Report) (given : List GrantRow) (w : World) (now : ℕ) (o : Option Event) (g : GrantRow) → has_row g given ≡ true → Each (HasNoRow g) (thin_place kept given w now o)
no_row_here kept given w now None g here = (λ before behind e. cc, tt)
no_row_here kept given w now (Some expire) g here = (λ before behind e. cc, tt)
no_row_here kept given w now (Some (ask caller call)) g here = (λ before behind e. cc, tt)
no_row_here kept given w now (Some (tell s)) g here = elim (has_report s kept) as (λ b. Each (HasNoRow g) (cond b [] (place_of now (tell s) ∷ []))) [
  | true ↦ tt
  | false ↦ (λ before behind e. cc, tt)
]
no_row_here kept given w now (Some (grant file)) g here = (λ before behind e. in_file (thin_rows (is_accepted w now (grant file)) given file) before behind (other_rows (is_accepted w now (grant file)) file given g here) e, tt)
  where
    in_file : (left before behind : List GrantRow) → Each (IsOtherRow g) left → Some (grant left) ≡ Some (grant (before ++ g ∷ behind)) → ⊥
    in_file left before behind each e = let same : left ≡ before ++ g ∷ behind = cc in at_last (IsOtherRow g) before g behind (subst (Each (IsOtherRow g)) same each) refl

no_row : (ps : List Place) (kept : List Report) (given : List GrantRow) (w : World) (g : GrantRow) → has_row g given ≡ true → Each (HasNoRow g) (thin_from kept given w ps)
no_row [] kept given w g here = tt
no_row (p ∷ ps) kept given w g here =
    let more = reports_then kept w p.now p.event in
    let rows = rows_then given w p.now p.event in
    let v = after w p.now p.event in
    each_append (HasNoRow g) (thin_place kept given w p.now p.event) (thin_from more rows v ps) (no_row_here kept given w p.now p.event g here) (no_row ps more rows v g (still_given given w p.now p.event g here))

-- ---- the rows that are left of a file

abbrev AreApart : List GrantRow → Type 0
AreApart [] = ⊤
AreApart (g ∷ gs) = Each (IsOtherRow g) gs × AreApart gs

-- of an accepted file no two are equal
rows_apart : (file given : List GrantRow) → AreApart (thin_rows true given file)
rows_apart [] given = tt
rows_apart (h ∷ file) given = elim (has_row h given) as (λ t. AreApart (cond t (thin_rows true given file) (h ∷ thin_rows true (h ∷ given) file))) [
  | true ↦ rows_apart file given
  | false ↦ (other_rows true file (h ∷ given) h (or_left (are_equal_rows h h) (has_row h given) (own_row h)), rows_apart file (h ∷ given))
]

one_apart : (before : List GrantRow) (g : GrantRow) (behind : List GrantRow) → AreApart (before ++ g ∷ behind) → Each (IsOtherRow g) behind
one_apart [] g behind apart = apart.0
one_apart (h ∷ before) g behind apart = one_apart before g behind apart.1

-- each is of the file
pub rows_among : (b : Bool) (file given : List GrantRow) → Each (λ g. has_row g file ≡ true) (thin_rows b given file)
rows_among b [] given = tt
rows_among b (h ∷ file) given =
    let next = cond b (h ∷ given) given in
    elim (has_row h given) as (λ t. Each (λ g. has_row g (h ∷ file) ≡ true) (cond t (thin_rows b given file) (h ∷ thin_rows b next file))) [
      | true ↦ each_map (λ g. has_row g file ≡ true) (λ g. has_row g (h ∷ file) ≡ true) (thin_rows b given file) (λ g e. or_right (are_equal_rows h g) (has_row g file) e) (rows_among b file given)
      | false ↦ (
        or_left (are_equal_rows h h) (has_row h file) (own_row h),
        each_map (λ g. has_row g file ≡ true) (λ g. has_row g (h ∷ file) ≡ true) (thin_rows b next file) (λ g e. or_right (are_equal_rows h g) (has_row g file) e) (rows_among b file next),
      )
    ]

-- ---- what is accepted in the run without repeats comes once

abbrev IsLast : World → ℕ → Option Event → List Place → Type 0
IsLast w now o ps = (r : Report) → o ≡ Some (tell r) → refuses (answer w now (tell r)) ≡ false → Each (IsOther r) ps

abbrev HasLast : World → ℕ → Option Event → List Place → Type 0
HasLast w now o ps = (before behind : List GrantRow) (g : GrantRow) → o ≡ Some (grant (before ++ g ∷ behind)) → refuses (answer w now (grant (before ++ g ∷ behind))) ≡ false → Each (IsOtherRow g) behind × Each (HasNoRow g) ps

abbrev AreLast : World → List Place → Type 0
AreLast w [] = ⊤
AreLast w (p ∷ ps) = IsLast w p.now p.event ps × HasLast w p.now p.event ps × AreLast (after w p.now p.event) ps

module _ (kept : List Report) (given : List GrantRow) (w : World) (now : ℕ) (holds : Holds kept given w) where
  report_last : (s : Report) (ps : List Place) → ((r : Report) → has_report r (reports_then kept w now (Some (tell s))) ≡ true → Each (IsOther r) ps) → IsLast w now (Some (tell s)) ps
  report_last s ps none r e accepted =
      let same : s ≡ r = cc in
      subst (λ x. Each (IsOther x) ps) same (none s (now_among kept w now s (ap (λ x. refuses (answer w now (tell x))) same ∙ accepted)))

  file_last : (file : List GrantRow) (ps : List Place) → ((g : GrantRow) → has_row g (rows_then given w now (Some (grant file))) ≡ true → Each (HasNoRow g) ps) → (left : List GrantRow) → left ≡ thin_rows (is_accepted w now (grant file)) given file → HasLast w now (Some (grant left)) ps
  file_last file ps none left is before behind g e accepted =
      let same : left ≡ before ++ g ∷ behind = cc in
      let all = sym is ∙ same in
      let also = ap (λ x. not (refuses (answer w now (grant x)))) all ∙ ap not accepted in
      let on : is_accepted w now (grant file) ≡ true = thin_accepted w (is_accepted w now (grant file)) file given now holds.rows ∙ also in
      let apart = subst AreApart all (subst (λ b. AreApart (thin_rows b given file)) (sym on) (rows_apart file given)) in
      let there = at_last (λ x. has_row x file ≡ true) before g behind (subst (Each (λ x. has_row x file ≡ true)) all (rows_among (is_accepted w now (grant file)) file given)) in
      (one_apart before g behind apart, none g (now_given given w now file g on there))

  last_here : (o : Option Event) (ps : List Place) → IsSound w
      → ((r : Report) → has_report r (reports_then kept w now o) ≡ true → Each (IsOther r) ps) → ((g : GrantRow) → has_row g (rows_then given w now o) ≡ true → Each (HasNoRow g) ps)
      → AreLast (after w now o) ps → AreLast w (thin_place kept given w now o ++ ps)
  last_here None ps sound none no_row rest = (λ r e. absurd (cc), λ before behind g e. absurd (cc), rest)
  last_here (Some (ask caller call)) ps sound none no_row rest = (λ r e. absurd (cc), λ before behind g e. absurd (cc), rest)
  last_here (Some (tell s)) ps sound none no_row rest =
      elim (has_report s kept) as (λ b. has_report s kept ≡ b → AreLast w (cond b [] (place_of now (tell s) ∷ []) ++ ps)) [
        | true ↦ λ is. subst (λ v. AreLast v ps) (report_stays w now s kept sound is holds.reports) rest
        | false ↦ λ is. (report_last s ps none, λ before behind g e. absurd (cc), rest)
      ] refl
  last_here (Some (grant file)) ps sound none no_row rest =
      let left = thin_rows (is_accepted w now (grant file)) given file in
      (λ r e. absurd (cc), file_last file ps no_row left refl, subst (λ v. AreLast v ps) (thin_file w (is_accepted w now (grant file)) file given now holds.rows) rest)
  last_here (Some expire) ps sound none no_row rest = (λ r e. absurd (cc), λ before behind g e. absurd (cc), rest)

all_last : KeepsSound → (ps : List Place) (kept : List Report) (given : List GrantRow) (w : World) → IsSound w → Each IsPlace ps → Holds kept given w → AreLast w (thin_from kept given w ps)
all_last keeps [] kept given w sound places holds = tt
all_last keeps (p ∷ ps) kept given w sound places holds =
    let more = reports_then kept w p.now p.event in
    let rows = rows_then given w p.now p.event in
    let v = after w p.now p.event in
    last_here kept given w p.now holds p.event (thin_from more rows v ps) sound (λ r here. others ps more rows v r here) (λ g here. no_row ps more rows v g here)
    (all_last keeps ps more rows v (keeps w (p ∷ []) sound (places.0, tt)) places.1 (then_holds kept given w p.now p.event holds))

thin_last : KeepsSound → (w : World) (ps : List Place) → IsSound w → Each IsPlace ps → AreLast w (thin w ps)
thin_last keeps w ps sound places = all_last keeps ps [] [] w sound places (record { reports = tt; rows = tt })

one_last : (front : List Place) (w : World) (p : Place) (back : List Place) → AreLast w (front ++ p ∷ back) → IsLast (run w front) p.now p.event back × HasLast (run w front) p.now p.event back
one_last [] w p back all = (all.0, all.1)
one_last (q ∷ front) w p back all = one_last front (after w q.now q.event) p back all.2

longer : (xs front back before behind : List Place) (p q : Place) → xs ≡ front ++ q ∷ back → front ≡ before ++ p ∷ behind → xs ≡ before ++ p ∷ (behind ++ q ∷ back)
longer xs front back before behind p q is was = is ∙ ap (λ x. x ++ q ∷ back) was ∙ append_assoc before (p ∷ behind) (q ∷ back)

module _ (keeps : KeepsSound) (w : World) (ps front back : List Place) (now : ℕ) (sound : IsSound w) (places : Each IsPlace ps) where
  -- no report that is left was accepted before
  pub no_report_again : (r : Report) → thin w ps ≡ front ++ place_of now (tell r) ∷ back → WasAccepted w front (tell r) → ⊥
  no_report_again r is was =
      let p = place_of was.now (tell r) in
      let q = place_of now (tell r) in
      let all = subst (AreLast w) (longer (thin w ps) front back was.front was.back p q is was.is) (thin_last keeps w ps sound places) in
      at_last (IsOther r) was.back q back ((one_last was.front w p (was.back ++ q ∷ back) all).0 r refl was.accepted) refl

  -- no row that is left was granted before
  pub no_row_again : (before behind : List GrantRow) (g : GrantRow) → thin w ps ≡ front ++ place_of now (grant (before ++ g ∷ behind)) ∷ back → WasGranted w front g → ⊥
  no_row_again before behind g is was =
      let p = place_of was.file.now (grant (was.before ++ g ∷ was.behind)) in
      let q = place_of now (grant (before ++ g ∷ behind)) in
      let all = subst (AreLast w) (longer (thin w ps) front back was.file.front was.file.back p q is was.file.is) (thin_last keeps w ps sound places) in
      at_last (HasNoRow g) was.file.back q back ((one_last was.file.front w p (was.file.back ++ q ∷ back) all).1 was.before was.behind g refl was.file.accepted).1 before behind refl

  -- no file that is left and accepted has a row twice
  pub no_row_twice : (before between behind : List GrantRow) (g : GrantRow) → thin w ps ≡ front ++ place_of now (grant (before ++ g ∷ (between ++ g ∷ behind))) ∷ back
      → refuses (answer (run w front) now (grant (before ++ g ∷ (between ++ g ∷ behind)))) ≡ true
  no_row_twice before between behind g is =
      let q = place_of now (grant (before ++ g ∷ (between ++ g ∷ behind))) in
      let last = one_last front w q back (subst (AreLast w) is (thin_last keeps w ps sound places)) in
      elim (refuses (answer (run w front) now (grant (before ++ g ∷ (between ++ g ∷ behind))))) as (λ b. refuses (answer (run w front) now (grant (before ++ g ∷ (between ++ g ∷ behind)))) ≡ b → b ≡ true) [
        | true ↦ λ accepted. refl
        | false ↦ λ accepted. absurd (at_last (IsOtherRow g) between g behind (last.1 before (between ++ g ∷ behind) g refl accepted).0 refl)
      ] refl
