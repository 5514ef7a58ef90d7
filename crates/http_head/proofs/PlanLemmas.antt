-- The checks of a head in code are those of the table.
use Rattle.std.proofs.Common.{◌≡◌, ℕ, ◌≤◌, List, [], ◌∷◌, Bool, true, false, ◌&&◌, Option, Some, None, min, refl, sym, ap, ◌∙◌, subst, arith, take, map}
use Rattle.std.specs.Prelude.{◌||◌, nat_lt, ◌==◌, codes, if◌then◌else◌, option_map, find, Result, Ok, Err, IfOk}
use Rattle.std.proofs.lemmas.Bool.{ltb-false}
use Rattle.std.proofs.lemmas.Bool.Decides.{nat_tests}
use Rattle.httparse.specs.Grammar.{RequestHead}
use Rattle.httparse.specs.declared.spans.HeaderSpan.{HeaderSpan}
use Rattle.httparse.specs.declared.spans.RequestSpans.{RequestSpans}
use Rattle.httparse.specs.Spans.{span_bytes}
use Rattle.http_head.specs.Found.{IsHeadAt}
use Rattle.httparse.specs.declared.spans.Span.{Span}
use Rattle.http_head.specs.Fields.{values}
use Rattle.http_head.specs.Framing.{misframed, framing, capped, size_of}
use Rattle.http_head.specs.Limits.{content_limit}
use Rattle.http_head.specs.Checks.{Head, head_of, refusal_of, plan_of, checked, rows, unrouted, first_that_applies, is_misframed, framing_of, target_in, is_typed, asks}
use Rattle.http_head.specs.Planned.{said, IsPlanOf, fields_at}
use Rattle.http_head.specs.declared.end.Refusal.{Refusal}
use Rattle.http_head.specs.declared.plan.Plan.{Plan}
use Rattle.http_head.specs.declared.target.Target.{Target}
use Rattle.http_head.specs.declared.framing.Framing.{Framing}
use Rattle.http_head.specs.declared.framing.Framing.TheVariants.{Nothing, Sized, Chunked}

pub refused_unrouted : (h : Head) (m : Bool) (t : Option Target) (r : Refusal) → t ≡ target_in h → t ≡ None → m ≡ is_misframed h → Some r ≡ first_that_applies (unrouted m) → refusal_of h ≡ Some r
unfolding refusal_of
refused_unrouted h m t r t_is none m_is r_is = ap (checked h) (sym t_is ∙ none) ∙ ap (λ b. first_that_applies (unrouted b)) (sym m_is) ∙ sym r_is

some_size : (n : ℕ) → nat_lt 0 (min n 16777217) ≡ nat_lt 0 n
some_size n = grind (arith, nat_tests)

over_size : (n : ℕ) → nat_lt 16777216 (min n 16777217) ≡ nat_lt 16777216 n
over_size n = grind (arith, nat_tests)

capped_rows : (t : Target) (g : Framing) (method : List ℕ) (typed : Bool) → first_that_applies (rows t false (capped g) method typed) ≡ first_that_applies (rows t false g method typed)
capped_rows t Nothing method typed = refl
capped_rows t Chunked method typed = refl
capped_rows t (Sized n) method typed = rw (some_size n, over_size n) refl

same_rows : (t : Target) (b : Bool) (f g : Framing) (method : List ℕ) (typed : Bool) → (b ≡ false → f ≡ capped g)
    → first_that_applies (rows t b f method typed) ≡ first_that_applies (rows t b g method typed)
same_rows t true f g method typed h = refl
same_rows t false f g method typed h = ap (λ x. first_that_applies (rows t false x method typed)) (h refl) ∙ capped_rows t g method typed

-- the row that applies, by the code's own values
pub refused_routed : (h : Head) (t : Target) (u : Option Target) (m : Bool) (f : Framing) (method : List ℕ) (typed : Bool) (r : Option Refusal)
    → u ≡ target_in h → u ≡ Some t → m ≡ is_misframed h → (is_misframed h ≡ false → f ≡ capped (framing_of h)) → method ≡ h.method → typed ≡ (is_typed t h)
    → r ≡ first_that_applies (rows t m f method typed) → refusal_of h ≡ r
unfolding refusal_of
refused_routed h t u m f method typed r u_is some m_is f_is method_is typed_is r_is =
    ap (checked h) (sym u_is ∙ some)
    ∙ sym (same_rows t (is_misframed h) f (framing_of h) h.method (is_typed t h) f_is)
    ∙ sym (r_is ∙ ap (λ b. first_that_applies (rows t b f method typed)) m_is
    ∙ ap (λ x. first_that_applies (rows t (is_misframed h) f x typed)) method_is
    ∙ ap (λ b. first_that_applies (rows t (is_misframed h) f h.method b)) typed_is)

if_none : (b : Bool) (row : Bool × Refusal) (o : Option (Bool × Refusal)) → option_map (λ r. r.1) (if b then Some row else o) ≡ None → (b ≡ false) × (option_map (λ r. r.1) o ≡ None)
if_none true row o e = absurd (cc)
if_none false row o e = (refl, e)

abbrev NoneApply : List (Bool × Refusal) → Type 0
NoneApply [] = Unit {0}
NoneApply (row ∷ table) = (row.0 ≡ false) × NoneApply table

none_applies : (table : List (Bool × Refusal)) → first_that_applies table ≡ None → NoneApply table
none_applies [] e = tt
none_applies (row ∷ table) e = let f = if_none row.0 row (find (λ r. r.0) table) e in (f.0, none_applies table f.1)

fits_cap : (n : ℕ) → nat_lt 16777216 n ≡ false → min n 16777217 ≡ n
fits_cap n h = grind (arith, nat_tests)

uncapped : (t : Target) (g : Framing) (method : List ℕ) (typed : Bool) → first_that_applies (rows t false g method typed) ≡ None → capped g ≡ g
uncapped t Nothing method typed e = refl
uncapped t Chunked method typed e = refl
uncapped t (Sized n) method typed e = ap Sized (fits_cap n (none_applies (rows t false (Sized n) method typed) e).1.1.1.1.0)

passes_by : (t : Target) (b : Bool) (g : Framing) (method : List ℕ) (typed : Bool) → first_that_applies (rows t b g method typed) ≡ None → (b ≡ false) × (capped g ≡ g)
passes_by t true g method typed e = absurd (cc)
passes_by t false g method typed e = (refl, uncapped t g method typed e)

-- where no row applies the framing is what the head tells
pub framed : (h : Head) (t : Target) (f : Framing) → target_in h ≡ Some t → (is_misframed h ≡ false → f ≡ capped (framing_of h)) → refusal_of h ≡ None → f ≡ framing_of h
unfolding refusal_of
framed h t f t_is f_is passes =
    let e = passes_by t (is_misframed h) (framing_of h) h.method (is_typed t h) (sym (ap (checked h) t_is) ∙ passes) in
    f_is e.0 ∙ e.1

pub planned : (h : Head) (t : Target) (u : Option Target) (m : Bool) (f : Framing) (method : List ℕ) (typed expects closes : Bool) (r : Option Refusal)
    → u ≡ target_in h → u ≡ Some t → m ≡ is_misframed h → (is_misframed h ≡ false → f ≡ capped (framing_of h)) → method ≡ h.method → typed ≡ (is_typed t h)
    → r ≡ first_that_applies (rows t m f method typed) → r ≡ None
    → expects ≡ ((h.minor == 1) && asks (codes "expect") (codes "100-continue") h) → closes ≡ ((h.minor == 0) || asks (codes "connection") (codes "close") h)
    → (refusal_of h ≡ None) × (record { target = t; framing = f; expects = expects; closes = closes } ≡ plan_of h)
unfolding plan_of
planned h t u m f method typed expects closes r u_is some m_is f_is method_is typed_is r_is none expects_is closes_is =
    let passes : refusal_of h ≡ None = refused_routed h t u m f method typed r u_is some m_is f_is method_is typed_is r_is ∙ none in
    let there : target_in h ≡ Some t = sym u_is ∙ some in
    let told = framed h t f there f_is passes in
    (passes, rw (there, sym told, sym expects_is, sym closes_is) refl)

-- ---- the head that the spans cover

pub said_is : (come : List ℕ) (headers : List HeaderSpan) (spans : RequestSpans) (h : RequestHead) → IsHeadAt come headers spans h → said come headers spans ≡ head_of h
said_is come headers spans h is = rw (is.at.method, is.at.path, is.at.version, is.at.fields) refl

pub plan_is : (come : List ℕ) (headers : List HeaderSpan) (spans : RequestSpans) (result : Result Plan Refusal) → IsPlanOf (said come headers spans) result
    → (h : RequestHead) → IsHeadAt come headers spans h → IsPlanOf (head_of h) result
plan_is come headers spans result p h is = subst (λ k. IsPlanOf k result) (said_is come headers spans h is) p

-- the values that the code found are those of the head
pub values_said : (come : List ℕ) (headers fields : List HeaderSpan) (n : ℕ) (name : List ℕ) (slice items : List Span) → slice ≡ items
    → map (span_bytes come) items ≡ values name (fields_at come fields) → fields ≡ take n headers → map (span_bytes come) slice ≡ values name (fields_at come (take n headers))
values_said come headers fields n name slice items e f g = ap (map (span_bytes come)) e ∙ f ∙ ap (λ hs. values name (fields_at come hs)) g

pub misframed_said : (C D L M : List (List ℕ)) (m : Bool) → m ≡ misframed C L → C ≡ D → L ≡ M → m ≡ misframed D M
misframed_said C D L M m h p q = h ∙ ap (λ c. misframed c L) p ∙ ap (misframed D) q

pub framing_said : (C D L M : List (List ℕ)) (f : Framing) → C ≡ D → L ≡ M → (misframed C L ≡ false → f ≡ capped (framing C L)) → misframed D M ≡ false → f ≡ capped (framing D M)
framing_said C D L M f p q h =
    subst (λ (l : List (List ℕ)). misframed D l ≡ false → f ≡ capped (framing D l)) q (subst (λ (c : List (List ℕ)). misframed c L ≡ false → f ≡ capped (framing c L)) p h)

-- ---- the size of a body

unrouted_some : (b : Bool) → first_that_applies (unrouted b) ≡ None → ⊥
unrouted_some true e = absurd (cc)
unrouted_some false e = absurd (cc)

routed_fits : (h : Head) (t : Option Target) → checked h t ≡ None → size_of (framing_of h) ≤ content_limit
routed_fits h None e = absurd (unrouted_some (is_misframed h) e)
routed_fits h (Some t) e =
    ltb-false content_limit (size_of (framing_of h)) (none_applies (rows t (is_misframed h) (framing_of h) h.method (is_typed t h)) e).1.1.1.1.0

passed_fits : (h : Head) → refusal_of h ≡ None → size_of (framing_of h) ≤ content_limit
unfolding refusal_of
passed_fits h e = routed_fits h (target_in h) e

plan_fits : (h : Head) → refusal_of h ≡ None → size_of (plan_of h).framing ≤ content_limit
unfolding plan_of
plan_fits h e = passed_fits h e

-- the plan of a head that passes the checks
plan_fits_of : (h : Head) (plan : Plan) → refusal_of h ≡ None → plan ≡ plan_of h → size_of plan.framing ≤ content_limit
plan_fits_of h plan passes e = subst (λ (p : Plan). size_of p.framing ≤ content_limit) (sym e) (plan_fits h passes)

pub fits_by : (h : Head) (result : Result Plan Refusal) → IsPlanOf h result → IfOk result (λ plan. size_of plan.framing ≤ content_limit)
fits_by h (Ok plan) p = plan_fits_of h plan p.0 p.1
fits_by h (Err r) p = tt
