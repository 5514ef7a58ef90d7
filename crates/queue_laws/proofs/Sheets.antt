-- What the device and the office are shown of a caller depends on what is the caller's own alone.
use Rattle.std.proofs.Common.{◌≡◌, ℕ, ◌<◌, ◌+◌, List, [], ◌∷◌, refl, ap, sym, ◌∙◌, arith, Bool, true, false, cond}
use Rattle.std.specs.Prelude.{Some, nat_eq, bytes_eq, filter, find, option_map, sum_by, ◌&&◌, ◌||◌}
use Rattle.std.proofs.lemmas.List.Sums.{sum_by-cons}
use Rattle.std.proofs.lemmas.Bool.{ne_eqb}
use Rattle.queue_types.specs.Job.{state, owed}
use Rattle.queue_core.specs.Shown.{charged_to, is_charged, pending_in, pending_jobs, document_of, document_at, sheet_jobs, sheet_of}
use Rattle.queue_core.specs.Sound.{IsSound, Rise, reserved, printed}
use Rattle.queue_core.specs.World.{World, Entry, rows, granted_in, has_number}
use Rattle.queue_types.specs.declared.job.Job.{Job}
use Rattle.queue_laws.specs.Jobs.{is_owned_by, has_job}
use Rattle.queue_laws.specs.Own.{Own, own, own_jobs}
use Rattle.queue_laws.proofs.Base.{rows_of, equal}
use Rattle.queue_laws.proofs.Seen.{filter_own}

-- ---- sums and filters over a caller's own jobs

sum_own : (u : List ℕ) (f : Job → ℕ) (es : List Entry) → sum_by (λ j. cond (bytes_eq j.owner u) (f j) 0) (rows_of es) ≡ sum_by (λ j. cond (bytes_eq j.owner u) (f j) 0) (rows_of (own_jobs u es))
sum_own u f [] = refl
sum_own u f (e ∷ es) =
    let one : Job → ℕ = λ j. cond (bytes_eq j.owner u) (f j) 0 in
    let rest : sum_by one (rows_of es) ≡ sum_by one (rows_of (own_jobs u es)) = sum_own u f es in
    sum_by-cons one e.row (rows_of es)
    ∙ elim (bytes_eq e.row.owner u) as (λ b. bytes_eq e.row.owner u ≡ b → cond b (f e.row) 0 + sum_by one (rows_of es) ≡ sum_by one (rows_of (cond b (e ∷ own_jobs u es) (own_jobs u es)))) [
      | true ↦ λ is.
          ap (λ n. f e.row + n) rest
          ∙ ap (λ b. cond b (f e.row) 0 + sum_by one (rows_of (own_jobs u es))) (sym is)
          ∙ sym (sum_by-cons one e.row (rows_of (own_jobs u es)))
      | false ↦ λ is. omega arith
    ] refl

filter_both : (p q : Job → Bool) (js : List Job) → filter p (filter q js) ≡ filter (λ j. p j && q j) js
filter_both p q [] = refl
filter_both p q (j ∷ js) =
    let rest : filter p (filter q js) ≡ filter (λ j. p j && q j) js = filter_both p q js in
    elim (q j) as (λ b. filter p (cond b (j ∷ filter q js) (filter q js)) ≡ cond (p j && b) (j ∷ filter (λ j. p j && q j) js) (filter (λ j. p j && q j) js)) [
      | true ↦ elim (p j) as (λ b. cond b (j ∷ filter p (filter q js)) (filter p (filter q js)) ≡ cond (b && true) (j ∷ filter (λ j. p j && q j) js) (filter (λ j. p j && q j) js)) [ true ↦ ap (λ t. j ∷ t) rest | false ↦ rest ]
      | false ↦ elim (p j) as (λ b. filter p (filter q js) ≡ cond (b && false) (j ∷ filter (λ j. p j && q j) js) (filter (λ j. p j && q j) js)) [ true ↦ rest | false ↦ rest ]
    ]

-- ---- a job of the caller's own

no_job : (u : List ℕ) (n first next : ℕ) (es : List Entry) → n < first → Rise first es next → has_job u n (rows_of es) ≡ false
no_job u n first next [] low rise = refl
no_job u n first next (e ∷ es) low rise =
    let least = rise.0 in
    ap (λ t. (t && bytes_eq e.row.owner u) || has_job u n (rows_of es)) (ne_eqb e.row.number n (λ same. omega arith))
    ∙ no_job u n (e.row.number + 1) next es (omega arith) rise.1

find_own : (u : List ℕ) (n first next : ℕ) (es : List Entry) → Rise first es next → has_job u n (rows_of es) ≡ true → find (λ (e : Entry). nat_eq e.row.number n) es ≡ find (λ (e : Entry). nat_eq e.row.number n) (own_jobs u es)
find_own u n first next [] rise has = refl
find_own u n first next (e ∷ es) rise has =
    let named : Entry → Bool = λ (e : Entry). nat_eq e.row.number n in
    elim (bytes_eq e.row.owner u) as (λ b. ((named e && b) || has_job u n (rows_of es)) ≡ true → cond (named e) (Some e) (find named es) ≡ find named (cond b (e ∷ own_jobs u es) (own_jobs u es))) [
      | true ↦ elim (named e) as (λ t. ((t && true) || has_job u n (rows_of es)) ≡ true → cond t (Some e) (find named es) ≡ cond t (Some e) (find named (own_jobs u es))) [
        | true ↦ λ has. refl
        | false ↦ λ has. find_own u n (e.row.number + 1) next es rise.1 has
      ]
      | false ↦ elim (named e) as (λ t. named e ≡ t → ((t && false) || has_job u n (rows_of es)) ≡ true → cond t (Some e) (find named es) ≡ find named (own_jobs u es)) [
        | true ↦ λ is has.
            let here : e.row.number ≡ n = equal e.row.number n is in
            let none : has_job u n (rows_of es) ≡ false = no_job u n (e.row.number + 1) next es (omega arith) rise.1 in
            absurd (cc)
        | false ↦ λ is has. find_own u n (e.row.number + 1) next es rise.1 has
      ] refl
    ] has

has_own : (u : List ℕ) (n : ℕ) (es : List Entry) → has_job u n (rows_of es) ≡ has_number n (own_jobs u es)
has_own u n [] = refl
has_own u n (e ∷ es) =
    let rest : has_job u n (rows_of es) ≡ has_number n (own_jobs u es) = has_own u n es in
    elim (bytes_eq e.row.owner u) as (λ b. ((nat_eq e.row.number n && b) || has_job u n (rows_of es)) ≡ has_number n (cond b (e ∷ own_jobs u es) (own_jobs u es))) [
      | true ↦ elim (nat_eq e.row.number n) as (λ t. ((t && true) || has_job u n (rows_of es)) ≡ (t || has_number n (own_jobs u es))) [ true ↦ refl | false ↦ rest ]
      | false ↦ elim (nat_eq e.row.number n) as (λ t. ((t && false) || has_job u n (rows_of es)) ≡ has_number n (own_jobs u es)) [ true ↦ rest | false ↦ rest ]
    ]

-- ---- what is shown

same_jobs : (u : List ℕ) (w v : World) → own u w ≡ own u v → own_jobs u w.jobs ≡ own_jobs u v.jobs
same_jobs u w v same = ap (λ (o : Own). o.jobs) same

pub same_sheet : (u : List ℕ) (w v : World) → own u w ≡ own u v → sheet_of w u ≡ sheet_of v u
unfolding sheet_of
same_sheet u w v same =
    let jobs : own_jobs u w.jobs ≡ own_jobs u v.jobs = same_jobs u w v same in
    let owing : reserved u w ≡ reserved u v = sum_own u owed w.jobs ∙ ap (λ es. sum_by (λ (j : Job). cond (bytes_eq j.owner u) (owed j) 0) (rows_of es)) jobs ∙ sym (sum_own u owed v.jobs) in
    let counts : printed u w ≡ printed u v = sum_own u (λ j. j.count) w.jobs ∙ ap (λ es. sum_by (λ (j : Job). cond (bytes_eq j.owner u) j.count 0) (rows_of es)) jobs ∙ sym (sum_own u (λ j. j.count) v.jobs) in
    let charged : sheet_jobs w u ≡ sheet_jobs v u =
    filter_own u is_charged w.jobs
    ∙ ap (λ es. charged_to u (rows_of es)) jobs
    ∙ sym (filter_own u is_charged v.jobs) in
    λ i. option_map (λ free. record { account = u; granted = granted_in u (same i).grants; free = free; reserved = owing i; printed = counts i; jobs = charged i }) (same i).free

pub same_pending : (u : List ℕ) (w v : World) → own u w ≡ own u v → filter (is_owned_by u) (pending_jobs w) ≡ filter (is_owned_by u) (pending_jobs v)
unfolding pending_in
same_pending u w v same =
    let pending : Job → Bool = λ j. nat_eq (state j) 3 in
    filter_both (is_owned_by u) pending (rows w)
    ∙ filter_own u pending w.jobs
    ∙ ap (λ es. filter (λ (j : Job). bytes_eq j.owner u && nat_eq (state j) 3) (rows_of es)) (same_jobs u w v same)
    ∙ sym (filter_own u pending v.jobs)
    ∙ sym (filter_both (is_owned_by u) pending (rows v))

pub same_documents : (u : List ℕ) (w v : World) (n i : ℕ) → IsSound w → IsSound v → own u w ≡ own u v → has_job u n (rows w) ≡ true → document_at w n i ≡ document_at v n i
unfolding document_at
same_documents u w v n i w_sound v_sound same has =
    let jobs : own_jobs u w.jobs ≡ own_jobs u v.jobs = same_jobs u w v same in
    let also : has_job u n (rows v) ≡ true = has_own u n v.jobs ∙ ap (has_number n) (sym jobs) ∙ sym (has_own u n w.jobs) ∙ has in
    ap (λ o. document_of o i) (find_own u n 1 w.next w.jobs w_sound.numbers has ∙ ap (find (λ (e : Entry). nat_eq e.row.number n)) jobs ∙ sym (find_own u n 1 v.next v.jobs v_sound.numbers also))
