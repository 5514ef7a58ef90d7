-- Jobs with what their documents tell of them.
use Rattle.std.proofs.Common.{◌≡◌, ℕ, ◌+◌, ◌*◌, ◌≤◌, suc, List, [], ◌∷◌, All, Bool, ◌==◌, ◌||◌, ◌&&◌, cond, if◌then◌else◌, bytes_eq, length, take, drop, sum_by, refl, ap, ◌∙◌, sym, arith}
use Rattle.std.specs.List.{AllByRecursion as Each}
use Rattle.std.proofs.lemmas.List.{length-take-le}
use Rattle.std.proofs.lemmas.List.Elements.{All-take, All-drop}
use Rattle.std.proofs.lemmas.List.Sums.{sum_by-cons, prefix_len-le-length}
use Rattle.queue_types.specs.Job.{owed, is_live}
use Rattle.queue_core.specs.World.{live_jobs}
use Rattle.queue_core.specs.Limits.{IsSoundJob, FitsPhase}
use Rattle.queue_types.specs.declared.job.Job.{Job}
use Rattle.queue_types.specs.declared.job.Phase.{Phase}
use Rattle.queue_types.specs.declared.job.Phase.TheVariants.{Waiting}
use Rattle.queue_rows.specs.Accounts.{reserved_for, printed_for}
use Rattle.queue_rows.specs.Documents.{HasSize, next_of, AreGrouped}
use Rattle.queue_rows.specs.Jobs.{IsJobRow, NumbersRise, has_number}
use Rattle.queue_rows.specs.declared.rows.DocumentRow.{DocumentRow}
use Rattle.queue_core.proofs.Rows.{same_job, still_sound}
use Rattle.queue_rows.proofs.GroupLemmas.{is_of}

abbrev pub octets_of : DocumentRow → ℕ
octets_of d = d.octets

abbrev pub with_group : Job → List DocumentRow → Job
with_group j ds = record j { documents = next_of j.number ds; octets = sum_by octets_of (take (next_of j.number ds) ds) }

-- each job has the number and the octets of its documents
abbrev pub filled : List Job → List DocumentRow → List Job
filled [] ds = []
filled (j ∷ js) ds = with_group j ds ∷ filled js (drop (next_of j.number ds) ds)

abbrev behind : Job → List DocumentRow → List DocumentRow
behind j ds = drop (next_of j.number ds) ds

-- ---- what documents say nothing of stays

pub rise_filled : (first : ℕ) (js : List Job) (ds : List DocumentRow) (next : ℕ) → NumbersRise first js next → NumbersRise first (filled js ds) next
rise_filled first [] ds next h = h
rise_filled first (j ∷ js) ds next h = (h.0, rise_filled (j.number + 1) js (behind j ds) next h.1)

pub rise_bare : (first : ℕ) (js : List Job) (ds : List DocumentRow) (next : ℕ) → NumbersRise first (filled js ds) next → NumbersRise first js next
rise_bare first [] ds next h = h
rise_bare first (j ∷ js) ds next h = (h.0, rise_bare (j.number + 1) js (behind j ds) next h.1)

pub each_filled : (P : Job → Type 0) → ((j : Job) (ds : List DocumentRow) → P j → P (with_group j ds)) → (js : List Job) (ds : List DocumentRow) → Each P js → Each P (filled js ds)
each_filled P one [] ds h = tt
each_filled P one (j ∷ js) ds h = (one j ds h.0, each_filled P one js (behind j ds) h.1)

pub each_bare : (P : Job → Type 0) → ((j : Job) (ds : List DocumentRow) → P (with_group j ds) → P j) → (js : List Job) (ds : List DocumentRow) → Each P (filled js ds) → Each P js
each_bare P one [] ds h = tt
each_bare P one (j ∷ js) ds h = (one j ds h.0, each_bare P one js (behind j ds) h.1)

pub sum_filled : (f : Job → ℕ) → ((j : Job) (ds : List DocumentRow) → f (with_group j ds) ≡ f j) → (js : List Job) (ds : List DocumentRow) → sum_by f (filled js ds) ≡ sum_by f js
sum_filled f one [] ds = refl
sum_filled f one (j ∷ js) ds =
    sum_by-cons f (with_group j ds) (filled js (behind j ds)) ∙ ap (λ (n : ℕ). n + sum_by f (filled js (behind j ds))) (one j ds)
    ∙ ap (λ (n : ℕ). f j + n) (sum_filled f one js (behind j ds)) ∙ sym (sum_by-cons f j js)

pub number_filled : (n : ℕ) (js : List Job) (ds : List DocumentRow) → has_number n (filled js ds) ≡ has_number n js
number_filled n [] ds = refl
number_filled n (j ∷ js) ds = ap (λ (b : Bool). j.number == n || b) (number_filled n js (behind j ds))

pub live_filled : (caller : List ℕ) (js : List Job) (ds : List DocumentRow) → live_jobs caller (filled js ds) ≡ live_jobs caller js
live_filled caller js ds = sum_filled (λ (j : Job). cond (bytes_eq j.owner caller && is_live j) 1 0) (λ j ds'. refl) js ds

pub reserved_filled : (a : List ℕ) (js : List Job) (ds : List DocumentRow) → reserved_for a (filled js ds) ≡ reserved_for a js
reserved_filled a js ds = sum_filled (λ (j : Job). if bytes_eq j.owner a then owed j else 0) (λ j ds'. refl) js ds

pub printed_filled : (a : List ℕ) (js : List Job) (ds : List DocumentRow) → printed_for a (filled js ds) ≡ printed_for a js
printed_filled a js ds = sum_filled (λ (j : Job). if bytes_eq j.owner a then j.count else 0) (λ j ds'. refl) js ds

-- ---- limits

fits_sized : (p : Phase) (j : Job) (n m : ℕ) → FitsPhase p j → FitsPhase p (record j { documents = n; octets = m })
fits_sized Waiting j n m h = h
fits_sized _ j n m h = h

-- with other documents a job is within its limits where these are
pub sound_sized : (j : Job) (n m : ℕ) → IsSoundJob j → n ≤ 16 → m ≤ n * 16777216 → IsSoundJob (record j { documents = n; octets = m })
sound_sized j n m s few small = still_sound (record j { documents = n; octets = m }) j (same_job j) s s.count s.begun s.ended few small (fits_sized j.phase j n m s.phase)

octets_within : (ds : List DocumentRow) → All HasSize ds → sum_by octets_of ds ≤ length ds * 16777216
octets_within [] h = omega arith
octets_within (d ∷ ds) h =
    let here : HasSize d = h 0 d (omega arith) in
    let rest = octets_within ds (λ k e lt. h (suc k) e (omega arith)) in
    omega (arith, sum_by-cons octets_of d ds, here.1, rest)

pub sound_filled : (js : List Job) (ds : List DocumentRow) → AreGrouped js ds → All HasSize ds → Each IsJobRow js → Each IsSoundJob (filled js ds)
sound_filled [] ds group sizes h = tt
sound_filled (j ∷ js) ds group sizes h =
    let n = next_of j.number ds in
    let short : n ≤ length ds = prefix_len-le-length (is_of j.number) ds in
    let many : length (take n ds) ≡ n = length-take-le n ds short in
    let within = octets_within (take n ds) (All-take HasSize n ds sizes) in
    (sound_sized j n (sum_by octets_of (take n ds)) h.0.sound group.0.0 (omega (arith, within, many)), sound_filled js (drop n ds) group.1 (All-drop HasSize n ds sizes) h.1)

pub sound_bare : (js : List Job) (ds : List DocumentRow) → Each (λ j. (j.documents ≡ 0) × (j.octets ≡ 0)) js → Each IsSoundJob (filled js ds) → Each IsJobRow js
sound_bare [] ds bare h = tt
sound_bare (j ∷ js) ds bare h =
    let none = bare.0 in
    let sound = sound_sized (with_group j ds) j.documents j.octets h.0 (omega (arith, none.0)) (omega (arith, none.1)) in
    (record { sound = sound; bare = none.0 }, sound_bare js (behind j ds) bare.1 h.1)
