-- Lists of numbers, and of the jobs that a cancel takes.
use Rattle.std.proofs.Common.{◌≡◌, ℕ, ◌+◌, ◌<◌, ◌≤◌, List, [], ◌∷◌, ◌++◌, length, map, take, get_or, refl, ap, sym, ◌∙◌, arith, Bool, true, false, cond}
use Rattle.std.specs.Prelude.{All, filter, nat_eq, ◌||◌, ◌&&◌}
use Rattle.std.specs.List.{list_all, list_any, AllByRecursion as Each}
use Rattle.std.specs.Ordering.{is_eq, nat_cmp}
use Rattle.std.specs.Cmp.{unsigned_tied}
use Rattle.std.proofs.lemmas.List.{take_more, map-append}
use Rattle.std.proofs.lemmas.List.Elements.{filter-append}
use Rattle.std.proofs.lemmas.List.Folds.{list_any-append}
use Rattle.queue_core.specs.Balance.{AreAmounts}
use Rattle.queue_core.specs.Machine.{canceled, canceled_in, is_cancelable}
use Rattle.queue_types.specs.declared.job.Job.{Job}
use Rattle.queue_types.specs.declared.job.Phase.{Phase}
use Rattle.queue_types.specs.declared.job.Why.{Why}
use Rattle.queue_types.specs.declared.job.Why.TheVariants.{ByUser}
use Rattle.queue_types.specs.declared.job.Phase.TheVariants.{Waiting, Running, Stopped}
use Rattle.queue_core.proofs.Ordered.{all_of, each_of, each-filter}

-- ---- numbers that were seen

same_test : (a b : ℕ) → is_eq (nat_cmp a b) ≡ nat_eq a b
same_test a b = unsigned_tied a b

either : (old same : Bool) → cond same true old ≡ (old || (same || false))
either true true = refl
either true false = refl
either false true = refl
either false false = refl

-- one number more
pub seen_more : (ns : List ℕ) (i q d : ℕ) (old : Bool) → i < length ns → old ≡ list_any (λ n. nat_eq n q) (take i ns) → cond (is_eq (nat_cmp (get_or ns i d) q)) true old ≡ list_any (λ n. nat_eq n q) (take (i + 1) ns)
seen_more ns i q d old below is =
    ap (λ b. cond b true old) (same_test (get_or ns i d) q)
    ∙ either old (nat_eq (get_or ns i d) q)
    ∙ ap (λ b. b || (nat_eq (get_or ns i d) q || false)) is
    ∙ sym (list_any-append (λ n. nat_eq n q) (take i ns) (get_or ns i d ∷ []))
    ∙ ap (list_any (λ n. nat_eq n q)) (sym (take_more ns i d below))

-- ---- jobs that can be canceled

-- those up to a place, with the one there
pub canceled_more : (now : ℕ) (js : List Job) (i : ℕ) (d : Job) → i < length js → map (canceled now) (filter is_cancelable (take (i + 1) js)) ≡ map (canceled now) (filter is_cancelable (take i js)) ++ map (canceled now) (filter is_cancelable (get_or js i d ∷ []))
canceled_more now js i d below =
    ap (λ ks. map (canceled now) (filter is_cancelable ks)) (take_more js i d below)
    ∙ ap (map (canceled now)) (filter-append is_cancelable (take i js) (get_or js i d ∷ []))
    ∙ map-append (canceled now) (filter is_cancelable (take i js)) (filter is_cancelable (get_or js i d ∷ []))

pub amounts_in : (why : Why) (now : ℕ) (j : Job) (p : Phase) → AreAmounts j → AreAmounts (canceled_in why p now j)
amounts_in why now j Waiting a = record { impressions = a.impressions; copies = a.copies; count = a.count }
amounts_in why now j Running a = record { impressions = a.impressions; copies = a.copies; count = a.count }
amounts_in why now j Stopped a = record { impressions = a.impressions; copies = a.copies; count = a.count }
amounts_in why now j _ a = a

each_canceled : (now : ℕ) (js : List Job) → Each AreAmounts js → Each AreAmounts (map (canceled now) js)
each_canceled now [] each = tt
each_canceled now (j ∷ js) each = (amounts_in ByUser now j j.phase each.0, each_canceled now js each.1)

pub amounts_kept : (now : ℕ) (js : List Job) → All AreAmounts js → All AreAmounts (map (canceled now) (filter is_cancelable js))
amounts_kept now js all = all_of AreAmounts _ (each_canceled now (filter is_cancelable js) (each-filter AreAmounts is_cancelable js (each_of AreAmounts js all)))

pub few_kept : (now : ℕ) (js : List Job) → length (map (canceled now) (filter is_cancelable js)) ≤ length js
few_kept now [] = omega arith
few_kept now (j ∷ js) =
    let more = few_kept now js in
    elim (is_cancelable j) as (λ b. length (map (canceled now) (cond b (j ∷ filter is_cancelable js) (filter is_cancelable js))) ≤ length (j ∷ js)) [ true ↦ omega arith | false ↦ omega arith ]

pub filter_whole : (p : Job → Bool) (js : List Job) → list_all p js ≡ true → filter p js ≡ js
filter_whole p [] all = refl
filter_whole p (j ∷ js) all =
    elim (p j) as (λ b. (b && list_all p js) ≡ true → cond b (j ∷ filter p js) (filter p js) ≡ j ∷ js) [
      | true ↦ λ all. ap (λ ks. j ∷ ks) (filter_whole p js all)
      | false ↦ λ all. absurd (cc)
    ] all
