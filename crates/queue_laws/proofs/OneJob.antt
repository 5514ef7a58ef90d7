-- What the rows of operations on one job answer, and what Cancel-My-Jobs with job numbers is answered.
use Rattle.std.proofs.Common.{◌≡◌, ℕ, List, [], ◌∷◌, map, refl, ap, sym, ◌∙◌, arith, Bool, true, false, cond}
use Rattle.std.specs.Prelude.{Some, None, nat_eq, bytes_eq, filter, ◌&&◌, ◌||◌}
use Rattle.std.specs.List.{list_all, list_any, AllByRecursion as Each}
use Rattle.std.proofs.lemmas.Bool.{and_right, or_right}
use Rattle.std.proofs.Math.Bool.{or-false}
use Rattle.queue_types.specs.Event.{Decision, ask, cancel_my_jobs, get_job_attributes}
use Rattle.queue_types.specs.Operators.{is_operator}
use Rattle.queue_core.specs.World.{World, rows, cut, job_at, numbered, is_one_of}
use Rattle.queue_core.specs.Machine.{step, answered, refused, becomes, canceled_by, is_cancelable, cancel_row, all_canceled, sent, document_sent, send_in, hold_in, release_in, of_own, of_seen}
use Rattle.queue_types.specs.declared.document.Format.{Format}
use Rattle.queue_types.specs.declared.job.Job.{Job}
use Rattle.queue_types.specs.declared.job.Why.{Why}
use Rattle.queue_types.specs.declared.event.Reply.{Reply}
use Rattle.queue_types.specs.declared.event.Reply.TheVariants.{Refused, Done, Jobs}
use Rattle.queue_types.specs.declared.event.Scene.{Scene}
use Rattle.queue_laws.specs.Jobs.{has_job}
use Rattle.queue_laws.proofs.Base.{equal, itself, none_named, named, each_map}
use Rattle.queue_laws.proofs.Rows.{on_send, on_cancel, on_hold, on_release}

abbrev code_in : Reply → ℕ
code_in (Refused code) = code
code_in _ = 0

-- it is not answered that there is no such job
abbrev pub Finds : Decision → Type 0
Finds d = d.reply ≡ Refused 0x0406 → ⊥

two_codes : (m n : ℕ) → m ≡ n → m ≡ 1028 → n ≡ 1030 → ⊥
two_codes m n e f g = absurd (omega arith)

pub not_possible : Finds (refused 0x0404)
not_possible e = two_codes 1028 1030 (ap code_in e) refl refl

done : (d : Decision) → d.reply ≡ Done → Finds d
done d is e = cc

shown : (d : Decision) (js : List Job) → d.reply ≡ Jobs js → Finds d
shown d js is e = cc

-- ---- each row of the table

pub finds_sent : (s : Scene) (j : Job) (format : Format) (payload : List ℕ) (last : Bool) → Finds (send_in s j format payload last)
finds_sent s j format payload last = on_send Finds s j format payload last (λ can. shown (document_sent s j format payload last) (sent j payload last ∷ []) refl) not_possible

pub finds_canceled : (s : Scene) (now : ℕ) (why : Why) (j : Job) → Finds (cancel_row s now why j)
finds_canceled s now why j = on_cancel Finds s j now why (λ can. done (becomes s (canceled_by why now j)) refl) not_possible

pub finds_held : (s : Scene) (j : Job) → Finds (hold_in j.phase s j)
finds_held s j = on_hold Finds s j (λ waits. done (becomes s (record j { hold = true })) refl) not_possible

pub finds_released : (s : Scene) (j : Job) → Finds (release_in j.phase s j)
finds_released s j = on_release Finds s j (λ waits has. done (becomes s (record j { hold = false })) refl) (done (answered Done) refl) not_possible

pub finds_shown : (j : Job) → Finds (answered (Jobs (j ∷ [])))
finds_shown j = shown (answered (Jobs (j ∷ []))) (j ∷ []) refl

-- ---- the job of a number

module _ (caller : List ℕ) (js : List Job) (row : Job → Decision) where
  pub of_job : (n : ℕ) (j : Job) → job_at n js ≡ Some j → (b : Bool) → bytes_eq j.owner caller ≡ b → of_own caller row (numbered n js) ≡ cond b (row j) (refused 0x0406)
  of_job n j there b is = let at = named n js j there in ap (of_own caller row) at.is ∙ ap (λ b. cond b (row j) (refused 0x0406)) is

-- of the job of a number that the caller may see: its own, or any
abbrev pub of_any : Bool → List ℕ → (Job → Decision) → List Job → Decision
of_any any caller row [] = refused 0x0406
of_any any caller row (j ∷ js) = cond (bytes_eq j.owner caller || any) (row j) (refused 0x0406)

pub own_any : (caller : List ℕ) (row : Job → Decision) (js : List Job) → of_own caller row js ≡ of_any false caller row js
own_any caller row [] = refl
own_any caller row (j ∷ js) = ap (λ b. cond b (row j) (refused 0x0406)) (sym (or-false (bytes_eq j.owner caller)))

pub seen_any : (operators : List (List ℕ)) (caller : List ℕ) (row : Job → Decision) (js : List Job) → of_seen operators caller row js ≡ of_any (is_operator operators caller) caller row js
seen_any operators caller row [] = refl
seen_any operators caller row (j ∷ js) = refl

-- to a caller that is no operator another's job is none
pub seen_own : (operators : List (List ℕ)) (caller : List ℕ) (row : Job → Decision) (js : List Job) → is_operator operators caller ≡ false → of_seen operators caller row js ≡ of_own caller row js
seen_own operators caller row js plain = seen_any operators caller row js ∙ ap (λ b. of_any b caller row js) plain ∙ sym (own_any caller row js)

module _ (any : Bool) (caller : List ℕ) (js : List Job) (row : Job → Decision) where
  pub any_none : (n : ℕ) → job_at n js ≡ None → (of_any any caller row (numbered n js)).reply ≡ Refused 0x0406
  any_none n none = ap (λ ks. (of_any any caller row ks).reply) (none_named n js none)

  pub any_job : (n : ℕ) (j : Job) → job_at n js ≡ Some j → (b : Bool) → (bytes_eq j.owner caller || any) ≡ b → of_any any caller row (numbered n js) ≡ cond b (row j) (refused 0x0406)
  any_job n j there b is = let at = named n js j there in ap (of_any any caller row) at.is ∙ ap (λ b. cond b (row j) (refused 0x0406)) is

  pub any_others : (n : ℕ) (j : Job) → job_at n js ≡ Some j → bytes_eq j.owner caller ≡ false → any ≡ false → (of_any any caller row (numbered n js)).reply ≡ Refused 0x0406
  any_others n j there other none = ap (λ (d : Decision). d.reply) (any_job n j there false (ap (λ b. b || any) other ∙ none))

  pub any_callers : (n : ℕ) (j : Job) → ((k : Job) → Finds (row k)) → job_at n js ≡ Some j → bytes_eq j.owner caller ≡ true → Finds (of_any any caller row (numbered n js))
  any_callers n j finds there own e = finds j (sym (ap (λ (d : Decision). d.reply) (any_job n j there true (ap (λ b. b || any) own))) ∙ e)

pub shown_seen : (w : World) (now n : ℕ) (caller : List ℕ) (j : Job) → job_at n (rows w) ≡ Some j → (bytes_eq j.owner caller || is_operator w.settings.operators caller) ≡ true → (step w now (ask caller (get_job_attributes n))).reply ≡ Jobs (j ∷ [])
shown_seen w now n caller j there may =
    ap (λ (d : Decision). d.reply) (seen_any w.settings.operators caller (λ j. answered (Jobs (j ∷ []))) (numbered n (rows w)) ∙ any_job (is_operator w.settings.operators caller) caller (rows w) (λ j. answered (Jobs (j ∷ []))) n j there true may)

pub shown_own : (w : World) (now n : ℕ) (caller : List ℕ) (j : Job) → job_at n (rows w) ≡ Some j → bytes_eq j.owner caller ≡ true → (step w now (ask caller (get_job_attributes n))).reply ≡ Jobs (j ∷ [])
shown_own w now n caller j there own = shown_seen w now n caller j there (ap (λ b. b || is_operator w.settings.operators caller) own)

pub shown_any : (w : World) (now n : ℕ) (caller : List ℕ) (j : Job) → is_operator w.settings.operators caller ≡ true → job_at n (rows w) ≡ Some j → (step w now (ask caller (get_job_attributes n))).reply ≡ Jobs (j ∷ [])
shown_any w now n caller j operator there = shown_seen w now n caller j there (or_right (bytes_eq j.owner caller) (is_operator w.settings.operators caller) operator)

-- ---- Cancel-My-Jobs with numbers

abbrev is_in : List ℕ → ℕ → Bool
is_in numbers n = list_any (λ m. nat_eq m n) numbers

each_later : (numbers more : List ℕ) (n : ℕ) → Each (λ m. is_in numbers m ≡ true) more → Each (λ m. is_in (n ∷ numbers) m ≡ true) more
each_later numbers more n each = each_map (λ m. is_in numbers m ≡ true) (λ m. is_in (n ∷ numbers) m ≡ true) more (λ m is. ap (λ b. nat_eq n m || b) is ∙ or_right (nat_eq n m) true refl) each

each_in : (numbers : List ℕ) → Each (λ m. is_in numbers m ≡ true) numbers
each_in [] = tt
each_in (n ∷ numbers) = (ap (λ b. b || is_in numbers n) (itself n), each_later numbers numbers n (each_in numbers))

named_by : (numbers : List ℕ) (n : ℕ) (j : Job) → is_in numbers n ≡ true → nat_eq j.number n ≡ true → is_one_of numbers j ≡ true
unfolding is_one_of
named_by numbers n j in_numbers is = ap (is_in numbers) (equal j.number n is) ∙ in_numbers

module _ (caller : List ℕ) (numbers : List ℕ) where
  abbrev asked : List Job → List Job
  asked js = filter (λ j. bytes_eq j.owner caller && is_one_of numbers j) js

  abbrev has : ℕ → List Job → Bool
  has n js = list_any (λ m. nat_eq m n) (map (λ j. j.number) (asked js))

  one_there : (n : ℕ) (js : List Job) → is_in numbers n ≡ true → has n js ≡ has_job caller n js
  one_there n [] in_numbers = refl
  one_there n (j ∷ js) in_numbers =
      let more : has n js ≡ has_job caller n js = one_there n js in_numbers in
      elim (bytes_eq j.owner caller) as (λ b. list_any (λ m. nat_eq m n) (map (λ j. j.number) (cond (b && is_one_of numbers j) (j ∷ asked js) (asked js))) ≡ ((nat_eq j.number n && b) || has_job caller n js)) [
        | false ↦ more ∙ sym (ap (λ b. b || has_job caller n js) (and_right (nat_eq j.number n) false refl))
        | true ↦
            elim (nat_eq j.number n) as (λ t. nat_eq j.number n ≡ t → list_any (λ m. nat_eq m n) (map (λ j. j.number) (cond (is_one_of numbers j) (j ∷ asked js) (asked js))) ≡ ((t && true) || has_job caller n js)) [
              | true ↦ λ is. ap (λ b. list_any (λ m. nat_eq m n) (map (λ j. j.number) (cond b (j ∷ asked js) (asked js)))) (named_by numbers n j in_numbers is) ∙ ap (λ t. t || has n js) is
              | false ↦ λ is.
                  elim (is_one_of numbers j) as (λ b. list_any (λ m. nat_eq m n) (map (λ j. j.number) (cond b (j ∷ asked js) (asked js))) ≡ has_job caller n js) [
                    | true ↦ ap (λ t. t || has n js) is ∙ more
                    | false ↦ more
                  ]
            ] refl
      ]

  all_there : (ns : List ℕ) (js : List Job) → Each (λ n. is_in numbers n ≡ true) ns → list_all (λ n. has n js) ns ≡ list_all (λ n. has_job caller n js) ns
  all_there [] js each = refl
  all_there (n ∷ ns) js each = λ i. one_there n js each.0 i && all_there ns js each.1 i

  pub are_own : (js : List Job) → list_all (λ n. has n js) numbers ≡ list_all (λ n. has_job caller n js) numbers
  are_own js = all_there numbers js (each_in numbers)

pub named_others : (w : World) (now : ℕ) (caller numbers : List ℕ) → list_all (λ n. has_job caller n (rows w)) numbers ≡ false → (step w now (ask caller (cancel_my_jobs (Some numbers)))).reply ≡ Refused 0x0406
named_others w now caller numbers other =
    let s : Scene = cut w now (ask caller (cancel_my_jobs (Some numbers))) in
    ap (λ b. (cond b (cond (list_all is_cancelable s.jobs) (all_canceled s now s.jobs) (refused 0x0404)) (refused 0x0406)).reply) (are_own caller numbers (rows w) ∙ other)

pub named_own : (w : World) (now : ℕ) (caller numbers : List ℕ) → list_all (λ n. has_job caller n (rows w)) numbers ≡ true → (step w now (ask caller (cancel_my_jobs (Some numbers)))).reply ≡ Refused 0x0406 → ⊥
named_own w now caller numbers own e =
    let s : Scene = cut w now (ask caller (cancel_my_jobs (Some numbers))) in
    let finds : Finds (cond (list_all is_cancelable s.jobs) (all_canceled s now s.jobs) (refused 0x0404)) =
    elim (list_all is_cancelable s.jobs) as (λ b. Finds (cond b (all_canceled s now s.jobs) (refused 0x0404))) [ true ↦ done (all_canceled s now s.jobs) refl | false ↦ not_possible ] in
    finds (sym (ap (λ b. (cond b (cond (list_all is_cancelable s.jobs) (all_canceled s now s.jobs) (refused 0x0404)) (refused 0x0406)).reply) (are_own caller numbers (rows w) ∙ own)) ∙ e)
