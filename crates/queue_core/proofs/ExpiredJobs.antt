-- A job as it expires: within its limits, with its documents, and by an allowed pair.
use Rattle.std.proofs.Common.{◌≡◌, ℕ, ◌+◌, List, [], ◌∷◌, ◌++◌, refl, ap, sym, ◌∙◌, arith, subst, inr, Bool, true, false, cond, ◌||◌, ◌&&◌}
use Rattle.std.specs.Prelude.{Some, IsTrue, bytes_eq, nat_eq, nat_le, nat_lt}
use Rattle.std.specs.List.{list_any}
use Rattle.std.proofs.lemmas.Bool.{and_parts, eqb-true}
use Rattle.std.proofs.lemmas.List.Folds.{list_any-append}
use Rattle.queue_types.specs.Job.{state}
use Rattle.queue_core.specs.Limits.{IsMoment, IsSoundJob}
use Rattle.queue_core.specs.Machine.{expired}
use Rattle.queue_core.specs.Runs.{Follows, is_pair}
use Rattle.queue_core.specs.Sound.{IsIdle}
use Rattle.queue_core.specs.World.{has_expired, owners_after}
use Rattle.queue_types.specs.declared.job.Job.{Job}
use Rattle.queue_core.proofs.Keep.{same_key}
use Rattle.queue_core.proofs.Rows.{Replaces, KeepsDocuments, same_job, still_sound}

pub expired_sound : (now : ℕ) (j : Job) → IsMoment now → IsSoundJob j → IsSoundJob (expired now j)
expired_sound now j moment s = still_sound (expired now j) j (same_job j) s s.count s.begun moment s.documents s.octets (refl, refl, refl, refl)

pub expired_replaces : (now : ℕ) (j : Job) → Replaces (expired now j) j
expired_replaces now j = record { number = refl; owner = refl; count = refl; live = omega arith }

pub expired_keeps_documents : (now : ℕ) (j : Job) → IsMoment now → KeepsDocuments (expired now j) j
expired_keeps_documents now j moment = record { documents = refl; octets = refl; sound = expired_sound now j moment }

pub expired_stays_idle : (now : ℕ) (j : Job) → IsIdle j → IsIdle (expired now j)
expired_stays_idle now j h = (h.0, h.1, refl)

pub expired_follows : (now : ℕ) (j : Job) → state j ≡ 4 → Follows (Some j) (Some (expired now j))
expired_follows now j is = inr (subst (λ n. IsTrue (is_pair n 8)) (sym is) refl)

-- what has expired is in state 4
pub expired_state : (keep now : ℕ) (j : Job) → has_expired keep now j ≡ true → state j ≡ 4
unfolding has_expired
expired_state keep now j is =
    let late = (and_parts (nat_lt 0 keep) (nat_le (j.created + keep) now && nat_eq (state j) 4) is).1 in
    eqb-true (state j) 4 (and_parts (nat_le (j.created + keep) now) (nat_eq (state j) 4) late).1

-- ---- the owners of jobs

or_true : (a : Bool) → (a || true) ≡ true
or_true true = refl
or_true false = refl

or_assoc : (a b c : Bool) → ((a || b) || c) ≡ (a || (b || c))
or_assoc true b c = refl
or_assoc false b c = refl

or_none : (a : Bool) → (a || false) ≡ a
or_none true = refl
or_none false = refl

-- one who is among them counts no more
counted_once : (q a : List ℕ) (names : List (List ℕ)) (rest : Bool) → list_any (λ b. bytes_eq a b) names ≡ true → (list_any (λ b. bytes_eq q b) names || rest) ≡ (list_any (λ b. bytes_eq q b) names || (bytes_eq q a || rest))
counted_once q a names rest there =
    elim (bytes_eq q a) as (λ t. bytes_eq q a ≡ t → (list_any (λ b. bytes_eq q b) names || rest) ≡ (list_any (λ b. bytes_eq q b) names || (t || rest))) [
      | true ↦ λ is.
          let among : list_any (λ b. bytes_eq q b) names ≡ true = ap (λ p. list_any (λ b. bytes_eq p b) names) (same_key q a is) ∙ there in
          ap (λ s. s || rest) among ∙ sym (ap (λ s. s || true) among)
      | false ↦ λ is. refl
    ] refl

-- those names, and the owners of the jobs
pub among_owners : (q : List ℕ) (names : List (List ℕ)) (js : List Job) → list_any (λ a. bytes_eq q a) (owners_after names js) ≡ (list_any (λ a. bytes_eq q a) names || list_any (λ j. bytes_eq q j.owner) js)
among_owners q names [] = sym (or_none (list_any (λ a. bytes_eq q a) names))
among_owners q names (j ∷ js) =
    elim (list_any (λ a. bytes_eq j.owner a) names) as (λ t. list_any (λ a. bytes_eq j.owner a) names ≡ t → list_any (λ a. bytes_eq q a) (owners_after (cond t names (names ++ j.owner ∷ [])) js) ≡ (list_any (λ a. bytes_eq q a) names || (bytes_eq q j.owner || list_any (λ j. bytes_eq q j.owner) js))) [
      | true ↦ λ there. among_owners q names js ∙ counted_once q j.owner names (list_any (λ j. bytes_eq q j.owner) js) there
      | false ↦ λ there.
          among_owners q (names ++ j.owner ∷ []) js
          ∙ ap (λ s. s || list_any (λ j. bytes_eq q j.owner) js) (list_any-append (λ a. bytes_eq q a) names (j.owner ∷ []) ∙ ap (λ s. list_any (λ a. bytes_eq q a) names || s) (or_none (bytes_eq q j.owner)))
          ∙ or_assoc (list_any (λ a. bytes_eq q a) names) (bytes_eq q j.owner) (list_any (λ j. bytes_eq q j.owner) js)
    ] refl
