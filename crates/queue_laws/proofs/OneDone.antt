-- What becomes of the one job that an operation is about.
use Rattle.std.proofs.Common.{◌≡◌, ℕ, ◌≤◌, List, [], ◌∷◌, map, refl, ap, subst, sym, ◌∙◌, arith, Bool, true, false, cond}
use Rattle.std.specs.Prelude.{Some, nat_eq, option_map}
use Rattle.std.specs.List.{AllByRecursion as Each}
use Rattle.std.proofs.lemmas.Option.{same_Some, none-some}
use Rattle.queue_types.specs.Event.{Decision, NewDocument}
use Rattle.queue_types.specs.Job.{state_in}
use Rattle.queue_core.specs.World.{World, Entry, rows, made_on, numbered, with_row, add_document}
use Rattle.queue_core.specs.Machine.{Step, becomes, of_own}
use Rattle.queue_core.specs.Sound.{IsSoundEntry}
use Rattle.queue_types.specs.declared.job.Job.{Job}
use Rattle.queue_types.specs.declared.job.Phase.TheVariants.{Waiting}
use Rattle.queue_types.specs.declared.event.Scene.{Scene}
use Rattle.queue_laws.specs.Doing.{entry_at, HasOwn, IsDone}
use Rattle.queue_laws.specs.Jobs.{Waits}
use Rattle.queue_laws.proofs.Base.{at, equal, itself}
use Rattle.queue_laws.proofs.Callers.{document_row}
use Rattle.queue_laws.proofs.OneJob.{of_job}

-- ---- the job of a number with its documents, and its row

pub row_at : (n : ℕ) (es : List Entry) (e : Entry) → entry_at n es ≡ Some e → at n es ≡ Some e.row
row_at n [] e there = absurd (none-some e there)
row_at n (f ∷ es) e there =
    elim (nat_eq f.row.number n) as (λ t. cond t (Some f) (entry_at n es) ≡ Some e → cond t (Some f.row) (at n es) ≡ Some e.row) [
      | true ↦ λ there. ap (λ (x : Entry). Some x.row) (same_Some f e there)
      | false ↦ λ there. row_at n es e there
    ] there

pub number_at : (n : ℕ) (es : List Entry) (e : Entry) → entry_at n es ≡ Some e → e.row.number ≡ n
number_at n [] e there = absurd (none-some e there)
number_at n (f ∷ es) e there =
    elim (nat_eq f.row.number n) as (λ t. nat_eq f.row.number n ≡ t → cond t (Some f) (entry_at n es) ≡ Some e → e.row.number ≡ n) [
      | true ↦ λ is there. ap (λ (x : Entry). x.row.number) (sym (same_Some f e there)) ∙ equal f.row.number n is
      | false ↦ λ is there. number_at n es e there
    ] refl there

pub sound_entry : (n : ℕ) (es : List Entry) (e : Entry) → Each IsSoundEntry es → entry_at n es ≡ Some e → IsSoundEntry e
sound_entry n [] e each there = absurd (none-some e there)
sound_entry n (f ∷ es) e each there =
    elim (nat_eq f.row.number n) as (λ t. cond t (Some f) (entry_at n es) ≡ Some e → IsSoundEntry e) [
      | true ↦ λ there. subst IsSoundEntry (same_Some f e there) each.0
      | false ↦ λ there. sound_entry n es e each.1 there
    ] there

-- ---- once a row is put, and a document

put_at : (n : ℕ) (x : Job) (f : Entry) (es : List Entry) → x.number ≡ n → entry_at n (record f { row = x } ∷ es) ≡ Some (record f { row = x })
put_at n x f es number = ap (λ m. cond (nat_eq m n) (Some (record f { row = x })) (entry_at n es)) number ∙ ap (λ t. cond t (Some (record f { row = x })) (entry_at n es)) (itself n)

pub with_row_at : (n : ℕ) (x : Job) (es : List Entry) (e : Entry) → x.number ≡ n → entry_at n es ≡ Some e → entry_at n (with_row es x) ≡ Some (record e { row = x })
with_row_at n x [] e number there = absurd (none-some e there)
with_row_at n x (f ∷ es) e number there =
    ap (λ m. entry_at n (cond (nat_eq f.row.number m) (record f { row = x } ∷ es) (f ∷ with_row es x))) number
    ∙ elim (nat_eq f.row.number n) as (λ t. nat_eq f.row.number n ≡ t → cond t (Some f) (entry_at n es) ≡ Some e → entry_at n (cond t (record f { row = x } ∷ es) (f ∷ with_row es x)) ≡ Some (record e { row = x })) [
      | true ↦ λ is there. put_at n x f es number ∙ ap (λ (y : Entry). Some (record y { row = x })) (same_Some f e there)
      | false ↦ λ is there. ap (λ t. cond t (Some f) (entry_at n (with_row es x))) is ∙ with_row_at n x es e number there
    ] refl there

pub document_at : (n : ℕ) (d : NewDocument) (es : List Entry) → entry_at n (map (add_document d) es) ≡ option_map (add_document d) (entry_at n es)
document_at n d [] = refl
document_at n d (f ∷ es) =
    ap (λ (r : Job). cond (nat_eq r.number n) (Some (add_document d f)) (entry_at n (map (add_document d) es))) (document_row d f)
    ∙ elim (nat_eq f.row.number n) as (λ t. cond t (Some (add_document d f)) (entry_at n (map (add_document d) es)) ≡ option_map (add_document d) (cond t (Some f) (entry_at n es))) [
      | true ↦ refl
      | false ↦ document_at n d es
    ]

-- ---- the step of an operation on the caller's own job

abbrev pub by : World → Decision → Step
by w d = record { world = made_on d.change w; reply = d.reply }

pub own_step : (w : World) (n : ℕ) (caller : List ℕ) (row : Job → Decision) (e : Entry) → HasOwn caller n e w → of_own caller row (numbered n (rows w)) ≡ row e.row
own_step w n caller row e own = of_job caller (rows w) row n e.row (row_at n w.jobs e own.there) true own.owned

pub becomes_at : (w : World) (n : ℕ) (s : Scene) (e : Entry) (x : Job) → entry_at n w.jobs ≡ Some e → x.number ≡ e.row.number → entry_at n (made_on (becomes s x).change w).jobs ≡ Some (record e { row = x })
becomes_at w n s e x there same = with_row_at n x w.jobs e (same ∙ number_at n w.jobs e there) there

pub done_by : (w : World) (n : ℕ) (s : Scene) (e : Entry) (x : Job) {t : Step} → entry_at n w.jobs ≡ Some e → x.number ≡ e.row.number → t ≡ by w (becomes s x) → IsDone n e x t
done_by w n s e x there same is = record { job = ap (λ (t : Step). entry_at n t.world.jobs) is ∙ becomes_at w n s e x there same; reply = ap (λ (t : Step). t.reply) is }

-- ---- states and phases

pub is_waiting : (j : Job) → Waits j → j.phase ≡ Waiting
is_waiting j low = elim j.phase as (λ p. state_in p j.hold j.incoming ≤ 4 → p ≡ Waiting) [
  | Waiting ↦ λ low. refl
  | _ ↦ λ low. absurd (omega arith)
] low

pub few_waiting : (hold incoming : Bool) → state_in Waiting hold incoming ≤ 4
few_waiting true incoming = omega arith
few_waiting false true = omega arith
few_waiting false false = omega arith
