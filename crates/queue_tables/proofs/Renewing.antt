-- The UPDATEs of the book are never refused.
use Rattle.std.proofs.Common.{◌≡◌, inl, inr, ℕ, ℤ, ◌+ℤ◌, List, [], ◌∷◌, drop, filter, true, Some, Err, refl, sym, ap, subst, ◌∙◌}
use Rattle.std.specs.FinMap.{entries, entries_sorted}
use Rattle.sqlite.specs.declared.types.Value.{Value}
use Rattle.sqlite.specs.declared.types.Value.TheVariants.{Int}
use Rattle.sqlite.specs.Order.{Row, column}
use Rattle.sqlite.specs.State.{State, ExecutesInside}
use Rattle.sqlite_schema.specs.declared.schema.Constraint.{Constraint}
use Rattle.sqlite_schema.specs.Rules.{Obeys, are_typed, are_present}
use Rattle.sqlite_tied.specs.Compute.{everything}
use Rattle.queue_types.specs.declared.job.Job.{Job}
use Rattle.queue_core.specs.World.{World}
use Rattle.queue_rows.specs.Rows.{meta_row}
use Rattle.queue_rows.specs.Versions.{third_version}
use Rattle.queue_rows.specs.declared.rows.MetaRow.{MetaRow}
use Rattle.queue_tables.specs.Tables.{book_schema, meta, jobs, accounts}
use Rattle.queue_tables.specs.Values.{number, meta_values, meta_view, job_values, job_view, account_values, account_view}
use Rattle.queue_tables.specs.Content.{Content, Holds, content_of}
use Rattle.queue_tables.specs.Steps.{CanAdd, is_named, is_numbered}
use Rattle.queue_tables.proofs.Statements.{update_job_text, update_job_terms, update_job_where, update_job_is, jobs_still, update_sums_text, update_sums_terms, update_sums_where, update_sums_is, update_free_text, update_free_terms, update_free_where, update_free_is, accounts_still, update_next_text, update_next_terms, update_next_where, update_next_is, meta_still}
use Rattle.queue_tables.proofs.Rows.{job_stored, cast_job}
use Rattle.queue_tables.proofs.Sums.{anew, cast_account, sums_params, sums_shown, free_params, free_shown}
use Rattle.queue_tables.proofs.Accounts.{one_account}
use Rattle.queue_tables.proofs.Entrants.{moment_is}
use Rattle.queue_tables.proofs.Frees.{next_stored, cast_next, next_shown, next_id, reserved_in, printed_in}
use Rattle.queue_tables.proofs.Numbers.{numbered_meta}
use Rattle.queue_tables.proofs.Refused.{told}
use Rattle.queue_tables.proofs.Standing.{AreKeys}
use Rattle.queue_tables.proofs.Updating.{update_stands, update_none_stands}

obeyed : (c : Content) (s : State) → Holds c s → Obeys book_schema s.now.trees
obeyed c s has = subst (λ k. Obeys k s.now.trees) has.schema has.sound.obeys

-- ---- what keeps the rows of each table apart, beside the rowid

meta_keys : AreKeys book_schema 0 []
unfolding everything
meta_keys = record { unique = refl; parents = refl; refers = refl }

job_keys : AreKeys book_schema 1 []
unfolding everything
job_keys = record { unique = refl; parents = refl; refers = refl }

account_keys : AreKeys book_schema 6 (1 ∷ [])
unfolding everything
account_keys = record { unique = refl; parents = refl; refers = refl }

-- ---- a job

typed_job : (j : Job) → are_typed (Some 0) 0 jobs.columns (drop 1 (job_stored j)) ≡ true
typed_job j = rw (moment_is j.begun, moment_is j.ended) refl

pub job_stands : (old new : State) (j was : Job) (c : Content) → filter (is_numbered j.number) c.jobs ≡ job_values was ∷ [] → was.number ≡ j.number → Holds c old → (rule : Constraint)
    → ¬ ExecutesInside 0 update_job_text (job_values j) old new (Err (told rule))
job_stands old new j was c one same has rule =
    update_stands update_job_text 1 jobs update_job_where update_job_terms update_job_is.command update_job_is.plain refl (λ db. refl) jobs_still [] job_keys
    job_view c.jobs (is_numbered j.number) old new (job_values j) (job_values was) (λ id. Int id ∷ drop 1 (job_stored j)) rule has.schema (obeyed c old has)
    (λ r. refl)
    (λ r id keyed is. let at : Int id ≡ number j.number = sym keyed ∙ ap (λ (v : Row). column v 0) is ∙ ap number same in
    (ap (λ (v : Value). v ∷ v ∷ drop 1 (job_stored j)) keyed, rw at (cast_job j), refl, (sym keyed, tt), typed_job j, refl))
    has.rows.jobs one

-- ---- an account

pub sums_stand : (old new : State) (name : List ℕ) (set_aside done : ℤ) (c : Content) → CanAdd name set_aside done c → Holds c old → (rule : Constraint)
    → ¬ ExecutesInside 0 update_sums_text (sums_params name set_aside done) old new (Err (told rule))
sums_stand old new name set_aside done c (inl none) has rule =
    update_none_stands update_sums_text 4 accounts update_sums_where update_sums_terms update_sums_is.command update_sums_is.plain refl (λ db. refl) accounts_still (1 ∷ []) account_keys
    account_view c.accounts (is_named name) old new (sums_params name set_aside done) rule has.schema (obeyed c old has) (λ r. refl) has.rows.accounts none
sums_stand old new name set_aside done c (inr can) has rule =
    let it = can.0 in
    update_stands update_sums_text 4 accounts update_sums_where update_sums_terms update_sums_is.command update_sums_is.plain refl (λ db. refl) accounts_still (1 ∷ []) account_keys
    account_view c.accounts (is_named name) old new (sums_params name set_aside done) (account_values it.named it.free it.set_aside it.done) (anew it.named it.free (it.set_aside +ℤ set_aside) (it.done +ℤ done)) rule
    has.schema (obeyed c old has) (λ r. refl)
    (λ r id keyed is. (
      sums_shown name it.named it.free it.set_aside it.done set_aside done r id keyed is can.1 can.2,
      cast_account it.named it.free (it.set_aside +ℤ set_aside) (it.done +ℤ done) id,
      refl,
      (sym keyed, (sym (ap (λ (v : Row). column v 0) is), tt)),
      refl,
      refl,
    ))
    has.rows.accounts it.once

free_stands_in : (old new : State) (name : List ℕ) (free : ℤ) (c : Content) (was set_aside done : ℤ) → filter (is_named name) c.accounts ≡ account_values name was set_aside done ∷ [] → Holds c old → (rule : Constraint)
    → ¬ ExecutesInside 0 update_free_text (free_params name free) old new (Err (told rule))
free_stands_in old new name free c was set_aside done one has rule =
    update_stands update_free_text 4 accounts update_free_where update_free_terms update_free_is.command update_free_is.plain refl (λ db. refl) accounts_still (1 ∷ []) account_keys
    account_view c.accounts (is_named name) old new (free_params name free) (account_values name was set_aside done) (anew name free set_aside done) rule has.schema (obeyed c old has) (λ r. refl)
    (λ r id keyed is. (
      free_shown name name free was set_aside done r id keyed is,
      cast_account name free set_aside done id,
      refl,
      (sym keyed, (sym (ap (λ (v : Row). column v 0) is), tt)),
      refl,
      refl,
    ))
    has.rows.accounts one

pub free_stands : (old new : State) (name : List ℕ) (free : ℤ) (w : World) → Holds (content_of w) old → (rule : Constraint) → ¬ ExecutesInside 0 update_free_text (free_params name free) old new (Err (told rule))
free_stands old new name free w has rule h =
    let c = content_of w in
    elim (one_account name (reserved_in w) (printed_in w) (entries w.free) (entries_sorted w.free)) [
      | inl none ↦
          update_none_stands update_free_text 4 accounts update_free_where update_free_terms update_free_is.command update_free_is.plain refl (λ db. refl) accounts_still (1 ∷ []) account_keys
          account_view c.accounts (is_named name) old new (free_params name free) rule has.schema (obeyed c old has) (λ r. refl) has.rows.accounts none h
      | inr one ↦ free_stands_in old new name free c one.0 (reserved_in w name) (printed_in w name) one.1 has rule h
    ]

-- ---- the row of the book itself

typed_next : (m : MetaRow) (n : ℕ) (id : ℤ) → are_typed (Some 0) 0 meta.columns (drop 1 (next_stored m n id)) ≡ true
unfolding next_stored
typed_next m n id = refl

present_next : (m : MetaRow) (n : ℕ) (id : ℤ) → are_present (Some 0) 0 meta.columns (next_stored m n id) ≡ true
unfolding next_stored
present_next m n id = refl

pub next_stands : (old new : State) (n : ℕ) (w : World) → Holds (content_of w) old → (rule : Constraint) → ¬ ExecutesInside 0 update_next_text (number n ∷ []) old new (Err (told rule))
next_stands old new n w has rule =
    let m = meta_row third_version w in
    let is : is_numbered 1 (meta_values m) ≡ true = numbered_meta m refl in
    update_stands update_next_text 0 meta update_next_where update_next_terms update_next_is.command update_next_is.plain refl (λ db. refl) meta_still [] meta_keys
    meta_view (content_of w).meta (is_numbered 1) old new (number n ∷ []) (meta_values m) (next_stored m n) rule has.schema (obeyed (content_of w) old has)
    (λ r. refl)
    (λ r id keyed like. (next_shown m n r id keyed like, cast_next m n id, next_id m n id, (next_id m n id ∙ sym keyed, tt), typed_next m n id, present_next m n id))
    has.rows.meta (rw is refl)
