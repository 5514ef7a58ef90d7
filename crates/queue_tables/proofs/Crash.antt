-- What a crash leaves.
use Rattle.std.proofs.Common.{◌≡◌, ◌∙◌, ℕ, pos, List, [], ◌∷◌, Option, None, Some, map, refl, sym, ap, subst}
use Rattle.std.specs.List.{AllByRecursion as Each}
use Rattle.std.specs.List.Sorted.{IsPermutation}
use Rattle.std.specs.Prelude.{⊤}
use Rattle.std.proofs.lemmas.List.Sorted.{IsPermutation-map}
use Rattle.sqlite.specs.Order.{Row}
use Rattle.sqlite.specs.Ops.{binary}
use Rattle.sqlite.specs.Schema.{Schema}
use Rattle.sqlite.specs.State.{State}
use Rattle.sqlite.specs.declared.types.Value.{Value}
use Rattle.sqlite_catalog.specs.Listing.{IsSound as KeepsSchema}
use Rattle.sqlite_sql.specs.declared.ops.ArithOp.TheVariants.{Add}
use Rattle.sqlite_sql.specs.declared.ops.BinaryOp.TheVariants.{Arith}
use Rattle.sqlite_trees.proofs.ListLemmas.{map-map}
use Rattle.sqlite_value.proofs.OrderLemmas.{value_cmp-Int}
use Rattle.queue_types.specs.declared.job.Job.{Job}
use Rattle.queue_types.specs.declared.job.Phase.{Phase}
use Rattle.queue_types.specs.declared.job.Phase.TheVariants.{Waiting, Running, Stopped, Canceled, Aborted, Completed}
use Rattle.queue_types.specs.declared.job.Why.{Why}
use Rattle.queue_types.specs.declared.job.Why.TheVariants.{ByUser, AtDevice, ByOperator}
use Rattle.queue_core.specs.Limits.{FitsPhase}
use Rattle.queue_core.specs.Sound.{IsSound, IsSoundEntry}
use Rattle.queue_core.specs.World.{Entry, World}
use Rattle.queue_rows.specs.Codes.{cause_number, stopping_number, why_number}
use Rattle.queue_rows.specs.Versions.{third_version}
use Rattle.queue_tables.specs.Content.{HasQueueOf, Holds, IsBookOf, content_of}
use Rattle.queue_tables.specs.Kept.{HasRows}
use Rattle.queue_tables.specs.Values.{job_values, job_view, kept_job_view, number, with_cause, without_cause}

-- ---- the rows of an open book have their causes

-- what a store shows of the columns why and stopping
abbrev cause_in : ℕ → ℕ → Value
cause_in why stopping = binary (Arith Add) (number why) (without_cause (number why) (number stopping))

by_stopping : (s : Option Why) → cause_in (cause_number s) (stopping_number Waiting s) ≡ number (cause_number s)
unfolding binary
by_stopping None = rw (value_cmp-Int (pos 0) (pos 0)) (rw (value_cmp-Int (pos 0) (pos 1)) refl)
by_stopping (Some ByUser) = rw (value_cmp-Int (pos 1) (pos 0)) refl
by_stopping (Some AtDevice) = rw (value_cmp-Int (pos 2) (pos 0)) refl
by_stopping (Some ByOperator) = rw (value_cmp-Int (pos 3) (pos 0)) refl

by_ended : (why : Why) → cause_in (cause_number (Some why)) 0 ≡ number (cause_number (Some why))
unfolding binary
by_ended ByUser = rw (value_cmp-Int (pos 1) (pos 0)) refl
by_ended AtDevice = rw (value_cmp-Int (pos 2) (pos 0)) refl
by_ended ByOperator = rw (value_cmp-Int (pos 3) (pos 0)) refl

has_cause : (p : Phase) (j : Job) → FitsPhase p j → cause_in (why_number p j.stopping) (stopping_number p j.stopping) ≡ number (why_number p j.stopping)
has_cause Waiting j fits = by_stopping j.stopping
has_cause Running j fits = by_stopping j.stopping
has_cause Stopped j fits = by_stopping j.stopping
has_cause (Canceled why) j fits = rw fits.3 (by_ended why)
has_cause Aborted j fits = by_stopping j.stopping
has_cause Completed j fits = by_stopping j.stopping

pub same_values : (j : Job) → FitsPhase j.phase j → with_cause (job_values j) ≡ job_values j
same_values j fits = rw (has_cause j.phase j fits) refl

all_same : (es : List Entry) → Each IsSoundEntry es → map with_cause (map (λ (e : Entry). job_values e.row) es) ≡ map (λ (e : Entry). job_values e.row) es
all_same [] each = refl
all_same (e ∷ es) each = λ i. same_values e.row each.0.row.phase i ∷ all_same es each.1 i

-- so they are kept as they are shown
kept_as : (w : World) (rows : List Row) → IsSound w → HasRows ⊤ job_view (content_of w).jobs rows → HasRows ⊤ kept_job_view (content_of w).jobs rows
kept_as w rows sound has =
    let values = (content_of w).jobs in
    let same : map with_cause values ≡ values = ap (map with_cause) (map-map job_values (λ (e : Entry). e.row) w.jobs) ∙ all_same w.jobs sound.entries ∙ sym (map-map job_values (λ (e : Entry). e.row) w.jobs) in
    record {
      same = subst (λ (vs : List Row). IsPermutation vs (map kept_job_view rows)) same (subst (IsPermutation (map with_cause values)) (map-map with_cause job_view rows) (IsPermutation-map with_cause values (map job_view rows) has.same));
      keyed = has.keyed;
    }

stored_as : (w : World) (s : State) → IsSound w → Holds (content_of w) s → HasQueueOf third_version w s.now.trees
stored_as w s sound has = record {
  second = record {
    first = record {
      meta = has.rows.meta;
      jobs = kept_as w (s.now.trees 1) sound has.rows.jobs;
      documents = has.rows.documents;
      pieces = has.rows.pieces;
      accounts = has.rows.accounts;
      grants = has.rows.grants;
      reports = has.rows.reports;
    };
    policy = has.rows.policy;
  };
  operators = has.rows.operators;
}

-- tables that hold a queue are a book of it
pub book_of : (w : World) (s : State) → IsSound w → Holds (content_of w) s → IsBookOf w s.now.trees
book_of w s sound has = record { version = third_version; fits = tt; sound = sound; tables = subst (λ (schema : Schema). KeepsSchema schema s.now.trees) has.schema has.sound; rows = stored_as w s sound has }
