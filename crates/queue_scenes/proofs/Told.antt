-- A kept report by its columns.
use Rattle.std.proofs.Common.{◌≡◌, ℕ}
use Rattle.queue_types.specs.declared.event.KeptReport.{KeptReport}
use Rattle.queue_types.specs.declared.event.Kind.{Kind}
use Rattle.queue_types.specs.declared.states.JobState.{JobState}
use Rattle.queue_rows.specs.Codes.{job_state_number, kind_number}
use Rattle.queue_tables.specs.Values.{number}

same_int : (m n : ℕ) → number m ≡ number n → m ≡ n
same_int m n e = cc

pub same_report : ((k l : Kind) → kind_number k ≡ kind_number l → k ≡ l) → ((s t : JobState) → job_state_number s ≡ job_state_number t → s ≡ t) → (a b : KeptReport) → a.report.job ≡ b.report.job → a.report.seq ≡ b.report.seq → number (kind_number a.report.kind) ≡ number (kind_number b.report.kind)
    → number a.report.count ≡ number b.report.count → number (job_state_number a.state) ≡ number (job_state_number b.state) → number a.total ≡ number b.total → a ≡ b
same_report kinds states a b job seq kind count told total =
    let k = kinds a.report.kind b.report.kind (same_int _ _ kind) in
    let n = same_int a.report.count b.report.count count in
    let s = states a.state b.state (same_int _ _ told) in
    let t = same_int a.total b.total total in
    λ i. record { report = record { job = job i; seq = seq i; kind = k i; count = n i }; state = s i; total = t i }
