-- How the answer to a Validate-Job stands to the answer to a Print-Job (RFC 8011, section 4.2.3).
use Rattle.std.specs.Prelude.{ℕ, List, ◌∷◌, ◌==◌, filter, not}
use Rattle.ipp_wire.specs.Message.{Message}
use Rattle.queue_types.specs.Event.{NewJob, print_job, validate_job}
use Rattle.queue_types.specs.declared.document.Format.{Format}
use Rattle.ipp_reply.specs.Unsupported.{Unsupported}
use Rattle.ipp_reply.specs.Wanted.{Rows}
use Rattle.ipp_ops.specs.Verdict.{Verdict, refused, passed}

-- what is asked by a Print-Job, and by a Validate-Job: both are refused, with one code and the same unsupported attributes, or both pass,
-- by the same caller and with the same unsupported attributes, and the job that would be made is the same
pub data AreAlike : Verdict → Verdict → Type 0 where
  both_refused : (code : ℕ) (u : Unsupported) → AreAlike (refused code u) (refused code u)
  both_passed : (caller : List ℕ) (j : NewJob) (format : Format) (payload : List ℕ) (shown rows : Rows) (u : Unsupported)
      → AreAlike (passed caller (print_job j format payload) shown u) (passed caller (validate_job j) rows u)

-- the bytes of a request: its version, the number of its operation, below 256, in two bytes, and the rest (RFC 8010, section 3.1.1)
abbrev pub bytes_asking : ℕ → ℕ → ℕ → List ℕ → List ℕ
bytes_asking code major minor rest = major ∷ minor ∷ 0x00 ∷ code ∷ rest

-- a reply less its job groups
abbrev pub without_jobs : Message → Message
without_jobs m = record m { groups = filter (λ g. not (g.tag == 0x02)) m.groups }
