-- The reply to a request as a message (RFC 8011, sections 4.1 to 4.3).
use Rattle.std.specs.Prelude.{ℕ, ◌==◌, List, [], ◌∷◌, ◌++◌, map, if◌then◌else◌}
use Rattle.ipp_wire.specs.declared.view.Head.{Head}
use Rattle.ipp_wire.specs.Message.{Group, Message}
use Rattle.ipp_wire.specs.Bare.{bare}
use Rattle.queue_types.specs.declared.event.Reply.{Reply}
use Rattle.queue_types.specs.declared.event.Reply.TheVariants.{Refused, Done, Jobs, Printer}
use Rattle.queue_types.specs.Settings.{SettingValues}
use Rattle.ipp_reply.specs.Wanted.{Rows, job_rows, printer_rows}
use Rattle.ipp_reply.specs.JobReply.{job_group}
use Rattle.ipp_reply.specs.PrinterReply.{printer_group}
use Rattle.ipp_reply.specs.Unsupported.{Unsupported, is_listed}

-- the bare reply with these groups behind
abbrev pub with_groups : Message → List Group → Message
with_groups m gs = record m { groups = m.groups ++ gs }

-- the group of what is unsupported, where something is
abbrev pub unsupported_groups : Unsupported → List Group
unsupported_groups u = if is_listed u then record { tag = 0x05; attributes = u.operation ++ u.job } ∷ [] else []

-- successful-ok, or successful-ok-ignored-or-substituted-attributes
abbrev pub success : Unsupported → ℕ
success u = if is_listed u then 0x0001 else 0x0000

-- a refusal shows what is unsupported only where that is its reason
abbrev pub refusal : Head → ℕ → Unsupported → Message
refusal h code u = with_groups (bare h code) (if code == 0x040B then unsupported_groups u else [])

-- a success shows it too, and the jobs or the printer
abbrev pub reply_of : Reply → Head → Rows → Unsupported → SettingValues → ℕ → Message
reply_of (Refused code) h rows u s now = refusal h code u
reply_of Done h rows u s now = with_groups (bare h (success u)) (unsupported_groups u)
reply_of (Jobs js) h rows u s now = with_groups (bare h (success u)) (unsupported_groups u ++ map (job_group s.uri now (job_rows rows)) js)
reply_of (Printer state queued accepting) h rows u s now = with_groups (bare h (success u)) (unsupported_groups u ++ printer_group (record { settings = s; now = now; state = state; queued = queued; accepting = accepting }) (printer_rows rows) ∷ [])
-- what answers a report, an account file or a sweep answers no request: here it stands as the printer's own fault, server-error-temporary-error
reply_of _ h rows u s now = bare h 0x0505
