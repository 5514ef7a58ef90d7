-- What a line of a replay makes of a queue, by what each call on its book says.
use Rattle.std.proofs.Common.{◌≡◌, ◌<◌, ◌≤◌, ℕ, Bool, true, false, List, [], ◌∷◌, ◌++◌, length, Result, Ok, Err, inl, inr, ap}
use Rattle.std.specs.Prelude.{IfOk, IsErr, MatchBool, OnOk}
use Rattle.std.proofs.lemmas.Bool.{cases_lt, false≢true}
use Rattle.device_lines.specs.Reports.{AnswersLine, BringsAbout}
use Rattle.device_lines.specs.declared.line.LineFault.{LineFault}
use Rattle.grants_csv.specs.Import.{Imports}
use Rattle.grants_csv.specs.declared.fault.ImportFault.{ImportFault}
use Rattle.grants_csv.specs.declared.importing.Imported.{Imported}
use Rattle.ipp_ops.specs.Answer.{Answers, BringsAnswer, BringsReply, Fails, bytes_of, is_fault, outcome}
use Rattle.ipp_ops.specs.Verdict.{Verdict, passed, refused}
use Rattle.ipp_ops.specs.declared.outcome.Answer.{Answer}
use Rattle.ipp_ops.specs.declared.outcome.TooShort.{TooShort}
use Rattle.ipp_wire.specs.Message.{head_of}
use Rattle.queue_types.specs.Settings.{SettingValues}
use Rattle.queue_core.specs.Sweep.{Sweeps}
use Rattle.queue_core.specs.World.{World}
use Rattle.queue_core.specs.declared.book.BookFault.{BookFault}
use Rattle.queue_types.specs.declared.event.Report.{Report}
use Rattle.replay.specs.Session.{AnswersMessage, State, Takes, file_of}
use Rattle.replay.specs.declared.request_line.RequestLine.{RequestLine}
use Rattle.replay.specs.declared.request_line.RequestLine.TheVariants.{Now, Ipp, Dev, Grant, Expire}

-- ---- the settings stay

outcome_settings : (now : ℕ) (w u : World) (message : List ℕ) (v : Verdict) → u ≡ (outcome v (head_of message) w now).world → u.settings ≡ w.settings
outcome_settings now w u message (refused code list) e = ap (λ (z : World). z.settings) e
outcome_settings now w u message (passed caller call rows list) e = ap (λ (z : World). z.settings) e

reply_settings : (fault : Bool) (now : ℕ) (w u : World) (message out : List ℕ) → MatchBool fault (Fails message out × (u ≡ w)) (Answers w now message u out) → u.settings ≡ w.settings
reply_settings true now w u message out f = ap (λ (z : World). z.settings) f.1
reply_settings false now w u message out a = outcome_settings now w u message a.verdict a.world

message_settings : (now : ℕ) (w u : World) (message text : List ℕ) → AnswersMessage w now message u text → u.settings ≡ w.settings
message_settings now w u message text (inl a) = reply_settings (is_fault a.1) now w u message a.1 a.2
message_settings now w u message text (inr f) = ap (λ (z : World). z.settings) f.1

report_settings : (now : ℕ) (w u : World) (out : List ℕ) (r : Result Report LineFault) → BringsAbout r w now u out → u.settings ≡ w.settings
report_settings now w u out (Ok r) b = ap (λ (z : World). z.settings) b.0
report_settings now w u out (Err f) b = ap (λ (z : World). z.settings) b.0

line_settings : (now : ℕ) (w u : World) (line out : List ℕ) → AnswersLine w now line u out → u.settings ≡ w.settings
line_settings now w u line out (inl r) = report_settings now w u out r.reading r.brings
line_settings now w u line out (inr f) = ap (λ (z : World). z.settings) f.1

import_settings : (now : ℕ) (w u : World) (file : List ℕ) (answer : Result Imported ImportFault) → Imports w now file u answer → u.settings ≡ w.settings
import_settings now w u file (Ok n) i = ap (λ (z : World). z.settings) i.3
import_settings now w u file (Err f) i = ap (λ (z : World). z.settings) i.1

sweep_settings : (now : ℕ) (w u : World) (answer : Result ℕ BookFault) → Sweeps w now u answer → u.settings ≡ w.settings
sweep_settings now w u (Ok n) s = ap (λ (z : World). z.settings) s.1
sweep_settings now w u (Err f) s = ap (λ (z : World). z.settings) s

pub takes_settings : (request : RequestLine) (old new : State) (text : List ℕ) → Takes request old new text → new.queue.settings ≡ old.queue.settings
takes_settings (Now n) old new text t = ap (λ (z : World). z.settings) t.1
takes_settings (Ipp digits) old new text t = message_settings old.now old.queue new.queue t.1.0 text t.1.2
takes_settings (Dev line) old new text t = line_settings old.now old.queue new.queue (line.now ++ 10 ∷ []) text t.1
takes_settings (Grant row) old new text t = import_settings old.now old.queue new.queue (file_of row.now) t.1.0 t.1.1
takes_settings Expire old new text t = sweep_settings old.now old.queue new.queue t.1.0 t.1.1

-- ---- a message

-- one that has a reply has 8 bytes, where each shorter one is refused
pub headed : (message : List ℕ) (r : Result Answer TooShort) → (length message < 8 → IsErr r) → OnOk r (8 ≤ length message)
headed message (Err short) under = tt
headed message (Ok reply) under = elim (cases_lt (length message) 8) [
  | inl few ↦ absurd (false≢true (under few))
  | inr many ↦ many
]

-- an answer that is a reply brings what it brings
pub is_reply : (old new : World → Type 0) (now : ℕ) (set : SettingValues) (message : List ℕ) (r : Result Answer TooShort)
    → ((w : World) → old w → set ≡ w.settings → (u : World) × BringsAnswer w now message u r × new u)
    → IfOk r (λ a. (w : World) → old w → set ≡ w.settings → (u : World) × BringsReply w now message u (bytes_of a) × new u)
is_reply old new now set message (Ok a) brings = brings
is_reply old new now set message (Err e) brings = tt
