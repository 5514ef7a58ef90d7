-- What a request asks of jobs names them by numbers that jobs may have.
use Rattle.std.proofs.Common.{◌≡◌, ℕ, ◌≤◌, List, [], ◌∷◌, Bool, true, false, ◌&&◌, refl, arith, Result, Ok, Err, map}
use Rattle.std.specs.Prelude.{Option, Some, None, IfSome, All, ⊤, is_some, nat_le, option_map, unwrap_or, if◌then◌else◌}
use Rattle.std.specs.List.{AllByRecursion, list_all}
use Rattle.std.specs.Option.{option_and_then, option_map_or}
use Rattle.std.proofs.lemmas.List.Elements.{All-from_recursion}
use Rattle.std.proofs.lemmas.Bool.{and_parts, leb-true, not-false}
use Rattle.ipp_wire.specs.Message.{Value, Attribute, Message}
use Rattle.queue_types.specs.Event.{Call, Event, ask, cancel_my_jobs, on_job}
use Rattle.queue_core.specs.Limits.{IsPositive}
use Rattle.ipp_reply.specs.Unsupported.{Unsupported}
use Rattle.ipp_reply.specs.declared.operation.Operation.{Operation}
use Rattle.ipp_reply.specs.declared.operation.Operation.TheVariants.{SendDocument, CancelJob, GetJobAttributes, HoldJob, ReleaseJob, CancelMyJobs}
use Rattle.ipp_request.specs.declared.attribute.OperationAttribute.TheVariants as key
use Rattle.ipp_request.specs.Attributes.{is_on_job}
use Rattle.ipp_request.specs.Reading.{request_by, operation_in, groups_begin}
use Rattle.ipp_request.specs.Request.{Request, request_for, known, has, bytes_of, job_in, job_of_id, is_printer, is_target, is_job_number, are_job_numbers, target_job}
use Rattle.ipp_request.specs.Unsupported.{unsupported, is_refused_for}
use Rattle.ipp_request.specs.Values.{is_positive, number_of}
use Rattle.queue_types.specs.Uri.{path_of}
use Rattle.ipp_ops.specs.declared.check.Check.{Check}
use Rattle.ipp_ops.specs.Answer.{Asks, refuses, calls, IsVerdictOn, by_head, malformed, request}
use Rattle.ipp_ops.specs.Checks.{applies, checks, refusal}
use Rattle.ipp_ops.specs.Verdict.{Verdict, refused, passed, call_by, request_verdict, listed_verdict, checked_verdict}
use Rattle.ipp_ops.proofs.Laws.{path_named}
use Rattle.ipp_ops.proofs.Tests.{find_none}

-- the numbers of the jobs that are to be canceled, where the call has some
abbrev numbers_in : Call → Option (List ℕ)
numbers_in (cancel_my_jobs numbers) = numbers
numbers_in call = None

abbrev pub IsNumbered : Call → Type 0
IsNumbered call = IfSome (on_job call) IsPositive × IfSome (numbers_in call) (All IsPositive)

-- ---- numbers

positive_is : (n : ℕ) → is_positive n ≡ true → IsPositive n
positive_is n h =
    let e = and_parts (nat_le 1 n) (nat_le n 2147483647) h in
    let high : n ≤ 2147483647 = leb-true _ _ e.1 in
    (leb-true _ _ e.0, omega arith)

number_positive : (n : Option ℕ) → option_map_or is_positive n false ≡ true → IsPositive (unwrap_or n 0)
number_positive None h = absurd (cc)
number_positive (Some n) h = positive_is n h

values_positive : (vs : List Value) → list_all is_job_number vs ≡ true → AllByRecursion IsPositive (map (λ v. unwrap_or (number_of v.bytes) 0) vs)
values_positive [] h = tt
values_positive (v ∷ vs) h = let e = and_parts (is_job_number v) (list_all is_job_number vs) h in (number_positive (number_of v.bytes) e.0, values_positive vs e.1)

ids_positive : (a : Option Attribute) → option_map_or (λ a. list_all is_job_number a.values) a true ≡ true → IfSome (option_map (λ a. map (λ v. unwrap_or (number_of v.bytes) 0) a.values) a) (All IsPositive)
ids_positive None h = tt
ids_positive (Some a) h = All-from_recursion IsPositive _ (values_positive a.values h)

-- ---- the target

each_is : (P : ℕ → Type 0) (o : Option ℕ) → ((n : ℕ) → o ≡ Some n → P n) → IfSome o P
each_is P None h = tt
each_is P (Some n) h = h n refl

path_positive : (path : List ℕ) → IfSome (job_in path) IsPositive
path_positive path = each_is IsPositive (job_in path) (λ n e. let is = path_named path n e in (is.low, omega (arith, is.high)))

id_chosen : (b : Bool) (n : ℕ) → is_positive n ≡ b → IfSome (if b then Some n else None) IsPositive
id_chosen true n e = positive_is n e
id_chosen false n e = tt

id_positive : (n : Option ℕ) → IfSome (option_and_then job_of_id n) IsPositive
id_positive None = tt
id_positive (Some n) = id_chosen (is_positive n) n refl

either : (b : Bool) (x y : Option ℕ) → IfSome x IsPositive → IfSome y IsPositive → IfSome (if b then x else y) IsPositive
either true x y h k = h
either false x y h k = k

target_positive : (r : Request) → IfSome (target_job r) IsPositive
target_positive r =
    either (has r key.JobUri) _ _ (path_positive (path_of (bytes_of r key.JobUri)))
    (either (is_printer (bytes_of r key.PrinterUri)) _ None (id_positive (number_of (bytes_of r key.JobId))) tt)

some_positive : (n : Option ℕ) → is_some n ≡ true → IfSome n IsPositive → IsPositive (unwrap_or n 0)
some_positive None h p = absurd (cc)
some_positive (Some n) h p = p

job_positive : (r : Request) → is_some (target_job r) ≡ true → IsPositive (unwrap_or (target_job r) 0)
job_positive r h = some_positive (target_job r) h (target_positive r)

-- ---- the call

call_numbered : (o : Operation) (r : Request) → (if is_on_job o then is_some (target_job r) else is_printer (bytes_of r key.PrinterUri) && are_job_numbers r) ≡ true → IsNumbered (call_by o r)
call_numbered SendDocument r h = (job_positive r h, tt)
call_numbered CancelJob r h = (job_positive r h, tt)
call_numbered GetJobAttributes r h = (job_positive r h, tt)
call_numbered HoldJob r h = (job_positive r h, tt)
call_numbered ReleaseJob r h = (job_positive r h, tt)
call_numbered CancelMyJobs r h = (tt, ids_positive (known r key.JobIds) (and_parts (is_printer (bytes_of r key.PrinterUri)) (are_job_numbers r) h).1)
call_numbered _ r h = (tt, tt)

-- ---- the verdict

abbrev NumberedVerdict : Verdict → Type 0
NumberedVerdict (refused code u) = ⊤
NumberedVerdict (passed caller call rows u) = IsNumbered call

past_numbered : (r : Request) (u : Unsupported) (b : Bool) → is_target r ≡ true → NumberedVerdict (listed_verdict r u b)
past_numbered r u true h = tt
past_numbered r u false h = call_numbered r.operation r h

with_numbered : (r : Request) (c : Option Check) → refusal r ≡ c → NumberedVerdict (checked_verdict r c)
with_numbered r (Some c) e = tt
with_numbered r None e = past_numbered r (unsupported r) (is_refused_for r (unsupported r)) (not-false (is_target r) (find_none (λ c. applies c r) checks e).1.1.1.1.0)

ordered_numbered : (b : Bool) (o : Operation) (m : Message) → NumberedVerdict (request_verdict (if b then Ok (request_for o m) else Err 0x0400))
ordered_numbered true o m = with_numbered (request_for o m) (refusal (request_for o m)) refl
ordered_numbered false o m = tt

by_operation_numbered : (o : Result Operation ℕ) (m : Message) → NumberedVerdict (request_verdict (request_by o m))
by_operation_numbered (Err code) m = tt
by_operation_numbered (Ok o) m = ordered_numbered (groups_begin m.groups) o m

bytes_numbered : (b : List ℕ) (v : Verdict) → IsVerdictOn b v → NumberedVerdict v
bytes_numbered b _ (by_head code e) = tt
bytes_numbered b _ (malformed e p) = tt
bytes_numbered b _ (request m s) = by_operation_numbered (operation_in m.head) m

abbrev NumberedEvent : Event → Type 0
NumberedEvent (ask caller call) = IsNumbered call
NumberedEvent _ = ⊤

-- what bytes ask
pub asked_numbered : (b : List ℕ) (e : Option Event) → Asks b e → IfSome e NumberedEvent
asked_numbered b _ (refuses code u on) = tt
asked_numbered b _ (calls caller call rows u on) = bytes_numbered b (passed caller call rows u) on
