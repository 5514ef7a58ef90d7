-- What a request asks is within the machine's limits.
use Rattle.std.proofs.Common.{◌≡◌, ℕ, ◌≤◌, List, [], ◌∷◌, ◌++◌, Bool, true, false, ◌&&◌, length, length-append, refl, sym, subst, arith, lit≤, Result, Ok, Err}
use Rattle.std.specs.Prelude.{Option, Some, None, codes, unwrap_or, nat_le, IfSome, not, if◌then◌else◌}
use Rattle.std.specs.Option.{option_map_or}
use Rattle.std.specs.List.{flat_map}
use Rattle.std.proofs.lemmas.Bool.{and_parts, leb-true}
use Rattle.ipp_wire.specs.Message.{Value, Attribute, Message, Spells, head_bytes, group_bytes}
use Rattle.queue_types.specs.Event.{Event, ask, tell, grant, expire}
use Rattle.queue_types.specs.declared.event.Reply.{Reply}
use Rattle.queue_core.specs.Limits.{IsOwner, IsJobName, IsNewJob, IsCall, IsEvent, IsReplyTo, IsSoundReply}
use Rattle.ipp_reply.specs.declared.operation.Operation.{Operation}
use Rattle.ipp_reply.specs.declared.operation.Operation.TheVariants.{PrintJob, ValidateJob, CreateJob, SendDocument}
use Rattle.ipp_reply.specs.Unsupported.{Unsupported}
use Rattle.ipp_request.specs.declared.attribute.OperationAttribute.TheVariants as key
use Rattle.ipp_request.specs.declared.attribute.JobGroupAttribute.TheVariants as in_job_group
use Rattle.ipp_ops.specs.declared.check.Check.{Check}
use Rattle.ipp_request.specs.Attributes.{row, table, job_group_name, between}
use Rattle.ipp_request.specs.Values.{are_formed, any_long, is_within, number_of}
use Rattle.ipp_request.specs.Request.{Request, request_for, known, named, has, text_in, caller}
use Rattle.ipp_request.specs.Unsupported.{unsupported}
use Rattle.ipp_ops.specs.Answer.{Asks, refuses, calls, IsAsk, IsVerdictOn, by_head, malformed, request}
use Rattle.ipp_ops.specs.Checks.{applies, checks, refusal, fails, some_fails}
use Rattle.ipp_request.specs.Reading.{groups_begin, request_by}
use Rattle.ipp_request.specs.Unsupported.{is_refused_for}
use Rattle.ipp_ops.specs.NewJob.{supported_number, job_group_number, job_name, new_job}
use Rattle.ipp_ops.specs.Verdict.{Verdict, passed, call_by, verdict, request_verdict, listed_verdict, checked_verdict, IsWithinLimits}
use Rattle.ipp_ops.proofs.Tests.{list_any_false, find_none}
use Rattle.ipp_ops.proofs.Texts.{anonymous_owns, untitled_names, owns, names, of_attribute}

-- ---- names

-- the checks of form and length find nothing
pub record ArePassed (r : Request) : Type 0 where
  pub form : some_fails (λ row vs. not (are_formed row vs)) r ≡ false
  pub length : some_fails any_long r ≡ false

checks_passed : (r : Request) → refusal r ≡ None → ArePassed r
checks_passed r h = let checked = find_none (λ c. applies c r) checks h in record { form = checked.1.0; length = checked.1.1.0 }

caller_owns : (r : Request) → ArePassed r → IsOwner (caller r)
caller_owns r p =
    of_attribute (λ t. IsOwner t) (row key.RequestingUserName) (codes "anonymous") anonymous_owns owns (known r key.RequestingUserName)
    (list_any_false (fails (λ row vs. not (are_formed row vs)) r) table p.form).1.1.1.1.1.0
    (list_any_false (fails any_long r) table p.length).1.1.1.1.1.0

document_names : (r : Request) → ArePassed r → IsJobName (unwrap_or (text_in r key.DocumentName) (codes "untitled"))
document_names r p =
    of_attribute (λ t. IsJobName t) (row key.DocumentName) (codes "untitled") untitled_names names (known r key.DocumentName)
    (list_any_false (fails (λ row vs. not (are_formed row vs)) r) table p.form).1.1.1.1.1.1.1.0
    (list_any_false (fails any_long r) table p.length).1.1.1.1.1.1.1.0

job_names : (r : Request) → ArePassed r → IsJobName (job_name r)
job_names r p =
    of_attribute (λ t. IsJobName t) (row key.JobName) _ (document_names r p) names (known r key.JobName)
    (list_any_false (fails (λ row vs. not (are_formed row vs)) r) table p.form).1.1.1.1.1.1.0
    (list_any_false (fails any_long r) table p.length).1.1.1.1.1.1.0

-- ---- numbers

if_within : (b : Bool) (low high n : ℕ) → is_within low high n ≡ b → IfSome (if b then Some n else None) (λ k. (low ≤ k) × (k ≤ high))
if_within true low high n e = let w = and_parts (nat_le low n) (nat_le n high) e in (leb-true _ _ w.0, leb-true _ _ w.1)
if_within false low high n e = tt

number_within : (tagged : Bool) (low high : ℕ) (n : Option ℕ) → IfSome (if tagged && option_map_or (is_within low high) n false then n else None) (λ k. (low ≤ k) × (k ≤ high))
number_within false low high n = tt
number_within true low high None = tt
number_within true low high (Some n) = if_within (is_within low high n) low high n refl

values_within : (low high : ℕ) (name : List ℕ) (vs : List Value) → IfSome (supported_number (between low high) (Some (record { name = name; values = vs }))) (λ k. (low ≤ k) × (k ≤ high))
values_within low high name [] = tt
values_within low high name (v ∷ []) = number_within _ low high (number_of v.bytes)
values_within low high name (v ∷ w ∷ vs) = tt

pub supported_within : (low high : ℕ) (a : Option Attribute) → IfSome (supported_number (between low high) a) (λ k. (low ≤ k) × (k ≤ high))
supported_within low high None = tt
supported_within low high (Some a) = values_within low high a.name a.values

or_one : (n : Option ℕ) → IfSome n (λ k. (1 ≤ k) × (k ≤ 999)) → (1 ≤ unwrap_or n 1) × (unwrap_or n 1 ≤ 999)
or_one None h = (lit≤ tt, lit≤ tt)
or_one (Some n) h = h

at_most : (high : ℕ) (n : Option ℕ) → IfSome n (λ k. (0 ≤ k) × (k ≤ high)) → IfSome n (λ k. k ≤ high)
at_most high None h = tt
at_most high (Some n) h = h.1

either : (b : Bool) (x y : Option ℕ) → IfSome x (λ n. n ≤ 100000) → IfSome y (λ n. n ≤ 100000) → IfSome (if b then x else y) (λ n. n ≤ 100000)
either true x y p q = p
either false x y p q = q

-- ---- the call

new_job_fits : (r : Request) → ArePassed r → IsNewJob (new_job r)
new_job_fits r p = record {
  name = job_names r p;
  copies = or_one (job_group_number r in_job_group.Copies) (supported_within 1 999 (named (job_group_name in_job_group.Copies) r.job_attributes));
  impressions = either (has r key.JobImpressions) _ _
      (at_most 100000 _ (supported_within 0 100000 (known r key.JobImpressions)))
      (at_most 100000 _ (supported_within 0 100000 (named (job_group_name in_job_group.JobImpressions) r.job_attributes)));
}

call_fits : (o : Operation) (r : Request) → ArePassed r → length r.payload ≤ 16777216 → IsCall (call_by o r)
call_fits PrintJob r p h = (new_job_fits r p, h)
call_fits ValidateJob r p h = new_job_fits r p
call_fits CreateJob r p h = new_job_fits r p
call_fits SendDocument r p h = h
call_fits _ r p h = tt

past_fits : (r : Request) (u : Unsupported) (b : Bool) → ArePassed r → length r.payload ≤ 16777216 → IsWithinLimits (listed_verdict r u b)
past_fits r u true p h = tt
past_fits r u false p h = (caller_owns r p, call_fits r.operation r p h)

with_fits : (r : Request) (c : Option Check) → refusal r ≡ c → length r.payload ≤ 16777216 → IsWithinLimits (checked_verdict r c)
with_fits r (Some c) e h = tt
with_fits r None e h = past_fits r (unsupported r) (is_refused_for r (unsupported r)) (checks_passed r e) h

ordered_fits : (b : Bool) (o : Operation) (m : Message) → length m.payload ≤ 16777216 → IsWithinLimits (request_verdict (if b then Ok (request_for o m) else Err 0x0400))
ordered_fits true o m h = with_fits (request_for o m) (refusal (request_for o m)) refl h
ordered_fits false o m h = tt

by_operation_fits : (o : Result Operation ℕ) (m : Message) → length m.payload ≤ 16777216 → IsWithinLimits (request_verdict (request_by o m))
by_operation_fits (Err code) m h = tt
by_operation_fits (Ok o) m h = ordered_fits (groups_begin m.groups) o m h

-- a request with such a payload asks nothing but events within the limits
pub verdict_fits : (m : Message) → length m.payload ≤ 16777216 → IsWithinLimits (verdict m)
verdict_fits m h = by_operation_fits _ m h

-- ---- what bytes ask

longer_by : (a c : List ℕ) → length c ≤ length (a ++ 3 ∷ c)
longer_by a c = omega (arith, length-append a (3 ∷ c))

-- a payload is no longer than the bytes of its message
payload_short : (m : Message) (b : List ℕ) → Spells m b → length m.payload ≤ length b
payload_short m b s = subst (λ (x : List ℕ). length m.payload ≤ length x) (sym s.bytes) (longer_by (head_bytes m.head ++ flat_map group_bytes m.groups) m.payload)

bytes_fit : (b : List ℕ) (v : Verdict) → length b ≤ 16777216 → IsVerdictOn b v → IsWithinLimits v
bytes_fit b _ h (by_head code e) = tt
bytes_fit b _ h (malformed e p) = tt
bytes_fit b _ h (request m s) = verdict_fits m (omega (arith, payload_short m b s))

pub asked_fits : (b : List ℕ) (e : Option Event) → length b ≤ 16777216 → Asks b e → IfSome e IsEvent
asked_fits b _ h (refuses code u on) = tt
asked_fits b _ h (calls caller call rows u on) = bytes_fit b (passed caller call rows u) h on

-- ---- what is answered

-- the reply to a request can be shown
pub asked_reply : (e : Event) (r : Reply) → IsAsk e → IsReplyTo e r → IsSoundReply r
asked_reply (ask caller call) r is sound = sound
asked_reply (tell report) r is sound = absurd is
asked_reply (grant rows) r is sound = absurd is
asked_reply expire r is sound = absurd is
