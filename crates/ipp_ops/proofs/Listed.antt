-- What is listed may stand in a message, where the request is one.
use Rattle.std.proofs.Common.{ℕ, List, [], ◌∷◌, ◌==◌, Bool, true, false, lit<, lit≤, refl, Result, Ok, Err, zero, suc}
use Rattle.std.specs.Prelude.{Option, Some, None, IfSome, filter, find, cond, if◌then◌else◌}
use Rattle.std.specs.List.{AllByRecursion, filter_map, cons_option}
use Rattle.std.specs.Option.{option_map_or}
use Rattle.ipp_wire.specs.Message.{Attribute, Group, Message, IsAttribute, IsGroup, IsMessage, IsNested}
use Rattle.ipp_reply.specs.declared.operation.Operation.{Operation}
use Rattle.ipp_request.specs.declared.unsupported.Source.{Source}
use Rattle.ipp_request.specs.declared.unsupported.Source.TheVariants.{OperationGroup, JobGroup}
use Rattle.ipp_ops.specs.declared.check.Check.{Check}
use Rattle.ipp_request.specs.Attributes.{Support, makes_job}
use Rattle.ipp_request.specs.Values.{are_supported}
use Rattle.ipp_request.specs.Request.{Request, attributes_in, request_for}
use Rattle.ipp_request.specs.Unsupported.{counted, listed, listed_by, listed_in, support_for, unsupported}
use Rattle.ipp_ops.specs.Checks.{refusal}
use Rattle.ipp_request.specs.Reading.{groups_begin, request_by}
use Rattle.ipp_request.specs.Unsupported.{is_refused_for}
use Rattle.ipp_ops.specs.Verdict.{verdict, request_verdict, listed_verdict, checked_verdict, ListsAttributes}
use Rattle.ipp_reply.specs.Unsupported.{Unsupported, CanList}

all_filtered : (p : Attribute → Bool) (attrs : List Attribute) → AllByRecursion IsAttribute attrs → AllByRecursion IsAttribute (filter p attrs)
all_filtered p [] h = tt
all_filtered p (a ∷ attrs) h = elim (p a) as (λ b. AllByRecursion IsAttribute (cond b (a ∷ filter p attrs) (filter p attrs))) [ true ↦ (h.0, all_filtered p attrs h.1) | false ↦ all_filtered p attrs h.1 ]

all_counted : (attrs : List Attribute) → AllByRecursion IsAttribute attrs → AllByRecursion IsAttribute (counted attrs)
all_counted [] h = tt
all_counted (a ∷ attrs) h = (h.0, all_filtered _ (counted attrs) (all_counted attrs h.1))

one_more : (o : Option Attribute) (attrs : List Attribute) → IfSome o IsAttribute → AllByRecursion IsAttribute attrs → AllByRecursion IsAttribute (cons_option o attrs)
one_more None attrs h all = all
one_more (Some a) attrs h all = (h, all)

all_mapped : (f : Attribute → Option Attribute) → ((a : Attribute) → IsAttribute a → IfSome (f a) IsAttribute) → (attrs : List Attribute) → AllByRecursion IsAttribute attrs → AllByRecursion IsAttribute (filter_map f attrs)
all_mapped f fits [] h = tt
all_mapped f fits (a ∷ attrs) h = one_more (f a) (filter_map f attrs) (fits a h.0) (all_mapped f fits attrs h.1)

supported_or_not : (b : Bool) (a : Attribute) → IsAttribute a → IfSome (cond b None (Some a)) IsAttribute
supported_or_not true a h = tt
supported_or_not false a h = h

-- the value of an unknown attribute opens no collection
none_nested : IsNested (record { tag = 0x10; bytes = [] } ∷ [])
none_nested zero = (lit≤ tt, lit≤ tt)
none_nested (suc zero) = (lit≤ tt, lit≤ tt)
none_nested (suc (suc k)) = (lit≤ tt, lit≤ tt)

listed_fits : (s : Option Support) (a : Attribute) → IsAttribute a → IfSome (listed_by s a) IsAttribute
listed_fits None a h =
    record {
      begun = record { named = h.begun.named; short = h.begun.short; valued = lit< tt; values = (record { tag_low = lit≤ tt; tag_high = lit< tt; short = lit< tt }, tt); nested = none_nested };
      closed = refl;
    }
listed_fits (Some s) a h = supported_or_not (are_supported s a.values) a h

all_listed : (s : Source) (attrs : List Attribute) → AllByRecursion IsAttribute attrs → AllByRecursion IsAttribute (listed_in s attrs)
all_listed s attrs h = all_mapped (listed s) (λ a. listed_fits (support_for s a.name) a) (counted attrs) (all_counted attrs h)

group_fits : (tag : ℕ) (gs : List Group) → AllByRecursion IsGroup gs → AllByRecursion IsAttribute (attributes_in tag gs)
group_fits tag [] h = tt
group_fits tag (g ∷ gs) h =
    elim (g.tag == tag) as (λ b. AllByRecursion IsAttribute (option_map_or (λ x. x.attributes) (cond b (Some g) (find (λ x. x.tag == tag) gs)) []))
    [ true ↦ h.0.attributes | false ↦ group_fits tag gs h.1 ]

where_made : (b : Bool) (attrs : List Attribute) → AllByRecursion IsAttribute attrs → AllByRecursion IsAttribute (cond b attrs [])
where_made true attrs h = h
where_made false attrs h = tt

can_list : (o : Operation) (m : Message) → IsMessage m → CanList (unsupported (request_for o m))
can_list o m h = (
  all_listed (OperationGroup o) (attributes_in 0x01 m.groups) (group_fits 0x01 m.groups h.groups),
  where_made (makes_job o) (listed_in JobGroup (attributes_in 0x02 m.groups)) (all_listed JobGroup (attributes_in 0x02 m.groups) (group_fits 0x02 m.groups h.groups)),
)

past_lists : (r : Request) (u : Unsupported) (b : Bool) → CanList u → ListsAttributes (listed_verdict r u b)
past_lists r u true h = h
past_lists r u false h = h

with_lists : (r : Request) (c : Option Check) → CanList (unsupported r) → ListsAttributes (checked_verdict r c)
with_lists r (Some c) h = (tt, tt)
with_lists r None h = past_lists r (unsupported r) (is_refused_for r (unsupported r)) h

ordered_lists : (b : Bool) (o : Operation) (m : Message) → IsMessage m → ListsAttributes (request_verdict (if b then Ok (request_for o m) else Err 0x0400))
ordered_lists true o m h = with_lists (request_for o m) (refusal (request_for o m)) (can_list o m h)
ordered_lists false o m h = (tt, tt)

by_operation_lists : (o : Result Operation ℕ) (m : Message) → IsMessage m → ListsAttributes (request_verdict (request_by o m))
by_operation_lists (Err code) m h = (tt, tt)
by_operation_lists (Ok o) m h = ordered_lists (groups_begin m.groups) o m h

-- what the answer to a message lists may stand in one
pub verdict_lists : (m : Message) → IsMessage m → ListsAttributes (verdict m)
verdict_lists m h = by_operation_lists _ m h
