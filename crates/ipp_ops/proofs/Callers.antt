-- The caller of a request is named by the first requesting-user-name of its first group.
use Rattle.std.proofs.Common.{◌≡◌, ℕ, zero, suc, ◌<◌, ◌^◌, ◌==◌, List, [], ◌∷◌, ◌++◌, Bool, true, false, ◌||◌, cond, length, get_or, refl, sym, subst, arith, Result, Ok, Err}
use Rattle.std.specs.Prelude.{Option, Some, None, IfSome, ⊤, All, bytes_eq, codes, find, not, unwrap_or, if◌then◌else◌}
use Rattle.std.specs.List.{AllByRecursion, flat_map, list_all}
use Rattle.std.specs.Option.{option_and_then, option_map_or}
use Rattle.std.specs.Str.{is_utf8}
use Rattle.std.proofs.lemmas.Bool.{and_parts, eqb-true, not-false}
use Rattle.std.proofs.lemmas.List.Elements.{recursion_from_All}
use Rattle.ipp_wire.specs.Message.{Value, Attribute, Group, Message, Spells, attribute_bytes, group_bytes, head_bytes, record_bytes, spelling, text_bytes, values_under}
use Rattle.queue_types.specs.Event.{Event, ask}
use Rattle.ipp_reply.specs.Unsupported.{Unsupported}
use Rattle.ipp_reply.specs.declared.operation.Operation.{Operation}
use Rattle.ipp_reply.specs.declared.operation.Operation.TheVariants.{PrintJob}
use Rattle.ipp_request.specs.declared.attribute.OperationAttribute.TheVariants as key
use Rattle.ipp_request.specs.declared.attribute.Syntax.TheVariants.{UserName}
use Rattle.ipp_request.specs.Attributes.{knows, row, table}
use Rattle.ipp_request.specs.Reading.{attributes_begin, groups_begin, operation_in, request_by}
use Rattle.ipp_request.specs.Request.{Request, attributes_in, caller, filled, first_value, request_for}
use Rattle.ipp_request.specs.Unsupported.{is_refused_for, unsupported}
use Rattle.queue_core.specs.Limits.{is_no_control}
use Rattle.ipp_request.specs.Values.{are_formed, behind_language, has_shape, is_shaped, is_tagged, text_of}
use Rattle.ipp_ops.specs.declared.check.Check.{Check}
use Rattle.ipp_ops.specs.Answer.{Asks, refuses, calls, IsVerdictOn, by_head, malformed, request}
use Rattle.ipp_ops.specs.Caller.{IsName, without_language, with_language, IsCallerBy, absent, empty, named, IsCallerOf}
use Rattle.ipp_ops.specs.Checks.{applies, checks, fails, refusal, some_fails}
use Rattle.ipp_ops.specs.Verdict.{Verdict, refused, passed, request_verdict, listed_verdict, checked_verdict}
use Rattle.ipp_ops.proofs.Tests.{find_none, list_any_false}

-- ---- the bytes of a value are bytes

abbrev AreBytes : List ℕ → Type 0
AreBytes xs = AllByRecursion (λ x. x < 256) xs

front : (xs ys : List ℕ) → AreBytes (xs ++ ys) → AreBytes xs
front [] ys h = tt
front (x ∷ xs) ys h = (h.0, front xs ys h.1)

back : (xs ys : List ℕ) → AreBytes (xs ++ ys) → AreBytes ys
back [] ys h = h
back (x ∷ xs) ys h = back xs ys h.1

each : (xs : List ℕ) → AreBytes xs → (i : ℕ) → get_or xs i 0 < 256
each [] h i = omega arith
each (x ∷ xs) h zero = h.0
each (x ∷ xs) h (suc i) = each xs h.1 i

chosen : (b : Bool) (a : Attribute) (o : Option Attribute) → AreBytes (attribute_bytes a) → IfSome o (λ a. AreBytes (attribute_bytes a)) → IfSome (cond b (Some a) o) (λ a. AreBytes (attribute_bytes a))
chosen true a o h k = h
chosen false a o h k = k

found : (p : Attribute → Bool) (attrs : List Attribute) → AreBytes (flat_map attribute_bytes attrs) → IfSome (find p attrs) (λ a. AreBytes (attribute_bytes a))
found p [] h = tt
found p (a ∷ attrs) h =
    chosen (p a) a (find p attrs)
    (front (attribute_bytes a) (flat_map attribute_bytes attrs) h)
    (found p attrs (back (attribute_bytes a) (flat_map attribute_bytes attrs) h))

of_value : (name : List ℕ) (v : Value) → AreBytes (values_under name (v ∷ [])) → AreBytes v.bytes
of_value name v h = (back (text_bytes name) (text_bytes v.bytes) (front (record_bytes name v) [] h).1).1.1

-- ---- the name of a value

abbrev ReadsNames : Type 0
ReadsNames = (bytes name : List ℕ) → ((i : ℕ) → get_or bytes i 0 < 256) → behind_language bytes ≡ Some name
    → (language : List ℕ) × (length language < 2 ^ 16) × (length name < 2 ^ 16) × (bytes ≡ text_bytes language ++ text_bytes name)

as_name : (v : Value) (t : List ℕ) → v.tag ≡ 0x42 → text_of v ≡ Some t → IsName v t
as_name v t e h =
    let P : ℕ → Type 0 = λ tag. (if tag == 0x36 then behind_language v.bytes else Some v.bytes) ≡ Some t in
    let whole : Some v.bytes ≡ Some t = subst P e h in
    let same : v.bytes ≡ t = cc in without_language e same

as_name_with_language : ReadsNames → (v : Value) (t : List ℕ) → AreBytes v.bytes → v.tag ≡ 0x36 → text_of v ≡ Some t → IsName v t
as_name_with_language reads v t bytes e h =
    let P : ℕ → Type 0 = λ tag. (if tag == 0x36 then behind_language v.bytes else Some v.bytes) ≡ Some t in
    let is = reads v.bytes t (each v.bytes bytes) (subst P e h) in with_language is.0 is.1 is.2 e is.3

by_tag : ReadsNames → (v : Value) (t : List ℕ) → AreBytes v.bytes → text_of v ≡ Some t → (x y : Bool) → (0x42 == v.tag) ≡ x → (0x36 == v.tag) ≡ y → (x || (y || false)) ≡ true → IsName v t
by_tag reads v t bytes h true y p q tagged = as_name v t (sym (eqb-true 0x42 v.tag p)) h
by_tag reads v t bytes h false true p q tagged = as_name_with_language reads v t bytes (sym (eqb-true 0x36 v.tag q)) h
by_tag reads v t bytes h false false p q tagged = absurd (cc)

-- ---- the caller by an attribute

filled_named : (a : Attribute) (t : List ℕ) (u : Bool) → u ≡ true → IsCallerBy (Some a) t → IsCallerBy (Some a) (unwrap_or (if u then Some t else None) (codes "anonymous"))
filled_named a t true e is = is
filled_named a t false e is = absurd (cc)

by_text : (a : Attribute) (v : Value) (t : List ℕ) → a.values ≡ v ∷ [] → IsName v t → is_utf8 t ≡ true → IsCallerBy (Some a) (unwrap_or (filled t) (codes "anonymous"))
by_text a v [] one is utf8 = empty a v one is
by_text a v (x ∷ xs) one is utf8 = filled_named a (x ∷ xs) (is_utf8 (x ∷ xs)) utf8 (named a v (x ∷ xs) one is (omega arith))

by_value : ReadsNames → (a : Attribute) (v : Value) → a.values ≡ v ∷ [] → AreBytes v.bytes → is_tagged UserName v ≡ true → (t : Option (List ℕ)) → text_of v ≡ t → option_map_or (has_shape UserName) t false ≡ true
    → IsCallerBy (Some a) (unwrap_or (option_and_then filled t) (codes "anonymous"))
by_value reads a v one bytes tagged None e shaped = absurd (cc)
by_value reads a v one bytes tagged (Some t) e shaped =
    by_text a v t one (by_tag reads v t bytes e (0x42 == v.tag) (0x36 == v.tag) refl refl tagged) (and_parts (is_utf8 t) (list_all is_no_control t) shaped).0

by_values : ReadsNames → (name : List ℕ) (vs : List Value) → not (are_formed (row key.RequestingUserName) vs) ≡ false → AreBytes (values_under name vs)
    → IsCallerBy (Some (record { name = name; values = vs })) (unwrap_or (option_and_then (λ v. option_and_then filled (text_of v)) (first_value vs)) (codes "anonymous"))
by_values reads name [] formed bytes = absurd (cc)
by_values reads name (v ∷ []) formed bytes =
    let shaped = and_parts (is_shaped UserName v) (list_all (is_shaped UserName) []) (not-false (are_formed (row key.RequestingUserName) (v ∷ [])) formed) in
    let parts = and_parts (is_tagged UserName v) (option_map_or (has_shape UserName) (text_of v) false) shaped.0 in
    by_value reads (record { name = name; values = v ∷ [] }) v refl (of_value name v bytes) parts.0 (text_of v) refl parts.1
by_values reads name (v ∷ w ∷ vs) formed bytes =
    let one = and_parts (length (v ∷ w ∷ vs) == 1) (list_all (is_shaped UserName) (v ∷ w ∷ vs)) (not-false (are_formed (row key.RequestingUserName) (v ∷ w ∷ vs)) formed) in
    let size : length (v ∷ w ∷ vs) ≡ 1 = eqb-true (length (v ∷ w ∷ vs)) 1 one.0 in absurd (omega arith)

by_attribute : ReadsNames → (a : Option Attribute) → option_map_or (λ a. not (are_formed (row key.RequestingUserName) a.values)) a false ≡ false → IfSome a (λ a. AreBytes (attribute_bytes a))
    → IsCallerBy a (unwrap_or (option_and_then (λ v. option_and_then filled (text_of v)) (option_and_then (λ a. first_value a.values) a)) (codes "anonymous"))
by_attribute reads None formed bytes = absent
by_attribute reads (Some a) formed bytes = by_values reads a.name a.values formed bytes

-- each operation knows the attribute
on_known : ReadsNames → (b : Bool) → b ≡ true → (a : Option Attribute) → option_map_or (λ a. not (are_formed (row key.RequestingUserName) a.values)) (if b then a else None) false ≡ false → IfSome a (λ a. AreBytes (attribute_bytes a))
    → IsCallerBy a (unwrap_or (option_and_then (λ v. option_and_then filled (text_of v)) (option_and_then (λ a. first_value a.values) (if b then a else None))) (codes "anonymous"))
on_known reads true e a formed bytes = by_attribute reads a formed bytes
on_known reads false e a formed bytes = absurd (cc)

known_in_all : (o : Operation) → knows o key.RequestingUserName ≡ true
known_in_all PrintJob = refl
known_in_all _ = refl

-- ---- the caller of a request

abbrev names_user : Attribute → Bool
names_user a = bytes_eq a.name (codes "requesting-user-name")

abbrev IsFormed : Request → Type 0
IsFormed r = some_fails (λ row vs. not (are_formed row vs)) r ≡ false

caller_named : ReadsNames → (r : Request) → IsFormed r → AreBytes (flat_map attribute_bytes r.attributes) → IsCallerBy (find names_user r.attributes) (caller r)
caller_named reads r formed bytes =
    on_known reads (knows r.operation key.RequestingUserName) (known_in_all r.operation) (find names_user r.attributes)
    (list_any_false (fails (λ row vs. not (are_formed row vs)) r) table formed).1.1.1.1.1.0
    (found names_user r.attributes bytes)

-- the operation group is the first of these groups
record IsFirst (groups : List Group) : Type 0 where
  operation : Group
  others : List Group
  first : groups ≡ operation ∷ others
  tag : operation.tag ≡ 0x01
  attributes : attributes_in 0x01 groups ≡ operation.attributes

first_group : (b : Bool) (g : Group) (o : Option Group) → b ≡ true → option_map_or (λ g. g.attributes) (cond b (Some g) o) [] ≡ g.attributes
first_group true g o e = refl
first_group false g o e = absurd (cc)

first_of : (groups : List Group) → groups_begin groups ≡ true → IsFirst groups
first_of [] h = absurd (cc)
first_of (g ∷ gs) h =
    let e = and_parts (g.tag == 0x01) (attributes_begin g.attributes) h in
    record { operation = g; others = gs; first = refl; tag = eqb-true g.tag 0x01 e.0; attributes = first_group (g.tag == 0x01) g (find (λ g. g.tag == 0x01) gs) e.0 }

message_named : ReadsNames → (b : List ℕ) (m : Message) → AreBytes b → Spells m b → (o : Operation) → IsFirst m.groups → IsFormed (request_for o m) → IsCallerOf b (caller (request_for o m))
message_named reads b m bytes s o is formed =
    let whole : AreBytes (spelling m) = subst (λ (x : List ℕ). AreBytes x) s.bytes bytes in
    let groups = front (flat_map group_bytes m.groups) (3 ∷ m.payload) (back (head_bytes m.head) (flat_map group_bytes m.groups ++ 3 ∷ m.payload) whole) in
    let first : AreBytes (flat_map group_bytes (is.operation ∷ is.others)) = subst (λ (gs : List Group). AreBytes (flat_map group_bytes gs)) is.first groups in
    let attributes = (front (group_bytes is.operation) (flat_map group_bytes is.others) first).1 in
    record {
      message = m;
      operation = is.operation;
      others = is.others;
      spelled = s;
      first = is.first;
      tag = is.tag;
      user = subst (λ (attrs : List Attribute). IsCallerBy (find names_user attrs) (caller (request_for o m))) is.attributes
          (caller_named reads (request_for o m) formed (subst (λ (attrs : List Attribute). AreBytes (flat_map attribute_bytes attrs)) (sym is.attributes) attributes));
    }

-- ---- the verdict

abbrev NamedVerdict : List ℕ → Verdict → Type 0
NamedVerdict b (refused code u) = ⊤
NamedVerdict b (passed caller call rows u) = IsCallerOf b caller

listed_named : (b : List ℕ) (r : Request) (u : Unsupported) (x : Bool) → IsCallerOf b (caller r) → NamedVerdict b (listed_verdict r u x)
listed_named b r u true h = tt
listed_named b r u false h = h

checked_named : (b : List ℕ) (r : Request) (c : Option Check) → refusal r ≡ c → (IsFormed r → IsCallerOf b (caller r)) → NamedVerdict b (checked_verdict r c)
checked_named b r (Some c) e h = tt
checked_named b r None e h = listed_named b r (unsupported r) (is_refused_for r (unsupported r)) (h (find_none (λ c. applies c r) checks e).1.0)

ordered_named : ReadsNames → (b : List ℕ) (m : Message) → AreBytes b → Spells m b → (o : Operation) (x : Bool) → groups_begin m.groups ≡ x → NamedVerdict b (request_verdict (if x then Ok (request_for o m) else Err 0x0400))
ordered_named reads b m bytes s o true e = checked_named b (request_for o m) (refusal (request_for o m)) refl (message_named reads b m bytes s o (first_of m.groups e))
ordered_named reads b m bytes s o false e = tt

by_operation_named : ReadsNames → (b : List ℕ) (m : Message) → AreBytes b → Spells m b → (o : Result Operation ℕ) → NamedVerdict b (request_verdict (request_by o m))
by_operation_named reads b m bytes s (Err code) = tt
by_operation_named reads b m bytes s (Ok o) = ordered_named reads b m bytes s o (groups_begin m.groups) refl

bytes_named : ReadsNames → (b : List ℕ) (v : Verdict) → AreBytes b → IsVerdictOn b v → NamedVerdict b v
bytes_named reads b _ bytes (by_head code e) = tt
bytes_named reads b _ bytes (malformed e p) = tt
bytes_named reads b _ bytes (request m s) = by_operation_named reads b m bytes s (operation_in m.head)

abbrev NamedEvent : List ℕ → Event → Type 0
NamedEvent b (ask caller call) = IsCallerOf b caller
NamedEvent b _ = ⊤

-- what bytes ask
pub asked_named : ReadsNames → (b : List ℕ) (e : Option Event) → All (λ x. x < 256) b → Asks b e → IfSome e (NamedEvent b)
asked_named reads b _ bytes (refuses code u on) = tt
asked_named reads b _ bytes (calls caller call rows u on) = bytes_named reads b (passed caller call rows u) (recursion_from_All (λ x. x < 256) b bytes) on
