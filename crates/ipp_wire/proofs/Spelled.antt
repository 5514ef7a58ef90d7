-- The laws of messages, open fronts and stuck bytes.
use Rattle.std.proofs.Common.{◌≡◌, ℕ, ◌+◌, ◌-◌, ◌<◌, ◌≤◌, inl, inr, List, [], ◌∷◌, ◌++◌, length, take, drop, refl, sym, ap, subst, ◌∙◌, append_assoc, length-append, arith}
use Rattle.std.specs.List.{flat_map, AllByRecursion}
use Rattle.std.specs.Int.{w16, w32, from_be_bytes, to_be_bytes}
use Rattle.std.proofs.lemmas.List.{append-nil, take_at, length-take-le, take-append-drop}
use Rattle.std.proofs.lemmas.Nat.{from_be_bytes-to_be_bytes_2, from_be_bytes-to_be_bytes_4}
use Rattle.ipp_wire.specs.declared.view.Head.{Head}
use Rattle.ipp_wire.specs.Message.{Attribute, Group, Message, IsAttribute, IsGroup, IsOpenGroup, AllButLast, group_bytes, head_bytes, spelling, IsHead, IsMessage, Spells, IsOpenFront, IsStuck}
use Rattle.ipp_wire.specs.Fault.{IsMalformed}
use Rattle.ipp_wire.specs.Reading.{Item, delimiter, named, further, item_bytes, outside, IsWhole, Halts, Stops, place_of, GroupsStuck}
use Rattle.ipp_wire.proofs.Text.{append_apart}
use Rattle.ipp_wire.proofs.Items.{IsItem, items_bytes, items_of, compare, groups_bytes, groups_one, IsValuedGroup}
use Rattle.ipp_wire.proofs.Front.{ends, items_of_runs, groups_lead, open_of_groups, whole_of, no_longer, stops_there}

-- ---- the head

pub head_eq : (h k : Head) → h.major ≡ k.major → h.minor ≡ k.minor → h.code ≡ k.code → h.request_id ≡ k.request_id → h ≡ k
head_eq h k a b c d =
    subst (λ (x : ℕ). h ≡ record { major = k.major; minor = k.minor; code = k.code; request_id = x }) d
    (subst (λ (x : ℕ). h ≡ record { major = k.major; minor = k.minor; code = x; request_id = h.request_id }) c
    (subst (λ (x : ℕ). h ≡ record { major = k.major; minor = x; code = h.code; request_id = h.request_id }) b
    (subst (λ (x : ℕ). h ≡ record { major = x; minor = h.minor; code = h.code; request_id = h.request_id }) a refl)))

pub head_one : (h k : Head) (x y : List ℕ) → IsHead h → IsHead k → head_bytes h ++ x ≡ head_bytes k ++ y → (h ≡ k) × (x ≡ y)
head_one h k x y ih ik e =
    let tops : h.major ≡ k.major = cc in
    let lows : h.minor ≡ k.minor = cc in
    let rest : (to_be_bytes w16 h.code ++ to_be_bytes w32 h.request_id) ++ x ≡ (to_be_bytes w16 k.code ++ to_be_bytes w32 k.request_id) ++ y = cc in
    let first = append_apart (to_be_bytes w16 h.code) (to_be_bytes w16 k.code) (to_be_bytes w32 h.request_id ++ x) (to_be_bytes w32 k.request_id ++ y) refl rest in
    let second = append_apart (to_be_bytes w32 h.request_id) (to_be_bytes w32 k.request_id) x y refl first.1 in
    let codes : h.code ≡ k.code = sym (from_be_bytes-to_be_bytes_2 h.code ih.code) ∙ ap (from_be_bytes w16) first.0 ∙ from_be_bytes-to_be_bytes_2 k.code ik.code in
    let ids : h.request_id ≡ k.request_id = sym (from_be_bytes-to_be_bytes_4 h.request_id ih.request_id) ∙ ap (from_be_bytes w32) second.0 ∙ from_be_bytes-to_be_bytes_4 k.request_id ik.request_id in
    (head_eq h k tops lows codes ids, second.1)

-- ---- the end of the groups

-- no item begins with the byte 3
no_three : (i : Item) (x payload : List ℕ) → IsItem i → 3 ∷ payload ≡ item_bytes i ++ x → ⊥
no_three (delimiter tag) x payload h e = let three : tag ≡ 3 = cc in h.2 three
no_three (named name v) x payload h e = let three : v.tag ≡ 3 = cc in let low : 16 ≤ v.tag = h.2.tag_low in absurd (omega arith)
no_three (further v) x payload h e = let three : v.tag ≡ 3 = cc in let low : 16 ≤ v.tag = h.tag_low in absurd (omega arith)

no_more : (more : List Item) (x payload : List ℕ) → AllByRecursion IsItem more → 3 ∷ payload ≡ items_bytes more ++ x → more ≡ []
no_more [] x payload h e = refl
no_more (i ∷ more) x payload h e = absurd (no_three i (items_bytes more ++ x) payload h.0 (e ∙ append_assoc (item_bytes i) (items_bytes more) x))

items_are : (gs : List Group) → AllByRecursion IsGroup gs → AllByRecursion IsItem (items_of gs)
items_are gs h = items_of_runs outside (items_of gs) (groups_lead outside gs (open_of_groups gs h) tt).0

attributes_valued : (attrs : List Attribute) → AllByRecursion IsAttribute attrs → AllByRecursion (λ a. 0 < length a.values) attrs
attributes_valued [] h = tt
attributes_valued (a ∷ attrs) h = (h.0.begun.valued, attributes_valued attrs h.1)

groups_valued : (gs : List Group) → AllByRecursion IsGroup gs → AllByRecursion IsValuedGroup gs
groups_valued [] h = tt
groups_valued (g ∷ gs) h = (attributes_valued g.attributes h.0.attributes, groups_valued gs h.1)

groups_apart : (gs hs : List Group) (p q : List ℕ) → AllByRecursion IsGroup gs → AllByRecursion IsGroup hs → flat_map group_bytes gs ++ 3 ∷ p ≡ flat_map group_bytes hs ++ 3 ∷ q → (gs ≡ hs) × (p ≡ q)
groups_apart gs hs p q hg hh e =
    let as_items : items_bytes (items_of gs) ++ 3 ∷ p ≡ items_bytes (items_of hs) ++ 3 ∷ q = ap (λ (b : List ℕ). b ++ 3 ∷ p) (groups_bytes gs) ∙ e ∙ ap (λ (b : List ℕ). b ++ 3 ∷ q) (sym (groups_bytes hs)) in
    elim (compare (items_of gs) (items_of hs) (3 ∷ p) (3 ∷ q) (items_are gs hg) (items_are hs hh) as_items) [
      | inl g ↦
          let none : g.0 ≡ [] = no_more g.0 (3 ∷ q) p g.1.0 g.1.2 in
          let same : items_of hs ≡ items_of gs = g.1.1 ∙ ap (λ (m : List Item). items_of gs ++ m) none ∙ append-nil (items_of gs) in
          let rest : 3 ∷ p ≡ 3 ∷ q = g.1.2 ∙ ap (λ (m : List Item). items_bytes m ++ 3 ∷ q) none in
          (groups_one gs hs (groups_valued gs hg) (groups_valued hs hh) (sym same), cc)
      | inr g ↦
          let none : g.0 ≡ [] = no_more g.0 (3 ∷ p) q g.1.0 g.1.2 in
          let same : items_of gs ≡ items_of hs = g.1.1 ∙ ap (λ (m : List Item). items_of hs ++ m) none ∙ append-nil (items_of hs) in
          let rest : 3 ∷ q ≡ 3 ∷ p = g.1.2 ∙ ap (λ (m : List Item). items_bytes m ++ 3 ∷ p) none in
          (groups_one gs hs (groups_valued gs hg) (groups_valued hs hh) same, cc)
    ]

message_eq : (m n : Message) → m.head ≡ n.head → m.groups ≡ n.groups → m.payload ≡ n.payload → m ≡ n
message_eq m n a b c =
    subst (λ (x : List ℕ). m ≡ record { head = n.head; groups = n.groups; payload = x }) c
    (subst (λ (x : List Group). m ≡ record { head = n.head; groups = x; payload = m.payload }) b
    (subst (λ (x : Head). m ≡ record { head = x; groups = m.groups; payload = m.payload }) a refl))

-- what follows the spelling of a message is more of its payload
spelled_apart : (m n : Message) (x y : List ℕ) → IsMessage m → IsMessage n → spelling m ++ x ≡ spelling n ++ y → (m.head ≡ n.head) × (m.groups ≡ n.groups) × (m.payload ++ x ≡ n.payload ++ y)
spelled_apart m n x y hm hn e =
    let left : spelling m ++ x ≡ head_bytes m.head ++ (flat_map group_bytes m.groups ++ 3 ∷ (m.payload ++ x)) = append_assoc (head_bytes m.head ++ flat_map group_bytes m.groups) (3 ∷ m.payload) x ∙ append_assoc (head_bytes m.head) (flat_map group_bytes m.groups) (3 ∷ (m.payload ++ x)) in
    let right : spelling n ++ y ≡ head_bytes n.head ++ (flat_map group_bytes n.groups ++ 3 ∷ (n.payload ++ y)) = append_assoc (head_bytes n.head ++ flat_map group_bytes n.groups) (3 ∷ n.payload) y ∙ append_assoc (head_bytes n.head) (flat_map group_bytes n.groups) (3 ∷ (n.payload ++ y)) in
    let heads = head_one m.head n.head (flat_map group_bytes m.groups ++ 3 ∷ (m.payload ++ x)) (flat_map group_bytes n.groups ++ 3 ∷ (n.payload ++ y)) hm.head hn.head (sym left ∙ e ∙ right) in
    let others = groups_apart m.groups n.groups (m.payload ++ x) (n.payload ++ y) hm.groups hn.groups heads.1 in
    (heads.0, others.0, others.1)

pub one_message : (m n : Message) (b : List ℕ) → Spells m b → Spells n b → m ≡ n
one_message m n b h k =
    let apart = spelled_apart m n [] [] h.message k.message (append-nil (spelling m) ∙ sym h.bytes ∙ k.bytes ∙ sym (append-nil (spelling n))) in
    message_eq m n apart.0 apart.1 (sym (append-nil m.payload) ∙ apart.2 ∙ append-nil n.payload)

pub no_prefix : (m n : Message) (b more : List ℕ) → m.payload ≡ [] → n.payload ≡ [] → Spells m b → Spells n (b ++ more) → more ≡ []
no_prefix m n b more em en h k =
    let apart = spelled_apart m n more [] h.message k.message (ap (λ (x : List ℕ). x ++ more) (sym h.bytes) ∙ k.bytes ∙ sym (append-nil (spelling n))) in
    let tail : m.payload ++ more ≡ n.payload ++ [] = apart.2 in
    sym (ap (λ (x : List ℕ). x ++ more) em) ∙ tail ∙ append-nil n.payload ∙ en

-- ---- bytes at which reading stops

-- an open front of the bytes, with what follows it
front_parts : (b : List ℕ) (k : ℕ) (front : List ℕ) → k ≤ length b → take k b ≡ front → (b ≡ front ++ drop k b) × (length front ≡ k)
front_parts b k front le e = (sym (take-append-drop k b) ∙ ap (λ (x : List ℕ). x ++ drop k b) e, sym (ap length e) ∙ length-take-le k b le)

pub is_stuck : (b : List ℕ) (at : ℕ) (h : Head) (gs : List Group) (rest : List ℕ) → IsHead h → AllButLast IsGroup IsOpenGroup gs → b ≡ head_bytes h ++ (flat_map group_bytes gs ++ rest) → Halts (place_of outside gs) rest → at + length rest ≡ length b → IsStuck b at
is_stuck b at h gs rest ih fits e halts len =
    let front = head_bytes h ++ flat_map group_bytes gs in
    let parts : b ≡ front ++ rest = e ∙ sym (append_assoc (head_bytes h) (flat_map group_bytes gs) rest) in
    let at_is : length front ≡ at = omega (arith, len, ap length parts, length-append front rest) in
    let taken : take at b ≡ front = ap (take at) parts ∙ take_at front rest at at_is in
    let longest : (k : ℕ) → IsOpenFront b k → k ≤ at = λ k other.
    let o = front_parts b k (head_bytes other.head ++ flat_map group_bytes other.groups) other.within other.bytes in
    let whole : head_bytes h ++ (flat_map group_bytes gs ++ rest) ≡ head_bytes other.head ++ (flat_map group_bytes other.groups ++ drop k b) = sym e ∙ o.0 ∙ append_assoc (head_bytes other.head) (flat_map group_bytes other.groups) (drop k b) in
    let heads = head_one h other.head (flat_map group_bytes gs ++ rest) (flat_map group_bytes other.groups ++ drop k b) ih other.head_fits whole in
    let shorter = no_longer gs other.groups rest (drop k b) fits other.groups_fit halts heads.1 in
    let mine : length front ≡ 8 + length (flat_map group_bytes gs) = length-append (head_bytes h) (flat_map group_bytes gs) in
    let theirs : length (head_bytes other.head ++ flat_map group_bytes other.groups) ≡ 8 + length (flat_map group_bytes other.groups) = length-append (head_bytes other.head) (flat_map group_bytes other.groups) in
    omega (arith, shorter, mine, theirs, at_is, o.1) in
    record {
      front = record { head = h; groups = gs; head_fits = ih; groups_fit = fits; within = omega (arith, len); bytes = taken };
      longest = longest;
    }

pub spells_none : (b : List ℕ) (h : Head) (gs : List Group) (rest : List ℕ) → IsHead h → AllButLast IsGroup IsOpenGroup gs → b ≡ head_bytes h ++ (flat_map group_bytes gs ++ rest) → Stops (place_of outside gs) rest → IsMalformed b
spells_none b h gs rest ih fits e stops m spells =
    let whole : head_bytes h ++ (flat_map group_bytes gs ++ rest) ≡ head_bytes m.head ++ (flat_map group_bytes m.groups ++ 3 ∷ m.payload) = sym e ∙ spells.bytes ∙ append_assoc (head_bytes m.head) (flat_map group_bytes m.groups) (3 ∷ m.payload) in
    let heads = head_one h m.head (flat_map group_bytes gs ++ rest) (flat_map group_bytes m.groups ++ 3 ∷ m.payload) ih spells.message.head whole in
    let theirs = open_of_groups m.groups spells.message.groups in
    let here = groups_lead outside gs fits tt in
    let there = groups_lead outside m.groups theirs tt in
    let ended : IsWhole (place_of outside m.groups) = whole_of outside m.groups spells.message.groups tt in
    let at_end : items_of m.groups ≡ items_of gs → rest ≡ 3 ∷ m.payload → ⊥ = λ same three.
    let place : place_of outside m.groups ≡ place_of outside gs = sym there.1 ∙ ap (ends outside) same ∙ here.1 in
    stops.no_end (subst IsWhole place ended) m.payload three in
    let as_items : items_bytes (items_of gs) ++ rest ≡ items_bytes (items_of m.groups) ++ 3 ∷ m.payload = ap (λ (x : List ℕ). x ++ rest) (groups_bytes gs) ∙ heads.1 ∙ ap (λ (x : List ℕ). x ++ 3 ∷ m.payload) (sym (groups_bytes m.groups)) in
    elim (compare (items_of gs) (items_of m.groups) rest (3 ∷ m.payload) (items_of_runs outside (items_of gs) here.0) (items_of_runs outside (items_of m.groups) there.0) as_items) [
      | inl g ↦
          let none : g.0 ≡ [] = stops_there gs m.groups g.0 rest (3 ∷ m.payload) fits theirs stops.no_item g.1.1 g.1.2 in
          at_end (g.1.1 ∙ ap (λ (x : List Item). items_of gs ++ x) none ∙ append-nil (items_of gs)) (g.1.2 ∙ ap (λ (x : List Item). items_bytes x ++ 3 ∷ m.payload) none)
      | inr g ↦
          let none : g.0 ≡ [] = no_more g.0 rest m.payload g.1.0 g.1.2 in
          at_end (sym (g.1.1 ∙ ap (λ (x : List Item). items_of m.groups ++ x) none ∙ append-nil (items_of m.groups))) (sym (g.1.2 ∙ ap (λ (x : List Item). items_bytes x ++ rest) none))
    ]

-- what the groups behind the head say of all of the bytes
pub stuck_behind : (b : List ℕ) (h : Head) (left : ℕ) → IsHead h → 8 ≤ length b → b ≡ head_bytes h ++ drop 8 b → GroupsStuck (drop 8 b) left → IsStuck b (length b - left) × IsMalformed b
stuck_behind b h left ih long e s =
    let parts : b ≡ head_bytes h ++ (flat_map group_bytes s.groups ++ s.rest) = e ∙ ap (λ (x : List ℕ). head_bytes h ++ x) s.parts in
    let whole : length b ≡ length (flat_map group_bytes s.groups) + length s.rest + 8 = omega (arith, ap length parts, length-append (head_bytes h) (flat_map group_bytes s.groups ++ s.rest), length-append (flat_map group_bytes s.groups) s.rest) in
    let len : (length b - left) + length s.rest ≡ length b = omega (arith, s.left_is, whole) in
    (is_stuck b (length b - left) h s.groups s.rest ih s.fits parts s.stops.no_item len, spells_none b h s.groups s.rest ih s.fits parts s.stops)
