-- The steps of the readers.
use Rattle.std.proofs.Common.{◌≡◌, ◌≢◌, ℕ, suc, ◌+◌, ◌<◌, inl, inr, List, [], ◌∷◌, ◌++◌, length, refl, sym, ap, subst, ◌∙◌, append_assoc, arith}
use Rattle.std.specs.List.{flat_map, AllByRecursion}
use Rattle.std.proofs.lemmas.List.{append-nil, take_all, take-append-le, length_push}
use Rattle.std.proofs.lemmas.Bool.{cases_lt}
use Rattle.std.proofs.lemmas.List.Concat.{flat_map-append}
use Rattle.std.proofs.lemmas.List.Sums.{sum_by-cons, sum_by-append}
use Rattle.ipp_wire.proofs.Lists.{AllByRecursion-push, AllButLast-push, flat_map-push}
use Rattle.ipp_wire.proofs.Front.{open_of_groups}
use Rattle.ipp_wire.specs.Message.{Value, Attribute, IsValue, record_bytes, values_under, attribute_bytes, opens, closes, opened, closed, IsNested, IsOpenAttribute, IsAttribute, Group, IsGroup, IsOpenGroup, IsDelimiter, group_bytes}
use Rattle.ipp_wire.specs.declared.fault.ReadFault.{ReadFault}
use Rattle.ipp_wire.specs.declared.fault.ReadFault.TheVariants.{Memory, Stuck}
use Rattle.ipp_wire.specs.Reading.{Place, outside, inside, grouped, IsNestedAt, depth_past, NoRecord, NoFurther, NoNamed, ReadRecord, ReadAttribute, depth_of, Stops, AttributeStuck, AttributesStuck, GroupsStuck, OnStuck, ReadAttributes, place_in, place_of, delimiter, named, further, May, item_bytes}

pub no_record_further : (d : ℕ) (b : List ℕ) → NoRecord b → NoFurther (inside d) b
no_record_further d b none v rest may = none [] v rest (omega arith) may.0

-- ---- values

-- the values so far of an attribute at the front of the bytes, and what is left
pub record ReadValues (bytes name : List ℕ) (vs : List Value) (depth : ℕ) (rest : List ℕ) : Type 0 where
  pub fits : IsOpenAttribute (record { name = name; values = vs })
  pub counted : depth + closed vs ≡ opened vs
  pub parts : bytes ≡ values_under name vs ++ rest

opened-push : (vs : List Value) (v : Value) → opened (vs ++ v ∷ []) ≡ opened vs + opens v
opened-push vs v = let a = sum_by-append opens vs (v ∷ []) in let b : opened (v ∷ []) ≡ opens v + 0 = sum_by-cons opens v [] in omega (arith, a, b)

closed-push : (vs : List Value) (v : Value) → closed (vs ++ v ∷ []) ≡ closed vs + closes v
closed-push vs v = let a = sum_by-append closes vs (v ∷ []) in let b : closed (v ∷ []) ≡ closes v + 0 = sum_by-cons closes v [] in omega (arith, a, b)

IsNested-push : (vs : List Value) (v : Value) (d : ℕ) → IsNested vs → d + closed vs ≡ opened vs → IsNestedAt d v → IsNested (vs ++ v ∷ [])
IsNested-push vs v d h counted n k =
    elim (cases_lt k (length vs)) [
      | inl lt ↦ rw (take-append-le k vs (v ∷ []) (omega arith)) (h k)
      | inr le ↦
          elim (cases_lt (length vs) k) [
            | inl past ↦ rw (take_all k (vs ++ v ∷ []) (omega (arith, length_push vs v))) (omega (arith, counted, n.0, opened-push vs v, closed-push vs v), omega (arith, counted, n.1, opened-push vs v, closed-push vs v))
            | inr same ↦ rw (take-append-le k vs (v ∷ []) (omega arith)) (h k)
          ]
    ]

values_under-push : (name : List ℕ) (vs : List Value) (v : Value) → 0 < length vs → values_under name (vs ++ v ∷ []) ≡ values_under name vs ++ record_bytes [] v
values_under-push name [] v h = absurd (omega arith)
values_under-push name (w ∷ vs) v h =
    ap (λ (x : List ℕ). record_bytes name w ++ x) (flat_map-append (record_bytes []) vs (v ∷ []) ∙ ap (λ (x : List ℕ). flat_map (record_bytes []) vs ++ x) (append-nil (record_bytes [] v))) ∙ sym (append_assoc (record_bytes name w) (flat_map (record_bytes []) vs) (record_bytes [] v))

pub one_more_value : (bytes name : List ℕ) (vs : List Value) (d e : ℕ) (rest after : List ℕ) (v : Value) → ReadValues bytes name vs d rest → ReadRecord rest [] v after → IsNestedAt d v → e ≡ depth_past d v → ReadValues bytes name (vs ++ v ∷ []) e after
one_more_value bytes name vs d e rest after v r found n is =
    let more : values_under name (vs ++ v ∷ []) ≡ values_under name vs ++ record_bytes [] v = values_under-push name vs v r.fits.valued in
    record {
      fits = record { named = r.fits.named; short = r.fits.short; valued = omega (arith, length_push vs v); values = AllByRecursion-push IsValue vs v r.fits.values found.value; nested = IsNested-push vs v d r.fits.nested r.counted n };
      counted = omega (arith, r.counted, n.0, opened-push vs v, closed-push vs v);
      parts = r.parts ∙ ap (λ (x : List ℕ). values_under name vs ++ x) found.parts ∙ sym (append_assoc (values_under name vs) (record_bytes [] v) after) ∙ ap (λ (x : List ℕ). x ++ after) (sym more);
    }

-- ---- attributes

place_in-push : (p : Place) (attrs : List Attribute) (a : Attribute) → place_in p (attrs ++ a ∷ []) ≡ inside (depth_of a)
place_in-push p [] a = refl
place_in-push p (b ∷ attrs) a = place_in-push (inside (depth_of b)) attrs a

place_of-push : (p : Place) (gs : List Group) (g : Group) → place_of p (gs ++ g ∷ []) ≡ place_in grouped g.attributes
place_of-push p [] g = refl
place_of-push p (h ∷ gs) g = place_of-push (place_in grouped h.attributes) gs g

pub one_more_attribute : (bytes : List ℕ) (attrs : List Attribute) (a : Attribute) (rest after : List ℕ) → ReadAttributes bytes attrs rest → ReadAttribute rest a after → ReadAttributes bytes (attrs ++ a ∷ []) after
one_more_attribute bytes attrs a rest after r found =
    let zero_depth : 0 ≡ depth_of a = omega (arith, found.fits.closed) in
    let place : inside 0 ≡ place_in grouped (attrs ++ a ∷ []) = ap inside zero_depth ∙ sym (place_in-push grouped attrs a) in
    record {
      fits = AllByRecursion-push IsAttribute attrs a r.fits found.fits;
      parts = r.parts ∙ ap (λ (b : List ℕ). flat_map attribute_bytes attrs ++ b) found.parts ∙ sym (flat_map-push attribute_bytes attrs a after);
      last = subst (λ (p : Place). NoFurther p after) place found.last;
    }

pub attributes_stuck : (bytes : List ℕ) (attrs : List Attribute) (rest : List ℕ) (left : ℕ) → ReadAttributes bytes attrs rest → AttributeStuck rest left → AttributesStuck bytes left
attributes_stuck bytes attrs rest left r s =
    let a = s.attribute in
    record {
      attributes = attrs ++ a ∷ [];
      rest = s.rest;
      fits = AllButLast-push IsAttribute IsOpenAttribute attrs a r.fits s.fits;
      parts = r.parts ∙ ap (λ (b : List ℕ). flat_map attribute_bytes attrs ++ b) s.parts ∙ sym (flat_map-push attribute_bytes attrs a s.rest);
      left_is = s.left_is;
      stops = subst (λ (p : Place). Stops p s.rest) (sym (place_in-push grouped attrs a)) s.stops;
    }

pub attributes_fault : (e : ReadFault) (bytes : List ℕ) (attrs : List Attribute) (rest : List ℕ) → ReadAttributes bytes attrs rest → OnStuck e (AttributeStuck rest) → OnStuck e (AttributesStuck bytes)
attributes_fault Memory bytes attrs rest r h = tt
attributes_fault (Stuck left) bytes attrs rest r h = attributes_stuck bytes attrs rest left r h

-- ---- groups

-- groups at the front of the bytes, and what is left
pub record ReadGroups (bytes : List ℕ) (gs : List Group) (rest : List ℕ) : Type 0 where
  pub fits : AllByRecursion IsGroup gs
  pub parts : bytes ≡ flat_map group_bytes gs ++ rest
  pub no_further : NoFurther (place_of outside gs) rest
  pub no_named : NoNamed (place_of outside gs) rest

pub one_more_group : (bytes : List ℕ) (gs : List Group) (tag : ℕ) (attrs : List Attribute) (rest mid after : List ℕ) → ReadGroups bytes gs rest → IsDelimiter tag → rest ≡ tag ∷ mid → ReadAttributes mid attrs after → NoNamed (place_in grouped attrs) after → ReadGroups bytes (gs ++ record { tag = tag; attributes = attrs } ∷ []) after
one_more_group bytes gs tag attrs rest mid after r d e inner none =
    let g : Group = record { tag = tag; attributes = attrs } in
    let place : place_in grouped attrs ≡ place_of outside (gs ++ g ∷ []) = sym (place_of-push outside gs g) in
    let bytes_of_it : rest ≡ group_bytes g ++ after = e ∙ ap (λ (b : List ℕ). tag ∷ b) inner.parts in
    record {
      fits = AllByRecursion-push IsGroup gs g r.fits (record { tag = d; attributes = inner.fits });
      parts = r.parts ∙ ap (λ (b : List ℕ). flat_map group_bytes gs ++ b) bytes_of_it ∙ sym (flat_map-push group_bytes gs g after);
      no_further = subst (λ (p : Place). NoFurther p after) place inner.last;
      no_named = subst (λ (p : Place). NoNamed p after) place none;
    }

pub groups_stuck : (bytes : List ℕ) (gs : List Group) (tag : ℕ) (rest mid : List ℕ) (left : ℕ) → ReadGroups bytes gs rest → IsDelimiter tag → rest ≡ tag ∷ mid → AttributesStuck mid left → GroupsStuck bytes left
groups_stuck bytes gs tag rest mid left r d e s =
    let g : Group = record { tag = tag; attributes = s.attributes } in
    let bytes_of_it : rest ≡ group_bytes g ++ s.rest = e ∙ ap (λ (b : List ℕ). tag ∷ b) s.parts in
    record {
      groups = gs ++ g ∷ [];
      rest = s.rest;
      fits = AllButLast-push IsGroup IsOpenGroup gs g r.fits (record { tag = d; attributes = s.fits });
      parts = r.parts ∙ ap (λ (b : List ℕ). flat_map group_bytes gs ++ b) bytes_of_it ∙ sym (flat_map-push group_bytes gs g s.rest);
      left_is = s.left_is;
      stops = subst (λ (p : Place). Stops p s.rest) (sym (place_of-push outside gs g)) s.stops;
    }

pub groups_fault : (e : ReadFault) (bytes : List ℕ) (gs : List Group) (tag : ℕ) (rest mid : List ℕ) → ReadGroups bytes gs rest → IsDelimiter tag → rest ≡ tag ∷ mid → OnStuck e (AttributesStuck mid) → OnStuck e (GroupsStuck bytes)
groups_fault Memory bytes gs tag rest mid r d e h = tt
groups_fault (Stuck left) bytes gs tag rest mid r d e h = groups_stuck bytes gs tag rest mid left r d e h

-- neither a delimiter nor the end of the groups stands at the front
groups_stop : (bytes : List ℕ) (gs : List Group) (rest : List ℕ) → ReadGroups bytes gs rest → ((tag : ℕ) (after : List ℕ) → IsDelimiter tag → rest ≢ tag ∷ after) → ((payload : List ℕ) → rest ≢ 3 ∷ payload) → GroupsStuck bytes (length rest)
groups_stop bytes gs rest r none end =
    let stops : Stops (place_of outside gs) rest = record {
      no_item = λ i. elim i as (λ i. (x : List ℕ) → May (place_of outside gs) i → rest ≢ item_bytes i ++ x) [
        | delimiter tag ↦ λ x may. none tag x may.0
        | named name v ↦ λ x may. r.no_named name v x may
        | further v ↦ λ x may. r.no_further v x may
      ];
      no_end = λ whole payload. end payload;
    } in
    record { groups = gs; rest = rest; fits = open_of_groups gs r.fits; parts = r.parts; left_is = refl; stops = stops }

-- no delimiter stands at the front of nothing, nor of a byte that is none
pub stop_at_end : (bytes : List ℕ) (gs : List Group) (rest : List ℕ) → ReadGroups bytes gs rest → length rest ≡ 0 → GroupsStuck bytes 0
stop_at_end bytes gs rest r none =
    let front = λ (tag : ℕ) (after : List ℕ) (e : rest ≡ tag ∷ after). absurd (let long : length rest ≡ suc (length after) = ap length e in omega arith) in
    subst (GroupsStuck bytes) none (groups_stop bytes gs rest r (λ tag after d. front tag after) (λ payload. front 3 payload))

pub stop_at_byte : (bytes : List ℕ) (gs : List Group) (rest mid : List ℕ) (tag : ℕ) → ReadGroups bytes gs rest → rest ≡ tag ∷ mid → (IsDelimiter tag → ⊥) → tag ≢ 3 → GroupsStuck bytes (length rest)
stop_at_byte bytes gs rest mid tag r e none end =
    groups_stop bytes gs rest r
    (λ other after d f. let same : tag ≡ other = (let both : tag ∷ mid ≡ other ∷ after = sym e ∙ f in cc) in none (subst IsDelimiter (sym same) d))
    (λ payload f. end (let both : tag ∷ mid ≡ 3 ∷ payload = sym e ∙ f in cc))
