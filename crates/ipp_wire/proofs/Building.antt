-- The owned message: adding an attribute, and the bytes of its parts.
use Rattle.std.proofs.Common.{Result, Ok, Err, OnErr, ◌≡◌, ℕ, zero, suc, ◌<◌, List, [], ◌∷◌, ◌++◌, length, get_or, slice_set, map, refl, ap, arith}
use Rattle.std.specs.List.{AllByRecursion}
use Rattle.ipp_wire.specs.declared.message.OwnedGroup.{OwnedGroup}
use Rattle.ipp_wire.specs.Message.{Attribute, Group, IsAttribute, IsGroup}
use Rattle.ipp_wire.specs.Owned.{add_attribute, owned_group}
use Rattle.ipp_wire.proofs.Lists.{AllByRecursion-push}

-- a group with an attribute more
abbrev pub grown : Attribute → Group → Group
grown a g = record g { attributes = g.attributes ++ a ∷ [] }

pub added_fits : (a : Attribute) (gs : List Group) → IsAttribute a → AllByRecursion IsGroup gs → AllByRecursion IsGroup (add_attribute a gs)
added_fits a [] ha h = tt
added_fits a (g ∷ []) ha h = (record { tag = h.0.tag; attributes = AllByRecursion-push IsAttribute g.attributes a h.0.attributes ha }, tt)
added_fits a (g ∷ k ∷ gs) ha h = (h.0, added_fits a (k ∷ gs) ha h.1)

-- a last group that has grown
pub set_last : (a : Attribute) (gs : List OwnedGroup) (n : ℕ) (v d : OwnedGroup) → suc n ≡ length gs → owned_group v ≡ grown a (owned_group (get_or gs n d)) → map owned_group (slice_set gs n v) ≡ add_attribute a (map owned_group gs)
set_last a [] n v d h e = absurd (omega arith)
set_last a (g ∷ []) zero v d h e = ap (λ (x : Group). x ∷ []) e
set_last a (g ∷ []) (suc n) v d h e = absurd (omega arith)
set_last a (g ∷ k ∷ gs) zero v d h e = absurd (omega arith)
set_last a (g ∷ k ∷ gs) (suc n) v d h e = ap (λ (x : List Group). owned_group g ∷ x) (set_last a (k ∷ gs) n v d (omega arith) e)

-- a group put in place of an equal one
pub set_same : (gs : List OwnedGroup) (n : ℕ) (v d : OwnedGroup) → n < length gs → owned_group v ≡ owned_group (get_or gs n d) → map owned_group (slice_set gs n v) ≡ map owned_group gs
set_same [] n v d h e = absurd (omega arith)
set_same (g ∷ gs) zero v d h e = ap (λ (x : Group). x ∷ map owned_group gs) e
set_same (g ∷ gs) (suc n) v d h e = ap (λ (x : List Group). owned_group g ∷ x) (set_same gs n v d (omega arith) e)

pub on_err : {A E : Type 0} (r : Result A E) (P : Type 0) → P → OnErr r P
on_err (Ok x) P p = tt
on_err (Err e) P p = p

pub added_length : (a : Attribute) (gs : List Group) → length (add_attribute a gs) ≡ length gs
added_length a [] = refl
added_length a (g ∷ []) = refl
added_length a (g ∷ k ∷ gs) = ap suc (added_length a (k ∷ gs))

-- a last group that has an attribute more
pub added_last : (a : Attribute) (gs : List Group) (g : Group) → add_attribute a (gs ++ g ∷ []) ≡ gs ++ grown a g ∷ []
added_last a [] g = refl
added_last a (k ∷ []) g = refl
added_last a (k ∷ l ∷ gs) g = ap (λ (x : List Group). k ∷ x) (added_last a (l ∷ gs) g)
