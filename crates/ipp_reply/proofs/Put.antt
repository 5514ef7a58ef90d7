-- Attributes that may stand in a message, and the last group of one.
use Rattle.std.proofs.Common.{◌≡◌, ℕ, ◌<◌, List, [], ◌∷◌, ◌++◌, length, take, get_or, refl, ap, sym, ◌∙◌, arith, append_assoc, zero, suc}
use Rattle.std.specs.Prelude.{fold, map, ◌+◌, Bool, true, false, if◌then◌else◌}
use Rattle.ipp_wire.specs.declared.view.AttrView.{AttrView}
use Rattle.ipp_wire.specs.Viewed.{attribute_of, attributes_of}
use Rattle.std.proofs.lemmas.List.{append-nil, map_more}
use Rattle.std.specs.List.{AllByRecursion}
use Rattle.ipp_reply.specs.Unsupported.{Unsupported, is_listed}
use Rattle.ipp_reply.specs.Reply.{with_groups, unsupported_groups}
use Rattle.ipp_wire.specs.Message.{Message, Attribute, Group, IsAttribute}
use Rattle.ipp_wire.specs.Owned.{add_attribute}

pub add_last : (a : Attribute) (g : Group) (gs : List Group) → add_attribute a (gs ++ g ∷ []) ≡ gs ++ record g { attributes = g.attributes ++ a ∷ [] } ∷ []
add_last a g [] = refl
add_last a g (x ∷ []) = refl
add_last a g (x ∷ y ∷ gs) = ap (λ t. x ∷ t) (add_last a g (y ∷ gs))

-- one row more at the end of the last group
pub row_more : {A : Type 0} (m : Message) (gs : List Group) (tag : ℕ) (f : A → Attribute) (rows : List A) (i : ℕ) (d : A) → i < length rows
    → record m { groups = add_attribute (f (get_or rows i d)) (gs ++ record { tag = tag; attributes = map f (take i rows) } ∷ []) }
    ≡ record m { groups = gs ++ record { tag = tag; attributes = map f (take (i + 1) rows) } ∷ [] }
row_more m gs tag f rows i d below = ap (λ (x : List Group). let r : Message = record m { groups = x } in r)
    (add_last (f (get_or rows i d)) (record { tag = tag; attributes = map f (take i rows) }) gs
    ∙ ap (λ (x : List Attribute). gs ++ record { tag = tag; attributes = x } ∷ []) (sym (map_more f rows i d below)))

-- ---- attributes one after the other

pub attribute_at : (xs : List AttrView) (i : ℕ) (d : AttrView) → AllByRecursion IsAttribute (attributes_of xs) → i < length xs → IsAttribute (attribute_of (get_or xs i d))
attribute_at [] i d h below = absurd (omega arith)
attribute_at (x ∷ xs) zero d h below = h.0
attribute_at (x ∷ xs) (suc i) d h below = attribute_at xs i d h.1 (omega arith)

-- the groups with attributes more at the end of the last
abbrev pub add_all : List Group → List Attribute → List Group
add_all gs attrs = fold (λ gs a. add_attribute a gs) gs attrs

pub add_more : (gs : List Group) (xs : List AttrView) (i : ℕ) (d : AttrView) → i < length xs
    → add_all gs (take (suc i) (attributes_of xs)) ≡ add_attribute (attribute_of (get_or xs i d)) (add_all gs (take i (attributes_of xs)))
add_more gs [] i d below = absurd (omega arith)
add_more gs (x ∷ xs) zero d below = refl
add_more gs (x ∷ xs) (suc i) d below = add_more (add_attribute (attribute_of x) gs) xs i d (omega arith)

pub add_all_last : (attrs : List Attribute) (g : Group) (gs : List Group) → add_all (gs ++ g ∷ []) attrs ≡ gs ++ record g { attributes = g.attributes ++ attrs } ∷ []
add_all_last [] g gs = ap (λ (x : List Attribute). gs ++ record g { attributes = x } ∷ []) (sym (append-nil g.attributes))
add_all_last (a ∷ attrs) g gs =
    ap (λ (x : List Group). add_all x attrs) (add_last a g gs)
    ∙ add_all_last attrs (record g { attributes = g.attributes ++ a ∷ [] }) gs
    ∙ ap (λ (x : List Attribute). gs ++ record g { attributes = x } ∷ []) (append_assoc g.attributes (a ∷ []) attrs)

shown : (b : Bool) (gs : List Group) (g : Group) → b ≡ true → gs ++ g ∷ [] ≡ gs ++ (if b then g ∷ [] else [])
shown true gs g e = refl
shown false gs g e = absurd (cc)

-- what is listed of both groups makes one
pub put_twice : (m : Message) (u : Unsupported) → is_listed u ≡ true
    → record m { groups = add_all (add_all (m.groups ++ record { tag = 0x05; attributes = [] } ∷ []) u.operation) u.job } ≡ with_groups m (unsupported_groups u)
put_twice m u listed =
    ap (λ (gs : List Group). let x : Message = record m { groups = gs } in x)
    (ap (λ (gs : List Group). add_all gs u.job) (add_all_last u.operation (record { tag = 0x05; attributes = [] }) m.groups)
    ∙ add_all_last u.job (record { tag = 0x05; attributes = u.operation }) m.groups
    ∙ shown (is_listed u) m.groups (record { tag = 0x05; attributes = u.operation ++ u.job }) listed)
