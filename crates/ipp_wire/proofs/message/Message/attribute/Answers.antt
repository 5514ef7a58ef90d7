use Rattle.std.proofs.Common.{◌≡◌, ◌∷◌, ◌++◌, [], refl, length, ap, ◌∙◌, map}
use Rattle.ipp_wire.specs.declared.message.OwnedAttribute.{OwnedAttribute}
use Rattle.ipp_wire.specs.Message.{Attribute, Message, IsAttribute}
use Rattle.ipp_wire.specs.Viewed.{values_of}
use Rattle.ipp_wire.specs.Owned.{add_attribute, owned_attribute, owned_group}
use Rattle.ipp_wire.proofs.Building.{added_fits, added_last, added_length}
use Rattle.ipp_wire.proofs.message.Message.attribute.Goals as goal

pub invariant_of-self-2 : goal.invariant_of-self-2
invariant_of-self-2 c =
    let added : OwnedAttribute = record { name = c.in_ok-name.name; values = c.in_ok-values.values } in
    let fits : IsAttribute (owned_attribute added) = rw (c.in_ok-name.ensures.items, c.in_ok-values.ensures) c.requires.fits in
    record {
      head = c.self.invariant.head;
      groups = rw c.in_ok-add_to_last.ensures.ok (added_fits (owned_attribute added) (map owned_group c.self.inside.groups.items) fits c.self.invariant.groups);
    }

pub returns-clause-still_begun : goal.returns-clause-still_begun
returns-clause-still_begun c =
    let added : OwnedAttribute = record { name = c.in_ok-name.name; values = c.in_ok-values.values } in
    let gs = map owned_group c.self.inside.groups.items in
    ap length c.in_ok-add_to_last.ensures.ok ∙ added_length (owned_attribute added) gs ∙ ap (λ (m : Message). length m.groups) c.self.view_is

pub returns-clause-in_the_last : goal.returns-clause-in_the_last
returns-clause-in_the_last c = λ gs g e.
    let a : Attribute = record { name = c.args.name.now; values = values_of c.args.values.now } in
    let added : OwnedAttribute = record { name = c.in_ok-name.name; values = c.in_ok-values.values } in
    let same : owned_attribute added ≡ a = rw (c.in_ok-name.ensures.items, c.in_ok-values.ensures) refl in
    let before : map owned_group c.self.inside.groups.items ≡ gs ++ g ∷ [] = ap (λ (m : Message). m.groups) c.self.view_is ∙ e in
    c.in_ok-add_to_last.ensures.ok ∙ ap (λ (x : Attribute). add_attribute x (map owned_group c.self.inside.groups.items)) same ∙ ap (add_attribute a) before ∙ added_last a gs g
