use Rattle.std.proofs.Common.{◌≡◌, List, [], ◌∷◌, ◌++◌, true, ap, sym, ◌∙◌, subst}
use Rattle.std.specs.Prelude.{OnOk}
use Rattle.ipp_wire.specs.Message.{Group, Message}
use Rattle.ipp_wire.specs.Viewed.{attributes_of}
use Rattle.ipp_reply.specs.Unsupported.{is_listed, unsupported_of}
use Rattle.ipp_reply.proofs.Put.{add_all, put_twice}
use Rattle.ipp_reply.proofs.reply.put_unsupported.Goals as goal

pub returns : goal.returns
returns c =
    let u = unsupported_of c.args.unsupported.now in
    let listed : is_listed u ≡ true = sym c.is_listed.ensures ∙ c.if-not-is_listed.false in
    let of : Message → List Group → Message = λ m gs. record m { groups = gs } in
    let first : c.put_attributes.new.message ≡ of c.args.message.now (add_all (c.args.message.now.groups ++ record { tag = 0x05; attributes = [] } ∷ []) u.operation) =
    c.in_ok-put_attributes.ensures.ok ∙ ap (λ (m : Message). of m (add_all m.groups (attributes_of c.as_slice.result.now))) c.in_ok-group.ensures.ok
    ∙ ap (λ xs. of c.args.message.now (add_all (c.args.message.now.groups ++ record { tag = 0x05; attributes = [] } ∷ []) (attributes_of xs))) c.as_slice.ensures.value in
    let P : Message → Type 0 = λ m. OnOk c.put_attributes-2.result (c.put_attributes-2.new.message ≡ m) in
    subst P (ap (λ (m : Message). of m (add_all m.groups (attributes_of c.as_slice-2.result.now))) first
    ∙ ap (λ xs. of c.args.message.now (add_all (add_all (c.args.message.now.groups ++ record { tag = 0x05; attributes = [] } ∷ []) u.operation) (attributes_of xs))) c.as_slice-2.ensures.value
    ∙ put_twice c.args.message.now u listed)
    c.put_attributes-2.ensures.ok
