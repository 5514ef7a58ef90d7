use Rattle.std.proofs.Common.{◌≡◌, ◌≤◌, List, [], ◌∷◌, Bool, true, false, ◌&&◌, length, get_or, arith, ap, ◌∙◌}
use Rattle.ipp_wire.specs.declared.view.AttrView.{AttrView}
use Rattle.ipp_wire.specs.Viewed.{attribute_of, attributes_of}
use Rattle.ipp_request.specs.declared.attribute.OperationAttribute.TheVariants as key
use Rattle.ipp_request.specs.Reading.{attributes_begin, is_lone}
use Rattle.ipp_request.proofs.request.attributes_begin.Goals as goal

abbrev is_charset : AttrView → Bool
is_charset a = is_lone key.AttributesCharset (attribute_of a)

abbrev is_language : AttrView → Bool
is_language a = is_lone key.AttributesNaturalLanguage (attribute_of a)

-- two attributes or more begin with charset and language where the first two do
first_two : (attrs : List AttrView) (a b : AttrView) → 2 ≤ length attrs → a ≡ get_or attrs 0 a → b ≡ get_or attrs 1 b → (is_charset a && is_language b) ≡ attributes_begin (attributes_of attrs)
first_two [] a b h e f = absurd (omega arith)
first_two (x ∷ []) a b h e f = absurd (omega arith)
first_two (x ∷ y ∷ attrs) a b h e f = ap (λ (v : AttrView). is_charset v && is_language b) e ∙ ap (λ (v : AttrView). is_charset x && is_language v) f

both : (p q x y : Bool) → p ≡ x → p ≡ true → q ≡ y → q ≡ (x && y)
both p q true y e t f = f
both p q false y e t f = absurd (cc)

first_fails : (p x y : Bool) → p ≡ x → p ≡ false → p ≡ (x && y)
first_fails p true y e t = absurd (cc)
first_fails p false y e t = t

pub returns-then-is_lone : goal.returns-then-is_lone
returns-then-is_lone c =
    both _ _ (is_charset c.charset-item.result) (is_language c.language-item.result) c.is_lone.ensures c.if-is_lone.true c.is_lone-then-is_lone.ensures
    ∙ first_two c.args.attrs.now c.charset-item.result c.language-item.result c.in-len2-up.len_at_least c.charset-item.is c.language-item.is

pub returns-else-is_lone : goal.returns-else-is_lone
returns-else-is_lone c =
    first_fails _ (is_charset c.charset-item.result) (is_language c.language-item.result) c.is_lone.ensures c.if-is_lone.false
    ∙ first_two c.args.attrs.now c.charset-item.result c.language-item.result c.in-len2-up.len_at_least c.charset-item.is c.language-item.is
