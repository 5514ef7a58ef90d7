-- An attribute without collections is an attribute.
use Rattle.std.proofs.Common.{◌≡◌, ◌≢◌, ℕ, zero, suc, List, [], ◌∷◌, length, take, refl, sym, ap, ◌∙◌, arith}
use Rattle.std.specs.List.{AllByRecursion}
use Rattle.std.proofs.lemmas.List.{take_all}
use Rattle.std.proofs.lemmas.List.Sums.{sum_by-cons}
use Rattle.ipp_wire.specs.Message.{Value, Attribute, IsValue, opens, closes, opened, closed, IsAttribute, IsPlain, IsPlainAttribute}

opens_none : (v : Value) → v.tag ≢ 0x34 → opens v ≡ 0
opens_none v h = grind arith

closes_none : (v : Value) → v.tag ≢ 0x37 → closes v ≡ 0
closes_none v h = grind arith

values_fit : (vs : List Value) → AllByRecursion IsPlain vs → AllByRecursion IsValue vs
values_fit [] h = tt
values_fit (v ∷ vs) h = (h.0.value, values_fit vs h.1)

opened_none : (vs : List Value) → AllByRecursion IsPlain vs → (k : ℕ) → opened (take k vs) ≡ 0
opened_none [] h zero = refl
opened_none [] h (suc k) = refl
opened_none (v ∷ vs) h zero = refl
opened_none (v ∷ vs) h (suc k) = sum_by-cons opens v (take k vs) ∙ omega (arith, opens_none v h.0.opens_none, opened_none vs h.1 k)

closed_none : (vs : List Value) → AllByRecursion IsPlain vs → (k : ℕ) → closed (take k vs) ≡ 0
closed_none [] h zero = refl
closed_none [] h (suc k) = refl
closed_none (v ∷ vs) h zero = refl
closed_none (v ∷ vs) h (suc k) = sum_by-cons closes v (take k vs) ∙ omega (arith, closes_none v h.0.closes_none, closed_none vs h.1 k)

pub plain_attribute : (a : Attribute) → IsPlainAttribute a → IsAttribute a
plain_attribute a h =
    let all : take (length a.values) a.values ≡ a.values = take_all (length a.values) a.values (omega arith) in
    let none_opened : opened a.values ≡ 0 = ap opened (sym all) ∙ opened_none a.values h.plain (length a.values) in
    let none_closed : closed a.values ≡ 0 = ap closed (sym all) ∙ closed_none a.values h.plain (length a.values) in
    record {
      begun = record {
        named = h.named;
        short = h.short;
        valued = h.valued;
        values = values_fit a.values h.plain;
        nested = λ k. (omega (arith, opened_none a.values h.plain k, closed_none a.values h.plain k), omega (arith, opened_none a.values h.plain k, closed_none a.values h.plain k));
      };
      closed = none_opened ∙ sym none_closed;
    }
