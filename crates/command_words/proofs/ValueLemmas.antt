-- The values of arguments, by their rows.
use Rattle.std.proofs.Common.{◌≡◌, map, ◌∙◌, ◌<◌, ◌≤◌, ◌^◌, ℕ, List, [], Option, None, Some, Bor, IfSome, ap, sym, subst, refl, arith}
use Rattle.std.specs.Prelude.{option_map, unwrap_or}
use Rattle.std.specs.Str.Parse.{IsNumeral, digits_value, without_leading_plus}
use Rattle.clap.specs.Matches.{first_value, matched_of, one_text, raw_values}
use Rattle.clap.specs.Values.{IsUnsignedIn}
use Rattle.clap.specs.Walk.{Text, all_of, first_of, rows_of}
use Rattle.clap.specs.declared.parser.matches.Found.{Found}
use Rattle.clap.proofs.WalkLemmas.{first_value-rows, one_text-rows, raw_values-rows}
use Rattle.command_words.specs.Values.{IsNumberAt, text_at, texts_at}

pub text_named : (o : Option (Bor Text)) (r other : Bor Text) (f : Found) (id : Text) → r ≡ unwrap_or o other → other.now ≡ [] → option_map (λ s. s.now) o ≡ first_value f id
    → r.now ≡ text_at id (rows_of f)
text_named None r other f id is empty first =
    let here : first_of id (rows_of f) ≡ None = sym (first_value-rows f id) ∙ sym first in
    ap (λ (z : Bor Text). z.now) is ∙ empty ∙ ap (λ (z : Option Text). unwrap_or z []) (sym here)
text_named (Some x) r other f id is empty first =
    let here : first_of id (rows_of f) ≡ Some x.now = sym (first_value-rows f id) ∙ sym first in
    ap (λ (z : Bor Text). z.now) is ∙ ap (λ (z : Option Text). unwrap_or z []) (sym here)

-- the texts that were read, and none where there are none
pub texts_named : (o : Option (Bor (List (Bor Text)))) (texts : List Text) (f : Found) (id : Text) → option_map (λ s. map (λ v. v.now) s.now) o ≡ option_map raw_values (matched_of f id)
    → option_map (λ s. map (λ v. v.now) s.now) o ≡ Some texts → texts ≡ texts_at id (rows_of f)
texts_named o texts f id read is =
    let here : all_of id (rows_of f) ≡ Some texts = sym (raw_values-rows f id) ∙ sym read ∙ is in
    sym (ap (λ (z : Option (List Text)). unwrap_or z []) here)

pub no_texts : (f : Found) (id : Text) → None ≡ option_map raw_values (matched_of f id) → [] ≡ texts_at id (rows_of f)
no_texts f id read = ap (λ (z : Option (List Text)). unwrap_or z []) (read ∙ raw_values-rows f id)

at_text : (o : Option Text) (least most n : ℕ) → ((t : Text) → o ≡ Some t → IsUnsignedIn least most t → n ≡ digits_value 10 (without_leading_plus t))
    → IfSome o (λ t. IsUnsignedIn least most t → n ≡ digits_value 10 (without_leading_plus t))
at_text None least most n h = tt
at_text (Some t) least most n h = h t refl

number_by : (f : Found) (id : Text) (least most n : ℕ) → ((t : Text) → one_text f id ≡ Some t → IsUnsignedIn least most t → n ≡ digits_value 10 (without_leading_plus t))
    → IsNumberAt id least most (rows_of f) n
number_by f id least most n h =
    subst (λ (o : Option Text). IfSome o (λ t. IsUnsignedIn least most t → n ≡ digits_value 10 (without_leading_plus t))) (one_text-rows f id)
    (at_text (one_text f id) least most n h)

-- the argument's text was read as the number v
pub number_read : (f : Found) (id : Text) (least most v n : ℕ) → ((t : Text) → one_text f id ≡ Some t → v ≡ digits_value 10 (without_leading_plus t))
    → (least ≤ v → v ≤ most → n ≡ v) → IsNumberAt id least most (rows_of f) n
number_read f id least most v n reads same = number_by f id least most n (λ t e inside.
    let is : v ≡ digits_value 10 (without_leading_plus t) = reads t e in
    let low : least ≤ v = rw is inside.2 in
    let high : v ≤ most = rw is inside.3 in
    same low high ∙ is)

-- it was not read as a number
pub number_unread : (f : Found) (id : Text) (least most n : ℕ) → most < 2 ^ 32
    → ((t : Text) → one_text f id ≡ Some t → IsNumeral 10 (without_leading_plus t) × (digits_value 10 (without_leading_plus t) < 2 ^ 32) → ⊥)
    → IsNumberAt id least most (rows_of f) n
number_unread f id least most n small fails = number_by f id least most n (λ t e inside.
    let high = inside.3 in
    let fits : digits_value 10 (without_leading_plus t) < 2 ^ 32 = omega (arith, high, small) in
    absurd (fails t e (inside.0, fits)))
