-- Names that were taken as those of the operators.
use Rattle.std.proofs.Common.{◌≡◌, ◌≤◌, ◌<◌, ◌↔◌, ◌||◌, ◌∙◌, ℕ, List, [], ◌∷◌, All, Bool, Bor, Err, Ok, Result, ap, false, length, refl, subst, sym, true, arith, inl, inr, ◌⊎◌}
use Rattle.std.specs.Prelude.{bytes_eq}
use Rattle.std.specs.List.{AllByRecursion as Each}
use Rattle.std.proofs.Math.Nat.{lt_of_not-le}
use Rattle.std.proofs.lemmas.List.{length-map}
use Rattle.std.proofs.lemmas.List.Elements.{All-from_recursion, recursion_from_All}
use Rattle.std.proofs.lemmas.Slice.Eq.{bytes_eq-Decides}
use Rattle.queue_types.specs.Operators.{AreOperators, IsOperatorName, has_twice, is_among}
use Rattle.queue_types.specs.Text.{texts}
use Rattle.queue_types.specs.declared.operators.NameFault.{NameFault}
use Rattle.queue_types.specs.declared.operators.NameFault.TheVariants.{TooMany, Bad, Twice}
use Rattle.commands.specs.Store.{CanBeOperators}

of_or : (a b : Bool) → (a || b) ≡ true → (a ≡ true) ⊎ (b ≡ true)
of_or true b e = inl refl
of_or false b e = inr e

-- what holds of each name holds of a name among them
of_each : (P : List ℕ → Type 0) (q : List ℕ) (names : List (List ℕ)) → Each P names → is_among q names ≡ true → P q
of_each P q [] each among = absurd (let no : false ≡ true = among in cc)
of_each P q (n ∷ names) each among = elim (of_or (bytes_eq n q) (is_among q names) among) [
  | inl same ↦ subst P ((bytes_eq-Decides n q).0 same) each.0
  | inr later ↦ of_each P q names each.1 later
]

first_is : (n : List ℕ) (names : List (List ℕ)) → is_among n (n ∷ names) ≡ true
first_is n names = ap (λ t. t || is_among n names) ((bytes_eq-Decides n n).1 refl)

later_is : (t u : Bool) → u ≡ true → (t || u) ≡ true
later_is true u e = refl
later_is false u e = e

-- each name that is among the operators can be one's
each_among : (operators names : List (List ℕ)) → Each IsOperatorName operators → ((q : List ℕ) → is_among q names ≡ true → is_among q operators ≡ true) → Each IsOperatorName names
each_among operators [] each known = tt
each_among operators (n ∷ names) each known =
    (of_each IsOperatorName n operators each (known n (first_is n names)), each_among operators names each (λ q among. known q (later_is (bytes_eq n q) (is_among q names) among)))

at_most_16 : (n : ℕ) → (16 < n → ⊥) → n ≤ 16
at_most_16 n few = let less : n < 17 = lt_of_not-le (λ many. few (omega (arith, many))) in omega (arith, less)

pub can_be : (names : List (Bor (List ℕ))) (r : Result (List (List ℕ)) NameFault) (o : List (List ℕ)) → r ≡ Ok o
    → AreOperators o → ((q : List ℕ) → is_among q o ≡ is_among q (texts names)) → (r ≡ Err TooMany) ↔ (16 < length names)
    → (r ≡ Err Twice) ↔ ((length names ≤ 16) × All IsOperatorName (texts names) × (has_twice (texts names) ≡ true)) → CanBeOperators (texts names)
can_be names r o is are same many twice =
    let few : length names ≤ 16 = at_most_16 (length names) (λ h. let no : Ok o ≡ Err TooMany = sym is ∙ many.1 h in cc) in
    let each : All IsOperatorName (texts names) =
    All-from_recursion IsOperatorName (texts names) (each_among o (texts names) (recursion_from_All IsOperatorName o are.each) (λ q among. same q ∙ among)) in
    record {
      few = subst (λ n. n ≤ 16) (sym (length-map names (λ a. a.now))) few;
      each = each;
      once = elim (has_twice (texts names)) as (λ t. has_twice (texts names) ≡ t → t ≡ false) [
        | true ↦ λ e. absurd (let no : Ok o ≡ Err Twice = sym is ∙ twice.1 (few, each, e) in cc)
        | false ↦ λ e. refl
      ] refl;
    }
