-- What the steps of reading a number say.
use Rattle.std.proofs.Common.{◌≡◌, ◌<◌, ◌^◌, ℕ, List, false, Result, Ok, Err, Some, is_ok, MatchResult, arith, decimal}
use Rattle.std.specs.Result.{result_ok}
use Rattle.std.specs.Str.{IsUtf8}
use Rattle.std.specs.Str.Parse.{ParsesUnsigned}
use Rattle.std.proofs.lemmas.Fmt.{IsAscii-decimal, parse-decimal}
use Rattle.std.proofs.lemmas.Str.{IsUtf8-from_ascii}

pub read_as_ok : {V E : Type 0} (r : Result V E) (v : V) → Some v ≡ result_ok r → r ≡ Ok v
read_as_ok (Ok w) v h = cc h
read_as_ok (Err e) v h = cc h

pub not_read : {V E : Type 0} (r : Result V E) (v : V) → false ≡ is_ok r → r ≡ Ok v → ⊥
not_read (Ok w) v h e = cc h
not_read (Err d) v h e = cc e

pub refused_text : {V E P : Type 0} (r : Result V E) (A : V → Type 0) (B : E → Type 0)
    → MatchResult r A (λ e. ¬ P × B e) → false ≡ is_ok r → P → ⊥
refused_text (Ok v) A B h e p = cc e
refused_text (Err d) A B h e p = h.0 p

pub is_text : (digits : List ℕ) (n : ℕ) → n < 10 ^ 10 → digits ≡ decimal n → IsUtf8 digits
is_text digits n h e = rw e (IsUtf8-from_ascii _ (IsAscii-decimal n (omega arith)))

pub parses : {E : Type 0} (digits : List ℕ) (n : ℕ) (r : Result ℕ E) → n < 10 ^ 10 → digits ≡ decimal n
    → ParsesUnsigned 64 10 digits r → r ≡ Ok n
parses digits n r h e p = parse-decimal 64 n digits r (omega arith) (omega arith) e p
