-- Lists in general: one element more at the end, and an element at an index.
use Rattle.std.proofs.Common.{◌≡◌, ℕ, zero, suc, ◌<◌, List, [], ◌∷◌, ◌++◌, length, get_or, take, map, sym, ap, ◌∙◌, append_assoc, arith}
use Rattle.std.specs.List.{flat_map, AllByRecursion}
use Rattle.std.proofs.lemmas.List.{append-nil}
use Rattle.std.proofs.lemmas.List.Concat.{flat_map-append}
use Rattle.ipp_wire.specs.Message.{AllButLast}

pub AllByRecursion-push : {A : Type 0} (P : A → Type 0) (xs : List A) (x : A) → AllByRecursion P xs → P x → AllByRecursion P (xs ++ x ∷ [])
AllByRecursion-push P [] x h p = (p, tt)
AllByRecursion-push P (y ∷ xs) x h p = (h.0, AllByRecursion-push P xs x h.1 p)

pub AllButLast-push : {A : Type 0} (P Q : A → Type 0) (xs : List A) (x : A) → AllByRecursion P xs → Q x → AllButLast P Q (xs ++ x ∷ [])
AllButLast-push P Q [] x h q = q
AllButLast-push P Q (y ∷ []) x h q = (h.0, q)
AllButLast-push P Q (y ∷ z ∷ xs) x h q = (h.0, AllButLast-push P Q (z ∷ xs) x h.1 q)

pub flat_map-push : {A : Type 0} (f : A → List ℕ) (xs : List A) (x : A) (rest : List ℕ) → flat_map f (xs ++ x ∷ []) ++ rest ≡ flat_map f xs ++ (f x ++ rest)
flat_map-push f xs x rest = ap (λ (b : List ℕ). b ++ rest) (flat_map-append f xs (x ∷ []) ∙ ap (λ (b : List ℕ). flat_map f xs ++ b) (append-nil (f x))) ∙ append_assoc (flat_map f xs) (f x) rest

-- what holds of each element holds of the one at an index
pub at_index : {A B : Type 0} (f : A → B) (P : B → Type 0) (xs : List A) (i : ℕ) (d : A) → i < length xs → AllByRecursion P (map f xs) → P (f (get_or xs i d))
at_index f P [] i d lt h = absurd (omega arith)
at_index f P (x ∷ xs) zero d lt h = h.0
at_index f P (x ∷ xs) (suc i) d lt h = at_index f P xs i d (omega arith) h.1

-- the bytes of one element more
pub one_more : {A B : Type 0} (f : A → B) (g : B → List ℕ) (xs : List A) (i : ℕ) (d : A) → i < length xs → flat_map g (map f (take (suc i) xs)) ≡ flat_map g (map f (take i xs)) ++ g (f (get_or xs i d))
one_more f g [] i d lt = absurd (omega arith)
one_more f g (x ∷ xs) zero d lt = append-nil (g (f x))
one_more f g (x ∷ xs) (suc i) d lt = ap (λ (b : List ℕ). g (f x) ++ b) (one_more f g xs i d (omega arith)) ∙ sym (append_assoc (g (f x)) (flat_map g (map f (take i xs))) (g (f (get_or xs i d))))
