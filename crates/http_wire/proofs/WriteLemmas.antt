-- What was written in several pieces, and what was written when a piece failed.
use Rattle.std.proofs.Common.{◌≡◌, Option, ℕ, ◌+◌, ◌-◌, List, [], ◌++◌, ◌≤◌, length, arith, take, drop, sym, ap, ◌∙◌, subst, append_assoc, length-drop, take-append-drop}
use Rattle.std.specs.Prelude.{unwrap_or}
use Rattle.std.specs.Io.KnownBytes.{Appends}
use Rattle.std.proofs.KnownBytes.{Appends-trans}
use Rattle.std.proofs.Math.Seq.{take-add}
use Rattle.std.proofs.lemmas.List.{take_rest}
use Rattle.http_wire.specs.Responses.{WritesFront}
use Rattle.http.specs.StatusCode.{reason_phrase}
use Rattle.http_head.specs.declared.end.Refusal.{Refusal}
use Rattle.http_head.specs.declared.end.Refusal.TheVariants.{BadRequest}
use Rattle.http_head.specs.Ends.{code_of}

-- one more write behind those before it
put_more : (a b c : Option (List ℕ)) (xs : List ℕ) (at n : ℕ) → Appends a b (take at xs) → Appends b c (take n (drop at xs)) → Appends a c (take (at + n) xs)
put_more a b c xs at n p q = subst (λ l. Appends a c l) (sym (take-add at n xs)) (Appends-trans a b c _ _ p q)

-- the rest of a slice, as the code takes it
pub rest_length : (xs : List ℕ) (at : ℕ) → length (take (length xs - at) (drop at xs)) ≡ length xs - at
rest_length xs at = ap length (take_rest xs at) ∙ length-drop at xs

pub put_rest : (a b c : Option (List ℕ)) (xs : List ℕ) (at n : ℕ) → Appends a b (take at xs) → Appends b c (take n (take (length xs - at) (drop at xs))) → Appends a c (take (at + n) xs)
put_rest a b c xs at n p q = put_more a b c xs at n p (subst (λ l. Appends b c (take n l)) (take_rest xs at) q)

-- the first n bytes are a front
pub front_taken : (a b : Option (List ℕ)) (xs : List ℕ) (n : ℕ) → Appends a b (take n xs) → WritesFront a b xs
front_taken a b xs n h = record { front = take n xs; rest = drop n xs; written = h; is = sym (take-append-drop n xs) }

pub both : (a b c : Option (List ℕ)) (xs ys : List ℕ) → Appends a b xs → Appends b c ys → Appends a c (xs ++ ys)
both = Appends-trans

-- a front of the first piece is one of both
pub front_part : (a b : Option (List ℕ)) (xs ys : List ℕ) → WritesFront a b xs → WritesFront a b (xs ++ ys)
front_part a b xs ys f = record { front = f.front; rest = f.rest ++ ys; written = f.written; is = ap (λ l. l ++ ys) f.is ∙ append_assoc f.front f.rest ys }

-- a piece was written, and of the next a front
pub front_after : (a b c : Option (List ℕ)) (xs ys : List ℕ) → Appends a b xs → WritesFront b c ys → WritesFront a c (xs ++ ys)
front_after a b c xs ys p f = record {
  front = xs ++ f.front;
  rest = f.rest;
  written = Appends-trans a b c xs f.front p f.written;
  is = ap (λ l. xs ++ l) f.is ∙ sym (append_assoc xs f.front f.rest);
}

pub phrase_short : (r : Refusal) → length (unwrap_or (reason_phrase (code_of r)) []) ≤ 40
phrase_short BadRequest = omega arith
phrase_short _ = omega arith
