-- Bytes of a body, as they are taken from the buffer.
use Rattle.std.proofs.Common.{◌≡◌, Option, ℕ, ◌+◌, ◌≤◌, List, ◌++◌, None, Some, length, take, drop, sym, ap, ◌∙◌, append_assoc, arith, length-append, length-drop, take-append-drop}
use Rattle.std.specs.Io.KnownBytes.{Consumes, Keeps}
use Rattle.std.proofs.lemmas.List.{length-take-le}
use Rattle.std.proofs.KnownBytes.{Consumes-trans, Consumes-kept}
use Rattle.http_wire.specs.Bodies.{TakesMore}
use Rattle.http_head.specs.Left.{left}
use Rattle.http_head.specs.Reads.{MakesNoRead, come, reader_of, reads_left, without_first}
use Rattle.http_head.specs.declared.input.Input.{Input}

-- the first n bytes are taken from the buffer
take_consumes : (r : Option (List ℕ)) (come : List ℕ) (n : ℕ) → Consumes (left come r) (left (drop n come) r) (take n come)
take_consumes None come n = tt
take_consumes (Some x) come n = ap (λ l. l ++ x) (sym (take-append-drop n come)) ∙ append_assoc (take n come) (drop n come) x

-- more of a body was taken from the buffer, once something had come
pub more_taken : (a b r : Option (List ℕ)) (come before body more : List ℕ) (taken n : ℕ) → TakesMore taken a b before body → Keeps b (left come r) → n ≤ length come → more ≡ body ++ take n come
    → TakesMore (taken + n) a (left (drop n come) r) before more
more_taken a b r come before body more taken n m k fits e = record {
  more = m.more ++ take n come;
  size = let f = length-append m.more (take n come) in let h = length-take-le n come fits in omega (arith, f, h, m.size);
  after_is = e ∙ ap (λ l. l ++ take n come) m.after_is ∙ append_assoc before m.more (take n come);
  taken = Consumes-trans a (left come r) (left (drop n come) r) m.more (take n come) (Consumes-kept a b (left come r) m.more m.taken k) (take_consumes r come n);
}

-- bytes that had come were taken, and no read was made
pub unread_on : {R : Type 0} (a b c d : Input R) (n taken size : ℕ) → MakesNoRead a b × (length (come b) + taken ≡ size) → c ≡ b → d ≡ without_first n c → n ≤ length (come c)
    → MakesNoRead a d × (length (come d) + (taken + n) ≡ size)
unread_on {R} a b c d n taken size h same took fits =
    let reader = ap (λ (i : Input R). reader_of i) same in
    let counted = ap (λ (i : Input R). reads_left i) same in
    let before = ap (λ (i : Input R). length (come i)) same in
    let now = ap (λ (i : Input R). length (come i)) took ∙ length-drop n (come c) in
    ((ap (λ (i : Input R). reader_of i) took ∙ reader ∙ h.0.0, ap (λ (i : Input R). reads_left i) took ∙ counted ∙ h.0.1), omega (arith, now, before, fits, h.1))
