use Rattle.std.proofs.Common.{◌≡◌, ℕ, List, Option, Result, Ok, Err, IfOk, length, sym}
use Rattle.std.specs.Io.KnownBytes.{Appends}
use Rattle.list_book.proofs.book.ListBookQueueBook.send_document.Goals as goal

-- as many bytes as are told
counted : {E : Type 0} (r : Result ℕ E) (v x : Option (List ℕ)) (bytes : List ℕ) → IfOk r (λ n. n ≡ length bytes) → IfOk r (λ n. Appends v x bytes)
    → IfOk r (λ n. (b : List ℕ) × (length b ≡ n) × Appends v x b)
counted (Ok n) v x bytes sent appends = (bytes, sym sent, appends)
counted (Err e) v x bytes sent appends = tt

pub returns-clause-counted : goal.returns-clause-counted
returns-clause-counted g c = counted c.send.result (g.W.Write.contents c.args.out.now) (g.W.Write.contents c.send.new.out) c.as_slice.result.now c.send.ensures.sent c.send.ensures.ok
