-- A new row at the end.
use Rattle.std.proofs.Common.{◌≡◌, ℕ, ◌+◌, ◌≤◌, ◌<◌, List, [], ◌∷◌, ◌++◌, map, refl, ap, sym, ◌∙◌, arith, subst, inl, Bool, true, false, cond}
use Rattle.std.specs.Prelude.{Option, Some, None, IfSome, IsSome, is_some, bytes_eq, nat_eq, sum_by, pos, ◌+ℤ◌, ◌&&◌, ◌^◌}
use Rattle.std.specs.FinMap.{get}
use Rattle.std.proofs.lemmas.List.Sums.{sum_by_push}
use Rattle.std.proofs.lemmas.Option.{IfSome_then}
use Rattle.queue_core.specs.World.{World, Entry, rows, with_row, add_document, live_jobs, granted}
use Rattle.queue_core.specs.Sound.{Rise, IsSound, IsSoundEntry, IsKept, IsGreatestCount, IsIdle, reserved, printed}
use Rattle.queue_types.specs.Event.{NewDocument}
use Rattle.queue_types.specs.Job.{owed, is_live}
use Rattle.queue_types.specs.declared.event.KeptReport.{KeptReport}
use Rattle.queue_types.specs.declared.job.Job.{Job}
use Rattle.queue_core.proofs.Keep.{at, ne_from_lt, same_key, some_step}
use Rattle.queue_core.proofs.Ordered.{each-append}

abbrev pub fresh : Job → Entry
fresh x = record { row = x; documents = [] }

-- the last number of a rising list is below the next
pub first_below : (first next : ℕ) (es : List Entry) → Rise first es next → first ≤ next
first_below first next [] rise = rise
first_below first next (e ∷ es) rise = let more = first_below (e.row.number + 1) next es rise.1 in let here = rise.0 in omega arith

pub with_row_new : (x : Job) (first : ℕ) (es : List Entry) → Rise first es x.number → with_row es x ≡ es ++ fresh x ∷ []
with_row_new x first [] rise = refl
with_row_new x first (e ∷ es) rise =
    let low = first_below (e.row.number + 1) x.number es rise.1 in
    ap (λ t. cond t (record e { row = x } ∷ es) (e ∷ with_row es x)) (ne_from_lt e.row.number x.number (omega arith))
    ∙ ap (λ t. e ∷ t) (with_row_new x (e.row.number + 1) es rise.1)

-- a document of the new number goes to the new row alone
pub with_document_new : (x : Job) (d : NewDocument) (first : ℕ) (es : List Entry) → d.job ≡ x.number → Rise first es x.number → map (add_document d) (es ++ fresh x ∷ []) ≡ es ++ add_document d (fresh x) ∷ []
with_document_new x d first [] same rise = refl
with_document_new x d first (e ∷ es) same rise =
    let low = first_below (e.row.number + 1) x.number es rise.1 in
    let here : add_document d e ≡ e = ap (λ t. cond t (record e { documents = e.documents ++ record { format = d.format; bytes = d.bytes } ∷ [] }) e) (ne_from_lt e.row.number d.job (omega arith)) in
    let rest : map (add_document d) (es ++ fresh x ∷ []) ≡ es ++ add_document d (fresh x) ∷ [] = with_document_new x d (e.row.number + 1) es same rise.1 in
    cc

pub rise-push : (n : Entry) (first : ℕ) (es : List Entry) → Rise first es n.row.number → Rise first (es ++ n ∷ []) (n.row.number + 1)
rise-push n first [] rise = (rise, omega arith)
rise-push n first (e ∷ es) rise = (rise.0, rise-push n (e.row.number + 1) es rise.1)

rows-push : (n : Entry) (es : List Entry) → map (λ (e : Entry). e.row) (es ++ n ∷ []) ≡ map (λ (e : Entry). e.row) es ++ n.row ∷ []
rows-push n [] = refl
rows-push n (e ∷ es) = ap (λ t. e.row ∷ t) (rows-push n es)

pub sum-push : (f : Job → ℕ) (n : Entry) (es : List Entry) → sum_by f (map (λ (e : Entry). e.row) (es ++ n ∷ [])) ≡ sum_by f (map (λ (e : Entry). e.row) es) + f n.row
sum-push f n es = ap (sum_by f) (rows-push n es) ∙ sum_by_push f (map (λ (e : Entry). e.row) es) n.row

-- no job of the next number is there, and those that are there stay
pub none_new : (k first : ℕ) (es : List Entry) → Rise first es k → at k es ≡ None
none_new k first [] rise = refl
none_new k first (e ∷ es) rise =
    let low = first_below (e.row.number + 1) k es rise.1 in
    ap (λ t. cond t (Some e.row) (at k es)) (ne_from_lt e.row.number k (omega arith)) ∙ none_new k (e.row.number + 1) es rise.1

pub some-push : (k : ℕ) (n : Entry) (es : List Entry) → IsSome (at k es) → IsSome (at k (es ++ n ∷ []))
some-push k n [] h = absurd (cc)
some-push k n (e ∷ es) h = some_step (nat_eq e.row.number k) e.row (at k es) (at k (es ++ n ∷ [])) (some-push k n es) h

live_add : (b l : Bool) (s : ℕ) → (b ≡ true → s < 100) → s ≤ 100 → s + cond (b && l) 1 0 ≤ 100
live_add true true s h k = let less = h refl in omega arith
live_add true false s h k = omega arith
live_add false l s h k = omega arith

nothing : (b : Bool) (x : ℕ) → x ≡ 0 → cond b x 0 ≡ 0
nothing true x e = e
nothing false x e = refl

not_kept : (w : World) (k seq : ℕ) (Q : KeptReport → Type 0) (o : Option KeptReport) → at k w.jobs ≡ None → IfSome o (IsKept w k seq) → IfSome o Q
not_kept w k seq Q None none kept = tt
not_kept w k seq Q (Some r) none kept = let there : is_some (at k w.jobs) ≡ true = kept.there in let no : is_some (at k w.jobs) ≡ false = ap is_some none in absurd (cc)

abbrev pub with_new : World → Entry → World
with_new w n = record w { jobs = w.jobs ++ n ∷ []; next = w.next + 1 }

-- a new job that has taken nothing: the world stays sound
pub new_row_keeps : (w : World) (n : Entry) → IsSound w → n.row.number ≡ w.next → w.next < 2 ^ 31 → IsSoundEntry n → n.row.count ≡ 0 → owed n.row ≡ 0 → IsIdle n.row → live_jobs n.row.owner (rows w) < 100 → IsSound (with_new w n)
new_row_keeps w n sound number room entry count owing idle few =
    let rise : Rise 1 w.jobs n.row.number = subst (λ k. Rise 1 w.jobs k) (sym number) sound.numbers in
    record {
      settings = sound.settings;
      numbers = subst (λ k. Rise 1 (w.jobs ++ n ∷ []) (k + 1)) number (rise-push n 1 w.jobs rise);
      next = omega arith;
      entries = each-append IsSoundEntry w.jobs (n ∷ []) sound.entries (entry, tt);
      live = λ u. subst (λ s. s ≤ 100) (sym (sum-push (λ (k : Job). cond (bytes_eq k.owner u && is_live k) 1 0) n w.jobs)) (live_add (bytes_eq n.row.owner u) (is_live n.row) (live_jobs u (rows w)) (λ e. subst (λ a. live_jobs a (rows w) < 100) (same_key n.row.owner u e) few) (sound.live u));
      grants = sound.grants;
      most = sound.most;
      accounts = sound.accounts;
      reports = λ k s. IfSome_then (get w.reports (k, s)) (sound.reports k s) (λ r p. record { job = p.job; seq = p.seq; there = some-push k n w.jobs p.there; positive = p.positive; count = p.count; total = p.total });
      counts = each-append (λ e. IsGreatestCount w e.row) w.jobs (n ∷ []) sound.counts ((λ seq. not_kept w n.row.number seq _ (get w.reports (n.row.number, seq)) (none_new n.row.number 1 w.jobs rise) (sound.reports n.row.number seq), inl count), tt);
      idle = each-append (λ e. get w.free e.row.owner ≡ None → IsIdle e.row) w.jobs (n ∷ []) sound.idle (λ none. idle, tt);
      balances = λ a.
          let r : reserved a (with_new w n) ≡ reserved a w = (let sums = sum-push (λ (k : Job). cond (bytes_eq k.owner a) (owed k) 0) n w.jobs in let zero = nothing (bytes_eq n.row.owner a) (owed n.row) owing in omega arith) in
          let p : printed a (with_new w n) ≡ printed a w = (let sums = sum-push (λ (k : Job). cond (bytes_eq k.owner a) k.count 0) n w.jobs in let zero = nothing (bytes_eq n.row.owner a) n.row.count count in omega arith) in
          subst (λ s. IfSome (get w.free a) (λ f. pos (granted a w) ≡ f +ℤ pos (reserved a (with_new w n) + s))) (sym p)
          (subst (λ s. IfSome (get w.free a) (λ f. pos (granted a w) ≡ f +ℤ pos (s + printed a w))) (sym r) (sound.balances a));
    }
