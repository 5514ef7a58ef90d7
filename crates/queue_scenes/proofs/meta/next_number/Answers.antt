use Rattle.std.proofs.Common.{◌≡◌, [], ◌∷◌, rules, ◌<◌, length, refl, sym, subst, ap, arith, List, None, Option, Some, slice_get}
use Rattle.sqlite.specs.Order.{Row, column}
use Rattle.queue_tables.specs.Values.{number}
use Rattle.queue_scenes.proofs.Bounds.{next_fits}
use Rattle.queue_scenes.proofs.Found.{next_shown, first_is}
use Rattle.queue_scenes.proofs.Statements.{select_next_is}
use Rattle.queue_tables.proofs.Telling.{refuses, tells, told_by}
use Rattle.queue_scenes.proofs.meta.next_number.Goals as goal

pub select-requires : goal.select-requires
select-requires g c = record { query = select_next_is.shows.query }

pub returns-clause-reads : goal.returns-clause-reads
returns-clause-reads g c = tells (told_by c.select.ensures.leaves c.in_ok-found.ensures.live c.in_ok-found.ensures.shown (λ w sound has h. next_shown _ w has h)) (λ w sound rows.
    let is : c.in-Some.row.now ≡ number w.next ∷ [] = first_is c.in_ok-found.found.items c.in-Some.row.now (number w.next ∷ []) (search rules) rows in
    search (rules, is))

pub returns-in_err-next-in-Some-clause-reads : goal.returns-in_err-next-in-Some-clause-reads
returns-in_err-next-in-Some-clause-reads g c = refuses (told_by c.select.ensures.leaves c.in_ok-found.ensures.live c.in_ok-found.ensures.shown (λ w sound has h. next_shown _ w has h)) c.in_ok-found.ensures.live (λ d w sound rows.
    let is : c.in-Some.row.now ≡ number w.next ∷ [] = first_is c.in_ok-found.found.items c.in-Some.row.now (number w.next ∷ []) (search rules) rows in
    let fits = next_fits w sound in
    c.in_err-next-in-Some.ensures.err d (subst (λ (r : Row). 0 < length r) (sym is) (omega arith)) (w.next, ap (λ (r : Row). column r 0) is, omega (arith, fits.1))) _ c.from_residual-in_err-next-in-Some.ensures.1

pub returns-in-None-clause-reads : goal.returns-in-None-clause-reads
returns-in-None-clause-reads g c = refuses (told_by c.select.ensures.leaves c.in_ok-found.ensures.live c.in_ok-found.ensures.shown (λ w sound has h. next_shown _ w has h)) c.in_ok-found.ensures.live (λ d w sound rows.
    absurd (let none : ◌≡◌ {A = Option Row} (Some (number w.next ∷ [])) None = subst (λ (k : List Row). slice_get k 0 ≡ None) rows (search rules) in cc)) _ refl

pub returns-then-next-eq0-clause-reads : goal.returns-then-next-eq0-clause-reads
returns-then-next-eq0-clause-reads g c = refuses (told_by c.select.ensures.leaves c.in_ok-found.ensures.live c.in_ok-found.ensures.shown (λ w sound has h. next_shown _ w has h)) c.in_ok-found.ensures.live (λ d w sound rows.
    let is : c.in-Some.row.now ≡ number w.next ∷ [] = first_is c.in_ok-found.found.items c.in-Some.row.now (number w.next ∷ []) (search rules) rows in
    let same : c.in_ok-next-in-Some.next ≡ w.next = search (rules, is) in
    let fits = next_fits w sound in
    omega (arith, same, fits.0)) _ refl
