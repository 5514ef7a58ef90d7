use Rattle.std.proofs.Common.{◌≡◌, ◌∙◌, ap, refl, sym}
use Rattle.queue_core.specs.declared.book.BookFault.TheVariants.{Damaged as BookDamaged}
use Rattle.queue_store.proofs.Lifted.{new_live, new_stands, was_clean}
use Rattle.queue_tables.specs.Faults.{told_as}
use Rattle.queue_tables.specs.declared.fault.Fault.{Fault}
use Rattle.queue_tables.specs.declared.fault.Fault.TheVariants.{Memory, Disk, Damaged}
use Rattle.queue_store.specs.Laws.{open_leaves}
use Rattle.queue_store.proofs.book.TableBook.create.Goals as goal

-- a fault that is told as Damaged is one
told_damaged : (fault : Fault) → told_as fault ≡ BookDamaged → fault ≡ Damaged
told_damaged Memory is = absurd (let no = is in cc)
told_damaged Disk is = absurd (let no = is in cc)
told_damaged Damaged is = refl

pub returns-in-Ok-clause-clean : goal.returns-in-Ok-clause-clean
returns-in-Ok-clause-clean g c honest = c.in-Ok.ensures.makes.clean (was_clean g.S.Store c.over.result c.make_new.new.conn c.over.ensures.lifted honest)

pub returns-in-Ok-clause-blank : goal.returns-in-Ok-clause-blank
returns-in-Ok-clause-blank g c = c.in-Ok.ensures.blank

pub returns-in-Ok-clause-stands : goal.returns-in-Ok-clause-stands
returns-in-Ok-clause-stands g c =
    new_stands g.S.Store c.over.result c.make_new.new.conn c.over.ensures.lifted c.args.settings c.in-Ok.ensures.makes.made c.over.ensures.settings
    (c.empty_is_sound.ensures c.args.settings c.estimate-estimate.ensures.limits) c.in-Ok.ensures.makes.settled c.in-Ok.ensures.makes.ended

pub returns-in-Ok-clause-live : goal.returns-in-Ok-clause-live
returns-in-Ok-clause-live g c = new_live g.S.Store c.over.result c.make_new.new.conn c.over.ensures.lifted c.args.settings c.in-Ok.ensures.makes.made

pub returns-in-Ok-clause-lasts : goal.returns-in-Ok-clause-lasts
returns-in-Ok-clause-lasts g c honest =
    open_leaves (returns-in-Ok-clause-stands g c) (g.met.S.Store.settled c.over.result.conn.store) honest (returns-in-Ok-clause-live g c honest)

pub returns-in-Ok-clause-damaged : goal.returns-in-Ok-clause-damaged
returns-in-Ok-clause-damaged g c = tt

pub returns-in-Ok-clause-taken : goal.returns-in-Ok-clause-taken
returns-in-Ok-clause-taken g c = λ taken. absurd (let no = c.in-Ok.ensures.taken taken in cc)

pub returns-in-Ok-clause-others : goal.returns-in-Ok-clause-others
returns-in-Ok-clause-others g c = λ other free. absurd (let no = c.in-Ok.ensures.others other free in cc)

pub returns-in-Ok-clause-handed : goal.returns-in-Ok-clause-handed
returns-in-Ok-clause-handed g c = tt

pub returns-in-Ok-clause-crash : goal.returns-in-Ok-clause-crash
returns-in-Ok-clause-crash g c = tt

pub returns-in-Ok-clause-untouched : goal.returns-in-Ok-clause-untouched
returns-in-Ok-clause-untouched g c = tt

pub returns-in-Ok-clause-inside : goal.returns-in-Ok-clause-inside
returns-in-Ok-clause-inside g c = λ within. absurd (let no = (c.in-Ok.ensures.inside within).0 in cc)

pub returns-in-Err-clause-clean : goal.returns-in-Err-clause-clean
returns-in-Err-clause-clean g c = tt

pub returns-in-Err-clause-blank : goal.returns-in-Err-clause-blank
returns-in-Err-clause-blank g c = tt

pub returns-in-Err-clause-stands : goal.returns-in-Err-clause-stands
returns-in-Err-clause-stands g c = tt

pub returns-in-Err-clause-live : goal.returns-in-Err-clause-live
returns-in-Err-clause-live g c = tt

pub returns-in-Err-clause-damaged : goal.returns-in-Err-clause-damaged
returns-in-Err-clause-damaged g c = λ told. c.in-Err.ensures.damaged (told_damaged c.in-Err.fault (sym c.from.ensures ∙ told))

pub returns-in-Err-clause-taken : goal.returns-in-Err-clause-taken
returns-in-Err-clause-taken g c = λ taken.
    let is : c.in-Err.fault ≡ Damaged = let is = c.in-Err.ensures.taken taken in cc in
    c.from.ensures ∙ ap told_as is

pub returns-in-Err-clause-others : goal.returns-in-Err-clause-others
returns-in-Err-clause-others g c = λ other free.
    let is : c.in-Err.fault ≡ Disk = let is = c.in-Err.ensures.others other free in cc in
    c.from.ensures ∙ ap told_as is

pub returns-in-Err-clause-lasts : goal.returns-in-Err-clause-lasts
returns-in-Err-clause-lasts g c = tt

pub returns-in-Err-clause-handed : goal.returns-in-Err-clause-handed
returns-in-Err-clause-handed g c = c.in-Err.ensures.makes.refused

pub returns-in-Err-clause-crash : goal.returns-in-Err-clause-crash
returns-in-Err-clause-crash g c = c.in-Err.ensures.makes.crash (c.empty_is_sound.ensures c.args.settings c.estimate-estimate.ensures.limits)

pub returns-in-Err-clause-untouched : goal.returns-in-Err-clause-untouched
returns-in-Err-clause-untouched g c = c.in-Err.ensures.untouched

pub returns-in-Err-clause-inside : goal.returns-in-Err-clause-inside
returns-in-Err-clause-inside g c = λ within. (c.in-Err.ensures.inside within).1
