use Rattle.queue_store.proofs.Results.{err_same}
use Rattle.queue_store.proofs.Unharmed.{still_keeps}
use Rattle.queue_store.proofs.open.TableBook+FileStore+FileFrom+S.open_or_left.Goals as goal

pub returns-in_err-conn-clause-damaged : goal.returns-in_err-conn-clause-damaged
returns-in_err-conn-clause-damaged g c = λ w left. err_same _ c.in_err-conn.field-0.0 _ c.from_residual.ensures.1 (c.in_err-conn.ensures.damaged w left)

pub returns-in_err-conn-clause-unharmed : goal.returns-in_err-conn-clause-unharmed
returns-in_err-conn-clause-unharmed g c = λ fits db held. err_same _ c.in_err-conn.field-0.0 _ c.from_residual.ensures.1 (still_keeps _ db c.in_err-conn.field-0.0.1 (c.in_err-conn.ensures.unharmed db held))

pub returns-clause-stands : goal.returns-clause-stands
returns-clause-stands g c = c.adopt_or_left.ensures.stands

pub returns-clause-kept : goal.returns-clause-kept
returns-clause-kept g c = c.adopt_or_left.ensures.kept

pub returns-clause-again : goal.returns-clause-again
returns-clause-again g c = c.adopt_or_left.ensures.again

pub returns-clause-live : goal.returns-clause-live
returns-clause-live g c = c.adopt_or_left.ensures.live

pub returns-clause-damaged : goal.returns-clause-damaged
returns-clause-damaged g c = c.adopt_or_left.ensures.damaged

pub returns-clause-unharmed : goal.returns-clause-unharmed
returns-clause-unharmed g c = c.adopt_or_left.ensures.unharmed
