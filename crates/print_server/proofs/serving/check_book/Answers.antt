use Rattle.print_server.proofs.ConnectionLemmas.{seen_damaged, seen_live, seen_wanting}
use Rattle.print_server.proofs.serving.check_book.Goals as goal

pub returns-clause-damaged : goal.returns-clause-damaged
returns-clause-damaged g c = λ honest. seen_damaged c.pending.result c.after_look.result _ c.after_look.ensures.whole c.after_look.ensures.wanting c.after_look.ensures.lost (c.pending.ensures.damaged honest)

pub returns-clause-live : goal.returns-clause-live
returns-clause-live g c = λ honest is. seen_live c.pending.result c.after_look.result _ c.after_look.ensures.wanting c.after_look.ensures.lost (c.pending.ensures.live honest) is

pub returns-clause-wanting : goal.returns-clause-wanting
returns-clause-wanting g c = seen_wanting c.pending.result c.after_look.result c.after_look.ensures.whole c.after_look.ensures.wanting c.after_look.ensures.lost
