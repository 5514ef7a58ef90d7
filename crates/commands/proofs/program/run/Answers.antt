use Rattle.std.proofs.Common.{◌≡◌, ◌≤◌, ◌∙◌, ℕ, [], inl, inr, refl, subst, lit≤, arith}
use Rattle.std.specs.Io.Buffered.{writer_buffer, writer_contents}
use Rattle.std.proofs.lemmas.Result.{IfOk-weaker}
use Rattle.command_ends.specs.declared.fault.Fault.TheVariants.{Memory}
use Rattle.commands.specs.Printed.{HasPrinted}
use Rattle.commands.specs.Store.{IsAllowed}
use Rattle.commands.proofs.EndingLemmas.{asks_nothing, asks_something, asks_text, at_least_one, at_most, at_status, but_one, none_among}
use Rattle.commands.proofs.PrintedLemmas.{told_of, untold}
use Rattle.commands.proofs.program.run.Goals as goal

pub returns-in-Ok-clause-named : goal.returns-in-Ok-clause-named
returns-in-Ok-clause-named g c = λ none. at_most _ c.do_command-done.result c.end.result 1 c.end.ensures.done c.end.ensures.refused c.do_command-done.ensures.status (lit≤ tt)

pub returns-in-Ok-clause-done : goal.returns-in-Ok-clause-done
returns-in-Ok-clause-done g c = λ none zero.
    let ok = (but_one _ c.do_command-done.result c.end.result c.end.ensures.done c.end.ensures.refused (λ one. absurd (omega arith))).0 in (
      c.in-Ok.command,
      c.in-Ok.ensures.named,
      at_status _ (λ n. IsAllowed c.in-Ok.command) c.do_command-done.result c.end.result c.end.ensures.done ok c.do_command-done.ensures.allowed,
      subst (λ n. HasPrinted c.in-Ok.command n (writer_contents g.O.Write.contents c.args.out.now) (writer_contents g.O.Write.contents c.do_command-done.new.out)) zero
          (at_status _ _ c.do_command-done.result c.end.result c.end.ensures.done ok c.do_command-done.ensures.printed),
    )

pub returns-in-Ok-clause-handed : goal.returns-in-Ok-clause-handed
returns-in-Ok-clause-handed g c = λ none zero.
    let ok = (but_one _ c.do_command-done.result c.end.result c.end.ensures.done c.end.ensures.refused (λ one. absurd (omega arith))).0 in
    at_status _ (λ n. writer_buffer c.do_command-done.new.out ≡ []) c.do_command-done.result c.end.result c.end.ensures.done ok c.do_command-done.ensures.handed

pub returns-in-Err-Words-clause-handed : goal.returns-in-Err-Words-clause-handed
returns-in-Err-Words-clause-handed g c = λ none zero.
    let among = rw c.in-Err-Words.field-0-is at c.in-Err-Words.ensures.refused in
    absurd (none_among _ _ among none)

pub returns-in-Err-Words-clause-done : goal.returns-in-Err-Words-clause-done
returns-in-Err-Words-clause-done g c = λ none zero.
    let among = rw c.in-Err-Words.field-0-is at c.in-Err-Words.ensures.refused in
    absurd (none_among _ _ among none)

pub returns-in-Ok-clause-wrong : goal.returns-in-Ok-clause-wrong
returns-in-Ok-clause-wrong g c = λ wrong. absurd (wrong.0 c.in-Ok.ensures.taken)

pub returns-in-Ok-clause-status : goal.returns-in-Ok-clause-status
returns-in-Ok-clause-status g c =
    let few : c.end.result ≤ 1 = at_most _ c.do_command-done.result c.end.result 1 c.end.ensures.done c.end.ensures.refused c.do_command-done.ensures.status (lit≤ tt) in omega arith

pub returns-in-Err-Words-clause-named : goal.returns-in-Err-Words-clause-named
returns-in-Err-Words-clause-named g c = λ none.
    let among = rw c.in-Err-Words.field-0-is at c.in-Err-Words.ensures.refused in
    absurd (none_among _ _ among none)

pub returns-in-Err-Words-clause-wrong : goal.returns-in-Err-Words-clause-wrong
returns-in-Err-Words-clause-wrong g c = λ wrong.
    let among = rw c.in-Err-Words.field-0-is at c.in-Err-Words.ensures.refused in
    let asks = asks_nothing _ _ among wrong in
    at_least_one _ c.tell_words-told.result c.end-in-Err-Words.result c.end-in-Err-Words.ensures.done c.end-in-Err-Words.ensures.refused c.tell_words-told.ensures.wrong asks.0 asks.1

pub returns-in-Err-Words-clause-status : goal.returns-in-Err-Words-clause-status
returns-in-Err-Words-clause-status g c =
    at_most _ c.tell_words-told.result c.end-in-Err-Words.result 2 c.end-in-Err-Words.ensures.done c.end-in-Err-Words.ensures.refused c.tell_words-told.ensures.status (lit≤ tt)

pub returns-in-Ok-clause-silent : goal.returns-in-Ok-clause-silent
returns-in-Ok-clause-silent g c = λ zero. (but_one _ c.do_command-done.result c.end.result c.end.ensures.done c.end.ensures.refused (λ one. absurd (omega arith))).1

pub returns-in-Ok-clause-unprinted : goal.returns-in-Ok-clause-unprinted
returns-in-Ok-clause-unprinted g c = λ two.
    let few : c.end.result ≤ 1 = at_most _ c.do_command-done.result c.end.result 1 c.end.ensures.done c.end.ensures.refused c.do_command-done.ensures.status (lit≤ tt) in absurd (omega arith)

pub returns-in-Err-Words-clause-silent : goal.returns-in-Err-Words-clause-silent
returns-in-Err-Words-clause-silent g c = λ zero.
    let done = but_one _ c.tell_words-told.result c.end-in-Err-Words.result c.end-in-Err-Words.ensures.done c.end-in-Err-Words.ensures.refused (λ one. absurd (omega arith)) in
    done.1 ∙ (at_status _ _ c.tell_words-told.result c.end-in-Err-Words.result c.end-in-Err-Words.ensures.done done.0 c.tell_words-told.ensures.apart).1 zero

pub returns-in-Err-Words-clause-unprinted : goal.returns-in-Err-Words-clause-unprinted
returns-in-Err-Words-clause-unprinted g c = λ two.
    let done = but_one _ c.tell_words-told.result c.end-in-Err-Words.result c.end-in-Err-Words.ensures.done c.end-in-Err-Words.ensures.refused (λ one. absurd (omega arith)) in
    (at_status _ _ c.tell_words-told.result c.end-in-Err-Words.result c.end-in-Err-Words.ensures.done done.0 c.tell_words-told.ensures.apart).0 two

pub returns-in-Ok-clause-helped : goal.returns-in-Ok-clause-helped
returns-in-Ok-clause-helped g c = λ text. at_most _ c.do_command-done.result c.end.result 1 c.end.ensures.done c.end.ensures.refused c.do_command-done.ensures.status (lit≤ tt)

pub returns-in-Err-Words-clause-helped : goal.returns-in-Err-Words-clause-helped
returns-in-Err-Words-clause-helped g c = λ text.
    let among = rw c.in-Err-Words.field-0-is at c.in-Err-Words.ensures.refused in
    let asks = asks_text _ _ among text in
    let none = IfOk-weaker c.tell_words-told.result _ (λ (own : ℕ). own ≤ 1) (λ own zero. let is : own ≡ 0 = zero asks in omega arith) c.tell_words-told.ensures.asked in
    at_most _ c.tell_words-told.result c.end-in-Err-Words.result 1 c.end-in-Err-Words.ensures.done c.end-in-Err-Words.ensures.refused none (lit≤ tt)

pub returns-in-Ok-clause-told : goal.returns-in-Ok-clause-told
returns-in-Ok-clause-told g c = λ none one. inr (
  c.in-Ok.command,
  c.in-Ok.ensures.named,
  told_of g.E.Write.contents c.args.err.now c.end.new.err c.in-Ok.command (writer_contents g.O.Write.contents c.args.out.now) (writer_contents g.O.Write.contents c.do_command-done.new.out)
      (writer_buffer c.do_command-done.new.out) c.do_command-done.result c.end.result c.end.ensures.done c.end.ensures.told c.do_command-done.ensures.replayed
      c.do_command-done.ensures.told c.do_command-done.ensures.printed c.do_command-done.ensures.handed c.do_command-done.ensures.quiet one,
)

pub returns-in-Err-Words-clause-told : goal.returns-in-Err-Words-clause-told
returns-in-Err-Words-clause-told g c = λ none one.
    let among = rw c.in-Err-Words.field-0-is at c.in-Err-Words.ensures.refused in
    absurd (none_among _ _ among none)

pub returns-in-Err-Memory-clause-told : goal.returns-in-Err-Memory-clause-told
returns-in-Err-Memory-clause-told g c = λ none one. inl (c.end-in-Err-Memory.ensures.told, refl)

pub returns-in-Ok-clause-misnamed : goal.returns-in-Ok-clause-misnamed
returns-in-Ok-clause-misnamed g c = λ wrong. absurd (wrong.0 c.in-Ok.ensures.taken)

pub returns-in-Err-Words-clause-misnamed : goal.returns-in-Err-Words-clause-misnamed
returns-in-Err-Words-clause-misnamed g c = λ wrong.
    let among = rw c.in-Err-Words.field-0-is at c.in-Err-Words.ensures.refused in
    let asks = asks_nothing _ _ among wrong in
    c.tell_words-told.ensures.out asks.0 asks.1

pub returns-in-Ok-clause-unhelped : goal.returns-in-Ok-clause-unhelped
returns-in-Ok-clause-unhelped g c = λ text one. absurd (asks_something _ c.in-Ok.ensures.taken text)

pub returns-in-Err-Words-clause-unhelped : goal.returns-in-Err-Words-clause-unhelped
returns-in-Err-Words-clause-unhelped g c = λ text one.
    let among = rw c.in-Err-Words.field-0-is at c.in-Err-Words.ensures.refused in
    let asks = asks_text _ _ among text in
    let none = IfOk-weaker c.tell_words-told.result _ (λ (own : ℕ). own ≡ 0) (λ own zero. zero asks) c.tell_words-told.ensures.asked in
    untold g.E.Write.contents c.args.err.now c.tell_words-told.new.err c.end-in-Err-Words.new.err c.tell_words-told.result c.end-in-Err-Words.result c.end-in-Err-Words.ensures.done
    c.end-in-Err-Words.ensures.told none c.tell_words-told.ensures.told (c.tell_words-told.ensures.err asks) one

pub returns-in-Err-Memory-clause-unhelped : goal.returns-in-Err-Memory-clause-unhelped
returns-in-Err-Memory-clause-unhelped g c = λ text one. (Memory, inl refl, c.end-in-Err-Memory.ensures.told)
