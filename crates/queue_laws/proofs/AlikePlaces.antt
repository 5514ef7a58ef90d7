-- Places that are alike and differ.
use Rattle.std.proofs.Common.{◌≡◌, ℕ, ◌+◌, List, refl, ap, sym, ◌∙◌, subst, inr, arith, true, false}
use Rattle.std.specs.Prelude.{Some, nat_eq, bytes_eq, not, ◌&&◌}
use Rattle.std.proofs.lemmas.Bool.{ne_eqb}
use Rattle.queue_types.specs.Event.{Call, Event, ask}
use Rattle.queue_types.specs.Operators.{is_operator}
use Rattle.queue_core.specs.World.{World}
use Rattle.queue_laws.specs.Alike.{IsAlikePlace, IsOthersPrint, place_of, idle, may_differ, draws}
use Rattle.queue_laws.specs.Calls.{draws_number}
use Rattle.queue_laws.specs.Replies.{refuses}
use Rattle.queue_laws.specs.Steps.{after, answer}
use Rattle.queue_laws.proofs.Base.{itself}
use Rattle.queue_laws.proofs.Entered.{printed}
use Rattle.queue_laws.proofs.Undrawn.{next_kept}

-- one that is neither u nor an operator
differs : (operators : List (List ℕ)) (u caller : List ℕ) → bytes_eq caller u ≡ false → is_operator operators caller ≡ false → (not (bytes_eq caller u) && not (is_operator operators caller)) ≡ true
differs operators u caller other plain = λ i. not (other i) && not (plain i)

module _ (u : List ℕ) (w : World) (now : ℕ) (e : Event) (print : IsOthersPrint u w now e) where
  print_draws : draws w (place_of now e) ≡ true
  print_draws = subst (λ e. refuses (answer w now e) ≡ false → draws w (place_of now e) ≡ true) (sym print.is)
      (λ taken.
      ap (λ n. not (nat_eq n w.next)) (printed w now print.caller print.new print.payload.format print.payload.bytes print.sound taken).next
      ∙ ap not (ne_eqb (w.next + 1) w.next (λ same. omega arith)))
      print.taken

  is_anothers : may_differ w.settings.operators u (Some e) ≡ true
  is_anothers = ap (λ e. may_differ w.settings.operators u (Some e)) print.is ∙ differs w.settings.operators u print.caller print.other print.plain

pub prints_alike : (u : List ℕ) (w v : World) (now : ℕ) (e f : Event) → IsOthersPrint u w now e → IsOthersPrint u v now f → IsAlikePlace u w v (place_of now e) (place_of now f)
prints_alike u w v now e f one other = record {
  now = refl;
  event = inr (is_anothers u w now e one, is_anothers u v now f other);
  draw = λ others. print_draws u w now e one ∙ sym (print_draws u v now f other);
}

abbrev pub RefusedStay : Type 0
RefusedStay = (w : World) (now : ℕ) (e : Event) → refuses (answer w now e) ≡ true → after w now e ≡ w

pub refused_alike : RefusedStay → (u bob : List ℕ) (w v : World) (now : ℕ) (call : Call) → bytes_eq bob u ≡ false → is_operator w.settings.operators bob ≡ false → refuses (answer w now (ask bob call)) ≡ true → IsAlikePlace u w v (place_of now (ask bob call)) (idle now)
refused_alike stay u bob w v now call not_bob plain refused = record {
  now = refl;
  event = inr (differs w.settings.operators u bob not_bob plain, refl);
  draw = λ others.
      ap (λ (x : World). not (nat_eq x.next w.next)) (stay w now (ask bob call) refused)
      ∙ ap not (itself w.next ∙ sym (itself v.next));
}

pub undrawn_alike : (u bob : List ℕ) (w v : World) (now : ℕ) (call : Call) → bytes_eq bob u ≡ false → is_operator w.settings.operators bob ≡ false → draws_number call ≡ false → IsAlikePlace u w v (place_of now (ask bob call)) (idle now)
undrawn_alike u bob w v now call not_bob plain none = record {
  now = refl;
  event = inr (differs w.settings.operators u bob not_bob plain, refl);
  draw = λ others.
      ap (λ n. not (nat_eq n w.next)) (next_kept w now bob call none)
      ∙ ap not (itself w.next ∙ sym (itself v.next));
}
