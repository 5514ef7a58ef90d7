-- One more grant, and one more report.
use Rattle.std.proofs.Common.{◌≡◌, ℕ, ◌+◌, ◌<◌, List, [], ◌∷◌, length, fold, take, get_or, Some, None, refl, sym, ap, subst, ◌∙◌, arith, zero, suc}
use Rattle.std.specs.FinMap.{FinMap, get}
use Rattle.std.proofs.lemmas.List.Sums.{fold_more}
use Rattle.sqlite.specs.State.{State}
use Rattle.queue_types.specs.declared.event.GrantRow.{GrantRow}
use Rattle.queue_types.specs.declared.event.KeptReport.{KeptReport}
use Rattle.queue_core.specs.World.{World, AreNew, grant_cmp, put_grant}
use Rattle.queue_core.proofs.Maps.{grant_total, report_total}
use Rattle.queue_rows.specs.Rows.{grant_row}
use Rattle.queue_tables.specs.Values.{grant_values, report_values}
use Rattle.queue_tables.specs.Content.{Holds, content_of}
use Rattle.queue_tables.specs.Steps.{with_grants, with_grant_row, with_report_row, with_kept}
use Rattle.queue_tables.proofs.Held.{like_holds, same_order}
use Rattle.queue_tables.proofs.NewEntries.{rows_with}

abbrev with_grant : GrantRow → World → World
with_grant g w = record w { grants = put_grant w.grants g }

pub grant_added : (g : GrantRow) (w : World) (s : State) → get w.grants (g.batch, g.account) ≡ None → Holds (with_grant_row (grant_values g) (content_of w)) s → Holds (content_of (with_grant g w)) s
grant_added g w s none has = like_holds (with_grant_row (grant_values g) (content_of w)) (content_of (with_grant g w)) s (record {
  meta = same_order refl;
  jobs = same_order refl;
  documents = same_order refl;
  pieces = same_order refl;
  accounts = same_order refl;
  grants = rows_with grant_total (λ (e : (List ℕ × List ℕ) × ℕ). grant_values (grant_row e)) w.grants (g.batch, g.account) g.pages none;
  reports = same_order refl;
  policy = same_order refl;
  operators = same_order refl;
}) has

pub report_added : (k : KeptReport) (w : World) (s : State) → get w.reports (k.report.job, k.report.seq) ≡ None → Holds (with_report_row (report_values k) (content_of w)) s → Holds (content_of (with_kept (Some k) w)) s
report_added k w s none has = like_holds (with_report_row (report_values k) (content_of w)) (content_of (with_kept (Some k) w)) s (record {
  meta = same_order refl;
  jobs = same_order refl;
  documents = same_order refl;
  pieces = same_order refl;
  accounts = same_order refl;
  grants = same_order refl;
  reports = rows_with report_total (λ (e : (ℕ × ℕ) × KeptReport). report_values e.1) w.reports (k.report.job, k.report.seq) k none;
  policy = same_order refl;
  operators = same_order refl;
}) has

-- ---- one grant after another

pub new_at_turn : (gs : List GrantRow) (k : ℕ) (x : GrantRow) (m : FinMap grant_cmp ℕ) → k < length gs → x ≡ get_or gs k x → AreNew m gs → get (fold put_grant m (take k gs)) (x.batch, x.account) ≡ None
new_at_turn [] k x m below is new = absurd (omega (arith, below))
new_at_turn (g ∷ gs) zero x m below is new = subst (λ (y : GrantRow). get m (y.batch, y.account) ≡ None) (sym is) new.0
new_at_turn (g ∷ gs) (suc k) x m below is new = new_at_turn gs k x (put_grant m g) (omega (arith, below)) is new.1

grants_more : (gs : List GrantRow) (k : ℕ) (x : GrantRow) (w : World) → k < length gs → x ≡ get_or gs k x → with_grants (take (k + 1) gs) w ≡ with_grant x (with_grants (take k gs) w)
grants_more gs k x w below is = ap (λ (m : FinMap grant_cmp ℕ). record w { grants = m }) (fold_more put_grant w.grants gs k x below ∙ ap (put_grant (fold put_grant w.grants (take k gs))) (sym is))

pub grant_more : (gs : List GrantRow) (k : ℕ) (x : GrantRow) (w : World) (s : State) → k < length gs → x ≡ get_or gs k x → AreNew w.grants gs → Holds (with_grant_row (grant_values x) (content_of (with_grants (take k gs) w))) s
    → Holds (content_of (with_grants (take (k + 1) gs) w)) s
grant_more gs k x w s below is new has =
    subst (λ (v : World). Holds (content_of v) s) (sym (grants_more gs k x w below is)) (grant_added x (with_grants (take k gs) w) s (new_at_turn gs k x w.grants below is new) has)
