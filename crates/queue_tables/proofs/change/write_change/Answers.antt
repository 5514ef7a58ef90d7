use Rattle.queue_types.specs.Event.{change_of, decision_of}
use Rattle.queue_tables.proofs.Chain.{document_added, frees_put, grants_added, jobs_put, next_put, of_decision, report_kept}
use Rattle.queue_tables.proofs.Making.{handed_on}
use Rattle.queue_tables.proofs.change.write_change.Goals as goal

pub returns-in_err-put_frees-clause-made : goal.returns-in_err-put_frees-clause-made
returns-in_err-put_frees-clause-made g c =
    let law = c.decisions_are_sound.ensures in
    let change = change_of c.args.decision.now.change in
    handed_on (of_decision (decision_of c.args.decision.now) law.within law.made law.new_grants (frees_put change (rw (c.as_slice.ensures) at c.in_err-put_frees.ensures.made))) _ c.from_residual.ensures.1

pub returns-in_err-put_jobs-clause-made : goal.returns-in_err-put_jobs-clause-made
returns-in_err-put_jobs-clause-made g c =
    let law = c.decisions_are_sound.ensures in
    let change = change_of c.args.decision.now.change in
    let frees = frees_put change (rw (c.as_slice.ensures) at c.in_ok-put_frees.ensures.made) in
    handed_on (of_decision (decision_of c.args.decision.now) law.within law.made law.new_grants (jobs_put change frees (rw (c.as_slice-2.ensures) at c.in_err-put_jobs.ensures.made))) _ c.from_residual-in_err-put_jobs.ensures.1

pub returns-in_err-put_any_document-clause-made : goal.returns-in_err-put_any_document-clause-made
returns-in_err-put_any_document-clause-made g c =
    let law = c.decisions_are_sound.ensures in
    let change = change_of c.args.decision.now.change in
    let frees = frees_put change (rw (c.as_slice.ensures) at c.in_ok-put_frees.ensures.made) in
    let jobs = jobs_put change frees (rw (c.as_slice-2.ensures) at c.in_ok-put_jobs.ensures.made) in
    handed_on (of_decision (decision_of c.args.decision.now) law.within law.made law.new_grants (document_added change jobs c.in_err-put_any_document.ensures.made)) _ c.from_residual-in_err-put_any_document.ensures.1

pub returns-in_err-insert_grants-clause-made : goal.returns-in_err-insert_grants-clause-made
returns-in_err-insert_grants-clause-made g c =
    let law = c.decisions_are_sound.ensures in
    let change = change_of c.args.decision.now.change in
    let frees = frees_put change (rw (c.as_slice.ensures) at c.in_ok-put_frees.ensures.made) in
    let jobs = jobs_put change frees (rw (c.as_slice-2.ensures) at c.in_ok-put_jobs.ensures.made) in
    let document = document_added change jobs c.in_ok-put_any_document.ensures.made in
    handed_on (of_decision (decision_of c.args.decision.now) law.within law.made law.new_grants (grants_added change document (rw (c.as_slice-3.ensures) at c.in_err-insert_grants.ensures.made))) _ c.from_residual-in_err-insert_grants.ensures.1

pub returns-in_err-put_any_report-clause-made : goal.returns-in_err-put_any_report-clause-made
returns-in_err-put_any_report-clause-made g c =
    let law = c.decisions_are_sound.ensures in
    let change = change_of c.args.decision.now.change in
    let frees = frees_put change (rw (c.as_slice.ensures) at c.in_ok-put_frees.ensures.made) in
    let jobs = jobs_put change frees (rw (c.as_slice-2.ensures) at c.in_ok-put_jobs.ensures.made) in
    let document = document_added change jobs c.in_ok-put_any_document.ensures.made in
    let grants = grants_added change document (rw (c.as_slice-3.ensures) at c.in_ok-insert_grants.ensures.made) in
    handed_on (of_decision (decision_of c.args.decision.now) law.within law.made law.new_grants (report_kept change grants c.in_err-put_any_report.ensures.made)) _ c.from_residual-in_err-put_any_report.ensures.1

pub returns-clause-made : goal.returns-clause-made
returns-clause-made g c =
    let law = c.decisions_are_sound.ensures in
    let change = change_of c.args.decision.now.change in
    let frees = frees_put change (rw (c.as_slice.ensures) at c.in_ok-put_frees.ensures.made) in
    let jobs = jobs_put change frees (rw (c.as_slice-2.ensures) at c.in_ok-put_jobs.ensures.made) in
    let document = document_added change jobs c.in_ok-put_any_document.ensures.made in
    let grants = grants_added change document (rw (c.as_slice-3.ensures) at c.in_ok-insert_grants.ensures.made) in
    let report = report_kept change grants c.in_ok-put_any_report.ensures.made in
    of_decision (decision_of c.args.decision.now) law.within law.made law.new_grants (next_put change report c.put_any_next.ensures.made)
