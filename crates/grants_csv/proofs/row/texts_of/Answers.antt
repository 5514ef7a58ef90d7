use Rattle.std.proofs.Common.{rules}
use Rattle.csv.specs.Records.{fields_of}
use Rattle.grants_csv.specs.File.{is_account, is_batch, is_number}
use Rattle.grants_csv.proofs.Forms.{bad_account, bad_batch, bad_pages, good_form, no_account, no_batch, no_pages, three}
use Rattle.grants_csv.proofs.Tests.{chosen_none, chosen_some}
use Rattle.grants_csv.proofs.row.texts_of.Goals as goal

pub returns-in_err-get-clause-none : goal.returns-in_err-get-clause-none
returns-in_err-get-clause-none c = λ _. no_batch (fields_of c.args.fields.now) c.in_err-get.ensures.value

pub returns-in_err-batch-clause-none : goal.returns-in_err-batch-clause-none
returns-in_err-batch-clause-none c = λ _.
    bad_batch (fields_of c.args.fields.now) _ c.in_ok-get.ensures.value (chosen_none _ _ c.in_err-batch.ensures)

pub returns-in_err-get-2-clause-none : goal.returns-in_err-get-2-clause-none
returns-in_err-get-2-clause-none c = λ _. no_account (fields_of c.args.fields.now) c.in_err-get-2.ensures.value

pub returns-in_err-account-clause-none : goal.returns-in_err-account-clause-none
returns-in_err-account-clause-none c = λ _.
    bad_account (fields_of c.args.fields.now) _ c.in_ok-get-2.ensures.value (chosen_none _ _ c.in_err-account.ensures)

pub returns-in_err-get-3-clause-none : goal.returns-in_err-get-3-clause-none
returns-in_err-get-3-clause-none c = λ _. no_pages (fields_of c.args.fields.now) c.in_err-get-3.ensures.value

pub returns-in_err-pages-clause-none : goal.returns-in_err-pages-clause-none
returns-in_err-pages-clause-none c = λ _.
    bad_pages (fields_of c.args.fields.now) _ c.in_ok-get-3.ensures.value (chosen_none _ _ c.in_err-pages.ensures)

pub returns-clause-texts : goal.returns-clause-texts
returns-clause-texts c =
    let b = chosen_some (is_batch c.in_ok-get.field-0.now) c.in_ok-batch.batch.now c.in_ok-get.field-0.now c.in_ok-batch.ensures in
    let a = chosen_some (is_account c.in_ok-get-2.field-0.now) c.in_ok-account.account.now c.in_ok-get-2.field-0.now c.in_ok-account.ensures in
    let p = chosen_some (is_number c.in_ok-get-3.field-0.now) c.in_ok-pages.pages.now c.in_ok-get-3.field-0.now c.in_ok-pages.ensures in
    rw (b.0, a.0, p.0) (three (fields_of c.args.fields.now) _ _ _ (search rules) c.in_ok-get.ensures.value c.in_ok-get-2.ensures.value c.in_ok-get-3.ensures.value)

pub returns-clause-form : goal.returns-clause-form
returns-clause-form c =
    let b = chosen_some (is_batch c.in_ok-get.field-0.now) c.in_ok-batch.batch.now c.in_ok-get.field-0.now c.in_ok-batch.ensures in
    let a = chosen_some (is_account c.in_ok-get-2.field-0.now) c.in_ok-account.account.now c.in_ok-get-2.field-0.now c.in_ok-account.ensures in
    let p = chosen_some (is_number c.in_ok-get-3.field-0.now) c.in_ok-pages.pages.now c.in_ok-get-3.field-0.now c.in_ok-pages.ensures in
    good_form (fields_of c.args.fields.now) _ _ _ (three (fields_of c.args.fields.now) _ _ _ (search rules) c.in_ok-get.ensures.value c.in_ok-get-2.ensures.value c.in_ok-get-3.ensures.value) b.1 a.1 p.1
