use Rattle.std.proofs.Common.{◌≡◌, ap, sym, ◌∙◌, refl}
use Rattle.std.specs.Prelude.{fold}
use Rattle.queue_types.specs.Event.{change_of}
use Rattle.queue_core.specs.World.{job_at, put_free, put_grant}
use Rattle.list_book.specs.Lists.{put_rows, with_kept, documents_of}
use Rattle.list_book.specs.Tables.{free_map, grants_map}
use Rattle.list_book.proofs.Put.{made_is, tidy_kept, with_rows_of}
use Rattle.list_book.proofs.lists.write.Goals as goal
use Rattle.list_book.proofs.lists.write.Goals.{After-lists-1}

jobs : (c : After-lists-1) → c.put_jobs.new.jobs.items ≡ put_rows c.args.lists.now.jobs.items (change_of c.args.change).jobs
jobs c = c.put_jobs.ensures ∙ ap (put_rows c.args.lists.now.jobs.items) c.into_items.ensures

free : (c : After-lists-1) → free_map c.put_free_rows.new.accounts.entries ≡ fold put_free (free_map c.args.lists.now.accounts.entries) (change_of c.args.change).free
free c = c.put_free_rows.ensures.free ∙ ap (fold put_free (free_map c.args.lists.now.accounts.entries)) c.into_items-2.ensures

pub returns-clause-made : goal.returns-clause-made
returns-clause-made c =
    made_is c.args.lists.now (record { settings = c.args.lists.now.settings; jobs = c.put_jobs.new.jobs; documents = c.put_document.new.documents; next = c.unwrap_or-lists.result; accounts = c.put_grants.new.accounts; grants = c.put_grants.new.grants; reports = c.put_report.new.reports }) (change_of c.args.change) c.requires.tidy
    refl
    (jobs c)
    (c.put_document.ensures ∙ ap (with_kept c.args.lists.now.documents.items) c.requires.document)
    (c.put_grants.ensures.free ∙ free c)
    (cc)
    (c.put_grants.ensures.grants ∙ ap (fold put_grant (grants_map c.args.lists.now.grants.entries)) c.into_items-3.ensures)
    c.put_report.ensures

pub returns-clause-tidy : goal.returns-clause-tidy
returns-clause-tidy c = λ n e.
    ap (documents_of n) c.put_document.ensures
    ∙ tidy_kept _ _ c.args.document (with_rows_of c.args.lists.now.documents.items (change_of c.args.change).jobs c.args.lists.now.jobs.items c.requires.tidy).1 c.requires.there n (sym (ap (job_at n) (jobs c)) ∙ e)
