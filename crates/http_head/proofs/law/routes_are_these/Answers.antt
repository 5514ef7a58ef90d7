use Rattle.http_head.proofs.RouteLemmas.{of_document, of_print, of_job, of_report, of_queue}
use Rattle.http_head.proofs.law.routes_are_these.Goals as goal

pub returns-clause-print : goal.returns-clause-print
returns-clause-print c = of_print

pub returns-clause-print_of_job : goal.returns-clause-print_of_job
returns-clause-print_of_job c = of_job

pub returns-clause-report : goal.returns-clause-report
returns-clause-report c = of_report

pub returns-clause-queue : goal.returns-clause-queue
returns-clause-queue c = of_queue

pub returns-clause-document : goal.returns-clause-document
returns-clause-document c = of_document
