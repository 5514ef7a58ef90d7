use Rattle.queue_laws.proofs.GoesOn.{idle_stays, request_stays, new_report_stays, repeat_goes, file_stays}
use Rattle.queue_laws.proofs.repeats.repeats_alone_are_left_out.Goals as goal

pub returns-clause-idle : goal.returns-clause-idle
returns-clause-idle c = idle_stays

pub returns-clause-requests : goal.returns-clause-requests
returns-clause-requests c = request_stays

pub returns-clause-new_reports : goal.returns-clause-new_reports
returns-clause-new_reports c = new_report_stays

pub returns-clause-repeated_reports : goal.returns-clause-repeated_reports
returns-clause-repeated_reports c = repeat_goes

pub returns-clause-files : goal.returns-clause-files
returns-clause-files c = file_stays
