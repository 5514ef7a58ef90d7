use Rattle.std.proofs.Common.{◌≡◌, [], ◌∷◌, true, lit<, refl}
use Rattle.std.specs.Prelude.{Contains, Some, bytes_eq, find}
use Rattle.std.proofs.lemmas.Bool.{cond-true}
use Rattle.ipp_reply.specs.Operations.{id, operation_of, operations}
use Rattle.ipp_reply.specs.declared.operation.Operation.{Operation}
use Rattle.ipp_reply.specs.declared.operation.Operation.TheVariants as operation
use Rattle.ipp_reply.specs.JobReply.{name_of as job_reply_name, selected as selected_of_job, table as job_reply_table}
use Rattle.ipp_reply.specs.PrinterReply.{name_of as printer_reply_name, selected as selected_of_printer, table as printer_reply_table}
use Rattle.ipp_reply.specs.declared.job_reply.JobAttribute.{JobAttribute}
use Rattle.ipp_reply.specs.declared.job_reply.JobAttribute.TheVariants as job
use Rattle.ipp_reply.specs.declared.printer_reply.PrinterAttribute.{PrinterAttribute}
use Rattle.ipp_reply.specs.declared.printer_reply.PrinterAttribute.TheVariants as printer
use Rattle.ipp_request.specs.Attributes.{knows, row, table, job_group_name, job_group_table}
use Rattle.ipp_request.specs.Formats.{format_of}
use Rattle.ipp_request.specs.Unsupported.{attribute_named}
use Rattle.ipp_ops.specs.Checks.{checks}
use Rattle.ipp_request.specs.declared.attribute.OperationAttribute.{OperationAttribute}
use Rattle.ipp_request.specs.declared.attribute.OperationAttribute.TheVariants as key
use Rattle.ipp_request.specs.declared.attribute.JobGroupAttribute.{JobGroupAttribute}
use Rattle.ipp_request.specs.declared.attribute.JobGroupAttribute.TheVariants as in_job_group
use Rattle.ipp_ops.specs.declared.check.Check.{Check}
use Rattle.ipp_ops.specs.declared.check.Check.TheVariants as check
use Rattle.queue_types.specs.Formats.{format_name, formats}
use Rattle.queue_types.specs.declared.document.Format.{Format}
use Rattle.queue_types.specs.declared.document.Format.TheVariants as format
use Rattle.ipp_ops.proofs.law.whole_tables.Goals as goal

each_operation : (x : Operation) → Contains operations x
each_operation operation.PrintJob = (0, lit< tt, refl)
each_operation operation.ValidateJob = (1, lit< tt, refl)
each_operation operation.CreateJob = (2, lit< tt, refl)
each_operation operation.SendDocument = (3, lit< tt, refl)
each_operation operation.CancelJob = (4, lit< tt, refl)
each_operation operation.GetJobAttributes = (5, lit< tt, refl)
each_operation operation.GetJobs = (6, lit< tt, refl)
each_operation operation.GetPrinterAttributes = (7, lit< tt, refl)
each_operation operation.HoldJob = (8, lit< tt, refl)
each_operation operation.ReleaseJob = (9, lit< tt, refl)
each_operation operation.CancelMyJobs = (10, lit< tt, refl)

each_attribute : (x : OperationAttribute) → Contains table x
each_attribute key.AttributesCharset = (0, lit< tt, refl)
each_attribute key.AttributesNaturalLanguage = (1, lit< tt, refl)
each_attribute key.PrinterUri = (2, lit< tt, refl)
each_attribute key.JobUri = (3, lit< tt, refl)
each_attribute key.JobId = (4, lit< tt, refl)
each_attribute key.RequestingUserName = (5, lit< tt, refl)
each_attribute key.JobName = (6, lit< tt, refl)
each_attribute key.DocumentName = (7, lit< tt, refl)
each_attribute key.IppAttributeFidelity = (8, lit< tt, refl)
each_attribute key.Compression = (9, lit< tt, refl)
each_attribute key.DocumentFormat = (10, lit< tt, refl)
each_attribute key.JobImpressions = (11, lit< tt, refl)
each_attribute key.RequestedAttributes = (12, lit< tt, refl)
each_attribute key.WhichJobs = (13, lit< tt, refl)
each_attribute key.Limit = (14, lit< tt, refl)
each_attribute key.MyJobs = (15, lit< tt, refl)
each_attribute key.LastDocument = (16, lit< tt, refl)
each_attribute key.JobIds = (17, lit< tt, refl)
each_attribute key.JobHoldUntil = (18, lit< tt, refl)

each_job_attribute : (x : JobGroupAttribute) → Contains job_group_table x
each_job_attribute in_job_group.Copies = (0, lit< tt, refl)
each_job_attribute in_job_group.JobHoldUntil = (1, lit< tt, refl)
each_job_attribute in_job_group.JobImpressions = (2, lit< tt, refl)

each_job_reply : (x : JobAttribute) → Contains job_reply_table x
each_job_reply job.JobUri = (0, lit< tt, refl)
each_job_reply job.JobId = (1, lit< tt, refl)
each_job_reply job.JobPrinterUri = (2, lit< tt, refl)
each_job_reply job.JobName = (3, lit< tt, refl)
each_job_reply job.JobOriginatingUserName = (4, lit< tt, refl)
each_job_reply job.JobState = (5, lit< tt, refl)
each_job_reply job.JobStateReasons = (6, lit< tt, refl)
each_job_reply job.TimeAtCreation = (7, lit< tt, refl)
each_job_reply job.TimeAtProcessing = (8, lit< tt, refl)
each_job_reply job.TimeAtCompleted = (9, lit< tt, refl)
each_job_reply job.JobPrinterUpTime = (10, lit< tt, refl)
each_job_reply job.AttributesCharset = (11, lit< tt, refl)
each_job_reply job.AttributesNaturalLanguage = (12, lit< tt, refl)
each_job_reply job.JobKOctets = (13, lit< tt, refl)
each_job_reply job.JobImpressions = (14, lit< tt, refl)
each_job_reply job.JobImpressionsCompleted = (15, lit< tt, refl)
each_job_reply job.NumberOfDocuments = (16, lit< tt, refl)
each_job_reply job.Copies = (17, lit< tt, refl)
each_job_reply job.JobHoldUntil = (18, lit< tt, refl)

each_printer_reply : (x : PrinterAttribute) → Contains printer_reply_table x
each_printer_reply printer.PrinterUriSupported = (0, lit< tt, refl)
each_printer_reply printer.UriAuthenticationSupported = (1, lit< tt, refl)
each_printer_reply printer.UriSecuritySupported = (2, lit< tt, refl)
each_printer_reply printer.PrinterName = (3, lit< tt, refl)
each_printer_reply printer.PrinterState = (4, lit< tt, refl)
each_printer_reply printer.PrinterStateReasons = (5, lit< tt, refl)
each_printer_reply printer.IppVersionsSupported = (6, lit< tt, refl)
each_printer_reply printer.OperationsSupported = (7, lit< tt, refl)
each_printer_reply printer.CharsetConfigured = (8, lit< tt, refl)
each_printer_reply printer.CharsetSupported = (9, lit< tt, refl)
each_printer_reply printer.NaturalLanguageConfigured = (10, lit< tt, refl)
each_printer_reply printer.GeneratedNaturalLanguageSupported = (11, lit< tt, refl)
each_printer_reply printer.DocumentFormatDefault = (12, lit< tt, refl)
each_printer_reply printer.DocumentFormatSupported = (13, lit< tt, refl)
each_printer_reply printer.PrinterIsAcceptingJobs = (14, lit< tt, refl)
each_printer_reply printer.QueuedJobCount = (15, lit< tt, refl)
each_printer_reply printer.PdlOverrideSupported = (16, lit< tt, refl)
each_printer_reply printer.PrinterUpTime = (17, lit< tt, refl)
each_printer_reply printer.CompressionSupported = (18, lit< tt, refl)

each_check : (x : Check) → Contains checks x
each_check check.Charset = (0, lit< tt, refl)
each_check check.Form = (1, lit< tt, refl)
each_check check.Length = (2, lit< tt, refl)
each_check check.Needed = (3, lit< tt, refl)
each_check check.Target = (4, lit< tt, refl)
each_check check.Compression = (5, lit< tt, refl)
each_check check.Format = (6, lit< tt, refl)

each_format : (x : Format) → Contains formats x
each_format format.OctetStream = (0, lit< tt, refl)
each_format format.Pdf = (1, lit< tt, refl)
each_format format.Postscript = (2, lit< tt, refl)
each_format format.Jpeg = (3, lit< tt, refl)
each_format format.PwgRaster = (4, lit< tt, refl)
each_format format.Urf = (5, lit< tt, refl)
each_format format.PlainText = (6, lit< tt, refl)

found_operation : (x : Operation) → operation_of (id x) ≡ Some x
found_operation operation.PrintJob = refl
found_operation _ = refl

found_attribute : (o : Operation) (x : OperationAttribute) → knows o x ≡ true → attribute_named o (row x).name ≡ Some x
found_attribute o key.AttributesCharset h = cond-true (knows o key.AttributesCharset) (Some key.AttributesCharset) _ h
found_attribute o k h = cond-true (knows o k) (Some k) _ h

found_job_attribute : (x : JobGroupAttribute) → find (λ a. bytes_eq (job_group_name a) (job_group_name x)) job_group_table ≡ Some x
found_job_attribute in_job_group.Copies = refl
found_job_attribute _ = refl

selected_job_reply : (x : JobAttribute) → selected_of_job (job_reply_name x ∷ []) ≡ x ∷ []
selected_job_reply job.JobUri = refl
selected_job_reply _ = refl

selected_printer_reply : (x : PrinterAttribute) → selected_of_printer (printer_reply_name x ∷ []) ≡ x ∷ []
selected_printer_reply printer.PrinterUriSupported = refl
selected_printer_reply _ = refl

found_format : (x : Format) → format_of (format_name x) ≡ Some x
found_format format.OctetStream = refl
found_format _ = refl

pub returns-clause-operations : goal.returns-clause-operations
returns-clause-operations c = each_operation

pub returns-clause-attributes : goal.returns-clause-attributes
returns-clause-attributes c = each_attribute

pub returns-clause-job_attributes : goal.returns-clause-job_attributes
returns-clause-job_attributes c = each_job_attribute

pub returns-clause-job_replies : goal.returns-clause-job_replies
returns-clause-job_replies c = each_job_reply

pub returns-clause-printer_replies : goal.returns-clause-printer_replies
returns-clause-printer_replies c = each_printer_reply

pub returns-clause-checks : goal.returns-clause-checks
returns-clause-checks c = each_check

pub returns-clause-formats : goal.returns-clause-formats
returns-clause-formats c = each_format

pub returns-clause-operations_found : goal.returns-clause-operations_found
returns-clause-operations_found c = found_operation

pub returns-clause-attributes_found : goal.returns-clause-attributes_found
returns-clause-attributes_found c = found_attribute

pub returns-clause-job_attributes_found : goal.returns-clause-job_attributes_found
returns-clause-job_attributes_found c = found_job_attribute

pub returns-clause-job_replies_selected : goal.returns-clause-job_replies_selected
returns-clause-job_replies_selected c = selected_job_reply

pub returns-clause-printer_replies_selected : goal.returns-clause-printer_replies_selected
returns-clause-printer_replies_selected c = selected_printer_reply

pub returns-clause-formats_found : goal.returns-clause-formats_found
returns-clause-formats_found c = found_format
