-- The printer attributes of a reply, as a table in order (RFC 8011, section 5.4).
use Rattle.std.specs.Prelude.{ℕ, List, [], ◌∷◌, Bool, ◌||◌, map, filter, codes, bytes_eq, if◌then◌else◌}
use Rattle.std.specs.List.{flat_map, list_any}
use Rattle.ipp_wire.specs.Message.{Value, Attribute, Group}
use Rattle.queue_types.specs.Settings.{SettingValues}
use Rattle.queue_types.specs.States.{printer_state_number}
use Rattle.queue_types.specs.declared.states.PrinterState.{PrinterState as StateOfPrinter}
use Rattle.ipp_reply.specs.declared.printer_reply.PrinterAttribute.{PrinterAttribute}
use Rattle.ipp_reply.specs.declared.printer_reply.PrinterAttribute.TheVariants.{PrinterUriSupported, UriAuthenticationSupported, UriSecuritySupported, PrinterName, PrinterState, PrinterStateReasons, IppVersionsSupported, OperationsSupported, CharsetConfigured, CharsetSupported, NaturalLanguageConfigured, GeneratedNaturalLanguageSupported, DocumentFormatDefault, DocumentFormatSupported, PrinterIsAcceptingJobs, QueuedJobCount, PdlOverrideSupported, PrinterUpTime, CompressionSupported}
use Rattle.ipp_reply.specs.Operations.{id, operations}
use Rattle.queue_types.specs.Formats.{format_name, formats}
use Rattle.ipp_reply.specs.JobReply.{text, texts, integer, enumerated}

-- what a printer is: its settings, and its queue at a moment
pub record Printer : Type 0 where
  pub settings : SettingValues
  pub now : ℕ
  pub state : StateOfPrinter
  pub queued : ℕ
  pub accepting : Bool

-- ---- values

abbrev pub truth : Bool → List Value
truth b = record { tag = 0x22; bytes = (if b then 1 else 0) ∷ [] } ∷ []

-- the ids of the operations that a request's head may have
abbrev pub operation_ids : List Value
operation_ids = flat_map (λ o. enumerated (id o)) operations

-- ---- the table: name, values

abbrev pub name_of : PrinterAttribute → List ℕ
name_of PrinterUriSupported = codes "printer-uri-supported"
name_of UriAuthenticationSupported = codes "uri-authentication-supported"
name_of UriSecuritySupported = codes "uri-security-supported"
name_of PrinterName = codes "printer-name"
name_of PrinterState = codes "printer-state"
name_of PrinterStateReasons = codes "printer-state-reasons"
name_of IppVersionsSupported = codes "ipp-versions-supported"
name_of OperationsSupported = codes "operations-supported"
name_of CharsetConfigured = codes "charset-configured"
name_of CharsetSupported = codes "charset-supported"
name_of NaturalLanguageConfigured = codes "natural-language-configured"
name_of GeneratedNaturalLanguageSupported = codes "generated-natural-language-supported"
name_of DocumentFormatDefault = codes "document-format-default"
name_of DocumentFormatSupported = codes "document-format-supported"
name_of PrinterIsAcceptingJobs = codes "printer-is-accepting-jobs"
name_of QueuedJobCount = codes "queued-job-count"
name_of PdlOverrideSupported = codes "pdl-override-supported"
name_of PrinterUpTime = codes "printer-up-time"
name_of CompressionSupported = codes "compression-supported"

abbrev pub values_of : Printer → PrinterAttribute → List Value
values_of p PrinterUriSupported = text 0x45 p.settings.uri
values_of p UriAuthenticationSupported = text 0x44 (codes "requesting-user-name")
values_of p UriSecuritySupported = text 0x44 (codes "none")
values_of p PrinterName = text 0x42 p.settings.name
values_of p PrinterState = enumerated (printer_state_number p.state)
values_of p PrinterStateReasons = text 0x44 (codes "none")
values_of p IppVersionsSupported = texts 0x44 (codes "1.1" ∷ codes "2.0" ∷ [])
values_of p OperationsSupported = operation_ids
values_of p CharsetConfigured = text 0x47 (codes "utf-8")
values_of p CharsetSupported = text 0x47 (codes "utf-8")
values_of p NaturalLanguageConfigured = text 0x48 (codes "en")
values_of p GeneratedNaturalLanguageSupported = text 0x48 (codes "en")
values_of p DocumentFormatDefault = text 0x49 (codes "application/octet-stream")
values_of p DocumentFormatSupported = texts 0x49 (map format_name formats)
values_of p PrinterIsAcceptingJobs = truth p.accepting
values_of p QueuedJobCount = integer p.queued
values_of p PdlOverrideSupported = text 0x44 (codes "not-attempted")
values_of p PrinterUpTime = integer p.now
values_of p CompressionSupported = text 0x44 (codes "none")

abbrev pub table : List PrinterAttribute
table = PrinterUriSupported ∷ UriAuthenticationSupported ∷ UriSecuritySupported ∷ PrinterName ∷ PrinterState ∷ PrinterStateReasons ∷ IppVersionsSupported ∷ OperationsSupported ∷ CharsetConfigured ∷ CharsetSupported ∷ NaturalLanguageConfigured ∷ GeneratedNaturalLanguageSupported ∷ DocumentFormatDefault ∷ DocumentFormatSupported ∷ PrinterIsAcceptingJobs ∷ QueuedJobCount ∷ PdlOverrideSupported ∷ PrinterUpTime ∷ CompressionSupported ∷ []

-- ---- selection

-- the word selects the row
abbrev pub selects : PrinterAttribute → List ℕ → Bool
selects a word = bytes_eq word (name_of a) || bytes_eq word (codes "all") || bytes_eq word (codes "printer-description")

-- the rows that the words select, each once and in the table's order
abbrev pub selected : List (List ℕ) → List PrinterAttribute
selected asked = filter (λ a. list_any (selects a) asked) table

-- ---- the group of a printer

abbrev pub attribute : Printer → PrinterAttribute → Attribute
attribute p a = record { name = name_of a; values = values_of p a }

abbrev pub printer_group : Printer → List PrinterAttribute → Group
printer_group p rows = record { tag = 0x04; attributes = map (attribute p) rows }
