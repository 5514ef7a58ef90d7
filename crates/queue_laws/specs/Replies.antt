-- Which answers refuse.
use Rattle.std.specs.Prelude.{Bool, true, false}
use Rattle.queue_types.specs.declared.event.Reply.{Reply}
use Rattle.queue_types.specs.declared.event.Reply.TheVariants.{Refused, Done, Jobs, Printer, Told, NotTold, Added, NotAdded, Expired}

-- a request, a report or an account file is refused
abbrev pub refuses : Reply → Bool
refuses (Refused code) = true
refuses (NotTold cause) = true
refuses (NotAdded refusal row) = true
refuses Done = false
refuses (Jobs jobs) = false
refuses (Printer state queued accepting) = false
refuses (Told state count) = false
refuses (Added added repeats) = false
refuses (Expired ended) = false
