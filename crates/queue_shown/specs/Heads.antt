-- The columns of a document that its head comes from.
use Rattle.std.specs.Prelude.{[], ◌∷◌, length}
use Rattle.sqlite.specs.declared.types.Value.TheVariants.{Text as Words}
use Rattle.sqlite.specs.Order.{Row}
use Rattle.queue_types.specs.declared.document.Document.{Document}
use Rattle.queue_types.specs.Formats.{format_name}
use Rattle.queue_tables.specs.Values.{number}

abbrev pub head_values : Document → Row
head_values d = Words (format_name d.format) ∷ number (length d.bytes) ∷ []
