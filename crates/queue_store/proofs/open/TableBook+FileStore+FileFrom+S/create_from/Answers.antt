use Rattle.sqlite.specs.Files.{over_files}
use Rattle.sqlite_wal.specs.Files.{image_at}
use Rattle.queue_store.proofs.Adopting.{no_tables_made}
use Rattle.queue_store.proofs.open.TableBook+FileStore+FileFrom+S.create_from.Goals as goal

pub returns-clause-blank : goal.returns-clause-blank
returns-clause-blank g c = no_tables_made over_files c.in_ok-conn.conn (image_at g.S.Start) c.in_ok-conn.ensures.opened c.in_ok-conn.ensures.found c.make_in_files.result c.args.settings c.make_in_files.ensures

pub returns-clause-stands : goal.returns-clause-stands
returns-clause-stands g c = c.make_in_files.ensures.stands

pub returns-clause-live : goal.returns-clause-live
returns-clause-live g c = c.make_in_files.ensures.live
