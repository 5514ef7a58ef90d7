-- The texts that make the tables and their indexes.
use Rattle.std.proofs.Common.{ℕ, List, codes}

abbrev pub meta_text : List ℕ
meta_text = codes "CREATE TABLE meta (one INTEGER PRIMARY KEY, schema INTEGER NOT NULL, uri TEXT NOT NULL, name TEXT NOT NULL, estimate INTEGER NOT NULL, epoch INTEGER NOT NULL, next_number INTEGER NOT NULL) STRICT"

abbrev pub jobs_text : List ℕ
jobs_text = codes "CREATE TABLE jobs (number INTEGER PRIMARY KEY, owner TEXT NOT NULL, name TEXT NOT NULL, copies INTEGER NOT NULL, impressions INTEGER NOT NULL, hold INTEGER NOT NULL, incoming INTEGER NOT NULL, phase INTEGER NOT NULL, why INTEGER NOT NULL, stopping INTEGER NOT NULL, count INTEGER NOT NULL, created INTEGER NOT NULL, begun INTEGER, ended INTEGER) STRICT"

abbrev pub documents_text : List ℕ
documents_text = codes "CREATE TABLE documents (job INTEGER NOT NULL REFERENCES jobs (number), doc INTEGER NOT NULL, format TEXT NOT NULL, octets INTEGER NOT NULL, PRIMARY KEY (job, doc)) STRICT"

abbrev pub pieces_text : List ℕ
pieces_text = codes "CREATE TABLE pieces (job INTEGER NOT NULL, doc INTEGER NOT NULL, piece INTEGER NOT NULL, bytes BLOB NOT NULL, PRIMARY KEY (job, doc, piece), FOREIGN KEY (job, doc) REFERENCES documents (job, doc)) STRICT"

abbrev pub accounts_text : List ℕ
accounts_text = codes "CREATE TABLE accounts (name TEXT NOT NULL PRIMARY KEY, free INTEGER NOT NULL, reserved INTEGER NOT NULL, printed INTEGER NOT NULL) STRICT"

abbrev pub grants_text : List ℕ
grants_text = codes "CREATE TABLE grants (batch TEXT NOT NULL, account TEXT NOT NULL REFERENCES accounts (name), pages INTEGER NOT NULL, PRIMARY KEY (batch, account)) STRICT"

abbrev pub reports_text : List ℕ
reports_text = codes "CREATE TABLE reports (job INTEGER NOT NULL REFERENCES jobs (number), seq INTEGER NOT NULL, kind INTEGER NOT NULL, count INTEGER NOT NULL, state INTEGER NOT NULL, total INTEGER NOT NULL, PRIMARY KEY (job, seq)) STRICT"

abbrev pub by_owner_text : List ℕ
by_owner_text = codes "CREATE INDEX jobs_by_owner ON jobs (owner, phase)"

abbrev pub by_end_text : List ℕ
by_end_text = codes "CREATE INDEX jobs_by_end ON jobs (owner, ended)"

abbrev pub policy_text : List ℕ
policy_text = codes "CREATE TABLE policy (one INTEGER PRIMARY KEY, keep INTEGER NOT NULL) STRICT"

abbrev pub by_age_text : List ℕ
by_age_text = codes "CREATE INDEX jobs_by_age ON jobs (phase, created)"

abbrev pub by_phase_text : List ℕ
by_phase_text = codes "CREATE INDEX jobs_by_phase ON jobs (phase, hold, incoming)"

abbrev pub operators_text : List ℕ
operators_text = codes "CREATE TABLE operators (name TEXT NOT NULL PRIMARY KEY) STRICT"

abbrev pub by_ended_text : List ℕ
by_ended_text = codes "CREATE INDEX jobs_by_ended ON jobs (ended)"
