use Rattle.command_words.specs.CommandLine.{expire_words, import_words, init_words, operators_words, statement_words}
use Rattle.command_words.proofs.definition.for_office.Goals as goal

pub returns : goal.returns
returns c =
    let inits = c.in_ok-program.ensures _ init_words c.bare.ensures c.init.ensures in
    let imports = c.in_ok-program-2.ensures _ import_words inits c.import.ensures in
    let statements = c.in_ok-program-3.ensures _ statement_words imports c.statement.ensures in
    let expires = c.in_ok-program-4.ensures _ expire_words statements c.expire.ensures in
    c.with-5.ensures _ operators_words expires c.operators.ensures
