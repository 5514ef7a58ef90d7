use Rattle.std.proofs.Common.{◌≡◌, ◌∙◌, refl, subst}
use Rattle.grants_csv.specs.Import.{Imports}
use Rattle.replay.specs.Session.{file_of, import_line}
use Rattle.replay.proofs.session.import_row.Goals as goal

pub returns-clause-answered : goal.returns-clause-answered
returns-clause-answered g c = λ h w s.
    let file : c.as_slice.result.now ≡ file_of c.args.row.now = c.as_slice.ensures.value ∙ c.in_ok-file.ensures in
    let a = c.import-answer.ensures.imports h w s in (
      a.0,
      import_line c.import-answer.result,
      (c.import-answer.result, subst (λ bytes. Imports w c.args.context.now bytes a.0 c.import-answer.result) file a.1, refl),
      a.2,
      c.in_ok-tell_import.ensures.told,
    )
