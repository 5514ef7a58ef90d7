use Rattle.std.proofs.Common.{ap, ◌∙◌, rules}
use Rattle.queue_core.specs.Shown.{charged_to}
use Rattle.queue_core.specs.Sound.{printed_for, reserved_for}
use Rattle.list_book.proofs.SeenLemmas.{same_sheet}
use Rattle.list_book.proofs.sheet.sheet_with.Goals as goal

pub returns : goal.returns
returns c =
    let a = c.args.account.now in
    let jobs = c.as_slice-jobs.ensures.value in
    same_sheet c.args.lists.now a c.args.free _
    (c.into_text.ensures ∙ c.requires.name)
    (c.from.ensures ∙ c.requires.granted)
    (search rules)
    (c.reserved_in.ensures ∙ ap (reserved_for a) jobs)
    (c.printed_in.ensures ∙ ap (printed_for a) jobs)
    (c.from_items.ensures ∙ c.in_ok-shown.ensures ∙ ap (charged_to a) jobs)
