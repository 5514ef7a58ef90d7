use Rattle.std.proofs.Common.{◌≡◌, [], ap, sym, subst, ◌∙◌}
use Rattle.queue_core.specs.Sound.{IsSound}
use Rattle.list_book.specs.Lists.{world_of, entries_of, documents_of, reports_map}
use Rattle.list_book.specs.Tables.{free_map, grants_map, total_of}
use Rattle.queue_core.specs.World.{empty_queue, granted_in}
use Rattle.list_book.proofs.SeenLemmas.{nothing_granted}
use Rattle.list_book.proofs.book.ListBook.new.Goals as goal

pub invariant_of-result : goal.invariant_of-result
invariant_of-result c =
    let jobs : entries_of c.new-2.result.items c.new.result.items ≡ [] = ap (entries_of c.new-2.result.items) c.new.ensures.items in
    let world : empty_queue c.args.settings ≡ world_of (record { settings = c.args.settings; jobs = c.new.result; documents = c.new-2.result; next = 1; accounts = c.new-3.result; grants = c.new-4.result; reports = c.new-5.result }) =
    λ i. record { settings = c.args.settings; jobs = sym jobs i; next = 1; grants = sym (ap grants_map c.new-4.ensures.empty) i; free = sym (ap free_map c.new-3.ensures.empty) i; reports = sym (ap reports_map c.new-5.ensures.empty) i } in (
      λ n e. ap (documents_of n) c.new-2.ensures.items,
      subst IsSound world (c.empty_is_sound.ensures c.args.settings c.estimate-estimate.ensures.limits),
      λ a. ap (λ es. total_of es a) c.new-3.ensures.empty ∙ sym (ap (λ es. granted_in a (grants_map es)) c.new-4.ensures.empty ∙ nothing_granted a),
    )

pub returns-clause-sound : goal.returns-clause-sound
returns-clause-sound c = (invariant_of-result c).1
