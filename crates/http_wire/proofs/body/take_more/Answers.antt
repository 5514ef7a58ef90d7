use Rattle.std.proofs.Common.{◌≡◌, ◌+◌, ◌<◌, ◌≤◌, ◌++◌, take, length, ap, arith, subst, sym, rules}
use Rattle.std.proofs.lemmas.Grind.{common_steps}
use Rattle.http_wire.specs.Bodies.{TakesMore}
use Rattle.http_head.specs.Reads.{bytes_left, come, reader_of, reads_left}
use Rattle.http_head.specs.declared.input.Input.{Input}
use Rattle.http_wire.proofs.BodyLemmas.{more_taken, unread_on}
use Rattle.http_wire.proofs.body.take_more.Goals as goal

pub take-preserved : goal.take-preserved
take-preserved g c =
    let n = c.min-size.result in
    let bytes = come c.await_bytes.new.input in
    let r = g.R.Read.remaining (reader_of c.await_bytes.new.input) in
    let a = bytes_left g.R.Read c.args.input.now in
    let e : c.extend_from_slice.new.self.items ≡ c.take.content.items ++ take n bytes = grind (arith, common_steps, c.in_ok-extend_from_slice.ensures.items, c.bytes-in-take.ensures.value) in
    let fits : n ≤ length bytes = omega (arith, ap length c.bytes.ensures.value, c.min-size.ensures) in
    record {
      within = search rules;
      more = subst (λ (i : Input g.row.R.Denot). TakesMore (c.take.taken + n) a (bytes_left g.R.Read i) c.args.content.now.items c.extend_from_slice.new.self.items) (sym c.take-in-take.ensures)
          (more_taken a (bytes_left g.R.Read c.take.input) r bytes c.args.content.now.items c.take.content.items c.extend_from_slice.new.self.items c.take.taken n
          c.take.invariant.more c.await_bytes.ensures.kept fits e);
      never_more = let left_of = ap (λ (i : Input g.row.R.Denot). reads_left i) c.take-in-take.ensures in omega (arith, left_of, c.await_bytes.ensures.never_more, c.take.invariant.never_more);
      unread = λ there.
          let before = c.take.invariant.unread there in
          let some : 0 < length (come c.take.input) = omega (arith, before.1, there) in
          unread_on c.args.input.now c.take.input c.await_bytes.new.input _ n c.take.taken _ before (c.await_bytes.ensures.unread some) c.take-in-take.ensures fits;
    }
