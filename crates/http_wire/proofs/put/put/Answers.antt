use Rattle.std.proofs.Common.{◌+◌, arith}
use Rattle.http_wire.proofs.WriteLemmas.{front_taken, put_rest, rest_length}
use Rattle.http_wire.proofs.put.put.Goals as goal

pub write-preserved : goal.write-preserved
write-preserved g c = record {
  within = let e = rest_length c.args.bytes.now c.write.at in omega (arith, e, c.in_ok-n.ensures.within, c.write.invariant.within);
  written = put_rest _ _ _ c.args.bytes.now c.write.at c.in_ok-n.n c.write.invariant.written c.in_ok-n.ensures.ok;
}

pub returns-then-n-eq0-clause-err : goal.returns-then-n-eq0-clause-err
returns-then-n-eq0-clause-err g c =
    front_taken _ _ c.args.bytes.now (c.write.at + c.in_ok-n.n)
    (put_rest _ _ _ c.args.bytes.now c.write.at c.in_ok-n.n c.write.invariant.written c.in_ok-n.ensures.ok)
