use Rattle.std.proofs.Common.{rules, ◌≡◌}
use Rattle.std.proofs.lemmas.Result.{on_ok_weaker}
use Rattle.queue_core.specs.Sound.{IsSound}
use Rattle.queue_tables.proofs.Committing.{ended, refused}
use Rattle.queue_tables.proofs.Making.{seen_as}
use Rattle.queue_tables.proofs.OperatorRows.{sound_with}
use Rattle.queue_tables.proofs.operators.set_outside.Goals as goal

pub returns-in_err-write_operators : goal.returns-in_err-write_operators
returns-in_err-write_operators g c =
    let tie : c.conn-1.given.0 ≡ c.drop-tx.new.self.0 = search rules in
    let made = rw c.transaction-tx.ensures.begun at c.in_err-write_operators.ensures.made in
    record {
      commits = rw tie (refused _ _ _ _ _ c.requires.none_open (g.met.S.Store.settled c.args.conn.now.store) (λ w sound. (sound, sound_with c.args.operators.now w c.in_err-write_operators.ensures.limits sound))
          (seen_as {Can_seen = IsSound} made (λ w. w) (λ w sound. tt)) c.drop-tx.ensures.undone c.drop-tx.ensures.survives _ c.from_residual.ensures.1);
      ended = rw tie c.drop-tx.ensures.ended;
    }

pub returns : goal.returns
returns g c =
    let tie : c.conn-2-1.given.0 ≡ c.commit.new.self.0 = search rules in
    let made = rw c.transaction-tx.ensures.begun at c.in_ok-write_operators.ensures.made in
    record {
      commits = rw tie (ended _ _ _ _ _ c.requires.none_open (g.met.S.Store.settled c.args.conn.now.store) (λ w sound. (sound, sound_with c.args.operators.now w c.in_ok-write_operators.ensures.limits sound))
          c.commit.result c.map_err.result (seen_as {Can_seen = IsSound} made (λ w. w) (λ w sound. tt)) (λ clean. on_ok_weaker c.commit.result (λ shown. shown.1) (c.commit.ensures.ok clean)) c.commit.ensures.err c.commit.ensures.survives c.map_err.ensures.cases);
      ended = rw tie c.commit.ensures.ended;
    }
