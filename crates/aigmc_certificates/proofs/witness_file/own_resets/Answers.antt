use Rattle.std.proofs.Common.{None, refl}
use Rattle.aigmc_certificates.proofs.OwnResets.{own_step}
use Rattle.aigmc_certificates.proofs.witness_file.own_resets.Goals as goal

pub loop-position-preserved : goal.loop-position-preserved
loop-position-preserved c =
    own_step c.args.given.now c.args.resets.now c.loop-position.position None _ _ _ _ _ _ c.loop-position-test.true refl c.given_at-given.ensures c.own_reset.ensures c.in_ok-push.ensures.items c.loop-position.invariant
