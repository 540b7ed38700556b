use Rattle.std.proofs.Common.{length-set, ◌∙◌, arith}
use Rattle.std.proofs.lemmas.List.{get_or_default}
use Rattle.engine_random.proofs.StartLaws.{starts_more}
use Rattle.engine_random.proofs.batch.first_values.Goals as goal

pub loop-i-preserved : goal.loop-i-preserved
loop-i-preserved c =
    let long = c.loop-i.invariant.0 in (
      length-set c.loop-i.first c.loop-i.i c.first_value.result ∙ long,
      starts_more c.args.latches.now c.loop-i.first c.loop-i.i c.first_value.result (omega (arith, long))
          (λ r d r_in. let same = get_or_default c.args.latches.now c.loop-i.i (record { lit = record { 0 = 0 }; next = record { 0 = 0 }; reset = record { 0 = 0 } }) d (omega arith) in
          record { low = λ e. c.first_value.ensures.low (rw same e) r r_in; high = λ e. c.first_value.ensures.high (rw same e) r r_in })
          c.loop-i.invariant.1,
    )
