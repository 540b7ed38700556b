use Rattle.std.proofs.Common.{rules, ◌+◌, ◌*◌, arith}
use Rattle.graph.specs.declared.circuit.Lit.{Lit}
use Rattle.shrink.proofs.Numbered.{numbered_more, numbered_kept}
use Rattle.shrink.proofs.numbering.number.Goals as goal

pub loop-k-preserved : goal.loop-k-preserved
loop-k-preserved c =
    let base : Lit = record { 0 = 2 * (c.loop-k.k + 1) } in
    let range = c.requires.in_range c.loop-k.k (record { 0 = 0 }) c.loop-k-test.true in
    let whole = c.loop-k.invariant.same_length in
    record {
      same_length = search rules;
      numbered = numbered_more c.loop-k.image c.args.bases.now c.loop-k.k c.variable.result base c.loop-k-test.true (omega (arith, c.variable.ensures, range, whole)) c.requires.once c.variable.ensures (omega arith) c.loop-k.invariant.numbered;
      kept = numbered_kept c.loop-k.image c.args.image.now c.args.bases.now c.loop-k.k c.variable.result base c.loop-k-test.true c.variable.ensures c.loop-k.invariant.kept;
    }
