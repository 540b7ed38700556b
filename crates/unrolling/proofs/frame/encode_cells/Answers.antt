use Rattle.std.proofs.Common.{rules, ◌≡◌, ◌+◌, length, ◌∙◌, refl, subst, arith}
use Rattle.unrolling.specs.Encodings.{told}
use Rattle.unrolling.specs.Unrollings.{IsTable}
use Rattle.unrolling.proofs.Encoded.{grown_then}
use Rattle.unrolling.proofs.frame.encode_cells.Goals as goal

pub loop-place-preserved : goal.loop-place-preserved
loop-place-preserved g c = record {
  grown = grown_then c.loop-place.place 1 (c.loop-place.place + 1) c.args.encoder.now c.loop-place.encoder c.merge_cell.new.encoder refl c.loop-place.invariant.grown c.in_ok-merge_cell.ensures.grown;
  whole = c.in_ok-merge_cell.ensures.whole ∙ c.loop-place.invariant.whole;
  spends = search rules;
  ready = c.in_ok-merge_cell.ensures.ready;
  literals = c.in_ok-merge_cell.ensures.literals;
  table = λ s cs t is. c.in_ok-merge_cell.ensures.table s cs t (c.loop-place.invariant.table s cs t is);
}

pub returns-clause-table : goal.returns-clause-table
returns-clause-table g c = λ s cs t is.
    let cone = c.args.cone.now in
    let last : c.loop-place.place ≡ length cone.cells.items = omega arith in
    subst (λ q. IsTable c.args.circuit.now cone s (told c.loop-place.encoder cs) t c.loop-place.encoder.variables (length cone.inputs.items) (length cone.latches.items) q c.loop-place.table) last
    (c.loop-place.invariant.table s cs t is)
