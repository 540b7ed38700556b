use Rattle.std.proofs.Common.{List, Contains, sym, subst}
use Rattle.std.specs.Option.{unwrap_or}
use Rattle.graph.specs.declared.circuit.Latch.{Latch}
use Rattle.states.specs.States.{IsPartOf}
use Rattle.ic3_frames.specs.Clauses.{IsResetLit}
use Rattle.ic3_blocking.specs.Answers.{IsRelative}
use Rattle.ic3_blocking.proofs.Inductions.{reset_of, kept_inductive}
use Rattle.ic3_blocking.proofs.Literals.{picked_part}
use Rattle.ic3_blocking.proofs.frame_solver.FrameSolver.inductive.Goals as goal

pub with_part-requires : goal.with_part-requires
with_part-requires g c =
    let m = c.args.circuit.now in
    let clause = c.args.clause.now in
    let law = subst (IsRelative m c.args.frames.now.entries c.args.level clause c.relative.new.budget) c.in-Held.is c.in_ok-part.ensures.lawful in
    let inside = subst (λ part. IsPartOf part clause) (sym c.as_slice.ensures) law.0 in
    record {
      part = subst (λ part. IsPartOf part clause) (sym c.as_slice-in-Held.ensures) law.0;
      more = subst (Contains clause) (sym c.unwrap_or-first.ensures)
          (reset_of c.latches.result.now c.as_slice.result.now clause c.reset_literal.result c.args.first c.reset_literal.ensures.some inside c.requires.among
          (subst (λ (latches : List Latch). IsResetLit latches c.args.first) (sym c.latches.ensures) c.requires.reset)).0;
    }

pub returns-in_ok-kept-in-Held-clause-lawful : goal.returns-in_ok-kept-in-Held-clause-lawful
returns-in_ok-kept-in-Held-clause-lawful g c =
    let m = c.args.circuit.now in
    let es = c.args.frames.now.entries in
    let k = c.args.level in
    let clause = c.args.clause.now in
    let part = c.in-Held.part in
    let first = c.unwrap_or-first.result in
    let kept = c.in_ok-kept-in-Held.kept in
    let law = subst (IsRelative m es k clause c.relative.new.budget) c.in-Held.is c.in_ok-part.ensures.lawful in
    let inside = subst (λ part. IsPartOf part clause) (sym c.as_slice.ensures) law.0 in
    let own = subst (λ (latches : List Latch). IsResetLit latches c.args.first) (sym c.latches.ensures) c.requires.reset in
    let reset = reset_of c.latches.result.now c.as_slice.result.now clause c.reset_literal.result c.args.first c.reset_literal.ensures.some inside c.requires.among own in (
      kept_inductive m es k part kept clause first c.relative.new.budget c.requires.clause law c.in_ok-kept-in-Held.ensures.picked
          (subst (λ xs. IsPartOf xs kept) c.as_slice-in-Held.ensures c.in_ok-kept-in-Held.ensures.part) c.in_ok-kept-in-Held.ensures.more
          (subst (λ (latches : List Latch). IsResetLit latches first) c.latches.ensures (subst (IsResetLit c.latches.result.now) {x = unwrap_or c.reset_literal.result c.args.first} (sym c.unwrap_or-first.ensures) reset.1)),
      picked_part kept clause c.in_ok-kept-in-Held.ensures.picked,
    )
