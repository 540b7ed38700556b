use Rattle.std.proofs.Common.{All, subst, sym}
use Rattle.cnf.specs.Formulas.{IsInRange}
use Rattle.ic3_step.proofs.Loaded.{constraints_in_range}
use Rattle.ic3_step.proofs.query.wanted.Goals as goal

pub push_lits-requires : goal.push_lits-requires
push_lits-requires c = let m = c.args.circuit.now in subst (All (IsInRange m.max_var)) (sym c.constraints.ensures) (constraints_in_range m c.well_formed-2.ensures)
