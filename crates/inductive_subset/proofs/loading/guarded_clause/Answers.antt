use Rattle.std.proofs.Common.{◌∙◌, All, sym, subst}
use Rattle.cnf.specs.Formulas.{IsInRange}
use Rattle.cnf.proofs.CaseLaws.{clause_range}
use Rattle.inductive_subset.proofs.loading.guarded_clause.Goals as goal

pub push_lits-requires : goal.push_lits-requires
push_lits-requires c =
    let m = c.args.circuit.now in
    subst (All (IsInRange m.max_var)) (sym (c.as_slice.ensures ∙ c.index-invariant-place.is))
    (clause_range m _ c.well_formed-2.ensures (c.requires.over c.args.place c.index-invariant-place.result c.requires.place))
