use Rattle.std.proofs.Common.{rules, ◌≡◌, ◌∙◌, List, [], ◌∷◌, ◌++◌, ℤ, ap, subst, SFits, w32, to_z, of_z}
use Rattle.lrat.specs.Shared.{unit_clauses}
use Rattle.cnf.specs.Clauses.{literal}
use Rattle.cnf.specs.Invariants.{AreContradictory}
use Rattle.solver.specs.Answers.{IsCore}
use Rattle.correspondence.proofs.Asked.{core_contradicts, read_as}
use Rattle.correspondence.proofs.rounds.Induction.excludes.Goals as goal

pub returns-in-Core-clause-excluded : goal.returns-in-Core-clause-excluded
returns-in-Core-clause-excluded g c told =
    let cs : List (List ℤ) = g.S.Sat.clauses c.args.solver.now in
    let units : List ℤ = c.push.new.to.items in
    let l : ℤ = literal c.args.circuit.now.max_var 0 c.args.bad in
    let core : List ℤ = c.in-Core.field-0.items in
    let is : IsCore cs units core = rw c.in-Core.is at c.in_ok-answer.ensures.core in
    let f : SFits w32 c.bad_unit.result = search rules in
    let same : units ≡ l ∷ [] = c.in_ok-push.ensures.items ∙ ap (λ (us : List ℤ). us ++ to_z w32 (of_z w32 c.bad_unit.result) ∷ []) c.new-units.ensures.items ∙ ap (λ (x : ℤ). x ∷ []) (read_as _ _ f c.bad_unit.ensures.unit) in
    subst (λ (us : List ℤ). AreContradictory (cs ++ unit_clauses us)) same (core_contradicts cs units core is)
