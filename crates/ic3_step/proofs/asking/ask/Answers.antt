use Rattle.std.proofs.Common.{◌≡◌, ◌∙◌, ◌+◌, ◌≤◌, ℤ, Some, List, All, arith, refl, ap, sym, subst}
use Rattle.graph.specs.WellFormed.{IsModel as IsCircuit}
use Rattle.lrat.specs.Literals.{IsLiteral}
use Rattle.solver.specs.Answers.{IsCore}
use Rattle.solver.specs.declared.part.Part.{Part}
use Rattle.solver.specs.Parts.{IsPartModel}
use Rattle.ic3_step.specs.declared.cone.Cone.{Cone}
use Rattle.ic3_step.specs.declared.reply.Reply.TheVariants.{Found, Core}
use Rattle.ic3_step.specs.Replies.{IsReply}
use Rattle.cnf.specs.Clauses.{frame_at}
use Rattle.ic3_step.specs.Contents.{Contents, IsGrown, IsMoreOf}
use Rattle.ic3_step.specs.Readings.{assumptions_of, time_at, core_lits}
use Rattle.states.proofs.Valued.{known_in_range}
use Rattle.ic3_step.proofs.Loaded.{assumptions_literals, grown_of, loaded_grown, kept_marks}
use Rattle.ic3_step.proofs.Found.{found}
use Rattle.ic3_step.proofs.Refused.{refused}
use Rattle.ic3_step.proofs.asking.ask.Goals as goal

pub grow-requires-clause-vars : goal.grow-requires-clause-vars
grow-requires-clause-vars g c = let vars = c.requires.guards.loaded.vars in omega (arith, vars)

pub grow-requires-clause-grown : goal.grow-requires-clause-grown
grow-requires-clause-grown g c =
    let told : Contents = record { vars = g.S.Sat.vars c.args.solver.now; clauses = g.S.Sat.clauses c.args.solver.now; cone = Some c.args.cone.now } in
    let has = c.requires.guards in
    grown_of c.args.circuit.now has.room has.added told c.args.cone.now has.loaded refl

pub assumptions-requires-clause-lits : goal.assumptions-requires-clause-lits
assumptions-requires-clause-lits g c = known_in_range c.args.circuit.now c.args.lits.now c.well_formed-2.ensures c.requires.lits

pub solve_part-requires : goal.solve_part-requires
solve_part-requires g c =
    let m = c.args.circuit.now in
    let old : Contents = record { vars = g.S.Sat.vars c.args.solver.now; clauses = g.S.Sat.clauses c.args.solver.now; cone = Some c.args.cone.now } in
    subst (λ n. All (IsLiteral n) c.as_slice.result.now) (sym c.grow.ensures.vars)
    (subst (All (IsLiteral old.vars)) (sym (c.as_slice.ensures.value ∙ c.in_ok-assumed.ensures))
    (assumptions_literals m c.args.guards.now c.args.lits.now old c.well_formed-2.ensures c.requires.guards c.requires.lits))

pub returns-in-Model-clause-loaded : goal.returns-in-Model-clause-loaded
returns-in-Model-clause-loaded g c = λ n gs loaded.
    let old : Contents = record { vars = g.S.Sat.vars c.args.solver.now; clauses = g.S.Sat.clauses c.args.solver.now; cone = Some c.args.cone.now } in
    let cone : Cone = c.part_for.new.self in
    loaded_grown c.args.circuit.now n gs old c.args.cone.now cone (g.S.Sat.vars c.solve_part.new.self) (g.S.Sat.clauses c.solve_part.new.self) loaded refl (c.solve_part.ensures.vars ∙ c.grow.ensures.vars)
    (subst (IsGrown c.args.circuit.now cone) (sym c.solve_part.ensures.clauses) (c.in_ok-part.ensures.grown (g.S.Sat.clauses c.grow.new.solver) c.in_ok-grow.ensures.grown))
    (kept_marks c.args.cone.now c.grow.new.cone cone c.part_for.ensures.marks c.in_ok-grow.ensures.kept)
    (subst (IsMoreOf (frame_at c.args.circuit.now 0) old.clauses) (sym c.solve_part.ensures.clauses) c.in_ok-grow.ensures.added)

pub returns-in-Core-clause-loaded : goal.returns-in-Core-clause-loaded
returns-in-Core-clause-loaded g c = λ n gs loaded.
    let old : Contents = record { vars = g.S.Sat.vars c.args.solver.now; clauses = g.S.Sat.clauses c.args.solver.now; cone = Some c.args.cone.now } in
    let cone : Cone = c.part_for.new.self in
    loaded_grown c.args.circuit.now n gs old c.args.cone.now cone (g.S.Sat.vars c.solve_part.new.self) (g.S.Sat.clauses c.solve_part.new.self) loaded refl (c.solve_part.ensures.vars ∙ c.grow.ensures.vars)
    (subst (IsGrown c.args.circuit.now cone) (sym c.solve_part.ensures.clauses) (c.in_ok-part.ensures.grown (g.S.Sat.clauses c.grow.new.solver) c.in_ok-grow.ensures.grown))
    (kept_marks c.args.cone.now c.grow.new.cone cone c.part_for.ensures.marks c.in_ok-grow.ensures.kept)
    (subst (IsMoreOf (frame_at c.args.circuit.now 0) old.clauses) (sym c.solve_part.ensures.clauses) c.in_ok-grow.ensures.added)

pub returns-clause-loaded : goal.returns-clause-loaded
returns-clause-loaded g c = λ n gs loaded.
    let old : Contents = record { vars = g.S.Sat.vars c.args.solver.now; clauses = g.S.Sat.clauses c.args.solver.now; cone = Some c.args.cone.now } in
    let cone : Cone = c.part_for.new.self in
    loaded_grown c.args.circuit.now n gs old c.args.cone.now cone (g.S.Sat.vars c.solve_part.new.self) (g.S.Sat.clauses c.solve_part.new.self) loaded refl (c.solve_part.ensures.vars ∙ c.grow.ensures.vars)
    (subst (IsGrown c.args.circuit.now cone) (sym c.solve_part.ensures.clauses) (c.in_ok-part.ensures.grown (g.S.Sat.clauses c.grow.new.solver) c.in_ok-grow.ensures.grown))
    (kept_marks c.args.cone.now c.grow.new.cone cone c.part_for.ensures.marks c.in_ok-grow.ensures.kept)
    (subst (IsMoreOf (frame_at c.args.circuit.now 0) old.clauses) (sym c.solve_part.ensures.clauses) c.in_ok-grow.ensures.added)

pub returns-in-Model-clause-lawful : goal.returns-in-Model-clause-lawful
returns-in-Model-clause-lawful g c = λ n gs loaded.
    let m = c.args.circuit.now in
    let guards = c.args.guards.now in
    let lits = c.args.lits.now in
    let vars = g.S.Sat.vars c.grow.new.solver in
    let b = c.in-Model.values.items in
    let part : Part = c.in_ok-part.part in
    let circuit : IsCircuit m c.order.result.now = record { well_formed = c.well_formed-2.ensures; ordered = c.order.ensures } in
    let model : IsPartModel vars part c.as_slice.result.now b = rw c.in-Model.is at c.in_ok-values.ensures.lawful in
    let asked : c.as_slice.result.now ≡ assumptions_of m guards lits = c.as_slice.ensures.value ∙ c.in_ok-assumed.ensures in
    let time : c.in_ok-time_in-in-Model.field-0 ≡ time_at m b = c.in_ok-time_in-in-Model.ensures in
    let fits : m.max_var + 1 ≤ vars = (let same = c.grow.ensures.vars in let room = c.requires.guards.loaded.vars in omega (arith, same, room)) in
    subst (λ t. IsReply m gs guards lits c.solve_part.new.budget (Found t)) (sym time)
    (found m c.order.result.now vars gs part guards lits b c.solve_part.new.budget circuit fits c.in_ok-part.ensures.part c.requires.lits
    (subst (λ (ls : List ℤ). IsPartModel vars part ls b) asked model))

pub returns-in-Core-clause-lawful : goal.returns-in-Core-clause-lawful
returns-in-Core-clause-lawful g c = λ n gs loaded.
    let m = c.args.circuit.now in
    let guards = c.args.guards.now in
    let lits = c.args.lits.now in
    let vars = g.S.Sat.vars c.grow.new.solver in
    let clauses = g.S.Sat.clauses c.grow.new.solver in
    let old : Contents = record { vars = g.S.Sat.vars c.args.solver.now; clauses = g.S.Sat.clauses c.args.solver.now; cone = Some c.args.cone.now } in
    let cone : Cone = c.part_for.new.self in
    let told : Contents = record { vars = vars; clauses = clauses; cone = Some cone } in
    let now = loaded_grown m n gs old c.args.cone.now cone vars clauses loaded refl c.grow.ensures.vars (c.in_ok-part.ensures.grown clauses c.in_ok-grow.ensures.grown)
    (kept_marks c.args.cone.now c.grow.new.cone cone c.part_for.ensures.marks c.in_ok-grow.ensures.kept) c.in_ok-grow.ensures.added in
    let core = c.in-Core.core.items in
    let is : IsCore told.clauses c.as_slice.result.now core = rw c.in-Core.is at c.in_ok-values.ensures.lawful in
    let asked : c.as_slice.result.now ≡ assumptions_of m guards lits = c.as_slice.ensures.value ∙ c.in_ok-assumed.ensures in
    let kept : c.in_ok-core_lits-in-Core.field-0 ≡ core_lits m.max_var core = c.in_ok-core_lits-in-Core.ensures ∙ ap (core_lits m.max_var) c.as_slice-in-Core.ensures.value in
    subst (λ ls. IsReply m gs guards lits c.solve_part.new.budget (Core ls)) (sym kept)
    (refused m n gs told guards lits core c.solve_part.new.budget c.well_formed-2.ensures now c.requires.lits (subst (λ (ls : List ℤ). IsCore told.clauses ls core) asked is))
