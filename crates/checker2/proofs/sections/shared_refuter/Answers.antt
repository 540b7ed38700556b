use Rattle.std.proofs.Common.{◌≡◌, ◌∙◌, ◌+◌, List, [], Option, ap, subst, sym}
use Rattle.lrat.specs.declared.formula.Formula.{Formula}
use Rattle.lrat.specs.declared.line.Line.{Line}
use Rattle.lrat.specs.Courses.{at_units, Course}
use Rattle.lrat.specs.Lemmas.{Extends, base_at}
use Rattle.lrat.specs.Proofs.{first_stage}
use Rattle.lrat.specs.Stages.{Stage}
use Rattle.cnf.specs.Formulas.{shared_formula}
use Rattle.checker2.specs.Accepted.{IsShared}
use Rattle.checker2.proofs.sections.shared_refuter.Goals as goal

pub returns-in-Ok-clause-shared : goal.returns-in-Ok-clause-shared
returns-in-Ok-clause-shared c =
    let m = c.args.circuit.now in
    let inv = c.args.certificate.now.invariant in
    let base : c.in_ok-base.base ≡ shared_formula m inv = c.in_ok-base.ensures.formula ∙ ap (shared_formula m) c.as_slice.ensures in
    let extended : (t : Stage) × Extends (m.max_var + 1) (first_stage (shared_formula m inv)) c.in-Some.lemmas t × (c.in-Ok.refuter ≡ at_units (base_at (m.max_var + 1) t) []) =
    subst (λ (f : Formula). (t : Stage) × Extends f.vars (first_stage f) c.in-Some.lemmas t × (c.in-Ok.refuter ≡ at_units (base_at f.vars t) [])) base c.in-Ok.ensures.extended in
    subst (λ (ls : Option (List Line)). IsShared m inv ls c.in-Ok.refuter.base) (sym c.in-Some.is)
    (extended.0, c.lines.ensures.are_lines, extended.1, ap (λ (r : Course). r.base) extended.2)
