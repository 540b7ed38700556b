-- What a refutation in progress is seen as.
use Rattle.std.specs.Prelude.{◌≡◌, ℕ, Bool, List, [], Option, None, ℤ, refl}
use Rattle.lrat.specs.Assigned.{Assigned}
use Rattle.lrat.specs.Layers.{Layers}
use Rattle.std.specs.Coded.{Coded, code_by, coded×, coded_ℕ, coded_bool, coded_option}
use Rattle.lrat.specs.Store.{ById, by_id_code}
use Rattle.lrat.specs.Shared.{Base, base_code, base_of, over}
use Rattle.lrat.specs.Stages.{Stage}
use Rattle.lrat.specs.Proofs.{first_stage}
use Rattle.lrat.specs.declared.fault.Fault.{Fault}
use Rattle.lrat.specs.declared.formula.Formula.{Formula}

-- what is shared, the stage that the lines led to, and the refusal that stands
pub record Course : Type 0 where
  pub base : Base
  pub stage : Stage
  pub refusal : Option Fault

abbrev pub course_code : Coded Fault → Coded Course
course_code fault =
    code_by (Base × ((ById × (ℕ × Bool)) × Option Fault)) (coded× base_code (coded× (coded× by_id_code (coded× coded_ℕ coded_bool)) (coded_option fault)))
    (λ c. (c.base, ((c.stage.present, (c.stage.top, c.stage.closed)), c.refusal)))
    (λ p. record { base = p.0; stage = record { present = p.1.0.0; top = p.1.0.1.0; closed = p.1.0.1.1 }; refusal = p.1.1 }) (λ _. refl)

-- at a formula, before the first line
abbrev pub at_formula : Formula → Course
at_formula f = record { base = base_of f; stage = first_stage f; refusal = None }

-- at a base with units, before the first line
abbrev pub at_units : Base → List ℤ → Course
at_units b us = record { base = b; stage = over b us; refusal = None }

-- how the fields of `Refuter` are seen
abbrev pub course_of : Layers → Bool → Option Fault → Course
course_of s closed refusal = record { base = s.base; stage = record { present = s.present; top = s.top; closed = closed }; refusal = refusal }

-- nothing is held between lines
pub record IsSteady (t : Assigned) (s : Layers) : Type 0 where
  pub same_vars : t.vars ≡ s.base.vars
  pub clear : t.literals ≡ []
