-- What several refutations begin with.
use Rattle.std.specs.Prelude.{◌≡◌, ℕ, ◌+◌, Bool, true, false, List, [], ◌∷◌, ◌++◌, map, length, All, ℤ, refl}
use Rattle.std.specs.FinMap as fin
use Rattle.lrat.specs.Literals.{is_true, Satisfies}
use Rattle.std.specs.Coded.{Coded, code_by, coded×, coded_ℕ}
use Rattle.lrat.specs.Store.{ById, by_id_code}
use Rattle.lrat.specs.Limits.{IsLine}
use Rattle.lrat.specs.Stages.{Stage, GoAlong}
use Rattle.lrat.specs.Proofs.{numbered_from, first_stage}
use Rattle.lrat.specs.declared.formula.Formula.{Formula}
use Rattle.lrat.specs.declared.line.Line.{Line}

-- the clauses that are present, over the variables 1 to vars, and the greatest id that was ever present
pub record Base : Type 0 where
  pub vars : ℕ
  pub present : ById
  pub top : ℕ

abbrev pub base_code : Coded Base
base_code =
    code_by (ℕ × (ById × ℕ)) (coded× coded_ℕ (coded× by_id_code coded_ℕ)) (λ b. (b.vars, (b.present, b.top)))
    (λ p. record { vars = p.0; present = p.1.0; top = p.1.1 }) (λ _. refl)

-- each literal as a clause of its own
abbrev pub unit_clauses : List ℤ → List (List ℤ)
unit_clauses us = map (λ l. l ∷ []) us

-- the clauses of a formula, as a base
abbrev pub base_of : Formula → Base
base_of f = record { vars = f.vars; present = numbered_from 1 f.clauses fin.empty; top = length f.clauses }

-- the stage that begins with a base and these units, which have the next ids
abbrev pub over : Base → List ℤ → Stage
over b us = record { present = numbered_from (b.top + 1) (unit_clauses us) b.present; top = b.top + length us; closed = false }

-- the lines refute the base with these units
abbrev pub IsAcceptedOver : Base → List ℤ → List Line → Type 0
IsAcceptedOver b us ls = (t : Stage) × GoAlong b.vars (over b us) ls t × (t.closed ≡ true)

-- over a formula's own clauses it begins where the formula with the units does
abbrev pub OverLaw : Type 0
OverLaw = (n : ℕ) (cs : List (List ℤ)) (us : List ℤ) →
    over (base_of (record { vars = n; clauses = cs })) us ≡ first_stage (record { vars = n; clauses = cs ++ unit_clauses us })

-- nothing that satisfies the base makes the units of a refutation true
abbrev pub OverSoundLaw : Type 0
OverSoundLaw = (b : Base) (us : List ℤ) (ls : List Line) → All IsLine ls → IsAcceptedOver b us ls → (v : ℕ → Bool) → Satisfies v (fin.get b.present) → All (λ l. is_true v l ≡ true) us → ⊥
