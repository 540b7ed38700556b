-- What an assignment is seen as.
use Rattle.std.specs.Prelude.{ℕ, List, ℤ, refl}
use Rattle.std.specs.Coded.{Coded, code_by, coded×, coded_ℕ, coded_ℤ, coded_list}

-- the literals held true, in order, over the variables 1 to vars
pub record Assigned : Type 0 where
  pub vars : ℕ
  pub literals : List ℤ

abbrev pub assigned_code : Coded Assigned
assigned_code =
    code_by (ℕ × List ℤ) (coded× coded_ℕ (coded_list coded_ℤ)) (λ v. (v.vars, v.literals))
    (λ p. record { vars = p.0; literals = p.1 }) (λ _. refl)
