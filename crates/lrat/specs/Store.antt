-- Clauses by their ids, as a value.
use Rattle.std.specs.Prelude.{ℕ, List, ℤ, refl}
use Rattle.std.specs.Ordering.{nat_cmp}
use Rattle.std.specs.FinMap as fin
use Rattle.std.specs.Coded.{Coded, code_by, coded×, coded_ℕ, coded_ℤ, coded_list}
use Rattle.lrat.specs.Literals.{Finder}

-- the clauses by their ids
abbrev pub ById : Type 0
ById = fin.FinMap nat_cmp (List ℤ)

-- the clauses by their ids, over the variables 1 to vars
pub record Store : Type 0 where
  pub vars : ℕ
  pub by_id : ById

abbrev pub by_id_code : Coded ById
by_id_code = fin.code coded_ℕ (coded_list coded_ℤ)

abbrev pub store_code : Coded Store
store_code =
    code_by (ℕ × ById) (coded× coded_ℕ by_id_code) (λ v. (v.vars, v.by_id))
    (λ p. record { vars = p.0; by_id = p.1 }) (λ _. refl)

-- which clause of the store has an id
abbrev pub find_in : Store → Finder
find_in s id = fin.get s.by_id id
