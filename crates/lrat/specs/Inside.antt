-- How the fields of `Clauses` are seen.
use Rattle.std.specs.Prelude.{ℕ, ℤ, List, All, IfSome}
use Rattle.std.specs.BTreeMap as tree
use Rattle.std.specs.BTreeMap.{BTreeMap}
use Rattle.std.specs.Ordering.{nat_cmp}
use Rattle.std.specs.FinMap as fin
use Rattle.lrat.specs.Literals.{IsLiteral}
use Rattle.lrat.specs.Store.{Store}

abbrev pub store_of : ℕ → BTreeMap ℕ (List ℤ) → Store
store_of n m = record { vars = n; by_id = fin.from_entries m.entries }

-- each stored clause has literals of the variables 1 to n
abbrev pub HasLiterals : ℕ → BTreeMap ℕ (List ℤ) → Type 0
HasLiterals n m = (q : ℕ) → IfSome (tree.get nat_cmp m q) (λ v. All (IsLiteral n) v)
