-- How the fields of `Store` are seen.
use Rattle.std.specs.Prelude.{ℕ, ◌≡◌, ◌+◌, ◌≤◌, List, [], ◌∷◌, ℤ, map, take, drop, length, All}
use Rattle.lrat.specs.Literals.{IsLiteral}
use Rattle.cdcl_kernel.specs.Kept.{Kept}
use Rattle.cdcl_kernel.specs.declared.origin.Origin.{Origin}
use Rattle.cdcl_kernel.specs.declared.origin.Origin.TheVariants.{Removed}
use Rattle.cdcl_kernel.specs.declared.clause_ref.ClauseRef.{ClauseRef}

abbrev pub part_of : List ℤ → ClauseRef → List ℤ
part_of ls p = take p.len (drop p.start ls)

abbrev pub parts_at : List ℤ → List ClauseRef → List (List ℤ)
parts_at ls ps = map (part_of ls) ps

-- each clause with where it comes from
abbrev pub with_origins : List (List ℤ) → List Origin → List Kept
with_origins [] os = []
with_origins (c ∷ cs) [] = []
with_origins (c ∷ cs) (o ∷ os) = record { origin = o; clause = c } ∷ with_origins cs os

abbrev pub kept_at : List ℤ → List ClauseRef → List Origin → List Kept
kept_at ls ps os = with_origins (parts_at ls ps) os

-- nothing is left of a clause that was taken out
abbrev pub IsEmptied : Kept → Type 0
IsEmptied k = k.origin ≡ Removed → k.clause ≡ []

-- each clause begins where those before it have ended
abbrev pub AreInOrder : ℕ → List ClauseRef → Type 0
AreInOrder from [] = Unit {0}
AreInOrder from (p ∷ ps) = (from ≤ p.start) × AreInOrder (p.start + p.len) ps

-- each clause lies inside and behind the earlier ones, its literals are in range, and the ids fit
pub record AreInside (n : ℕ) (ls : List ℤ) (ps : List ClauseRef) (os : List Origin) : Type 0 where
  pub inside : All (λ (p : ClauseRef). p.start + p.len ≤ length ls) ps
  pub in_order : AreInOrder 0 ps
  pub in_range : All (IsLiteral n) ls
  pub few : length ps ≤ 4294967295
  pub same : length os ≡ length ps
  pub emptied : All IsEmptied (kept_at ls ps os)
