-- The clauses of a solver by their ids.
use Rattle.std.specs.Prelude.{ℕ, zero, suc, List, [], ◌∷◌, ℤ, Option, None, Some, slice_index_or, slice_set}
use Rattle.lrat.specs.Literals.{Finder}
use Rattle.cdcl_kernel.specs.declared.origin.Origin.{Origin}
use Rattle.cdcl_kernel.specs.declared.origin.Origin.TheVariants.{Added, Learned, Removed}

-- a clause, and where it comes from
pub record Kept : Type 0 where
  pub origin : Origin
  pub clause : List ℤ

-- the clauses with the ids 1, 2 and so on, over the variables 1 to vars
pub record Stored : Type 0 where
  pub vars : ℕ
  pub kept : List Kept

abbrev pub live_if : Origin → List ℤ → Option (List ℤ)
live_if Removed c = None
live_if Added c = Some c
live_if Learned c = Some c

-- the clause, where it was not taken out
abbrev pub live : Kept → Option (List ℤ)
live k = live_if k.origin k.clause

-- what stays of a clause that was taken out
abbrev pub gone : Kept
gone = record { origin = Removed; clause = [] }

-- what an id has
abbrev pub kept_in : List Kept → ℕ → Kept
kept_in ks zero = gone
kept_in ks (suc i) = slice_index_or ks i gone

-- the clause with an id, where it was not taken out
abbrev pub find_in : List Kept → Finder
find_in ks id = live (kept_in ks id)

-- where the clause with an id comes from
abbrev pub origin_in : List Kept → ℕ → Origin
origin_in ks id = (kept_in ks id).origin

-- the clauses without the one with an id
abbrev pub without : List Kept → ℕ → List Kept
without ks zero = ks
without ks (suc i) = slice_set ks i gone

abbrev pub added_if : Origin → List ℤ → List (List ℤ) → List (List ℤ)
added_if Added c cs = c ∷ cs
added_if Learned c cs = cs
added_if Removed c cs = cs

-- the clauses that were added, in order
abbrev pub added : List Kept → List (List ℤ)
added [] = []
added (k ∷ ks) = added_if k.origin k.clause (added ks)
