-- How the fields of `Kernel` are seen.
use Rattle.std.specs.Prelude.{◌≡◌, ℕ, List, [], ℤ, Some}
use Rattle.lrat.specs.Literals.{Follows}
use Rattle.lrat.specs.Assigned.{Assigned}
use Rattle.cdcl_kernel.specs.Kept.{Kept, Stored, find_in, added}
use Rattle.cdcl_kernel.specs.Known.{Known}

abbrev pub known_of : Stored → Known
known_of s = record { vars = s.vars; kept = s.kept }

-- every clause is true wherever the added ones are
abbrev pub AllFollow : List Kept → Type 0
AllFollow ks = (id : ℕ) (c : List ℤ) → find_in ks id ≡ Some c → Follows (added ks) c

-- the clauses follow from the added ones, and the scratch trail is over the same variables and empty
pub record IsSound (s : Stored) (scratch : Assigned) : Type 0 where
  pub scratch_vars : scratch.vars ≡ s.vars
  pub scratch_clear : scratch.literals ≡ []
  pub follow : AllFollow s.kept
