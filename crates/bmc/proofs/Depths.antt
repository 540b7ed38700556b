-- Runs of a number of steps, and of one step more.
use Rattle.std.proofs.Common.{◌≡◌, ℕ, ◌+◌, ◌-◌, ◌*◌, ◌<◌, ◌≤◌, Bool, true, List, [], ◌∷◌, length, take, get_or, All, Some, inl, inr, sym, ◌∙◌, ap, subst, arith, length-take-le}
use Rattle.std.specs.Prelude.{slice_get}
use Rattle.std.proofs.lemmas.Bool.{cases_lt, false_from_ne_true}
use Rattle.std.proofs.lemmas.List.{get_or_default, get_or-take}
use Rattle.std.proofs.lemmas.List.Elements.{All-take}
use Rattle.base.specs.Budget.{Steps}
use Rattle.graph.specs.declared.circuit.Lit.{Lit}
use Rattle.graph.specs.declared.circuit.Property.TheVariants.{Bad}
use Rattle.graph.specs.declared.parts.Parts.{Parts}
use Rattle.graph.specs.Circuits.{value_of, at}
use Rattle.graph.specs.WellFormed.{IsWellFormed}
use Rattle.graph.proofs.Times.{IsRun-take}
use Rattle.stimulus.specs.Shown.{last_of}
use Rattle.cnf.specs.Formulas.{IsInRange, bad_literal}
use Rattle.cnf.proofs.CaseLaws.{bad_in_range}
use Rattle.engine.specs.Bounds.{IsUnsetFor}
use Rattle.engine.specs.declared.finding.Finding.{Finding}
use Rattle.engine.specs.declared.finding.Finding.TheVariants.{Invariant, Run, Unknown}
use Rattle.engine.specs.declared.finding.Reason.TheVariants.{Budget, Depth, NoEvidence}
use Rattle.engine.specs.Findings.{IsForBad, IsSo}
use Rattle.bmc.specs.Depths.{EndsAt, IsShortest, IsUnsetAfter}

named_first : (xs : List Lit) (a d : Lit) → slice_get xs 0 ≡ Some a → get_or xs 0 d ≡ a
named_first [] a d e = cc
named_first (x ∷ xs) a d e = cc

pub unset_none : (m : Parts) → IsUnsetFor m (Bad 0) 0
unset_none m r a run keeps short exists i d i_in = absurd (omega (arith, short, i_in))

-- one number of steps more
pub unset_more : (m : Parts) (k : ℕ) → IsUnsetFor m (Bad 0) k → IsUnsetAfter m k → IsUnsetFor m (Bad 0) (k + 1)
unset_more m k before here r a run keeps short exists i d i_in = elim (cases_lt i k) [
  | inl below ↦
      let first : List (List Bool) = take (i + 1) r in
      let long : length first ≡ i + 1 = length-take-le (i + 1) r (omega (arith, i_in)) in
      let unset = before first a (IsRun-take m r (i + 1) (omega arith) (omega (arith, i_in)) run) (All-take (λ w. All (λ c. value_of w c ≡ true) m.constraints) (i + 1) r keeps)
      (omega (arith, long, below)) exists i d (omega (arith, long)) in
      ap (λ w. value_of w a) (sym (get_or-take (i + 1) r i d (omega arith))) ∙ unset
  | inr last ↦
      let here_is : length r - 1 ≡ i = omega (arith, short, i_in, last) in
      let same : last_of r ≡ get_or r i d = ap (at r) here_is ∙ get_or_default r i [] d i_in in
      false_from_ne_true (value_of (get_or r i d) a)
      (λ set. here r run keeps (omega (arith, short, i_in, last))
      (ap (λ w. value_of w (bad_literal m 0)) same ∙ ap (value_of (get_or r i d)) (named_first m.bad a (record { 0 = 0 }) exists) ∙ set))
]

-- a circuit with one bad literal has a first one
pub some_bad : (m : Parts) → IsForBad m → 0 < length m.bad
some_bad m for_bad = omega (arith, ap length for_bad.one)

pub bad_range : (m : Parts) → IsWellFormed m → IsForBad m → IsInRange m.max_var (bad_literal m 0)
bad_range m well for_bad = bad_in_range m well 0 (record { 0 = 0 }) (some_bad m for_bad)

-- room for the times that are left
pub room_one : (a k each vars : ℕ) → a + (k + 1) * each ≤ vars → a + 1 * each ≤ vars
room_one a k each vars h = omega (arith, h)

pub room_less : (a b k each vars : ℕ) → a + (k + 1) * each ≤ vars → b ≤ a + each → b + k * each ≤ vars
room_less a b k each vars h le = omega (arith, h, le)

-- what ends the search at a number of steps is the shortest, where nothing less ended it
pub ends_shortest : (m : Parts) (steps : ℕ) (after : Steps) (f : Finding) → EndsAt m steps after f → IsUnsetFor m (Bad 0) steps → IsShortest m f
ends_shortest m steps after (Run initial inputs) ends unset = let last : steps ≡ length inputs - 1 = omega (arith, ends.1) in subst (IsUnsetFor m (Bad 0)) last unset
ends_shortest m steps after (Invariant inv) ends unset = tt
ends_shortest m steps after (Unknown reason) ends unset = tt

-- what ends the search is so
pub ends_so : (m : Parts) (steps : ℕ) (after : Steps) (f : Finding) → EndsAt m steps after f → IsSo m after f
ends_so m steps after (Run initial inputs) ends = ends.0
ends_so m steps after (Invariant inv) ends = absurd ends
ends_so m steps after (Unknown Budget) ends = ends
ends_so m steps after (Unknown (Depth depth)) ends = absurd ends
ends_so m steps after (Unknown NoEvidence) ends = absurd ends
