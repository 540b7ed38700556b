-- What a search under units says of a formula with them, and what it leaves.
use Rattle.std.proofs.Common.{◌≡◌, ◌∙◌, ℕ, ℤ, ◌≤◌, Bool, true, List, [], ◌∷◌, All, Contains, unsigned_abs, refl, sym, ap, subst, arith}
use Rattle.std.proofs.lemmas.List.{append-nil}
use Rattle.std.proofs.lemmas.List.Elements.{All-nil, All-append, All-contains, All-map}
use Rattle.lrat.specs.Literals.{is_true, IsLiteral, IsSatisfied}
use Rattle.lrat.specs.Shared.{unit_clauses}
use Rattle.lrat.specs.declared.formula.Formula.{Formula}
use Rattle.cdcl_kernel.specs.Verdicts.{IsOpposed}
use Rattle.solver.specs.Answers.{IsModel, values}
use Rattle.cdcl_log.specs.Closings.{IsClosingOf, StaysShown}
use Rattle.cdcl_log.specs.Logged.{Logged, added_to, with_units}
use Rattle.cdcl_log.specs.Refuting.{Refuting, refuting}

-- ---- literals of units

pub literal_at : (n : ℕ) (us : List ℤ) (l : ℤ) → n ≤ 2147483647 → All (IsLiteral n) us → Contains us l → unsigned_abs l ≤ 2147483647
literal_at n us l small all there =
    let is : IsLiteral n l = All-contains (IsLiteral n) us l all there in
    let le : unsigned_abs l ≤ n = is.1 in
    omega (arith, le, small)

-- no literal is opposed to another
pub none_opposed : (us : List ℤ) (l : ℤ) → All (λ a. IsOpposed us a → ⊥) us → IsOpposed us l → ⊥
none_opposed us l none opposed = All-contains (λ a. IsOpposed us a → ⊥) us l none opposed.0 opposed

-- ---- a formula with units

-- a model of the formula and of the units is one of the formula with them
pub model_with : (f : Formula) (us : List ℤ) (b : List Bool) → IsModel f.vars f.clauses us b → IsModel (with_units f us).vars (with_units f us).clauses [] b
model_with f us b m = record {
  places = m.places;
  none = m.none;
  satisfied = All-append (IsSatisfied (values b)) f.clauses (unit_clauses us) m.satisfied
      (All-map (IsSatisfied (values b)) (λ (l : ℤ). l ∷ []) us (λ k d lt. (_, (0, omega arith, refl), m.assumed k d lt)));
  assumed = All-nil (λ l. is_true (values b) l ≡ true);
}

-- a search leaves the formula
pub same_formula : (old new : Logged) → new.vars ≡ old.vars → new.clauses ≡ old.clauses → added_to new ≡ added_to old
same_formula old new vars clauses = ap (λ n. record { vars = n; clauses = new.clauses }) vars ∙ ap (λ cs. record { vars = old.vars; clauses = cs }) clauses

-- without units it is as it was
pub without_units : (f : Formula) → with_units f [] ≡ f
without_units f = ap (λ cs. record { vars = f.vars; clauses = cs }) (append-nil f.clauses)

-- ---- closings

-- a search leaves what closings rest on
pub same_refuting : (old new : Logged) → new.vars ≡ old.vars → new.clauses ≡ old.clauses → new.room ≡ old.room → new.shared ≡ old.shared → refuting new ≡ refuting old
same_refuting old new vars clauses room shared = λ i. record { formula = record { vars = vars i; clauses = clauses i }; room = room i; log = shared i }

pub stays_same : (old new : Refuting) → new ≡ old → StaysShown old new
stays_same old new same = λ us k is. subst (λ r. IsClosingOf r us k) (sym same) is

pub stays_then : (old mid new : Refuting) → mid ≡ old → StaysShown mid new → StaysShown old new
stays_then old mid new same stays = λ us k is. stays us k (stays_same old mid same us k is)
