-- The clauses of an invariant that are kept.
use Rattle.std.proofs.Common.{◌≡◌, ◌<◌, List, get_or, length, All, Contains, sym, ap, subst, arith}
use Rattle.std.proofs.lemmas.List.Elements.{All-contains, All-contains_itself}
use Rattle.graph.specs.declared.circuit.Lit.{Lit}
use Rattle.graph.specs.declared.parts.Parts.{Parts}
use Rattle.graph.specs.WellFormed.{used}
use Rattle.graph.proofs.Tabled.{holds_of_used}
use Rattle.cnf.specs.Formulas.{IsOverLatches, bad_literal}
use Rattle.cnf.specs.Invariants.{IsInductive, IsProper, IsInvariant}
use Rattle.engine.specs.Findings.{IsForBad}

-- the bad literal is one of those that the circuit uses
pub bad_used : (m : Parts) (bads : List Lit) → IsForBad m → bads ≡ m.bad → Contains (used m) (get_or bads 0 (record { 0 = 0 }))
bad_used m bads for_bad are =
    let some : 0 < length m.bad = omega (arith, ap length for_bad.one) in
    let same : bad_literal m 0 ≡ get_or bads 0 (record { 0 = 0 }) = ap (λ (xs : List Lit). get_or xs 0 (record { 0 = 0 })) (sym are) in
    subst (Contains (used m)) same ((holds_of_used (Contains (used m)) m (All-contains_itself (used m))).bad 0 (record { 0 = 0 }) some)

pub clauses_over : (m : Parts) (inv : List (List Lit)) → IsInvariant m inv → All (IsOverLatches m) inv
clauses_over m inv given k d k_in = (given.clauses k d k_in).over

-- clauses of an invariant that are inductive are one
pub subset_is : (m : Parts) (inv cs : List (List Lit)) (bads : List Lit) → bads ≡ m.bad → IsInvariant m inv → All (Contains inv) cs →
    (IsInductive m inv (get_or bads 0 (record { 0 = 0 })) → IsInductive m cs (get_or bads 0 (record { 0 = 0 }))) → IsInvariant m cs
subset_is m inv cs bads are given among inductive =
    let same : get_or bads 0 (record { 0 = 0 }) ≡ bad_literal m 0 = ap (λ (xs : List Lit). get_or xs 0 (record { 0 = 0 })) are in
    record {
      clauses = λ k d k_in. All-contains (IsProper m) inv (get_or cs k d) given.clauses (among k d k_in);
      inductive = subst (IsInductive m cs) same (inductive (subst (IsInductive m inv) (sym same) given.inductive));
    }
