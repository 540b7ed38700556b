-- The bad literal of a circuit that has one.
use Rattle.std.proofs.Common.{◌≡◌, ◌<◌, List, get_or, length, Contains, sym, ap, subst, arith}
use Rattle.std.proofs.lemmas.List.Elements.{All-contains_itself}
use Rattle.graph.specs.declared.circuit.Lit.{Lit}
use Rattle.graph.specs.declared.parts.Parts.{Parts}
use Rattle.graph.specs.WellFormed.{used}
use Rattle.graph.proofs.Tabled.{holds_of_used}
use Rattle.cnf.specs.Formulas.{bad_literal}
use Rattle.engine.specs.Findings.{IsForBad}

-- it is one of those that the circuit uses
pub bad_used : (m : Parts) (bads : List Lit) → IsForBad m → bads ≡ m.bad → Contains (used m) (get_or bads 0 (record { 0 = 0 }))
bad_used m bads for_bad are =
    let some : 0 < length m.bad = omega (arith, ap length for_bad.one) in
    let same : bad_literal m 0 ≡ get_or bads 0 (record { 0 = 0 }) = ap (λ (xs : List Lit). get_or xs 0 (record { 0 = 0 })) (sym are) in
    subst (Contains (used m)) same ((holds_of_used (Contains (used m)) m (All-contains_itself (used m))).bad 0 (record { 0 = 0 }) some)
