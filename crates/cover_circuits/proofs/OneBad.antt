-- A circuit with any literal that it knows as its one bad literal is well formed.
use Rattle.std.proofs.Common.{◌+◌, ◌*◌, ◌≤◌, [], ◌∷◌, map, arith, All}
use Rattle.std.proofs.lemmas.List.Elements.{All-append, All-nil, All-cons, All-map}
use Rattle.graph.specs.declared.circuit.Lit.{Lit}
use Rattle.graph.specs.declared.parts.Parts.{Parts}
use Rattle.graph.specs.WellFormed.{IsWellFormed, used, only_bad}
use Rattle.graph.proofs.Tabled.{HoldsOfUsed, holds_of_used}
use Rattle.extension.specs.Extended.{IsKnown}

alone_holds : (P : Lit → Type 0) (m : Parts) (a : Lit) → P a → HoldsOfUsed P m → All P (used (only_bad m a))
alone_holds P m a bad u =
    All-append P _ (map (λ g. g.rhs1) m.gates)
    (All-append P _ (map (λ g. g.rhs0) m.gates)
    (All-append P _ []
    (All-append P _ []
    (All-append P _ m.constraints
    (All-append P _ (a ∷ [])
    (All-append P (map (λ l. l.next) m.latches) [] (All-map P (λ l. l.next) m.latches u.next) (All-nil P))
    (All-cons P a [] bad (All-nil P)))
    u.constraints)
    (All-nil P))
    (All-nil P))
    (All-map P (λ g. g.rhs0) m.gates u.left))
    (All-map P (λ g. g.rhs1) m.gates u.right)

pub alone_well_formed : (m : Parts) (a : Lit) → IsWellFormed m → a.0 ≤ 2 * m.max_var + 1 → IsKnown m a → IsWellFormed (only_bad m a)
alone_well_formed m a h range known =
    let R : Lit → Type 0 = λ b. b.0 ≤ 2 * m.max_var + 1 in
    let l = h.limits in
    record {
      limits = record {
        max_var = l.max_var;
        inputs = l.inputs;
        latches = l.latches;
        outputs = omega arith;
        gates = l.gates;
        bad = omega arith;
        constraints = l.constraints;
        justice = omega arith;
        fairness = omega arith;
        justice_sum = omega arith;
      };
      defining_even = h.defining_even;
      defining_in_range = h.defining_in_range;
      used_in_range = alone_holds R m a range (holds_of_used R m h.used_in_range);
      resets = h.resets;
      defined_once = h.defined_once;
      used_defined = alone_holds (IsKnown m) m a known (holds_of_used (IsKnown m) m h.used_defined);
      no_cycle = h.no_cycle;
    }
