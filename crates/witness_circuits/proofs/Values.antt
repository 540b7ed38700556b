-- What the gates for clauses say.
use Rattle.std.proofs.Common.{◌≡◌, ℕ, ◌+◌, Bool, true, false, not, ◌&&◌, ◌||◌, List, [], ◌∷◌, ◌++◌, map, length, refl, All, ◌∙◌, ap}
use Rattle.std.proofs.lemmas.List.Elements.{All-head, All-tail}
use Rattle.graph.specs.declared.circuit.Lit.{Lit}
use Rattle.graph.specs.declared.circuit.Latch.{Latch}
use Rattle.graph.specs.declared.circuit.Gate.{Gate}
use Rattle.graph.specs.declared.parts.Parts.{Parts}
use Rattle.graph.specs.Circuits.{Valuation, place, value_of, Fires}
use Rattle.graph.proofs.Evaluation.{All-left, All-right}
use Rattle.live_safe.specs.Shadow.{positive, negation, joins, chain_gates, chain_end}
use Rattle.live_safe.proofs.Values.{value-negation}
use Rattle.extension.specs.Rounds.{always}
use Rattle.witness_circuits.specs.Witnesses.{is_true, are_true, denied, clause_gates, property_gates, property_literal, first_behind, witness_parts, IsWitness}

and-true : (b : Bool) → b ≡ (b && true)
and-true true = refl
and-true false = refl

neither : (f x y : Bool) → ((f && not x) && not y) ≡ (f && not (x || y))
neither true true y = refl
neither true false y = refl
neither false x y = refl

kept : (f c r : Bool) → ((f && not (not c)) && r) ≡ (f && (c && r))
kept true true r = refl
kept true false r = refl
kept false c r = refl

set : (a r : Bool) → not (not a && r) ≡ (a || not r)
set true r = refl
set false r = refl

always_on : (w : Valuation) → place w 0 ≡ false → value_of w always ≡ true
always_on w off = rw off refl

-- the end of the chain of the negations of a clause's literals
pub denied_value : (w : Valuation) (c : List Lit) (first : Lit) (v : ℕ) → All (Fires w) (chain_gates (map negation c) first v) →
    value_of w (chain_end (map negation c) first v) ≡ (value_of w first && not (is_true w c))
denied_value w [] first v fires = and-true (value_of w first)
denied_value w (a ∷ c) first v fires =
    let rest : List Gate = chain_gates (map negation c) (positive v) (v + 1) in
    let here : value_of w (positive v) ≡ (value_of w first && value_of w (negation a)) = All-head (Fires w) (joins v first (negation a)) rest fires in
    let there = denied_value w c (positive v) (v + 1) (All-tail (Fires w) (joins v first (negation a)) rest fires) in
    there ∙ ap (λ b. b && not (is_true w c)) (here ∙ ap (λ b. value_of w first && b) (value-negation w a)) ∙ neither (value_of w first) (value_of w a) (is_true w c)

-- the gate behind it
clause_value : (w : Valuation) (c : List Lit) (so_far : Lit) (v : ℕ) → place w 0 ≡ false → All (Fires w) (clause_gates c so_far v) →
    value_of w (positive (v + length c)) ≡ (value_of w so_far && not (not (is_true w c)))
clause_value w c so_far v off fires =
    let chain : List Gate = chain_gates (map negation c) always v in
    let last : Gate = joins (v + length c) so_far (negation (denied c v)) in
    let here : value_of w (positive (v + length c)) ≡ (value_of w so_far && value_of w (negation (denied c v))) =
    All-head (Fires w) last [] (All-right (Fires w) chain (last ∷ []) fires) in
    let off_value : value_of w (denied c v) ≡ not (is_true w c) =
    denied_value w c always v (All-left (Fires w) chain (last ∷ []) fires) ∙ ap (λ b. b && not (is_true w c)) (always_on w off) in
    here ∙ ap (λ b. value_of w so_far && b) (value-negation w (denied c v) ∙ ap not off_value)

-- the last gate of all clauses
pub property_value : (w : Valuation) (inv : List (List Lit)) (so_far : Lit) (v : ℕ) → place w 0 ≡ false → All (Fires w) (property_gates inv so_far v) →
    value_of w (property_literal inv so_far v) ≡ (value_of w so_far && are_true w inv)
property_value w [] so_far v off fires = and-true (value_of w so_far)
property_value w (c ∷ cs) so_far v off fires =
    let front : List Gate = clause_gates c so_far v in
    let rest : List Gate = property_gates cs (positive (v + length c)) (v + length c + 1) in
    let here = clause_value w c so_far v off (All-left (Fires w) front rest fires) in
    let there = property_value w cs (positive (v + length c)) (v + length c + 1) off (All-right (Fires w) front rest fires) in
    there ∙ ap (λ b. b && are_true w cs) here ∙ kept (value_of w so_far) (is_true w c) (are_true w cs)

pub is_witness : (m : Parts) (ls : List Latch) (gs : List Gate) (inv : List (List Lit)) (a : Lit) → IsWitness m ls gs inv a (witness_parts m ls gs inv a)
is_witness m ls gs inv a =
    let v : ℕ = first_behind m ls gs in
    let more : List Gate = property_gates inv (negation a) v in
    let holds : Lit = property_literal inv (negation a) v in
    record {
      inputs = refl;
      latches = refl;
      constraints = refl;
      more = more;
      gates = refl;
      bad = negation holds;
      only = refl;
      exact = λ w agrees.
          let fires = All-right (Fires w) gs more (All-right (Fires w) m.gates (gs ++ more) agrees.gates) in
          let is : value_of w holds ≡ (not (value_of w a) && are_true w inv) =
          property_value w inv (negation a) v agrees.valuation.constant fires ∙ ap (λ b. b && are_true w inv) (value-negation w a) in
          value-negation w holds ∙ ap not is ∙ set (value_of w a) (are_true w inv);
    }
