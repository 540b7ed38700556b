-- The clause that is false in a state, and what it says of the latches.
use Rattle.std.proofs.Common.{◌≡◌, ℕ, ◌+◌, ◌<◌, Bool, true, false, not, List, [], ◌∷◌, ◌++◌, length, arith, All, AllPairs, ◌∙◌, sym, ap, subst}
use Rattle.std.proofs.lemmas.List.Elements.{All-push}
use Rattle.std.proofs.lemmas.List.Quantifiers.{all_pairs_push}
use Rattle.std.proofs.lemmas.List.{length-map}
use Rattle.graph.specs.declared.circuit.Lit.{Lit}
use Rattle.graph.specs.declared.circuit.Latch.{Latch}
use Rattle.graph.specs.declared.parts.Parts.{Parts}
use Rattle.graph.specs.Circuits.{Valuation, value_of}
use Rattle.states.specs.declared.state_lit.StateLit.{StateLit}
use Rattle.ic3_step.specs.declared.assignment.Assignment.{Assignment}
use Rattle.states.specs.States.{IsSet, latch_at}
use Rattle.ic3_step.specs.States.{IsAt}
use Rattle.ic3_frames.specs.Frames.{IsStateClause}

not_itself : (b : Bool) → b ≡ not b → ⊥
not_itself true e = cc
not_itself false e = cc

-- the clause as far as some place of the state
pub record DeniesBelow (s : List Bool) (i : ℕ) (c : List StateLit) : Type 0 where
  pub inside : All (λ a. a.latch < i) c
  pub rising : AllPairs (λ a b. a.latch < b.latch) c
  pub denied : All (λ a. IsSet s a → ⊥) c

-- one literal more
pub denies_more : (s : List Bool) (c d : List StateLit) (i : ℕ) → d ≡ c ++ record { latch = i; value = not (latch_at s i) } ∷ [] → DeniesBelow s i c → DeniesBelow s (i + 1) d
denies_more s c d i are h =
    let a : StateLit = record { latch = i; value = not (latch_at s i) } in
    record {
      inside = subst (All (λ (b : StateLit). b.latch < i + 1)) (sym are)
          (All-push (λ (b : StateLit). b.latch < i + 1) c a (λ k e k_in. let below = h.inside k e k_in in omega (arith, below)) (omega arith));
      rising = subst (AllPairs (λ (b e : StateLit). b.latch < e.latch)) (sym are) (all_pairs_push (λ (b e : StateLit). b.latch < e.latch) c a h.rising h.inside);
      denied = subst (All (λ (b : StateLit). IsSet s b → ⊥)) (sym are) (All-push (λ (b : StateLit). IsSet s b → ⊥) c a h.denied (not_itself (latch_at s i)));
    }

-- a latch that is left out
pub denies_past : (s : List Bool) (c : List StateLit) (i : ℕ) → DeniesBelow s i c → DeniesBelow s (i + 1) c
denies_past s c i h = record { inside = λ k e k_in. let below = h.inside k e k_in in omega (arith, below); rising = h.rising; denied = h.denied }

-- the whole state
pub denies_clause : (m : Parts) (s : List Bool) (i : ℕ) (c : List StateLit) → i ≡ length m.latches → DeniesBelow s i c → IsStateClause m c
denies_clause m s i c all h = record { inside = λ k d k_in. let below = h.inside k d k_in in omega (arith, below, all); rising = h.rising }

-- a time has a value for each latch and each input
pub state_size : (m : Parts) (lits : List Lit) (w : Valuation) (t : Assignment) → IsAt m lits w t → length t.state ≡ length m.latches
state_size m lits w t at = ap length (sym at.state) ∙ length-map m.latches (λ (l : Latch). value_of w l.lit)

pub inputs_size : (m : Parts) (lits : List Lit) (w : Valuation) (t : Assignment) → IsAt m lits w t → length t.inputs ≡ length m.inputs
inputs_size m lits w t at = ap length (sym at.inputs) ∙ length-map m.inputs (value_of w)
