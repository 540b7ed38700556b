-- Literals for the state after a time.
use Rattle.std.proofs.Common.{◌≡◌, ℕ, zero, suc, refl, ◌+◌, ◌<◌, Bool, true, false, List, [], ◌∷◌, ◌++◌, length, take, get_or, Option, None, Some, All, sym, subst, ◌∙◌, arith}
use Rattle.std.proofs.lemmas.List.{take_more, length-map}
use Rattle.std.proofs.Math.ListN.{get_or-map}
use Rattle.std.proofs.lemmas.List.Elements.{All-append, All-cons, All-nil}
use Rattle.graph.specs.declared.circuit.Lit.{Lit}
use Rattle.graph.specs.declared.circuit.Latch.{Latch}
use Rattle.graph.specs.declared.parts.Parts.{Parts}
use Rattle.graph.specs.Circuits.{Valuation, value_of, variable, next_state}
use Rattle.graph.specs.WellFormed.{IsWellFormed}
use Rattle.graph.proofs.Evaluation.{All-left, All-right}
use Rattle.graph.proofs.Tabled.{holds_of_used}
use Rattle.cones.specs.Marks.{IsKnown}
use Rattle.witness.specs.Completions.{Keeps, Completes}
use Rattle.witness.proofs.CompletionLaws.{completes_more}

-- the literals are known, and say so much of the first latches
pub record SayUpTo (m : Parts) (later : List (Option Bool)) (i : ℕ) (nexts : List Lit) : Type 0 where
  pub known : All (λ a. IsKnown m (variable a)) nexts
  pub means : (w : Valuation) → All (λ a. value_of w a ≡ true) nexts → Completes (take i later) (take i (next_state m w))

same_default : (xs : List Bool) (i : ℕ) (d e : Bool) → i < length xs → get_or xs i e ≡ get_or xs i d
same_default [] i d e i_in = absurd (omega (arith, i_in))
same_default (x ∷ xs) zero d e i_in = refl
same_default (x ∷ xs) (suc i) d e i_in = same_default xs i d e (omega (arith, i_in))

next_at : (m : Parts) (w : Valuation) (i : ℕ) (d : Latch) → i < length m.latches → get_or (next_state m w) i false ≡ value_of w (get_or m.latches i d).next
next_at m w i d i_in =
    same_default (next_state m w) i (value_of w d.next) false (grind (arith, length-map)) ∙ get_or-map (λ l. value_of w l.next) m.latches i d

up_one : (m : Parts) (later : List (Option Bool)) (i : ℕ) (d : Latch) (w : Valuation) → i < length m.latches → length later ≡ length m.latches → Completes (take i later) (take i (next_state m w)) → Keeps (get_or later i None) (value_of w (get_or m.latches i d).next) →
    Completes (take (i + 1) later) (take (i + 1) (next_state m w))
up_one m later i d w i_in e h k =
    rw (take_more later i None (omega (arith, i_in, e)), take_more (next_state m w) i false (grind (arith, length-map)), next_at m w i d i_in) (completes_more (take i later) (take i (next_state m w)) (get_or later i None) (value_of w (get_or m.latches i d).next) h k)

pub nexts_none : (m : Parts) (later : List (Option Bool)) (i : ℕ) (d : Latch) (nexts : List Lit) → i < length m.latches → length later ≡ length m.latches → get_or later i None ≡ None → SayUpTo m later i nexts → SayUpTo m later (i + 1) nexts
nexts_none m later i d nexts i_in e is h = record {
  known = h.known;
  means = λ w all. up_one m later i d w i_in e (h.means w all) (subst (λ (o : Option Bool). Keeps o (value_of w (get_or m.latches i d).next)) (sym is) tt);
}

pub nexts_given : (m : Parts) (later : List (Option Bool)) (i : ℕ) (d : Latch) (nexts : List Lit) (lit : Lit) (b : Bool) → IsWellFormed m → i < length m.latches → length later ≡ length m.latches → get_or later i None ≡ Some b →
    variable lit ≡ variable (get_or m.latches i d).next → ((w : Valuation) → value_of w lit ≡ true → value_of w (get_or m.latches i d).next ≡ b) → SayUpTo m later i nexts → SayUpTo m later (i + 1) (nexts ++ lit ∷ [])
nexts_given m later i d nexts lit b well i_in e is same says h =
    let next_known : IsKnown m (variable (get_or m.latches i d).next) = (holds_of_used (λ a. IsKnown m (variable a)) m well.used_defined).next i d i_in in
    record {
      known = All-append (λ a. IsKnown m (variable a)) nexts (lit ∷ []) h.known (All-cons (λ a. IsKnown m (variable a)) lit [] (subst (IsKnown m) (sym same) next_known) (All-nil (λ a. IsKnown m (variable a))));
      means = λ w all.
          let before = h.means w (All-left (λ a. value_of w a ≡ true) nexts (lit ∷ []) all) in
          let one : value_of w lit ≡ true = (All-right (λ a. value_of w a ≡ true) nexts (lit ∷ []) all) 0 lit (omega arith) in
          up_one m later i d w i_in e before (subst (λ (o : Option Bool). Keeps o (value_of w (get_or m.latches i d).next)) (sym is) (says w one));
    }

-- constraints, a goal and what is wanted later, one after the other
pub three_known : (m : Parts) (goal nexts all : List Lit) → IsWellFormed m → all ≡ (m.constraints ++ goal) ++ nexts → All (λ a. IsKnown m (variable a)) goal → All (λ a. IsKnown m (variable a)) nexts → All (λ a. IsKnown m (variable a)) all
three_known m goal nexts all well is g n =
    let P : Lit → Type 0 = λ a. IsKnown m (variable a) in
    let c : All P m.constraints = (holds_of_used P m well.used_defined).constraints in
    subst (All P) (sym is) (All-append P (m.constraints ++ goal) nexts (All-append P m.constraints goal c g) n)

pub three_true : (P : Lit → Type 0) (one two three all : List Lit) → all ≡ (one ++ two) ++ three → All P all → (All P one × All P two) × All P three
three_true P one two three all is h =
    let h2 : All P ((one ++ two) ++ three) = subst (All P) is h in
    let front = All-left P (one ++ two) three h2 in
    ((All-left P one two front, All-right P one two front), All-right P (one ++ two) three h2)
