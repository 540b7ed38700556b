-- A run of a circuit, and one of a circuit with the same inputs, and latches that move alike where they are marked.
use Rattle.std.proofs.Common.{◌≡◌, ℕ, ◌<◌, ◌%◌, Bool, true, false, not, List, [], ◌∷◌, length, map, get_or, refl, inl, inr, arith, All, ◌∙◌, sym, ap, ap₂}
use Rattle.std.proofs.lemmas.Bool.{cases_eq}
use Rattle.std.proofs.lemmas.List.{length-map}
use Rattle.std.proofs.lemmas.List.Elements.{All-nil, All-cons, All-head, All-tail}
use Rattle.graph.specs.declared.circuit.Lit.{Lit}
use Rattle.graph.specs.declared.circuit.Latch.{Latch}
use Rattle.graph.specs.declared.parts.Parts.{Parts}
use Rattle.graph.specs.Circuits.{at, Valuation, variable, place, value_of, state_of, inputs_of, Agrees, IsInitial, IsStep, Steps, IsRun, next_state}
use Rattle.live_safe.proofs.Forced.{all_from_map}
use Rattle.live_safe.proofs.Values.{value-at}
use Rattle.cones.specs.Marks.{AreSameAt, ExistenceLaw}

-- the second circuit has the inputs and latches of the first; where a latch is marked, its next literal is the same and marked too
pub record MovesAlike (a b : Parts) (K Known : ℕ → Type 0) : Type 0 where
  pub inputs : b.inputs ≡ a.inputs
  pub count : length b.latches ≡ length a.latches
  pub lits : (k : ℕ) (d : Latch) → k < length a.latches → (get_or b.latches k d).lit ≡ (get_or a.latches k d).lit
  pub resets : (k : ℕ) (d : Latch) → k < length a.latches → (get_or b.latches k d).reset ≡ (get_or a.latches k d).reset
  pub nexts : (k : ℕ) (d : Latch) → k < length a.latches → K (variable (get_or a.latches k d).lit) →
      ((get_or b.latches k d).next ≡ (get_or a.latches k d).next) × Known (variable (get_or a.latches k d).next) × K (variable (get_or a.latches k d).next)
  pub same : (w x : Valuation) → Agrees a w → Agrees b x → AreSameAt a K w x → (v : ℕ) → Known v → K v → place w v ≡ place x v
  pub exists : ExistenceLaw b

-- the marked latches have the same values
abbrev pub AreHeld : Parts → (ℕ → Type 0) → Valuation → Valuation → Type 0
AreHeld a K w x = All (λ l. K (variable l.lit) → value_of x l.lit ≡ value_of w l.lit) a.latches

-- a time of the one, and one of the other
pub record Follows (a b : Parts) (K : ℕ → Type 0) (w x : Valuation) : Type 0 where
  pub from : Agrees a w
  pub agrees : Agrees b x
  pub inputs : inputs_of a x ≡ inputs_of a w
  pub held : AreHeld a K w x

not_same : (p q : Bool) → not p ≡ not q → p ≡ q
not_same true true e = refl
not_same true false e = sym e
not_same false true e = sym e
not_same false false e = refl

place_from_value : (w x : Valuation) (a : Lit) → value_of w a ≡ value_of x a → place w (variable a) ≡ place x (variable a)
place_from_value w x a e = elim (cases_eq (a.0 % 2) 1) [
  | inl odd ↦ not_same (place w (variable a)) (place x (variable a)) (rw odd at e)
  | inr other ↦ let even : a.0 % 2 ≡ 0 = omega arith in rw even at e
]

follows_at : (a b : Parts) (K : ℕ → Type 0) (w x : Valuation) → Follows a b K w x → AreSameAt a K w x
follows_at a b K w x h = record {
  inputs = λ k d k_in marked. place_from_value w x (get_or a.inputs k d) (sym (all_from_map (value_of x) (value_of w) a.inputs h.inputs k d k_in));
  latches = λ k d k_in marked. place_from_value w x (get_or a.latches k d).lit (sym (h.held k d k_in marked));
}

-- so each marked literal has the same value
pub same_value : (a b : Parts) (K Known : ℕ → Type 0) → MovesAlike a b K Known → (w x : Valuation) → Follows a b K w x → (c : Lit) → Known (variable c) → K (variable c) →
    value_of x c ≡ value_of w c
same_value a b K Known moves w x h c known marked = sym (value-at w x c (moves.same w x h.from h.agrees (follows_at a b K w x h) (variable c) known marked))

-- a valuation of the second circuit with this state, at a time of the first
record Answers (a b : Parts) (K : ℕ → Type 0) (st : List Bool) (w : Valuation) : Type 0 where
  found : Valuation
  state : state_of b found ≡ st
  follows : Follows a b K w found

answer : (a b : Parts) (K Known : ℕ → Type 0) → MovesAlike a b K Known → (st : List Bool) (w : Valuation) → Agrees a w → length st ≡ length b.latches →
    ((x : Valuation) → state_of b x ≡ st → AreHeld a K w x) → Answers a b K st w
answer a b K Known moves st w from long held =
    let e = moves.exists st (inputs_of b w) long (length-map b.inputs (value_of w)) in
    record {
      found = e.0;
      state = e.2;
      follows = record {
        from = from;
        agrees = e.1;
        inputs = ap (λ lits. map (value_of e.0) lits) (sym moves.inputs) ∙ e.3 ∙ ap (λ lits. map (value_of w) lits) moves.inputs;
        held = held e.0 e.2;
      };
    }

-- after a step the marked latches have the same values again
next_held : (a b : Parts) (K Known : ℕ → Type 0) → MovesAlike a b K Known → (w x v y : Valuation) → Follows a b K w x → IsStep a w v → state_of b y ≡ next_state b x → AreHeld a K v y
next_held a b K Known moves w x v y h step state k d k_in marked =
    let there : k < length b.latches = (let e = moves.count in omega (arith, k_in, e)) in
    let lit = moves.lits k d k_in in
    let next = moves.nexts k d k_in marked in
    let moved : value_of y (get_or b.latches k d).lit ≡ value_of x (get_or b.latches k d).next =
    all_from_map (λ l. value_of y l.lit) (λ l. value_of x l.next) b.latches state k d there in
    let stepped : value_of v (get_or a.latches k d).lit ≡ value_of w (get_or a.latches k d).next =
    all_from_map (λ l. value_of v l.lit) (λ l. value_of w l.next) a.latches step k d k_in in
    ap (value_of y) (sym lit) ∙ moved ∙ ap (value_of x) next.0 ∙ same_value a b K Known moves w x h (get_or a.latches k d).next next.1 next.2 ∙ sym stepped

-- times of the one, and as many of the other
abbrev pub Pairs : (Valuation → Valuation → Type 0) → List Valuation → List Valuation → Type 0
Pairs R [] [] = Unit {0}
Pairs R [] (x ∷ s) = ⊥
Pairs R (w ∷ r) [] = ⊥
Pairs R (w ∷ r) (x ∷ s) = R w x × Pairs R r s

record Followed (a b : Parts) (K : ℕ → Type 0) (st : List Bool) (w : Valuation) (r : List Valuation) : Type 0 where
  first : Valuation
  rest : List Valuation
  state : state_of b first ≡ st
  here : Follows a b K w first
  pairs : Pairs (Follows a b K) r rest
  steps : Steps b (first ∷ rest)

follow : (a b : Parts) (K Known : ℕ → Type 0) → MovesAlike a b K Known → (st : List Bool) (w : Valuation) (r : List Valuation) → All (Agrees a) (w ∷ r) → Steps a (w ∷ r) → length st ≡ length b.latches →
    ((x : Valuation) → state_of b x ≡ st → AreHeld a K w x) → Followed a b K st w r
follow a b K Known moves st w [] agrees steps long held =
    let x = answer a b K Known moves st w (All-head (Agrees a) w [] agrees) long held in
    record { first = x.found; rest = []; state = x.state; here = x.follows; pairs = tt; steps = tt }
follow a b K Known moves st w (v ∷ r) agrees steps long held =
    let x = answer a b K Known moves st w (All-head (Agrees a) w (v ∷ r) agrees) long held in
    let later = follow a b K Known moves (next_state b x.found) v r (All-tail (Agrees a) w (v ∷ r) agrees) steps.1 (length-map b.latches (λ l. value_of x.found l.next))
    (λ y state. next_held a b K Known moves w x.found v y x.follows steps.0 state) in
    record {
      first = x.found;
      rest = later.first ∷ later.rest;
      state = x.state;
      here = x.follows;
      pairs = (later.here, later.pairs);
      steps = (later.state, later.steps);
    }

pub pairs_map : {X : Type 0} (R : Valuation → Valuation → Type 0) (f g : Valuation → X) (r s : List Valuation) → ((w x : Valuation) → R w x → g x ≡ f w) → Pairs R r s → map g s ≡ map f r
pairs_map R f g [] [] h pairs = refl
pairs_map R f g [] (x ∷ s) h pairs = absurd pairs
pairs_map R f g (w ∷ r) [] h pairs = absurd pairs
pairs_map R f g (w ∷ r) (x ∷ s) h pairs = ap₂ (λ p q. p ∷ q) (h w x pairs.0) (pairs_map R f g r s h pairs.1)

pub pairs_all : (R : Valuation → Valuation → Type 0) (P Q : Valuation → Type 0) (r s : List Valuation) → ((w x : Valuation) → R w x → P w → Q x) → Pairs R r s → All P r → All Q s
pairs_all R P Q [] [] h pairs all = All-nil Q
pairs_all R P Q [] (x ∷ s) h pairs all = absurd pairs
pairs_all R P Q (w ∷ r) [] h pairs all = absurd pairs
pairs_all R P Q (w ∷ r) (x ∷ s) h pairs all = All-cons Q x s (h w x pairs.0 (All-head P w r all)) (pairs_all R P Q r s h pairs.1 (All-tail P w r all))

pub pairs_agree : (R : Valuation → Valuation → Type 0) (Q : Valuation → Type 0) (r s : List Valuation) → ((w x : Valuation) → R w x → Q x) → Pairs R r s → All Q s
pairs_agree R Q [] [] h pairs = All-nil Q
pairs_agree R Q [] (x ∷ s) h pairs = absurd pairs
pairs_agree R Q (w ∷ r) [] h pairs = absurd pairs
pairs_agree R Q (w ∷ r) (x ∷ s) h pairs = All-cons Q x s (h w x pairs.0) (pairs_agree R Q r s h pairs.1)

-- a run of the second circuit, time for time with one of the first, and with its first state
pub record Carried (a b : Parts) (K : ℕ → Type 0) (r : List Valuation) : Type 0 where
  pub run : List Valuation
  pub runs : IsRun b run
  pub pairs : Pairs (Follows a b K) r run
  pub begins : state_of b (at run 0) ≡ state_of b (at r 0)

initial_too : (a b : Parts) (K Known : ℕ → Type 0) → MovesAlike a b K Known → (w x : Valuation) → state_of b x ≡ state_of b w → IsInitial a w → IsInitial b x
initial_too a b K Known moves w x state initial k d k_in =
    let there : k < length a.latches = (let e = moves.count in omega (arith, k_in, e)) in
    let same : value_of x (get_or b.latches k d).lit ≡ value_of w (get_or a.latches k d).lit =
    all_from_map (λ l. value_of x l.lit) (λ l. value_of w l.lit) b.latches state k d k_in ∙ ap (value_of w) (moves.lits k d there) in
    let reset = initial k d there in
    let from = moves.resets k d there in
    record { low = λ e. same ∙ reset.low (ap (λ (c : Lit). c.0) (sym from) ∙ e); high = λ e. same ∙ reset.high (ap (λ (c : Lit). c.0) (sym from) ∙ e) }

first_held : (a b : Parts) (K Known : ℕ → Type 0) → MovesAlike a b K Known → (w x : Valuation) → state_of b x ≡ state_of b w → AreHeld a K w x
first_held a b K Known moves w x state k d k_in marked =
    let there : k < length b.latches = (let e = moves.count in omega (arith, k_in, e)) in
    let lit = moves.lits k d k_in in
    ap (value_of x) (sym lit) ∙ all_from_map (λ l. value_of x l.lit) (λ l. value_of w l.lit) b.latches state k d there ∙ ap (value_of w) lit

pub carry : (a b : Parts) (K Known : ℕ → Type 0) → MovesAlike a b K Known → (r : List Valuation) → IsRun a r → Carried a b K r
carry a b K Known moves [] run = absurd run.starts
carry a b K Known moves (w ∷ r) run =
    let f = follow a b K Known moves (state_of b w) w r run.agrees run.steps (length-map b.latches (λ l. value_of w l.lit)) (λ x state. first_held a b K Known moves w x state) in
    let pairs : Pairs (Follows a b K) (w ∷ r) (f.first ∷ f.rest) = (f.here, f.pairs) in
    record {
      run = f.first ∷ f.rest;
      runs = record {
        agrees = pairs_agree (Follows a b K) (Agrees b) (w ∷ r) (f.first ∷ f.rest) (λ v x h. h.agrees) pairs;
        starts = initial_too a b K Known moves w f.first f.state run.starts;
        steps = f.steps;
      };
      pairs = pairs;
      begins = f.state;
    }
