-- Values that may be open.
use Rattle.std.proofs.Common.{◌≡◌, ℕ, zero, suc, ◌<◌, ◌%◌, ◌==◌, Bool, true, false, not, ◌&&◌, if◌then◌else◌, List, [], ◌∷◌, length, get_or, set, map, Option, None, Some, refl, sym, ap, ◌∙◌, arith, subst, All, inl, inr}
use Rattle.std.proofs.lemmas.Bool.{cases_eq}
use Rattle.std.proofs.lemmas.List.{get_or-map, get_or_default, length-map, get_or-set_same, get_or-set_other}
use Rattle.graph.proofs.Gates.{value_of-even}
use Rattle.graph.specs.declared.circuit.Lit.{Lit}
use Rattle.graph.specs.declared.circuit.Gate.{Gate}
use Rattle.graph.specs.declared.circuit.Latch.{Latch}
use Rattle.graph.specs.declared.parts.Parts.{Parts}
use Rattle.graph.specs.WellFormed.{IsWellFormed}
use Rattle.graph.proofs.Evaluation.{latches_even}
use Rattle.graph.specs.Circuits.{Fires, Valuation, place, state_of, value_of, variable}
use Rattle.witness.specs.Completions.{Completes, Keeps}
use Rattle.wave_signals.specs.OpenValues.{AreGiven, Stand, open_and, open_not, open_place, open_value_of}

keeps_not : (o : Option Bool) (b : Bool) → Keeps o b → Keeps (open_not o) (not b)
keeps_not None b k = tt
keeps_not (Some a) b k = ap not k

keeps_and : (o p : Option Bool) (a b : Bool) → Keeps o a → Keeps p b → Keeps (open_and o p) (a && b)
keeps_and None None a b k l = tt
keeps_and None (Some true) a b k l = tt
keeps_and None (Some false) true b k l = l
keeps_and None (Some false) false b k l = refl
keeps_and (Some true) None a b k l = tt
keeps_and (Some false) None a b k l = ap (λ (x : Bool). x && b) k
keeps_and (Some c) (Some d) a b k l = ap (λ (x : Bool). x && b) k ∙ ap (λ (y : Bool). c && y) l

-- what is known of a literal is its value
keeps_if : (odd : Bool) (o : Option Bool) (b : Bool) → Keeps o b → Keeps (if odd then open_not o else o) (if odd then not b else b)
keeps_if true o b k = keeps_not o b k
keeps_if false o b k = k

pub keeps_value : (values : List (Option Bool)) (w : Valuation) (a : Lit) → Stand values w → Keeps (open_value_of values a) (value_of w a)
keeps_value values w a h = keeps_if (a.0 % 2 == 1) (open_place values (variable a)) (place w (variable a)) (h (variable a))

pub stand_set : (values : List (Option Bool)) (w : Valuation) (i : ℕ) (x : Option Bool) → i < length values → Keeps x (place w i) → Stand values w → Stand (set values i x) w
stand_set values w i x i_in k h v = elim (cases_eq v i) [
  | inl same ↦ subst (λ (q : ℕ). Keeps (open_place (set values i x) q) (place w q)) (sym same) (subst (λ (o : Option Bool). Keeps o (place w i)) (sym (get_or-set_same values i x None i_in)) k)
  | inr other ↦ subst (λ (o : Option Bool). Keeps o (place w v)) (sym (get_or-set_other values i v x None other)) (h v)
]

-- nothing is known
pub stand_open : (values : List (Option Bool)) (w : Valuation) → ((v : ℕ) → open_place values v ≡ None) → Stand values w
stand_open values w h v = subst (λ (o : Option Bool). Keeps o (place w v)) (sym (h v)) tt

-- what is given at a literal
pub stand_given : (lits : List Lit) (given : List (Option Bool)) (i : ℕ) (d : Lit) (e : Option Bool) (values : List (Option Bool)) (w : Valuation) (v : ℕ) (x : Option Bool) → i < length lits → length given ≡ length lits →
    v ≡ variable (get_or lits i d) → x ≡ get_or given i e → v < length values → AreGiven lits given w → Stand values w → Stand (set values v x) w
stand_given lits given i d e values w v x i_in long is_v is_x v_in g h =
    let known : x ≡ open_place given i = is_x ∙ get_or_default given i e None (omega (arith, long, i_in)) in
    stand_set values w v x v_in (subst (λ (o : Option Bool). Keeps o (place w v)) (sym known) (subst (λ (q : ℕ). Keeps (open_place given i) (place w q)) (sym is_v) (g i d i_in))) h

-- a gate more
pub stand_gate : (values : List (Option Bool)) (w : Valuation) (g : Gate) (v : ℕ) (x : Option Bool) → g.lhs.0 % 2 ≡ 0 → v ≡ variable g.lhs → v < length values →
    x ≡ open_and (open_value_of values g.rhs0) (open_value_of values g.rhs1) → Fires w g → Stand values w → Stand (set values v x) w
stand_gate values w g v x even is_v v_in is_x fires h =
    let k = keeps_and (open_value_of values g.rhs0) (open_value_of values g.rhs1) (value_of w g.rhs0) (value_of w g.rhs1) (keeps_value values w g.rhs0 h) (keeps_value values w g.rhs1 h) in
    let here : value_of w g.rhs0 && value_of w g.rhs1 ≡ place w v = sym fires ∙ value_of-even w g.lhs even ∙ ap (place w) (sym is_v) in
    stand_set values w v x v_in (subst (λ (o : Option Bool). Keeps o (place w v)) (sym is_x) (subst (Keeps (open_and (open_value_of values g.rhs0) (open_value_of values g.rhs1))) here k)) h

-- ---- what is given completes

pub completes_at : (given : List (Option Bool)) (line : List Bool) (k : ℕ) (d : Bool) → Completes given line → k < length given → Keeps (open_place given k) (get_or line k d)
completes_at [] line k d c k_in = absurd (omega (arith, k_in))
completes_at (o ∷ given) [] k d c k_in = absurd c
completes_at (o ∷ given) (b ∷ line) zero d c k_in = c.0
completes_at (o ∷ given) (b ∷ line) (suc k) d c k_in = completes_at given line k d c.1 (omega (arith, k_in))

pub are_given : (lits : List Lit) (given : List (Option Bool)) (line : List Bool) (w : Valuation) → length given ≡ length lits → All (λ a. a.0 % 2 ≡ 0) lits → map (value_of w) lits ≡ line → Completes given line → AreGiven lits given w
are_given lits given line w long even is c k d k_in =
    let a = get_or lits k d in
    let here : get_or line k false ≡ place w (variable (get_or lits k d)) = ap (λ (xs : List Bool). get_or xs k false) (sym is) ∙ get_or-map (value_of w) lits k d false k_in ∙ value_of-even w (get_or lits k d) (even k d k_in) in
    subst (Keeps (open_place given k)) here (completes_at given line k false c (omega (arith, long, k_in)))

-- what is given of a state
pub states_given : (m : Parts) (given : List (Option Bool)) (state : List Bool) (w : Valuation) → length given ≡ length m.latches → IsWellFormed m → state_of m w ≡ state → Completes given state →
    AreGiven (map (λ l. l.lit) m.latches) given w
states_given m given state w long well is c k d k_in =
    let k_latch : k < length m.latches = omega (arith, k_in, length-map m.latches (λ (l : Latch). l.lit)) in
    let blank : Latch = record { lit = d; next = d; reset = d } in
    let lit : get_or (map (λ l. l.lit) m.latches) k d ≡ (get_or m.latches k blank).lit = get_or-map (λ (l : Latch). l.lit) m.latches k blank d k_latch in
    let even = latches_even m well k blank k_latch in
    let value = get_or-map (λ (l : Latch). value_of w l.lit) m.latches k blank false k_latch in
    let here : get_or state k false ≡ place w (variable (get_or (map (λ l. l.lit) m.latches) k d)) = ap (λ (xs : List Bool). get_or xs k false) (sym is) ∙ value ∙ value_of-even w (get_or m.latches k blank).lit even.1 ∙ ap (λ (a : Lit). place w (variable a)) (sym lit) in
    subst (Keeps (open_place given k)) here (completes_at given state k false c (omega (arith, long, k_latch)))
