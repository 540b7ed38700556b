-- The places of many runs, written one after the other.
use Rattle.std.proofs.Common.{◌≡◌, ℕ, zero, suc, ◌+◌, ◌%◌, ◌<◌, ◌≢◌, ◌==◌, ◌↔◌, IsTrue, Bool, true, false, not, if◌then◌else◌, List, [], length, set, get_or, refl, arith, AllPairs, ◌∙◌, sym, ap, subst, replicate}
use Rattle.std.proofs.lemmas.List.{map-set, get_or-map, length-map, get_or_default}
use Rattle.graph.specs.declared.circuit.Lit.{Lit}
use Rattle.graph.specs.declared.circuit.Latch.{Latch}
use Rattle.graph.specs.declared.parts.Parts.{Parts}
use Rattle.graph.specs.Circuits.{variable, place, value_of}
use Rattle.graph.proofs.Filled.{Written, Written-more}
use Rattle.simulate.specs.Lanes.{value_in, row_of}
use Rattle.simulate.specs.Starts.{IsFine}
use Rattle.simulate.specs.Wides.{AreFineAt, AreDefinedOnly}
use Rattle.simulate.proofs.Taking.{Taken, Taken-more}

pub place_in : (r : ℕ) (lanes : List (List ℕ)) (v : ℕ) → v < length lanes → place (row_of r lanes) v ≡ value_in (get_or lanes v []) r
place_in r lanes v v_in = get_or-map (λ x. value_in x r) lanes v [] false v_in

odd_is : (b : Bool) (n : ℕ) → n < 2 → (IsTrue b ↔ (n ≡ 1)) → b ≡ (n == 1)
odd_is true n small h = rw (h.0 refl) refl
odd_is false zero small h = refl
odd_is false (suc zero) small h = absurd (let no : false ≡ true = h.1 refl in cc no)
odd_is false (suc (suc n)) small h = absurd (omega (arith, small))

pub literal_in : (r : ℕ) (lanes : List (List ℕ)) (a : Lit) (v : ℕ) (b : Bool) → v < length lanes → v ≡ variable a → (IsTrue b ↔ (a.0 % 2 ≡ 1)) →
    (if b then not (value_in (get_or lanes v []) r) else value_in (get_or lanes v []) r) ≡ value_of (row_of r lanes) a
literal_in r lanes a v b v_in is_v is_b =
    let here : place (row_of r lanes) (variable a) ≡ value_in (get_or lanes v []) r = ap (place (row_of r lanes)) (sym is_v) ∙ place_in r lanes v v_in in
    rw (here, odd_is b (a.0 % 2) (omega arith) is_b) refl

-- a latch that is not against its reset in any run, at its place
pub fine_at : (latches : List Latch) (values : List (List ℕ)) (n : ℕ) (e : Latch) → n < length latches → n < length values →
    ((r : ℕ) → r < 256 → IsFine (get_or latches n e) (value_in (get_or values n []) r)) → AreFineAt latches values n
fine_at latches values n e n_in n_value h r r_in d = rw (place_in r values n n_value, ← get_or_default latches n e d n_in) (h r r_in)

pub fine_from : (latches : List Latch) (values : List (List ℕ)) (n : ℕ) (e : Latch) → n < length latches → n < length values →
    AreFineAt latches values n → (r : ℕ) → r < 256 → IsFine (get_or latches n e) (value_in (get_or values n []) r)
fine_from latches values n e n_in n_value h r r_in = subst (IsFine (get_or latches n e)) (place_in r values n n_value) (h r r_in e)

-- one value in each place, which is false in a run
blank_at : (x : List ℕ) (r n v : ℕ) → value_in x r ≡ false → place (row_of r (replicate n x)) v ≡ false
blank_at x r zero v off = refl
blank_at x r (suc n) zero off = off
blank_at x r (suc n) (suc v) off = blank_at x r n v off

-- where it is false in each run, no place is true
pub blank_in : (m : Parts) (x : List ℕ) (n : ℕ) → ((r : ℕ) → r < 256 → value_in x r ≡ false) → AreDefinedOnly m (replicate n x)
blank_in m x n h r v r_in on = let off = blank_at x r n v (h r r_in) in absurd cc

pub written_in : (vars : List ℕ) (values before out : List (List ℕ)) (r n v : ℕ) → n < length vars → n < length values → AllPairs (λ a b. a ≢ b) vars →
    get_or vars n 0 ≡ v → v < length out →
    Written vars (row_of r values) (row_of r before) (row_of r out) n → Written vars (row_of r values) (row_of r before) (row_of r (set out v (get_or values n []))) (n + 1)
written_in vars values before out r n v n_in n_value once is_v v_in h =
    rw (map-set (λ y. value_in y r) out v (get_or values n []))
    (Written-more vars (row_of r values) (row_of r before) (row_of r out) n v (value_in (get_or values n []) r) n_in once is_v
    (omega (arith, v_in, length-map out (λ y. value_in y r))) (place_in r values n n_value) h)

pub taken_in : {X : Type 0} (f : X → Bool) (xs : List X) (state : List (List ℕ)) (r n : ℕ) (x : List ℕ) → n < length xs → ((d : X) → value_in x r ≡ f (get_or xs n d)) →
    Taken f xs (row_of r state) n → Taken f xs (row_of r (set state n x)) (n + 1)
taken_in f xs state r n x n_in is_x h = rw (map-set (λ y. value_in y r) state n x) (Taken-more f xs (row_of r state) n (value_in x r) n_in is_x h)
