-- Lists that are made step by step.
use Rattle.std.proofs.Common.{◌≡◌, ℕ, zero, suc, ◌+◌, ◌-◌, ◌<◌, ◌≤◌, ◌^◌, ◌==◌, if◌then◌else◌, Bool, true, false, not, arith, ℤ, pos, neg_ℤ, unsigned_abs, All, List, [], ◌∷◌, ◌++◌, append_assoc, refl, sym, ◌∙◌, ap, map, take, length, get_or}
use Rattle.std.proofs.lemmas.List.{take_more, map-append}
use Rattle.std.proofs.lemmas.List.Elements.{All-cons, All-head, All-nil, All-tail}
use Rattle.std.specs.Prelude.{flat_map, ◌+ℤ◌, ◌-ℤ◌, int_lt}
use Rattle.std.proofs.lemmas.Bool.{leb-true}
use Rattle.std.proofs.Math.IntN.{neg_ℤ-+ℤ, pos-+ℤ-pos}
use Rattle.graph.specs.declared.circuit.Gate.{Gate}
use Rattle.graph.specs.declared.circuit.Lit.{Lit}
use Rattle.graph.specs.declared.circuit.Latch.{Latch}
use Rattle.graph.specs.declared.parts.Parts.{Parts}
use Rattle.graph.specs.Circuits.{variable}
use Rattle.lrat.specs.Rows.{and_clauses, moved_literal, moved_gate, FitsMoved, HasNegations}
use Rattle.lrat.proofs.Proper.{neg_neg}
use Rattle.cnf.specs.Clauses.{signed, is_negated, literal, denial, gate_at, gate_clauses, time_clauses}
use Rattle.cnf.specs.Formulas.{IsInRange, IsGateIn}
use Rattle.cnf.specs.Unrolled.{join_clauses, times_from}

-- a list of what is made of each item of another, by one item more
pub map_more : {X Y : Type 0} (f : X → Y) (xs : List X) (i : ℕ) (d : X) (old us vs : List Y) (y : Y) → i < length xs → us ≡ old ++ map f (take i xs) → vs ≡ us ++ y ∷ [] → y ≡ f (get_or xs i d) →
    vs ≡ old ++ map f (take (i + 1) xs)
map_more f xs i d old us vs y i_in before more is =
    more ∙ rw (before, is) (append_assoc old (map f (take i xs)) (f (get_or xs i d) ∷ []))
    ∙ ap (λ zs. old ++ zs) (sym (map-append f (take i xs) (get_or xs i d ∷ [])))
    ∙ ap (λ zs. old ++ map f zs) (sym (take_more xs i d i_in))

signed_not : (b : Bool) (v : ℕ) → signed (not b) v ≡ neg_ℤ (signed b v)
signed_not true v = sym (neg_neg (pos v))
signed_not false v = refl

denied : (c b : Bool) (u v : ℕ) → (if c then signed b u else signed (not b) v) ≡ neg_ℤ (if c then signed (not b) u else signed b v)
denied true b u v = sym (neg_neg (signed b u)) ∙ ap neg_ℤ (sym (signed_not b u))
denied false b u v = signed_not b v

denial_is : (n o : ℕ) (a : Lit) → denial n o a ≡ neg_ℤ (literal n o a)
denial_is n o a = denied (variable a == 0) (is_negated a) (o + n + 1) (o + variable a)

signed_abs : (b : Bool) (v : ℕ) → unsigned_abs (signed b v) ≡ v
signed_abs true zero = refl
signed_abs true (suc v) = refl
signed_abs false v = refl

small : (c b d : Bool) (u v : ℕ) → u ≤ 2147483647 → v ≤ 2147483647 → unsigned_abs (if c then signed b u else signed d v) ≤ 2147483647
small true b d u v le lv = rw signed_abs le
small false b d u v le lv = rw signed_abs lv

-- a literal has a negation
pub literal_small : (n o : ℕ) (a : Lit) → o + n + 1 < 2 ^ 31 → IsInRange n a → unsigned_abs (literal n o a) ≤ 2147483647
literal_small n o a fits range = small (variable a == 0) (not (is_negated a)) (is_negated a) (o + n + 1) (o + variable a) (omega arith) (omega arith)

-- the three clauses of a gate
pub gate_made : (n o : ℕ) (g : Gate) → and_clauses (gate_at n o g) ≡ gate_clauses n o g
gate_made n o g = rw (← denial_is n o g.lhs, ← denial_is n o g.rhs0, ← denial_is n o g.rhs1) refl

-- a literal of a later time is that of the first one, moved up
is_false : (b : Bool) → (b ≡ true → ⊥) → b ≡ false
is_false true never = absurd (never refl)
is_false false never = refl

not_negative : (n : ℕ) → int_lt (pos n) (pos 0) ≡ false
not_negative n = is_false (int_lt (pos n) (pos 0)) (λ e. let p = leb-true (suc n) 0 e in absurd (omega (arith, p)))

moved_signed : (o : ℕ) (b : Bool) (v : ℕ) → moved_literal o (signed b (suc v)) ≡ signed b (o + suc v)
moved_signed o true v =
    sym (neg_ℤ-+ℤ (pos (suc v)) (pos o)) ∙ ap neg_ℤ (pos-+ℤ-pos (suc v) o) ∙ ap (λ k. neg_ℤ (pos k)) (let e : suc v + o ≡ o + suc v = omega arith in e)
moved_signed o false v =
    ap (λ b. if b then pos (suc v) -ℤ pos o else pos (suc v) +ℤ pos o) (not_negative (suc v)) ∙ pos-+ℤ-pos (suc v) o ∙ ap pos (let e : suc v + o ≡ o + suc v = omega arith in e)

moved_positive : (o : ℕ) (b : Bool) (v w : ℕ) → 0 < v → w ≡ o + v → moved_literal o (signed b v) ≡ signed b w
moved_positive o b zero w lt e = absurd (omega arith)
moved_positive o b (suc v) w lt e = moved_signed o b v ∙ ap (signed b) (sym e)

moved_either : (o : ℕ) (c b d : Bool) (u v x y : ℕ) → 0 < u → (c ≡ false → 0 < v) → x ≡ o + u → y ≡ o + v → moved_literal o (if c then signed b u else signed d v) ≡ (if c then signed b x else signed d y)
moved_either o true b d u v x y lu lv ex ey = moved_positive o b u x lu ex
moved_either o false b d u v x y lu lv ex ey = moved_positive o d v y (lv refl) ey

some_variable : (v : ℕ) → (v == 0) ≡ false → 0 < v
some_variable zero e = let t : true ≡ false = e in cc
some_variable (suc v) e = omega arith

literal_moved : (n o : ℕ) (a : Lit) → moved_literal o (literal n 0 a) ≡ literal n o a
literal_moved n o a =
    moved_either o (variable a == 0) (not (is_negated a)) (is_negated a) (0 + n + 1) (0 + variable a) (o + n + 1) (o + variable a) (omega arith)
    (λ e. let lt = some_variable (variable a) e in omega (arith, lt)) (omega arith) (omega arith)

gate_moved : (n o : ℕ) (g : Gate) → moved_gate o (gate_at n 0 g) ≡ gate_at n o g
gate_moved n o g = rw (← literal_moved n o g.lhs, ← literal_moved n o g.rhs0, ← literal_moved n o g.rhs1) refl

-- the clauses of the gates at a time
pub gates_made : (n o : ℕ) (gs : List Gate) → flat_map and_clauses (map (moved_gate o) (map (gate_at n 0) gs)) ≡ flat_map (gate_clauses n o) gs
gates_made n o [] = refl
gates_made n o (g ∷ gs) =
    ap (λ (cs : List (List ℤ)). cs ++ flat_map and_clauses (map (moved_gate o) (map (gate_at n 0) gs))) (ap and_clauses (gate_moved n o g) ∙ gate_made n o g)
    ∙ ap (λ (cs : List (List ℤ)). gate_clauses n o g ++ cs) (gates_made n o gs)

fits_either : (c b d : Bool) (u v o : ℕ) → u + o ≤ 2147483647 → v + o ≤ 2147483647 → unsigned_abs (if c then signed b u else signed d v) + o ≤ 2147483647
fits_either true b d u v o le lv = rw signed_abs le
fits_either false b d u v o le lv = rw signed_abs lv

literal_fits : (n o : ℕ) (a : Lit) → o + n + 1 < 2 ^ 31 → IsInRange n a → unsigned_abs (literal n 0 a) + o ≤ 2147483647
literal_fits n o a fits range = fits_either (variable a == 0) (not (is_negated a)) (is_negated a) (0 + n + 1) (0 + variable a) o (omega (arith, fits)) (omega (arith, fits, range))

-- the literals of the gates fit where they are moved to a time
pub gates_fit : (n o : ℕ) (gs : List Gate) → o + n + 1 < 2 ^ 31 → All (IsGateIn n) gs → All (FitsMoved o) (map (gate_at n 0) gs)
gates_fit n o [] fits are = All-nil (FitsMoved o)
gates_fit n o (g ∷ gs) fits are =
    let is : IsGateIn n g = All-head (IsGateIn n) g gs are in
    All-cons (FitsMoved o) (gate_at n 0 g) (map (gate_at n 0) gs)
    (record { output = literal_fits n o g.lhs fits is.lhs; left = literal_fits n o g.rhs0 fits is.rhs0; right = literal_fits n o g.rhs1 fits is.rhs1 })
    (gates_fit n o gs fits (All-tail (IsGateIn n) g gs are))

-- the literals of a gate have negations
pub gate_small : (n o : ℕ) (g : Gate) → o + n + 1 < 2 ^ 31 → IsGateIn n g → HasNegations (gate_at n o g)
gate_small n o g fits is = record { output = literal_small n o g.lhs fits is.lhs; left = literal_small n o g.rhs0 fits is.rhs0; right = literal_small n o g.rhs1 fits is.rhs1 }

-- the two clauses of a latch's next value
pub join_made : (n o : ℕ) (l : Latch) (old a b : List (List ℤ)) (x1 y1 x2 y2 : ℤ) →
    a ≡ old ++ (x1 ∷ y1 ∷ []) ∷ [] → b ≡ a ++ (x2 ∷ y2 ∷ []) ∷ [] →
    x1 ≡ denial n (o + n + 1) l.lit → y1 ≡ literal n o l.next → x2 ≡ literal n (o + n + 1) l.lit → y2 ≡ denial n o l.next → b ≡ old ++ join_clauses n o l
join_made n o l old a b x1 y1 x2 y2 p q e1 f1 e2 f2 =
    let both : b ≡ old ++ (x1 ∷ y1 ∷ []) ∷ (x2 ∷ y2 ∷ []) ∷ [] = q ∙ ap (λ u. u ++ (x2 ∷ y2 ∷ []) ∷ []) p ∙ simp append_assoc in
    both ∙ rw (e1, f1, e2, f2) refl

-- one time more, and what is left after it
pub times_more : (m : Parts) (k i o : ℕ) (cs a b whole : List (List ℤ)) → i < k → cs ++ times_from m (k - i) o ≡ whole → a ≡ cs ++ time_clauses m o →
    b ≡ a ++ flat_map (join_clauses m.max_var o) m.latches → b ++ times_from m (k - (i + 1)) (o + m.max_var + 1) ≡ whole
times_more m k i o cs a b whole i_in left p q =
    let e : k - i ≡ suc (k - (i + 1)) = omega arith in
    let joins : List (List ℤ) = flat_map (join_clauses m.max_var o) m.latches in
    let rest : List (List ℤ) = times_from m (k - (i + 1)) (o + m.max_var + 1) in
    let left_here : cs ++ times_from m (suc (k - (i + 1))) o ≡ whole = rw e at left in
    let regroup : cs ++ time_clauses m o ++ joins ++ rest ≡ cs ++ (time_clauses m o ++ joins ++ rest) = simp append_assoc in
    rw (q, p) (regroup ∙ left_here)

-- the last time
pub times_done : (m : Parts) (k i o : ℕ) (cs a whole : List (List ℤ)) → k ≤ i → cs ++ times_from m (k - i) o ≡ whole → a ≡ cs ++ time_clauses m o → a ≡ whole
times_done m k i o cs a whole i_in left p =
    let e : k - i ≡ 0 = omega arith in
    p ∙ (rw e at left)
