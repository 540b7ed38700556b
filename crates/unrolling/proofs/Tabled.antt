-- Tables of literals that stand for a circuit's variables at a time.
use Rattle.std.proofs.Common.{◌≡◌, ◌≢◌, ℕ, zero, suc, ◌+◌, ◌*◌, ◌%◌, ◌<◌, ◌≤◌, ◌⊎◌, Bool, not, List, [], ◌++◌, map, set, length, get_or, All, ℤ, pos, negsuc, neg_ℤ, inl, inr, refl, sym, ◌∙◌, ap, subst, arith, get_or-set_same, get_or-set_other, length-set}
use Rattle.std.proofs.lemmas.Bool.{cases_eq, cases_lt, eq-eqb, ne_eqb}
use Rattle.std.proofs.lemmas.List.Elements.{All-weaker}
use Rattle.graph.specs.declared.circuit.Lit.{Lit}
use Rattle.graph.specs.declared.parts.Parts.{Parts}
use Rattle.graph.specs.Circuits.{variable, place, value_of, at}
use Rattle.graph.specs.WellFormed.{IsWellFormed}
use Rattle.graph.proofs.Evaluation.{All-left, latches_in_range}
use Rattle.graph.proofs.Gates.{value_of-even}
use Rattle.lrat.specs.Literals.{is_true, IsLiteral}
use Rattle.cuts.specs.declared.cut.Cut.{Cut}
use Rattle.cuts.specs.Cuts.{IsLeaf, cut_value}
use Rattle.unrolling.specs.declared.cone.Cell.{Cell}
use Rattle.unrolling.specs.declared.cone.Cone.{Cone}
use Rattle.unrolling.specs.Cones.{IsConeOf, IsFilled, cell_at, no_cell, no_latch}
use Rattle.unrolling.specs.Encodings.{IsFunctionIn, Told, AreKept, function_value}
use Rattle.unrolling.specs.Unrollings.{Leaves, Follows, Stands, IsTable, AreFresh, AreStates, by_table, literal_at, literal_of, input_of, latch_of}
use Rattle.unrolling.proofs.Negated.{negation_literal, negation_true, literal_up}

-- the values of literals
value_of-odd : (w : List Bool) (a : Lit) → a.0 % 2 ≡ 1 → value_of w a ≡ not (place w (variable a))
value_of-odd w a odd = rw odd refl

even_literal : (table : List ℤ) (a : Lit) → a.0 % 2 ≢ 1 → literal_of table a ≡ literal_at table (variable a)
even_literal table a even = rw (ne_eqb (a.0 % 2) 1 even) refl

odd_literal : (table : List ℤ) (a : Lit) → a.0 % 2 ≡ 1 → literal_of table a ≡ neg_ℤ (literal_at table (variable a))
odd_literal table a odd = rw (eq-eqb (a.0 % 2) 1 odd) refl

pub literal_true : (table : List ℤ) (v : ℕ → Bool) (w : List Bool) (a : Lit) → literal_at table (variable a) ≢ pos 0 → is_true v (literal_at table (variable a)) ≡ place w (variable a) →
    is_true v (literal_of table a) ≡ value_of w a
literal_true table v w a nz e = elim (cases_eq (a.0 % 2) 1) [
  | inl odd ↦ ap (is_true v) (odd_literal table a odd) ∙ negation_true v (literal_at table (variable a)) nz ∙ ap not e ∙ sym (value_of-odd w a odd)
  | inr even ↦ ap (is_true v) (even_literal table a even) ∙ e ∙ sym (value_of-even w a (omega (arith, even)))
]

-- more clauses, and more variables
pub stands_weaker : (m : Parts) (c : Cone) (s : Leaves) (cs ds : Told) (t x : ℕ) (l : ℤ) → ((v : ℕ → Bool) → AreKept v ds → AreKept v cs) → Stands m c s cs t x l → Stands m c s ds t x l
stands_weaker m c s cs ds t x l weaker stands r v follows all t_in = stands r v follows (weaker v all) t_in

pub table_weaker : (m : Parts) (c : Cone) (s : Leaves) (cs ds : Told) (t n k i j g : ℕ) (table : List ℤ) → ((v : ℕ → Bool) → AreKept v ds → AreKept v cs) → n ≤ k →
    IsTable m c s cs t n i j g table → IsTable m c s ds t k i j g table
table_weaker m c s cs ds t n k i j g table weaker le is = record {
  whole = is.whole;
  literals = All-weaker (IsLiteral n) (IsLiteral k) (λ l here. literal_up n k l here le) table is.literals;
  stands = λ x filled. stands_weaker m c s cs ds t x (literal_at table x) weaker (is.stands x filled);
}

-- one more variable
pub table_set : (m : Parts) (c : Cone) (s : Leaves) (cs : Told) (t n i j g i2 j2 g2 x : ℕ) (l : ℤ) (table : List ℤ) → IsTable m c s cs t n i j g table → x < m.max_var + 1 →
    IsLiteral n l → Stands m c s cs t x l → ((y : ℕ) → IsFilled m c i2 j2 g2 y → IsFilled m c i j g y ⊎ (y ≡ x)) → IsTable m c s cs t n i2 j2 g2 (set table x l)
table_set m c s cs t n i j g i2 j2 g2 x l table is x_in l_in stands filled =
    let inside : x < length table = omega (arith, x_in, is.whole) in
    let here : literal_at (set table x l) x ≡ l = get_or-set_same table x l (negsuc 0) inside in
    record {
      whole = length-set table x l ∙ is.whole;
      literals = λ k d k_in. elim (cases_eq k x) [
        | inl same ↦ subst (IsLiteral n) (sym (ap (λ q. get_or (set table x l) q d) same ∙ get_or-set_same table x l d inside)) l_in
        | inr apart ↦ subst (IsLiteral n) (sym (get_or-set_other table x k l d apart)) (is.literals k d (omega (arith, k_in, length-set table x l)))
      ];
      stands = λ y y_filled. elim (cases_eq y x) [
        | inl same ↦ subst (λ q. Stands m c s cs t q (literal_at (set table x l) q)) (sym same) (subst (Stands m c s cs t x) (sym here) stands)
        | inr apart ↦ elim (filled y y_filled) [
          | inl before ↦ subst (Stands m c s cs t y) (sym (get_or-set_other table x y l (negsuc 0) apart)) (is.stands y before)
          | inr is_x ↦ absurd (apart is_x)
        ]
      ];
    }

-- the next input, latch and cell
filled_input : (m : Parts) (c : Cone) (i y : ℕ) → IsFilled m c (i + 1) 0 0 y → IsFilled m c i 0 0 y ⊎ (y ≡ input_of m c i)
filled_input m c i y (inl z) = inl (inl z)
filled_input m c i y (inr (inl (k, k_in, is))) = elim (cases_lt k i) [
  | inl below ↦ inl (inr (inl (k, below, is)))
  | inr last ↦ let same : k ≡ i = omega (arith, k_in, last) in inr (sym is ∙ ap (input_of m c) same)
]
filled_input m c i y (inr (inr (inl (k, k_in, is)))) = absurd (omega (arith, k_in))
filled_input m c i y (inr (inr (inr (k, k_in, is)))) = absurd (omega (arith, k_in))

filled_latch : (m : Parts) (c : Cone) (i j y : ℕ) → IsFilled m c i (j + 1) 0 y → IsFilled m c i j 0 y ⊎ (y ≡ variable (latch_of m c j))
filled_latch m c i j y (inl z) = inl (inl z)
filled_latch m c i j y (inr (inl (k, k_in, is))) = inl (inr (inl (k, k_in, is)))
filled_latch m c i j y (inr (inr (inl (k, k_in, is)))) = elim (cases_lt k j) [
  | inl below ↦ inl (inr (inr (inl (k, below, is))))
  | inr last ↦ let same : k ≡ j = omega (arith, k_in, last) in inr (sym is ∙ ap (λ q. variable (latch_of m c q)) same)
]
filled_latch m c i j y (inr (inr (inr (k, k_in, is)))) = absurd (omega (arith, k_in))

filled_cell : (m : Parts) (c : Cone) (i j g y : ℕ) → IsFilled m c i j (g + 1) y → IsFilled m c i j g y ⊎ (y ≡ (cell_at c.cells.items g).variable)
filled_cell m c i j g y (inl z) = inl (inl z)
filled_cell m c i j g y (inr (inl (k, k_in, is))) = inl (inr (inl (k, k_in, is)))
filled_cell m c i j g y (inr (inr (inl (k, k_in, is)))) = inl (inr (inr (inl (k, k_in, is))))
filled_cell m c i j g y (inr (inr (inr (k, k_in, is)))) = elim (cases_lt k g) [
  | inl below ↦ inl (inr (inr (inr (k, below, is))))
  | inr last ↦ let same : k ≡ g = omega (arith, k_in, last) in inr (sym is ∙ ap (λ q. (cell_at c.cells.items q).variable) same)
]

pub table_input : (m : Parts) (c : Cone) (s : Leaves) (cs : Told) (t n first i : ℕ) (l : ℤ) (table : List ℤ) → IsTable m c s cs t n i 0 0 table → input_of m c i < m.max_var + 1 →
    i < length c.inputs.items → first + length c.inputs.items ≤ n → l ≡ pos (first + (i + 1)) → AreFresh m c s t first → IsTable m c s cs t n (i + 1) 0 0 (set table (input_of m c i) l)
table_input m c s cs t n first i l table is x_in i_in room l_is fresh =
    let e : first + (i + 1) ≡ suc (first + i) = omega arith in
    let l_suc : l ≡ pos (suc (first + i)) = l_is ∙ ap pos e in
    table_set m c s cs t n i 0 0 (i + 1) 0 0 (input_of m c i) l table is x_in
    (subst (IsLiteral n) (sym l_suc) (λ z. cc, omega (arith, i_in, room)))
    (subst (Stands m c s cs t (input_of m c i)) (sym l_suc) (λ r v follows all t_in. ap v (sym e) ∙ fresh r v follows t_in i i_in))
    (filled_input m c i)

pub table_latch : (m : Parts) (c : Cone) (s : Leaves) (cs : Told) (t n i j : ℕ) (state table : List ℤ) → IsTable m c s cs t n i j 0 table → variable (latch_of m c j) < m.max_var + 1 →
    j < length c.latches.items → length state ≡ length c.latches.items → AreStates m c s cs t n state → IsTable m c s cs t n i (j + 1) 0 (set table (variable (latch_of m c j)) (literal_at state j))
table_latch m c s cs t n i j state table is x_in j_in whole states =
    table_set m c s cs t n i j 0 i (j + 1) 0 (variable (latch_of m c j)) (literal_at state j) table is x_in (states.literals j (negsuc 0) (omega (arith, j_in, whole))) (states.stands j j_in)
    (filled_latch m c i j)

-- a literal of the table stands for a literal of the circuit
pub literal_stands : (m : Parts) (c : Cone) (s : Leaves) (cs : Told) (t n i j g : ℕ) (table : List ℤ) (a : Lit) → IsTable m c s cs t n i j g table → IsFilled m c i j g (variable a) →
    variable a < m.max_var + 1 → (r : List (List Bool)) (v : ℕ → Bool) → Follows m c s r v → AreKept v cs → t < length r → is_true v (literal_of table a) ≡ value_of (at r t) a
literal_stands m c s cs t n i j g table a is filled a_in r v follows all t_in =
    literal_true table v (at r t) a (is.literals (variable a) (negsuc 0) (omega (arith, a_in, is.whole))).0 (is.stands (variable a) filled r v follows all t_in)

-- the function has the cut's value where the literals have those of the leaves
cut_function : (table : List ℤ) (v : ℕ → Bool) (w : List Bool) (c : Cut) → ((u : ℕ) → IsLeaf c u → is_true v (literal_at table u) ≡ place w u) → function_value v (by_table table c) ≡ cut_value w c
cut_function table v w c same =
    let one = same c.leaves.0 (inl refl) in
    let two = same c.leaves.1 (inr (inl refl)) in
    let three = same c.leaves.2 (inr (inr (inl refl))) in
    let four = same c.leaves.3 (inr (inr (inr refl))) in
    rw (one, two, three, four) refl

pub table_cell : (m : Parts) (c : Cone) (s : Leaves) (cs ds : Told) (t n k g : ℕ) (l : ℤ) (table : List ℤ) → IsConeOf m c → g < length c.cells.items →
    IsTable m c s cs t n (length c.inputs.items) (length c.latches.items) g table → ((v : ℕ → Bool) → AreKept v ds → AreKept v cs) → n ≤ k → IsLiteral k l →
    IsFunctionIn ds.functions (by_table table (cell_at c.cells.items g).cut) l →
    IsTable m c s ds t k (length c.inputs.items) (length c.latches.items) (g + 1) (set table (cell_at c.cells.items g).variable l)
table_cell m c s cs ds t n k g l table cone g_in is weaker le l_in made =
    let cell : Cell = cell_at c.cells.items g in
    let range = cone.range g no_cell g_in in
    table_set m c s ds t k (length c.inputs.items) (length c.latches.items) g (length c.inputs.items) (length c.latches.items) (g + 1) cell.variable l table
    (table_weaker m c s cs ds t n k (length c.inputs.items) (length c.latches.items) g table weaker le is) (omega (arith, range.0)) l_in
    (λ r v follows all t_in.
    let leaves : (u : ℕ) → IsLeaf cell.cut u → is_true v (literal_at table u) ≡ place (at r t) u = λ u leaf. is.stands u (cone.reads g u g_in leaf) r v follows (weaker v all) t_in in
    made v all.0 ∙ cut_function table v (at r t) cell.cut leaves ∙ sym (cone.cells g no_cell g_in (at r t) (follows.runs.agrees t [] t_in)))
    (filled_cell m c (length c.inputs.items) (length c.latches.items) g)

-- what the cone has is in range
pub input_range : (m : Parts) (c : Cone) (k : ℕ) → IsWellFormed m → IsConeOf m c → k < length c.inputs.items → input_of m c k < m.max_var + 1
input_range m c k well cone k_in =
    let P : Lit → Type 0 = λ a. a.0 ≤ 2 * m.max_var + 1 in
    let p = All-left P m.inputs (map (λ l. l.lit) m.latches) (All-left P (m.inputs ++ map (λ l. l.lit) m.latches) (map (λ g. g.lhs) m.gates) well.defining_in_range) (get_or c.inputs.items k 0) (record { 0 = 0 }) (cone.inputs k 0 k_in) in
    omega (arith, p)

pub latch_range : (m : Parts) (c : Cone) (k : ℕ) → IsWellFormed m → IsConeOf m c → k < length c.latches.items → variable (latch_of m c k) < m.max_var + 1
latch_range m c k well cone k_in =
    let p = latches_in_range m well (get_or c.latches.items k 0) no_latch (cone.latches k 0 k_in) in
    omega (arith, p)

pub cell_range : (m : Parts) (c : Cone) (k n : ℕ) → IsConeOf m c → k < length c.cells.items → n ≡ m.max_var + 1 →
    ((cell_at c.cells.items k).variable < n) × ((u : ℕ) → IsLeaf (cell_at c.cells.items k).cut u → u < n)
cell_range m c k n cone k_in n_is =
    let range = cone.range k no_cell k_in in
    (omega (arith, range.0, n_is), λ u leaf. (let h = range.1 u leaf in omega (arith, h, n_is)))

-- literals that are read from a table and written into it
pub literal_in_range : (n : ℕ) (table : List ℤ) (a : Lit) → All (IsLiteral n) table → variable a < length table → IsLiteral n (literal_of table a)
literal_in_range n table a all a_in =
    let here : IsLiteral n (literal_at table (variable a)) = all (variable a) (negsuc 0) a_in in
    elim (cases_eq (a.0 % 2) 1) [
      | inl odd ↦ subst (IsLiteral n) (sym (odd_literal table a odd)) (negation_literal n (literal_at table (variable a)) here)
      | inr even ↦ subst (IsLiteral n) (sym (even_literal table a even)) here
    ]

pub literals_set : (n k : ℕ) (table : List ℤ) (x : ℕ) (l : ℤ) → All (IsLiteral n) table → n ≤ k → x < length table → IsLiteral k l → All (IsLiteral k) (set table x l)
literals_set n k table x l all le inside l_in i d i_in = elim (cases_eq i x) [
  | inl same ↦ subst (IsLiteral k) (sym (ap (λ q. get_or (set table x l) q d) same ∙ get_or-set_same table x l d inside)) l_in
  | inr apart ↦ subst (IsLiteral k) (sym (get_or-set_other table x i l d apart)) (literal_up n k (get_or table i d) (all i d (omega (arith, i_in, length-set table x l))) le)
]

pub positive_literal : (n k : ℕ) → 0 < k → k ≤ n → IsLiteral n (pos k)
positive_literal n zero some le = absurd (omega (arith, some))
positive_literal n (suc k) some le = (λ z. cc, le)
