-- What is written of a file spells it.
use Rattle.std.proofs.Common.{◌≡◌, ◌≢◌, ℕ, zero, suc, ◌-◌, ◌+◌, ◌*◌, ◌%◌, ◌≤◌, ◌<◌, ◌&&◌, eqb, List, [], ◌∷◌, ◌++◌, length, map, get_or, replicate, All, Option, Some, None, refl, sym, ap, ◌∙◌, arith, append_assoc, inl, inr}
use Rattle.std.specs.Prelude.{flat_map, decimal, codes, AllPairs}
use Rattle.std.proofs.lemmas.Bool.{cases_Bool, and_parts, eqb-true, eqb-false}
use Rattle.std.proofs.lemmas.List.{nil_from_length, length-append, get_or_append_left, get_or-append-add, get_or-map, length-map, map-append}
use Rattle.std.proofs.lemmas.Simd.{map-map}
use Rattle.std.proofs.lemmas.List.Concat.{flat_map-cons}
use Rattle.std.proofs.lemmas.List.Elements.{All-nil, All-cons, All-head, All-tail, All-map, All-from_recursion, recursion_from_All}
use Rattle.scan.specs.Lists.{spaced, IsCounts, Each}
use Rattle.graph.specs.declared.circuit.Lit.{Lit}
use Rattle.graph.specs.declared.circuit.Latch.{Latch}
use Rattle.graph.specs.declared.circuit.Gate.{Gate}
use Rattle.graph.specs.declared.parts.Parts.{Parts}
use Rattle.graph.specs.File.{File}
use Rattle.graph.specs.Circuits.{variable, defined, defining, HasReset, justice_literals}
use Rattle.graph.specs.WellFormed.{IsInLimits, IsWellFormed}
use Rattle.aag.specs.Lines.{greatest}
use Rattle.aag.specs.Spelling.{IsCircuitLiteral, IsDefining, IsSizeLine, IsInputLine, IsLiteralLine, IsLatchLine, IsGateLine, counts_of, SpellsCircuit}
use Rattle.aag.specs.Tail.{symbol_line, IsSymbolLine, IsComment}
use Rattle.graph.specs.declared.symbol.Symbol.{Symbol}
use Rattle.graph.specs.Symbols.{symbol_counts, AreSymbols}
use Rattle.aag.specs.Ascii.{SpellsAscii}
use Rattle.aag.specs.Writing.{trimmed, size_line, literal_line, latch_line, gate_line, comment_lines, circuit_text, written_text}

-- ---- the header

zeros_only : (ns : List ℕ) → length (trimmed ns) ≡ 0 → ns ≡ trimmed ns ++ replicate (length ns - length (trimmed ns)) 0 → ns ≡ replicate (length ns) 0
zeros_only ns none padded =
    let k : length ns - length (trimmed ns) ≡ length ns = omega (arith, none) in
    let empty : trimmed ns ≡ [] = nil_from_length (trimmed ns) none in
    padded ∙ rw (k, empty) refl

pub trimmed_short : (ns : List ℕ) → length (trimmed ns) ≤ length ns
unfolding trimmed
trimmed_short [] = omega arith
trimmed_short (n ∷ ns) = elim (cases_Bool (eqb n 0 && eqb (length (trimmed ns)) 0)) [
  | inl y ↦ rw y (omega arith)
  | inr z ↦ rw z (omega (arith, trimmed_short ns))
]

zeros_before : (n : ℕ) (ns : List ℕ) → n ≡ 0 → ns ≡ replicate (length ns) 0 → n ∷ ns ≡ [] ++ replicate (length (n ∷ ns) - 0) 0
zeros_before n ns zero_is zeros =
    let k : length (n ∷ ns) - 0 ≡ suc (length ns) = omega arith in
    ap (λ (d : ℕ). d ∷ ns) zero_is ∙ ap (λ (w : List ℕ). 0 ∷ w) zeros ∙ sym (ap (λ (j : ℕ). replicate j 0) k)

pub trimmed_padded : (ns : List ℕ) → ns ≡ trimmed ns ++ replicate (length ns - length (trimmed ns)) 0
unfolding trimmed
trimmed_padded [] = refl
trimmed_padded (n ∷ ns) = elim (cases_Bool (eqb n 0 && eqb (length (trimmed ns)) 0)) [
  | inl y ↦
      let p = and_parts (eqb n 0) (eqb (length (trimmed ns)) 0) y in
      rw y (zeros_before n ns (eqb-true n 0 p.0) (zeros_only ns (eqb-true (length (trimmed ns)) 0 p.1) (trimmed_padded ns)))
  | inr z ↦
      let k : length (n ∷ ns) - length (n ∷ trimmed ns) ≡ length ns - length (trimmed ns) = omega arith in
      rw (z, k) (ap (λ (w : List ℕ). n ∷ w) (trimmed_padded ns))
]

pub trimmed_within : (limit : ℕ) (ns : List ℕ) → All (λ n. n ≤ limit) ns → All (λ n. n ≤ limit) (trimmed ns)
unfolding trimmed
trimmed_within limit [] all = all
trimmed_within limit (n ∷ ns) all = elim (cases_Bool (eqb n 0 && eqb (length (trimmed ns)) 0)) [
  | inl y ↦ rw y (All-nil (λ n. n ≤ limit))
  | inr z ↦ rw z (All-cons (λ n. n ≤ limit) n (trimmed ns) (All-head (λ n. n ≤ limit) n ns all) (trimmed_within limit ns (All-tail (λ n. n ≤ limit) n ns all)))
]

-- ---- the lines

-- each line spells its item
pub each_written : {A : Type 0} (P : A → Type 0) (R : List ℕ → A → Type 0) (line : A → List ℕ) → ((x : A) → P x → R (line x) x) → (xs : List A) → All P xs → Each R (flat_map line xs) xs
each_written P R line one [] all = refl
each_written P R line one (x ∷ xs) all =
    (line x, flat_map line xs, one x (All-head P x xs all), each_written P R line one xs (All-tail P x xs all), flat_map-cons line x xs)

pub latch_written : (max : ℕ) (l : Latch) → IsDefining max l.lit → IsCircuitLiteral max l.next → HasReset l → IsLatchLine max (latch_line l) l
latch_written max l own next reset = elim (cases_Bool (eqb l.reset.0 0)) [
  | inl y ↦ rw y (record { spells = inr (eqb-true l.reset.0 0 y, refl); latch = own; next = next; reset = reset })
  | inr n ↦ rw n (record { spells = inl refl; latch = own; next = next; reset = reset })
]

-- ---- the comment

pub comment_written : (o : Option (List ℕ)) → IsComment (comment_lines o) o
comment_written None = refl
comment_written (Some comment) = inl refl

-- ---- parts of a list

pub all_left : {A : Type 0} (P : A → Type 0) (xs ys : List A) → All P (xs ++ ys) → All P xs
all_left P xs ys all = λ k d lt. rw (get_or_append_left xs ys d k lt) at (all k d (omega (arith, lt, length-append xs ys)))

pub all_right : {A : Type 0} (P : A → Type 0) (xs ys : List A) → All P (xs ++ ys) → All P ys
all_right P xs ys all = λ k d lt. rw (get_or-append-add xs ys k d) at (all (length xs + k) d (omega (arith, lt, length-append xs ys)))

pub all_of_map : {A B : Type 0} (P : B → Type 0) (f : A → B) (xs : List A) → All P (map f xs) → All (λ x. P (f x)) xs
all_of_map P f xs all = λ k d lt. rw (get_or-map f xs k d) at (all k (f d) (omega (arith, lt, length-map xs f)))

-- ---- room for what is defined

-- numbers below n, no two the same, are at most n
abbrev Different : List ℕ → Type 0
Different xs = AllPairs (λ u v. u ≢ v) xs

-- whether x is in the list, and the list without it
record Taken (x : ℕ) (xs : List ℕ) : Type 1 where
  others : List ℕ
  fewer : length xs ≤ suc (length others)
  kept : (P : ℕ → Type 0) → All P xs → All P others
  apart : Different xs → Different others
  free : Different xs → All (λ y. y ≢ x) others

different_tail : (x : ℕ) (xs : List ℕ) → Different (x ∷ xs) → Different xs
different_tail x xs d = λ i j e lt below. d (suc i) (suc j) e (omega (arith, lt)) (omega (arith, below))

different_head : (x : ℕ) (xs : List ℕ) → Different (x ∷ xs) → All (λ y. y ≢ x) xs
different_head x xs d = λ k e lt same. d 0 (suc k) e (omega arith) (omega (arith, lt)) (sym same)

different_at : (x : ℕ) (xs : List ℕ) → All (λ y. y ≢ x) xs → Different xs → (i j e : ℕ) → i < j → j < length (x ∷ xs) → get_or (x ∷ xs) i e ≢ get_or (x ∷ xs) j e
different_at x xs apart d i zero e lt below = absurd (omega (arith, lt))
different_at x xs apart d zero (suc j) e lt below = λ same. apart j e (omega (arith, below)) (sym same)
different_at x xs apart d (suc i) (suc j) e lt below = d i j e (omega (arith, lt)) (omega (arith, below))

different_cons : (x : ℕ) (xs : List ℕ) → All (λ y. y ≢ x) xs → Different xs → Different (x ∷ xs)
different_cons x xs apart d = λ i j e lt below. different_at x xs apart d i j e lt below

taken : (x : ℕ) (xs : List ℕ) → Taken x xs
taken x [] = record { others = []; fewer = omega arith; kept = λ P all. all; apart = λ d. d; free = λ d. All-nil (λ y. y ≢ x) }
taken x (y ∷ ys) = elim (cases_Bool (eqb y x)) [
  | inl e ↦ record {
    others = ys;
    fewer = omega arith;
    kept = λ P all. All-tail P y ys all;
    apart = λ d. different_tail y ys d;
    free = λ d. rw (← eqb-true y x e) (different_head y ys d);
  }
  | inr n ↦
      let t = taken x ys in
      record {
        others = y ∷ t.others;
        fewer = omega (arith, t.fewer);
        kept = λ P all. All-cons P y t.others (All-head P y ys all) (t.kept P (All-tail P y ys all));
        apart = λ d. different_cons y t.others (t.kept (λ z. z ≢ y) (different_head y ys d)) (t.apart (different_tail y ys d));
        free = λ d. All-cons (λ z. z ≢ x) y t.others (eqb-false y x n) (t.free (different_tail y ys d));
      }
]

less_than : (n y : ℕ) → y < suc n → y ≢ n → y < n
less_than n y below other = omega (arith, below, other)

all_both : (n : ℕ) (xs : List ℕ) → All (λ y. y < suc n) xs → All (λ y. y ≢ n) xs → All (λ y. y < n) xs
all_both n xs below other = λ k d lt. less_than n (get_or xs k d) (below k d lt) (other k d lt)

pub few_below : (n : ℕ) (xs : List ℕ) → Different xs → All (λ y. y < n) xs → length xs ≤ n
few_below zero [] d below = omega arith
few_below zero (x ∷ xs) d below = absurd (omega (arith, All-head (λ y. y < 0) x xs below))
few_below (suc n) xs d below =
    let t = taken n xs in
    omega (arith, t.fewer, few_below n t.others (t.apart d) (all_both n t.others (t.kept (λ y. y < suc n) below) (t.free d)))

-- ---- the whole

pub defined_is : (m : Parts) → defined m ≡ map variable (defining m)
defined_is m = simp (map-append, map-map)

variable_low : (max : ℕ) (a : Lit) → a.0 ≤ 2 * max + 1 → variable a < suc max
variable_low max a within = omega (arith, within)

variable_some : (a : Lit) → (2 ≤ a.0) × (a.0 % 2 ≡ 0) → variable a ≢ 0
variable_some a fine = λ none. omega (arith, fine.0, none)

-- what is defined fits below the greatest variable
room_for : (m : Parts) → IsWellFormed m → length m.inputs + length m.latches + length m.gates ≤ m.max_var
room_for m w =
    let P : ℕ → Type 0 = λ v. v < suc m.max_var in
    let Q : ℕ → Type 0 = λ v. v ≢ 0 in
    let low : All P (defined m) = rw (defined_is m) (All-map P variable (defining m) (λ k d lt. variable_low m.max_var (get_or (defining m) k d) (w.defining_in_range k d lt))) in
    let some : All Q (defined m) = rw (defined_is m) (All-map Q variable (defining m) (λ k d lt. variable_some (get_or (defining m) k d) (w.defining_even k d lt))) in
    let few = few_below (suc m.max_var) (0 ∷ defined m) (different_cons 0 (defined m) some w.defined_once) (All-cons P 0 (defined m) (omega arith) low) in
    omega (
      arith,
      few,
      length-append (map variable m.inputs ++ map (λ l. variable l.lit) m.latches) (map (λ g. variable g.lhs) m.gates),
      length-append (map variable m.inputs) (map (λ l. variable l.lit) m.latches),
      length-map {A = Lit} {B = ℕ} m.inputs variable,
      length-map {A = Latch} {B = ℕ} m.latches (λ l. variable l.lit),
      length-map {A = Gate} {B = ℕ} m.gates (λ g. variable g.lhs),
    )

pub counts_written : (m : Parts) → IsInLimits m → IsCounts greatest
    (flat_map spaced (length m.inputs ∷ length m.latches ∷ length m.outputs ∷ length m.gates
    ∷ trimmed (length m.bad ∷ length m.constraints ∷ length m.justice ∷ length m.fairness ∷ [])) ++ 10 ∷ [])
    (counts_of m)
counts_written m l =
    let others : List ℕ = length m.bad ∷ length m.constraints ∷ length m.justice ∷ length m.fairness ∷ [] in
    let few = trimmed_short others in
    let P : ℕ → Type 0 = λ n. n ≤ greatest in
    let k : 8 - length (length m.inputs ∷ length m.latches ∷ length m.outputs ∷ length m.gates ∷ trimmed others) ≡ length others - length (trimmed others) = omega arith in
    record {
      written = length m.inputs ∷ length m.latches ∷ length m.outputs ∷ length m.gates ∷ trimmed others;
      enough = omega arith;
      few = omega (arith, few);
      within = All-from_recursion P (length m.inputs ∷ length m.latches ∷ length m.outputs ∷ length m.gates ∷ trimmed others)
          (l.inputs, (l.latches, (l.outputs, (l.gates, recursion_from_All P (trimmed others) (trimmed_within greatest others (All-from_recursion P others (l.bad, (l.constraints, (l.justice, (l.fairness, tt))))))))));
      padded = rw k (ap (λ (w : List ℕ). length m.inputs ∷ length m.latches ∷ length m.outputs ∷ length m.gates ∷ w) (trimmed_padded others));
      spells = refl;
    }

-- ---- all of it

input_written : (max : ℕ) (a : Lit) → IsDefining max a → IsInputLine max (literal_line a) a
input_written max a fine = record { spells = refl; input = fine }

pub literal_written : (max : ℕ) (a : Lit) → IsCircuitLiteral max a → IsLiteralLine max (literal_line a) a
literal_written max a within = record { spells = refl; literal = within }

-- what a line of a latch, and of a gate, has to keep
pub record IsFineLatch (max : ℕ) (l : Latch) : Type 0 where
  pub own : IsDefining max l.lit
  pub next : IsCircuitLiteral max l.next
  pub reset : HasReset l

pub record IsFineGate (max : ℕ) (g : Gate) : Type 0 where
  pub own : IsDefining max g.lhs
  pub left : IsCircuitLiteral max g.rhs0
  pub right : IsCircuitLiteral max g.rhs1

gate_written : (max : ℕ) (g : Gate) → IsFineGate max g → IsGateLine max (gate_line g) g
gate_written max g fine = record { spells = refl; gate = fine.own; left = fine.left; right = fine.right }

pub sizes_written : (js : List (List Lit)) → Each IsSizeLine (flat_map size_line js) (map length js)
sizes_written [] = refl
sizes_written (j ∷ js) = (size_line j, flat_map size_line js, refl, sizes_written js, flat_map-cons size_line j js)

pub symbols_written : (xs : List Symbol) → Each IsSymbolLine (flat_map symbol_line xs) xs
symbols_written [] = refl
symbols_written (x ∷ xs) = (symbol_line x, flat_map symbol_line xs, refl, symbols_written xs, flat_map-cons symbol_line x xs)

-- the lists of a well-formed circuit, each fine
pub record FineLists (m : Parts) : Type 0 where
  pub inputs : All (IsDefining m.max_var) m.inputs
  pub latches : All (IsFineLatch m.max_var) m.latches
  pub outputs : All (IsCircuitLiteral m.max_var) m.outputs
  pub bad : All (IsCircuitLiteral m.max_var) m.bad
  pub constraints : All (IsCircuitLiteral m.max_var) m.constraints
  pub justice : All (IsCircuitLiteral m.max_var) (justice_literals m.justice)
  pub fairness : All (IsCircuitLiteral m.max_var) m.fairness
  pub gates : All (IsFineGate m.max_var) m.gates

pub fine_lists : (m : Parts) → IsWellFormed m → FineLists m
fine_lists m w =
    let R = IsCircuitLiteral m.max_var in
    let D = IsDefining m.max_var in
    let nexts = map (λ l. l.next) m.latches in
    let rights0 = map (λ g. g.rhs0) m.gates in
    let rights1 = map (λ g. g.rhs1) m.gates in
    let u0 = w.used_in_range in
    let u1 = all_left R (nexts ++ m.outputs ++ m.bad ++ m.constraints ++ justice_literals m.justice ++ m.fairness ++ rights0) rights1 u0 in
    let u2 = all_left R (nexts ++ m.outputs ++ m.bad ++ m.constraints ++ justice_literals m.justice ++ m.fairness) rights0 u1 in
    let u3 = all_left R (nexts ++ m.outputs ++ m.bad ++ m.constraints ++ justice_literals m.justice) m.fairness u2 in
    let u4 = all_left R (nexts ++ m.outputs ++ m.bad ++ m.constraints) (justice_literals m.justice) u3 in
    let u5 = all_left R (nexts ++ m.outputs ++ m.bad) m.constraints u4 in
    let u6 = all_left R (nexts ++ m.outputs) m.bad u5 in
    let u7 = all_left R nexts m.outputs u6 in
    let lits = map (λ l. l.lit) m.latches in
    let lefts = map (λ g. g.lhs) m.gates in
    let defines : All D (defining m) = λ k d lt. record { literal = w.defining_in_range k d lt; even = (w.defining_even k d lt).1; least = (w.defining_even k d lt).0 } in
    let d1 = all_left D (m.inputs ++ lits) lefts defines in
    let owns = all_of_map D (λ l. l.lit) m.latches (all_right D m.inputs lits d1) in
    let next = all_of_map R (λ l. l.next) m.latches u7 in
    let gates = all_of_map D (λ g. g.lhs) m.gates (all_right D (m.inputs ++ lits) lefts defines) in
    let left = all_of_map R (λ g. g.rhs0) m.gates (all_right R (nexts ++ m.outputs ++ m.bad ++ m.constraints ++ justice_literals m.justice ++ m.fairness) rights0 u1) in
    let right = all_of_map R (λ g. g.rhs1) m.gates (all_right R (nexts ++ m.outputs ++ m.bad ++ m.constraints ++ justice_literals m.justice ++ m.fairness ++ rights0) rights1 u0) in
    record {
      inputs = all_left D m.inputs lits d1;
      latches = λ k d lt. record { own = owns k d lt; next = next k d lt; reset = w.resets k d lt };
      outputs = all_right R nexts m.outputs u6;
      bad = all_right R (nexts ++ m.outputs) m.bad u5;
      constraints = all_right R (nexts ++ m.outputs ++ m.bad) m.constraints u4;
      justice = all_right R (nexts ++ m.outputs ++ m.bad ++ m.constraints) (justice_literals m.justice) u3;
      fairness = all_right R (nexts ++ m.outputs ++ m.bad ++ m.constraints ++ justice_literals m.justice) m.fairness u2;
      gates = λ k d lt. record { own = gates k d lt; left = left k d lt; right = right k d lt };
    }

regroup : (w m h e a b c d f g i j k l : List ℕ) → (w ++ m ++ h ++ e) ++ a ++ b ++ c ++ d ++ f ++ g ++ i ++ j ++ k ≡ w ++ m ++ (h ++ e) ++ a ++ b ++ c ++ d ++ f ++ g ++ i ++ j ++ k
regroup w m h e a b c d f g i j k l = simp append_assoc

pub circuit_written : (m : Parts) → IsWellFormed m → SpellsCircuit (circuit_text m) m
circuit_written m w =
    let fine = fine_lists m w in
    let max = m.max_var in
    let counts : List ℕ = length m.inputs ∷ length m.latches ∷ length m.outputs ∷ length m.gates ∷ trimmed (length m.bad ∷ length m.constraints ∷ length m.justice ∷ length m.fairness ∷ []) in
    record {
      head = flat_map spaced counts ++ 10 ∷ [];
      inputs = flat_map literal_line m.inputs;
      latches = flat_map latch_line m.latches;
      outputs = flat_map literal_line m.outputs;
      bad = flat_map literal_line m.bad;
      constraints = flat_map literal_line m.constraints;
      sizes = flat_map size_line m.justice;
      justice = flat_map literal_line (justice_literals m.justice);
      fairness = flat_map literal_line m.fairness;
      gates = flat_map gate_line m.gates;
      whole = regroup (codes "aag ") (decimal m.max_var) (flat_map spaced counts) (10 ∷ []) (flat_map literal_line m.inputs) (flat_map latch_line m.latches) (flat_map literal_line m.outputs) (flat_map literal_line m.bad)
          (flat_map literal_line m.constraints) (flat_map size_line m.justice) (flat_map literal_line (justice_literals m.justice)) (flat_map literal_line m.fairness) (flat_map gate_line m.gates) [];
      max_var = w.limits.max_var;
      counts = counts_written m w.limits;
      each_input = each_written (IsDefining max) (IsInputLine max) literal_line (input_written max) m.inputs fine.inputs;
      each_latch = each_written (IsFineLatch max) (IsLatchLine max) latch_line (λ l f. latch_written max l f.own f.next f.reset) m.latches fine.latches;
      each_output = each_written (IsCircuitLiteral max) (IsLiteralLine max) literal_line (literal_written max) m.outputs fine.outputs;
      each_bad = each_written (IsCircuitLiteral max) (IsLiteralLine max) literal_line (literal_written max) m.bad fine.bad;
      each_constraint = each_written (IsCircuitLiteral max) (IsLiteralLine max) literal_line (literal_written max) m.constraints fine.constraints;
      each_size = sizes_written m.justice;
      each_justice = each_written (IsCircuitLiteral max) (IsLiteralLine max) literal_line (literal_written max) (justice_literals m.justice) fine.justice;
      each_fairness = each_written (IsCircuitLiteral max) (IsLiteralLine max) literal_line (literal_written max) m.fairness fine.fairness;
      each_gate = each_written (IsFineGate max) (IsGateLine max) gate_line (gate_written max) m.gates fine.gates;
      room = room_for m w;
      justice_room = w.limits.justice_sum;
    }

-- what is written of a file spells it, where it is short enough
pub file_written : (f : File) → IsWellFormed f.model → AreSymbols (symbol_counts f.model) f.symbols → length (written_text f) ≤ 67108864 → SpellsAscii (written_text f) f
file_written f well_formed are short = record {
  circuit = circuit_text f.model;
  symbols = flat_map symbol_line f.symbols;
  comment = comment_lines f.comment;
  whole = refl;
  short = short;
  spells_circuit = circuit_written f.model well_formed;
  well_formed = well_formed;
  each_symbol = symbols_written f.symbols;
  are_symbols = are;
  spells_comment = comment_written f.comment;
}
