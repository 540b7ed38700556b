-- The bits of a file.
use Rattle.std.proofs.Common.{◌≡◌, ℕ, ◌+◌, ◌*◌, ◌<◌, ◌≤◌, Bool, List, [], ◌∷◌, ◌++◌, length, get_or, map, take, refl, sym, ap, ◌∙◌, arith, All, subst, below_more, append_assoc}
use Rattle.std.specs.Prelude.{slice_index}
use Rattle.std.proofs.lemmas.List.{get_or_default, get_or_append_left, get_or_push, length_push, append-nil, take_more, map-append}
use Rattle.std.proofs.lemmas.List.Elements.{All-append, All-filter}
use Rattle.std.proofs.lemmas.List.Sorted.{All-permutation}
use Rattle.graph.specs.declared.circuit.Latch.{Latch}
use Rattle.graph.specs.declared.circuit.Lit.{Lit}
use Rattle.graph.specs.declared.parts.Parts.{Parts}
use Rattle.graph.specs.declared.symbol.Symbol.{Symbol}
use Rattle.graph.specs.declared.symbol.SymbolKind.{SymbolKind}
use Rattle.graph.specs.File.{File}
use Rattle.graph.specs.Symbols.{index_of, AreSymbols}
use Rattle.graph.specs.Circuits.{variable, justice_literals}
use Rattle.graph.specs.WellFormed.{IsWellFormed}
use Rattle.graph.proofs.Evaluation.{All-left, All-right}
use Rattle.stimulus.proofs.Ranges.{bad_in_range, constraints_in_range, outputs_in_range}
use Rattle.wave_signals.specs.declared.bits.Bit.{Bit}
use Rattle.wave_signals.specs.Bits.{AreAllBits, AreBits, AreShown, IsBit}

-- the literals of the latches, by one more
pub latch_more : (xs : List Latch) (i : ℕ) (d : Latch) (us vs : List Lit) → i < length xs → us ≡ map (λ l. l.lit) (take i xs) → vs ≡ us ++ (get_or xs i d).lit ∷ [] → vs ≡ map (λ l. l.lit) (take (i + 1) xs)
latch_more xs i d us vs i_in before more =
    more ∙ rw before (sym (ap (map (λ l. l.lit)) (take_more xs i d i_in) ∙ map-append (λ l. l.lit) (take i xs) (get_or xs i d ∷ [])))

-- ---- a kind's bits, one after the other

pub record BitsSoFar (symbols : List Symbol) (kind : SymbolKind) (lits : List Lit) (n : ℕ) (before after : List Bit) : Type 0 where
  pub row : List Bit
  pub behind : after ≡ before ++ row
  pub long : length row ≡ n
  pub each : (k : ℕ) (a : Lit) (b : Bit) → k < n → IsBit symbols kind k (get_or lits k a) (get_or row k b)

pub bits_none : (symbols : List Symbol) (kind : SymbolKind) (lits : List Lit) (before : List Bit) → BitsSoFar symbols kind lits 0 before before
bits_none symbols kind lits before = record { row = []; behind = sym (append-nil before); long = refl; each = λ k a b k_in. absurd (omega (arith, k_in)) }

pub bits_more : (symbols : List Symbol) (kind : SymbolKind) (lits : List Lit) (n : ℕ) (e : Lit) (x : Bit) (before now after : List Bit) → n < length lits → after ≡ now ++ x ∷ [] →
    IsBit symbols kind n (get_or lits n e) x → BitsSoFar symbols kind lits n before now → BitsSoFar symbols kind lits (n + 1) before after
bits_more symbols kind lits n e x before now after n_in is one h = record {
  row = h.row ++ x ∷ [];
  behind = is ∙ ap (λ (xs : List Bit). xs ++ x ∷ []) h.behind ∙ append_assoc before h.row (x ∷ []);
  long = omega (arith, length_push h.row x, h.long);
  each = λ k a b. below_more (λ q. IsBit symbols kind q (get_or lits q a) (get_or (h.row ++ x ∷ []) q b)) n
      (λ q q_in. subst (IsBit symbols kind q (get_or lits q a)) (sym (get_or_append_left h.row (x ∷ []) b q (omega (arith, h.long, q_in)))) (h.each q a b q_in))
      (subst (IsBit symbols kind n (get_or lits n a)) (sym (get_or_push h.row x b n h.long)) (subst (λ (q : Lit). IsBit symbols kind n q x) (get_or_default lits n e a n_in) one)) k;
}

pub bits_all : (symbols : List Symbol) (kind : SymbolKind) (lits : List Lit) (n : ℕ) (before after : List Bit) → n ≡ length lits → (h : BitsSoFar symbols kind lits n before after) → AreBits symbols kind lits h.row
bits_all symbols kind lits n before after is_n h = record { long = h.long ∙ is_n; each = λ k a b k_in. h.each k a b (omega (arith, is_n, k_in)) }

-- ---- the symbols of a file

pub positions_in : (counts : List ℕ) (symbols : List Symbol) (kind : SymbolKind) (count : ℕ) → AreSymbols counts symbols → slice_index counts (index_of kind) ≡ count → All (λ s. s.kind ≡ kind → s.position < count) symbols
positions_in counts symbols kind count h is_count k d k_in is_kind =
    let one = h.each k d k_in in
    subst (λ (n : ℕ). (get_or symbols k d).position < n) (ap (λ (q : SymbolKind). slice_index counts (index_of q)) is_kind ∙ is_count) one.inside

pub names_some : (counts : List ℕ) (symbols : List Symbol) → AreSymbols counts symbols → All (λ s. 0 < length s.name) symbols
names_some counts symbols h k d k_in = (h.each k d k_in).named.some

-- ---- the literals are in range

row_in_range : (m : ℕ) (symbols : List Symbol) (kind : SymbolKind) (lits : List Lit) (row : List Bit) → AreBits symbols kind lits row → All (λ a. variable a ≤ m) lits → All (λ b. variable b.lit ≤ m) row
row_in_range m symbols kind lits row h in_range k d k_in =
    let k_lits : k < length lits = omega (arith, h.long, k_in) in
    let one = h.each k d.lit d k_lits in
    subst (λ (a : Lit). variable a ≤ m) (sym one.lit_is) (in_range k d.lit k_lits)

pub inputs_in_range : (m : Parts) → IsWellFormed m → All (λ a. variable a ≤ m.max_var) m.inputs
inputs_in_range m h k d k_in =
    let p = All-left (λ a. a.0 ≤ 2 * m.max_var + 1) m.inputs (map (λ l. l.lit) m.latches) (All-left (λ a. a.0 ≤ 2 * m.max_var + 1) (m.inputs ++ map (λ l. l.lit) m.latches) (map (λ g. g.lhs) m.gates) h.defining_in_range) k d k_in in
    omega (arith, p)

pub latch_literals_in_range : (m : Parts) → IsWellFormed m → All (λ a. variable a ≤ m.max_var) (map (λ l. l.lit) m.latches)
latch_literals_in_range m h k d k_in =
    let p = All-right (λ a. a.0 ≤ 2 * m.max_var + 1) m.inputs (map (λ l. l.lit) m.latches) (All-left (λ a. a.0 ≤ 2 * m.max_var + 1) (m.inputs ++ map (λ l. l.lit) m.latches) (map (λ g. g.lhs) m.gates) h.defining_in_range) k d k_in in
    omega (arith, p)

fairness_in_range : (m : Parts) → IsWellFormed m → All (λ a. variable a ≤ m.max_var) m.fairness
fairness_in_range m h k d k_in =
    let before = map (λ l. l.next) m.latches ++ m.outputs ++ m.bad ++ m.constraints ++ justice_literals m.justice in
    let rights = All-left (λ a. a.0 ≤ 2 * m.max_var + 1) (before ++ m.fairness ++ map (λ g. g.rhs0) m.gates) (map (λ g. g.rhs1) m.gates) h.used_in_range in
    let p = All-right (λ a. a.0 ≤ 2 * m.max_var + 1) before m.fairness (All-left (λ a. a.0 ≤ 2 * m.max_var + 1) (before ++ m.fairness) (map (λ g. g.rhs0) m.gates) rights) k d k_in in
    omega (arith, p)

all_in_range : (f : File) (bits : List Bit) → IsWellFormed f.model → AreAllBits f bits → All (λ b. variable b.lit ≤ f.model.max_var) bits
all_in_range f bits well h =
    let P : Bit → Type 0 = λ b. variable b.lit ≤ f.model.max_var in
    let i = row_in_range f.model.max_var _ _ _ h.inputs h.are_inputs (inputs_in_range f.model well) in
    let l = row_in_range f.model.max_var _ _ _ h.latches h.are_latches (latch_literals_in_range f.model well) in
    let o = row_in_range f.model.max_var _ _ _ h.outputs h.are_outputs (outputs_in_range f.model well) in
    let b = row_in_range f.model.max_var _ _ _ h.bad h.are_bad (bad_in_range f.model well) in
    let c = row_in_range f.model.max_var _ _ _ h.constraints h.are_constraints (constraints_in_range f.model well) in
    let e = row_in_range f.model.max_var _ _ _ h.fairness h.are_fairness (fairness_in_range f.model well) in
    subst (All P) (sym h.whole)
    (All-append P (h.inputs ++ h.latches ++ h.outputs ++ h.bad ++ h.constraints) h.fairness
    (All-append P (h.inputs ++ h.latches ++ h.outputs ++ h.bad) h.constraints
    (All-append P (h.inputs ++ h.latches ++ h.outputs) h.bad (All-append P (h.inputs ++ h.latches) h.outputs (All-append P h.inputs h.latches i l) o) b) c) e)

pub shown_in_range : (f : File) (all : Bool) (bits : List Bit) → IsWellFormed f.model → AreShown f all bits → All (λ b. variable b.lit ≤ f.model.max_var) bits
shown_in_range f all bits well h =
    All-permutation (λ b. variable b.lit ≤ f.model.max_var) _ bits h.same (All-filter _ (λ b. variable b.lit ≤ f.model.max_var) h.every (all_in_range f h.every well h.are_all))
