-- Texts that several calls put, one after another.
use Rattle.std.proofs.Common.{◌≡◌, ◌≢◌, ℕ, zero, suc, ◌+◌, ◌*◌, ◌/◌, ◌%◌, ◌≤◌, ◌<◌, ltb, List, [], ◌∷◌, ◌++◌, Option, refl, sym, ap, ◌∙◌, arith, append_assoc, inl, inr}
use Rattle.std.specs.Prelude.{flat_map, codes}
use Rattle.std.proofs.lemmas.Bool.{cases_Bool, ne_eqb, lt-ltb, le-ltb, ltb-true, ltb-false}
use Rattle.graph.specs.declared.circuit.Latch.{Latch}
use Rattle.graph.specs.declared.parts.Parts.{Parts}
use Rattle.graph.specs.declared.symbol.Symbol.{Symbol}
use Rattle.aag.specs.Ascii.{file_of}
use Rattle.aag.specs.Tail.{symbol_line}
use Rattle.aag.specs.Writing.{header_line, use_lines, comment_lines}
use Rattle.aag.proofs.PieceLaws.{word}
use Rattle.aig.specs.Delta.{groups_text, delta_text}
use Rattle.aig.specs.Binary.{IsDelta}
use Rattle.aig.specs.Writing.{latch_line, gate_text, circuit_text, written_text}

-- ---- differences

-- the first number that needs more than k groups and the last
unfoldable pub top : ℕ → ℕ
top zero = 128
top (suc k) = 128 * top k

same_groups : (k n : ℕ) → n < top k → groups_text k n ≡ groups_text (suc k) n
unfolding groups_text top
same_groups zero n small = rw (lt-ltb n 128 small) refl
same_groups (suc k) n small = elim (cases_Bool (ltb n 128)) [
  | inl y ↦ rw y refl
  | inr z ↦ rw z (ap (λ (w : List ℕ). (128 + n % 128) ∷ w) (same_groups k (n / 128) (omega (arith, small))))
]

pub delta_last : (n : ℕ) → n < 128 → n ∷ [] ≡ delta_text n
unfolding groups_text
delta_last n small = rw (lt-ltb n 128 small) refl

pub delta_more : (n : ℕ) → 128 ≤ n → n < 4294967296 → ((128 + n % 128) ∷ []) ++ delta_text (n / 128) ≡ delta_text n
unfolding groups_text top
delta_more n big small = rw (le-ltb n 128 big) (ap (λ (w : List ℕ). (128 + n % 128) ∷ w) (sym (same_groups 3 (n / 128) (omega (arith, small)))))

-- a number of two, three, four and five groups
pub delta_two : (n : ℕ) → 128 ≤ n → n / 128 < 128 → (128 + n % 128) ∷ n / 128 ∷ [] ≡ delta_text n
delta_two n big small = ap (λ (w : List ℕ). (128 + n % 128) ∷ w) (delta_last (n / 128) small) ∙ delta_more n big (omega (arith, small))

pub delta_three : (n : ℕ) → 128 ≤ n → 128 ≤ n / 128 → n / 128 / 128 < 128 → (128 + n % 128) ∷ (128 + n / 128 % 128) ∷ n / 128 / 128 ∷ [] ≡ delta_text n
delta_three n big more small = ap (λ (w : List ℕ). (128 + n % 128) ∷ w) (delta_two (n / 128) more small) ∙ delta_more n big (omega (arith, small))

pub delta_four : (n : ℕ) → 128 ≤ n → 128 ≤ n / 128 → 128 ≤ n / 128 / 128 → n / 128 / 128 / 128 < 128
    → (128 + n % 128) ∷ (128 + n / 128 % 128) ∷ (128 + n / 128 / 128 % 128) ∷ n / 128 / 128 / 128 ∷ [] ≡ delta_text n
delta_four n big more most small = ap (λ (w : List ℕ). (128 + n % 128) ∷ w) (delta_three (n / 128) more most small) ∙ delta_more n big (omega (arith, small))

pub delta_five : (n : ℕ) → n < 4294967296 → 128 ≤ n → 128 ≤ n / 128 → 128 ≤ n / 128 / 128 → 128 ≤ n / 128 / 128 / 128
    → (128 + n % 128) ∷ (128 + n / 128 % 128) ∷ (128 + n / 128 / 128 % 128) ∷ (128 + n / 128 / 128 / 128 % 128) ∷ n / 128 / 128 / 128 / 128 ∷ [] ≡ delta_text n
delta_five n small big more most last =
    ap (λ (w : List ℕ). (128 + n % 128) ∷ w) (delta_four (n / 128) more most last (omega (arith, small))) ∙ delta_more n big small

delta_cons : (c n : ℕ) (t : List ℕ) → 128 ≤ n → c ≡ 128 + n % 128 → IsDelta t (n / 128) → IsDelta (c ∷ t) n
delta_cons c n [] big is others = absurd others
delta_cons c n (d ∷ ds) big is others = (big, is, others)

groups_spell : (k n : ℕ) → n < top k → IsDelta (groups_text k n) n
unfolding groups_text top
groups_spell zero n small = (small, refl)
groups_spell (suc k) n small = elim (cases_Bool (ltb n 128)) [
  | inl y ↦ rw y (ltb-true n 128 y, refl)
  | inr z ↦ rw z (delta_cons (128 + n % 128) n (groups_text k (n / 128)) (ltb-false n 128 z) refl (groups_spell k (n / 128) (omega (arith, small))))
]

pub delta_spells : (n : ℕ) → n < 4294967296 → IsDelta (delta_text n) n
unfolding top
delta_spells n small = groups_spell 4 n (omega (arith, small))

-- ---- latches

pub short_is : (l : Latch) → l.reset.0 ≡ 0 → word l.next.0 10 ≡ latch_line l
short_is l none = rw none refl

pub long_is : (l : Latch) → l.reset.0 ≢ 0 → word l.next.0 32 ++ word l.reset.0 10 ≡ latch_line l
long_is l some = rw (ne_eqb l.reset.0 0 some) (simp append_assoc)

-- ---- the whole

regroup : (h l u g : List ℕ) → h ++ (l ++ (u ++ g)) ≡ h ++ l ++ u ++ g
regroup h l u g = simp append_assoc

pub circuit_is : (m : Parts) → header_line (codes "aig ") m ++ (flat_map latch_line m.latches ++ (use_lines m ++ flat_map gate_text m.gates)) ≡ circuit_text m
circuit_is m = regroup (header_line (codes "aig ") m) (flat_map latch_line m.latches) (use_lines m) (flat_map gate_text m.gates)

pub file_is : (m : Parts) (symbols : List Symbol) (comment : Option (List ℕ)) → circuit_text m ++ (flat_map symbol_line symbols ++ comment_lines comment) ≡ written_text (file_of m symbols comment)
file_is m symbols comment = sym (append_assoc (circuit_text m) (flat_map symbol_line symbols) (comment_lines comment))
