-- Texts that several calls put, one after another.
use Rattle.std.proofs.Common.{◌≡◌, ◌≢◌, ℕ, eqb, List, [], ◌∷◌, ◌++◌, length, Option, Result, IsErr, refl, sym, ap, subst, ◌∙◌, append_assoc, inl, inr}
use Rattle.std.specs.Prelude.{flat_map, decimal, codes, ◌==◌, if◌then◌else◌}
use Rattle.std.proofs.lemmas.Bool.{cases_Bool, eqb-true}
use Rattle.std.proofs.lemmas.List.{append-nil}
use Rattle.std.proofs.lemmas.Grind.{flat_map-append}
use Rattle.scan.specs.Lists.{spaced}
use Rattle.graph.specs.declared.circuit.Lit.{Lit}
use Rattle.graph.specs.declared.circuit.Latch.{Latch}
use Rattle.graph.specs.declared.circuit.Gate.{Gate}
use Rattle.graph.specs.declared.symbol.Symbol.{Symbol}
use Rattle.base.specs.Devices.{Puts, PutsBeginning}
use Rattle.std.specs.Io.KnownBytes.{Appends}
use Rattle.std.proofs.KnownBytes.{Appends-trans}
use Rattle.base.proofs.Putting.{begins_behind, begins_more, puts_err}
use Rattle.aag.specs.Tail.{letter_of, symbol_line}
use Rattle.graph.specs.declared.parts.Parts.{Parts}
use Rattle.graph.specs.Circuits.{justice_literals}
use Rattle.aag.specs.Writing.{circuit_text, comment_lines, gate_line, header_line, latch_line, literal_line, size_line, trimmed, use_lines}

-- the first call failed
pub first_fails : {X E : Type 0} (r : Result X E) (a b : Option (List ℕ)) (s t : List ℕ) → IsErr r → PutsBeginning a b s → Puts r a b (s ++ t)
first_fails r a b s t e p = puts_err r a b (s ++ t) e (begins_more a b s t p)

-- a number and a byte behind it
abbrev pub word : ℕ → ℕ → List ℕ
word n x = decimal n ++ x ∷ []

pub gate_is : (g : Gate) → word g.lhs.0 32 ++ (word g.rhs0.0 32 ++ word g.rhs1.0 10) ≡ gate_line g
gate_is g = simp append_assoc

-- what follows a latch's literal
abbrev pub latch_rest : Latch → List ℕ
latch_rest l = if l.reset.0 == 0 then word l.next.0 10 else (word l.next.0 32 ++ word l.reset.0 10)

pub latch_is : (l : Latch) → word l.lit.0 32 ++ latch_rest l ≡ latch_line l
latch_is l = elim (cases_Bool (eqb l.reset.0 0)) [
  | inl y ↦ rw y (simp append_assoc)
  | inr n ↦ rw n (simp append_assoc)
]

pub short_is : (l : Latch) → l.reset.0 ≡ 0 → word l.next.0 10 ≡ latch_rest l
short_is l zero = rw zero refl

pub long_is : (l : Latch) → l.reset.0 ≢ 0 → word l.next.0 32 ++ word l.reset.0 10 ≡ latch_rest l
long_is l some = elim (cases_Bool (eqb l.reset.0 0)) [
  | inl y ↦ absurd (some (eqb-true l.reset.0 0 y))
  | inr n ↦ rw n refl
]

pub symbol_is : (s : Symbol) → (letter_of s.kind ∷ []) ++ (word s.position 32 ++ (s.name ++ 10 ∷ [])) ≡ symbol_line s
symbol_is s = simp append_assoc

pub count_is : (n : ℕ) → (32 ∷ []) ++ (decimal n ++ []) ≡ spaced n
count_is n = ap (λ (w : List ℕ). 32 ∷ w) (append-nil (decimal n))

-- ---- the header

abbrev pub four_counts : Parts → List ℕ
four_counts m = length m.inputs ∷ length m.latches ∷ length m.outputs ∷ length m.gates ∷ []

abbrev pub other_counts : Parts → List ℕ
other_counts m = length m.bad ∷ length m.constraints ∷ length m.justice ∷ length m.fairness ∷ []

regroup : (a d f t : List ℕ) → a ++ ((d ++ []) ++ (f ++ (t ++ 10 ∷ []))) ≡ a ++ d ++ (f ++ t) ++ 10 ∷ []
regroup a d f t = simp (append_assoc, append-nil)

pub header_is : (word : List ℕ) (m : Parts) → word ++ ((decimal m.max_var ++ []) ++ (flat_map spaced (four_counts m) ++ (flat_map spaced (trimmed (other_counts m)) ++ 10 ∷ []))) ≡ header_line word m
header_is word m =
    regroup word (decimal m.max_var) (flat_map spaced (four_counts m)) (flat_map spaced (trimmed (other_counts m)))
    ∙ sym (ap (λ (w : List ℕ). word ++ decimal m.max_var ++ w ++ 10 ∷ []) (flat_map-append spaced (four_counts m) (trimmed (other_counts m))))

-- ---- the lines

-- the lines of the literals of each justice property
abbrev pub justice_lines : List (List Lit) → List ℕ
justice_lines js = flat_map (λ lits. flat_map literal_line lits) js

pub justice_is : (js : List (List Lit)) → justice_lines js ≡ flat_map literal_line (justice_literals js)
justice_is [] = refl
justice_is (j ∷ js) = ap (λ (w : List ℕ). flat_map literal_line j ++ w) (justice_is js) ∙ sym (flat_map-append literal_line j (justice_literals js))

regroup_uses : (a b c d e f : List ℕ) → a ++ (b ++ (c ++ (d ++ (e ++ f)))) ≡ a ++ b ++ c ++ d ++ e ++ f
regroup_uses a b c d e f = simp append_assoc

pub uses_is : (m : Parts) →
    flat_map literal_line m.outputs
    ++ (flat_map literal_line m.bad ++ (flat_map literal_line m.constraints ++ (flat_map size_line m.justice ++ (justice_lines m.justice ++ flat_map literal_line m.fairness))))
    ≡ use_lines m
uses_is m =
    rw (justice_is m.justice)
    (regroup_uses (flat_map literal_line m.outputs) (flat_map literal_line m.bad) (flat_map literal_line m.constraints) (flat_map size_line m.justice) (flat_map literal_line (justice_literals m.justice))
    (flat_map literal_line m.fairness))

regroup_circuit : (h i l a b c d e f g : List ℕ) → h ++ (i ++ (l ++ ((a ++ b ++ c ++ d ++ e ++ f) ++ g))) ≡ h ++ i ++ l ++ a ++ b ++ c ++ d ++ e ++ f ++ g
regroup_circuit h i l a b c d e f g = simp append_assoc

pub circuit_is : (m : Parts) → header_line (codes "aag ") m ++ (flat_map literal_line m.inputs ++ (flat_map latch_line m.latches ++ (use_lines m ++ flat_map gate_line m.gates))) ≡ circuit_text m
circuit_is m =
    regroup_circuit (header_line (codes "aag ") m) (flat_map literal_line m.inputs) (flat_map latch_line m.latches) (flat_map literal_line m.outputs) (flat_map literal_line m.bad) (flat_map literal_line m.constraints)
    (flat_map size_line m.justice) (flat_map literal_line (justice_literals m.justice)) (flat_map literal_line m.fairness) (flat_map gate_line m.gates)

pub file_is : (text : List ℕ) (symbols : List Symbol) (comment : Option (List ℕ)) → text ++ (flat_map symbol_line symbols ++ comment_lines comment) ≡ text ++ flat_map symbol_line symbols ++ comment_lines comment
file_is text symbols comment = sym (append_assoc text (flat_map symbol_line symbols) (comment_lines comment))

-- ---- blocks of pieces

-- one more block was put
pub block_next : {A : Type 0} (f : A → List ℕ) (done some later rest items : List A) (a b c : Option (List ℕ)) → done ++ rest ≡ items → some ++ later ≡ rest
    → Appends a b (flat_map f done) → Appends b c (flat_map f some) → ((done ++ some) ++ later ≡ items) × Appends a c (flat_map f (done ++ some))
block_next f done some later rest items a b c whole split p q = (
  append_assoc done some later ∙ ap (λ w. done ++ w) split ∙ whole,
  subst (Appends a c) (sym (flat_map-append f done some)) (Appends-trans a b c (flat_map f done) (flat_map f some) p q),
)

-- a beginning of a block was put behind others
pub block_fails : {A : Type 0} (f : A → List ℕ) (done some later rest items : List A) (a b c : Option (List ℕ)) → done ++ rest ≡ items → some ++ later ≡ rest
    → Appends a b (flat_map f done) → PutsBeginning b c (flat_map f some) → PutsBeginning a c (flat_map f items)
block_fails f done some later rest items a b c whole split p q =
    let is : flat_map f done ++ (flat_map f some ++ flat_map f later) ≡ flat_map f items =
    ap (λ w. flat_map f done ++ w) (sym (flat_map-append f some later)) ∙ sym (flat_map-append f done (some ++ later)) ∙ ap (λ w. flat_map f (done ++ w)) split ∙ ap (flat_map f) whole in
    subst (PutsBeginning a c) is (begins_behind a b c (flat_map f done) (flat_map f some ++ flat_map f later) p (begins_more b c (flat_map f some) (flat_map f later) q))
