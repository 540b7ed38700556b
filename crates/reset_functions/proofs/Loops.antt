-- What stands for the latches, latch by latch.
use Rattle.std.proofs.Common.{◌≡◌, ℕ, zero, suc, ◌+◌, ◌<◌, ◌≤◌, List, [], ◌∷◌, ◌++◌, Option, Some, None, length, drop, get_or, arith, ◌∙◌, sym, ap, subst, refl, inl, inr, ◌⊎◌, append_assoc, Result, Ok, Err, IfErr, IsErrAnd}
use Rattle.std.proofs.lemmas.List.{append-nil, at_drop_all, drop_more}
use Rattle.graph.specs.declared.circuit.Lit.{Lit}
use Rattle.graph.specs.declared.circuit.Latch.{Latch}
use Rattle.graph.specs.declared.circuit.Gate.{Gate}
use Rattle.base.specs.Witness.{witness}
use Rattle.graph.specs.declared.error.ReadError.{ReadError}
use Rattle.graph.specs.declared.error.ReadError.TheVariants.{Limit, OutOfMemory}
use Rattle.reset_functions.specs.Made.{head, others, behind, end_of, latch_for, latches_for, gates_for, all_gates_for}

drop_none : (k : ℕ) → drop {A = Option Lit} k [] ≡ []
drop_none zero = refl
drop_none (suc k) = refl

pub others_drop : (xs : List (Option Lit)) (k : ℕ) → others (drop k xs) ≡ drop (k + 1) xs
others_drop [] k = ap others (drop_none k) ∙ sym (drop_none (k + 1))
others_drop (x ∷ xs) zero = refl
others_drop (x ∷ xs) (suc k) = let next : suc k + 1 ≡ suc (k + 1) = omega arith in rw next (others_drop xs k)

pub behind_more : (x : Option Lit) (v : ℕ) → v ≤ behind x v
behind_more None v = omega arith
behind_more (Some x) v = omega arith

pub end_more : (ls : List Latch) (resets : List (Option Lit)) (v : ℕ) → v ≤ end_of ls resets v
end_more [] resets v = omega arith
end_more (l ∷ ls) resets v = omega (arith, behind_more (head resets) v, end_more ls (others resets) (behind (head resets) v))

-- ---- a latch more

pub latches_step : (ls : List Latch) (resets : List (Option Lit)) (k v next : ℕ) (l d : Latch) (x : Option Lit) (xs ys target : List Latch) → k < length ls → l ≡ get_or ls k d → x ≡ head (drop k resets) → next ≡ behind x v →
    ys ≡ xs ++ latch_for l x v ∷ [] → xs ++ latches_for (drop k ls) (drop k resets) v ≡ target → ys ++ latches_for (drop (k + 1) ls) (drop (k + 1) resets) next ≡ target
latches_step ls resets k v next l d x xs ys target k_in is is_reset is_next pushed h =
    let rest : List Latch = latches_for (drop (k + 1) ls) (drop (k + 1) resets) next in
    let split : latches_for (drop k ls) (drop k resets) v ≡ latch_for l x v ∷ rest =
    ap (λ (q : List Latch). latches_for q (drop k resets) v) (drop_more ls k d k_in)
    ∙ rw (others_drop resets k, is, is_next, is_reset) refl in
    ap (λ (q : List Latch). q ++ rest) pushed ∙ append_assoc xs (latch_for l x v ∷ []) rest ∙ ap (λ (q : List Latch). xs ++ q) (sym split) ∙ h

pub gates_step : (first : ℕ) (ls : List Latch) (resets : List (Option Lit)) (k v next : ℕ) (l d : Latch) (x : Option Lit) (xs ys target : List Gate) → k < length ls → l ≡ get_or ls k d → x ≡ head (drop k resets) → next ≡ behind x v →
    ys ≡ xs ++ gates_for first l x v → xs ++ all_gates_for first (drop k ls) (drop k resets) v ≡ target → ys ++ all_gates_for first (drop (k + 1) ls) (drop (k + 1) resets) next ≡ target
gates_step first ls resets k v next l d x xs ys target k_in is is_reset is_next pushed h =
    let rest : List Gate = all_gates_for first (drop (k + 1) ls) (drop (k + 1) resets) next in
    let split : all_gates_for first (drop k ls) (drop k resets) v ≡ gates_for first l x v ++ rest =
    ap (λ (q : List Latch). all_gates_for first q (drop k resets) v) (drop_more ls k d k_in)
    ∙ rw (others_drop resets k, is, is_next, is_reset) refl in
    ap (λ (q : List Gate). q ++ rest) pushed ∙ append_assoc xs (gates_for first l x v) rest ∙ ap (λ (q : List Gate). xs ++ q) (sym split) ∙ h

end_cons : (l : Latch) (ls : List Latch) (resets : List (Option Lit)) (v : ℕ) → end_of (l ∷ ls) resets v ≡ end_of ls (others resets) (behind (head resets) v)
end_cons l ls resets v = refl

pub next_step : (ls : List Latch) (resets : List (Option Lit)) (k v next target : ℕ) (d : Latch) (x : Option Lit) → k < length ls → x ≡ head (drop k resets) → next ≡ behind x v →
    end_of (drop k ls) (drop k resets) v ≡ target → end_of (drop (k + 1) ls) (drop (k + 1) resets) next ≡ target
next_step ls resets k v next target d x k_in is_reset is_next h =
    let split : end_of (drop k ls) (drop k resets) v ≡ end_of (drop (k + 1) ls) (drop (k + 1) resets) next =
    ap (λ (q : List Latch). end_of q (drop k resets) v) (drop_more ls k d k_in) ∙ end_cons (get_or ls k d) (drop (k + 1) ls) (drop k resets) v
    ∙ ap (λ (q : List (Option Lit)). end_of (drop (k + 1) ls) q (behind (head (drop k resets)) v)) (others_drop resets k)
    ∙ ap (λ n. end_of (drop (k + 1) ls) (drop (k + 1) resets) n) (ap (λ (o : Option Lit). behind o v) (sym is_reset) ∙ sym is_next) in
    sym split ∙ h

-- the variables behind one latch are no more than those behind all
pub next_within : (ls : List Latch) (resets : List (Option Lit)) (k v target : ℕ) (d : Latch) (x : Option Lit) → k < length ls → x ≡ head (drop k resets) →
    end_of (drop k ls) (drop k resets) v ≡ target → behind x v ≤ target
next_within ls resets k v target d x k_in is_reset h =
    omega (arith, end_more (drop (k + 1) ls) (drop (k + 1) resets) (behind x v), next_step ls resets k v (behind x v) target d x k_in is_reset refl h)

-- ---- no latch is left

pub latches_last : (ls : List Latch) (resets : List (Option Lit)) (k v : ℕ) (xs target : List Latch) → length ls ≤ k → xs ++ latches_for (drop k ls) (drop k resets) v ≡ target → xs ≡ target
latches_last ls resets k v xs target all h = sym (append-nil xs) ∙ ap (λ (q : List Latch). xs ++ q) (sym (at_drop_all (λ (q : List Latch). latches_for q (drop k resets) v) ls k all)) ∙ h

pub gates_last : (first : ℕ) (ls : List Latch) (resets : List (Option Lit)) (k v : ℕ) (xs target : List Gate) → length ls ≤ k → xs ++ all_gates_for first (drop k ls) (drop k resets) v ≡ target → xs ≡ target
gates_last first ls resets k v xs target all h = sym (append-nil xs) ∙ ap (λ (q : List Gate). xs ++ q) (sym (at_drop_all (λ (q : List Latch). all_gates_for first q (drop k resets) v) ls k all)) ∙ h

pub next_last : (ls : List Latch) (resets : List (Option Lit)) (k v target : ℕ) → length ls ≤ k → end_of (drop k ls) (drop k resets) v ≡ target → v ≡ target
next_last ls resets k v target all h = sym (at_drop_all (λ (q : List Latch). end_of q (drop k resets) v) ls k all) ∙ h

-- ---- the limit

-- memory ran out, or there are too many variables
abbrev pub IsOver : ℕ → ReadError → Type 0
IsOver n e = (e ≡ OutOfMemory witness) ⊎ ((e ≡ Limit 0) × (4194304 < n))

pub over_more : (n more : ℕ) (e : ReadError) → n ≤ more → IsOver n e → IsOver more e
over_more n more e le (inl memory) = inl memory
over_more n more e le (inr limit) = inr (limit.0, omega (arith, limit.1, le))

pub err_at : {A : Type 0} (r : Result A ReadError) (e : ReadError) (P : ReadError → Type 0) → IsErrAnd r (λ x. x ≡ e) → P e → IfErr r P
err_at (Ok a) e P is h = absurd is
err_at (Err x) e P is h = subst P (sym is) h
