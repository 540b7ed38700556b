-- Marks that are closed under what their variables depend on.
use Rattle.std.proofs.Common.{◌≡◌, ℕ, ◌+◌, ◌*◌, ◌%◌, ◌<◌, ◌≤◌, ◌==◌, Bool, false, List, [], ◌∷◌, map, length, get_or, All, Contains, None, Some, refl, inl, inr, sym, ◌∙◌, ap, subst, arith, length-append, below_more}
use Rattle.std.proofs.lemmas.Bool.{cases_Bool, false≢true}
use Rattle.std.proofs.lemmas.List.{get_or_append_left, get_or_default}
use Rattle.std.proofs.lemmas.List.Elements.{All-head, All-tail, All-append, All-weaker, Contains-append_left, Contains-append_right}
use Rattle.graph.specs.declared.circuit.Lit.{Lit}
use Rattle.graph.specs.declared.circuit.Latch.{Latch}
use Rattle.graph.specs.declared.parts.Parts.{Parts}
use Rattle.graph.specs.Circuits.{variable, place}
use Rattle.graph.proofs.Evaluation.{All-unmap}
use Rattle.cnf.specs.Clauses.{next_of}
use Rattle.cones.specs.Marks.{IsMarked}
use Rattle.cones.specs.Reach.{Grows}
use Rattle.cuts.specs.declared.cut.Cut.{Cut}
use Rattle.cuts.specs.Cuts.{AreCuts, IsLeaf, cut_at}
use Rattle.unrolling.specs.Cones.{IsVisited, IsClosed}

-- what is visited stays so
visited_later : (m : Parts) (cuts : List Cut) (t u : List Bool) (v : ℕ) → ((x : ℕ) → IsMarked t x → IsMarked u x) → IsVisited m cuts t v → IsVisited m cuts u v
visited_later m cuts t u v kept h = record {
  leaves = λ x leaf. kept x (h.leaves x leaf);
  next = kept (variable (next_of m.latches (record { 0 = 2 * v }))) h.next;
}

-- what is asked for is marked, all that is marked is listed, and the first n of the list were visited
pub record IsClosing (m : Parts) (cuts : List Cut) (marks : List Bool) (list : List ℕ) (n : ℕ) : Type 0 where
  pub places : length marks ≡ m.max_var + 1
  pub bad : All (λ a. IsMarked marks (variable a)) m.bad
  pub constraints : All (λ a. IsMarked marks (variable a)) m.constraints
  pub listed : (v : ℕ) → IsMarked marks v → Contains list v
  pub only : All (λ v. v < length marks) list
  pub within : n ≤ length list
  pub done : (k : ℕ) → k < n → IsVisited m cuts marks (get_or list k 0)

pub closing_begins : (m : Parts) (cuts : List Cut) (t u x : List Bool) (list longer : List ℕ) → length t ≡ m.max_var + 1 → ((v : ℕ) → place t v ≡ false) → Grows (map variable m.bad) t [] u list →
    Grows (map variable m.constraints) u list x longer → IsClosing m cuts x longer 0
closing_begins m cuts t u x list longer places clear bad constraints = record {
  places = constraints.places ∙ bad.places ∙ places;
  bad = All-unmap (IsMarked x) variable m.bad (All-weaker (IsMarked u) (IsMarked x) constraints.kept (map variable m.bad) bad.marked);
  constraints = All-unmap (IsMarked x) variable m.constraints constraints.marked;
  listed = λ v on. elim (constraints.listed v on) [
    | inl before ↦ elim (bad.listed v before) [
      | inl first ↦ absurd (false≢true (sym (clear v) ∙ first))
      | inr found ↦ subst (λ q. Contains q v) (sym constraints.is) (Contains-append_left list constraints.added v (subst (λ q. Contains q v) (sym bad.is) found))
    ]
    | inr found ↦ subst (λ q. Contains q v) (sym constraints.is) (Contains-append_right list constraints.added v found)
  ];
  only = subst (All (λ v. v < length x)) (sym constraints.is)
      (All-append (λ v. v < length x) list constraints.added
      (subst (All (λ v. v < length x)) (sym bad.is) (λ k d k_in. let h = bad.only k d k_in in omega (arith, h.0, bad.places, constraints.places)))
      (λ k d k_in. let h = constraints.only k d k_in in omega (arith, h.0, constraints.places)));
  within = omega arith;
  done = λ k k_in. absurd (omega (arith, k_in));
}

pub closing_more : (m : Parts) (cuts : List Cut) (u x : List Bool) (list longer : List ℕ) (n : ℕ) → IsClosing m cuts u list n → n < length list → Grows [] u list x longer → IsVisited m cuts x (get_or list n 0) →
    IsClosing m cuts x longer (n + 1)
closing_more m cuts u x list longer n h n_in grows visited =
    let same : (k : ℕ) → k < length list → get_or list k 0 ≡ get_or longer k 0 = λ k k_in. sym (ap (λ q. get_or q k 0) grows.is ∙ get_or_append_left list grows.added 0 k k_in) in
    record {
      places = grows.places ∙ h.places;
      bad = All-weaker (λ a. IsMarked u (variable a)) (λ a. IsMarked x (variable a)) (λ a. grows.kept (variable a)) m.bad h.bad;
      constraints = All-weaker (λ a. IsMarked u (variable a)) (λ a. IsMarked x (variable a)) (λ a. grows.kept (variable a)) m.constraints h.constraints;
      listed = λ v on. subst (λ q. Contains q v) (sym grows.is) (elim (grows.listed v on) [
        | inl before ↦ Contains-append_left list grows.added v (h.listed v before)
        | inr found ↦ Contains-append_right list grows.added v found
      ]);
      only = subst (All (λ v. v < length x)) (sym grows.is)
          (All-append (λ v. v < length x) list grows.added (λ k d k_in. let p = h.only k d k_in in omega (arith, p, grows.places)) (λ k d k_in. let p = grows.only k d k_in in omega (arith, p.0, grows.places)));
      within = omega (arith, n_in, ap length grows.is, length-append list grows.added);
      done = below_more _ _
          (λ k k_in. subst (IsVisited m cuts x) (same k (omega (arith, k_in, n_in))) (visited_later m cuts u x (get_or list k 0) grows.kept (h.done k k_in)))
          (subst (IsVisited m cuts x) (same n n_in) visited);
    }

pub closing_ends : (m : Parts) (cuts : List Cut) (marks : List Bool) (list : List ℕ) (n : ℕ) → length list ≤ n → IsClosing m cuts marks list n → IsClosed m cuts marks
closing_ends m cuts marks list n past h = record {
  places = h.places;
  bad = h.bad;
  constraints = h.constraints;
  visited = λ v on.
      let there : Contains list v = h.listed v on in
      subst (IsVisited m cuts marks) (get_or_default list there.0 0 v there.1 ∙ there.2) (h.done there.0 (omega (arith, there.1, past)));
}

-- the next literal is in range
pub even_sign : (a : Lit) → a.0 % 2 ≡ 0 → (a.0 % 2 == 1) ≡ false
even_sign a even = rw even refl

pub next_range : (n : ℕ) (ls : List Latch) (a : Lit) → All (λ l. l.next.0 ≤ n) ls → a.0 ≤ n → a.0 % 2 ≡ 0 → (next_of ls a).0 ≤ n
next_range n [] a all a_in even = a_in
next_range n (l ∷ ls) a all a_in even = elim (cases_Bool (variable l.lit == variable a)) [
  | inl same ↦ rw (same, even_sign a even) (All-head (λ (x : Latch). x.next.0 ≤ n) l ls all)
  | inr other ↦ rw other (next_range n ls a (All-tail (λ (x : Latch). x.next.0 ≤ n) l ls all) a_in even)
]

-- what a variable depends on
pub visited_leaves : (m : Parts) (cuts : List Cut) (marks : List Bool) (v : ℕ) (c : Cut) → c ≡ cut_at cuts v → IsMarked marks c.leaves.0 → IsMarked marks c.leaves.1 → IsMarked marks c.leaves.2 →
    IsMarked marks c.leaves.3 → IsMarked marks (variable (next_of m.latches (record { 0 = 2 * v }))) → IsVisited m cuts marks v
visited_leaves m cuts marks v c is on0 on1 on2 on3 next = record {
  leaves = λ u leaf. elim (subst (λ (q : Cut). IsLeaf q u) (sym is) leaf) [
    | inl first ↦ subst (IsMarked marks) first on0
    | inr (inl second) ↦ subst (IsMarked marks) second on1
    | inr (inr (inl third)) ↦ subst (IsMarked marks) third on2
    | inr (inr (inr fourth)) ↦ subst (IsMarked marks) fourth on3
  ];
  next = next;
}

pub leaves_range : (m : Parts) (cuts : List Cut) (v n : ℕ) → AreCuts m cuts → v < n → n ≡ m.max_var + 1 →
    ((cut_at cuts v).leaves.0 < n) × ((cut_at cuts v).leaves.1 < n) × ((cut_at cuts v).leaves.2 < n) × ((cut_at cuts v).leaves.3 < n)
leaves_range m cuts v n are v_in n_is =
    let range : (u : ℕ) → IsLeaf (cut_at cuts v) u → u < n = λ u leaf. (let h = are.range v u (omega (arith, v_in, n_is)) leaf in omega (arith, h, n_is)) in
    (range _ (inl refl), range _ (inr (inl refl)), range _ (inr (inr (inl refl))), range _ (inr (inr (inr refl))))

pub no_some : {X : Type 0} (x : X) → None ≡ Some x → ⊥
no_some x e = cc
