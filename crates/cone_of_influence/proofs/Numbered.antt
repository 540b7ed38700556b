-- Numbering the variables that are kept.
use Rattle.std.proofs.Common.{◌≡◌, ℕ, ◌+◌, ◌<◌, ◌≤◌, Bool, true, false, List, [], ◌∷◌, ◌++◌, length, replicate, set, inl, inr, refl, sym, ◌∙◌, ap, subst, arith, length-append, get_or-set_same, get_or-set_other}
use Rattle.std.proofs.lemmas.Bool.{cases_lt, false≢true}
use Rattle.std.proofs.lemmas.List.{get_or_append_left, get_or_push}
use Rattle.std.proofs.lemmas.List.Elements.{All-replicate, All-set, All-push}
use Rattle.graph.specs.Circuits.{place}
use Rattle.cones.specs.Marks.{IsMarked}
use Rattle.cone_of_influence.specs.Numbers.{entry, IsSmall, AreNumbersTo}

pub numbered_none : (marks : List Bool) (numbers : List ℕ) → AreNumbersTo marks [] numbers 0
numbered_none marks numbers = record {
  there = λ v v_in on. absurd (omega (arith, v_in));
  back = λ k k_in. absurd (omega (arith, k_in));
  increasing = λ j k before k_in. absurd (omega (arith, k_in));
}

-- one variable more, which is not marked
pub numbered_left : (marks : List Bool) (kept numbers : List ℕ) (n : ℕ) → place marks n ≡ false → AreNumbersTo marks kept numbers n → AreNumbersTo marks kept numbers (n + 1)
numbered_left marks kept numbers n off h = record {
  there = λ v v_in on. elim (cases_lt v n) [
    | inl below ↦ h.there v below on
    | inr top ↦ let is : v ≡ n = omega (arith, v_in, top) in absurd (false≢true (sym off ∙ ap (place marks) (sym is) ∙ on))
  ];
  back = λ k k_in. let b = h.back k k_in in (let below = b.0 in omega (arith, below), b.1, b.2);
  increasing = h.increasing;
}

-- one variable more, which is marked
pub numbered_taken : (marks : List Bool) (kept numbers : List ℕ) (n : ℕ) → n < length numbers → place marks n ≡ true → AreNumbersTo marks kept numbers n →
    AreNumbersTo marks (kept ++ n ∷ []) (set numbers n (length kept)) (n + 1)
numbered_taken marks kept numbers n n_in on h =
    let more : List ℕ = kept ++ n ∷ [] in
    let table : List ℕ = set numbers n (length kept) in
    let long : length more ≡ length kept + 1 = length-append kept (n ∷ []) in
    let here : entry table n ≡ length kept = get_or-set_same numbers n (length kept) 0 n_in in
    let last : entry more (length kept) ≡ n = get_or_push kept n 0 (length kept) refl in
    let old : (k : ℕ) → k < length kept → entry more k ≡ entry kept k = λ k k_in. get_or_append_left kept (n ∷ []) 0 k k_in in
    let other : (v : ℕ) → v < n → entry table v ≡ entry numbers v = λ v v_in. get_or-set_other numbers n v (length kept) 0 (λ e. omega (arith, e, v_in)) in
    record {
      there = λ v v_in marked. elim (cases_lt v n) [
        | inl below ↦
            let t = h.there v below marked in
            let inside = t.0 in
            subst (λ k. (k < length more) × (entry more k ≡ v)) (sym (other v below)) (omega (arith, inside, long), old (entry numbers v) t.0 ∙ t.1)
        | inr top ↦
            let is : v ≡ n = omega (arith, v_in, top) in
            subst (λ u. (entry table u < length more) × (entry more (entry table u) ≡ u)) (sym is)
            (subst (λ k. (k < length more) × (entry more k ≡ n)) (sym here) (omega (arith, long), last))
      ];
      back = λ k k_in. elim (cases_lt k (length kept)) [
        | inl below ↦
            let b = h.back k below in
            let less = b.0 in
            subst (λ v. (v < n + 1) × IsMarked marks v × (entry table v ≡ k)) (sym (old k below)) (omega (arith, less), b.1, other (entry kept k) b.0 ∙ b.2)
        | inr top ↦
            let is : k ≡ length kept = omega (arith, k_in, top, long) in
            let at : entry more k ≡ n = ap (entry more) is ∙ last in
            subst (λ v. (v < n + 1) × IsMarked marks v × (entry table v ≡ k)) (sym at) (omega arith, on, here ∙ sym is)
      ];
      increasing = λ j k before k_in. elim (cases_lt k (length kept)) [
        | inl below ↦
            let first : entry more j ≡ entry kept j = old j (omega (arith, before, below)) in
            let less = h.increasing j k before below in
            omega (arith, first, old k below, less)
        | inr top ↦
            let is : k ≡ length kept = omega (arith, k_in, top, long) in
            let inside : j < length kept = omega (arith, before, is) in
            let at : entry more k ≡ n = ap (entry more) is ∙ last in
            let b = h.back j inside in
            let less = b.0 in
            omega (arith, old j inside, at, less)
      ];
    }

-- the constant stays
pub zero_number : (marks : List Bool) (kept numbers : List ℕ) (n : ℕ) → AreNumbersTo marks kept numbers n → 0 < n → IsMarked marks 0 → entry numbers 0 ≡ 0
zero_number marks kept numbers n h some on =
    let t = h.there 0 some on in
    elim (cases_lt 0 (entry numbers 0)) [
      | inl later ↦ absurd (let less = h.increasing 0 (entry numbers 0) later t.0 in let at = t.1 in omega (arith, less, at))
      | inr none ↦ omega (arith, none)
    ]

pub zero_kept : (marks : List Bool) (kept numbers : List ℕ) (n : ℕ) → AreNumbersTo marks kept numbers n → 0 < n → IsMarked marks 0 → (0 < length kept) × (entry kept 0 ≡ 0)
zero_kept marks kept numbers n h some on =
    let t = h.there 0 some on in
    let inside = t.0 in
    (omega (arith, inside), ap (entry kept) (sym (zero_number marks kept numbers n h some on)) ∙ t.1)

-- ---- each entry is a variable

pub small_none : (n : ℕ) → IsSmall (replicate n 0)
small_none n = All-replicate (λ v. v ≤ 4194303) n 0 (omega arith)

pub small_set : (table : List ℕ) (i v : ℕ) → v ≤ 4194303 → IsSmall table → IsSmall (set table i v)
small_set table i v low all = All-set (λ u. u ≤ 4194303) table i v low all

pub small_more : (table : List ℕ) (v : ℕ) → v ≤ 4194303 → IsSmall table → IsSmall (table ++ v ∷ [])
small_more table v low all = All-push (λ u. u ≤ 4194303) table v all low
