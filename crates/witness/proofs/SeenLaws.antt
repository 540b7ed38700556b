-- States that were seen, in a map.
use Rattle.std.proofs.Common.{◌≡◌, ℕ, ◌<◌, Bool, true, false, List, [], ◌∷◌, ◌++◌, length, length-append, get_or, Option, None, Some, Vec, refl, sym, ap, ◌∙◌, arith, inl, inr}
use Rattle.std.specs.BTreeMap.{BTreeMap, Updates, is_at}
use Rattle.std.specs.Cmp.{bool_cmp_total, eq_by_cmp_equiv}
use Rattle.std.specs.Cmp.Lexicographic.{lists_total, slice_cmp}
use Rattle.std.specs.Map.{AreApart, IsKeyTest, KeepsOthers, lookup}
use Rattle.std.specs.Ordering.{bool_cmp, is_eq}
use Rattle.std.proofs.lemmas.Bool.{cases_Bool, cases_lt, false≢true}
use Rattle.std.proofs.lemmas.List.{get_or_append_left, get_or_push}
use Rattle.std.proofs.lemmas.Option.{same_Some}
use Rattle.witness.specs.Lassos.{HasSeen, IsFirstAt, passed_at}

-- whether two states are the same, as the map compares them
abbrev is_same : List Bool → List Bool → Bool
is_same s q = is_eq (slice_cmp bool_cmp s q)

same_so : (s q : List Bool) → is_same s q ≡ true → s ≡ q
same_so [] [] e = refl
same_so [] (y ∷ q) e = absurd (false≢true e)
same_so (x ∷ s) [] e = absurd (false≢true e)
same_so (true ∷ s) (true ∷ q) e = ap (λ (r : List Bool). true ∷ r) (same_so s q e)
same_so (true ∷ s) (false ∷ q) e = absurd (false≢true e)
same_so (false ∷ s) (true ∷ q) e = absurd (false≢true e)
same_so (false ∷ s) (false ∷ q) e = ap (λ (r : List Bool). false ∷ r) (same_so s q e)

is_itself : (s : List Bool) → is_same s s ≡ true
is_itself [] = refl
is_itself (true ∷ s) = is_itself s
is_itself (false ∷ s) = is_itself s

apart_so : (s q : List Bool) → (s ≡ q → ⊥) → is_same s q ≡ false
apart_so s q other = elim (cases_Bool (is_same s q)) [ inl same ↦ absurd (other (same_so s q same)) | inr apart ↦ apart ]

kept : {K X : Type 0} (eq : K → K → Bool) (test other : K → Bool) (old new : List (K × X)) → KeepsOthers eq test old new → IsKeyTest eq other → AreApart test other → lookup other new ≡ lookup other old
unfolding KeepsOthers
kept eq test other old new h one apart = h other one apart

-- another state than the key's has what it had
other_kept : {Z : Type 0} (m n : BTreeMap (Vec Bool Z) ℕ) (key : Vec Bool Z) (w : Option ℕ) → Updates (λ x y. slice_cmp bool_cmp x.items y.items) m n key w → (s : List Bool) → (s ≡ key.items → ⊥) → passed_at n s ≡ passed_at m s
other_kept m n key w h s other =
    kept _ _ (is_at (λ k. slice_cmp bool_cmp s k.items)) m.entries n.entries h.3
    (λ x y. (eq_by_cmp_equiv (lists_total bool_cmp_total)).congr s x.items y.items)
    (λ k on. apart_so s k.items (λ e. other (e ∙ sym (same_so key.items k.items on))))

-- a state that was seen before
pub seen_found : {Z : Type 0} (m : BTreeMap (Vec Bool Z) ℕ) (states : List (List Bool)) (s : List Bool) (first : ℕ) → HasSeen m states → passed_at m s ≡ Some first →
    HasSeen m (states ++ s ∷ []) × IsFirstAt (states ++ s ∷ []) s first
seen_found m states s first h e =
    let long = length-append states (s ∷ []) in
    let was = h.found s first e in (
      record {
        found = λ q k at.
            let old = h.found q k at in
            (omega (arith, old.0, long), get_or_append_left states (s ∷ []) [] k old.0 ∙ old.1);
        known = λ k k_in. elim (cases_lt k (length states)) [
          | inl early ↦
              let old = h.known k early in
              (old.0, ap (passed_at m) (get_or_append_left states (s ∷ []) [] k early) ∙ old.1, old.2)
          | inr late ↦
              let last : length states ≡ k = omega (arith, k_in, late, long) in
              (first, ap (passed_at m) (get_or_push states s [] k last) ∙ e, omega (arith, was.0, late))
        ];
      },
      record {
        inside = omega (arith, was.0, long);
        here = get_or_append_left states (s ∷ []) [] first was.0 ∙ was.1;
        before = λ k k_in is.
            let k_old : k < length states = omega (arith, k_in, was.0) in
            let old = h.known k k_old in
            let same : old.0 ≡ first = same_Some old.0 first (sym old.1 ∙ (ap (passed_at m) (sym (get_or_append_left states (s ∷ []) [] k k_old) ∙ is) ∙ e)) in
            omega (arith, k_in, old.2, same);
      },
    )

none_some : {A : Type 0} (o : Option A) (x : A) → o ≡ None → o ≡ Some x → ⊥
none_some None x e f = absurd cc
none_some (Some y) x e f = absurd cc

-- a state that is new, and was noted
pub seen_new : {Z : Type 0} (m n : BTreeMap (Vec Bool Z) ℕ) (states : List (List Bool)) (key : Vec Bool Z) (passed : ℕ) → HasSeen m states → length states ≡ passed → passed_at m key.items ≡ None →
    Updates (λ x y. slice_cmp bool_cmp x.items y.items) m n key (Some passed) → HasSeen n (states ++ key.items ∷ []) × IsFirstAt (states ++ key.items ∷ []) key.items passed
seen_new m n states key passed h is none up =
    let s = key.items in
    let long = length-append states (s ∷ []) in
    let pushed : get_or (states ++ s ∷ []) passed [] ≡ s = get_or_push states s [] passed is in
    let new : (k : ℕ) → k < length states → get_or states k [] ≡ s → ⊥ = λ k k_in e.
    let old = h.known k k_in in
    none_some (passed_at m s) old.0 none (ap (passed_at m) (sym e) ∙ old.1) in (
      record {
        found = λ q k at. elim (cases_Bool (is_same q s)) [
          | inl same ↦
              let e : q ≡ s = same_so q s same in
              let is_k : passed ≡ k = same_Some passed k (sym up.1 ∙ (ap (passed_at n) (sym e) ∙ at)) in
              (omega (arith, is, is_k, long), ap (λ (j : ℕ). get_or (states ++ s ∷ []) j []) (sym is_k) ∙ (pushed ∙ sym e))
          | inr apart ↦
              let differs : q ≡ s → ⊥ = λ e. false≢true (sym apart ∙ (ap (λ (x : List Bool). is_same x s) e ∙ is_itself s)) in
              let old = h.found q k (sym (other_kept m n key (Some passed) up q differs) ∙ at) in
              (omega (arith, old.0, long), get_or_append_left states (s ∷ []) [] k old.0 ∙ old.1)
        ];
        known = λ k k_in. elim (cases_lt k (length states)) [
          | inl early ↦
              let old = h.known k early in
              (old.0, ap (passed_at n) (get_or_append_left states (s ∷ []) [] k early) ∙ (other_kept m n key (Some passed) up (get_or states k []) (new k early) ∙ old.1), old.2)
          | inr late ↦
              let last : length states ≡ k = omega (arith, k_in, late, long) in
              (passed, ap (passed_at n) (get_or_push states s [] k last) ∙ up.1, omega (arith, is, late))
        ];
      },
      record {
        inside = omega (arith, is, long);
        here = pushed;
        before = λ k k_in e.
            let k_old : k < length states = omega (arith, k_in, is) in
            new k k_old (sym (get_or_append_left states (s ∷ []) [] k k_old) ∙ e);
      },
    )

-- none was seen
pub seen_none : {Z : Type 0} (m : BTreeMap (Vec Bool Z) ℕ) → m.entries ≡ [] → HasSeen m []
seen_none m empty = record {
  found = λ s k e. absurd (none_some (passed_at m s) k (ap (lookup (is_at (λ key. slice_cmp bool_cmp s key.items))) empty) e);
  known = λ k k_in. absurd (omega (arith, k_in));
}
