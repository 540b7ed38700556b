-- Clauses over the latches, none of whose literals is repeated or opposed.
use Rattle.std.proofs.Common.{◌≡◌, ◌≢◌, ℕ, ◌+◌, ◌*◌, ◌<◌, ◌≤◌, ◌↔◌, Bool, true, false, Option, List, [], ◌∷◌, ◌++◌, map, set, length, take, drop, get_or, All, AllPairs, Contains, inl, inr, sym, ◌∙◌, ap, subst, arith, get_or-set_same, get_or-set_other}
use Rattle.std.proofs.lemmas.List.{length-map, length-take-le, map_more, get_or_past}
use Rattle.std.proofs.lemmas.List.Elements.{All-more, All-map, All-nil, All-cons, All-contains, Contains-get_or, Contains-append_left, Contains-push, Contains-push_cases}
use Rattle.std.proofs.lemmas.List.Quantifiers.{all_pairs_push}
use Rattle.std.proofs.lemmas.Bool.{cases_eq, cases_lt, eqb-true}
use Rattle.std.proofs.lemmas.Bool.Decides.{Decides-eqb}
use Rattle.std.proofs.lemmas.Map.Made.{length-le_from_is_member, IsDistinct-from_AllPairs}
use Rattle.std.proofs.lemmas.Map.Views.{list_any-from_Contains, Contains-from_any}
use Rattle.std.specs.Cmp.{nat_eq_equiv}
use Rattle.graph.specs.declared.circuit.Lit.{Lit}
use Rattle.graph.specs.declared.circuit.Latch.{Latch}
use Rattle.graph.specs.declared.parts.Parts.{Parts}
use Rattle.graph.specs.Circuits.{variable}
use Rattle.graph.specs.WellFormed.{IsWellFormed}
use Rattle.cnf.specs.Formulas.{IsInvariant}
use Rattle.cnf.specs.Tables.{IsTableOf, is_latch_in}
use Rattle.cnf.proofs.CaseLaws.{clause_range}
use Rattle.checker2.specs.Accepted.{IsGood}
use Rattle.lrat.proofs.Exact.{parts_at}
use Rattle.checker2.specs.declared.invariant.ClauseFault.{ClauseFault}
use Rattle.checker2.specs.Causes.{IsLatch, IsAmong, IsClauseFault, IsFirstFault}

-- exactly the variables vs are stamped
abbrev pub IsSeen : ℕ → List ℕ → List ℕ → Type 0
IsSeen stamp vs seen = (v : ℕ) → (get_or seen v 0 ≡ stamp) ↔ Contains vs v

pub good_nil : (m : Parts) → IsGood m []
good_nil m = record {
  over = All-nil (IsLatch m);
  apart = λ i j d i_j j_in. omega arith;
}

-- one more literal, of a latch that no literal before it has
pub good_more : (m : Parts) (c : List Lit) (i : ℕ) (d : Lit) → i < length c → IsGood m (take i c) → IsLatch m (get_or c i d) →
    (IsAmong (take i c) (get_or c i d) → ⊥) → IsGood m (take (i + 1) c)
good_more m c i d i_in good latch new_in = record {
  over = All-more (IsLatch m) c i d i_in good.over latch;
  apart = rw (map_more variable c i d i_in) (all_pairs_push (λ u v. u ≢ v) (map variable (take i c)) (variable (get_or c i d)) good.apart
      (λ k e k_in same. new_in (subst (Contains (map variable (take i c))) same (Contains-get_or (map variable (take i c)) k e k_in))));
}

no_member : (v : ℕ) → Contains [] v → ⊥
no_member v (k, k_in, at) = omega arith

-- no variable is stamped yet
pub seen_none : (stamp : ℕ) (seen : List ℕ) → 0 < stamp → All (λ s. s < stamp) seen → IsSeen stamp [] seen
seen_none stamp seen positive below v = elim (cases_lt v (length seen)) [
  | inl inside ↦ (λ at. absurd (let b : get_or seen v 0 < stamp = below v 0 inside in omega arith), λ found. absurd (no_member v found))
  | inr outside ↦ (λ at. absurd (let e : get_or seen v 0 ≡ 0 = get_or_past seen v 0 outside in omega arith), λ found. absurd (no_member v found))
]

-- the stamp of one more variable
pub seen_more : (stamp : ℕ) (vs : List ℕ) (seen : List ℕ) (v : ℕ) → v < length seen → IsSeen stamp vs seen → IsSeen stamp (vs ++ v ∷ []) (set seen v stamp)
seen_more stamp vs seen v v_in is u = elim (cases_eq v u) [
  | inl same ↦
      let at : get_or (set seen v stamp) u 0 ≡ stamp = ap (λ x. get_or (set seen v stamp) x 0) (sym same) ∙ get_or-set_same seen v stamp 0 v_in in
      (λ _. subst (Contains (vs ++ v ∷ [])) same (Contains-push vs v), λ _. at)
  | inr apart ↦
      rw (get_or-set_other seen v u stamp 0 (λ e. apart (sym e))) (
        λ stamped. Contains-append_left vs (v ∷ []) u ((is u).0 stamped),
        λ found. elim (Contains-push_cases vs v u found) [
          | inl old ↦ (is u).1 old
          | inr same ↦ absurd (apart same)
        ],
      )
]

-- the stamp of the next literal's variable
pub seen_next : (stamp : ℕ) (c : List Lit) (i : ℕ) (d : Lit) (seen : List ℕ) (v : ℕ) → i < length c → v ≡ variable (get_or c i d) → v < length seen →
    IsSeen stamp (map variable (take i c)) seen → IsSeen stamp (map variable (take (i + 1) c)) (set seen v stamp)
seen_next stamp c i d seen v i_in same v_in is =
    rw (map_more variable c i d i_in, sym same) (seen_more stamp (map variable (take i c)) seen v v_in is)

-- distinct numbers, each of a list, are no more than it has
distinct_among : (vs us : List ℕ) → AllPairs (λ u v. u ≢ v) vs → All (Contains us) vs → length vs ≤ length us
distinct_among vs us apart among =
    length-le_from_is_member nat_eq_equiv vs us (IsDistinct-from_AllPairs Decides-eqb vs apart)
    (λ q found. list_any-from_Contains nat_eq_equiv q us (All-contains (Contains us) vs q among (Contains-from_any eqb-true q vs found)))

-- a good clause has no more literals than there are latches
good_length : (m : Parts) (c : List Lit) → IsGood m c → length c ≤ length m.latches
good_length m c good =
    let variables : List ℕ = map (λ (l : Latch). variable l.lit) m.latches in
    let few : length (map variable c) ≤ length variables =
    distinct_among (map variable c) variables good.apart (All-map (Contains variables) variable c good.over) in
    omega (arith, length-map c variable, length-map m.latches (λ (l : Latch). variable l.lit))

-- few good clauses are an invariant
pub invariant_from : (m : Parts) (inv : List (List Lit)) → IsWellFormed m → length inv ≤ 4194303 → All (IsGood m) inv → IsInvariant m inv
invariant_from m inv well few good = record {
  clauses = λ k d k_in. record {
    over = (good k d k_in).over;
    short = let latches = well.limits.latches in let short = good_length m (get_or inv k d) (good k d k_in) in omega arith;
  };
  few = few;
}

-- a latch's variable is in the circuit's range
pub latch_in_range : (m : Parts) (a : Lit) → IsWellFormed m → IsLatch m a → variable a ≤ m.max_var
latch_in_range m a well latch =
    let range : a.0 ≤ 2 * m.max_var + 1 = clause_range m (a ∷ []) well (All-cons (IsLatch m) a [] latch (All-nil (IsLatch m))) 0 a (omega arith) in
    omega arith

-- what the table says of a literal's variable
pub is_latch : (m : Parts) (t : List (Option Lit)) (v : ℕ) (a : Lit) (r : Bool) → IsTableOf m.latches t → v ≡ variable a → r ≡ is_latch_in t v → r ≡ true → IsLatch m a
is_latch m t v a r table same is holds = subst (Contains (map (λ (l : Latch). variable l.lit) m.latches)) same ((table.latches v).0 (sym is ∙ holds))

pub is_no_latch : (m : Parts) (t : List (Option Lit)) (v : ℕ) (a : Lit) (r : Bool) → IsTableOf m.latches t → v ≡ variable a → r ≡ is_latch_in t v → r ≡ false → IsLatch m a → ⊥
is_no_latch m t v a r table same is fails latch =
    let holds : is_latch_in t v ≡ true = (table.latches v).1 (subst (Contains (map (λ (l : Latch). variable l.lit) m.latches)) (sym same) latch) in
    let contra : true ≡ false = sym holds ∙ sym is ∙ fails in cc

-- the clause at k is the first that is not good
pub first_fault_at : (m : Parts) (inv : List (List Lit)) (k : ℕ) (x y : List Lit) (e : ClauseFault) → k < length inv → All (IsGood m) (take k inv) → x ≡ get_or inv k x → y ≡ x →
    IsClauseFault m y e → IsFirstFault m inv k e
first_fault_at m inv k x y e k_in good at same faulty = record {
  before = take k inv;
  clause = x;
  after = drop (k + 1) inv;
  are = parts_at inv k x k_in ∙ ap (λ c. take k inv ++ c ∷ drop (k + 1) inv) (sym at);
  place = sym (length-take-le k inv (omega arith));
  good = good;
  faulty = subst (λ c. IsClauseFault m c e) same faulty;
}
