-- What values say of the added clauses, and what hints say of assumptions.
use Rattle.std.proofs.Common.{◌≡◌, ◌+◌, ◌<◌, ℕ, zero, suc, Bool, IsTrue, ◌↔◌, List, [], ◌∷◌, length, get_or, slice_index_or, map, All, Contains, Option, None, Some, MatchOption, ℤ, pos, neg_ℤ, refl, sym, subst, arith, true}
use Rattle.std.proofs.lemmas.List.Elements.{All-nil, All-cons, All-contains, Contains-append_right, Contains-get_or}
use Rattle.std.specs.List.Sorted.{IsPermutation}
use Rattle.std.proofs.lemmas.List.Sorted.{Contains-permutation, IsPermutation-sym}
use Rattle.lrat.specs.Literals.{is_true, IsSatisfied, Follows}
use Rattle.lrat.proofs.Sound.{apart}
use Rattle.lrat.proofs.Proper.{denial_of}
use Rattle.solver.specs.Answers.{IsCore}
use Rattle.cdcl_kernel.specs.Kept.{Kept, origin_in, added, added_if, gone, live, live_if}
use Rattle.cdcl_kernel.specs.Known.{Known, IsLearned}
use Rattle.cdcl_kernel.specs.Verdicts.{IsSatisfiedBy, SatisfiesOf, IsUnsatisfied, DeniesAssumed, IsOpposed}
use Rattle.cdcl_kernel.specs.declared.origin.Origin.{Origin}
use Rattle.cdcl_kernel.specs.declared.origin.Origin.TheVariants.{Added, Learned, Removed}

-- ---- the added clauses by their ids

tail_satisfied : (b : List Bool) (o : Origin) (c : List ℤ) (cs : List (List ℤ)) → (o ≡ Added → IsSatisfiedBy b c) → All (IsSatisfiedBy b) cs → All (IsSatisfiedBy b) (added_if o c cs)
tail_satisfied b Added c cs here all = All-cons (IsSatisfiedBy b) c cs (here refl) all
tail_satisfied b Learned c cs here all = all
tail_satisfied b Removed c cs here all = all

found_here : (b : List Bool) (o : Origin) (c : List ℤ) → o ≡ Added → ((d : List ℤ) × (live_if o c ≡ Some d) × IsSatisfiedBy b d) → IsSatisfiedBy b c
found_here b Added c e (d, found, satisfied) = subst (IsSatisfiedBy b) (let f : Some c ≡ Some d = found in cc) satisfied
found_here b Learned c e satisfied = absurd (let f : Learned ≡ Added = e in cc)
found_here b Removed c e satisfied = absurd (let f : Removed ≡ Added = e in cc)

later : (k : Kept) (ks : List Kept) (b : List Bool) → ((q : ℕ) → q < length (k ∷ ks) + 1 → origin_in (k ∷ ks) q ≡ Added → SatisfiesOf (k ∷ ks) b q) → (q : ℕ) → q < length ks + 1 → origin_in ks q ≡ Added → SatisfiesOf ks b q
later k ks b satisfied zero lt e = absurd (let f : Removed ≡ Added = e in cc)
later k ks b satisfied (suc i) lt e = satisfied (suc (suc i)) (omega arith) e

pub all_added : (ks : List Kept) (b : List Bool) → ((q : ℕ) → q < length ks + 1 → origin_in ks q ≡ Added → SatisfiesOf ks b q) → All (IsSatisfiedBy b) (added ks)
all_added [] b satisfied = All-nil (IsSatisfiedBy b)
all_added (k ∷ ks) b satisfied =
    tail_satisfied b k.origin k.clause (added ks) (λ e. found_here b k.origin k.clause e (satisfied 1 (omega arith) e))
    (all_added ks b (later k ks b satisfied))

-- an added clause, and where it is
record AddedAt (k : Kept) (cs : List (List ℤ)) : Type 0 where
  clause : List ℤ
  found : live k ≡ Some clause
  here : Contains cs clause

added_first : (o : Origin) (c : List ℤ) (cs : List (List ℤ)) → o ≡ Added → AddedAt (record { origin = o; clause = c }) (added_if o c cs)
added_first Added c cs e = record { clause = c; found = refl; here = (0, omega arith, refl) }
added_first Learned c cs e = absurd (let f : Learned ≡ Added = e in cc)
added_first Removed c cs e = absurd (let f : Removed ≡ Added = e in cc)

more_added : (o : Origin) (c d : List ℤ) (cs : List (List ℤ)) → Contains cs d → Contains (added_if o c cs) d
more_added Added c d cs at = Contains-append_right (c ∷ []) cs d at
more_added Learned c d cs at = at
more_added Removed c d cs at = at

added_at : (ks : List Kept) (i : ℕ) → (slice_index_or ks i gone).origin ≡ Added → AddedAt (slice_index_or ks i gone) (added ks)
added_at [] i e = absurd (let f : Removed ≡ Added = e in cc)
added_at (k ∷ ks) zero e = added_first k.origin k.clause (added ks) e
added_at (k ∷ ks) (suc i) e =
    let rest = added_at ks i e in
    record { clause = rest.clause; found = rest.found; here = more_added k.origin k.clause rest.clause (added ks) rest.here }

pub unsatisfied_open : (ks : List Kept) (b : List Bool) (id : ℕ) → IsUnsatisfied ks b id → All (IsSatisfiedBy b) (added ks) → ⊥
unsatisfied_open ks b zero u all = let f : Removed ≡ Added = u.is_added in absurd cc
unsatisfied_open ks b (suc i) u all =
    let at = added_at ks i u.is_added in
    u.none (at.clause, at.found, All-contains (IsSatisfiedBy b) (added ks) at.clause all at.here)

-- ---- assumptions

-- a search in the sorted assumptions
pub in_sorted : (assume sorted : List ℤ) (x : ℤ) (b : Bool) → IsPermutation assume sorted → IsTrue b ↔ Contains sorted x → IsTrue b ↔ Contains assume x
in_sorted assume sorted x b p found = (
  λ e. Contains-permutation sorted assume x (IsPermutation-sym assume sorted p) (found.0 e),
  λ at. found.1 (Contains-permutation assume sorted x p at),
)

-- the denial of the literal at an index is among all denials
pub denied_at : (assume c : List ℤ) (i : ℕ) → i < length c → All (Contains assume) (map neg_ℤ c) → Contains assume (neg_ℤ (get_or c i (pos 0)))
denied_at assume c i lt all = All-contains (Contains assume) (map neg_ℤ c) (neg_ℤ (get_or c i (pos 0))) all (denial_of c (get_or c i (pos 0)) (Contains-get_or c i (pos 0) lt))

pub core_from : (cs : List (List ℤ)) (c assume part : List ℤ) → Follows cs c → part ≡ map neg_ℤ c → All (Contains assume) part → IsCore cs assume part
core_from cs c assume part f same assumed = record {
  among = assumed;
  refuted = λ v sat all.
      let found : IsSatisfied v c = f v sat in
      apart v found.0 found.2 (All-contains (λ l. is_true v l ≡ true) part (neg_ℤ found.0) all (subst (λ u. Contains u (neg_ℤ found.0)) (sym same) (denial_of c found.0 found.1)));
}

pub core_opposed : (cs : List (List ℤ)) (assume : List ℤ) (l : ℤ) → IsOpposed assume l → IsCore cs assume (l ∷ neg_ℤ l ∷ [])
core_opposed cs assume l o = record {
  among = All-cons (Contains assume) l (neg_ℤ l ∷ []) o.0 (All-cons (Contains assume) (neg_ℤ l) [] o.1 (All-nil (Contains assume)));
  refuted = λ v sat all. apart v l (all 0 l (omega arith)) (all 1 l (omega arith));
}

pub core_option : (k : Known) (c : List ℤ) (hints : List ℕ) (assume : List ℤ) {X : Type 0} (items : X → List ℤ) (r : Option X) → IsLearned k c hints
    → MatchOption r (All (Contains assume) (map neg_ℤ c) → ⊥) (λ part. items part ≡ map neg_ℤ c)
    → MatchOption r (Unit {0}) (λ part. All (Contains assume) (items part))
    → MatchOption r (DeniesAssumed k c hints assume → ⊥) (λ part. IsCore (added k.kept) assume (items part))
core_option k c hints assume items None learned p q = λ d. p d.assumed
core_option k c hints assume items (Some part) learned p q = core_from (added k.kept) c assume (items part) learned.follows p q
