-- Clauses with the ids 1, 2 and so on.
use Rattle.std.proofs.Common.{◌≡◌, ℕ, zero, suc, pos, negsuc, ◌+◌, ◌<◌, ◌≤◌, ◌≢◌, Bool, true, false, cond, List, [], ◌∷◌, ◌++◌, length, take, get_or, All, Option, None, Some, IsSome, is_some, ℤ, refl, ◌∙◌, ap, subst, arith, add-one}
use Rattle.std.proofs.Math.Seq.{take-suc}
use Rattle.std.proofs.lemmas.List.Elements.{All-push}
use Rattle.std.proofs.lemmas.List.{length-take-le, length-map, map-append}
use Rattle.lrat.specs.Shared.{unit_clauses}
use Rattle.std.specs.FinMap.{nat_cmp-IsAntisymmetric}
use Rattle.std.specs.declared.cmp.Ordering.TheVariants.{Less, Equal, Greater}
use Rattle.std.specs.FinMap as fin
use Rattle.std.specs.Ordering.{nat_cmp, eq_by_cmp, is_eq}
use Rattle.std.specs.Cmp.{nat_cmp_total}
use Rattle.lrat.specs.Store.{ById}
use Rattle.lrat.specs.Limits.{IsHint}
use Rattle.lrat.specs.Stages.{TakesOut, IsPositive}
use Rattle.lrat.specs.Proofs.{numbered_from}
use lib.Signed.{lt_z}

pub take_next : {A : Type 0} (xs : List A) (i : ℕ) (d : A) → i < length xs → take (i + 1) xs ≡ take i xs ++ get_or xs i d ∷ []
take_next xs i d h = rw add-one (take-suc xs i d h)

pub numbered_push : (k : ℕ) (cs : List (List ℤ)) (c : List ℤ) (m : ById) → numbered_from k (cs ++ c ∷ []) m ≡ fin.insert (numbered_from k cs m) (k + length cs) c
numbered_push k [] c m = ap (λ j. fin.insert m j c) (omega arith)
numbered_push k (d ∷ cs) c m = numbered_push (k + 1) cs c (fin.insert m k d) ∙ ap (λ j. fin.insert (numbered_from (k + 1) cs (fin.insert m k d)) j c) (omega arith)

pub apart_keys : (q k : ℕ) → q ≢ k → eq_by_cmp nat_cmp q k ≡ false
apart_keys q k ne =
    elim (nat_cmp q k) as (λ o. nat_cmp q k ≡ o → is_eq o ≡ false) [
      | Less ↦ λ e. refl
      | Equal ↦ λ e. absurd (ne (nat_cmp-IsAntisymmetric q k e))
      | Greater ↦ λ e. refl
    ] refl

pub get_new : (m : ById) (k q : ℕ) (c : List ℤ) → q ≢ k → fin.get (fin.insert m k c) q ≡ fin.get m q
get_new m k q c ne = fin.get-insert nat_cmp_total m k c q ∙ ap (λ b. cond b (Some c) (fin.get m q)) (apart_keys q k ne)

pub numbered_above : (k : ℕ) (cs : List (List ℤ)) (m : ById) (q : ℕ) → fin.get m q ≡ None → k + length cs ≤ q → fin.get (numbered_from k cs m) q ≡ None
numbered_above k [] m q none le = none
numbered_above k (c ∷ cs) m q none le = numbered_above (k + 1) cs (fin.insert m k c) q (get_new m k q c (omega arith) ∙ none) (omega arith)

pub takes_out_more : (ids : List ℕ) (m n : ById) (id : ℕ) → TakesOut m ids n → IsSome (fin.get n id) → TakesOut m (ids ++ id ∷ []) (fin.remove n id)
takes_out_more [] m n id same here = (subst (λ u. IsSome (fin.get u id)) same here, ap (λ u. fin.remove u id) same)
takes_out_more (i ∷ ids) m n id takes here = (takes.0, takes_out_more ids (fin.remove m i) n id takes.1 here)

pub absent_next : (cs : List (List ℤ)) (i : ℕ) (m : ById) → i < length cs → m ≡ numbered_from 1 (take i cs) fin.empty → fin.get m (i + 1) ≡ None
absent_next cs i m lt same =
    let le : i ≤ length cs = omega arith in
    let len : length (take i cs) ≡ i = length-take-le i cs le in
    rw same (numbered_above 1 (take i cs) fin.empty (i + 1) (fin.get-empty nat_cmp (i + 1)) (omega arith))

pub numbered_next : (cs : List (List ℤ)) (i : ℕ) (m : ById) → i < length cs → m ≡ numbered_from 1 (take i cs) fin.empty → fin.insert m (i + 1) (get_or cs i []) ≡ numbered_from 1 (take (i + 1) cs) fin.empty
numbered_next cs i m lt same =
    let le : i ≤ length cs = omega arith in
    let len : length (take i cs) ≡ i = length-take-le i cs le in
    rw (take_next cs i [] lt, numbered_push 1 (take i cs) (get_or cs i []) fin.empty, same)
    (ap (λ j. fin.insert (numbered_from 1 (take i cs) fin.empty) j (get_or cs i [])) (omega arith))

pub positive_from : (x : ℤ) → IsHint x → lt_z x (pos 0) ≡ false → IsPositive x
positive_from (pos zero) number e = absurd (number.0 refl)
positive_from (pos (suc n)) number e = omega arith
positive_from (negsuc n) number e = cc

cond_none : {A : Type 0} (b : Bool) (x : Option A) → x ≡ None → cond b None x ≡ None
cond_none true x e = refl
cond_none false x e = e

-- a removal adds no id
pub get_removed : (m : ById) (id q : ℕ) → fin.get m q ≡ None → fin.get (fin.remove m id) q ≡ None
get_removed m id q none = fin.get-remove nat_cmp_total m id q ∙ cond_none _ _ none

-- nor an insertion one above the new one
pub unused_next : (m : ById) (top id : ℕ) (c : List ℤ) → top < id → ((q : ℕ) → top < q → fin.get m q ≡ None) → (q : ℕ) → id < q → fin.get (fin.insert m id c) q ≡ None
unused_next m top id c lt unused q above = get_new m id q c (omega arith) ∙ unused q (omega arith)

-- one unit more, under the next id
pub units_next : (us : List ℤ) (i : ℕ) (m n : ById) (top next last : ℕ) → i < length us → n ≡ numbered_from (top + 1) (unit_clauses (take i us)) m → last ≡ top + i → next ≡ last
    → fin.insert n (next + 1) (get_or us i (pos 0) ∷ []) ≡ numbered_from (top + 1) (unit_clauses (take (i + 1) us)) m
units_next us i m n top next last lt same is eq =
    let le : i ≤ length us = omega arith in
    let len : length (unit_clauses (take i us)) ≡ i = length-map (take i us) (λ (l : ℤ). l ∷ []) ∙ length-take-le i us le in
    rw (take_next us i (pos 0) lt, map-append, numbered_push (top + 1) (unit_clauses (take i us)) (get_or us i (pos 0) ∷ []) m, same)
    (ap (λ j. fin.insert (numbered_from (top + 1) (unit_clauses (take i us)) m) j (get_or us i (pos 0) ∷ [])) (omega arith))

pub is_absent : {A : Type 0} (o : Option A) → is_some o ≡ false → o ≡ None
is_absent None e = refl
is_absent (Some x) e = absurd (let f : true ≡ false = e in cc)

-- one element more of which P holds
pub all_next : {A : Type 0} (P : A → Type 0) (xs : List A) (i : ℕ) (d : A) → i < length xs → All P (take i xs) → P (get_or xs i d) → All P (take (i + 1) xs)
all_next P xs i d lt all p = rw (take_next xs i d lt) (All-push P _ _ all p)
