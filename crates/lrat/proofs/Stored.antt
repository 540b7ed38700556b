-- The clauses by their ids, as a `BTreeMap` stores them.
use Rattle.std.proofs.Common.{◌≡◌, ℕ, Bool, true, false, cond, List, [], ◌∷◌, Option, None, Some, ℤ, All, IfSome, refl, sym, ◌∙◌, ap}
use Rattle.std.specs.BTreeMap as tree
use Rattle.std.specs.BTreeMap.{BTreeMap, is_at, Updates}
use Rattle.std.specs.FinMap as fin
use Rattle.std.specs.Map.{lookup}
use Rattle.std.specs.Ordering.{nat_cmp, eq_by_cmp}
use Rattle.std.specs.Cmp.{nat_cmp_total, eq_by_cmp_equiv}
use Rattle.std.specs.FinMap.{nat_cmp-IsAntisymmetric}
use Rattle.lrat.specs.Literals.{IsLiteral}
use Rattle.lrat.specs.Inside.{HasLiterals}

find-lookup : (es : List (ℕ × List ℤ)) (q : ℕ) → fin.find nat_cmp q es ≡ lookup (is_at (nat_cmp q)) es
find-lookup [] q = refl
find-lookup (e ∷ es) q = ap (cond (is_at (nat_cmp q) e.0) (Some e.1)) (find-lookup es q)

pub get-from_tree : (m : BTreeMap ℕ (List ℤ)) (q : ℕ) → fin.get (fin.from_entries {R = nat_cmp} m.entries) q ≡ tree.get nat_cmp m q
get-from_tree m q = fin.get-from_entries nat_cmp_total m.entries q ∙ find-lookup m.entries q

pub turned : (k q : ℕ) → eq_by_cmp nat_cmp k q ≡ eq_by_cmp nat_cmp q k
turned k q = (eq_by_cmp_equiv nat_cmp_total).symm k q

updated : (m n : BTreeMap ℕ (List ℤ)) (k : ℕ) (w : Option (List ℤ)) → Updates nat_cmp m n k w → (q : ℕ) → fin.get (fin.from_entries {R = nat_cmp} n.entries) q ≡ cond (eq_by_cmp nat_cmp q k) w (fin.get (fin.from_entries {R = nat_cmp} m.entries) q)
updated m n k w up q =
    get-from_tree n q ∙ up.0 q ∙ ap (cond (is_at (nat_cmp k) q) w) (sym (get-from_tree m q))
    ∙ ap (λ b. cond b w (fin.get (fin.from_entries {R = nat_cmp} m.entries) q)) (turned k q)

pub inserted : (m n : BTreeMap ℕ (List ℤ)) (k : ℕ) (v : List ℤ) → Updates nat_cmp m n k (Some v) → fin.from_entries {R = nat_cmp} n.entries ≡ fin.insert (fin.from_entries {R = nat_cmp} m.entries) k v
inserted m n k v up = fin.same_map nat_cmp_total nat_cmp-IsAntisymmetric _ _ (λ q. updated m n k (Some v) up q ∙ sym (fin.get-insert nat_cmp_total _ k v q))

pub removed : (m n : BTreeMap ℕ (List ℤ)) (k : ℕ) → Updates nat_cmp m n k None → fin.from_entries {R = nat_cmp} n.entries ≡ fin.remove (fin.from_entries {R = nat_cmp} m.entries) k
removed m n k up = fin.same_map nat_cmp_total nat_cmp-IsAntisymmetric _ _ (λ q. updated m n k None up q ∙ sym (fin.get-remove nat_cmp_total _ k q))

IfSome-cond : {A : Type 0} (P : A → Type 0) (b : Bool) (x y : Option A) → IfSome x P → IfSome y P → IfSome (cond b x y) P
IfSome-cond P true x y p q = p
IfSome-cond P false x y p q = q

pub literals_updated : (vars : ℕ) (m n : BTreeMap ℕ (List ℤ)) (k : ℕ) (w : Option (List ℤ)) → HasLiterals vars m → IfSome w (λ v. All (IsLiteral vars) v) → Updates nat_cmp m n k w → HasLiterals vars n
literals_updated vars m n k w old new up = λ q. rw (up.0 q) (IfSome-cond (λ v. All (IsLiteral vars) v) _ w _ new (old q))
