-- Maps of clauses by their ids.
use Rattle.std.proofs.Common.{◌≡◌, ℕ, Bool, true, false, cond, List, Option, None, ℤ, refl, sym, ◌∙◌, ap}
use Rattle.std.specs.declared.cmp.Ordering.TheVariants.{Less, Equal, Greater}
use Rattle.std.specs.Ordering.{nat_cmp, eq_by_cmp, is_eq}
use Rattle.std.specs.Cmp.{nat_cmp_total, eq_by_cmp_equiv}
use Rattle.std.specs.FinMap as fin
use Rattle.std.specs.FinMap.{nat_cmp-IsAntisymmetric}
use Rattle.lrat.specs.Store.{ById}

pub same_key : (q k : ℕ) → eq_by_cmp nat_cmp q k ≡ true → q ≡ k
same_key q k =
    elim (nat_cmp q k) as (λ o. nat_cmp q k ≡ o → is_eq o ≡ true → q ≡ k) [
      | Less ↦ λ e f. absurd (let g : false ≡ true = f in cc)
      | Equal ↦ λ e f. nat_cmp-IsAntisymmetric q k e
      | Greater ↦ λ e f. absurd (let g : false ≡ true = f in cc)
    ] refl

pub own_key : (q : ℕ) → eq_by_cmp nat_cmp q q ≡ true
own_key q = (eq_by_cmp_equiv nat_cmp_total).refl q

pub same_maps : (m n : ById) → ((q : ℕ) → fin.get m q ≡ fin.get n q) → m ≡ n
same_maps m n h = fin.same_map nat_cmp_total nat_cmp-IsAntisymmetric m n h

absent_too : (e : Bool) (y : Option (List ℤ)) → (e ≡ true → y ≡ None) → cond e None y ≡ y
absent_too true y h = sym (h refl)
absent_too false y h = refl

-- nothing changes where an absent id is taken out
pub remove_absent : (m : ById) (id : ℕ) → fin.get m id ≡ None → fin.remove m id ≡ m
remove_absent m id none = same_maps _ _ (λ q.
    fin.get-remove nat_cmp_total m id q ∙ absent_too (eq_by_cmp nat_cmp q id) (fin.get m q) (λ e. ap (fin.get m) (same_key q id e) ∙ none))
