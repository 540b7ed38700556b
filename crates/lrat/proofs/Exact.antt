-- A refused proof is not accepted.
use Rattle.std.proofs.Common.{◌≡◌, ℕ, ◌+◌, ◌<◌, true, false, List, [], ◌∷◌, ◌++◌, length, take, drop, get_or, IsSome, is_some, ℤ, pos, negsuc, zero, suc, sym, ◌∙◌, ap, subst, arith, add-one}
use Rattle.std.proofs.Math.Seq.{drop-cons}
use Rattle.std.proofs.lemmas.List.{take-append-drop}
use Rattle.std.specs.FinMap as fin
use Rattle.lrat.specs.Store.{ById}
use Rattle.lrat.specs.Stages.{Stage, TakesOut, Goes, GoAlong, IsPositive}
use Rattle.lrat.specs.declared.line.Line.{Line}
use Rattle.lrat.specs.declared.line.Line.TheVariants.{Add, Delete}
use lib.Signed.{lt_z}

pub parts_at : {A : Type 0} (xs : List A) (i : ℕ) (d : A) → i < length xs → xs ≡ take i xs ++ get_or xs i d ∷ drop (i + 1) xs
parts_at xs i d h = sym (take-append-drop i xs) ∙ ap (λ u. take i xs ++ u) (rw add-one (drop-cons xs i d h))

pub not_positive : (x : ℤ) → lt_z x (pos 0) ≡ true → IsPositive x → ⊥
not_positive (pos zero) e p = omega arith
not_positive (pos (suc n)) e p = grind arith
not_positive (negsuc n) e p = p

pub takes_next : (ids : List ℕ) (id : ℕ) (rest : List ℕ) (m n k : ById) → TakesOut m ids k → TakesOut m (ids ++ id ∷ rest) n → IsSome (fin.get k id)
takes_next [] id rest m n k same takes = subst (λ u. IsSome (fin.get u id)) (sym same) takes.0
takes_next (i ∷ ids) id rest m n k p takes = takes_next ids id rest (fin.remove m i) n k p.1 takes.1

pub takes_not : (ids : List ℕ) (i : ℕ) (m n k : ById) → i < length ids → TakesOut m (take i ids) k → fin.contains_key k (get_or ids i 0) ≡ false → TakesOut m ids n → ⊥
takes_not ids i m n k lt p none takes =
    let here : is_some (fin.get k (get_or ids i 0)) ≡ true = takes_next (take i ids) (get_or ids i 0) (drop (i + 1) ids) m n k p (subst (λ us. TakesOut m us n) (parts_at ids i 0 lt) takes) in
    let gone : is_some (fin.get k (get_or ids i 0)) ≡ false = none in
    cc

takes_unique : (ids : List ℕ) (m n k : ById) → TakesOut m ids n → TakesOut m ids k → n ≡ k
takes_unique [] m n k p q = p ∙ sym q
takes_unique (id ∷ ids) m n k p q = takes_unique ids (fin.remove m id) n k p.1 q.1

same_stage : (t u : Stage) → t.present ≡ u.present → t.top ≡ u.top → t.closed ≡ u.closed → t ≡ u
same_stage t u p q r = λ i. record { present = p i; top = q i; closed = r i }

goes_unique : (n : ℕ) (s : Stage) (l : Line) (t u : Stage) → Goes n s l t → Goes n s l u → t ≡ u
goes_unique n s (Add id c hints) t u p q = p.4 ∙ sym q.4
goes_unique n s (Delete id ids) t u p q =
    same_stage t u (takes_unique ids s.present t.present u.present p.3 q.3) (p.1 ∙ sym q.1) (p.2 ∙ sym q.2)

pub along_next_is : (n : ℕ) (ls : List Line) (l : Line) (rest : List Line) (s t w : Stage) → GoAlong n s ls t → GoAlong n s (ls ++ l ∷ rest) w → (u : Stage) × Goes n t l u
along_next_is n [] l rest s t w same along = (along.0, subst (λ r. Goes n r l along.0) (sym same) along.1)
along_next_is n (k ∷ ls) l rest s t w p along =
    along_next_is n ls l rest p.0 t w p.2 (subst (λ r. GoAlong n r (ls ++ l ∷ rest) w) (goes_unique n s k along.0 p.0 along.1 p.1) along.2)

pub along_not : (n : ℕ) (ls : List Line) (i : ℕ) (s t w : Stage) (x : Line) → i < length ls → GoAlong n s (take i ls) t → x ≡ get_or ls i x → ((u : Stage) → Goes n t x u → ⊥) → GoAlong n s ls w → ⊥
along_not n ls i s t w x lt p at none along =
    let r = along_next_is n (take i ls) (get_or ls i x) (drop (i + 1) ls) s t w p (subst (λ us. GoAlong n s us w) (parts_at ls i x lt) along) in
    none r.0 (subst (λ y. Goes n t y r.0) (sym at) r.1)

pub along_unique : (n : ℕ) (ls : List Line) (s t u : Stage) → GoAlong n s ls t → GoAlong n s ls u → t ≡ u
along_unique n [] s t u p q = p ∙ sym q
along_unique n (l ∷ ls) s t u p q = along_unique n ls p.0 t u p.2 (subst (λ r. GoAlong n r ls u) (goes_unique n s l q.0 p.0 q.1 p.1) q.2)
