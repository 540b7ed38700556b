-- The walk from the last time to the first.
use Rattle.std.proofs.Common.{◌≡◌, ℕ, zero, suc, ◌<◌, ◌+◌, Bool, List, [], ◌∷◌, ◌++◌, length, drop, get_or, Option, refl, arith}
use Rattle.std.specs.Prelude.{reverse}
use Rattle.std.proofs.lemmas.List.{drop_more, reverse-append}
use Rattle.graph.specs.declared.circuit.Lit.{Lit}
use Rattle.graph.specs.declared.parts.Parts.{Parts}
use Rattle.graph.specs.Circuits.{next_state}
use Rattle.witness.specs.Completions.{Completes}
use Rattle.witness.specs.Cleared.{CompleteAll, IsTimeEnough, AreEnough}

pub completes_long : (row : List (Option Bool)) (values : List Bool) → Completes row values → length row ≡ length values
completes_long [] [] h = refl
completes_long [] (v ∷ values) h = absurd h
completes_long (g ∷ row) [] h = absurd h
completes_long (g ∷ row) (v ∷ values) h = let e = completes_long row values h.1 in omega (arith, e)

pub enough_none : (m : Parts) (closing : List (Option Bool)) → AreEnough m [] closing closing []
enough_none m closing st [] [] cs cl course = (tt, cs)
enough_none m closing st [] (w ∷ r) cs cl course = absurd course
enough_none m closing st (line ∷ lines) r cs cl course = absurd cl

-- one time before the others
pub enough_more : (m : Parts) (goal : List Lit) (goals : List (List Lit)) (closing later state row : List (Option Bool)) (rows : List (List (Option Bool))) → IsTimeEnough m goal later state row → AreEnough m goals closing later rows → AreEnough m (goal ∷ goals) closing state (row ∷ rows)
enough_more m goal goals closing later state row rows one others st [] r cs cl course = absurd cl
enough_more m goal goals closing later state row rows one others st (line ∷ lines) [] cs cl course = absurd course
enough_more m goal goals closing later state row rows one others st (line ∷ lines) (w ∷ r) cs cl course =
    let now = one st line w cs cl.0 course.0 in
    let after = others (next_state m w) lines r now.1 cl.1 course.1 in
    ((now.0, after.0), after.1)

-- the times from i on are walked
pub record IsWalked (m : Parts) (states lines : List (List Bool)) (goals : List (List Lit)) (closing : List (Option Bool)) (i : ℕ) (state : List (Option Bool)) (rows : List (List (Option Bool))) : Type 0 where
  pub enough : AreEnough m (drop i goals) closing state (reverse rows)
  pub has_state : Completes state (get_or states i [])
  pub has_rows : CompleteAll (reverse rows) (drop i lines)

pub walked_more : (m : Parts) (states lines : List (List Bool)) (goals : List (List Lit)) (closing later state row : List (Option Bool)) (i : ℕ) (rows : List (List (Option Bool))) → i < length lines → length goals ≡ length lines →
    IsTimeEnough m (get_or goals i []) later state row → Completes state (get_or states i []) → Completes row (get_or lines i []) → IsWalked m states lines goals closing (i + 1) later rows → IsWalked m states lines goals closing i state (rows ++ row ∷ [])
walked_more m states lines goals closing later state row i rows i_in e one has_state has_row h = record {
  enough = rw (reverse-append rows (row ∷ []), drop_more goals i [] (omega (arith, i_in, e))) (enough_more m (get_or goals i []) (drop (i + 1) goals) closing later state row (reverse rows) one h.enough);
  has_state = has_state;
  has_rows = rw (reverse-append rows (row ∷ []), drop_more lines i [] i_in) (has_row, h.has_rows);
}

-- an item that is found is found whatever the default
pub own_at : {A : Type 0} (xs : List A) (i : ℕ) (x d : A) → i < length xs → x ≡ get_or xs i x → x ≡ get_or xs i d
own_at [] i x d i_in e = absurd (omega (arith, i_in))
own_at (y ∷ xs) zero x d i_in e = e
own_at (y ∷ xs) (suc i) x d i_in e = own_at xs i x d (omega (arith, i_in)) e
