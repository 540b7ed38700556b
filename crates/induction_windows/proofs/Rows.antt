-- Rows of latches, latch by latch.
use Rattle.std.proofs.Common.{◌≡◌, ℕ, suc, ◌+◌, ◌-◌, ◌<◌, List, [], ◌∷◌, ◌++◌, arith, ◌∙◌, sym, ap, append_assoc}
use Rattle.graph.specs.declared.circuit.Lit.{Lit}
use Rattle.induction_windows.specs.Rows.{delayed, row_latches, variable_literal}

pub pushed : {X : Type 0} (xs ys old rest target : List X) (x : X) → ys ≡ xs ++ x ∷ [] → old ≡ x ∷ rest → xs ++ old ≡ target → ys ++ rest ≡ target
pushed xs ys old rest target x is_ys is_old h = ap (λ q. q ++ rest) is_ys ∙ append_assoc xs (x ∷ []) rest ∙ ap (λ q. xs ++ q) (sym is_old) ∙ h

pub row_more : (v n i : ℕ) (a : Lit) → i < n → row_latches (v + i) a (n - i) ≡ delayed (v + i + 1) a ∷ row_latches (v + (i + 1)) (variable_literal (v + i + 1)) (n - (i + 1))
row_more v n i a i_in =
    let k : n - i ≡ suc (n - (i + 1)) = omega (arith, i_in) in
    let e : v + i + 1 ≡ v + (i + 1) = omega arith in
    ap (λ q. row_latches (v + i) a q) k ∙ ap (λ q. delayed (v + i + 1) a ∷ row_latches q (variable_literal (v + i + 1)) (n - (i + 1))) e
