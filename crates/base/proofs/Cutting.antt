-- A list that is moved piece by piece.
use Rattle.std.proofs.Common.{◌≡◌, ℕ, ◌-◌, List, ◌++◌, length, take, drop, sym, ap, ◌∙◌, append_assoc, take-append-drop}
use Rattle.std.proofs.lemmas.List.{take_rest}

-- the next n of the rest join what is done
pub done-take : (all done rest : List ℕ) (n : ℕ) → done ++ rest ≡ all →
    (done ++ take n rest) ++ take (length rest - n) (drop n rest) ≡ all
done-take all done rest n whole =
    sym (sym whole ∙ ap (λ l. done ++ l) (sym (take-append-drop n rest)) ∙ sym (append_assoc done (take n rest) (drop n rest))
    ∙ ap (λ l. (done ++ take n rest) ++ l) (sym (take_rest rest n)))
