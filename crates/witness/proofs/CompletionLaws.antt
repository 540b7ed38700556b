-- Completed rows, row by row.
use Rattle.std.proofs.Common.{◌≡◌, ℕ, zero, suc, ◌+◌, ◌<◌, Bool, List, [], ◌∷◌, ◌++◌, length, map, take, get_or, Option, None, Some, refl, sym, ap, arith}
use Rattle.std.specs.Prelude.{slice_get}
use Rattle.std.proofs.lemmas.List.{take_more, length-take-le}
use Rattle.graph.specs.declared.circuit.Latch.{Latch}
use Rattle.witness.specs.Completions.{Keeps, Completes, CompleteFirst, completion, reset_at, reset_or, value_or}

-- a value in place of one that may be given keeps it
keeps_given : (other : Bool) (given : Option Bool) → Keeps given (value_or other given)
keeps_given other None = tt
keeps_given other (Some value) = refl

pub completion_completes : (latches : List Latch) (other : Bool) (row : List (Option Bool)) → Completes row (completion latches other row)
completion_completes latches other [] = tt
completion_completes [] other (given ∷ row) = (keeps_given other given, completion_completes [] other row)
completion_completes (l ∷ latches) other (given ∷ row) = (keeps_given (reset_or other l) given, completion_completes latches other row)

pub completions_complete : (other : Bool) (rows : List (List (Option Bool))) → CompleteFirst rows (map (completion [] other) rows)
completions_complete other [] = tt
completions_complete other (row ∷ rows) = (completion_completes [] other row, completions_complete other rows)

-- one value more that keeps what is given
pub completes_more : (row : List (Option Bool)) (values : List Bool) (given : Option Bool) (value : Bool) → Completes row values → Keeps given value →
    Completes (row ++ given ∷ []) (values ++ value ∷ [])
completes_more [] [] given value h k = (k, tt)
completes_more [] (v ∷ values) given value h k = absurd h
completes_more (g ∷ row) [] given value h k = absurd h
completes_more (g ∷ row) (v ∷ values) given value h k = (h.0, completes_more row values given value h.1 k)

-- one value more
completion_more : (latches : List Latch) (other : Bool) (row : List (Option Bool)) (given : Option Bool) (k : ℕ) → length row ≡ k →
    completion latches other (row ++ given ∷ []) ≡ completion latches other row ++ value_or (reset_at other (slice_get latches k)) given ∷ []
completion_more [] other [] given k e = refl
completion_more (l ∷ latches) other [] given zero e = refl
completion_more (l ∷ latches) other [] given (suc k) e = absurd cc
completion_more [] other (g ∷ row) given zero e = absurd cc
completion_more (l ∷ latches) other (g ∷ row) given zero e = absurd cc
completion_more [] other (g ∷ row) given (suc k) e = ap (λ (vs : List Bool). value_or other g ∷ vs) (completion_more [] other row given k (omega (arith, e)))
completion_more (l ∷ latches) other (g ∷ row) given (suc k) e = ap (λ (vs : List Bool). value_or (reset_or other l) g ∷ vs) (completion_more latches other row given k (omega (arith, e)))

-- the values so far, and the next
pub completion_next : (latches : List Latch) (other : Bool) (row : List (Option Bool)) (values : List Bool) (k : ℕ) (value : Bool) → k < length row → values ≡ completion latches other (take k row) →
    value ≡ value_or (reset_at other (slice_get latches k)) (get_or row k None) → values ++ value ∷ [] ≡ completion latches other (take (k + 1) row)
completion_next latches other row values k value k_in so_far is =
    let long : length (take k row) ≡ k = length-take-le k row (omega (arith, k_in)) in
    rw (so_far, is, take_more row k None k_in) (sym (completion_more latches other (take k row) (get_or row k None) k long))

-- the first lines
pub complete_cut : (rows : List (List (Option Bool))) (lines : List (List Bool)) (n : ℕ) → CompleteFirst rows lines → CompleteFirst rows (take n lines)
complete_cut rows [] zero h = tt
complete_cut rows [] (suc n) h = tt
complete_cut [] (l ∷ lines) n h = absurd h
complete_cut (r ∷ rows) (l ∷ lines) zero h = tt
complete_cut (r ∷ rows) (l ∷ lines) (suc n) h = (h.0, complete_cut rows lines n h.1)
