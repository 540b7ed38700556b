-- First values, latch after latch.
use Rattle.std.proofs.Common.{ℕ, ◌+◌, ◌<◌, List, length, set, get_or, arith, below_more}
use Rattle.std.proofs.lemmas.List.{map-set, length-map}
use Rattle.graph.specs.declared.circuit.Latch.{Latch}
use Rattle.graph.proofs.Filled.{place-set_same, place-set_other}
use Rattle.simulate.specs.Starts.{IsFine, IsFineAt}
use Rattle.simulate.specs.Lanes.{value_in, row_of}

-- in every run the first n latches have values that their resets allow
abbrev pub StartsUpTo : List Latch → List (List ℕ) → ℕ → Type 0
StartsUpTo latches first n = (r k : ℕ) → r < 256 → k < n → IsFineAt latches (row_of r first) k

pub starts_more : (latches : List Latch) (first : List (List ℕ)) (n : ℕ) (x : List ℕ) → n < length first →
    ((r : ℕ) (d : Latch) → r < 256 → IsFine (get_or latches n d) (value_in x r)) →
    StartsUpTo latches first n → StartsUpTo latches (set first n x) (n + 1)
starts_more latches first n x n_in fine h r k r_in = below_more (λ q. IsFineAt latches (row_of r (set first n x)) q) n
    (λ q q_in d. rw (map-set (λ y. value_in y r) first n x, place-set_other (row_of r first) q n (value_in x r) (λ e. omega (arith, e, q_in))) (h r q r_in q_in d))
    (λ d. rw (map-set (λ y. value_in y r) first n x, place-set_same (row_of r first) n (value_in x r) (omega (arith, n_in, length-map first (λ y. value_in y r)))) (fine r d r_in))
    k
