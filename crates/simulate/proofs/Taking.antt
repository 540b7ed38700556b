-- Taking over the next state, latch by latch.
use Rattle.std.proofs.Common.{◌≡◌, ℕ, ◌+◌, ◌<◌, ◌≤◌, ◌*◌, Bool, false, List, ◌++◌, length, map, set, get_or, arith, All, ◌∙◌, sym, below_more, length-set}
use Rattle.std.proofs.lemmas.List.{get_or-map, length-map, ext_get_or}
use Rattle.graph.specs.declared.parts.Parts.{Parts}
use Rattle.graph.specs.WellFormed.{IsWellFormed}
use Rattle.graph.specs.Circuits.{justice_literals}
use Rattle.graph.proofs.Filled.{place-set_same, place-set_other}
use Rattle.graph.proofs.Evaluation.{All-left, All-unmap}

-- the first n values are those that f says
pub record Taken {X : Type 0} (f : X → Bool) (xs : List X) (state : List Bool) (n : ℕ) : Type 0 where
  pub same : (k : ℕ) (d : X) → k < n → get_or state k false ≡ f (get_or xs k d)
  pub long : length state ≡ length xs

pub Taken-more : {X : Type 0} (f : X → Bool) (xs : List X) (state : List Bool) (n : ℕ) (b : Bool) → n < length xs → ((d : X) → b ≡ f (get_or xs n d)) →
    Taken f xs state n → Taken f xs (set state n b) (n + 1)
Taken-more {X} f xs state n b n_in is_b h = record {
  same = λ k d. below_more (λ q. get_or (set state n b) q false ≡ f (get_or xs q d)) n
      (λ q q_in. place-set_other state q n b (λ e. omega (arith, e, q_in)) ∙ h.same q d q_in)
      (place-set_same state n b (omega (arith, h.long)) ∙ is_b d) k;
  long = length-set state n b ∙ h.long;
}

pub Taken-all : {X : Type 0} (f : X → Bool) (xs : List X) (state : List Bool) (n : ℕ) (d : X) → n ≡ length xs → Taken f xs state n → state ≡ map f xs
Taken-all f xs state n d is_n h = ext_get_or false state (map f xs) (h.long ∙ sym (length-map xs f))
    (λ i i_in. let i_x : i < length xs = omega (arith, h.long) in h.same i d (omega arith) ∙ sym (get_or-map f xs i d false i_x))

-- the next literals of a well-formed circuit are in range
pub nexts_in_range : (m : Parts) → IsWellFormed m → All (λ l. l.next.0 ≤ 2 * m.max_var + 1) m.latches
nexts_in_range m h = All-unmap (λ a. a.0 ≤ 2 * m.max_var + 1) (λ l. l.next) m.latches
    (All-left (λ a. a.0 ≤ 2 * m.max_var + 1) (map (λ l. l.next) m.latches) m.outputs
    (All-left (λ a. a.0 ≤ 2 * m.max_var + 1) (map (λ l. l.next) m.latches ++ m.outputs) m.bad
    (All-left (λ a. a.0 ≤ 2 * m.max_var + 1) (map (λ l. l.next) m.latches ++ m.outputs ++ m.bad) m.constraints
    (All-left (λ a. a.0 ≤ 2 * m.max_var + 1) (map (λ l. l.next) m.latches ++ m.outputs ++ m.bad ++ m.constraints) (justice_literals m.justice)
    (All-left (λ a. a.0 ≤ 2 * m.max_var + 1) (map (λ l. l.next) m.latches ++ m.outputs ++ m.bad ++ m.constraints ++ justice_literals m.justice) m.fairness
    (All-left (λ a. a.0 ≤ 2 * m.max_var + 1) (map (λ l. l.next) m.latches ++ m.outputs ++ m.bad ++ m.constraints ++ justice_literals m.justice ++ m.fairness) (map (λ g. g.rhs0) m.gates)
    (All-left (λ a. a.0 ≤ 2 * m.max_var + 1) (map (λ l. l.next) m.latches ++ m.outputs ++ m.bad ++ m.constraints ++ justice_literals m.justice ++ m.fairness ++ map (λ g. g.rhs0) m.gates) (map (λ g. g.rhs1) m.gates) h.used_in_range)))))))
