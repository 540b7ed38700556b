-- Runs by their times.
use Rattle.std.proofs.Common.{◌≡◌, ℕ, zero, suc, ◌+◌, ◌<◌, ◌≤◌, Bool, List, [], ◌∷◌, length, take, arith, sym, subst, get_or-take, length-take-le}
use Rattle.std.proofs.lemmas.List.Elements.{All-take}
use Rattle.graph.specs.declared.parts.Parts.{Parts}
use Rattle.graph.specs.Circuits.{Agrees, IsStep, IsInitial, Steps, StartsInitial, IsRun, at}

pub Steps-at : (m : Parts) (r : List (List Bool)) (t : ℕ) → Steps m r → t + 1 < length r → IsStep m (at r t) (at r (t + 1))
Steps-at m [] t steps inside = absurd (omega arith)
Steps-at m (w ∷ []) t steps inside = absurd (omega arith)
Steps-at m (w ∷ x ∷ r) zero steps inside = steps.0
Steps-at m (w ∷ x ∷ r) (suc t) steps inside = let e : suc t + 1 ≡ suc (t + 1) = omega arith in rw e (Steps-at m (x ∷ r) t steps.1 (omega arith))

pub Steps-from : (m : Parts) (r : List (List Bool)) → ((t : ℕ) → t + 1 < length r → IsStep m (at r t) (at r (t + 1))) → Steps m r
Steps-from m [] h = tt
Steps-from m (w ∷ []) h = tt
Steps-from m (w ∷ x ∷ r) h = (h 0 (omega arith), Steps-from m (x ∷ r) (λ t inside. let e : suc t + 1 ≡ suc (t + 1) = omega arith in rw e at (h (suc t) (omega arith))))

pub Starts-at : (m : Parts) (r : List (List Bool)) → StartsInitial m r → (0 < length r) × IsInitial m (at r 0)
Starts-at m [] h = absurd h
Starts-at m (w ∷ r) h = (omega arith, h)

pub Starts-from : (m : Parts) (r : List (List Bool)) → 0 < length r → IsInitial m (at r 0) → StartsInitial m r
Starts-from m [] some h = omega arith
Starts-from m (w ∷ r) some h = h

pub at-take : (r : List (List Bool)) (n t : ℕ) → t < n → at (take n r) t ≡ at r t
at-take r n t inside = get_or-take n r t [] inside

-- a beginning of a run is a run
pub IsRun-take : (m : Parts) (r : List (List Bool)) (n : ℕ) → 0 < n → n ≤ length r → IsRun m r → IsRun m (take n r)
IsRun-take m r n some inside h =
    let long : length (take n r) ≡ n = length-take-le n r inside in
    record {
      agrees = All-take (Agrees m) n r h.agrees;
      starts = Starts-from m (take n r) (omega arith) (subst (IsInitial m) (sym (at-take r n 0 some)) (Starts-at m r h.starts).1);
      steps = Steps-from m (take n r) (λ t t_in.
          rw (at-take r n t (omega arith), at-take r n (t + 1) (omega arith)) (Steps-at m r t h.steps (omega arith)));
    }
