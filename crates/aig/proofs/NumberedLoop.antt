-- Reading what defines variables one after the other, as a loop does.
use Rattle.std.proofs.Common.{◌≡◌, ℕ, suc, ◌-◌, ◌+◌, ◌*◌, ◌≤◌, ◌<◌, List, [], ◌∷◌, ◌++◌, Some, None, refl, sym, ap, ◌∙◌, arith}
use Rattle.std.proofs.lemmas.List.{append-nil}
use Rattle.scan.specs.declared.fault.Fault.{Fault}
use Rattle.scan.specs.declared.fault.Fault.TheVariants.{Memory, Text}
use Rattle.scan.specs.Reading.{Read, Fails}
use Rattle.scan.proofs.Loops.{with_front, regroup}
use Rattle.graph.specs.declared.circuit.Lit.{Lit}
use Rattle.aag.specs.Lines.{lit}
use Rattle.aig.specs.Lines.{numbered_at}

pub numbered_more : {A : Type 0} (one : Lit → List ℕ → Read A) (front : List A) (first count i : ℕ) (bytes : List ℕ) (x : A) (after : List ℕ) (total : Read (List A)) → i < count → one (lit (2 * (first + i))) bytes ≡ Some (x, after)
    → with_front front (numbered_at one (first + i) (count - i) bytes) ≡ total → with_front (front ++ x ∷ []) (numbered_at one (first + (i + 1)) (count - (i + 1)) after) ≡ total
unfolding numbered_at
numbered_more one front first count i bytes x after total lt h so_far =
    let k : count - i ≡ suc (count - (i + 1)) = omega arith in
    let next : first + (i + 1) ≡ suc (first + i) = omega arith in
    let step : with_front front (numbered_at one (first + i) (count - i) bytes) ≡ with_front (front ++ x ∷ []) (numbered_at one (suc (first + i)) (count - (i + 1)) after) =
    rw (k, h) (regroup front x (numbered_at one (suc (first + i)) (count - (i + 1)) after)) in
    rw next (sym step ∙ so_far)

pub numbered_fails : {K A : Type 0} (one : Lit → List ℕ → Read A) (e : Fault K) (front : List A) (first count i : ℕ) (bytes : List ℕ) (total : Read (List A)) → i < count → Fails e (one (lit (2 * (first + i))) bytes)
    → with_front front (numbered_at one (first + i) (count - i) bytes) ≡ total → Fails e total
unfolding numbered_at
numbered_fails one (Memory refused) front first count i bytes total lt h so_far = tt
numbered_fails one (Text kind left) front first count i bytes total lt h so_far =
    let k : count - i ≡ suc (count - (i + 1)) = omega arith in
    let step : with_front front (numbered_at one (first + i) (count - i) bytes) ≡ None = rw (k, h) refl in
    sym so_far ∙ step

pub numbered_done : {A : Type 0} (one : Lit → List ℕ → Read A) (front : List A) (first count i : ℕ) (bytes : List ℕ) (total : Read (List A)) → count ≤ i
    → with_front front (numbered_at one (first + i) (count - i) bytes) ≡ total → total ≡ Some (front, bytes)
unfolding numbered_at
numbered_done {A} one front first count i bytes total le so_far =
    let k : count - i ≡ 0 = omega arith in
    let step : with_front front (numbered_at one (first + i) (count - i) bytes) ≡ Some (front, bytes) = rw k (ap (λ (xs : List A). Some (xs, bytes)) (append-nil front)) in
    sym so_far ∙ step
