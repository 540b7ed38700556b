-- The literals of a line, as a loop reads them.
use Rattle.std.proofs.Common.{◌≡◌, ℕ, suc, ◌-◌, ◌+◌, ◌≤◌, ◌<◌, List, [], ◌∷◌, ◌++◌, Some, None, refl, sym, ◌∙◌, arith}
use Rattle.std.proofs.lemmas.Bool.{eq-eqb, ne_eqb}
use Rattle.scan.specs.declared.fault.Fault.{Fault}
use Rattle.scan.specs.declared.fault.Fault.TheVariants.{Memory, Text}
use Rattle.scan.specs.Bytes.{either}
use Rattle.scan.specs.Reading.{Read, Fails}
use Rattle.scan.specs.Words.{any, word_at}
use Rattle.scan.proofs.Loops.{with_front, regroup}
use Rattle.graph.specs.declared.circuit.Lit.{Lit}
use Rattle.invariant.specs.Reading.{literals_at}
use Rattle.invariant.proofs.ClauseLaws.{lit}

-- a number and the byte behind it
abbrev pub next_at : List ℕ → Read (ℕ × ℕ)
next_at bytes = word_at 4294967295 any (either 32 10) bytes

pub literals_more : (front : List Lit) (count i n e : ℕ) (bytes after : List ℕ) (total : Read (List Lit)) → i < count → (e ≡ 10 → ⊥) → next_at bytes ≡ Some ((n, e), after)
    → with_front front (literals_at (count - i) bytes) ≡ total → with_front (front ++ lit n ∷ []) (literals_at (count - (i + 1)) after) ≡ total
unfolding literals_at
literals_more front count i n e bytes after total lt more w so_far =
    let k : count - i ≡ suc (count - (i + 1)) = omega arith in
    let step : with_front front (literals_at (count - i) bytes) ≡ with_front (front ++ lit n ∷ []) (literals_at (count - (i + 1)) after) = rw (k, w, ne_eqb e 10 more) (regroup front (lit n) (literals_at (count - (i + 1)) after)) in
    sym step ∙ so_far

pub literals_stop : (front : List Lit) (count i n e : ℕ) (bytes after : List ℕ) (total : Read (List Lit)) → i < count → e ≡ 10 → next_at bytes ≡ Some ((n, e), after)
    → with_front front (literals_at (count - i) bytes) ≡ total → total ≡ Some (front ++ lit n ∷ [], after)
unfolding literals_at
literals_stop front count i n e bytes after total lt end w so_far =
    let k : count - i ≡ suc (count - (i + 1)) = omega arith in
    let step : with_front front (literals_at (count - i) bytes) ≡ Some (front ++ lit n ∷ [], after) = rw (k, w, eq-eqb e 10 end) refl in
    sym so_far ∙ step

pub literals_fail : {K : Type 0} (f : Fault K) (front : List Lit) (count i : ℕ) (bytes : List ℕ) (total : Read (List Lit)) → i < count → Fails f (next_at bytes)
    → with_front front (literals_at (count - i) bytes) ≡ total → Fails f total
unfolding literals_at
literals_fail (Memory refused) front count i bytes total lt w so_far = tt
literals_fail (Text kind left) front count i bytes total lt w so_far =
    let k : count - i ≡ suc (count - (i + 1)) = omega arith in
    let step : with_front front (literals_at (count - i) bytes) ≡ None = rw (k, w) refl in
    sym so_far ∙ step

pub literals_over : (front : List Lit) (count i : ℕ) (bytes : List ℕ) (total : Read (List Lit)) → count ≤ i
    → with_front front (literals_at (count - i) bytes) ≡ total → total ≡ None
unfolding literals_at
literals_over front count i bytes total le so_far =
    let k : count - i ≡ 0 = omega arith in
    let step : with_front front (literals_at (count - i) bytes) ≡ None = rw k refl in
    sym so_far ∙ step
