-- Sizes and properties, read one after the other as a loop does.
use Rattle.std.proofs.Common.{◌≡◌, ℕ, suc, ◌-◌, ◌+◌, ◌≤◌, ◌<◌, List, [], ◌∷◌, ◌++◌, length, get_or, drop, Some, None, refl, sym, ap, ◌∙◌, arith}
use Rattle.std.proofs.lemmas.List.{append-nil, drop_more, drop_all}
use Rattle.scan.specs.declared.fault.Fault.{Fault}
use Rattle.scan.specs.declared.fault.Fault.TheVariants.{Memory, Text}
use Rattle.scan.specs.Reading.{Read, Fails}
use Rattle.scan.specs.Words.{any, field_at}
use Rattle.scan.specs.Lists.{many_at}
use Rattle.scan.proofs.Loops.{with_front, regroup}
use Rattle.graph.specs.declared.circuit.Lit.{Lit}
use Rattle.aag.specs.Lines.{literal_at}
use Rattle.aag.specs.Justice.{sizes_at, properties_at}

-- ---- sizes

pub sizes_more : (front : List ℕ) (room count i : ℕ) (bytes : List ℕ) (size : ℕ) (after : List ℕ) (total : Read (List ℕ)) → i < count → field_at room any 10 bytes ≡ Some (size, after)
    → with_front front (sizes_at room (count - i) bytes) ≡ total → with_front (front ++ size ∷ []) (sizes_at (room - size) (count - (i + 1)) after) ≡ total
unfolding sizes_at
sizes_more front room count i bytes size after total lt h so_far =
    let k : count - i ≡ suc (count - (i + 1)) = omega arith in
    let step : with_front front (sizes_at room (count - i) bytes) ≡ with_front (front ++ size ∷ []) (sizes_at (room - size) (count - (i + 1)) after) = rw (k, h) (regroup front size (sizes_at (room - size) (count - (i + 1)) after)) in
    sym step ∙ so_far

pub sizes_fail : {K : Type 0} (e : Fault K) (front : List ℕ) (room count i : ℕ) (bytes : List ℕ) (total : Read (List ℕ)) → i < count → Fails e (field_at room any 10 bytes)
    → with_front front (sizes_at room (count - i) bytes) ≡ total → Fails e total
unfolding sizes_at
sizes_fail (Memory refused) front room count i bytes total lt h so_far = tt
sizes_fail (Text kind left) front room count i bytes total lt h so_far =
    let k : count - i ≡ suc (count - (i + 1)) = omega arith in
    let step : with_front front (sizes_at room (count - i) bytes) ≡ None = rw (k, h) refl in
    sym so_far ∙ step

pub sizes_done : (front : List ℕ) (room count i : ℕ) (bytes : List ℕ) (total : Read (List ℕ)) → count ≤ i
    → with_front front (sizes_at room (count - i) bytes) ≡ total → total ≡ Some (front, bytes)
unfolding sizes_at
sizes_done front room count i bytes total le so_far =
    let k : count - i ≡ 0 = omega arith in
    let step : with_front front (sizes_at room (count - i) bytes) ≡ Some (front, bytes) = rw k (ap (λ (ns : List ℕ). Some (ns, bytes)) (append-nil front)) in
    sym so_far ∙ step

-- ---- properties

pub properties_more : (front : List (List Lit)) (max : ℕ) (sizes : List ℕ) (i : ℕ) (bytes : List ℕ) (lits : List Lit) (after : List ℕ) (total : Read (List (List Lit))) → i < length sizes
    → many_at (literal_at max any 10) (get_or sizes i 0) bytes ≡ Some (lits, after)
    → with_front front (properties_at max (drop i sizes) bytes) ≡ total → with_front (front ++ lits ∷ []) (properties_at max (drop (i + 1) sizes) after) ≡ total
unfolding properties_at
properties_more front max sizes i bytes lits after total lt h so_far =
    let step : with_front front (properties_at max (drop i sizes) bytes) ≡ with_front (front ++ lits ∷ []) (properties_at max (drop (i + 1) sizes) after) = rw (drop_more sizes i 0 lt, h) (regroup front lits (properties_at max (drop (i + 1) sizes) after)) in
    sym step ∙ so_far

pub properties_fail : {K : Type 0} (e : Fault K) (front : List (List Lit)) (max : ℕ) (sizes : List ℕ) (i : ℕ) (bytes : List ℕ) (total : Read (List (List Lit))) → i < length sizes
    → Fails e (many_at (literal_at max any 10) (get_or sizes i 0) bytes)
    → with_front front (properties_at max (drop i sizes) bytes) ≡ total → Fails e total
unfolding properties_at
properties_fail (Memory refused) front max sizes i bytes total lt h so_far = tt
properties_fail (Text kind left) front max sizes i bytes total lt h so_far =
    let step : with_front front (properties_at max (drop i sizes) bytes) ≡ None = rw (drop_more sizes i 0 lt, h) refl in
    sym so_far ∙ step

pub properties_done : (front : List (List Lit)) (max : ℕ) (sizes : List ℕ) (i : ℕ) (bytes : List ℕ) (total : Read (List (List Lit))) → length sizes ≤ i
    → with_front front (properties_at max (drop i sizes) bytes) ≡ total → total ≡ Some (front, bytes)
unfolding properties_at
properties_done front max sizes i bytes total le so_far =
    let step : with_front front (properties_at max (drop i sizes) bytes) ≡ Some (front, bytes) = rw (drop_all i sizes le) (ap (λ (ns : List (List Lit)). Some (ns, bytes)) (append-nil front)) in
    sym so_far ∙ step
