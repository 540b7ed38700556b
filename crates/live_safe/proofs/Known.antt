-- The shadow circuit is well formed: what it uses is defined, and its gates have no cycle.
use Rattle.std.proofs.Common.{◌≡◌, ℕ, zero, suc, ◌+◌, ◌-◌, ◌*◌, ◌<◌, ◌≤◌, List, [], ◌∷◌, ◌++◌, length, get_or, inl, inr, arith, All, ◌∙◌, sym, ap, subst, length-append}
use Rattle.std.specs.List.{AllByRecursion as Each}
use Rattle.std.proofs.lemmas.Bool.{cases_lt}
use Rattle.std.proofs.lemmas.List.{get_or_append_left, get_or-append-add}
use Rattle.std.proofs.lemmas.List.Elements.{All-from_recursion, All-append, All-cons, All-tail}
use Rattle.graph.specs.declared.circuit.Lit.{Lit}
use Rattle.graph.specs.declared.circuit.Latch.{Latch}
use Rattle.graph.specs.declared.circuit.Gate.{Gate}
use Rattle.graph.specs.declared.parts.Parts.{Parts}
use Rattle.graph.specs.Circuits.{variable, wanted_of}
use Rattle.graph.specs.WellFormed.{Reads, Needs, IsChain, HasNoCycle}
use Rattle.graph.proofs.Gates.{left}
use Rattle.live_safe.specs.Shadow.{positive, negative, negation, joins, cleared, save_of, saved_of, shadow_from, seen_from, start_of, idle_of, copies_from, watches_from, chain_from, copy_gates, shadow_latches, equal_literals, watch_gates, seen_latches, seen_literals, chain_gates, chain_end, chained, new_latches, new_gates, closing_literal, shadow_of}
use Rattle.live_safe.proofs.Values.{variable-negation}
use Rattle.live_safe.proofs.Extension.{AreNext}
use Rattle.live_safe.proofs.Ranges.{AreIn}
use Rattle.live_safe.proofs.Extended.{next_new, length-equal, length-seen}

-- what the new parts use
-- a predicate on variables that holds of all new ones
pub record IsFresh (K : ℕ → Type 0) (low high : ℕ) : Type 0 where
  pub fresh : (v : ℕ) → low ≤ v → v ≤ high → K v

abbrev Knows : (ℕ → Type 0) → Lit → Type 0
Knows K a = K (variable a)

abbrev RightsKnow : (ℕ → Type 0) → Gate → Type 0
RightsKnow K g = K (variable g.rhs0) × K (variable g.rhs1)

knows_new : (K : ℕ → Type 0) (low high v : ℕ) (a : Lit) → IsFresh K low high → variable a ≡ v → low ≤ v → v ≤ high → Knows K a
knows_new K low high v a h is_v v_low v_high = subst K (sym is_v) (h.fresh v v_low v_high)

knows_negation : (K : ℕ → Type 0) (a : Lit) → Knows K a → Knows K (negation a)
knows_negation K a h = subst K (sym (variable-negation a)) h

copies_know : (K : ℕ → Type 0) (low high start : ℕ) (ls : List Latch) (shadow v : ℕ) → IsFresh K low high → low ≤ start → start ≤ high → low ≤ shadow → shadow + length ls ≤ high → low ≤ v →
    v + 6 * length ls ≤ high + 1 → All (λ l. Knows K l.lit) ls → Each (RightsKnow K) (copy_gates start ls shadow v)
copies_know K low high start [] shadow v h start_low start_high shadow_low shadow_high v_low v_high ls_know = tt
copies_know K low high start (l ∷ ls) shadow v h start_low start_high shadow_low shadow_high v_low v_high ls_know =
    let new : (u : ℕ) (a : Lit) → variable a ≡ u → low ≤ u → u ≤ high → Knows K a = λ u a is_u u_low u_high. knows_new K low high u a h is_u u_low u_high in
    let here : Knows K l.lit = ls_know 0 l (omega arith) in
    let there : Knows K (negation l.lit) = knows_negation K l.lit here in (
      (new start (positive start) (omega arith) (omega arith) (omega arith), here),
      (
        (new start (negative start) (omega arith) (omega arith) (omega arith), new shadow (positive shadow) (omega arith) (omega arith) (omega arith)),
        (
          (new v (negative v) (omega arith) (omega arith) (omega arith), new (v + 1) (negative (v + 1)) (omega arith) (omega arith) (omega arith)),
          (
            (here, new shadow (negative shadow) (omega arith) (omega arith) (omega arith)),
            (
              (there, new shadow (positive shadow) (omega arith) (omega arith) (omega arith)),
              (
                (new (v + 3) (negative (v + 3)) (omega arith) (omega arith) (omega arith), new (v + 4) (negative (v + 4)) (omega arith) (omega arith) (omega arith)),
                copies_know K low high start ls (shadow + 1) (v + 6) h start_low start_high (omega arith) (omega arith) (omega arith) (omega arith) (All-tail (λ q. Knows K q.lit) l ls ls_know),
              ),
            ),
          ),
        ),
      ),
    )

watches_know : (K : ℕ → Type 0) (low high idle : ℕ) (qs : List Lit) (seen v : ℕ) → IsFresh K low high → low ≤ idle → idle ≤ high → low ≤ seen → seen + length qs ≤ high → low ≤ v →
    v + 2 * length qs ≤ high + 1 → All (Knows K) qs → Each (RightsKnow K) (watch_gates idle qs seen v)
watches_know K low high idle [] seen v h idle_low idle_high seen_low seen_high v_low v_high qs_know = tt
watches_know K low high idle (q ∷ qs) seen v h idle_low idle_high seen_low seen_high v_low v_high qs_know =
    let new : (u : ℕ) (a : Lit) → variable a ≡ u → low ≤ u → u ≤ high → Knows K a = λ u a is_u u_low u_high. knows_new K low high u a h is_u u_low u_high in (
      (new seen (negative seen) (omega arith) (omega arith) (omega arith), knows_negation K q (qs_know 0 q (omega arith))),
      (
        (new idle (negative idle) (omega arith) (omega arith) (omega arith), new v (negative v) (omega arith) (omega arith) (omega arith)),
        watches_know K low high idle qs (seen + 1) (v + 2) h idle_low idle_high (omega arith) (omega arith) (omega arith) (omega arith) (All-tail (Knows K) q qs qs_know),
      ),
    )

chain_knows : (K : ℕ → Type 0) (low high : ℕ) (rest : List Lit) (first : Lit) (v : ℕ) → IsFresh K low high → Knows K first → All (Knows K) rest → low ≤ v → v + length rest ≤ high + 1 →
    Each (RightsKnow K) (chain_gates rest first v) × Knows K (chain_end rest first v)
chain_knows K low high [] first v h first_knows rest_know v_low v_high = (tt, first_knows)
chain_knows K low high (a ∷ rest) first v h first_knows rest_know v_low v_high =
    let later = chain_knows K low high rest (positive v) (v + 1) h (knows_new K low high v (positive v) h (omega arith) (omega arith) (omega arith)) (All-tail (Knows K) a rest rest_know) (omega arith) (omega arith) in
    (((first_knows, rest_know 0 a (omega arith)), later.0), later.1)

equal_know : (K : ℕ → Type 0) (low high : ℕ) (ls : List Latch) (v : ℕ) → IsFresh K low high → low ≤ v → v + 6 * length ls ≤ high + 1 → Each (Knows K) (equal_literals ls v)
equal_know K low high [] v h v_low v_high = tt
equal_know K low high (l ∷ ls) v h v_low v_high = (
  (knows_new K low high (v + 5) (positive (v + 5)) h (omega arith) (omega arith) (omega arith)),
  equal_know K low high ls (v + 6) h (omega arith) (omega arith),
)

seen_know : (K : ℕ → Type 0) (low high : ℕ) (qs : List Lit) (v : ℕ) → IsFresh K low high → low ≤ v → v + length qs ≤ high + 1 → Each (Knows K) (seen_literals qs v)
seen_know K low high [] v h v_low v_high = tt
seen_know K low high (q ∷ qs) v h v_low v_high = (knows_new K low high v (positive v) h (omega arith) (omega arith) (omega arith), seen_know K low high qs (v + 1) h (omega arith) (omega arith))

shadow_nexts_know : (K : ℕ → Type 0) (low high : ℕ) (ls : List Latch) (shadow v : ℕ) → IsFresh K low high → low ≤ v → v + 6 * length ls ≤ high + 1 → Each (λ l. Knows K l.next) (shadow_latches ls shadow v)
shadow_nexts_know K low high [] shadow v h v_low v_high = tt
shadow_nexts_know K low high (l ∷ ls) shadow v h v_low v_high =
    (knows_new K low high (v + 2) (negative (v + 2)) h (omega arith) (omega arith) (omega arith), shadow_nexts_know K low high ls (shadow + 1) (v + 6) h (omega arith) (omega arith))

seen_nexts_know : (K : ℕ → Type 0) (low high : ℕ) (qs : List Lit) (seen v : ℕ) → IsFresh K low high → low ≤ v → v + 2 * length qs ≤ high + 1 → Each (λ l. Knows K l.next) (seen_latches qs seen v)
seen_nexts_know K low high [] seen v h v_low v_high = tt
seen_nexts_know K low high (q ∷ qs) seen v h v_low v_high =
    (knows_new K low high (v + 1) (positive (v + 1)) h (omega arith) (omega arith) (omega arith), seen_nexts_know K low high qs (seen + 1) (v + 2) h (omega arith) (omega arith))

-- all that the new parts use
pub record NewKnow (K : ℕ → Type 0) (m : Parts) (j : ℕ) : Type 0 where
  pub nexts : All (λ l. K (variable l.next)) (new_latches m j)
  pub rights : All (λ g. K (variable g.rhs0) × K (variable g.rhs1)) (new_gates m j)
  pub bad : K (variable (closing_literal m j))

pub new_know : (K : ℕ → Type 0) (m : Parts) (j : ℕ) → IsFresh K (m.max_var + 1) (shadow_of m j).max_var → All (λ l. K (variable l.lit)) m.latches → All (λ a. K (variable a)) (wanted_of m j) → NewKnow K m j
new_know K m j h latches_know wanted_know =
    let low : ℕ = m.max_var + 1 in
    let high : ℕ = (shadow_of m j).max_var in
    let wanted : List Lit = wanted_of m j in
    let ls : List Latch = m.latches in
    let equal : List Lit = equal_literals ls (copies_from m j) in
    let seen : List Lit = seen_literals wanted (seen_from m) in
    let copy : List Gate = copy_gates (start_of m j) ls (shadow_from m) (copies_from m j) in
    let watch : List Gate = watch_gates (idle_of m j) wanted (seen_from m) (watches_from m j) in
    let links : List Gate = chain_gates (chained m j) (positive (saved_of m)) (chain_from m j) in
    let shadows : List Latch = shadow_latches ls (shadow_from m) (copies_from m j) in
    let seens : List Latch = seen_latches wanted (seen_from m) (watches_from m j) in
    let saved : Knows K (positive (saved_of m)) = knows_new K low high (saved_of m) (positive (saved_of m)) h (omega arith) (omega arith) (omega arith) in
    let not_saved : Knows K (negative (saved_of m)) = knows_new K low high (saved_of m) (negative (saved_of m)) h (omega arith) (omega arith) (omega arith) in
    let chain = chain_knows K low high (chained m j) (positive (saved_of m)) (chain_from m j) h saved
    (All-append (Knows K) equal seen
    (All-from_recursion (Knows K) equal (equal_know K low high ls (copies_from m j) h (omega arith) (omega arith)))
    (All-from_recursion (Knows K) seen (seen_know K low high wanted (seen_from m) h (omega arith) (omega arith))))
    (omega arith) (omega (arith, length-append equal seen, length-equal ls (copies_from m j), length-seen wanted (seen_from m))) in
    record {
      nexts = All-cons (λ l. Knows K l.next) (cleared (saved_of m) (negative (idle_of m j))) (shadows ++ seens)
          (knows_new K low high (idle_of m j) (negative (idle_of m j)) h (omega arith) (omega arith) (omega arith))
          (All-append (λ l. Knows K l.next) shadows seens
          (All-from_recursion (λ l. Knows K l.next) shadows (shadow_nexts_know K low high ls (shadow_from m) (copies_from m j) h (omega arith) (omega arith)))
          (All-from_recursion (λ l. Knows K l.next) seens (seen_nexts_know K low high wanted (seen_from m) (watches_from m j) h (omega arith) (omega arith))));
      rights = All-cons (RightsKnow K) (joins (start_of m j) (positive (save_of m)) (negative (saved_of m))) (joins (idle_of m j) (negative (save_of m)) (negative (saved_of m)) ∷ (copy ++ (watch ++ links)))
          (knows_new K low high (save_of m) (positive (save_of m)) h (omega arith) (omega arith) (omega arith), not_saved)
          (All-cons (RightsKnow K) (joins (idle_of m j) (negative (save_of m)) (negative (saved_of m))) (copy ++ (watch ++ links))
          (knows_new K low high (save_of m) (negative (save_of m)) h (omega arith) (omega arith) (omega arith), not_saved)
          (All-append (RightsKnow K) copy (watch ++ links)
          (All-from_recursion (RightsKnow K) copy (copies_know K low high (start_of m j) ls (shadow_from m) (copies_from m j) h
          (omega arith) (omega arith) (omega arith) (omega arith) (omega arith) (omega arith) latches_know))
          (All-append (RightsKnow K) watch links
          (All-from_recursion (RightsKnow K) watch (watches_know K low high (idle_of m j) wanted (seen_from m) (watches_from m j) h
          (omega arith) (omega arith) (omega arith) (omega arith) (omega arith) (omega arith) wanted_know))
          (All-from_recursion (RightsKnow K) links chain.0))));
      bad = chain.1;
    }

-- no cycle
next_reads : (gs : List Gate) (n k v : ℕ) (d : Gate) → AreNext gs n → k < length gs → Reads (get_or gs k d) v → v < left (get_or gs k d)
next_reads [] n k v d h k_in reads = absurd (omega arith)
next_reads (g ∷ gs) n zero v d (here, rest) k_in reads =
    let e = here.defines in
    elim reads [ inl first ↦ let p = here.left in omega (arith, e, p, first) | inr second ↦ let p = here.right in omega (arith, e, p, second) ]
next_reads (g ∷ gs) n (suc k) v d (here, rest) k_in reads = next_reads gs (n + 1) k v d rest (omega arith) reads

next_left : (gs : List Gate) (n k : ℕ) (d : Gate) → AreNext gs n → k < length gs → n ≤ left (get_or gs k d)
next_left [] n k d h k_in = absurd (omega arith)
next_left (g ∷ gs) n zero d (here, rest) k_in = let e = here.defines in omega (arith, e)
next_left (g ∷ gs) n (suc k) d (here, rest) k_in = let p = next_left gs (n + 1) k d rest (omega arith) in omega (arith, p)

-- an old gate needs what it needed, a new one needs smaller variables
old_needs : (m : Parts) (j u v : ℕ) → AreIn m j → u ≤ m.max_var → Needs (shadow_of m j).gates u v → Needs m.gates u v × (v ≤ m.max_var)
old_needs m j u v h u_old (k, g, k_in, is_g, (is_u, reads)) = elim (cases_lt k (length m.gates)) [
  | inl inside ↦
      let same : get_or m.gates k g ≡ g = sym (get_or_append_left m.gates (new_gates m j) g k inside) ∙ is_g in
      let r0 : variable g.rhs0 ≤ m.max_var = subst (λ q. variable q.rhs0 ≤ m.max_var) same (h.rights0 k g inside) in
      let r1 : variable g.rhs1 ≤ m.max_var = subst (λ q. variable q.rhs1 ≤ m.max_var) same (h.rights1 k g inside) in
      ((k, g, inside, same, (is_u, reads)), elim reads [ inl first ↦ omega (arith, r0, first) | inr second ↦ omega (arith, r1, second) ])
  | inr past ↦
      let i : ℕ = k - length m.gates in
      let e : k ≡ length m.gates + i = omega arith in
      let i_in : i < length (new_gates m j) = omega (arith, k_in, length-append m.gates (new_gates m j)) in
      let same : get_or (new_gates m j) i g ≡ g = sym (get_or-append-add m.gates (new_gates m j) i g) ∙ ap (λ q. get_or (m.gates ++ new_gates m j) q g) (sym e) ∙ is_g in
      let above : start_of m j ≤ left g = subst (λ q. start_of m j ≤ left q) same (next_left (new_gates m j) (start_of m j) i g (next_new m j h) i_in) in
      absurd (omega (arith, above, is_u))
]

new_needs : (m : Parts) (j u v : ℕ) → AreIn m j → m.max_var < u → Needs (shadow_of m j).gates u v → v < u
new_needs m j u v h u_new (k, g, k_in, is_g, (is_u, reads)) = elim (cases_lt k (length m.gates)) [
  | inl inside ↦
      let same : get_or m.gates k g ≡ g = sym (get_or_append_left m.gates (new_gates m j) g k inside) ∙ is_g in
      let below : variable g.lhs ≤ m.max_var = subst (λ q. variable q.lhs ≤ m.max_var) same (h.lefts k g inside) in
      absurd (omega (arith, below, is_u))
  | inr past ↦
      let i : ℕ = k - length m.gates in
      let e : k ≡ length m.gates + i = omega arith in
      let i_in : i < length (new_gates m j) = omega (arith, k_in, length-append m.gates (new_gates m j)) in
      let same : get_or (new_gates m j) i g ≡ g = sym (get_or-append-add m.gates (new_gates m j) i g) ∙ ap (λ q. get_or (m.gates ++ new_gates m j) q g) (sym e) ∙ is_g in
      let below : v < left g = subst (λ q. v < left q) same (next_reads (new_gates m j) (start_of m j) i v g (next_new m j h) i_in (subst (λ q. Reads q v) (sym same) reads)) in
      omega (arith, below, is_u)
]

old_chain : (m : Parts) (j u w : ℕ) (vs : List ℕ) → AreIn m j → u ≤ m.max_var → IsChain (shadow_of m j).gates (u ∷ vs ++ w ∷ []) → IsChain m.gates (u ∷ vs ++ w ∷ []) × (w ≤ m.max_var)
old_chain m j u w [] h u_old (needs, rest) = let p = old_needs m j u w h u_old needs in ((p.0, tt), p.1)
old_chain m j u w (x ∷ xs) h u_old (needs, rest) =
    let p = old_needs m j u x h u_old needs in
    let q = old_chain m j x w xs h p.1 rest in
    ((p.0, q.0), q.1)

new_chain : (m : Parts) (j u w : ℕ) (vs : List ℕ) → AreIn m j → m.max_var < u → IsChain (shadow_of m j).gates (u ∷ vs ++ w ∷ []) → w < u
new_chain m j u w [] h u_new (needs, rest) = new_needs m j u w h u_new needs
new_chain m j u w (x ∷ xs) h u_new (needs, rest) =
    let below : x < u = new_needs m j u x h u_new needs in
    elim (cases_lt m.max_var x) [
      | inl x_new ↦ let p = new_chain m j x w xs h x_new rest in omega (arith, p, below)
      | inr x_old ↦ let p = old_chain m j x w xs h x_old rest in let q = p.1 in omega (arith, q, u_new)
    ]

pub shadow_no_cycle : (m : Parts) (j : ℕ) → AreIn m j → HasNoCycle m.gates → HasNoCycle (shadow_of m j).gates
shadow_no_cycle m j h none v (vs, chain) = elim (cases_lt m.max_var v) [
  | inl v_new ↦ let p = new_chain m j v v vs h v_new chain in omega (arith, p)
  | inr v_old ↦ none v (vs, (old_chain m j v v vs h v_old chain).0)
]
