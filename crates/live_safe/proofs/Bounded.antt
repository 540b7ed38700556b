-- Where no lasso is, no run holds more rounds than there are states.
use Rattle.std.proofs.Common.{◌≡◌, ℕ, zero, suc, ◌+◌, ◌-◌, ◌^◌, ◌<◌, ◌≤◌, Bool, true, List, length, take, map, refl, inl, inr, arith, All, ◌∙◌, sym, subst, length-take-le}
use Rattle.std.proofs.lemmas.Bool.{cases_lt}
use Rattle.std.proofs.lemmas.List.{length-map}
use Rattle.std.proofs.lemmas.List.Elements.{All-take}
use Rattle.graph.specs.declared.circuit.Lit.{Lit}
use Rattle.graph.specs.declared.parts.Parts.{Parts}
use Rattle.graph.specs.Circuits.{value_of, state_of, inputs_of, IsRun, next_state, wanted_of, at, HoldsRounds, IsBounded}
use Rattle.graph.specs.declared.circuit.Property.TheVariants.{Justice}
use Rattle.stimulus.specs.declared.value.Stimulus.TheVariants.{Violated}
use Rattle.stimulus.specs.Shown.{IsReplay, closing_state, ClosesLasso, ShowsLasso}
use Rattle.graph.proofs.Times.{Steps-at, Starts-at, at-take, IsRun-take}
use Rattle.live_safe.proofs.Begun.{begins_from}
use Rattle.live_safe.proofs.Pigeons.{code, code_below, code_same, collision}

pub Replays-run : (m : Parts) (r : List (List Bool)) → IsRun m r → IsReplay m (state_of m (at r 0)) (map (inputs_of m) r) r
Replays-run m r h = record {
  agrees = h.agrees;
  begins = begins_from m (state_of m (at r 0)) r (Starts-at m r h.starts).0 refl;
  has_inputs = refl;
  steps = h.steps;
}

-- the rounds before another end before it begins
pub rounds_apart : (wanted : List Lit) (r : List (List Bool)) (n a b : ℕ) (h : HoldsRounds wanted r n) → a < b → b < n → h.end a ≤ h.first b
rounds_apart wanted r n a zero h below inside = absurd (omega arith)
rounds_apart wanted r n a (suc b) h below inside =
    let next : h.end b ≤ h.first (suc b) = (let e : suc b ≡ b + 1 = omega arith in rw e (h.apart b (omega arith))) in
    elim (cases_lt a b) [
      | inl earlier ↦ let before = rounds_apart wanted r n a b h earlier (omega arith) in let here = (h.rounds b (omega arith)).nonempty in omega (arith, before, here, next)
      | inr same ↦ let is_b : a ≡ b = omega arith in rw is_b next
    ]

-- two rounds that begin in one state close a lasso
pub closes_between : (m : Parts) (wanted : List Lit) (r : List (List Bool)) (n a b : ℕ) (h : HoldsRounds wanted r n) → IsRun m r → a < b → b < n →
    state_of m (at r (h.first a)) ≡ state_of m (at r (h.first b)) →
    ClosesLasso m wanted (closing_state m (take (h.first b) r)) (take (h.first b) r) (h.first a)
closes_between m wanted r n a b h runs below inside same =
    let i : ℕ = h.first a in
    let e : ℕ = h.first b in
    let round = h.rounds a (omega arith) in
    let later = h.rounds b inside in
    let apart : h.end a ≤ e = rounds_apart wanted r n a b h below inside in
    let i_end : i < h.end a = round.nonempty in
    let e_in : e < length r = (let p = later.nonempty in let q = later.inside in omega (arith, p, q)) in
    let long : length (take e r) ≡ e = length-take-le e r (omega arith) in
    let before : (e - 1) + 1 ≡ e = omega arith in
    record {
      inside = omega arith;
      closes = rw (at-take r e i (omega arith), long, at-take r e (e - 1) (omega arith))
          (same ∙ subst (λ q. state_of m (at r q) ≡ next_state m (at r (e - 1))) before (Steps-at m r (e - 1) runs.steps (omega arith)));
      sets = λ k d k_in. let set = round.sets k d k_in in
          let inside_e : set.0 < e = (let p = set.2 in omega arith) in
          (set.0, set.1, rw long inside_e, rw (at-take r e set.0 inside_e) set.3);
    }

pub bounded_without_lasso : (m : Parts) (j : ℕ) → j < length m.justice → ((initial : List Bool) (lines : List (List Bool)) → ShowsLasso m (Violated (Justice j) initial lines) → ⊥) → IsBounded m j
bounded_without_lasso m j exists none r n runs keeps h = elim (cases_lt (2 ^ length m.latches) n) [
  | inr few ↦ few
  | inl many ↦
      let start : ℕ → List Bool = λ k. state_of m (at r (h.first k)) in
      let wide : (k : ℕ) → length (start k) ≡ length m.latches = λ k. length-map m.latches (λ l. value_of (at r (h.first k)) l.lit) in
      let c = collision (λ k. code (start k)) (2 ^ length m.latches) n many (λ k k_in. subst (λ q. code (start k) < 2 ^ q) (wide k) (code_below (start k))) in
      let same = code_same (start c.low) (start c.high) (wide c.low ∙ sym (wide c.high)) c.same in
      let a_end = (h.rounds c.low (let p = c.ordered in let q = c.below in omega (arith, p, q))).nonempty in
      let apart = rounds_apart (wanted_of m j) r n c.low c.high h c.ordered c.below in
      let b_end = (h.rounds c.high c.below).nonempty in
      let b_in = (h.rounds c.high c.below).inside in
      let part : List (List Bool) = take (h.first c.high) r in
      let part_runs : IsRun m part = IsRun-take m r (h.first c.high) (omega (arith, a_end, apart)) (omega (arith, b_end, b_in)) runs in
      absurd (none (state_of m (at part 0)) (map (inputs_of m) part) (record {
        position = j;
        start = h.first c.low;
        replay = part;
        names = refl;
        exists = exists;
        replays = Replays-run m part part_runs;
        runs = part_runs;
        keeps = All-take (λ w. All (λ a. value_of w a ≡ true) m.constraints) (h.first c.high) r keeps;
        lasso = closes_between m (wanted_of m j) r n c.low c.high h runs c.ordered c.below same;
      }))
]
