-- What satisfies the clauses is a run.
use Rattle.std.proofs.Common.{◌≡◌, ℕ, ◌+◌, ◌-◌, ◌<◌, Bool, true, false, not, List, [], ◌∷◌, map, length, get_or, All, ℤ, negsuc, unsigned_abs, refl, sym, ◌∙◌, ap, subst, arith}
use Rattle.std.proofs.lemmas.List.{get_or_default, get_or-map, length-map}
use Rattle.std.proofs.lemmas.List.Elements.{All-nil, All-cons, All-head, All-tail, All-contains}
use Rattle.std.proofs.lemmas.Option.{slice_get-get_or}
use Rattle.graph.specs.declared.circuit.Lit.{Lit}
use Rattle.graph.specs.declared.circuit.Latch.{Latch}
use Rattle.graph.specs.declared.circuit.Property.TheVariants.{Bad}
use Rattle.graph.specs.declared.parts.Parts.{Parts}
use Rattle.graph.specs.Circuits.{value_of, Agrees, state_of, inputs_of, IsRun, IsReset, IsInitial, Steps, next_state, at}
use Rattle.graph.specs.WellFormed.{IsWellFormed}
use Rattle.graph.proofs.Evaluation.{inputs_even, latches_even}
use Rattle.graph.proofs.Gates.{value_of-even}
use Rattle.graph.proofs.Times.{Starts-from}
use Rattle.lrat.specs.Literals.{is_true}
use Rattle.stimulus.specs.declared.value.Stimulus.TheVariants.{Violated}
use Rattle.stimulus.specs.Shown.{Begins, ShowsBad}
use Rattle.cnf.specs.Formulas.{bad_literal}
use Rattle.cones.specs.Marks.{ExistenceLaw, IsMarked}
use Rattle.solver.specs.Answers.{IsModel, IsCore, values}
use Rattle.engine.specs.Findings.{IsForBad}
use Rattle.unrolling.specs.declared.cone.Cone.{Cone}
use Rattle.unrolling.specs.declared.encoder.Encoder.{Encoder}
use Rattle.unrolling.specs.Cones.{IsConeOf, latch_at, no_latch}
use Rattle.bmc.specs.Depths.{IsUnsetAfter}
use Rattle.unrolling.specs.Encodings.{IsGate, AreKept, told}
use Rattle.unrolling.specs.Demands.{AreGiven}
use Rattle.bmc.specs.Lines.{AreLines}
use Rattle.unrolling.specs.Unrollings.{Leaves, Follows, IsUnrolled, literal_at, latch_of}
use Rattle.unrolling.proofs.Completed.{IsWhole, made_whole}
use Rattle.unrolling.proofs.Encoded.{same_true}
use Rattle.bmc.proofs.Depths.{some_bad}

-- a circuit's run from a state with these inputs
record IsReplayed (m : Parts) (st : List Bool) (lines : List (List Bool)) : Type 0 where
  replay : List (List Bool)
  agrees : All (Agrees m) replay
  has_inputs : map (inputs_of m) replay ≡ lines
  steps : Steps m replay
  begins : 0 < length replay → state_of m (at replay 0) ≡ st

steps_cons : (m : Parts) (w : List Bool) (r : List (List Bool)) → Steps m r → (0 < length r → state_of m (at r 0) ≡ next_state m w) → Steps m (w ∷ r)
steps_cons m w [] steps begins = tt
steps_cons m w (x ∷ r) steps begins = (begins (omega arith), steps)

replayed : (m : Parts) (st : List Bool) (lines : List (List Bool)) → ExistenceLaw m → length st ≡ length m.latches → All (λ l. length l ≡ length m.inputs) lines → IsReplayed m st lines
replayed m st [] exist long all = record { replay = []; agrees = All-nil (Agrees m); has_inputs = refl; steps = tt; begins = λ none. absurd (omega (arith, none)) }
replayed m st (l ∷ ls) exist long all =
    let w = exist st l long (All-head (λ (x : List Bool). length x ≡ length m.inputs) l ls all) in
    let rest = replayed m (next_state m w.0) ls exist (length-map m.latches (λ x. value_of w.0 x.next)) (All-tail (λ (x : List Bool). length x ≡ length m.inputs) l ls all) in
    record {
      replay = w.0 ∷ rest.replay;
      agrees = All-cons (Agrees m) w.0 rest.replay w.1 rest.agrees;
      has_inputs = λ i. w.3 i ∷ rest.has_inputs i;
      steps = steps_cons m w.0 rest.replay rest.steps rest.begins;
      begins = λ some. w.2;
    }

-- a core of the bad literal says that no run of that number of steps ends with it
pub core_unset : (m : Parts) (c : Cone) (s : Leaves) (state : List ℤ) (e : Encoder) (cs : List (List ℤ)) (steps : ℕ) (l : ℤ) (core : List ℤ) → IsUnrolled m c s state e cs → length s.firsts ≡ steps + 1 →
    ((r : List (List Bool)) (v : ℕ → Bool) → Follows m c s r v → AreKept v (told e cs) → steps < length r → is_true v l ≡ value_of (at r steps) (bad_literal m 0)) →
    IsCore cs (l ∷ []) core → IsUnsetAfter m steps
core_unset m c s state e cs steps l core h times stands is r run keeps len set =
    let found = h.exists r run keeps (omega (arith, times, len)) in
    let v : ℕ → Bool = found.0 in
    let last : steps ≡ length r - 1 = omega (arith, len) in
    let on : is_true v l ≡ true = stands r v found.1 found.2 (omega (arith, len)) ∙ ap (λ t. value_of (at r t) (bad_literal m 0)) last ∙ set in
    let assumed : All (λ x. is_true v x ≡ true) (l ∷ []) = All-cons (λ x. is_true v x ≡ true) l [] on (All-nil (λ x. is_true v x ≡ true)) in
    is.refuted v found.2.1 (λ i d i_in. All-contains (λ x. is_true v x ≡ true) (l ∷ []) (get_or core i d) assumed (is.among i d i_in))

-- the values of a model follow the run that is read from them
model_follows : (m : Parts) (c : Cone) (s : Leaves) (b : List Bool) (lines : List (List Bool)) (r : List (List Bool)) → IsWellFormed m → IsConeOf m c → length s.initial ≡ length m.latches → IsRun m r →
    AreLines m c b s.firsts lines → map (inputs_of m) r ≡ lines → state_of m (at r 0) ≡ map (is_true (values b)) s.initial → Follows m c s r (values b)
model_follows m c s b lines r well cone whole run are has_inputs begins = record {
  runs = run;
  state = λ k k_in.
      let p : ℕ = get_or c.latches.items k 0 in
      let p_in : p < length m.latches = cone.latches k 0 k_in in
      let even = (latches_even m well p no_latch p_in).1 in
      sym (get_or-map (is_true (values b)) s.initial p (negsuc 0) false (omega (arith, p_in, whole))) ∙ ap (λ q. get_or q p false) (sym begins) ∙ get_or-map (λ (l : Latch). value_of (at r 0) l.lit) m.latches p no_latch false p_in
      ∙ value_of-even (at r 0) (latch_of m c k) even;
  inputs = λ t k t_in t_r k_in.
      let p : ℕ = get_or c.inputs.items k 0 in
      let p_in : p < length m.inputs = cone.inputs k 0 k_in in
      let blank : Lit = record { 0 = 0 } in
      let even = (inputs_even m well p blank p_in).1 in
      let line : inputs_of m (at r t) ≡ get_or lines t [] = sym (get_or-map (inputs_of m) r t [] [] t_r) ∙ ap (λ q. get_or q t []) has_inputs in
      sym ((are.each t t_in).inputs k k_in) ∙ ap (λ q. get_or q p false) (sym line) ∙ get_or-map (value_of (at r t)) m.inputs p blank false p_in ∙ value_of-even (at r t) (get_or m.inputs p blank) even;
}

begins_of : (m : Parts) (st : List Bool) (r : List (List Bool)) → 0 < length r → state_of m (at r 0) ≡ st → Begins m st r
begins_of m st [] some is = absurd (omega (arith, some))
begins_of m st (w ∷ r) some is = is

-- what is the same at the variables that are no functions follows the same run
follows_others : (m : Parts) (c : Cone) (s : Leaves) (state : List ℤ) (e : Encoder) (cs : List (List ℤ)) (r : List (List Bool)) (v u : ℕ → Bool) → IsConeOf m c → IsUnrolled m c s state e cs →
    ((x : ℕ) → (IsGate e.functions.items x → ⊥) → u x ≡ v x) → Follows m c s r v → Follows m c s r u
follows_others m c s state e cs r v u cone h others follows = record {
  runs = follows.runs;
  state = λ k k_in.
      let p : ℕ = get_or c.latches.items k 0 in
      let p_in : p < length m.latches = cone.latches k 0 k_in in
      let l_in = h.initial.literals p (negsuc 0) (omega (arith, p_in, h.initial.whole)) in
      same_true u v (literal_at s.initial p) (others (unsigned_abs (literal_at s.initial p)) (h.free (unsigned_abs (literal_at s.initial p)) l_in.1)) ∙ follows.state k k_in;
  inputs = λ t k t_in t_r k_in. others (get_or s.firsts t 0 + (k + 1)) (h.free_inputs t k t_in k_in) ∙ follows.inputs t k t_in t_r k_in;
}

-- what is read from a model shows the bad literal
pub model_shows : (m : Parts) (c : Cone) (s : Leaves) (state : List ℤ) (e : Encoder) (marks : List Bool) (cs : List (List ℤ)) (steps vars : ℕ) (l : ℤ) (b : List Bool) (lines : List (List Bool)) → IsWellFormed m → IsForBad m → ExistenceLaw m →
    IsConeOf m c → IsUnrolled m c s state e cs → length s.firsts ≡ steps + 1 →
    ((r : List (List Bool)) (v : ℕ → Bool) → Follows m c s r v → AreKept v (told e cs) → steps < length r → is_true v l ≡ value_of (at r steps) (bad_literal m 0)) →
    AreGiven e marks cs → IsMarked marks (unsigned_abs l) → IsModel vars cs (l ∷ []) b → AreLines m c b s.firsts lines → ShowsBad m (Violated (Bad 0) (map (is_true (values b)) s.initial) lines)
model_shows m c s state e marks cs steps vars l b lines well for_bad exist cone h times stands given marked model are =
    let v : ℕ → Bool = values b in
    let st : List Bool = map (is_true v) s.initial in
    let st_long : length st ≡ length m.latches = length-map s.initial (is_true v) ∙ h.initial.whole in
    let rep = replayed m st lines exist st_long (λ t d t_in. ap length (sym (get_or_default lines t [] d t_in)) ∙ (are.each t (omega (arith, t_in, are.whole))).whole) in
    let r : List (List Bool) = rep.replay in
    let r_long : length r ≡ steps + 1 = sym (length-map r (inputs_of m)) ∙ ap length rep.has_inputs ∙ are.whole ∙ times in
    let begins : state_of m (at r 0) ≡ st = rep.begins (omega (arith, r_long)) in
    let value_at_latch : (k : ℕ) → k < length m.latches → value_of (at r 0) (latch_at m.latches k).lit ≡ is_true v (literal_at s.initial k) = λ k k_in.
    sym (get_or-map (λ (x : Latch). value_of (at r 0) x.lit) m.latches k no_latch false k_in) ∙ ap (λ q. get_or q k false) begins ∙ get_or-map (is_true v) s.initial k (negsuc 0) false (omega (arith, k_in, h.initial.whole)) in
    let initial : IsInitial m (at r 0) = λ k d k_in.
    let same : latch_at m.latches k ≡ get_or m.latches k d = get_or_default m.latches k no_latch d k_in in
    subst (λ (x : Latch). IsReset (at r 0) x) same (record {
      low = λ low. value_at_latch k k_in ∙ ap (is_true v) (h.initial.low k k_in low) ∙ ap not (given.truth v model.satisfied);
      high = λ high. value_at_latch k k_in ∙ ap (is_true v) (h.initial.high k k_in high) ∙ given.truth v model.satisfied;
    }) in
    let run : IsRun m r = record { agrees = rep.agrees; starts = Starts-from m r (omega (arith, r_long)) initial; steps = rep.steps } in
    let follows : Follows m c s r v = model_follows m c s b lines r well cone h.initial.whole run are rep.has_inputs begins in
    let whole : IsWhole e marks cs v = made_whole e marks cs v h.encoding given (h.free 1 (omega arith)) model.satisfied in
    let u : ℕ → Bool = whole.u in
    let u_follows : Follows m c s r u = follows_others m c s state e cs r v u cone h whole.others follows in
    let last : length r - 1 ≡ steps = omega (arith, r_long) in
    let on : is_true u l ≡ true = same_true u v l (whole.marked (unsigned_abs l) marked) ∙ All-head (λ x. is_true v x ≡ true) l [] model.assumed in
    record {
      bad = bad_literal m 0;
      replay = r;
      watched = slice_get-get_or m.bad 0 (record { 0 = 0 }) (some_bad m for_bad);
      replays = record { agrees = rep.agrees; begins = begins_of m st r (omega (arith, r_long)) begins; has_inputs = rep.has_inputs; steps = rep.steps };
      runs = run;
      keeps = λ t d t_in. subst (λ w. All (λ a. value_of w a ≡ true) m.constraints) (get_or_default r t [] d t_in) (h.keeps r u u_follows whole.kept t (omega (arith, t_in, r_long, times)) t_in);
      sets = ap (λ t. value_of (at r t) (bad_literal m 0)) last ∙ sym (stands r u u_follows whole.kept (omega (arith, r_long))) ∙ on;
    }
