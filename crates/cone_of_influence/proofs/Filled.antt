-- A run of the reduced circuit, filled, is one of the circuit.
use Rattle.std.proofs.Common.{◌≡◌, ℕ, suc, ◌-◌, ◌<◌, ◌==◌, if◌then◌else◌, Bool, true, false, List, [], ◌∷◌, map, filter, length, get_or, All, Option, None, Some, inl, inr, refl, sym, ◌∙◌, ap, ap₂, subst, arith}
use Rattle.std.proofs.lemmas.Bool.{cases_Bool, false≢true}
use Rattle.std.proofs.lemmas.List.{get_or-map, length-map}
use Rattle.std.proofs.lemmas.List.Elements.{All-nil, All-cons, All-head, All-tail}
use Rattle.graph.specs.declared.circuit.Lit.{Lit}
use Rattle.graph.specs.declared.circuit.Latch.{Latch}
use Rattle.graph.specs.declared.circuit.Property.TheVariants.{Bad}
use Rattle.graph.specs.declared.parts.Parts.{Parts}
use Rattle.graph.specs.Circuits.{Valuation, variable, place, value_of, state_of, inputs_of, next_state, Agrees, IsReset, IsInitial, Steps, IsRun, KeepsConstraints}
use Rattle.graph.specs.WellFormed.{IsModel}
use Rattle.graph.proofs.Evaluation.{All-unmap, alike_same}
use Rattle.stimulus.specs.declared.value.Stimulus.TheVariants.{Violated}
use Rattle.stimulus.specs.Shown.{IsReplay, ShowsBad, last_of}
use Rattle.cnf.specs.Formulas.{bad_literal}
use Rattle.cnf.specs.Meaning.{KeepsNow}
use Rattle.cones.proofs.Existing.{existence_law}
use Rattle.cone_of_influence.specs.Numbers.{renamed}
use Rattle.cone_of_influence.specs.Reduced.{latch_filler, input_filler, filled, renamed_latch}
use Rattle.cone_of_influence.specs.Laws.{restricted}
use Rattle.cone_of_influence.proofs.Valued.{AreGiven, part, same_value, no_number, latches_of_cone, agrees_to, states_to, inputs_to, step_to, keeps_from, reset_to}
use Rattle.cone_of_influence.proofs.Runs.{bad_value, some_bad, watched_is, bad_watched}

-- ---- filled lists

-- what is filled in for an item
abbrev fill_by : {X : Type 0} → (X → Bool) → (X → Bool) → X → Option Bool
fill_by p d x = if p x then None else Some (d x)

-- what was filled in has the given values at the places that are kept
filled_given : {X : Type 0} (f p d : X → Bool) (xs : List X) (vs : List Bool) → map f xs ≡ filled (map (fill_by p d) xs) vs → length vs ≡ length (filter p xs) →
    map f (filter p xs) ≡ vs
filled_given f p d [] [] same long = refl
filled_given f p d [] (v ∷ vs) same long = absurd (omega (arith, long))
filled_given f p d (x ∷ xs) [] same long = elim (cases_Bool (p x)) [
  | inl on ↦ absurd (let some : 0 ≡ suc (length (filter p xs)) = rw on at long in omega (arith, some))
  | inr off ↦
      let here : f x ∷ map f xs ≡ d x ∷ filled (map (fill_by p d) xs) [] = rw off at same in
      let rest : map f xs ≡ filled (map (fill_by p d) xs) [] = cc in
      rw off (filled_given f p d xs [] rest (rw off at long))
]
filled_given f p d (x ∷ xs) (v ∷ vs) same long = elim (cases_Bool (p x)) [
  | inl on ↦
      let here : f x ∷ map f xs ≡ v ∷ filled (map (fill_by p d) xs) vs = rw on at same in
      let first : f x ≡ v = cc in
      let rest : map f xs ≡ filled (map (fill_by p d) xs) vs = cc in
      let more : suc (length vs) ≡ suc (length (filter p xs)) = rw on at long in
      rw on (ap₂ (λ y ys. y ∷ ys) first (filled_given f p d xs vs rest (omega (arith, more))))
  | inr off ↦
      let here : f x ∷ map f xs ≡ d x ∷ filled (map (fill_by p d) xs) (v ∷ vs) = rw off at same in
      let rest : map f xs ≡ filled (map (fill_by p d) xs) (v ∷ vs) = cc in
      rw off (filled_given f p d xs (v ∷ vs) rest (rw off at long))
]

-- and what was filled in at the other places
filled_else : {X : Type 0} (f p d : X → Bool) (xs : List X) (vs : List Bool) → map f xs ≡ filled (map (fill_by p d) xs) vs → All (λ x. p x ≡ false → f x ≡ d x) xs
filled_else f p d [] vs same = All-nil (λ x. p x ≡ false → f x ≡ d x)
filled_else f p d (x ∷ xs) [] same = elim (cases_Bool (p x)) [
  | inl on ↦
      let here : f x ∷ map f xs ≡ false ∷ filled (map (fill_by p d) xs) [] = rw on at same in
      let rest : map f xs ≡ filled (map (fill_by p d) xs) [] = cc in
      All-cons (λ y. p y ≡ false → f y ≡ d y) x xs (λ off. absurd (false≢true (sym off ∙ on))) (filled_else f p d xs [] rest)
  | inr off ↦
      let here : f x ∷ map f xs ≡ d x ∷ filled (map (fill_by p d) xs) [] = rw off at same in
      let first : f x ≡ d x = cc in
      let rest : map f xs ≡ filled (map (fill_by p d) xs) [] = cc in
      All-cons (λ y. p y ≡ false → f y ≡ d y) x xs (λ _. first) (filled_else f p d xs [] rest)
]
filled_else f p d (x ∷ xs) (v ∷ vs) same = elim (cases_Bool (p x)) [
  | inl on ↦
      let here : f x ∷ map f xs ≡ v ∷ filled (map (fill_by p d) xs) vs = rw on at same in
      let rest : map f xs ≡ filled (map (fill_by p d) xs) vs = cc in
      All-cons (λ y. p y ≡ false → f y ≡ d y) x xs (λ off. absurd (false≢true (sym off ∙ on))) (filled_else f p d xs vs rest)
  | inr off ↦
      let here : f x ∷ map f xs ≡ d x ∷ filled (map (fill_by p d) xs) (v ∷ vs) = rw off at same in
      let first : f x ≡ d x = cc in
      let rest : map f xs ≡ filled (map (fill_by p d) xs) (v ∷ vs) = cc in
      All-cons (λ y. p y ≡ false → f y ≡ d y) x xs (λ _. first) (filled_else f p d xs (v ∷ vs) rest)
]

length-filled : (fs : List (Option Bool)) (vs : List Bool) → length (filled fs vs) ≡ length fs
length-filled [] vs = refl
length-filled (Some b ∷ fs) vs = ap suc (length-filled fs vs)
length-filled (None ∷ fs) [] = ap suc (length-filled fs [])
length-filled (None ∷ fs) (v ∷ vs) = ap suc (length-filled fs vs)

-- what holds of the marked items holds of each item that is marked
of_marked : {X : Type 0} (p : X → Bool) (P : X → Type 0) (xs : List X) → All P (filter p xs) → All (λ x. p x ≡ true → P x) xs
of_marked p P [] all = All-nil (λ x. p x ≡ true → P x)
of_marked p P (x ∷ xs) all = elim (cases_Bool (p x)) [
  | inl on ↦
      let here : All P (x ∷ filter p xs) = rw on at all in
      All-cons (λ y. p y ≡ true → P y) x xs (λ _. All-head P x (filter p xs) here) (of_marked p P xs (All-tail P x (filter p xs) here))
  | inr off ↦
      let rest : All P (filter p xs) = rw off at all in
      All-cons (λ y. p y ≡ true → P y) x xs (λ on. absurd (false≢true (sym off ∙ on))) (of_marked p P xs rest)
]

-- ---- the first time

initial_from : (m : Parts) (marks : List Bool) (kept numbers : List ℕ) (initial : List Bool) (w : Valuation) → AreGiven m marks kept numbers →
    state_of m w ≡ filled (map (latch_filler marks) m.latches) initial → IsInitial (part m marks kept numbers) (restricted kept w) → IsInitial m w
initial_from m marks kept numbers initial w h state first =
    let passes : Latch → Bool = λ l. place marks (variable l.lit) in
    let ls : List Latch = filter passes m.latches in
    let x : Valuation = restricted kept w in
    let inside : All (λ l. IsReset x (renamed_latch numbers l)) ls = All-unmap (IsReset x) (renamed_latch numbers) ls first in
    let marked : All (IsReset w) ls = λ k d k_in.
    let l : Latch = get_or ls k d in
    let of = (latches_of_cone m marks kept numbers h k d k_in).0 in
    let same = same_value m marks kept numbers w l.lit h of in
    let to = reset_to numbers l (no_number m marks kept numbers h) in
    let reset : IsReset x (renamed_latch numbers l) = inside k d k_in in
    record { low = λ e. sym same ∙ reset.low (to.0 e); high = λ e. sym same ∙ reset.high (to.1 e) } in
    let on = of_marked passes (IsReset w) m.latches marked in
    let others = filled_else (λ l. value_of w l.lit) passes (λ l. l.reset.0 == 1) m.latches initial state in
    λ k d k_in.
    let l : Latch = get_or m.latches k d in
    elim (cases_Bool (passes l)) [
      | inl here ↦ on k d k_in here
      | inr gone ↦
          let at : value_of w l.lit ≡ (l.reset.0 == 1) = others k d k_in gone in
          record { low = λ e. at ∙ ap (λ r. r == 1) e; high = λ e. at ∙ ap (λ r. r == 1) e }
    ]

-- ---- one time after the other

record IsLifted (m s : Parts) (kept : List ℕ) (fillers : List (Option Bool)) (st : List Bool) (x : Valuation) : Type 0 where
  valuation : Valuation
  agrees : Agrees m valuation
  state : state_of m valuation ≡ st
  inputs : inputs_of m valuation ≡ filled fillers (inputs_of s x)
  same : restricted kept valuation ≡ x

-- the models' orders
record AreModels (m : Parts) (marks : List Bool) (kept numbers : List ℕ) : Type 0 where
  given : AreGiven m marks kept numbers
  order : List ℕ
  model : IsModel m order
  part_order : List ℕ
  part_model : IsModel (part m marks kept numbers) part_order

lift_one : (m : Parts) (marks : List Bool) (kept numbers : List ℕ) (st : List Bool) (x : Valuation) → AreModels m marks kept numbers → Agrees (part m marks kept numbers) x → length st ≡ length m.latches →
    ((w : Valuation) → state_of m w ≡ st → state_of (part m marks kept numbers) (restricted kept w) ≡ state_of (part m marks kept numbers) x) →
    IsLifted m (part m marks kept numbers) kept (map (input_filler marks) m.inputs) st x
lift_one m marks kept numbers st x h agrees long states =
    let s : Parts = part m marks kept numbers in
    let passes : Lit → Bool = λ a. place marks (variable a) in
    let fillers : List (Option Bool) = map (input_filler marks) m.inputs in
    let ins : List Bool = inputs_of s x in
    let there = existence_law m h.order h.model st (filled fillers ins) long (length-filled fillers ins ∙ length-map m.inputs (input_filler marks)) in
    let w : Valuation = there.0 in
    let many : length ins ≡ length (filter passes m.inputs) = length-map s.inputs (value_of x) ∙ length-map (filter passes m.inputs) (renamed numbers) in
    let given : map (value_of w) (filter passes m.inputs) ≡ ins = filled_given (value_of w) passes (λ _. false) m.inputs ins there.3 many in
    record {
      valuation = w;
      agrees = there.1;
      state = there.2;
      inputs = there.3;
      same = alike_same s h.part_order (restricted kept w) x h.part_model (record {
        first = agrees_to m marks kept numbers w h.given there.1;
        second = agrees;
        states = states w there.2;
        inputs_same = inputs_to m marks kept numbers w h.given ∙ given;
      });
    }

record AreLifted (m s : Parts) (kept : List ℕ) (fillers : List (Option Bool)) (st : List Bool) (x : Valuation) (xs : List Valuation) : Type 0 where
  here : IsLifted m s kept fillers st x
  rest : List Valuation
  agrees : All (Agrees m) rest
  steps : Steps m (here.valuation ∷ rest)
  lines : map (inputs_of m) rest ≡ map (filled fillers) (map (inputs_of s) xs)
  same : map (restricted kept) rest ≡ xs

lift : (m : Parts) (marks : List Bool) (kept numbers : List ℕ) (st : List Bool) (x : Valuation) (xs : List Valuation) → AreModels m marks kept numbers → All (Agrees (part m marks kept numbers)) (x ∷ xs) →
    Steps (part m marks kept numbers) (x ∷ xs) → length st ≡ length m.latches →
    ((w : Valuation) → state_of m w ≡ st → state_of (part m marks kept numbers) (restricted kept w) ≡ state_of (part m marks kept numbers) x) →
    AreLifted m (part m marks kept numbers) kept (map (input_filler marks) m.inputs) st x xs
lift m marks kept numbers st x [] h agrees steps long states =
    let s : Parts = part m marks kept numbers in
    record {
      here = lift_one m marks kept numbers st x h (All-head (Agrees s) x [] agrees) long states;
      rest = [];
      agrees = All-nil (Agrees m);
      steps = tt;
      lines = refl;
      same = refl;
    }
lift m marks kept numbers st x (y ∷ xs) h agrees steps long states =
    let s : Parts = part m marks kept numbers in
    let here = lift_one m marks kept numbers st x h (All-head (Agrees s) x (y ∷ xs) agrees) long states in
    let w : Valuation = here.valuation in
    let later = lift m marks kept numbers (next_state m w) y xs h (All-tail (Agrees s) x (y ∷ xs) agrees) steps.1 (length-map m.latches (λ l. value_of w l.next))
    (λ v state. step_to m marks kept numbers w v h.given state ∙ ap (next_state s) here.same ∙ sym steps.0) in
    record {
      here = here;
      rest = later.here.valuation ∷ later.rest;
      agrees = All-cons (Agrees m) later.here.valuation later.rest later.here.agrees later.agrees;
      steps = (later.here.state, later.steps);
      lines = ap₂ (λ line lines. line ∷ lines) later.here.inputs later.lines;
      same = ap₂ (λ v vs. v ∷ vs) later.here.same later.same;
    }

-- ---- the violation

last_restricted : (kept : List ℕ) (r : List Valuation) → 0 < length r → last_of (map (restricted kept) r) ≡ restricted kept (last_of r)
last_restricted kept r some =
    let long : length (map (restricted kept) r) - 1 ≡ length r - 1 = ap (λ n. n - 1) (length-map r (restricted kept)) in
    ap (λ n. get_or (map (restricted kept) r) n []) long ∙ get_or-map (restricted kept) r (length r - 1) [] [] (omega (arith, some))

shown_from : (m : Parts) (marks : List Bool) (kept numbers : List ℕ) (initial : List Bool) (lines : List (List Bool)) (rs : List Valuation) → AreModels m marks kept numbers →
    IsReplay (part m marks kept numbers) initial lines rs → IsRun (part m marks kept numbers) rs → KeepsConstraints (part m marks kept numbers) rs →
    value_of (last_of rs) (bad_literal (part m marks kept numbers) 0) ≡ true →
    ShowsBad m (Violated (Bad 0) (filled (map (latch_filler marks) m.latches) initial) (map (filled (map (input_filler marks) m.inputs)) lines))
shown_from m marks kept numbers initial lines [] h replay run keeps sets = absurd run.starts
shown_from m marks kept numbers initial lines (x ∷ xs) h replay run keeps sets =
    let s : Parts = part m marks kept numbers in
    let passes : Latch → Bool = λ l. place marks (variable l.lit) in
    let fillers : List (Option Bool) = map (latch_filler marks) m.latches in
    let st : List Bool = filled fillers initial in
    let begins : state_of s x ≡ initial = replay.begins in
    let many : length initial ≡ length (filter passes m.latches) =
    ap length (sym begins) ∙ length-map s.latches (λ l. value_of x l.lit) ∙ length-map (filter passes m.latches) (renamed_latch numbers) in
    let l = lift m marks kept numbers st x xs h run.agrees run.steps (length-filled fillers initial ∙ length-map m.latches (latch_filler marks))
    (λ w state. states_to m marks kept numbers w h.given ∙ filled_given (λ l. value_of w l.lit) passes (λ l. l.reset.0 == 1) m.latches initial state many ∙ sym begins) in
    let w : Valuation = l.here.valuation in
    let r : List Valuation = w ∷ l.rest in
    let same : map (restricted kept) r ≡ x ∷ xs = ap₂ (λ v vs. v ∷ vs) l.here.same l.same in
    let agrees : All (Agrees m) r = All-cons (Agrees m) w l.rest l.here.agrees l.agrees in
    let kept_all : All (KeepsNow s) (map (restricted kept) r) = subst (All (KeepsNow s)) (sym same) keeps in
    let each : All (λ v. KeepsNow s (restricted kept v)) r = All-unmap (KeepsNow s) (restricted kept) r kept_all in
    let last : last_of (x ∷ xs) ≡ restricted kept (last_of r) = ap last_of (sym same) ∙ last_restricted kept r (omega arith) in
    record {
      bad = bad_literal m 0;
      replay = r;
      watched = bad_watched m (some_bad m marks kept numbers h.given);
      replays = record {
        agrees = agrees;
        begins = l.here.state;
        has_inputs = ap₂ (λ line more. line ∷ more) l.here.inputs l.lines ∙ ap (map (filled (map (input_filler marks) m.inputs))) replay.has_inputs;
        steps = l.steps;
      };
      runs = record {
        agrees = agrees;
        starts = initial_from m marks kept numbers initial w h.given l.here.state (subst (IsInitial s) (sym l.here.same) run.starts);
        steps = l.steps;
      };
      keeps = λ k d k_in. keeps_from m marks kept numbers (get_or r k d) h.given (each k d k_in);
      sets = sym (bad_value m marks kept numbers (last_of r) h.given) ∙ ap (λ v. value_of v (bad_literal s 0)) (sym last) ∙ sets;
    }

pub violation_law : (m : Parts) (marks : List Bool) (kept numbers : List ℕ) (order part_order : List ℕ) → AreGiven m marks kept numbers → IsModel m order → IsModel (part m marks kept numbers) part_order →
    (initial : List Bool) (lines : List (List Bool)) → ShowsBad (part m marks kept numbers) (Violated (Bad 0) initial lines) →
    ShowsBad m (Violated (Bad 0) (filled (map (latch_filler marks) m.latches) initial) (map (filled (map (input_filler marks) m.inputs)) lines))
violation_law m marks kept numbers order part_order h model part_model initial lines shown =
    let s : Parts = part m marks kept numbers in
    let replay : IsReplay s initial lines shown.replay = shown.replays in
    let models : AreModels m marks kept numbers = record { given = h; order = order; model = model; part_order = part_order; part_model = part_model } in
    shown_from m marks kept numbers initial lines shown.replay models replay shown.runs shown.keeps
    (ap (value_of (last_of shown.replay)) (watched_is s shown.bad shown.watched) ∙ shown.sets)
