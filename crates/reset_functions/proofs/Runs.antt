-- The runs of a circuit in which gates stand for latches.
use Rattle.std.proofs.Common.{◌≡◌, ℕ, ◌+◌, Bool, true, false, not, ◌&&◌, List, [], ◌∷◌, ◌++◌, Option, Some, None, map, All, if◌then◌else◌, subst, Result, Ok, Err, IfOk, ◌∙◌, sym, refl}
use Rattle.std.proofs.lemmas.List.Elements.{All-head, All-tail}
use Rattle.graph.specs.declared.circuit.Lit.{Lit}
use Rattle.graph.specs.declared.circuit.Latch.{Latch}
use Rattle.graph.specs.declared.circuit.Gate.{Gate}
use Rattle.graph.specs.declared.parts.Parts.{Parts}
use Rattle.graph.specs.declared.error.ReadError.{ReadError}
use Rattle.graph.specs.WellFormed.{IsWellFormed}
use Rattle.graph.specs.Circuits.{Valuation, place, value_of, Fires, Agrees, IsReset, IsStep, StartsInitial, Steps}
use Rattle.graph.proofs.Evaluation.{All-left, All-right}
use Rattle.live_safe.specs.Shadow.{positive, negative, negation, joins, cleared}
use Rattle.live_safe.proofs.Values.{value-positive, value-negative, value-negation, fires_at}
use Rattle.reset_functions.specs.Made.{latches_for, gates_for, all_gates_for, first_latch, with_gates}
use Rattle.reset_functions.specs.Begun.{AllBegin, StartsBegun, RunsAs}

-- ---- one latch

chosen : (f x s a b : Bool) → a ≡ (f && not x) → b ≡ (not f && not s) → (not a && not b) ≡ (if f then x else s)
chosen true true s a b ea eb = rw (ea, eb) refl
chosen true false s a b ea eb = rw ea refl
chosen false x true a b ea eb = rw (ea, eb) refl
chosen false x false a b ea eb = rw (ea, eb) refl

-- the gates choose the function's value at the first time, and the other latch's at a later one
pub chooses : (w : Valuation) (first : ℕ) (l : Latch) (x : Lit) (v : ℕ) → All (Fires w) (gates_for first l (Some x) v) → value_of w l.lit ≡ (if place w first then value_of w x else place w v)
chooses w first l x v fires =
    let one : Gate = joins (v + 1) (positive first) (negation x) in
    let two : Gate = joins (v + 2) (negative first) (negative v) in
    let last : Gate = record { lhs = l.lit; rhs0 = negative (v + 1); rhs1 = negative (v + 2) } in
    let tail : All (Fires w) (two ∷ last ∷ []) = All-tail (Fires w) one (two ∷ last ∷ []) fires in
    let is_one : place w (v + 1) ≡ (place w first && not (value_of w x)) =
    fires_at w (v + 1) (positive first) (negation x) (All-head (Fires w) one (two ∷ last ∷ []) fires) ∙ rw (value-positive w first, value-negation w x) refl in
    let is_two : place w (v + 2) ≡ (not (place w first) && not (place w v)) =
    fires_at w (v + 2) (negative first) (negative v) (All-head (Fires w) two (last ∷ []) tail) ∙ rw (value-negative w first, value-negative w v) refl in
    let is_last : value_of w l.lit ≡ (not (place w (v + 1)) && not (place w (v + 2))) =
    All-head (Fires w) last [] (All-tail (Fires w) two (last ∷ []) tail) ∙ rw (value-negative w (v + 1), value-negative w (v + 2)) refl in
    is_last ∙ chosen (place w first) (value_of w x) (place w v) (place w (v + 1)) (place w (v + 2)) is_one is_two

-- ---- all latches

-- at a first time
pub begin_all : (w : Valuation) (first : ℕ) (ls more : List Latch) (resets : List (Option Lit)) (v : ℕ) → All (Fires w) (all_gates_for first ls resets v) → place w first ≡ true →
    All (IsReset w) (latches_for ls resets v ++ more) → AllBegin w ls resets
begin_all w first [] more resets v fires on resets_hold = tt
begin_all w first (l ∷ ls) more [] v fires on resets_hold =
    (All-head (IsReset w) l (latches_for ls [] v ++ more) resets_hold, begin_all w first ls more [] v fires on (All-tail (IsReset w) l (latches_for ls [] v ++ more) resets_hold))
begin_all w first (l ∷ ls) more (None ∷ resets) v fires on resets_hold =
    (All-head (IsReset w) l (latches_for ls resets v ++ more) resets_hold, begin_all w first ls more resets v fires on (All-tail (IsReset w) l (latches_for ls resets v ++ more) resets_hold))
begin_all w first (l ∷ ls) more (Some x ∷ resets) v fires on resets_hold =
    let here : List Gate = gates_for first l (Some x) v in
    let rest : List Gate = all_gates_for first ls resets (v + 3) in
    let is : value_of w l.lit ≡ value_of w x = chooses w first l x v (All-left (Fires w) here rest fires) ∙ rw on refl in
    (is, begin_all w first ls more resets (v + 3) (All-right (Fires w) here rest fires) on (All-tail (IsReset w) (cleared v l.next) (latches_for ls resets (v + 3) ++ more) resets_hold))

abbrev values : Valuation → List Latch → List Bool
values x ls = map (λ l. value_of x l.lit) ls

abbrev nexts : Valuation → List Latch → List Bool
nexts w ls = map (λ l. value_of w l.next) ls

first_same : (b c : Bool) (bs cs : List Bool) → (b ∷ bs) ≡ (c ∷ cs) → b ≡ c
first_same b c bs cs e = cc

others_same : (b c : Bool) (bs cs : List Bool) → (b ∷ bs) ≡ (c ∷ cs) → bs ≡ cs
others_same b c bs cs e = cc

both_same : (b c : Bool) (bs cs : List Bool) → b ≡ c → bs ≡ cs → (b ∷ bs) ≡ (c ∷ cs)
both_same b c bs cs e es = cc

-- the last latch goes on too
pub last_goes : (w x : Valuation) (ls : List Latch) (l : Latch) → values x (ls ++ l ∷ []) ≡ nexts w (ls ++ l ∷ []) → value_of x l.lit ≡ value_of w l.next
last_goes w x [] l e = first_same (value_of x l.lit) (value_of w l.next) [] [] e
last_goes w x (k ∷ ls) l e = last_goes w x ls l (others_same (value_of x k.lit) (value_of w k.next) (values x (ls ++ l ∷ [])) (nexts w (ls ++ l ∷ [])) e)

-- at a later time
pub go_all : (w x : Valuation) (first : ℕ) (ls more : List Latch) (resets : List (Option Lit)) (v : ℕ) → All (Fires x) (all_gates_for first ls resets v) → place x first ≡ false →
    values x (latches_for ls resets v ++ more) ≡ nexts w (latches_for ls resets v ++ more) → values x ls ≡ nexts w ls
go_all w x first [] more resets v fires off e = refl
go_all w x first (l ∷ ls) more [] v fires off e =
    let here = first_same (value_of x l.lit) (value_of w l.next) (values x (latches_for ls [] v ++ more)) (nexts w (latches_for ls [] v ++ more)) e in
    let there = others_same (value_of x l.lit) (value_of w l.next) (values x (latches_for ls [] v ++ more)) (nexts w (latches_for ls [] v ++ more)) e in
    both_same (value_of x l.lit) (value_of w l.next) (values x ls) (nexts w ls) here (go_all w x first ls more [] v fires off there)
go_all w x first (l ∷ ls) more (None ∷ resets) v fires off e =
    let here = first_same (value_of x l.lit) (value_of w l.next) (values x (latches_for ls resets v ++ more)) (nexts w (latches_for ls resets v ++ more)) e in
    let there = others_same (value_of x l.lit) (value_of w l.next) (values x (latches_for ls resets v ++ more)) (nexts w (latches_for ls resets v ++ more)) e in
    both_same (value_of x l.lit) (value_of w l.next) (values x ls) (nexts w ls) here (go_all w x first ls more resets v fires off there)
go_all w x first (l ∷ ls) more (Some a ∷ resets) v fires off e =
    let mine : List Gate = gates_for first l (Some a) v in
    let rest : List Gate = all_gates_for first ls resets (v + 3) in
    let behind_values : List Bool = values x (latches_for ls resets (v + 3) ++ more) in
    let behind_nexts : List Bool = nexts w (latches_for ls resets (v + 3) ++ more) in
    let later : value_of x (positive v) ≡ value_of w l.next = first_same (value_of x (positive v)) (value_of w l.next) behind_values behind_nexts e in
    let there : behind_values ≡ behind_nexts = others_same (value_of x (positive v)) (value_of w l.next) behind_values behind_nexts e in
    let is : value_of x l.lit ≡ place x v = chooses x first l a v (All-left (Fires x) mine rest fires) ∙ rw off refl in
    let here : value_of x l.lit ≡ value_of w l.next = is ∙ sym (value-positive x v) ∙ later in
    both_same (value_of x l.lit) (value_of w l.next) (values x ls) (nexts w ls) here (go_all w x first ls more resets (v + 3) (All-right (Fires x) mine rest fires) off there)

-- ---- runs

own_gates : (m : Parts) (resets : List (Option Lit)) (w : Valuation) → Agrees (with_gates m resets) w → All (Fires w) m.gates
own_gates m resets w agrees = All-left (Fires w) m.gates (all_gates_for (m.max_var + 1) m.latches resets (m.max_var + 2)) agrees.gates

new_gates : (m : Parts) (resets : List (Option Lit)) (w : Valuation) → Agrees (with_gates m resets) w → All (Fires w) (all_gates_for (m.max_var + 1) m.latches resets (m.max_var + 2))
new_gates m resets w agrees = All-right (Fires w) m.gates (all_gates_for (m.max_var + 1) m.latches resets (m.max_var + 2)) agrees.gates

starts : (m : Parts) (resets : List (Option Lit)) (r : List Valuation) → All (Agrees (with_gates m resets)) r → StartsInitial (with_gates m resets) r → StartsBegun m resets r
starts m resets [] agrees h = h
starts m resets (w ∷ r) agrees h =
    let n : Parts = with_gates m resets in
    let first : Latch = first_latch (m.max_var + 1) in
    let here = All-head (Agrees n) w r agrees in
    let is_first : IsReset w first = All-head (IsReset w) first [] (All-right (IsReset w) (latches_for m.latches resets (m.max_var + 2)) (first ∷ []) h) in
    let on : place w (m.max_var + 1) ≡ true = sym (value-positive w (m.max_var + 1)) ∙ is_first.high refl in
    begin_all w (m.max_var + 1) m.latches (first ∷ []) resets (m.max_var + 2) (new_gates m resets w here) on h

goes : (m : Parts) (resets : List (Option Lit)) (w x : Valuation) → Agrees (with_gates m resets) w → Agrees (with_gates m resets) x → IsStep (with_gates m resets) w x → IsStep m w x
goes m resets w x before after h =
    let first : Latch = first_latch (m.max_var + 1) in
    let off : place x (m.max_var + 1) ≡ false =
    sym (value-positive x (m.max_var + 1)) ∙ last_goes w x (latches_for m.latches resets (m.max_var + 2)) first h ∙ before.valuation.constant in
    go_all w x (m.max_var + 1) m.latches (first ∷ []) resets (m.max_var + 2) (new_gates m resets x after) off h

steps : (m : Parts) (resets : List (Option Lit)) (r : List Valuation) → All (Agrees (with_gates m resets)) r → Steps (with_gates m resets) r → Steps m r
steps m resets [] agrees h = tt
steps m resets (w ∷ []) agrees h = tt
steps m resets (w ∷ x ∷ r) agrees h =
    let n : Parts = with_gates m resets in
    let rest = All-tail (Agrees n) w (x ∷ r) agrees in
    (goes m resets w x (All-head (Agrees n) w (x ∷ r) agrees) (All-head (Agrees n) x r rest) h.0, steps m resets (x ∷ r) rest h.1)

pub runs : (m : Parts) (resets : List (Option Lit)) → RunsAs m resets (with_gates m resets)
runs m resets r run = record {
  gates = λ k d k_in. own_gates m resets _ (run.agrees k d k_in);
  starts = starts m resets r run.agrees run.starts;
  steps = steps m resets r run.agrees run.steps;
}

pub runs_of : (m : Parts) (resets : List (Option Lit)) (made : Parts) (result : Result Parts ReadError) → made ≡ with_gates m resets → IfOk result (λ n. (n ≡ made) × IsWellFormed made) → IfOk result (RunsAs m resets)
runs_of m resets made (Ok n) is h = subst (RunsAs m resets) (sym (h.0 ∙ is)) (runs m resets)
runs_of m resets made (Err e) is h = tt
