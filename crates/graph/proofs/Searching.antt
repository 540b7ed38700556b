-- The steps of the search.
use Rattle.std.proofs.Common.{◌≡◌, ℕ, zero, suc, ◌+◌, ◌-◌, ◌<◌, ◌≤◌, ◌≢◌, ◌⊎◌, List, [], ◌∷◌, ◌++◌, length, set, take, get_or, refl, inl, inr, arith, All, AllPairs, Contains, ◌∙◌, sym, ap, subst, get_or-set_same, get_or-set_other}
use Rattle.std.proofs.lemmas.Bool.{cases_lt, cases_eq}
use Rattle.std.proofs.lemmas.List.{take_all, take_more, length-map, get_or_past, get_or_default, get_or_push, get_or_append_left, length_push}
use Rattle.std.specs.List.{sum_by}
use Rattle.std.proofs.lemmas.List.Sums.{sum_by-set}
use Rattle.std.proofs.lemmas.List.Elements.{Contains-append_left, Contains-push, Contains-push_cases, All-push, All-map}
use Rattle.std.proofs.lemmas.List.Quantifiers.{all_pairs_push}
use Rattle.graph.specs.declared.circuit.Gate.{Gate}
use Rattle.graph.specs.Circuits.{variable}
use Rattle.graph.specs.WellFormed.{Reads, Needs, LeadsTo}
use Rattle.graph.specs.declared.ordering.Mark.{Mark}
use Rattle.graph.specs.declared.ordering.Mark.TheVariants.{Waiting, Open, Ordered, Stuck}
use Rattle.graph.specs.declared.ordering.Step.TheVariants.{Enter, Finish, Stick}
use Rattle.graph.specs.Faults.{LeadsIntoCycle}
use Rattle.graph.specs.Search.{lefts, left_in, mark_of, weight, IsOrderedBefore, Says, IsSearch, ArePlaces, StepIs}
use Rattle.graph.proofs.Cycles.{IsOnce, IsBeginning, left_at}

pub mark_same : (marks : List Mark) (v : ℕ) (m : Mark) → v < length marks → mark_of (set marks v m) v ≡ m
mark_same marks v m v_in = get_or-set_same marks v m Ordered v_in

pub mark_other : (marks : List Mark) (u v : ℕ) (m : Mark) → u ≢ v → mark_of (set marks v m) u ≡ mark_of marks u
mark_other marks u v m apart = get_or-set_other marks v u m Ordered apart

-- variables with different marks differ
apart_by : (marks : List Mark) (u v : ℕ) (a b : Mark) → mark_of marks u ≡ a → mark_of marks v ≡ b → (a ≡ b → ⊥) → u ≢ v
apart_by marks u v a b is_a is_b apart same = apart (sym is_a ∙ ap (mark_of marks) same ∙ is_b)

open_waiting : Open ≡ Waiting → ⊥
open_waiting e = cc

ordered_waiting : Ordered ≡ Waiting → ⊥
ordered_waiting e = cc

ordered_open : Ordered ≡ Open → ⊥
ordered_open e = cc

-- what is ordered stays so
left_stays : (gates : List Gate) (order : List ℕ) (p k : ℕ) → k < length order → left_in gates (order ++ p ∷ []) k ≡ left_in gates order k
left_stays gates order p k k_in = ap (λ q. get_or (lefts gates) q 0) (get_or_append_left order (p ∷ []) 0 k k_in)

before_stays : (gates : List Gate) (order : List ℕ) (p n v : ℕ) → n ≤ length order → IsOrderedBefore gates order n v → IsOrderedBefore gates (order ++ p ∷ []) n v
before_stays gates order p n v n_in h gate = let found = h gate in
    let inside : found.0 < n = found.1 in
    (found.0, inside, left_stays gates order p found.0 (omega arith) ∙ found.2)

before_later : (gates : List Gate) (order : List ℕ) (n k v : ℕ) → n ≤ k → IsOrderedBefore gates order n v → IsOrderedBefore gates order k v
before_later gates order n k v n_k h gate = let found = h gate in let inside : found.0 < n = found.1 in (found.0, omega arith, found.2)

says_pushed : (gates : List Gate) (order stack : List ℕ) (u v : ℕ) (m : Mark) → Says gates order stack v m → Says gates order (stack ++ u ∷ []) v m
says_pushed gates order stack u v Waiting h = h
says_pushed gates order stack u v Open h = Contains-append_left stack (u ∷ []) v h
says_pushed gates order stack u v Ordered h = h
says_pushed gates order stack u v Stuck h = h

says_popped : (gates : List Gate) (order rest : List ℕ) (u v : ℕ) (m : Mark) → v ≢ u → Says gates order (rest ++ u ∷ []) v m → Says gates order rest v m
says_popped gates order rest u v Waiting apart h = h
says_popped gates order rest u v Open apart h = elim (Contains-push_cases rest u v h) [ inl found ↦ found | inr same ↦ absurd (apart (sym same)) ]
says_popped gates order rest u v Ordered apart h = h
says_popped gates order rest u v Stuck apart h = h

says_ordered : (gates : List Gate) (order stack : List ℕ) (p v : ℕ) (m : Mark) → Says gates order stack v m → Says gates (order ++ p ∷ []) stack v m
says_ordered gates order stack p v Waiting h = h
says_ordered gates order stack p v Open h = h
says_ordered gates order stack p v Ordered h =
    before_later gates (order ++ p ∷ []) (length order) (length (order ++ p ∷ [])) v (omega (arith, length_push order p)) (before_stays gates order p (length order) v (omega arith) h)
says_ordered gates order stack p v Stuck h = h

pub beginning : (gates : List Gate) (marks : List Mark) (order stack : List ℕ) → IsOnce (lefts gates) → IsSearch gates marks order stack → IsBeginning gates order
beginning gates marks order stack once h = record { lefts_once = once; in_range = h.in_range; before = h.before }

-- a waiting variable goes on the stack, above one that needs it
pub entered : (gates : List Gate) (marks : List Mark) (order stack : List ℕ) (v : ℕ) → IsSearch gates marks order stack → v < length marks → mark_of marks v ≡ Waiting →
    ((k : ℕ) → k + 1 ≡ length stack → Needs gates (get_or stack k 0) v) → IsSearch gates (set marks v Open) order (stack ++ v ∷ [])
entered gates marks order stack v h v_in waiting needed =
    let long = length_push stack v in
    let front : (k : ℕ) → k < length stack → get_or (stack ++ v ∷ []) k 0 ≡ get_or stack k 0 = λ k k_in. get_or_append_left stack (v ∷ []) 0 k k_in in
    let last : get_or (stack ++ v ∷ []) (length stack) 0 ≡ v = get_or_push stack v 0 (length stack) refl in
    let on_stack : (k : ℕ) → k < length stack → get_or stack k 0 ≢ v = λ k k_in. apart_by marks (get_or stack k 0) v Open Waiting (h.opened k k_in) waiting open_waiting in
    let gate : Contains (lefts gates) v = subst (Says gates order stack v) waiting (h.say v) in
    record {
      say = λ u. elim (cases_eq u v) [
        | inl same ↦ rw (same, mark_same marks v Open v_in) (Contains-push stack v)
        | inr apart ↦ rw (mark_other marks u v Open apart) (says_pushed gates order stack v u (mark_of marks u) (h.say u))
      ];
      opened = λ k k_in. elim (cases_lt k (length stack)) [
        | inl inside ↦ rw (front k inside, mark_other marks (get_or stack k 0) v Open (on_stack k inside)) (h.opened k inside)
        | inr past ↦ let is_last : k ≡ length stack = omega (arith, long) in rw (is_last, last) (mark_same marks v Open v_in)
      ];
      gates_on = λ k k_in. elim (cases_lt k (length stack)) [
        | inl inside ↦ rw (front k inside) (h.gates_on k inside)
        | inr past ↦ let is_last : k ≡ length stack = omega (arith, long) in rw (is_last, last) gate
      ];
      linked = λ k k_in. elim (cases_lt (k + 1) (length stack)) [
        | inl inside ↦ rw (front k (omega arith), front (k + 1) inside) (h.linked k inside)
        | inr past ↦ let is_last : k + 1 ≡ length stack = omega (arith, long) in rw (front k (omega arith), is_last, last) (needed k is_last)
      ];
      distinct = all_pairs_push (λ a b. a ≢ b) stack v h.distinct (λ k d k_in. rw (get_or_default stack k d 0 k_in) (on_stack k k_in));
      in_range = h.in_range;
      once = h.once;
      ordered = λ k k_in. mark_other marks (left_in gates order k) v Open
          (apart_by marks (left_in gates order k) v Ordered Waiting (h.ordered k k_in) waiting ordered_waiting) ∙ h.ordered k k_in;
      before = h.before;
    }

-- what a search keeps when the top leaves the stack
record IsPopped (gates : List Gate) (marks : List Mark) (order rest : List ℕ) (u : ℕ) (m : Mark) : Type 0 where
  opened : (k : ℕ) → k < length rest → mark_of (set marks u m) (get_or rest k 0) ≡ Open
  gates_on : (k : ℕ) → k < length rest → Contains (lefts gates) (get_or rest k 0)
  linked : (k : ℕ) → k + 1 < length rest → Needs gates (get_or rest k 0) (get_or rest (k + 1) 0)
  distinct : AllPairs (λ a b. a ≢ b) rest
  ordered : (k : ℕ) → k < length order → mark_of (set marks u m) (left_in gates order k) ≡ Ordered
  top : mark_of marks u ≡ Open

popped : (gates : List Gate) (marks : List Mark) (order rest : List ℕ) (u : ℕ) (m : Mark) → IsSearch gates marks order (rest ++ u ∷ []) → IsPopped gates marks order rest u m
popped gates marks order rest u m h =
    let long = length_push rest u in
    let front : (k : ℕ) → k < length rest → get_or (rest ++ u ∷ []) k 0 ≡ get_or rest k 0 = λ k k_in. get_or_append_left rest (u ∷ []) 0 k k_in in
    let last : get_or (rest ++ u ∷ []) (length rest) 0 ≡ u = get_or_push rest u 0 (length rest) refl in
    let top : mark_of marks u ≡ Open = rw last at (h.opened (length rest) (omega (arith, long))) in
    record {
      opened = λ k k_in.
          let apart : get_or rest k 0 ≢ u = λ same. h.distinct k (length rest) 0 k_in (omega (arith, long)) (front k k_in ∙ same ∙ sym last) in
          mark_other marks (get_or rest k 0) u m apart ∙ (rw (front k k_in) at (h.opened k (omega (arith, long))));
      gates_on = λ k k_in. rw (front k k_in) at (h.gates_on k (omega (arith, long)));
      linked = λ k k_in. rw (front k (omega arith), front (k + 1) k_in) at (h.linked k (omega (arith, long)));
      distinct = λ i k d i_k k_in same. h.distinct i k d i_k (omega (arith, long))
          (get_or_append_left rest (u ∷ []) d i (omega arith) ∙ same ∙ sym (get_or_append_left rest (u ∷ []) d k k_in));
      ordered = λ k k_in. mark_other marks (left_in gates order k) u m
          (apart_by marks (left_in gates order k) u Ordered Open (h.ordered k k_in) top ordered_open) ∙ h.ordered k k_in;
      top = top;
    }

-- the top's right sides are ordered, so it is ordered
pub finished : (gates : List Gate) (marks : List Mark) (order rest : List ℕ) (u p : ℕ) → IsSearch gates marks order (rest ++ u ∷ []) → u < length marks → p < length gates →
    get_or (lefts gates) p 0 ≡ u → ((v : ℕ) (d : Gate) → Reads (get_or gates p d) v → mark_of marks v ≡ Ordered) → IsSearch gates (set marks u Ordered) (order ++ p ∷ []) rest
finished gates marks order rest u p h u_in p_in is_u reads_ordered =
    let q = popped gates marks order rest u Ordered h in
    let long = length_push order p in
    let front : (k : ℕ) → k < length order → get_or (order ++ p ∷ []) k 0 ≡ get_or order k 0 = λ k k_in. get_or_append_left order (p ∷ []) 0 k k_in in
    let last : get_or (order ++ p ∷ []) (length order) 0 ≡ p = get_or_push order p 0 (length order) refl in
    let left_last : left_in gates (order ++ p ∷ []) (length order) ≡ u = ap (λ r. get_or (lefts gates) r 0) last ∙ is_u in
    record {
      say = λ v. elim (cases_eq v u) [
        | inl same ↦ rw (same, mark_same marks u Ordered u_in) (λ _. (length order, omega (arith, long), left_last))
        | inr apart ↦ rw (mark_other marks v u Ordered apart) (says_ordered gates order rest p v (mark_of marks v) (says_popped gates order rest u v (mark_of marks v) apart (h.say v)))
      ];
      opened = q.opened;
      gates_on = q.gates_on;
      linked = q.linked;
      distinct = q.distinct;
      in_range = All-push (λ i. i < length gates) order p h.in_range p_in;
      once = all_pairs_push (λ a b. a ≢ b) order p h.once (λ k d k_in same.
          apart_by marks (left_in gates order k) u Ordered Open (h.ordered k k_in) q.top ordered_open
          (ap (λ r. get_or (lefts gates) r 0) (get_or_default order k 0 d k_in ∙ same) ∙ is_u));
      ordered = λ k k_in. elim (cases_lt k (length order)) [
        | inl inside ↦ rw (left_stays gates order p k inside) (q.ordered k inside)
        | inr past ↦ let is_last : k ≡ length order = omega (arith, long) in rw (is_last, left_last) (mark_same marks u Ordered u_in)
      ];
      before = λ k v d k_in reads. elim (cases_lt k (length order)) [
        | inl inside ↦ before_stays gates order p k v (omega arith) (h.before k v d inside (rw (front k inside) at reads))
        | inr past ↦ let is_last : k ≡ length order = omega (arith, long) in
            let reads_p : Reads (get_or gates p d) v = subst (λ r. Reads (get_or gates r d) v) (ap (λ r. get_or (order ++ p ∷ []) r 0) is_last ∙ last) reads in
            let known : IsOrderedBefore gates order (length order) v = subst (Says gates order (rest ++ u ∷ []) v) (reads_ordered v d reads_p) (h.say v) in
            rw is_last (before_stays gates order p (length order) v (omega arith) known)
      ];
    }

-- chains from the stack
leads_one : (gates : List Gate) (u v : ℕ) → Needs gates u v → LeadsTo gates u v
leads_one gates u v needs = ([], (needs, tt))

leads_more : (gates : List Gate) (u v w : ℕ) → Needs gates u v → LeadsTo gates v w → LeadsTo gates u w
leads_more gates u v w needs (vs, chain) = (v ∷ vs, (needs, chain))

-- each variable on the stack leads to what the top needs
climb : (gates : List Gate) (stack : List ℕ) (w n k : ℕ) → ((i : ℕ) → i + 1 < length stack → Needs gates (get_or stack i 0) (get_or stack (i + 1) 0)) → k + n + 1 ≡ length stack →
    Needs gates (get_or stack (length stack - 1) 0) w → LeadsTo gates (get_or stack k 0) w
climb gates stack w zero k linked above needs =
    let is_last : k ≡ length stack - 1 = omega arith in leads_one gates (get_or stack k 0) w (rw is_last needs)
climb gates stack w (suc n) k linked above needs =
    leads_more gates (get_or stack k 0) (get_or stack (k + 1) 0) w (linked k (omega arith)) (climb gates stack w n (k + 1) linked (omega arith) needs)

-- the top needs a variable that is on the stack or stuck, so it leads into a cycle
pub top_stuck : (gates : List Gate) (marks : List Mark) (order rest : List ℕ) (u v : ℕ) → IsSearch gates marks order (rest ++ u ∷ []) → Needs gates u v →
    (mark_of marks v ≡ Open) ⊎ (mark_of marks v ≡ Stuck) → LeadsIntoCycle gates u
top_stuck gates marks order rest u v h needs (inl is_open) =
    let stack : List ℕ = rest ++ u ∷ [] in
    let on : Contains stack v = subst (Says gates order stack v) is_open (h.say v) in
    let on_in : on.0 < length stack = on.1 in
    let is_v : get_or stack on.0 0 ≡ v = get_or_default stack on.0 0 v on.1 ∙ on.2 in
    let is_last : length stack - 1 ≡ length rest = omega (arith, length_push rest u) in
    let at_top : get_or stack (length stack - 1) 0 ≡ u = ap (λ q. get_or stack q 0) is_last ∙ get_or_push rest u 0 (length rest) refl in (
      v,
      leads_one gates u v needs,
      subst (λ q. LeadsTo gates q v) is_v
          (climb gates stack v (length stack - 1 - on.0) on.0 h.linked (omega arith) (rw at_top needs)),
    )
top_stuck gates marks order rest u v h needs (inr stuck) =
    let cycle : LeadsIntoCycle gates v = subst (Says gates order (rest ++ u ∷ []) v) stuck (h.say v) in
    (cycle.0, leads_more gates u v cycle.0 needs cycle.1, cycle.2)

pub stuck : (gates : List Gate) (marks : List Mark) (order rest : List ℕ) (u v : ℕ) → IsSearch gates marks order (rest ++ u ∷ []) → u < length marks → Needs gates u v →
    (mark_of marks v ≡ Open) ⊎ (mark_of marks v ≡ Stuck) → IsSearch gates (set marks u Stuck) order rest
stuck gates marks order rest u v h u_in needs closed =
    let q = popped gates marks order rest u Stuck h in
    record {
      say = λ x. elim (cases_eq x u) [
        | inl same ↦ rw (same, mark_same marks u Stuck u_in) (top_stuck gates marks order rest u v h needs closed)
        | inr apart ↦ rw (mark_other marks x u Stuck apart) (says_popped gates order rest u x (mark_of marks x) apart (h.say x))
      ];
      opened = q.opened;
      gates_on = q.gates_on;
      linked = q.linked;
      distinct = q.distinct;
      in_range = h.in_range;
      once = h.once;
      ordered = q.ordered;
      before = h.before;
    }

-- the top's gate, found by its place
pub record IsTop (gates : List Gate) (marks : List Mark) (places stack : List ℕ) (u : ℕ) : Type 0 where
  pub split : stack ≡ take (length stack - 1) stack ++ u ∷ []
  pub variable_in : u < length marks
  pub place_in : get_or places u 0 < length gates
  pub defines : get_or (lefts gates) (get_or places u 0) 0 ≡ u

split_last : (xs : List ℕ) → 0 < length xs → xs ≡ take (length xs - 1) xs ++ get_or xs (length xs - 1) 0 ∷ []
split_last xs some =
    let e : (length xs - 1) + 1 ≡ length xs = omega arith in
    sym (take_all (length xs) xs (omega arith)) ∙ ap (λ n. take n xs) (sym e) ∙ take_more xs (length xs - 1) 0 (omega arith)

pub is_top : (gates : List Gate) (marks : List Mark) (order places stack : List ℕ) (u i : ℕ) → IsSearch gates marks order stack → 0 < length stack → ArePlaces gates places →
    length places ≡ length marks → All (λ g. variable g.lhs < length places) gates → i ≡ length stack - 1 → u ≡ get_or stack i 0 → IsTop gates marks places stack u
is_top gates marks order places stack u i h some are long in_range is_i is_u =
    let at_end : u ≡ get_or stack (length stack - 1) 0 = is_u ∙ ap (λ q. get_or stack q 0) is_i in
    let gate : Contains (lefts gates) u = subst (Contains (lefts gates)) (sym at_end) (h.gates_on (length stack - 1) (omega arith)) in
    let g : ℕ = gate.0 in
    let g_in : g < length gates = (let p = gate.1 in omega (arith, p, length-map gates (λ q. variable q.lhs))) in
    let g_is : get_or (lefts gates) g 0 ≡ u = get_or_default (lefts gates) g 0 u gate.1 ∙ gate.2 in
    let place : get_or places u 0 ≡ g = ap (λ q. get_or places q 0) (sym g_is) ∙ are g g_in in
    let u_in : u < length places = subst (λ q. q < length places) g_is (All-map (λ v. v < length places) (λ q. variable q.lhs) gates in_range g 0 gate.1) in
    record {
      split = rw at_end (split_last stack some);
      variable_in = omega (arith, u_in, long);
      place_in = rw place g_in;
      defines = rw place g_is;
    }

-- what the gate at a place reads, its variable needs
pub needs_at : (gates : List Gate) (p u v : ℕ) (d : Gate) → p < length gates → get_or (lefts gates) p 0 ≡ u → Reads (get_or gates p d) v → Needs gates u v
needs_at gates p u v d p_in is_u reads =
    let g : Gate = get_or gates p d in
    (p, g, p_in, get_or_default gates p g d p_in, (sym (left_at gates p d p_in) ∙ is_u, reads))

-- a waiting variable has a mark
pub waiting_in : (marks : List Mark) (v : ℕ) → mark_of marks v ≡ Waiting → v < length marks
waiting_in marks v waiting = elim (cases_lt v (length marks)) [
  | inl inside ↦ inside
  | inr past ↦ absurd (ordered_waiting (sym (get_or_past marks v Ordered past) ∙ waiting))
]

-- what the step does, by what the top's gate asks for
pub enter_step : (gates : List Gate) (marks : List Mark) (order places stack : List ℕ) (u v : ℕ) (d : Gate) → IsSearch gates marks order stack → IsTop gates marks places stack u →
    0 < length stack → u ≡ get_or stack (length stack - 1) 0 → StepIs marks (get_or gates (get_or places u 0) d) (Enter v) → IsSearch gates (set marks v Open) order (stack ++ v ∷ [])
enter_step gates marks order places stack u v d h top some is_u step =
    entered gates marks order stack v h (waiting_in marks v step.1) step.1 (λ k k_end.
    let is_k : k ≡ length stack - 1 = omega arith in
    rw is_k (subst (λ q. Needs gates q v) is_u (needs_at gates (get_or places u 0) u v d top.place_in top.defines step.0)))

pub finish_step : (gates : List Gate) (marks : List Mark) (order places stack : List ℕ) (u : ℕ) (d : Gate) → IsSearch gates marks order stack → IsTop gates marks places stack u →
    StepIs marks (get_or gates (get_or places u 0) d) Finish → IsSearch gates (set marks u Ordered) (order ++ get_or places u 0 ∷ []) (take (length stack - 1) stack)
finish_step gates marks order places stack u d h top step =
    finished gates marks order (take (length stack - 1) stack) u (get_or places u 0) (subst (IsSearch gates marks order) top.split h) top.variable_in top.place_in top.defines
    (λ v e reads. step v (subst (λ g. Reads g v) (get_or_default gates (get_or places u 0) e d top.place_in) reads))

pub stick_step : (gates : List Gate) (marks : List Mark) (order places stack : List ℕ) (u : ℕ) (d : Gate) → IsSearch gates marks order stack → IsTop gates marks places stack u →
    StepIs marks (get_or gates (get_or places u 0) d) Stick → IsSearch gates (set marks u Stuck) order (take (length stack - 1) stack)
stick_step gates marks order places stack u d h top step =
    stuck gates marks order (take (length stack - 1) stack) u step.0 (subst (IsSearch gates marks order) top.split h) top.variable_in
    (needs_at gates (get_or places u 0) u step.0 d top.place_in top.defines step.1) step.2

-- the first variable goes on the empty stack
pub entered_first : (gates : List Gate) (marks : List Mark) (order stack : List ℕ) (v : ℕ) → IsSearch gates marks order stack → stack ≡ [] → v < length marks → mark_of marks v ≡ Waiting →
    IsSearch gates (set marks v Open) order (stack ++ v ∷ [])
entered_first gates marks order stack v h empty v_in waiting = entered gates marks order stack v h v_in waiting (λ k k_end. absurd (let e : length stack ≡ 0 = ap length empty in omega arith))

-- and no longer waits
pub waits_less : (marks : List Mark) (v u : ℕ) → v < length marks → mark_of (set marks v Open) u ≡ Waiting → (mark_of marks u ≡ Waiting) × (u ≢ v)
waits_less marks v u v_in waits = elim (cases_eq u v) [
  | inl same ↦ absurd (open_waiting (sym (mark_same marks v Open v_in) ∙ ap (mark_of (set marks v Open)) (sym same) ∙ waits))
  | inr apart ↦ (sym (mark_other marks u v Open apart) ∙ waits, apart)
]

-- ---- what a new mark leaves

pub marked_less : (marks : List Mark) (v : ℕ) (m : Mark) → v < length marks → weight m < weight (mark_of marks v) → sum_by weight (set marks v m) < sum_by weight marks
marked_less marks v m v_in less = let e = sum_by-set weight marks v m Ordered v_in in omega (arith, e, less)

pub entered_less : (marks : List Mark) (v : ℕ) → mark_of marks v ≡ Waiting → sum_by weight (set marks v Open) < sum_by weight marks
entered_less marks v waiting = marked_less marks v Open (waiting_in marks v waiting) (subst (λ m. 1 < weight m) (sym waiting) (omega arith))

pub left_less : (gates : List Gate) (marks : List Mark) (order places stack : List ℕ) (u : ℕ) (m : Mark) → IsSearch gates marks order stack → IsTop gates marks places stack u → 0 < length stack →
    u ≡ get_or stack (length stack - 1) 0 → weight m ≡ 0 → sum_by weight (set marks u m) < sum_by weight marks
left_less gates marks order places stack u m h top some is_u light =
    let opened : mark_of marks u ≡ Open = subst (λ q. mark_of marks q ≡ Open) (sym is_u) (h.opened (length stack - 1) (omega (arith, some))) in
    marked_less marks u m top.variable_in (subst (λ q. weight m < weight q) (sym opened) (omega (arith, light)))

pub marked_waits : (marks : List Mark) (v u : ℕ) (m : Mark) → v < length marks → (m ≡ Waiting → ⊥) → mark_of (set marks v m) u ≡ Waiting → mark_of marks u ≡ Waiting
marked_waits marks v u m v_in other waits = elim (cases_eq u v) [
  | inl same ↦ absurd (other (sym (mark_same marks v m v_in) ∙ ap (mark_of (set marks v m)) (sym same) ∙ waits))
  | inr apart ↦ sym (mark_other marks u v m apart) ∙ waits
]
