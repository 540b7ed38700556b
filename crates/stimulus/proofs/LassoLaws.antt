-- Looking for a lasso.
use Rattle.std.proofs.Common.{◌≡◌, ℕ, ◌+◌, ◌-◌, ◌<◌, ◌≤◌, Bool, true, false, List, [], ◌∷◌, length, get_or, set, drop, Option, Some, None, IfSome, refl, sym, ap, ◌∙◌, arith, subst, below_more, inl, inr, length-set, length-drop, replicate}
use Rattle.std.specs.Prelude.{◌⊎◌}
use Rattle.std.proofs.lemmas.Bool.{cases_lt}
use Rattle.std.proofs.lemmas.List.{get_or-drop, get_or-replicate, drop_more}
use Rattle.std.proofs.lemmas.Option.{same_Some}
use Rattle.graph.specs.declared.circuit.Lit.{Lit}
use Rattle.graph.specs.declared.parts.Parts.{Parts}
use Rattle.graph.specs.Circuits.{Valuation, value_of, place, state_of, at, IsSetWithin}
use Rattle.graph.proofs.Filled.{place-set_same, place-set_other}
use Rattle.simulate.specs.Replays.{Replayed}
use Rattle.stimulus.specs.Shown.{ClosesLasso}
use Rattle.stimulus.specs.Courses.{Course, NeverMeets, MeetsAt, IsSetBefore, Marks}
use Rattle.stimulus.proofs.CourseLaws.{Moves, course_goes, course_length}

-- what holds of a value that is there
pub if_some_at : {A : Type 0} (P : A → Type 0) (o : Option A) (w : A) → IfSome o P → o ≡ Some w → P w
if_some_at P None w h e = absurd cc
if_some_at P (Some x) w h e = subst P (same_Some x w e) h

-- ---- up to a state

-- no time before i had the state, and from i the other lines go on
pub record Unmet (m : Parts) (first : List Bool) (lines : List (List Bool)) (wanted : List Bool) (i : ℕ) (now : Replayed) : Type 0 where
  pub circuit : now.circuit ≡ m
  pub goes_on : (x : List Valuation) → Course m first lines x → Course m now.state (drop i lines) (drop i x)
  pub before : (x : List Valuation) → Course m first lines x → (k : ℕ) → k < i → state_of m (at x k) ≡ wanted → ⊥

pub unmet_none : (m : Parts) (lines : List (List Bool)) (wanted : List Bool) (now : Replayed) → now.circuit ≡ m → Unmet m now.state lines wanted 0 now
unmet_none m lines wanted now is_m = record { circuit = is_m; goes_on = λ x c. c; before = λ x c k k_in. absurd (omega (arith, k_in)) }

pub unmet_more : (m : Parts) (first line : List Bool) (lines : List (List Bool)) (wanted : List Bool) (i : ℕ) (now after : Replayed) (w : Valuation) → i < length lines → get_or lines i [] ≡ line
    → (now.state ≡ wanted → ⊥) → Unmet m first lines wanted i now → Moves m now.state line after w → Unmet m first lines wanted (i + 1) after
unmet_more m first line lines wanted i now after w i_in is_line other u s = record {
  circuit = s.circuit;
  goes_on = λ x c.
      let g = course_goes m first now.state line lines i w x i_in is_line s.one c (u.goes_on x c) in
      subst (λ (q : List Bool). Course m q (drop (i + 1) lines) (drop (i + 1) x)) (sym s.moves) g.later;
  before = λ x c.
      let g = course_goes m first now.state line lines i w x i_in is_line s.one c (u.goes_on x c) in
      below_more (λ k. state_of m (at x k) ≡ wanted → ⊥) i (u.before x c) (λ e. other (sym g.had_state ∙ e));
}

pub unmet_met : (m : Parts) (first : List Bool) (lines : List (List Bool)) (wanted : List Bool) (i : ℕ) (now : Replayed) → i < length lines → now.state ≡ wanted → Unmet m first lines wanted i now
    → MeetsAt m first lines wanted now.state i
unmet_met m first lines wanted i now i_in e u = record { inside = i_in; meets = e; goes_on = u.goes_on; before = u.before }

pub unmet_never : (m : Parts) (first : List Bool) (lines : List (List Bool)) (wanted : List Bool) (i : ℕ) (now : Replayed) → i ≡ length lines → Unmet m first lines wanted i now → NeverMeets m first lines wanted
unmet_never m first lines wanted i now is_i u x c k k_in = u.before x c k (omega (arith, is_i, k_in, course_length m first lines x c))

-- ---- marks

-- of the first i literals those that the valuation sets were marked
pub record Marked (wanted : List Lit) (w : Valuation) (i : ℕ) (before after : List Bool) : Type 0 where
  pub long : length after ≡ length before
  pub set : (k : ℕ) (d : Lit) → k < i → (place before k ≡ true) ⊎ (value_of w (get_or wanted k d) ≡ true) → place after k ≡ true
  pub only : (k : ℕ) (d : Lit) → k < i → place after k ≡ true → (place before k ≡ true) ⊎ (value_of w (get_or wanted k d) ≡ true)
  pub others : (k : ℕ) → i ≤ k → place after k ≡ place before k

pub marked_none : (wanted : List Lit) (w : Valuation) (before : List Bool) → Marked wanted w 0 before before
marked_none wanted w before = record { long = refl; set = λ k d k_in. absurd (omega (arith, k_in)); only = λ k d k_in. absurd (omega (arith, k_in)); others = λ k k_in. refl }

pub marked_set : (wanted : List Lit) (w : Valuation) (i : ℕ) (before after : List Bool) → i < length before → ((d : Lit) → value_of w (get_or wanted i d) ≡ true)
    → Marked wanted w i before after → Marked wanted w (i + 1) before (set after i true)
marked_set wanted w i before after i_in on h = record {
  long = length-set after i true ∙ h.long;
  set = λ k d. below_more (λ k. (place before k ≡ true) ⊎ (value_of w (get_or wanted k d) ≡ true) → place (set after i true) k ≡ true) i
      (λ k k_in s. place-set_other after k i true (λ e. omega (arith, e, k_in)) ∙ h.set k d k_in s)
      (λ s. place-set_same after i true (omega (arith, i_in, h.long))) k;
  only = λ k d. below_more (λ k. place (set after i true) k ≡ true → (place before k ≡ true) ⊎ (value_of w (get_or wanted k d) ≡ true)) i
      (λ k k_in s. h.only k d k_in (sym (place-set_other after k i true (λ e. omega (arith, e, k_in))) ∙ s))
      (λ s. inr (on d)) k;
  others = λ k k_in. place-set_other after k i true (λ e. omega (arith, e, k_in)) ∙ h.others k (omega (arith, k_in));
}

pub marked_kept : (wanted : List Lit) (w : Valuation) (i : ℕ) (before after : List Bool) → ((d : Lit) → value_of w (get_or wanted i d) ≡ false)
    → Marked wanted w i before after → Marked wanted w (i + 1) before after
marked_kept wanted w i before after off h = record {
  long = h.long;
  set = λ k d. below_more (λ k. (place before k ≡ true) ⊎ (value_of w (get_or wanted k d) ≡ true) → place after k ≡ true) i
      (λ k k_in s. h.set k d k_in s)
      (λ s. elim s [ inl b ↦ h.others i (omega arith) ∙ b | inr v ↦ let no : ⊥ = (let e : false ≡ true = sym (off d) ∙ v in cc) in absurd no ]) k;
  only = λ k d. below_more (λ k. place after k ≡ true → (place before k ≡ true) ⊎ (value_of w (get_or wanted k d) ≡ true)) i
      (λ k k_in s. h.only k d k_in s)
      (λ s. inl (sym (h.others i (omega arith)) ∙ s)) k;
  others = λ k k_in. h.others k (omega (arith, k_in));
}

pub marked_all : (wanted : List Lit) (w : Valuation) (i : ℕ) (before after : List Bool) → i ≡ length wanted → Marked wanted w i before after → Marks wanted (w ∷ []) 1 before after
marked_all wanted w i before after is_i h = record {
  long = h.long;
  set = λ k d k_in s. h.set k d (omega (arith, is_i, k_in)) (elim s [
    | inl b ↦ inl b
    | inr t ↦ let zero_is : t.0 ≡ 0 = omega (arith, t.1) in inr (subst (λ (q : ℕ). value_of (at (w ∷ []) q) (get_or wanted k d) ≡ true) zero_is t.2)
  ]);
  only = λ k d k_in s. elim (h.only k d (omega (arith, is_i, k_in)) s) [ inl b ↦ inl b | inr v ↦ inr (0, omega arith, v) ];
}

-- ---- marks of several times

pub marks_none : (wanted : List Lit) (x : List Valuation) (before : List Bool) → Marks wanted x 0 before before
marks_none wanted x before = record { long = refl; set = λ k d k_in s. elim s [ inl b ↦ b | inr t ↦ absurd (omega (arith, t.1)) ]; only = λ k d k_in s. inl s }

pub marks_more : (wanted : List Lit) (x : List Valuation) (i : ℕ) (w : Valuation) (before between after : List Bool) → at x i ≡ w → Marks wanted x i before between → Marks wanted (w ∷ []) 1 between after
    → Marks wanted x (i + 1) before after
marks_more wanted x i w before between after is_w p q = record {
  long = q.long ∙ p.long;
  set = λ k d k_in s. q.set k d k_in (elim s [
    | inl b ↦ inl (p.set k d k_in (inl b))
    | inr t ↦ elim (cases_lt t.0 i) [
      | inl earlier ↦ inl (p.set k d k_in (inr (t.0, earlier, t.2)))
      | inr last ↦
          let is_i : t.0 ≡ i = omega (arith, t.1, last) in
          let here : value_of (at x i) (get_or wanted k d) ≡ true = subst (λ (q : ℕ). value_of (at x q) (get_or wanted k d) ≡ true) is_i t.2 in
          inr (0, omega arith, subst (λ (v : Valuation). value_of v (get_or wanted k d) ≡ true) is_w here)
    ]
  ]);
  only = λ k d k_in s. elim (q.only k d k_in s) [
    | inl b ↦ elim (p.only k d k_in b) [ inl c ↦ inl c | inr t ↦ inr (t.0, omega (arith, t.1), t.2) ]
    | inr t ↦
        let zero_is : t.0 ≡ 0 = omega (arith, t.1) in
        let here : value_of w (get_or wanted k d) ≡ true = subst (λ (q : ℕ). value_of (at (w ∷ []) q) (get_or wanted k d) ≡ true) zero_is t.2 in
        inr (i, omega arith, subst (λ (v : Valuation). value_of v (get_or wanted k d) ≡ true) (sym is_w) here)
  ];
}

-- the first i lines were stepped, and the literals that were set are marked
pub record Gathered (m : Parts) (first : List Bool) (lines : List (List Bool)) (wanted : List Lit) (before after : List Bool) (i : ℕ) (now : Replayed) : Type 0 where
  pub circuit : now.circuit ≡ m
  pub long : length after ≡ length before
  pub goes_on : (x : List Valuation) → Course m first lines x → Course m now.state (drop i lines) (drop i x)
  pub marks : (x : List Valuation) → Course m first lines x → Marks wanted x i before after

pub gathered_none : (m : Parts) (lines : List (List Bool)) (wanted : List Lit) (before : List Bool) (now : Replayed) → now.circuit ≡ m → Gathered m now.state lines wanted before before 0 now
gathered_none m lines wanted before now is_m = record { circuit = is_m; long = refl; goes_on = λ x c. c; marks = λ x c. marks_none wanted x before }

pub gathered_more : (m : Parts) (first line : List Bool) (lines : List (List Bool)) (wanted : List Lit) (before between after : List Bool) (i : ℕ) (now later : Replayed) (w : Valuation) → i < length lines
    → get_or lines i [] ≡ line → length after ≡ length between → Gathered m first lines wanted before between i now → Moves m now.state line later w → Marks wanted (w ∷ []) 1 between after
    → Gathered m first lines wanted before after (i + 1) later
gathered_more m first line lines wanted before between after i now later w i_in is_line same g s q = record {
  circuit = s.circuit;
  long = same ∙ g.long;
  goes_on = λ x c.
      let n = course_goes m first now.state line lines i w x i_in is_line s.one c (g.goes_on x c) in
      subst (λ (q : List Bool). Course m q (drop (i + 1) lines) (drop (i + 1) x)) (sym s.moves) n.later;
  marks = λ x c.
      let n = course_goes m first now.state line lines i w x i_in is_line s.one c (g.goes_on x c) in
      marks_more wanted x i w before between after n.is_now (g.marks x c) q;
}

pub gathered_all : (m : Parts) (first : List Bool) (lines : List (List Bool)) (wanted : List Lit) (before after : List Bool) (i : ℕ) (now : Replayed) → i ≡ length lines
    → Gathered m first lines wanted before after i now → (x : List Valuation) → Course m first lines x → Marks wanted x (length x) before after
gathered_all m first lines wanted before after i now is_i g x c =
    subst (λ (k : ℕ). Marks wanted x k before after) (is_i ∙ sym (course_length m first lines x c)) (g.marks x c)

-- where every mark is set, further times set no more
pub marks_whole : (wanted : List Lit) (x : List Valuation) (i : ℕ) (before after : List Bool) → i ≤ length x → length before ≡ length wanted → ((k : ℕ) → k < length after → place after k ≡ true) → Marks wanted x i before after
    → Marks wanted x (length x) before after
marks_whole wanted x i before after i_in fits all p = record {
  long = p.long;
  set = λ k d k_in s. all k (omega (arith, p.long, fits, k_in));
  only = λ k d k_in s. elim (p.only k d k_in s) [ inl b ↦ inl b | inr t ↦ inr (t.0, omega (arith, t.1, i_in), t.2) ];
}

pub gathered_early : (m : Parts) (first : List Bool) (lines : List (List Bool)) (wanted : List Lit) (before after : List Bool) (i : ℕ) (now : Replayed) → i ≤ length lines → length before ≡ length wanted
    → ((k : ℕ) → k < length after → place after k ≡ true) → Gathered m first lines wanted before after i now → (x : List Valuation) → Course m first lines x → Marks wanted x (length x) before after
gathered_early m first lines wanted before after i now i_in fits all g x c =
    marks_whole wanted x i before after (omega (arith, i_in, course_length m first lines x c)) fits all (g.marks x c)

-- ---- the first time of the state is the best

-- a time of the rest is one of the whole
pub set_within : (x : List Valuation) (i : ℕ) (a : Lit) → i ≤ length x → IsSetBefore (drop i x) (length (drop i x)) a → IsSetWithin x i (length x) a
set_within x i a i_in t =
    (i + t.0, omega arith, omega (arith, t.1, length-drop i x), subst (λ (v : Valuation). value_of v a ≡ true) (get_or-drop i x t.0 []) t.2)

set_before : (x : List Valuation) (i : ℕ) (a : Lit) → IsSetWithin x i (length x) a → IsSetBefore (drop i x) (length (drop i x)) a
set_before x i a t =
    let k : ℕ = t.0 - i in
    let back : i + k ≡ t.0 = omega (arith, t.1) in
    (k, omega (arith, t.1, t.2, length-drop i x), subst (λ (v : Valuation). value_of v a ≡ true) (ap (λ (q : ℕ). at x q) (sym back) ∙ sym (get_or-drop i x k [])) t.3)

-- where every mark is set, there is a lasso
pub lasso_found : (m : Parts) (first : List Bool) (lines : List (List Bool)) (wanted : List Lit) (closing now : List Bool) (x : List Valuation) (i : ℕ) (marks : List Bool) → MeetsAt m first lines closing now i
    → Course m first lines x → state_of m (at x i) ≡ now → length marks ≡ length wanted → Marks wanted (drop i x) (length (drop i x)) (replicate (length wanted) false) marks
    → ((k : ℕ) → k < length marks → place marks k ≡ true) → ClosesLasso m wanted closing x i
lasso_found m first lines wanted closing now x i marks meets c here long p all =
    let long_x : length x ≡ length lines = course_length m first lines x c in
    let inside = meets.inside in
    record {
      inside = omega (arith, inside, long_x);
      closes = here ∙ meets.meets;
      sets = λ k d k_in. set_within x i (get_or wanted k d) (omega (arith, inside, long_x)) (elim (p.only k d k_in (all k (omega (arith, long, k_in)))) [
        | inl b ↦ let no : ⊥ = (let e : false ≡ true = sym (get_or-replicate (length wanted) k false false k_in) ∙ b in cc) in absurd no
        | inr t ↦ t
      ]);
    }

-- where there is a lasso from some time, every mark is set
pub lasso_marks : (m : Parts) (first : List Bool) (lines : List (List Bool)) (wanted : List Lit) (closing now : List Bool) (x : List Valuation) (i start : ℕ) (marks : List Bool) → MeetsAt m first lines closing now i
    → Course m first lines x → length marks ≡ length wanted → Marks wanted (drop i x) (length (drop i x)) (replicate (length wanted) false) marks → ClosesLasso m wanted closing x start
    → (k : ℕ) → k < length marks → place marks k ≡ true
lasso_marks m first lines wanted closing now x i start marks meets c long p lasso k k_in =
    let d : Lit = record { 0 = 0 } in
    let in_wanted : k < length wanted = omega (arith, long, k_in) in
    let late : i ≤ start = elim (cases_lt start i) [ inl earlier ↦ absurd (meets.before x c start earlier lasso.closes) | inr from ↦ omega (arith, from) ] in
    let t = lasso.sets k d in_wanted in
    p.set k d in_wanted (inr (set_before x i (get_or wanted k d) (t.0, omega (arith, t.1, late), t.2, t.3)))

-- where the state never comes, there is no lasso
pub lasso_never : (m : Parts) (first : List Bool) (lines : List (List Bool)) (wanted : List Lit) (closing : List Bool) (x : List Valuation) (start : ℕ) → NeverMeets m first lines closing
    → Course m first lines x → ClosesLasso m wanted closing x start → ⊥
lasso_never m first lines wanted closing x start never c lasso = never x c start lasso.inside lasso.closes

first_of : (m : Parts) (state : List Bool) (lines : List (List Bool)) (w : Valuation) (z : List Valuation) → Course m state lines (w ∷ z) → state_of m w ≡ state
first_of m state [] w z c = absurd c
first_of m state (l ∷ lines) w z c = c.0.has_state

first_state : (m : Parts) (state : List Bool) (lines : List (List Bool)) (y : List Valuation) (w : Valuation) (z : List Valuation) → y ≡ w ∷ z → Course m state lines y → state_of m w ≡ state
first_state m state lines y w z e c = first_of m state lines w z (subst (λ (r : List Valuation). Course m state lines r) e c)

-- the state that was met is that of its time
pub met_state : (m : Parts) (first : List Bool) (lines : List (List Bool)) (closing now : List Bool) (x : List Valuation) (i : ℕ) → MeetsAt m first lines closing now i → Course m first lines x → state_of m (at x i) ≡ now
met_state m first lines closing now x i meets c =
    let inside : i < length x = omega (arith, meets.inside, course_length m first lines x c) in
    first_state m now (drop i lines) (drop i x) (at x i) (drop (i + 1) x) (drop_more x i [] inside) (meets.goes_on x c)
