-- What satisfies the clauses that are given is completed to what gives each function its value.
use Rattle.std.proofs.Common.{◌≡◌, ◌≢◌, ℕ, zero, suc, ◌<◌, ◌⊎◌, Bool, List, get_or, ℤ, pos, negsuc, unsigned_abs, inl, inr, refl, sym, ◌∙◌, subst, arith}
use Rattle.std.proofs.lemmas.Bool.{cases_lt, ne_eqb}
use Rattle.lrat.specs.Literals.{is_true, IsSatisfied, IsLiteral}
use Rattle.cnf.specs.Meaning.{AreSatisfied}
use Rattle.cones.specs.Marks.{IsMarked}
use Rattle.std.proofs.lemmas.List.Elements.{All-contains}
use Rattle.unrolling.specs.declared.function.Function.{Function}
use Rattle.unrolling.specs.declared.encoder.Encoder.{Encoder}
use Rattle.unrolling.specs.Encodings.{function_at, function_value, IsBelow, IsGate, IsDefined, AreBelow, IsEncoding, AreKept, told}
use Rattle.unrolling.specs.Demands.{AreGiven, AreOver}
use Rattle.unrolling.proofs.Encoded.{changed, changed_here, four_weaker, same_true, same_value}

cases_zero : (l : ℤ) → (l ≡ pos 0) ⊎ (l ≢ pos 0)
cases_zero (pos zero) = inl refl
cases_zero (pos (suc n)) = inr (λ e. cc)
cases_zero (negsuc n) = inr (λ e. cc)

changed_apart : (v : ℕ → Bool) (k x : ℕ) (b : Bool) → x ≢ k → changed v k b x ≡ v x
changed_apart v k x b apart = rw (ne_eqb x k apart) refl

-- the first n variables that are functions have their values, and what is no function is as it was
record IsCompleted (fs : List Function) (w : ℕ → Bool) (n : ℕ) : Type 0 where
  u : ℕ → Bool
  gates : (x : ℕ) → x < n → IsGate fs x → u x ≡ function_value u (function_at fs x)
  others : (x : ℕ) → (IsGate fs x → ⊥) → u x ≡ w x

completed : (fs : List Function) (w : ℕ → Bool) → AreBelow fs → (n : ℕ) → IsCompleted fs w n
completed fs w below zero = record { u = w; gates = λ x x_in gate. absurd (omega (arith, x_in)); others = λ x none. refl }
completed fs w below (suc n) =
    let h : IsCompleted fs w n = completed fs w below n in
    elim (cases_zero (function_at fs n).leaves.0) [
      | inl none ↦ record {
        u = h.u;
        gates = λ x x_in gate. elim (cases_lt x n) [
          | inl before ↦ h.gates x before gate
          | inr last ↦ let is : x ≡ n = omega (arith, x_in, last) in absurd (gate (subst (λ q. (function_at fs q).leaves.0 ≡ pos 0) (sym is) none))
        ];
        others = h.others;
      }
      | inr here ↦
          let b : Bool = function_value h.u (function_at fs n) in
          let u : ℕ → Bool = changed h.u n b in
          let low : (l : ℤ) → unsigned_abs l < n → is_true u l ≡ is_true h.u l = λ l l_in. same_true u h.u l (changed_apart h.u n (unsigned_abs l) b (λ e. omega (arith, e, l_in))) in
          record {
            u = u;
            gates = λ x x_in gate.
                let leaves = four_weaker (IsBelow x) (λ l. is_true u l ≡ is_true h.u l) (function_at fs x).leaves (λ l is. low l (let l_in = is.1 in omega (arith, l_in, x_in))) (below x gate) in
                let same : function_value u (function_at fs x) ≡ function_value h.u (function_at fs x) = same_value u h.u (function_at fs x) leaves in
                elim (cases_lt x n) [
                  | inl before ↦ changed_apart h.u n x b (λ e. omega (arith, e, before)) ∙ h.gates x before gate ∙ sym same
                  | inr last ↦
                      let is : n ≡ x = omega (arith, x_in, last) in
                      let value : u n ≡ function_value h.u (function_at fs n) = changed_here h.u n b in
                      let value_x : u x ≡ function_value h.u (function_at fs x) = subst (λ q. u q ≡ function_value h.u (function_at fs q)) is value in
                      value_x ∙ sym same
                ];
            others = λ x none. changed_apart h.u n x b (λ e. none (subst (λ q. (function_at fs q).leaves.0 ≢ pos 0) (sym e) here)) ∙ h.others x none;
          }
    ]

-- an assignment in which all functions have their values and the clauses are satisfied, the same where it is marked and where there is no function
pub record IsWhole (e : Encoder) (marks : List Bool) (cs : List (List ℤ)) (w : ℕ → Bool) : Type 0 where
  pub u : ℕ → Bool
  pub kept : AreKept u (told e cs)
  pub marked : (x : ℕ) → IsMarked marks x → u x ≡ w x
  pub others : (x : ℕ) → (IsGate e.functions.items x → ⊥) → u x ≡ w x

marked_same : (e : Encoder) (marks : List Bool) (cs : List (List ℤ)) (w u : ℕ → Bool) → AreGiven e marks cs → AreSatisfied w cs → IsDefined e.functions.items u →
    ((x : ℕ) → (IsGate e.functions.items x → ⊥) → u x ≡ w x) → (n x : ℕ) → x < n → IsMarked marks x → u x ≡ w x
marked_same e marks cs w u given satisfied defined others zero x x_in on = absurd (omega (arith, x_in))
marked_same e marks cs w u given satisfied defined others (suc n) x x_in on = elim (cases_zero (function_at e.functions.items x).leaves.0) [
  | inl none ↦ others x (λ gate. gate none)
  | inr gate ↦ given.decided x on gate w u satisfied defined (λ y y_in y_on. marked_same e marks cs w u given satisfied defined others n y (omega (arith, x_in, y_in)) y_on)
]

satisfied_same : (n : ℕ) (marks : List Bool) (cs : List (List ℤ)) (w u : ℕ → Bool) → AreOver n marks cs → ((x : ℕ) → IsMarked marks x → u x ≡ w x) → AreSatisfied w cs → AreSatisfied u cs
satisfied_same n marks cs w u over same all k d k_in =
    let one : IsSatisfied w (get_or cs k d) = all k d k_in in
    let there = All-contains (λ l. IsLiteral n l × IsMarked marks (unsigned_abs l)) (get_or cs k d) one.0 (over k d k_in) one.1 in
    (one.0, one.1, same_true u w one.0 (same (unsigned_abs one.0) there.1) ∙ one.2)

pub made_whole : (e : Encoder) (marks : List Bool) (cs : List (List ℤ)) (w : ℕ → Bool) → IsEncoding e → AreGiven e marks cs → (IsGate e.functions.items 1 → ⊥) → AreSatisfied w cs → IsWhole e marks cs w
made_whole e marks cs w encoding given free satisfied =
    let fs : List Function = e.functions.items in
    let h : IsCompleted fs w (suc e.variables) = completed fs w encoding.below (suc e.variables) in
    let defined : IsDefined fs h.u = record { truth = h.others 1 free ∙ given.truth w satisfied; gates = λ x gate. h.gates x (let le = encoding.used x gate in omega (arith, le)) gate } in
    let marked : (x : ℕ) → IsMarked marks x → h.u x ≡ w x = λ x on. marked_same e marks cs w h.u given satisfied defined h.others (suc x) x (omega arith) on in
    record { u = h.u; kept = (defined, satisfied_same e.variables marks cs w h.u given.clauses marked satisfied); marked = marked; others = h.others }
