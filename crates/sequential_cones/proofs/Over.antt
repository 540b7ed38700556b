-- What marks say of literals, and that all variables are a cone.
use Rattle.std.proofs.Common.{◌≡◌, ◌↔◌, IsTrue, ℕ, ◌+◌, ◌≤◌, Bool, true, false, List, [], ◌∷◌, get_or, refl, arith, All, Result, Ok, Err, IfOk, replicate, ◌∙◌, sym, ap}
use Rattle.std.proofs.lemmas.Bool.{and_parts, and_from}
use Rattle.std.proofs.lemmas.List.{get_or-replicate}
use Rattle.std.proofs.lemmas.List.Elements.{All-nil, All-cons, All-head, All-tail}
use Rattle.graph.specs.declared.circuit.Lit.{Lit}
use Rattle.graph.specs.declared.parts.Parts.{Parts}
use Rattle.graph.specs.Circuits.{variable, place}
use Rattle.graph.specs.WellFormed.{IsWellFormed}
use Rattle.live_safe.proofs.Ranges.{AreIn, are_in}
use Rattle.cones.specs.Marks.{IsMarked}
use Rattle.sequential_cones.specs.Cones.{IsConeOf, is_over}

-- the marks say whether all literals are marked
pub over_marked : (marks : List Bool) (lits : List Lit) → IsTrue (is_over marks lits) ↔ All (λ a. IsMarked marks (variable a)) lits
over_marked marks [] = (λ h. All-nil (λ a. IsMarked marks (variable a)), λ h. refl)
over_marked marks (a ∷ lits) =
    let P : Lit → Type 0 = λ b. IsMarked marks (variable b) in
    let rest = over_marked marks lits in (
      λ h. let both = and_parts (place marks (variable a)) (is_over marks lits) h in All-cons P a lits both.0 (rest.0 both.1),
      λ h. and_from (place marks (variable a)) (is_over marks lits) (All-head P a lits h) (rest.1 (All-tail P a lits h)),
    )

same_truth : (a b : Bool) → (IsTrue a → IsTrue b) → (IsTrue b → IsTrue a) → a ≡ b
same_truth true true f g = refl
same_truth true false f g = sym (f refl)
same_truth false true f g = g refl
same_truth false false f g = refl

pub over_is : (marks : List Bool) (lits : List Lit) (b : Bool) → (IsTrue b ↔ All (λ a. IsMarked marks (variable a)) lits) → b ≡ is_over marks lits
over_is marks lits b h = let o = over_marked marks lits in same_truth b (is_over marks lits) (λ on. o.1 (h.0 on)) (λ on. h.1 (o.0 on))

-- all variables are a cone
pub all_cone : (m : Parts) (a : Lit) (n : ℕ) (marks : List Bool) → IsWellFormed m → variable a ≤ m.max_var → n ≡ m.max_var + 1 → marks ≡ replicate n true → IsConeOf m a marks
all_cone m a n marks well range long is =
    let known : AreIn m 0 = are_in m 0 well in
    let on : (v : ℕ) → v ≤ m.max_var → IsMarked marks v = λ v v_in. ap (λ q. place q v) is ∙ get_or-replicate n v true false (omega arith) in
    record {
      constant = on 0 (omega arith);
      root = on (variable a) range;
      constraints = λ k d k_in. on (variable (get_or m.constraints k d)) (known.constraints k d k_in);
      gates = λ k d k_in marked. (on (variable (get_or m.gates k d).rhs0) (known.rights0 k d k_in), on (variable (get_or m.gates k d).rhs1) (known.rights1 k d k_in));
      latches = λ k d k_in marked. on (variable (get_or m.latches k d).next) (known.nexts k d k_in);
    }

pub if_ok_then : {X E : Type 0} (P Q : X → Type 0) (r : Result X E) → ((x : X) → P x → Q x) → IfOk r P → IfOk r Q
if_ok_then P Q (Ok x) f h = f x h
if_ok_then P Q (Err e) f h = tt
