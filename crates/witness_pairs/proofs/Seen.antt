-- Circuits at one time, as a valuation sees them.
use Rattle.std.proofs.Common.{◌≡◌, ℕ, ◌%◌, false, not, ◌&&◌, List, ◌++◌, map, length, get_or, inl, inr, All, ◌∙◌, ap, sym, subst, arith}
use Rattle.std.proofs.lemmas.Bool.{cases_eq, cases_lt}
use Rattle.std.proofs.lemmas.List.{get_or-map, get_or_past, length-map}
use Rattle.graph.specs.declared.circuit.Lit.{Lit}
use Rattle.graph.specs.declared.circuit.Gate.{Gate}
use Rattle.graph.specs.Circuits.{Valuation, variable, place, value_of, Fires}
use Rattle.graph.proofs.Evaluation.{All-right, All-unmap}
use Rattle.live_safe.proofs.Values.{value-negation}
use Rattle.witness_pairs.specs.Renamed.{renamed, renamed_gate}
use Rattle.witness_pairs.specs.Drafts.{Follows, seen}

abbrev pub off : Lit
off = record { 0 = 0 }

-- what a variable is seen as
pub seen_place : (names : List Lit) (x : Valuation) (v : ℕ) → place x 0 ≡ false → place (seen names x) v ≡ value_of x (get_or names v off)
seen_place names x v constant = elim (cases_lt v (length names)) [
  | inl inside ↦ get_or-map (value_of x) names v off false inside
  | inr outside ↦ get_or_past (map (value_of x) names) v false (omega (arith, outside, length-map names (value_of x))) ∙ sym constant ∙ ap (value_of x) (sym (get_or_past names v off outside))
]

pub seen_value : (names : List Lit) (x : Valuation) (a : Lit) → place x 0 ≡ false → value_of (seen names x) a ≡ value_of x (renamed names a)
seen_value names x a constant = elim (cases_eq (a.0 % 2) 1) [
  | inl odd ↦ rw odd (ap not (seen_place names x (variable a) constant) ∙ sym (value-negation x (get_or names (variable a) off)))
  | inr other ↦ let even : a.0 % 2 ≡ 0 = omega arith in rw even (seen_place names x (variable a) constant)
]

seen_fires : (names : List Lit) (x : Valuation) (g : Gate) → place x 0 ≡ false → Fires x (renamed_gate names g) → Fires (seen names x) g
seen_fires names x g constant fires =
    seen_value names x g.lhs constant ∙ fires
    ∙ ap (λ b. b && value_of x (renamed names g.rhs1)) (sym (seen_value names x g.rhs0 constant))
    ∙ ap (λ b. value_of (seen names x) g.rhs0 && b) (sym (seen_value names x g.rhs1 constant))

-- gates under their names, behind others
pub seen_gates : (names names_read : List Lit) (gs gs_read before after : List Gate) (x : Valuation) → names_read ≡ names → gs_read ≡ gs → after ≡ before ++ map (renamed_gate names_read) gs_read →
    Follows after x → All (Fires (seen names x)) gs
seen_gates names names_read gs gs_read before after x is_names is_gates is follows =
    let renamed_as : after ≡ before ++ map (renamed_gate names) gs =
    is ∙ ap (λ (q : List Lit). before ++ map (renamed_gate q) gs_read) is_names ∙ ap (λ (q : List Gate). before ++ map (renamed_gate names) q) is_gates in
    let all : All (Fires x) (map (renamed_gate names) gs) = All-right (Fires x) before (map (renamed_gate names) gs) (subst (All (Fires x)) renamed_as follows.fires) in
    λ k d k_in. seen_fires names x (get_or gs k d) follows.constant (All-unmap (Fires x) (renamed_gate names) gs all k d k_in)
