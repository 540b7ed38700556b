-- What clauses at two places say is noted.
use Rattle.std.proofs.Common.{◌≡◌, ◌∙◌, ℕ, zero, suc, inl, inr, List, [], ◌∷◌, Contains, replicate, Option, None, sym, subst, arith}
use Rattle.std.proofs.lemmas.List.Elements.{All-contains, Contains-append_right}
use Rattle.graph.specs.declared.circuit.Lit.{Lit}
use Rattle.graph.specs.Circuits.{Valuation, value_of}
use Rattle.cnf.specs.Formulas.{clause_at}
use Rattle.cnf.specs.Meaning.{HoldsClause}
use Rattle.latch_map.specs.Equal.{AreValues, IsKeptBy, AreDenials, Says}
use Rattle.latch_map.proofs.Tables.{none_read}
use Rattle.latch_map.proofs.Said.{true_said, opposite_said}

-- a clause at a place that is not empty is among the clauses
at_contains : (cs : List (List Lit)) (k : ℕ) (a : Lit) (c : List Lit) → clause_at cs k ≡ a ∷ c → Contains cs (a ∷ c)
at_contains [] k a c e = let no : [] ≡ a ∷ c = e in cc
at_contains (d ∷ cs) zero a c e = (0, omega arith, e)
at_contains (d ∷ cs) (suc k) a c e = Contains-append_right (d ∷ []) cs (a ∷ c) (at_contains cs k a c e)

holds_at : (w : Valuation) (cs : List (List Lit)) (k : ℕ) (a : Lit) (c d : List Lit) → IsKeptBy cs w → d ≡ clause_at cs k → d ≡ a ∷ c → HoldsClause w d
holds_at w cs k a c d kept at is = subst (HoldsClause w) (sym is) (All-contains (HoldsClause w) cs (a ∷ c) kept.hold (at_contains cs k a c (sym at ∙ is)))

denial_at : (w : Valuation) (cs : List (List Lit)) (k : ℕ) (d : List Lit) (a b : Lit) → IsKeptBy cs w → d ≡ clause_at cs k → AreDenials d a b → HoldsClause w d
denial_at w cs k d a b kept at (inl is) = holds_at w cs k _ _ d kept at is
denial_at w cs k d a b kept at (inr is) = holds_at w cs k _ _ d kept at is

said_at : (w : Valuation) (cs : List (List Lit)) (k j : ℕ) (c d : List Lit) (a b : Lit) → IsKeptBy cs w → c ≡ clause_at cs k → d ≡ clause_at cs j → Says c d a b → value_of w a ≡ value_of w b
said_at w cs k j c d a b kept at there (inl said) = true_said w c a b kept.constant (holds_at w cs k a [] c kept at said.here) said
said_at w cs k j c d a b kept at there (inr said) =
    opposite_said w c d a b (holds_at w cs k a (said.other ∷ []) c kept at said.here) (denial_at w cs j d a said.other kept there said.there) said

-- what they say is noted
pub noted : (cs : List (List Lit)) (k j : ℕ) (c d : List Lit) (a b : Lit) (t u : List (Option Lit)) → c ≡ clause_at cs k → d ≡ clause_at cs j → Says c d a b →
    ((w : Valuation) → value_of w a ≡ value_of w b → AreValues w t → AreValues w u) → (w : Valuation) → IsKeptBy cs w → AreValues w t → AreValues w u
noted cs k j c d a b t u at there said join w kept reads = join w (said_at w cs k j c d a b kept at there said) reads

-- one place more
pub noted_more : (cs : List (List Lit)) (s t u : List (Option Lit)) → ((w : Valuation) → IsKeptBy cs w → AreValues w s → AreValues w t) →
    ((w : Valuation) → IsKeptBy cs w → AreValues w t → AreValues w u) → (w : Valuation) → IsKeptBy cs w → AreValues w s → AreValues w u
noted_more cs s t u before more w kept reads = more w kept (before w kept reads)

-- in a table that had nothing
pub noted_values : (cs : List (List Lit)) (s u v : List (Option Lit)) (n : ℕ) → s ≡ replicate n None → v ≡ u → ((w : Valuation) → IsKeptBy cs w → AreValues w s → AreValues w u) →
    (w : Valuation) → IsKeptBy cs w → AreValues w v
noted_values cs s u v n none same noted w kept = subst (AreValues w) (sym same) (noted w kept (subst (AreValues w) (sym none) (none_read w n)))
