-- Lines, one after the other.
use Rattle.std.proofs.Common.{◌≡◌, ◌∙◌, List, [], ◌∷◌, ◌++◌, map, All, Option, sym, ap, subst}
use Rattle.std.proofs.lemmas.List.{map-append}
use Rattle.std.proofs.lemmas.List.Elements.{All-nil, All-cons, All-append}
use Rattle.graph.specs.declared.circuit.Lit.{Lit}
use Rattle.graph.specs.declared.circuit.Latch.{Latch}
use Rattle.graph.specs.Circuits.{Valuation}
use Rattle.latch_map.specs.declared.mapping.Line.{Line}
use Rattle.latch_map.specs.Equal.{AreValues, IsLineIn}

-- a line more that is so
pub lines_more : (t s u : List (Option Lit)) (old new : List Line) (x : Line) → new ≡ old ++ x ∷ [] → ((w : Valuation) → AreValues w t → AreValues w s → AreValues w u → IsLineIn w x) →
    ((w : Valuation) → AreValues w t → AreValues w s → AreValues w u → All (IsLineIn w) old) → (w : Valuation) → AreValues w t → AreValues w s → AreValues w u → All (IsLineIn w) new
lines_more t s u old new x is here before w reads ones others =
    subst (All (IsLineIn w)) (sym is) (All-append (IsLineIn w) old (x ∷ []) (before w reads ones others) (All-cons (IsLineIn w) x [] (here w reads ones others) (All-nil (IsLineIn w))))

-- of a latch more
pub latches_more : (old new : List Line) (x : Line) (ts us : List Latch) (l : Latch) → new ≡ old ++ x ∷ [] → x.latch ≡ l.lit → us ≡ ts ++ l ∷ [] →
    map (λ (y : Line). y.latch) old ≡ map (λ (y : Latch). y.lit) ts → map (λ (y : Line). y.latch) new ≡ map (λ (y : Latch). y.lit) us
latches_more old new x ts us l is same more before =
    let f : Line → Lit = λ y. y.latch in
    let g : Latch → Lit = λ y. y.lit in
    ap (map f) is ∙ map-append f old (x ∷ []) ∙ ap (λ ys. ys ++ x.latch ∷ []) before ∙ ap (λ y. map g ts ++ y ∷ []) same ∙ sym (map-append g ts (l ∷ [])) ∙ ap (map g) (sym more)

-- by what the table alone says
pub lines_by : (t s u p q : List (Option Lit)) (ls : List Line) → s ≡ p → u ≡ q → ((w : Valuation) → AreValues w t → AreValues w p) → ((w : Valuation) → AreValues w t → AreValues w q) →
    ((w : Valuation) → AreValues w t → AreValues w s → AreValues w u → All (IsLineIn w) ls) → (w : Valuation) → AreValues w t → All (IsLineIn w) ls
lines_by t s u p q ls one other ones others lines w reads =
    lines w reads (subst (AreValues w) (sym one) (ones w reads)) (subst (AreValues w) (sym other) (others w reads))
