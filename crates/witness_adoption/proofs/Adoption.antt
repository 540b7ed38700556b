-- What is adopted of a witness, and what is no pair.
use Rattle.std.proofs.Common.{◌≡◌, ℕ, ◌⊎◌, List, [], ◌++◌, take, drop, sym, ap, subst, ◌∙◌}
use Rattle.std.proofs.lemmas.List.{take-append-drop}
use Rattle.graph.specs.declared.circuit.Lit.{Lit}
use Rattle.graph.specs.declared.circuit.Latch.{Latch}
use Rattle.graph.specs.declared.circuit.Gate.{Gate}
use Rattle.graph.specs.declared.parts.Parts.{Parts}
use Rattle.extension.specs.Extended.{IsExtension}
use Rattle.witness_pairs.specs.declared.pair_error.PairError.{PairError}
use Rattle.witness_pairs.specs.declared.pair_error.PairError.TheVariants as pair
use Rattle.witness_pairs.specs.Pairs.{IsOther, IsRefused}
use Rattle.witness_additions.specs.Spread.{AreWanted}
use Rattle.witness_adoption.specs.Adoptions.{AreAdopted}

pub other_refused : (m : Parts) (e : PairError) → IsOther e → IsRefused m e
other_refused m (pair.Bad n) other = absurd other
other_refused m (pair.Symbol n) other = tt
other_refused m pair.Limit other = tt
other_refused m (pair.OutOfMemory refused) other = tt

-- the first gates, of which all that the clauses speak of are some
pub adopted_is : (m w : Parts) (bad : Lit) (ls : List Latch) (all gs : List Gate) (k n : ℕ) (inv : List (List Lit)) (names : List Lit) → gs ≡ take k all →
    (drop k all ≡ []) ⊎ IsExtension m ls all → AreWanted names (m.gates ++ all) bad w.constraints n inv → AreAdopted m w bad ls gs n inv
adopted_is m w bad ls all gs k n inv names is extends wanted =
    let whole : all ≡ gs ++ drop k all = sym (ap (λ q. q ++ drop k all) is ∙ take-append-drop k all) in
    record {
      names = names;
      more = drop k all;
      extends = subst (λ q. (drop k all ≡ []) ⊎ IsExtension m ls q) whole extends;
      wanted = subst (λ q. AreWanted names (m.gates ++ q) bad w.constraints n inv) whole wanted;
    }

pub adopted_found : (m w : Parts) (bad : Lit) (ls : List Latch) (all gs g : List Gate) (cs : List Lit) (k n : ℕ) (inv : List (List Lit)) (names : List Lit) → gs ≡ take k all →
    (drop k all ≡ []) ⊎ IsExtension m ls all → g ≡ all → cs ≡ w.constraints → AreWanted names (m.gates ++ g) bad cs n inv → AreAdopted m w bad ls gs n inv
adopted_found m w bad ls all gs g cs k n inv names is extends g_is cs_is wanted =
    adopted_is m w bad ls all gs k n inv names is extends
    (subst (λ q. AreWanted names (m.gates ++ q) bad w.constraints n inv) g_is (subst (λ q. AreWanted names (m.gates ++ g) bad q n inv) cs_is wanted))
