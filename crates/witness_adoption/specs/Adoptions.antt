-- What a witness adds to the model, and what is to be inductive of it.
use Rattle.std.specs.Prelude.{◌≡◌, ◌⊎◌, ℕ, List, [], ◌++◌}
use Rattle.graph.specs.declared.circuit.Lit.{Lit}
use Rattle.graph.specs.declared.circuit.Latch.{Latch}
use Rattle.graph.specs.declared.circuit.Gate.{Gate}
use Rattle.graph.specs.declared.parts.Parts.{Parts}
use Rattle.extension.specs.Extended.{IsExtension}
use Rattle.witness_additions.specs.Spread.{AreWanted}
use Rattle.witness_pairs.specs.Pairs.{IsAbout}

-- the clauses say so of some names of the witness's variables, with the model's gates, the gates and further ones; where there
-- are such, they and the latches and gates extend the model
pub record AreAdopted (m w : Parts) (bad : Lit) (ls : List Latch) (gs : List Gate) (n : ℕ) (inv : List (List Lit)) : Type 0 where
  pub names : List Lit
  pub more : List Gate
  pub extends : (more ≡ []) ⊎ IsExtension m ls (gs ++ more)
  pub wanted : AreWanted names (m.gates ++ (gs ++ more)) bad w.constraints n inv

-- and they say so of the literal that the witness is about
pub record IsAdopted (m w : Parts) (ls : List Latch) (gs : List Gate) (n : ℕ) (inv : List (List Lit)) : Type 0 where
  pub bad : Lit
  pub about : IsAbout w bad
  pub adopted : AreAdopted m w bad ls gs n inv
