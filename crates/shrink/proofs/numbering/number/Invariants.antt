use Rattle.std.proofs.Common.{◌≡◌, ◌+◌, ◌*◌, ◌<◌, ◌⊎◌, ℕ, Contains, length, map, take, get_or}
use Rattle.graph.specs.Circuits.{variable}
use Rattle.graph.specs.declared.circuit.Lit.{Lit}
use Rattle.shrink.specs.Hashed.{image_of}
use Rattle.shrink.proofs.numbering.number.Given as goal

abbrev pub invariant-loop-k : goal.invariant-loop-k
invariant-loop-k l = record {
  same_length : length l.image ≡ length l.fn.image;
  numbered : (j : ℕ) (d : Lit) → j < l.k → image_of l.image (variable (get_or l.bases j d)) ≡ record { 0 = 2 * (1 + j) };
  kept : (v : ℕ) → Contains (map variable (take l.k l.bases)) v ⊎ (image_of l.image v ≡ image_of l.fn.image v);
}
