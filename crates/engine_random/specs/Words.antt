-- What a generator draws (PCG XSL RR 128/64, O'Neill 2014).
use Rattle.std.specs.Prelude.{ℕ, zero, suc, List, [], ◌∷◌}
use Rattle.rand_pcg.specs.Lcg.{Lcg}
use Rattle.rand_pcg.specs.Pcg.{pcg64}

-- the next n words of a generator, and the generator after them
abbrev pub words : ℕ → Lcg → List ℕ × Lcg
words zero g = ([], g)
words (suc n) g = let one = pcg64 g in let rest = words n one.1 in (one.0 ∷ rest.0, rest.1)

-- the next n draws of four words each, and the generator after them
abbrev pub draws : ℕ → Lcg → List (List ℕ) × Lcg
draws zero g = ([], g)
draws (suc n) g = let one = words 4 g in let rest = draws n one.1 in (one.0 ∷ rest.0, rest.1)
