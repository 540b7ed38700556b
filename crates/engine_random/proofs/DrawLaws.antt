-- Draws, one after another.
use Rattle.std.proofs.Common.{◌≡◌, ℕ, suc, ◌+◌, ◌-◌, ◌<◌, List, [], ◌∷◌, ◌++◌, sym, refl, ap, ◌∙◌, arith}
use Rattle.rand_pcg.specs.Lcg.{Lcg}
use Rattle.engine_random.specs.Words.{words, draws}

pushed : (row : List (List ℕ)) (x : List ℕ) (more : List (List ℕ)) → (row ++ x ∷ []) ++ more ≡ row ++ x ∷ more
pushed [] x more = refl
pushed (y ∷ row) x more = ap (λ xs. y ∷ xs) (pushed row x more)

ended : (row : List (List ℕ)) → row ++ [] ≡ row
ended [] = refl
ended (y ∷ row) = ap (λ xs. y ∷ xs) (ended row)

-- what was drawn before, and n draws from g on
abbrev pub drawn : List (List ℕ) → ℕ → Lcg → List (List ℕ) × Lcg
drawn row n g = (row ++ (draws n g).0, (draws n g).1)

drawn-suc : (row : List (List ℕ)) (n : ℕ) (g after : Lcg) (x : List ℕ) → (x, after) ≡ words 4 g → drawn (row ++ x ∷ []) n after ≡ drawn row (suc n) g
drawn-suc row n g after x e =
    ap (λ (xs : List (List ℕ)). (xs, (draws n after).1)) (pushed row x (draws n after).0)
    ∙ ap (λ (one : List ℕ × Lcg). (row ++ one.0 ∷ (draws n one.1).0, (draws n one.1).1)) e

pub drawn-more : (row : List (List ℕ)) (count i : ℕ) (g after : Lcg) (x : List ℕ) (all : List (List ℕ) × Lcg) → i < count → (x, after) ≡ words 4 g →
    drawn row (count - i) g ≡ all → drawn (row ++ x ∷ []) (count - (i + 1)) after ≡ all
drawn-more row count i g after x all i_in e h =
    let one_less : count - i ≡ suc (count - (i + 1)) = omega (arith, i_in) in
    drawn-suc row (count - (i + 1)) g after x e ∙ rw one_less at h

pub drawn-all : (row : List (List ℕ)) (n : ℕ) (g : Lcg) (all : List (List ℕ) × Lcg) → n ≡ 0 → drawn row n g ≡ all → (row, g) ≡ all
drawn-all row n g all none h = ap (λ (xs : List (List ℕ)). (xs, g)) (sym (ended row)) ∙ rw none at h
