-- What an answer says whose line was copied.
use Rattle.std.proofs.Common.{◌≡◌, ℕ, Bool, true, false, List, [], ◌++◌, take, Result, Ok, refl, ap, subst, ◌∙◌}
use Rattle.std.specs.Prelude.{IfOk, IsTrue}
use Rattle.checker.specs.declared.run_error.RunError.{RunError}

-- what a yes says
pub yes_of : {Q : Type 0} (answer : Result Bool RunError) → answer ≡ Ok true → IfOk answer (λ yes. IsTrue yes → Q) → Q
yes_of {Q} answer is says =
    let said : IsTrue true → Q = subst (λ (r : Result Bool RunError). IfOk r (λ yes. IsTrue yes → Q)) is says in
    said refl

-- what a no says
pub no_of : {Q : Type 0} (answer : Result Bool RunError) → answer ≡ Ok false → IfOk answer (λ yes. yes ≡ false → Q) → Q
no_of {Q} answer is says =
    let said : false ≡ false → Q = subst (λ (r : Result Bool RunError). IfOk r (λ yes. yes ≡ false → Q)) is says in
    said refl

-- no answer is a yes and a no
pub never_no : (answer : Result Bool RunError) → answer ≡ Ok false → IfOk answer (λ yes. IsTrue yes) → ⊥
never_no answer is says =
    let both : false ≡ true = subst (λ (r : Result Bool RunError). IfOk r (λ yes. IsTrue yes)) is says in
    absurd cc

-- what was put to nothing and then copied is the line
pub copied_line : (before after text line : List ℕ) (count : ℕ) → before ≡ [] → after ≡ before ++ text → take count line ≡ after → take count line ≡ text
copied_line before after text line count empty whole copy = copy ∙ whole ∙ ap (λ (w : List ℕ). w ++ text) empty
