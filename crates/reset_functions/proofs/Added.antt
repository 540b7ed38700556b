-- Latch lines without functions, line by line.
use Rattle.std.proofs.Common.{◌≡◌, ℕ, ◌+◌, ◌<◌, List, [], ◌∷◌, ◌++◌, Option, length, drop, get_or, arith, sym, ap, ◌∙◌, append_assoc}
use Rattle.std.proofs.lemmas.List.{drop_more}
use Rattle.graph.specs.declared.circuit.Lit.{Lit}
use Rattle.reset_functions.specs.declared.latch_lines.LatchText.{LatchText}
use Rattle.reset_functions.specs.Plain.{function_in, functions_in, plain_line, plain_lines}

pub lines_step : (first k : ℕ) (ls : List LatchText) (d : LatchText) (xs ys target : List ℕ) → k < length ls → ys ≡ xs ++ plain_line (first + k) (get_or ls k d) →
    xs ++ plain_lines (first + k) (drop k ls) ≡ target → ys ++ plain_lines (first + (k + 1)) (drop (k + 1) ls) ≡ target
lines_step first k ls d xs ys target k_in is h =
    let next : first + (k + 1) ≡ first + k + 1 = omega arith in
    let rest : List ℕ = plain_lines (first + k + 1) (drop (k + 1) ls) in
    let split : plain_lines (first + k) (drop k ls) ≡ plain_line (first + k) (get_or ls k d) ++ rest = ap (plain_lines (first + k)) (drop_more ls k d k_in) in
    rw next (ap (λ (q : List ℕ). q ++ rest) is ∙ append_assoc xs (plain_line (first + k) (get_or ls k d)) rest ∙ ap (λ (q : List ℕ). xs ++ q) (sym split) ∙ h)

pub functions_step : (first k : ℕ) (ls : List LatchText) (d : LatchText) (xs ys target : List (Option Lit)) → k < length ls → ys ≡ xs ++ function_in (first + k) (get_or ls k d) ∷ [] →
    xs ++ functions_in (first + k) (drop k ls) ≡ target → ys ++ functions_in (first + (k + 1)) (drop (k + 1) ls) ≡ target
functions_step first k ls d xs ys target k_in is h =
    let next : first + (k + 1) ≡ first + k + 1 = omega arith in
    let rest : List (Option Lit) = functions_in (first + k + 1) (drop (k + 1) ls) in
    let one : List (Option Lit) = function_in (first + k) (get_or ls k d) ∷ [] in
    let split : functions_in (first + k) (drop k ls) ≡ one ++ rest = ap (functions_in (first + k)) (drop_more ls k d k_in) in
    rw next (ap (λ (q : List (Option Lit)). q ++ rest) is ∙ append_assoc xs one rest ∙ ap (λ (q : List (Option Lit)). xs ++ q) (sym split) ∙ h)
