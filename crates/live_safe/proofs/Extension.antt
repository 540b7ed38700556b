-- Gates of consecutive variables: each valuation of the variables before has one that they extend it to.
use Rattle.std.proofs.Common.{◌≡◌, ℕ, suc, ◌+◌, ◌*◌, ◌/◌, ◌%◌, ◌<◌, Bool, false, ◌&&◌, List, [], ◌∷◌, ◌++◌, length, refl, arith, All, ◌∙◌}
use Rattle.std.proofs.lemmas.List.{get_or_push, get_or_append_left, length_push}
use Rattle.std.proofs.lemmas.List.Elements.{All-nil, All-cons}
use Rattle.graph.specs.declared.circuit.Lit.{Lit}
use Rattle.graph.specs.declared.circuit.Gate.{Gate}
use Rattle.graph.specs.Circuits.{place, variable, value_of, Fires}
use Rattle.live_safe.proofs.Values.{value-at}

-- the gate defines the variable n and reads variables below it
pub record IsNext (n : ℕ) (g : Gate) : Type 0 where
  pub defines : g.lhs.0 ≡ 2 * n
  pub left : variable g.rhs0 < n
  pub right : variable g.rhs1 < n

abbrev pub AreNext : List Gate → ℕ → Type 0
AreNext [] n = Unit {0}
AreNext (g ∷ gs) n = IsNext n g × AreNext gs (n + 1)

pub AreNext-append : (gs hs : List Gate) (n : ℕ) → AreNext gs n → AreNext hs (n + length gs) → AreNext (gs ++ hs) n
AreNext-append [] hs n h k = let e : n + 0 ≡ n = omega arith in rw e at k
AreNext-append (g ∷ gs) hs n h k = (h.0, AreNext-append gs hs (n + 1) h.1 (let e : n + 1 + length gs ≡ n + suc (length gs) = omega arith in rw e k))

abbrev pub run_gates : List Gate → List Bool → List Bool
run_gates [] w = w
run_gates (g ∷ gs) w = run_gates gs (w ++ (value_of w g.rhs0 && value_of w g.rhs1) ∷ [])

pub length-run : (gs : List Gate) (w : List Bool) → length (run_gates gs w) ≡ length w + length gs
length-run [] w = omega arith
length-run (g ∷ gs) w = let b : Bool = value_of w g.rhs0 && value_of w g.rhs1 in
    let long = length-run gs (w ++ b ∷ []) in omega (arith, long, length_push w b)

pub place-run : (gs : List Gate) (w : List Bool) (v : ℕ) → v < length w → place (run_gates gs w) v ≡ place w v
place-run [] w v inside = refl
place-run (g ∷ gs) w v inside = let b : Bool = value_of w g.rhs0 && value_of w g.rhs1 in
    place-run gs (w ++ b ∷ []) v (omega (arith, length_push w b)) ∙ get_or_append_left w (b ∷ []) false v inside

pub value-run : (gs : List Gate) (w : List Bool) (a : Lit) → variable a < length w → value_of (run_gates gs w) a ≡ value_of w a
value-run gs w a inside = value-at (run_gates gs w) w a (place-run gs w (variable a) inside)

pub run_fires : (gs : List Gate) (w : List Bool) → AreNext gs (length w) → All (Fires (run_gates gs w)) gs
run_fires [] w h = All-nil (Fires w)
run_fires (g ∷ gs) w (next, rest) =
    let b : Bool = value_of w g.rhs0 && value_of w g.rhs1 in
    let x : List Bool = w ++ b ∷ [] in
    let y : List Bool = run_gates gs x in
    let long : length x ≡ length w + 1 = length_push w b in
    let even : g.lhs.0 % 2 ≡ 0 = (let e = next.defines in omega (arith, e)) in
    let half : g.lhs.0 / 2 ≡ length w = (let e = next.defines in omega (arith, e)) in
    let at_left : place y (length w) ≡ b = place-run gs x (length w) (omega arith) ∙ get_or_push w b false (length w) refl in
    let made : value_of y g.lhs ≡ b = rw (even, half) at_left in
    let read0 : value_of y g.rhs0 ≡ value_of w g.rhs0 = value-run (g ∷ gs) w g.rhs0 next.left in
    let read1 : value_of y g.rhs1 ≡ value_of w g.rhs1 = value-run (g ∷ gs) w g.rhs1 next.right in
    All-cons (Fires y) g gs (rw (read0, read1) made) (run_fires gs x (rw long rest))
