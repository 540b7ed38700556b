-- What replaying all lines shows.
use Rattle.std.proofs.Common.{◌≡◌, ℕ, ◌+◌, ◌<◌, ◌≢◌, Bool, List, [], ◌∷◌, ◌++◌, length, take, drop, refl, sym, ap, ◌∙◌, arith, subst}
use Rattle.std.proofs.Math.Seq.{take-append_seam}
use Rattle.std.proofs.lemmas.List.{append-nil, drop_all, take_all, length-take-le}
use Rattle.graph.specs.declared.parts.Parts.{Parts}
use Rattle.graph.specs.Circuits.{Valuation}
use Rattle.simulate.specs.Replays.{Replayed, begun}
use Rattle.simulate.specs.Starts.{Starts}
use Rattle.stimulus.specs.Causes.{BreaksAt}
use Rattle.stimulus.specs.Shown.{IsReplay}
use Rattle.stimulus.specs.Courses.{Course, HasRun, IsPlayed, PlaysAll, PlaysUpTo}
use Rattle.stimulus.proofs.CourseLaws.{closing_of, course_length, course_of, replay_of, run_of}

none_left : (m : Parts) (state : List Bool) (y : List Valuation) → Course m state [] y → y ≡ []
none_left m state [] c = refl
none_left m state (w ∷ y) c = absurd c

some_lines : (lines : List (List Bool)) → lines ≢ [] → 0 < length lines
some_lines [] some = absurd (some refl)
some_lines (l ∷ lines) some = omega arith

nonempty : (lines : List (List Bool)) → 0 < length lines → lines ≢ []
nonempty [] some = absurd (omega (arith, some))
nonempty (l ∷ lines) some = λ e. absurd cc

-- the one replay of lines
pub record IsOne (m : Parts) (initial : List Bool) (inputs : List (List Bool)) (r : List Valuation) : Type 0 where
  pub replays : IsReplay m initial inputs r
  pub only : (x : List Valuation) → IsReplay m initial inputs x → x ≡ r

-- all lines were stepped: their one replay
pub one_replay : (m : Parts) (initial : List Bool) (inputs : List (List Bool)) (after : Replayed) (r : List Valuation) → inputs ≢ [] → IsPlayed m initial inputs (length inputs) after r → IsOne m initial inputs r
one_replay m initial inputs after r some p =
    let n = length inputs in
    let course : Course m initial inputs r = subst (λ (ls : List (List Bool)). Course m initial ls r) (take_all n inputs (omega arith)) p.course in
    record {
      replays = replay_of m initial inputs r some course;
      only = λ x one.
          let o = p.others x (course_of m initial inputs x one) in
          let left : Course m after.state [] (drop n x) = subst (λ (ls : List (List Bool)). Course m after.state ls (drop n x)) (drop_all n inputs (omega arith)) o.1 in
          o.0 ∙ ap (λ (y : List Valuation). r ++ y) (none_left m after.state (drop n x) left) ∙ append-nil r;
    }

-- which is a run that keeps the constraints
pub has_run : (m : Parts) (initial : List Bool) (inputs : List (List Bool)) (after : Replayed) → inputs ≢ [] → Starts m.latches initial → PlaysAll m (begun m initial) after inputs → HasRun m initial inputs after
has_run m initial inputs after some starts p =
    let r = p.valuations in
    let one = one_replay m initial inputs after r some p.played in
    record {
      circuit = p.played.circuit;
      valuations = r;
      is_run = record { replays = one.replays; only = one.only; runs = run_of m initial inputs r one.replays starts; keeps = p.keeps };
      has_now = p.played.has_now (some_lines inputs some);
      has_state = p.played.has_state ∙ closing_of m initial r one.replays.begins;
    }

-- lines were stepped up to a constraint that is broken
pub breaks_at : (m : Parts) (initial : List Bool) (inputs : List (List Bool)) (after : Replayed) (t : ℕ) → PlaysUpTo m (begun m initial) after inputs t → BreaksAt m initial inputs t
breaks_at m initial inputs after t p =
    let r = p.valuations in
    let inside = p.inside in
    let taken : length (take (t + 1) inputs) ≡ t + 1 = length-take-le (t + 1) inputs (omega (arith, inside)) in
    let long : length r ≡ t + 1 = course_length m initial (take (t + 1) inputs) r p.played.course ∙ taken in
    record {
      inside = inside;
      replay = r;
      replays = replay_of m initial (take (t + 1) inputs) r (nonempty (take (t + 1) inputs) (omega (arith, taken))) p.played.course;
      only = λ x one.
          let o = p.played.others x (course_of m initial inputs x one) in
          ap (λ (k : ℕ). take k x) (sym long) ∙ ap (λ (y : List Valuation). take (length r) y) o.0 ∙ take-append_seam r (drop (t + 1) x);
      before = p.before_keeps;
      broken = p.broken;
    }
