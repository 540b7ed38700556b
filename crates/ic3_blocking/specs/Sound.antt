-- What a solver is has of the frames, and what is known of the frames meanwhile (Bradley 2011).
use Rattle.std.specs.Prelude.{ℕ, ◌<◌, ◌≤◌, Bool, List, All}
use Rattle.graph.specs.declared.parts.Parts.{Parts}
use Rattle.cnf.specs.Formulas.{bad_literal}
use Rattle.states.specs.States.{Holds}
use Rattle.ic3_step.specs.States.{Guarded}
use Rattle.ic3_step.specs.Contents.{IsLoaded}
use Rattle.ic3_frames.specs.declared.frames.Entry.{Entry}
use Rattle.ic3_frames.specs.Frames.{InFrame, AreFrames, Levels}
use Rattle.ic3_blocking.specs.declared.frame_solver.FrameSolver.{FrameSolver}

-- each clause under the guard of a level holds in the frame at that level
abbrev pub Backs : List Entry → ℕ → List Guarded → Type 0
Backs entries levels gs = All (λ (g : Guarded). g.guard < levels → (s : List Bool) → InFrame entries g.guard s → Holds s g.clause) gs

-- the solver has the circuit, room for the guards, and clauses that the frames back; no clause has one of the guards that
-- are free, which come after those of the levels; there are guards for at most 2,000,000,000 levels
pub record HasFrames {S : Type 0} (m : Parts) (entries : List Entry) (a : FrameSolver S) : Type 0 where
  pub added : List Guarded
  pub loaded : IsLoaded m a.room added a.transition
  pub used : All (λ g. g.guard < a.next) added
  pub backs : Backs entries a.levels added
  pub order : a.levels ≤ a.next
  pub fits : a.next ≤ a.room
  pub few : a.levels ≤ 2000000000
  pub small : a.room ≤ 4294967295

-- the solver is has of frames that keep their laws, and each of them has a guard
pub record IsSound {S : Type 0} (m : Parts) (a : FrameSolver S) (f : Levels) : Type 0 where
  pub has : HasFrames m f.entries a
  pub laws : AreFrames m (bad_literal m 0) f
  pub top : f.top < a.levels
  pub below : All (λ e. e.level < a.levels) f.entries
