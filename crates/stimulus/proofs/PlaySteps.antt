-- Replaying lines one after another.
use Rattle.std.proofs.Common.{◌≡◌, ℕ, ◌+◌, ◌<◌, ◌≤◌, Bool, List, [], ◌∷◌, ◌++◌, length, get_or, sym, ap, ◌∙◌, arith, subst, below_more}
use Rattle.std.proofs.Math.Seq.{get_or-append_seam}
use Rattle.std.proofs.Math.ListN.{get_or-append}
use Rattle.std.proofs.lemmas.List.{get_or_default, length-take-le}
use Rattle.graph.specs.declared.parts.Parts.{Parts}
use Rattle.graph.specs.Circuits.{Valuation, at}
use Rattle.simulate.specs.Replays.{Replayed}
use Rattle.stimulus.specs.Causes.{KeepsAt}
use Rattle.stimulus.specs.Courses.{IsPlayed, PlaysAll, PlaysUpTo}
use Rattle.stimulus.proofs.CourseLaws.{Moves, course_length, played_none, played_more}

-- the first i lines were stepped, and every constraint is kept
pub record Playing (m : Parts) (first : List Bool) (lines : List (List Bool)) (i : ℕ) (now : Replayed) : Type 0 where
  pub valuations : List Valuation
  pub played : IsPlayed m first lines i now valuations
  pub keeps : (k : ℕ) → k < i → KeepsAt m (at valuations k)

pub playing_none : (m : Parts) (lines : List (List Bool)) (now : Replayed) → now.circuit ≡ m → Playing m now.state lines 0 now
playing_none m lines now is_m = record { valuations = []; played = played_none m lines now is_m; keeps = λ k k_in. absurd (omega (arith, k_in)) }

pub played_long : (m : Parts) (first : List Bool) (lines : List (List Bool)) (i : ℕ) (now : Replayed) (r : List Valuation) → i ≤ length lines → IsPlayed m first lines i now r → length r ≡ i
played_long m first lines i now r i_in p = course_length m first _ r p.course ∙ length-take-le i lines i_in

-- the valuation behind others
at_behind : (r : List Valuation) (w : Valuation) (i : ℕ) → length r ≡ i → at (r ++ w ∷ []) i ≡ w
at_behind r w i long = ap (λ (k : ℕ). at (r ++ w ∷ []) k) (sym long) ∙ get_or-append_seam r w [] []

at_before : (r : List Valuation) (w : Valuation) (i k : ℕ) → length r ≡ i → k < i → at (r ++ w ∷ []) k ≡ at r k
at_before r w i k long k_in = get_or-append r (w ∷ []) [] k (omega (arith, long, k_in))

pub playing_more : (m : Parts) (first line : List Bool) (lines : List (List Bool)) (i : ℕ) (now after : Replayed) (w : Valuation) → i < length lines → get_or lines i [] ≡ line
    → Playing m first lines i now → Moves m now.state line after w → KeepsAt m w → Playing m first lines (i + 1) after
playing_more m first line lines i now after w i_in is_line p s kept =
    let r = p.valuations in
    let long : length r ≡ i = played_long m first lines i now r (omega (arith, i_in)) p.played in
    record {
      valuations = r ++ w ∷ [];
      played = played_more m first line lines i now after r w i_in is_line p.played s;
      keeps = below_more (λ k. KeepsAt m (at (r ++ w ∷ []) k)) i
          (λ k k_in. subst (KeepsAt m) (sym (at_before r w i k long k_in)) (p.keeps k k_in))
          (subst (KeepsAt m) (sym (at_behind r w i long)) kept);
    }

pub playing_breaks : (m : Parts) (before : Replayed) (line : List Bool) (lines : List (List Bool)) (i : ℕ) (now after : Replayed) (w : Valuation) → i < length lines → get_or lines i [] ≡ line
    → Playing m before.state lines i now → Moves m now.state line after w → (KeepsAt m w → ⊥) → PlaysUpTo m before after lines i
playing_breaks m before line lines i now after w i_in is_line p s breaks =
    let r = p.valuations in
    let long : length r ≡ i = played_long m before.state lines i now r (omega (arith, i_in)) p.played in
    record {
      inside = i_in;
      valuations = r ++ w ∷ [];
      played = played_more m before.state line lines i now after r w i_in is_line p.played s;
      before_keeps = λ k k_in. subst (KeepsAt m) (sym (at_before r w i k long k_in)) (p.keeps k k_in);
      broken = λ kept. breaks (subst (KeepsAt m) (at_behind r w i long) kept);
    }

pub playing_all : (m : Parts) (before : Replayed) (lines : List (List Bool)) (i : ℕ) (now : Replayed) → i ≡ length lines → Playing m before.state lines i now → PlaysAll m before now lines
playing_all m before lines i now is_i p =
    let r = p.valuations in
    let long : length r ≡ i = played_long m before.state lines i now r (omega (arith, is_i)) p.played in
    record {
      valuations = r;
      played = subst (λ (k : ℕ). IsPlayed m before.state lines k now r) is_i p.played;
      keeps = λ k d k_in. subst (KeepsAt m) (get_or_default r k [] d k_in) (p.keeps k (omega (arith, long, k_in)));
    }
