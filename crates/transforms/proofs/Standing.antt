-- The circuit of one property stands for the property.
use Rattle.std.proofs.Common.{◌≡◌, ℕ, ◌<◌, Bool, true, false, List, [], ◌∷◌, length, map, get_or, filter, refl, inl, inr, arith, All, ◌∙◌, sym, ap, ap₂, subst}
use Rattle.std.proofs.lemmas.Bool.{cases_Bool}
use Rattle.std.proofs.lemmas.List.{length-map, get_or-map}
use Rattle.std.proofs.lemmas.List.Elements.{All-contains, All-map, Contains-get_or}
use Rattle.graph.specs.declared.circuit.Lit.{Lit}
use Rattle.graph.specs.declared.circuit.Latch.{Latch}
use Rattle.graph.specs.declared.circuit.Gate.{Gate}
use Rattle.graph.specs.declared.circuit.Property.{Property}
use Rattle.graph.specs.declared.circuit.Property.TheVariants.{Bad, Justice, Output}
use Rattle.graph.specs.declared.parts.Parts.{Parts}
use Rattle.graph.specs.Circuits.{IsWatched, Valuation, variable, place, value_of, Agrees, Fires, IsRun, KeepsConstraints, at}
use Rattle.graph.specs.WellFormed.{IsWellFormed, used}
use Rattle.graph.proofs.Alone.{watched_one}
use Rattle.graph.proofs.Evaluation.{All-unmap}
use Rattle.graph.proofs.Tabled.{holds_of_used}
use Rattle.cnf.proofs.Safety.{watched_used}
use Rattle.cones.specs.Marks.{IsMarked, IsKnown, AgreesOn, ConeLaw, ExistenceLaw}
use Rattle.sequential_cones.specs.Cones.{IsConeOf}
use Rattle.transforms.specs.Extracted.{kept_latch, first_of, extract, AreAlike, StandsFor}
use Rattle.transforms.proofs.Over.{filter_has}
use Rattle.transforms.proofs.Followed.{MovesAlike, Follows, Pairs, Carried, same_value, pairs_map, pairs_all, carry}

-- ---- what is kept of a latch

kept_lit : (marks : List Bool) (l : Latch) → (kept_latch marks l).lit ≡ l.lit
kept_lit marks l = elim (cases_Bool (place marks (variable l.lit))) [ inl on ↦ rw on refl | inr off ↦ rw off refl ]

kept_reset : (marks : List Bool) (l : Latch) → (kept_latch marks l).reset ≡ l.reset
kept_reset marks l = elim (cases_Bool (place marks (variable l.lit))) [ inl on ↦ rw on refl | inr off ↦ rw off refl ]

kept_next : (marks : List Bool) (l : Latch) → IsMarked marks (variable l.lit) → (kept_latch marks l).next ≡ l.next
kept_next marks l on = rw on refl

latch_at : (m : Parts) (p : Property) (a : Lit) (marks : List Bool) (k : ℕ) (d : Latch) → k < length m.latches → get_or (extract m p a marks).latches k d ≡ kept_latch marks (get_or m.latches k d)
latch_at m p a marks k d k_in = get_or-map (kept_latch marks) m.latches k d d k_in

lit_at : (m : Parts) (p : Property) (a : Lit) (marks : List Bool) (k : ℕ) (d : Latch) → k < length m.latches → (get_or (extract m p a marks).latches k d).lit ≡ (get_or m.latches k d).lit
lit_at m p a marks k d k_in = ap (λ (l : Latch). l.lit) (latch_at m p a marks k d k_in) ∙ kept_lit marks (get_or m.latches k d)

reset_at : (m : Parts) (p : Property) (a : Lit) (marks : List Bool) (k : ℕ) (d : Latch) → k < length m.latches → (get_or (extract m p a marks).latches k d).reset ≡ (get_or m.latches k d).reset
reset_at m p a marks k d k_in = ap (λ (l : Latch). l.reset) (latch_at m p a marks k d k_in) ∙ kept_reset marks (get_or m.latches k d)

next_at : (m : Parts) (p : Property) (a : Lit) (marks : List Bool) (k : ℕ) (d : Latch) → k < length m.latches → IsMarked marks (variable (get_or m.latches k d).lit) →
    (get_or (extract m p a marks).latches k d).next ≡ (get_or m.latches k d).next
next_at m p a marks k d k_in marked = ap (λ (l : Latch). l.next) (latch_at m p a marks k d k_in) ∙ kept_next marks (get_or m.latches k d) marked

same_state : (w : Valuation) (marks : List Bool) (ls : List Latch) → map (λ l. value_of w l.lit) (map (kept_latch marks) ls) ≡ map (λ l. value_of w l.lit) ls
same_state w marks [] = refl
same_state w marks (l ∷ ls) = ap₂ (λ p q. p ∷ q) (ap (value_of w) (kept_lit marks l)) (same_state w marks ls)

-- ---- valuations of both circuits agree at the cone

agrees_whole : (m : Parts) (marks : List Bool) (w : Valuation) → Agrees m w → AgreesOn m (IsMarked marks) w
agrees_whole m marks w h = record { constant = h.valuation.constant; gates = λ k d k_in marked. h.gates k d k_in }

agrees_part : (m : Parts) (p : Property) (a : Lit) (marks : List Bool) (x : Valuation) → Agrees (extract m p a marks) x → AgreesOn m (IsMarked marks) x
agrees_part m p a marks x h = record {
  constant = h.valuation.constant;
  gates = λ k d k_in marked.
      let is_kept : Gate → Bool = λ g. place marks (variable g.lhs) in
      All-contains (Fires x) (filter is_kept m.gates) (get_or m.gates k d) h.gates (filter_has is_kept m.gates (get_or m.gates k d) (Contains-get_or m.gates k d k_in) marked);
}

-- what the proof knows of the circuits
pub record AreBoth (m : Parts) (p : Property) (a : Lit) (marks : List Bool) : Type 0 where
  pub well : IsWellFormed m
  pub watched : IsWatched m p a
  pub cone : IsConeOf m a marks
  pub law : ConeLaw m
  pub whole : ExistenceLaw m
  pub part : ExistenceLaw (extract m p a marks)

next_known : (m : Parts) → IsWellFormed m → (k : ℕ) (d : Latch) → k < length m.latches → IsKnown m (variable (get_or m.latches k d).next)
next_known m well = (holds_of_used (λ b. IsKnown m (variable b)) m well.used_defined).next

out : (m : Parts) (p : Property) (a : Lit) (marks : List Bool) → AreBoth m p a marks → MovesAlike m (extract m p a marks) (IsMarked marks) (IsKnown m)
out m p a marks h = record {
  inputs = refl;
  count = length-map m.latches (kept_latch marks);
  lits = lit_at m p a marks;
  resets = reset_at m p a marks;
  nexts = λ k d k_in marked. (next_at m p a marks k d k_in marked, next_known m h.well k d k_in, h.cone.latches k d k_in marked);
  same = λ w x from to at v known marked. h.law marks w x h.cone.gates (agrees_whole m marks w from) (agrees_part m p a marks x to) at v known marked;
  exists = h.part;
}

back : (m : Parts) (p : Property) (a : Lit) (marks : List Bool) → AreBoth m p a marks → MovesAlike (extract m p a marks) m (IsMarked marks) (IsKnown m)
back m p a marks h =
    let one : Parts = extract m p a marks in
    let there : (k : ℕ) → k < length one.latches → k < length m.latches = λ k k_in. omega (arith, k_in, length-map m.latches (kept_latch marks)) in
    record {
      inputs = refl;
      count = sym (length-map m.latches (kept_latch marks));
      lits = λ k d k_in. sym (lit_at m p a marks k d (there k k_in));
      resets = λ k d k_in. sym (reset_at m p a marks k d (there k k_in));
      nexts = λ k d k_in marked.
          let old : IsMarked marks (variable (get_or m.latches k d).lit) = subst (λ (b : Lit). IsMarked marks (variable b)) (lit_at m p a marks k d (there k k_in)) marked in
          let next = next_at m p a marks k d (there k k_in) old in (
            sym next,
            subst (λ (b : Lit). IsKnown m (variable b)) (sym next) (next_known m h.well k d (there k k_in)),
            subst (λ (b : Lit). IsMarked marks (variable b)) (sym next) (h.cone.latches k d (there k k_in) old),
          );
      same = λ w x from to at v known marked. h.law marks w x h.cone.gates (agrees_part m p a marks w from) (agrees_whole m marks x to)
          (record {
            inputs = at.inputs;
            latches = λ k d k_in on.
                let e = lit_at m p a marks k d k_in in
                let long : k < length one.latches = omega (arith, k_in, length-map m.latches (kept_latch marks)) in
                subst (λ (b : Lit). place w (variable b) ≡ place x (variable b)) e (at.latches k d long (subst (λ (b : Lit). IsMarked marks (variable b)) (sym e) on));
          }) v known marked;
      exists = h.whole;
    }

-- ---- what a carried run keeps

watched_known : (m : Parts) (p : Property) (a : Lit) → IsWellFormed m → IsWatched m p a → IsKnown m (variable a)
watched_known m p a well watched = All-contains (λ b. IsKnown m (variable b)) (used m) a well.used_defined (watched_used m p a watched)

kept_constraints : (m a b : Parts) (K : ℕ → Type 0) → MovesAlike a b K (IsKnown m) → All (λ c. IsKnown m (variable c)) m.constraints → All (λ c. K (variable c)) m.constraints → (r s : List Valuation) →
    Pairs (Follows a b K) r s → KeepsConstraints m r → KeepsConstraints m s
kept_constraints m a b K moves known marked r s pairs keeps =
    let P : Valuation → Type 0 = λ w. All (λ c. value_of w c ≡ true) m.constraints in
    pairs_all (Follows a b K) P P r s (λ w x h all k d k_in. same_value a b K (IsKnown m) moves w x h (get_or m.constraints k d) (known k d k_in) (marked k d k_in) ∙ all k d k_in) pairs keeps

constraints_known : (m : Parts) → IsWellFormed m → All (λ c. IsKnown m (variable c)) m.constraints
constraints_known m well = (holds_of_used (λ b. IsKnown m (variable b)) m well.used_defined).constraints

carried : (m : Parts) (p : Property) (a : Lit) (marks : List Bool) → AreBoth m p a marks → (r : List Valuation) → IsRun m r → KeepsConstraints m r →
    (s : List Valuation) × IsRun (extract m p a marks) s × KeepsConstraints (extract m p a marks) s × AreAlike m a r s
carried m p a marks h r run keeps =
    let one : Parts = extract m p a marks in
    let K : ℕ → Type 0 = IsMarked marks in
    let moves : MovesAlike m one K (IsKnown m) = out m p a marks h in
    let c : Carried m one K r = carry m one K (IsKnown m) moves r run in (
      c.run,
      c.runs,
      kept_constraints m m one K moves (constraints_known m h.well) h.cone.constraints r c.run c.pairs keeps,
      record {
        inputs = pairs_map (Follows m one K) _ _ r c.run (λ w x f. f.inputs) c.pairs;
        begins = sym (same_state (at c.run 0) marks m.latches) ∙ c.begins ∙ same_state (at r 0) marks m.latches;
        sets = pairs_map (Follows m one K) _ _ r c.run (λ w x f. same_value m one K (IsKnown m) moves w x f a (watched_known m p a h.well h.watched) h.cone.root) c.pairs;
      },
    )

restricted : (m : Parts) (p : Property) (a : Lit) (marks : List Bool) → AreBoth m p a marks → (s : List Valuation) → IsRun (extract m p a marks) s → KeepsConstraints (extract m p a marks) s →
    (r : List Valuation) × IsRun m r × KeepsConstraints m r × AreAlike m a s r
restricted m p a marks h s run keeps =
    let one : Parts = extract m p a marks in
    let K : ℕ → Type 0 = IsMarked marks in
    let moves : MovesAlike one m K (IsKnown m) = back m p a marks h in
    let c : Carried one m K s = carry one m K (IsKnown m) moves s run in (
      c.run,
      c.runs,
      kept_constraints m one m K moves (constraints_known m h.well) h.cone.constraints s c.run c.pairs keeps,
      record {
        inputs = pairs_map (Follows one m K) _ _ s c.run (λ w x f. f.inputs) c.pairs;
        begins = c.begins;
        sets = pairs_map (Follows one m K) _ _ s c.run (λ w x f. same_value one m K (IsKnown m) moves w x f a (watched_known m p a h.well h.watched) h.cone.root) c.pairs;
      },
    )

-- ---- the property

pub watches_alone : (m : Parts) (p : Property) (a : Lit) (marks : List Bool) → IsWatched m p a → IsWatched (extract m p a marks) (first_of p) a
watches_alone m (Bad n) a marks h = refl
watches_alone m (Justice n) a marks h = h
watches_alone m (Output n) a marks h = (let o = h.0 in record { no_bad = refl; no_constraints = o.no_constraints; no_justice = refl; no_fairness = refl }, refl)

off_too : (a : Lit) (r s : List Valuation) → map (λ w. value_of w a) r ≡ map (λ w. value_of w a) s → All (λ w. value_of w a ≡ false) r → All (λ w. value_of w a ≡ false) s
off_too a r s same off = All-unmap (λ b. b ≡ false) (λ w. value_of w a) s (subst (All (λ b. b ≡ false)) same (All-map (λ b. b ≡ false) (λ w. value_of w a) r off))

part_stands : (m : Parts) (p : Property) (a : Lit) (marks : List Bool) → AreBoth m p a marks → StandsFor m p (extract m p a marks)
part_stands m p a marks h =
    let one : Parts = extract m p a marks in
    let watches : IsWatched one (first_of p) a = watches_alone m p a marks h.watched in
    record {
      bad = a;
      watched = h.watched;
      watches = watches;
      carried = carried m p a marks h;
      restricted = restricted m p a marks h;
      safe = (
        λ safe s b run keeps watched.
            let same : a ≡ b = watched_one one (first_of p) a b watches watched in
            let r = restricted m p a marks h s run keeps in
            subst (λ (c : Lit). All (λ w. value_of w c ≡ false) s) same (off_too a r.0 s r.3.sets (safe r.0 a r.1 r.2 h.watched)),
        λ safe r b run keeps watched.
            let same : a ≡ b = watched_one m p a b h.watched watched in
            let s = carried m p a marks h r run keeps in
            subst (λ (c : Lit). All (λ w. value_of w c ≡ false) r) same (off_too a s.0 r s.3.sets (safe s.0 a s.1 s.2 watches)),
      );
    }

pub stands_for : (m one : Parts) (p : Property) (a : Lit) (marks : List Bool) → IsWellFormed m → IsWatched m p a → IsConeOf m a marks → ConeLaw m → ExistenceLaw m → ExistenceLaw one →
    one ≡ extract m p a marks → StandsFor m p one
stands_for m one p a marks well watched cone law whole part is = subst (StandsFor m p) (sym is)
    (part_stands m p a marks (record { well = well; watched = watched; cone = cone; law = law; whole = whole; part = subst ExistenceLaw is part }))
