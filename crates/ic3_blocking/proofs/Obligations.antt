-- Obligations that were found, one more, and the way from one to the bad literal.
use Rattle.std.proofs.Common.{◌≡◌, ◌<◌, ◌≤◌, ◌∙◌, ℕ, List, [], ◌∷◌, ◌++◌, Bool, Option, None, Some, All, length, map, get_or, refl, sym, subst, arith, below_more}
use Rattle.std.proofs.lemmas.List.{get_or_append_left, get_or_push, length-append, append_assoc}
use Rattle.std.proofs.lemmas.List.Elements.{All-cons, All-nil, All-push}
use Rattle.graph.specs.declared.parts.Parts.{Parts}
use Rattle.ic3_blocking.specs.declared.obligation.Obligation.{Obligation}
use Rattle.ic3_blocking.specs.declared.obligation_queue.ObligationQueue.{ObligationQueue}
use Rattle.ic3_blocking.specs.Queue.{AreQueued}
use Rattle.ic3_blocking.specs.Cubes.{HasSuccessor, ReachBad, ArePredecessors, AreBad}
use Rattle.ic3_blocking.specs.Answers.{IsObligation, AreObligations, IsWay}

-- the lines lead from the first obligation to this one: whatever way leads from this one to the bad literal, they are its beginning
abbrev pub IsBegun : Parts → Obligation → Obligation → List (List Bool) → Type 0
IsBegun m first o lines = (tail : List Obligation) → ReachBad m (o ∷ tail) → All (IsObligation m) (o ∷ tail) →
    (os : List Obligation) × (lines ++ map (λ (p : Obligation). p.inputs) (o ∷ tail) ≡ map (λ (p : Obligation). p.inputs) (first ∷ os)) × All (IsObligation m) (first ∷ os) × ReachBad m (first ∷ os)

pub begun_first : (m : Parts) (o : Obligation) → IsBegun m o o []
begun_first m o = λ tail leads each. (tail, refl, each, leads)

pub begun_next : (m : Parts) (first o p : Obligation) (lines : List (List Bool)) → IsObligation m o → ArePredecessors m o.clause o.inputs p.clause → IsBegun m first o lines → IsBegun m first p (lines ++ o.inputs ∷ [])
begun_next m first o p lines here predecessors begun = λ tail leads each.
    let way = begun (p ∷ tail) (predecessors, leads) (All-cons (IsObligation m) o (p ∷ tail) here each) in
    (way.0, append_assoc lines (o.inputs ∷ []) (map (λ (p : Obligation). p.inputs) (p ∷ tail)) ∙ way.1, way.2, way.3)

pub begun_bad : (m : Parts) (first o : Obligation) (lines : List (List Bool)) → IsObligation m o → AreBad m o.clause o.inputs → IsBegun m first o lines → IsWay m first (lines ++ o.inputs ∷ [])
begun_bad m first o lines here bad begun =
    let way = begun [] bad (All-cons (IsObligation m) o [] here (All-nil (IsObligation m))) in
    (way.0, way.1, way.2, way.3)

-- from an obligation at its place to the next one
pub begun_next_at : (m : Parts) (os : List Obligation) (first o : Obligation) (at k : ℕ) (lines : List (List Bool)) → at < length os → o ≡ get_or os at o → o.next ≡ Some k → AreObligations m os → IsBegun m first o lines →
    (k < at) × ((d : Obligation) → IsBegun m first (get_or os k d) (lines ++ o.inputs ∷ []))
begun_next_at m os first o at k lines at_in is next all begun =
    let leads : HasSuccessor m os at o (Some k) = subst (HasSuccessor m os at o) next (subst (λ (p : Obligation). HasSuccessor m os at p p.next) (sym is) (all.successors at o at_in)) in
    let here : IsObligation m o = subst (IsObligation m) (sym is) (all.each at o at_in) in
    (leads.0, λ d. begun_next m first o (get_or os k d) lines here (leads.1 d) begun)

-- from a bad one
pub begun_end : (m : Parts) (os : List Obligation) (first o : Obligation) (at : ℕ) (lines : List (List Bool)) → at < length os → o ≡ get_or os at o → o.next ≡ None → AreObligations m os → IsBegun m first o lines →
    IsWay m first (lines ++ o.inputs ∷ [])
begun_end m os first o at lines at_in is next all begun =
    let bad : HasSuccessor m os at o None = subst (HasSuccessor m os at o) next (subst (λ (p : Obligation). HasSuccessor m os at p p.next) (sym is) (all.successors at o at_in)) in
    let here : IsObligation m o = subst (IsObligation m) (sym is) (all.each at o at_in) in
    begun_bad m first o lines here bad begun

-- one more obligation
successor_still : (m : Parts) (os more : List Obligation) (i : ℕ) (o : Obligation) (next : Option ℕ) → i ≤ length os → HasSuccessor m os i o next → HasSuccessor m (os ++ more) i o next
successor_still m os more i o None le leads = leads
successor_still m os more i o (Some k) le leads = (leads.0, λ d. subst (λ (p : Obligation). ArePredecessors m o.clause o.inputs p.clause) (sym (get_or_append_left os more d k (omega (arith, le, leads.0)))) (leads.1 d))

pub obligations_more : (m : Parts) (os : List Obligation) (o : Obligation) → AreObligations m os → IsObligation m o → HasSuccessor m os (length os) o o.next → AreObligations m (os ++ o ∷ [])
obligations_more m os o all here leads = record {
  each = All-push (IsObligation m) os o all.each here;
  successors = λ i d i_in. below_more (λ (k : ℕ). (e : Obligation) → HasSuccessor m (os ++ o ∷ []) k (get_or (os ++ o ∷ []) k e) (get_or (os ++ o ∷ []) k e).next) (length os)
      (λ k k_in e. subst (λ (p : Obligation). HasSuccessor m (os ++ o ∷ []) k p p.next) (sym (get_or_append_left os (o ∷ []) e k k_in))
      (successor_still m os (o ∷ []) k (get_or os k e) (get_or os k e).next (omega (arith, k_in)) (all.successors k e k_in)))
      (λ e. subst (λ (p : Obligation). HasSuccessor m (os ++ o ∷ []) (length os) p p.next) (sym (get_or_push os o e (length os) refl)) (successor_still m os (o ∷ []) (length os) o o.next (omega arith) leads))
      i (omega (arith, i_in, length-append os (o ∷ []))) d;
}

-- the first one, which is bad
pub obligations_bad : (m : Parts) (o : Obligation) → IsObligation m o → AreBad m o.clause o.inputs → o.next ≡ None → AreObligations m (o ∷ [])
obligations_bad m o here bad next =
    let none : AreObligations m [] = record { each = All-nil (IsObligation m); successors = λ i d i_in. absurd (omega (arith, i_in)) } in
    obligations_more m [] o none here (subst (HasSuccessor m [] 0 o) (sym next) bad)

-- one whose states are predecessors of those of one that was found
pub obligations_before : (m : Parts) (os : List Obligation) (o : Obligation) (k : ℕ) → AreObligations m os → k < length os → IsObligation m o → ((d : Obligation) → ArePredecessors m o.clause o.inputs (get_or os k d).clause) →
    o.next ≡ Some k → AreObligations m (os ++ o ∷ [])
obligations_before m os o k all k_in here predecessors next = obligations_more m os o all here (subst (HasSuccessor m os (length os) o) (sym next) (k_in, predecessors))

-- what is queued among fewer obligations is queued among more
pub queued_more : (n k : ℕ) (w : ObligationQueue) → n ≤ k → AreQueued n w → AreQueued k w
queued_more n k w le h = λ f d f_in i e i_in. let below = h f d f_in i e i_in in omega (arith, le, below)
