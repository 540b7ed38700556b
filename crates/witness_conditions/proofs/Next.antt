-- Next values of shared latches, as facts of a question.
use Rattle.std.proofs.Common.{◌≡◌, Bool, true, false, ◌&&◌, List, [], ◌∷◌, ◌++◌, map, Option, Some, refl, ◌∙◌, ap, sym}
use Rattle.graph.specs.declared.circuit.Lit.{Lit}
use Rattle.graph.specs.declared.circuit.Latch.{Latch}
use Rattle.graph.specs.declared.circuit.Gate.{Gate}
use Rattle.graph.specs.Circuits.{Valuation, place, value_of}
use Rattle.witness_pairs.specs.Renamed.{renamed}
use Rattle.witness_conditions.specs.Conditions.{AreNext, AreOfStep, has_next, have_next}
use Rattle.witness_pairs.specs.Drafts.{Follows, all_true, same, seen}
use Rattle.witness_pairs.proofs.Seen.{seen_value}

-- the literal that says that both are equal says that the latch has its next value
pub next_said : (first then : List Lit) (l : Latch) (given : Option Lit) (g one other a : Lit) (gs : List Gate) → given ≡ Some g → one ≡ renamed then l.lit → other ≡ renamed first l.next →
    ((x : Valuation) → Follows gs x → value_of x a ≡ same (value_of x one) (value_of x other)) → (x : Valuation) → Follows gs x → value_of x a ≡ has_next (seen first x) (seen then x) l given
next_said first then l given g one other a gs is is_one is_other says x follows =
    let at_one : value_of x one ≡ value_of (seen then x) l.lit = ap (value_of x) is_one ∙ sym (seen_value then x l.lit follows.constant) in
    let at_other : value_of x other ≡ value_of (seen first x) l.next = ap (value_of x) is_other ∙ sym (seen_value first x l.next follows.constant) in
    rw is (says x follows ∙ ap (λ b. same b (value_of x other)) at_one ∙ ap (λ b. same (value_of (seen then x) l.lit) b) at_other)

and-assoc : (a b c : Bool) → ((a && b) && c) ≡ (a && (b && c))
and-assoc true b c = refl
and-assoc false b c = refl

all_true_join : (x : Valuation) (lits more : List Lit) → all_true x (lits ++ more) ≡ (all_true x lits && all_true x more)
all_true_join x [] more = refl
all_true_join x (a ∷ lits) more = ap (λ b. value_of x a && b) (all_true_join x lits more) ∙ sym (and-assoc (value_of x a) (all_true x lits) (all_true x more))

all_true_seen : (names : List Lit) (x : Valuation) (lits : List Lit) → place x 0 ≡ false → all_true x (map (renamed names) lits) ≡ all_true (seen names x) lits
all_true_seen names x [] constant = refl
all_true_seen names x (a ∷ lits) constant =
    ap (λ b. b && all_true x (map (renamed names) lits)) (sym (seen_value names x a constant)) ∙ ap (λ b. value_of (seen names x) a && b) (all_true_seen names x lits constant)

-- next values, and then constraints
pub transition_said : (gs : List Gate) (first first_read then then_read : List Lit) (ls ls_read : List Latch) (given given_read : List (Option Lit)) (cs old steps wanted : List Lit) →
    first_read ≡ first → then_read ≡ then → ls_read ≡ ls → given_read ≡ given → AreNext gs first_read then_read ls_read given_read old steps →
    wanted ≡ steps ++ map (renamed then) cs → AreOfStep gs first then ls given cs old wanted
transition_said gs first first_read then then_read ls ls_read given given_read cs old steps wanted e1 e2 e3 e4 known is =
    let next : AreNext gs first then ls given old steps = rw (← e1, ← e2, ← e3, ← e4) known in
    record {
      says = λ x follows.
          let goes : Bool = have_next (seen first x) (seen then x) ls given in
          ap (all_true x) is ∙ all_true_join x steps (map (renamed then) cs) ∙ ap (λ b. b && all_true x (map (renamed then) cs)) (next.says x follows)
          ∙ ap (λ b. (all_true x old && goes) && b) (all_true_seen then x cs follows.constant) ∙ and-assoc (all_true x old) goes (all_true (seen then x) cs);
    }
