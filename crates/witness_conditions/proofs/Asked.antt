-- What gates of a question say.
use Rattle.std.proofs.Common.{◌≡◌, ℕ, ◌+◌, ◌<◌, Bool, not, ◌&&◌, List, [], ◌∷◌, ◌++◌, length, take, get_or, Option, None, refl, All, ◌∙◌, ◌≤◌, ap, sym, subst, arith}
use Rattle.std.proofs.lemmas.List.{length-take-le, take_all, take_more}
use Rattle.graph.specs.declared.circuit.Lit.{Lit}
use Rattle.graph.specs.declared.circuit.Gate.{Gate}
use Rattle.graph.specs.declared.circuit.Latch.{Latch}
use Rattle.graph.specs.declared.parts.Parts.{Parts}
use Rattle.graph.specs.Circuits.{Valuation, value_of, Fires}
use Rattle.witness_pairs.specs.Drafts.{Follows, GoesOn, all_true, seen}
use Rattle.witness_pairs.proofs.Drafted.{all_true_more, and-assoc, and-true, follows_front}
use Rattle.witness_conditions.specs.Conditions.{AreNext, Asks, has_next, have_next}

-- a circuit of inputs and gates with one bad literal
pub asks : (given wanted : List Lit) (bad : Lit) (gs : List Gate) (m : Parts) → m.latches ≡ [] → m.constraints ≡ [] → m.bad ≡ bad ∷ [] → m.gates ≡ gs →
    ((x : Valuation) → Follows gs x → value_of x bad ≡ (all_true x given && not (all_true x wanted))) → Asks given wanted m
asks given wanted bad gs m latches constraints only gates says = record {
  latches = latches;
  constraints = constraints;
  bad = bad;
  only = only;
  exact = λ x agrees. says x (record { constant = agrees.valuation.constant; fires = subst (All (Fires x)) gates agrees.gates });
}

-- what is read of lists
pub says_of : (gs : List Gate) (breaks : Lit) (given wanted given_read wanted_read : List Lit) → given_read ≡ given → wanted_read ≡ wanted →
    ((x : Valuation) → Follows gs x → value_of x breaks ≡ (all_true x given_read && not (all_true x wanted_read))) →
    (x : Valuation) → Follows gs x → value_of x breaks ≡ (all_true x given && not (all_true x wanted))
says_of gs breaks given wanted given_read wanted_read is_given is_wanted says x follows =
    says x follows ∙ ap (λ (q : List Lit). all_true x q && not (all_true x wanted_read)) is_given ∙ ap (λ (q : List Lit). all_true x given && not (all_true x q)) is_wanted

-- ---- next values of shared latches

have_next_push : (now after : Valuation) (xs : List Latch) (given : List (Option Lit)) (l : Latch) →
    have_next now after (xs ++ l ∷ []) given ≡ (have_next now after xs given && has_next now after l (get_or given (length xs) None))
have_next_push now after [] [] l = refl
have_next_push now after [] (g ∷ given) l = and-true (has_next now after l g)
have_next_push now after (x ∷ xs) [] l = have_next_push now after xs [] l
have_next_push now after (x ∷ xs) (g ∷ given) l =
    ap (λ b. has_next now after x g && b) (have_next_push now after xs given l)
    ∙ sym (and-assoc (has_next now after x g) (have_next now after xs given) (has_next now after l (get_or given (length xs) None)))

-- nothing is added yet
pub next_none : (gs : List Gate) (first then : List Lit) (given : List (Option Lit)) (facts : List Lit) → AreNext gs first then [] given facts facts
next_none gs first then given facts = record { says = λ x follows. sym (and-true (all_true x facts)) }

-- a latch more
pub next_step : (first then : List Lit) (ls : List Latch) (given : List (Option Lit)) (k : ℕ) (d : Latch) (g : Option Lit) (old facts more : List Lit) (a : Lit) (gs later : List Gate) →
    k < length ls → g ≡ get_or given k None → GoesOn gs later → more ≡ facts ++ a ∷ [] →
    AreNext gs first then (take k ls) given old facts → ((x : Valuation) → Follows later x → value_of x a ≡ has_next (seen first x) (seen then x) (get_or ls k d) g) →
    AreNext later first then (take (k + 1) ls) given old more
next_step first then ls given k d g old facts more a gs later k_in is_given on is_more before here = record {
  says = λ x follows.
      let now : Valuation = seen first x in
      let after : Valuation = seen then x in
      let l : Latch = get_or ls k d in
      let so_far : Bool = have_next now after (take k ls) given in
      let last : Bool = has_next now after l (get_or given k None) in
      let at : value_of x a ≡ last = here x follows ∙ ap (has_next now after l) is_given in
      let size : length (take k ls) ≡ k = length-take-le k ls (omega (arith, k_in)) in
      let pushed : have_next now after (take (k + 1) ls) given ≡ (so_far && last) =
      ap (λ (q : List Latch). have_next now after q given) (take_more ls k d k_in) ∙ have_next_push now after (take k ls) given l
      ∙ ap (λ (n : ℕ). so_far && has_next now after l (get_or given n None)) size in
      ap (all_true x) is_more ∙ all_true_more x facts a ∙ ap (λ b. b && value_of x a) (before.says x (follows_front gs later x on follows))
      ∙ ap (λ b. (all_true x old && so_far) && b) at ∙ and-assoc (all_true x old) so_far last ∙ ap (λ b. all_true x old && b) (sym pushed);
}

-- no latch is left
pub next_last : (gs : List Gate) (first then : List Lit) (ls : List Latch) (given : List (Option Lit)) (k : ℕ) (old facts : List Lit) → length ls ≤ k →
    AreNext gs first then (take k ls) given old facts → AreNext gs first then ls given old facts
next_last gs first then ls given k old facts whole known = subst (λ (q : List Latch). AreNext gs first then q given old facts) (take_all k ls whole) known
