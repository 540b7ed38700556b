-- Literals and clauses, one after the other.
use Rattle.std.proofs.Common.{◌≡◌, ◌∙◌, ℕ, ◌+◌, ◌<◌, ◌≤◌, ◌⊎◌, Bool, true, false, not, ◌&&◌, ◌||◌, List, [], ◌∷◌, ◌++◌, map, length, take, drop, get_or, refl, sym, ap, subst, Some}
use Rattle.std.proofs.Math.Seq.{take-append_seam, drop-append_seam}
use Rattle.std.specs.List.{slice_get}
use Rattle.std.proofs.lemmas.List.{take-append-drop, take_more, take_all}
use Rattle.std.proofs.lemmas.List.Elements.{All-get_or}
use Rattle.std.proofs.lemmas.Option.{slice_get_within, get_or_from_slice_get}
use Rattle.graph.specs.declared.circuit.Lit.{Lit}
use Rattle.graph.specs.declared.circuit.Latch.{Latch}
use Rattle.graph.specs.declared.circuit.Gate.{Gate}
use Rattle.graph.specs.declared.parts.Parts.{Parts}
use Rattle.graph.specs.Circuits.{Valuation, value_of, Fires}
use Rattle.live_safe.specs.Shadow.{negation}
use Rattle.live_safe.proofs.Values.{value-negation}
use Rattle.witness_pairs.specs.Renamed.{renamed}
use Rattle.witness_circuits.specs.Witnesses.{is_true, are_true}
use Rattle.witness_pairs.specs.Drafts.{all_true}
use Rattle.witness_additions.specs.Spread.{AreSame, IsBoth, AreWanted}

or_more : (x y z : Bool) → (x || (y || z)) ≡ ((x || y) || z)
or_more true y z = refl
or_more false y z = refl

and_more : (x y z : Bool) → (x && (y && z)) ≡ ((x && y) && z)
and_more true y z = refl
and_more false y z = refl

or_false : (x : Bool) → (x || false) ≡ x
or_false true = refl
or_false false = refl

and_true : (x : Bool) → (x && true) ≡ x
and_true true = refl
and_true false = refl

denied : (v x y : Bool) → not v ≡ (x && y) → (not y || not x) ≡ v
denied true true true e = e
denied true false true e = refl
denied true true false e = refl
denied true false false e = refl
denied false true true e = refl
denied false false true e = e
denied false true false e = e
denied false false false e = e

turned : (x y : Bool) → (x && y) ≡ (y && x)
turned true true = refl
turned true false = refl
turned false true = refl
turned false false = refl

pub true_behind : (w : Valuation) (c d : List Lit) → is_true w (c ++ d) ≡ (is_true w c || is_true w d)
true_behind w [] d = refl
true_behind w (a ∷ c) d = ap (λ b. value_of w a || b) (true_behind w c d) ∙ or_more (value_of w a) (is_true w c) (is_true w d)

pub all_true_behind : (w : Valuation) (c d : List Lit) → all_true w (c ++ d) ≡ (all_true w c && all_true w d)
all_true_behind w [] d = refl
all_true_behind w (a ∷ c) d = ap (λ b. value_of w a && b) (all_true_behind w c d) ∙ and_more (value_of w a) (all_true w c) (all_true w d)

pub are_true_behind : (w : Valuation) (c d : List (List Lit)) → are_true w (c ++ d) ≡ (are_true w c && are_true w d)
are_true_behind w [] d = refl
are_true_behind w (a ∷ c) d = ap (λ b. is_true w a && b) (are_true_behind w c d) ∙ and_more (is_true w a) (are_true w c) (are_true w d)

pub true_last : (w : Valuation) (c : List Lit) (a : Lit) → is_true w (c ++ a ∷ []) ≡ (is_true w c || value_of w a)
true_last w c a = true_behind w c (a ∷ []) ∙ ap (λ b. is_true w c || b) (or_false (value_of w a))

pub all_true_last : (w : Valuation) (c : List Lit) (a : Lit) → all_true w (c ++ a ∷ []) ≡ (all_true w c && value_of w a)
all_true_last w c a = all_true_behind w c (a ∷ []) ∙ ap (λ b. all_true w c && b) (and_true (value_of w a))

pub are_true_last : (w : Valuation) (cs : List (List Lit)) (c : List Lit) → are_true w (cs ++ c ∷ []) ≡ (are_true w cs && is_true w c)
are_true_last w cs c = are_true_behind w cs (c ∷ []) ∙ ap (λ b. are_true w cs && b) (and_true (is_true w c))

-- clauses of one literal each
pub units_true : (w : Valuation) (lits : List Lit) → are_true w (map (λ a. a ∷ []) lits) ≡ all_true w lits
units_true w [] = refl
units_true w (a ∷ lits) = ap (λ b. b && are_true w (map (λ a. a ∷ []) lits)) (or_false (value_of w a)) ∙ ap (λ b. value_of w a && b) (units_true w lits)

-- the gate at a position, of the literal
pub both_at : (gates : List Gate) (i : ℕ) (g : Gate) (a : Lit) → slice_get gates i ≡ Some g → g.lhs.0 ≡ a.0 → IsBoth gates a g.rhs0 g.rhs1
both_at gates i g a is same = λ w fires.
    let here : Fires w (get_or gates i g) = All-get_or (Fires w) gates i g (slice_get_within gates i g is) fires in
    let fired : Fires w g = subst (Fires w) (get_or_from_slice_get gates i g g is) here in
    ap (λ n. value_of w (record { 0 = n })) (sym same) ∙ fired

-- a part of a clause that denies a conjunction
pub denied_part : (gates : List Gate) (clause pending : List Lit) (a one other : Lit) → IsBoth gates (negation a) one other →
    AreSame gates (λ w. is_true w clause || is_true w ((pending ++ negation other ∷ []) ++ negation one ∷ [])) (λ w. is_true w clause || (is_true w pending || value_of w a))
denied_part gates clause pending a one other both = λ w fires.
    let front : List Lit = pending ++ negation other ∷ [] in
    let is : not (value_of w a) ≡ (value_of w one && value_of w other) = sym (value-negation w a) ∙ both w fires in
    let last : is_true w (front ++ negation one ∷ []) ≡ (is_true w front || value_of w (negation one)) = true_last w front (negation one) in
    let first : is_true w front ≡ (is_true w pending || value_of w (negation other)) = true_last w pending (negation other) in
    let joined : is_true w (front ++ negation one ∷ []) ≡ (is_true w pending || (value_of w (negation other) || value_of w (negation one))) =
    last ∙ ap (λ b. b || value_of w (negation one)) first ∙ sym (or_more (is_true w pending) (value_of w (negation other)) (value_of w (negation one))) in
    let said : (value_of w (negation other) || value_of w (negation one)) ≡ value_of w a =
    ap (λ b. b || value_of w (negation one)) (value-negation w other) ∙ ap (λ b. not (value_of w other) || b) (value-negation w one)
    ∙ denied (value_of w a) (value_of w one) (value_of w other) is in
    ap (λ b. is_true w clause || b) (joined ∙ ap (λ b. is_true w pending || b) said)

or_moved : (c p v : Bool) → ((c || v) || p) ≡ (c || (p || v))
or_moved true p v = refl
or_moved false true true = refl
or_moved false true false = refl
or_moved false false true = refl
or_moved false false false = refl

and_moved : (c p v : Bool) → ((c && v) && p) ≡ (c && (p && v))
and_moved false p v = refl
and_moved true true true = refl
and_moved true true false = refl
and_moved true false true = refl
and_moved true false false = refl

-- another part
pub other_part : (gates : List Gate) (clause pending : List Lit) (a : Lit) →
    AreSame gates (λ w. is_true w (clause ++ a ∷ []) || is_true w pending) (λ w. is_true w clause || (is_true w pending || value_of w a))
other_part gates clause pending a = λ w fires.
    ap (λ b. b || is_true w pending) (true_last w clause a) ∙ or_moved (is_true w clause) (is_true w pending) (value_of w a)

-- a step of a clause, of what is pending with a literal behind it
pub clause_step : (gates : List Gate) (clause before pending more : List Lit) (a lit : Lit) (now : List Lit) → before ≡ pending ++ a ∷ [] →
    AreSame gates (λ w. is_true w clause || is_true w before) (λ w. value_of w lit) →
    AreSame gates (λ w. is_true w now || is_true w more) (λ w. is_true w clause || (is_true w pending || value_of w a)) →
    AreSame gates (λ w. is_true w now || is_true w more) (λ w. value_of w lit)
clause_step gates clause before pending more a lit now is so_far step = λ w fires.
    let last : is_true w before ≡ (is_true w pending || value_of w a) = ap (is_true w) is ∙ true_last w pending a in
    step w fires ∙ ap (λ b. is_true w clause || b) (sym last) ∙ so_far w fires

-- where nothing is pending
pub clause_done : (gates : List Gate) (clause before : List Lit) (lit : Lit) → before ≡ [] →
    AreSame gates (λ w. is_true w clause || is_true w before) (λ w. value_of w lit) → AreSame gates (λ w. is_true w clause) (λ w. value_of w lit)
clause_done gates clause before lit is so_far = λ w fires.
    sym (ap (λ b. is_true w clause || is_true w b) is ∙ or_false (is_true w clause)) ∙ so_far w fires

-- and where what is pending is added
pub clause_cut : (gates : List Gate) (clause before : List Lit) (lit : Lit) →
    AreSame gates (λ w. is_true w clause || is_true w before) (λ w. value_of w lit) → AreSame gates (λ w. is_true w (clause ++ before)) (λ w. value_of w lit)
clause_cut gates clause before lit so_far = λ w fires. true_behind w clause before ∙ so_far w fires

-- a clause of a literal
pub clause_more : (gates : List Gate) (clauses : List (List Lit)) (clause : List Lit) (lit : Lit) →
    AreSame gates (λ w. is_true w clause) (λ w. value_of w lit) → AreSame gates (λ w. are_true w (clauses ++ clause ∷ [])) (λ w. are_true w clauses && value_of w lit)
clause_more gates clauses clause lit is = λ w fires. are_true_last w clauses clause ∙ ap (λ b. are_true w clauses && b) (is w fires)

pub unit_more : (gates : List Gate) (clauses : List (List Lit)) (lit : Lit) →
    AreSame gates (λ w. are_true w (clauses ++ (lit ∷ []) ∷ [])) (λ w. are_true w clauses && value_of w lit)
unit_more gates clauses lit = clause_more gates clauses (lit ∷ []) lit (λ w fires. or_false (value_of w lit))

-- the right sides the other way round
pub both_turned : (gates : List Gate) (a one other : Lit) → IsBoth gates a one other → IsBoth gates a other one
both_turned gates a one other both = λ w fires. both w fires ∙ turned (value_of w one) (value_of w other)

-- a conjunction among what is pending
pub both_item : (gates : List Gate) (clauses : List (List Lit)) (pending : List Lit) (a one other : Lit) → IsBoth gates a one other →
    AreSame gates (λ w. are_true w clauses && all_true w ((pending ++ one ∷ []) ++ other ∷ [])) (λ w. are_true w clauses && (all_true w pending && value_of w a))
both_item gates clauses pending a one other both = λ w fires.
    let front : List Lit = pending ++ one ∷ [] in
    let last : all_true w (front ++ other ∷ []) ≡ (all_true w front && value_of w other) = all_true_last w front other in
    let first : all_true w front ≡ (all_true w pending && value_of w one) = all_true_last w pending one in
    let joined : all_true w (front ++ other ∷ []) ≡ (all_true w pending && (value_of w one && value_of w other)) =
    last ∙ ap (λ b. b && value_of w other) first ∙ sym (and_more (all_true w pending) (value_of w one) (value_of w other)) in
    ap (λ b. are_true w clauses && b) (joined ∙ ap (λ b. all_true w pending && b) (sym (both w fires)))

-- another literal among what is pending, of which there is a clause then
pub clause_item : (gates : List Gate) (clauses now : List (List Lit)) (pending : List Lit) (a : Lit) →
    AreSame gates (λ w. are_true w now) (λ w. are_true w clauses && value_of w a) →
    AreSame gates (λ w. are_true w now && all_true w pending) (λ w. are_true w clauses && (all_true w pending && value_of w a))
clause_item gates clauses now pending a step = λ w fires.
    ap (λ b. b && all_true w pending) (step w fires) ∙ and_moved (are_true w clauses) (all_true w pending) (value_of w a)

-- a step of what is pending, with a literal behind it
pub item_step : (gates : List Gate) (first clauses now : List (List Lit)) (before pending more : List Lit) (a lit : Lit) → before ≡ pending ++ a ∷ [] →
    AreSame gates (λ w. are_true w clauses && all_true w before) (λ w. are_true w first && value_of w lit) →
    AreSame gates (λ w. are_true w now && all_true w more) (λ w. are_true w clauses && (all_true w pending && value_of w a)) →
    AreSame gates (λ w. are_true w now && all_true w more) (λ w. are_true w first && value_of w lit)
item_step gates first clauses now before pending more a lit is so_far step = λ w fires.
    let last : all_true w before ≡ (all_true w pending && value_of w a) = ap (all_true w) is ∙ all_true_last w pending a in
    step w fires ∙ ap (λ b. are_true w clauses && b) (sym last) ∙ so_far w fires

pub items_done : (gates : List Gate) (first clauses : List (List Lit)) (before : List Lit) (lit : Lit) → before ≡ [] →
    AreSame gates (λ w. are_true w clauses && all_true w before) (λ w. are_true w first && value_of w lit) →
    AreSame gates (λ w. are_true w clauses) (λ w. are_true w first && value_of w lit)
items_done gates first clauses before lit is so_far = λ w fires.
    sym (ap (λ b. are_true w clauses && all_true w b) is ∙ and_true (are_true w clauses)) ∙ so_far w fires

pub items_cut : (gates : List Gate) (first clauses : List (List Lit)) (before : List Lit) (lit : Lit) →
    AreSame gates (λ w. are_true w clauses && all_true w before) (λ w. are_true w first && value_of w lit) →
    AreSame gates (λ w. are_true w (clauses ++ map (λ a. a ∷ []) before)) (λ w. are_true w first && value_of w lit)
items_cut gates first clauses before lit so_far = λ w fires.
    are_true_behind w clauses (map (λ a. a ∷ []) before) ∙ ap (λ b. are_true w clauses && b) (units_true w before) ∙ so_far w fires

-- clauses of one more literal
pub lits_more : (gates : List Gate) (clauses now : List (List Lit)) (lits : List Lit) (i : ℕ) (d : Lit) → i < length lits →
    AreSame gates (λ w. are_true w clauses) (λ w. all_true w (take i lits)) →
    AreSame gates (λ w. are_true w now) (λ w. are_true w clauses && value_of w (get_or lits i d)) →
    AreSame gates (λ w. are_true w now) (λ w. all_true w (take (i + 1) lits))
lits_more gates clauses now lits i d inside so_far step = λ w fires.
    step w fires ∙ ap (λ b. b && value_of w (get_or lits i d)) (so_far w fires) ∙ sym (all_true_last w (take i lits) (get_or lits i d))
    ∙ ap (all_true w) (sym (take_more lits i d inside))

-- the clauses of the property and then those of the constraints
pub wanted_is : (names : List Lit) (gates : List Gate) (bad : Lit) (constraints : List Lit) (property others inv : List (List Lit)) (n : ℕ) →
    inv ≡ property ++ others → n ≡ length property →
    AreSame gates (λ w. are_true w property) (λ w. all_true w (negation (renamed names bad) ∷ [])) →
    AreSame gates (λ w. are_true w others) (λ w. all_true w (map (renamed names) constraints)) →
    AreWanted names gates bad constraints n inv
wanted_is names gates bad constraints property others inv n inv_is n_is first rest =
    let front : take n inv ≡ property = ap (λ k. take k inv) n_is ∙ ap (take (length property)) inv_is ∙ take-append_seam property others in
    let back : drop n inv ≡ others = ap (λ k. drop k inv) n_is ∙ ap (drop (length property)) inv_is ∙ drop-append_seam property others in
    record {
      of_property = λ w fires. ap (are_true w) front ∙ first w fires ∙ and_true (value_of w (negation (renamed names bad))) ∙ value-negation w (renamed names bad);
      of_constraints = λ w fires. ap (are_true w) back ∙ rest w fires;
    }

-- a clause more among the early ones, or among the late ones
pub early_more : (w : Valuation) (early late : List (List Lit)) (c : List Lit) → (are_true w (early ++ c ∷ []) && are_true w late) ≡ ((are_true w early && are_true w late) && is_true w c)
early_more w early late c = ap (λ b. b && are_true w late) (are_true_last w early c) ∙ and_moved (are_true w early) (are_true w late) (is_true w c) ∙ and_more (are_true w early) (are_true w late) (is_true w c)

pub late_more : (w : Valuation) (early late : List (List Lit)) (c : List Lit) → (are_true w early && are_true w (late ++ c ∷ [])) ≡ ((are_true w early && are_true w late) && is_true w c)
late_more w early late c = ap (λ b. are_true w early && b) (are_true_last w late c) ∙ and_more (are_true w early) (are_true w late) (is_true w c)

-- one more of the clauses that are arranged
pub arranged_more : (w : Valuation) (clauses early late sooner later : List (List Lit)) (k : ℕ) → k < length clauses → (are_true w early && are_true w late) ≡ are_true w (take k clauses) →
    (are_true w sooner && are_true w later) ≡ ((are_true w early && are_true w late) && is_true w (get_or clauses k [])) → (are_true w sooner && are_true w later) ≡ are_true w (take (k + 1) clauses)
arranged_more w clauses early late sooner later k inside so_far step =
    step ∙ ap (λ b. b && is_true w (get_or clauses k [])) so_far ∙ sym (are_true_last w (take k clauses) (get_or clauses k [])) ∙ ap (are_true w) (sym (take_more clauses k [] inside))

-- the same from what calls answer

pub part_denied : (gates : List Gate) (clause pending front all : List Lit) (a b one other x y : Lit) → front ≡ pending ++ x ∷ [] → all ≡ front ++ y ∷ [] →
    x ≡ negation other → y ≡ negation one → b ≡ negation a → IsBoth gates b one other →
    AreSame gates (λ w. is_true w clause || is_true w all) (λ w. is_true w clause || (is_true w pending || value_of w a))
part_denied gates clause pending front all a b one other x y front_is all_is x_is y_is b_is both =
    let whole : all ≡ (pending ++ negation other ∷ []) ++ negation one ∷ [] =
    all_is ∙ ap (λ q. q ++ y ∷ []) front_is ∙ ap (λ q. (pending ++ q ∷ []) ++ y ∷ []) x_is ∙ ap (λ q. (pending ++ negation other ∷ []) ++ q ∷ []) y_is in
    subst (λ q. AreSame gates (λ w. is_true w clause || is_true w q) (λ w. is_true w clause || (is_true w pending || value_of w a))) (sym whole)
    (denied_part gates clause pending a one other (subst (λ q. IsBoth gates q one other) b_is both))

pub part_other : (gates : List Gate) (clause pending all : List Lit) (a : Lit) → all ≡ clause ++ a ∷ [] →
    AreSame gates (λ w. is_true w all || is_true w pending) (λ w. is_true w clause || (is_true w pending || value_of w a))
part_other gates clause pending all a is =
    subst (λ q. AreSame gates (λ w. is_true w q || is_true w pending) (λ w. is_true w clause || (is_true w pending || value_of w a))) (sym is) (other_part gates clause pending a)

pub clause_first : (gates : List Gate) (clause pending : List Lit) (lit : Lit) → clause ≡ [] → pending ≡ lit ∷ [] →
    AreSame gates (λ w. is_true w clause || is_true w pending) (λ w. value_of w lit)
clause_first gates clause pending lit clause_is pending_is = λ w fires.
    ap (λ q. is_true w q || is_true w pending) clause_is ∙ ap (λ q. is_true w q) pending_is ∙ or_false (value_of w lit)

pub clause_whole : (gates : List Gate) (clause before all more : List Lit) (lit : Lit) → all ≡ clause ++ more → more ≡ before →
    AreSame gates (λ w. is_true w clause || is_true w before) (λ w. value_of w lit) → AreSame gates (λ w. is_true w all) (λ w. value_of w lit)
clause_whole gates clause before all more lit all_is more_is so_far =
    subst (λ q. AreSame gates (λ w. is_true w q) (λ w. value_of w lit)) (sym (all_is ∙ ap (λ q. clause ++ q) more_is)) (clause_cut gates clause before lit so_far)

pub clause_pushed : (gates : List Gate) (clauses all : List (List Lit)) (clause c : List Lit) (lit : Lit) → all ≡ clauses ++ c ∷ [] → c ≡ clause →
    AreSame gates (λ w. is_true w clause) (λ w. value_of w lit) → AreSame gates (λ w. are_true w all) (λ w. are_true w clauses && value_of w lit)
clause_pushed gates clauses all clause c lit all_is c_is is =
    subst (λ q. AreSame gates (λ w. are_true w q) (λ w. are_true w clauses && value_of w lit)) (sym (all_is ∙ ap (λ q. clauses ++ q ∷ []) c_is)) (clause_more gates clauses clause lit is)

pub unit_pushed : (gates : List Gate) (clauses all : List (List Lit)) (lit : Lit) → all ≡ clauses ++ (lit ∷ []) ∷ [] →
    AreSame gates (λ w. are_true w all) (λ w. are_true w clauses && value_of w lit)
unit_pushed gates clauses all lit is = subst (λ q. AreSame gates (λ w. are_true w q) (λ w. are_true w clauses && value_of w lit)) (sym is) (unit_more gates clauses lit)

pub item_both : (gates : List Gate) (clauses : List (List Lit)) (pending front all : List Lit) (a one other : Lit) → front ≡ pending ++ one ∷ [] → all ≡ front ++ other ∷ [] →
    IsBoth gates a one other →
    AreSame gates (λ w. are_true w clauses && all_true w all) (λ w. are_true w clauses && (all_true w pending && value_of w a))
item_both gates clauses pending front all a one other front_is all_is both =
    subst (λ q. AreSame gates (λ w. are_true w clauses && all_true w q) (λ w. are_true w clauses && (all_true w pending && value_of w a)))
    (sym (all_is ∙ ap (λ q. q ++ other ∷ []) front_is)) (both_item gates clauses pending a one other both)

pub items_first : (gates : List Gate) (clauses : List (List Lit)) (pending : List Lit) (lit : Lit) → pending ≡ lit ∷ [] →
    AreSame gates (λ w. are_true w clauses && all_true w pending) (λ w. are_true w clauses && value_of w lit)
items_first gates clauses pending lit is = λ w fires.
    ap (λ q. are_true w clauses && all_true w q) is ∙ ap (λ b. are_true w clauses && b) (and_true (value_of w lit))

pub items_whole : (gates : List Gate) (first clauses all : List (List Lit)) (before more : List Lit) (lit : Lit) → all ≡ clauses ++ map (λ a. a ∷ []) more → more ≡ before →
    AreSame gates (λ w. are_true w clauses && all_true w before) (λ w. are_true w first && value_of w lit) →
    AreSame gates (λ w. are_true w all) (λ w. are_true w first && value_of w lit)
items_whole gates first clauses all before more lit all_is more_is so_far =
    subst (λ q. AreSame gates (λ w. are_true w q) (λ w. are_true w first && value_of w lit)) (sym (all_is ∙ ap (λ q. clauses ++ map (λ a. a ∷ []) q) more_is))
    (items_cut gates first clauses before lit so_far)

pub lits_all : (gates : List Gate) (clauses : List (List Lit)) (lits : List Lit) (i : ℕ) → length lits ≤ i →
    AreSame gates (λ w. are_true w clauses) (λ w. all_true w (take i lits)) → AreSame gates (λ w. are_true w clauses) (λ w. all_true w lits)
lits_all gates clauses lits i all so_far = subst (λ q. AreSame gates (λ w. are_true w clauses) (λ w. all_true w q)) (take_all i lits all) so_far

pub arranged_all : (clauses early late all : List (List Lit)) (k : ℕ) → length clauses ≤ k → ((w : Valuation) → (are_true w early && are_true w late) ≡ are_true w (take k clauses)) →
    all ≡ early ++ late → (w : Valuation) → are_true w all ≡ are_true w clauses
arranged_all clauses early late all k whole so_far all_is = λ w.
    ap (λ q. are_true w q) all_is ∙ are_true_behind w early late ∙ so_far w ∙ ap (λ q. are_true w q) (take_all k clauses whole)

pub wanted_found : (names : List Lit) (gates one other : List Gate) (bad denial : Lit) (constraints lits : List Lit) (property others inv : List (List Lit)) (n : ℕ) →
    one ≡ gates → other ≡ gates → denial ≡ negation (renamed names bad) → lits ≡ map (renamed names) constraints →
    inv ≡ property ++ others → n ≡ length property →
    AreSame one (λ w. are_true w property) (λ w. all_true w (denial ∷ [])) → AreSame other (λ w. are_true w others) (λ w. all_true w lits) →
    AreWanted names gates bad constraints n inv
wanted_found names gates one other bad denial constraints lits property others inv n one_is other_is denial_is lits_is inv_is n_is first rest =
    let first_too : AreSame gates (λ w. are_true w property) (λ w. all_true w (negation (renamed names bad) ∷ [])) =
    subst (λ q. AreSame gates (λ w. are_true w property) (λ w. all_true w (q ∷ []))) denial_is
    (subst (λ q. AreSame q (λ w. are_true w property) (λ w. all_true w (denial ∷ []))) one_is first) in
    let rest_too : AreSame gates (λ w. are_true w others) (λ w. all_true w (map (renamed names) constraints)) =
    subst (λ q. AreSame gates (λ w. are_true w others) (λ w. all_true w q)) lits_is
    (subst (λ q. AreSame q (λ w. are_true w others) (λ w. all_true w lits)) other_is rest) in
    wanted_is names gates bad constraints property others inv n inv_is n_is first_too rest_too
