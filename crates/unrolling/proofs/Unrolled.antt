-- One time more of a circuit in clauses.
use Rattle.std.proofs.Common.{◌≡◌, ◌≢◌, ℕ, zero, suc, ◌+◌, ◌-◌, ◌*◌, ◌<◌, ◌≤◌, if◌then◌else◌, Bool, true, false, not, List, [], ◌∷◌, ◌++◌, map, length, get_or, All, Contains, None, ℤ, pos, negsuc, inl, inr, refl, sym, ◌∙◌, ap, subst, arith, length-append}
use Rattle.std.proofs.Math.Dec.{leb}
use Rattle.std.proofs.lemmas.Bool.{le-leb, cases_lt}
use Rattle.std.proofs.lemmas.Bool.Decides.{leb_tells}
use Rattle.std.proofs.lemmas.List.{get_or_append_left, get_or_at, get_or-map, length-map, get_or_default}
use Rattle.std.specs.HashMap.{get}
use Rattle.std.proofs.lemmas.List.Elements.{All-nil, All-cons, All-map, All-push, All-append, All-weaker}
use Rattle.graph.specs.declared.circuit.Lit.{Lit}
use Rattle.graph.specs.declared.circuit.Latch.{Latch}
use Rattle.graph.specs.declared.parts.Parts.{Parts}
use Rattle.graph.specs.Circuits.{variable, place, value_of, at}
use Rattle.graph.specs.WellFormed.{IsWellFormed}
use Rattle.graph.proofs.Evaluation.{All-left, All-right, All-unmap, Contains-map, held, latches_even, latches_in_range}
use Rattle.graph.proofs.Gates.{value_of-even}
use Rattle.graph.proofs.Times.{Starts-at, Steps-at}
use Rattle.lrat.specs.Literals.{is_true, IsSatisfied, IsLiteral}
use Rattle.lrat.specs.Shared.{unit_clauses}
use Rattle.cnf.specs.Clauses.{next_of}
use Rattle.cnf.specs.Meaning.{AreSatisfied, KeepsNow}
use Rattle.cnf.proofs.CaseLaws.{next_value, nexts_in_range, constraints_in_range}
use Rattle.cnf.proofs.Listed.{satisfied-unit, unit-satisfied}
use Rattle.unrolling.specs.declared.cone.Cone.{Cone}
use Rattle.unrolling.specs.declared.function.Function.{Function}
use Rattle.unrolling.specs.declared.encoder.Encoder.{Encoder}
use Rattle.unrolling.specs.Cones.{IsConeOf, latch_at, no_latch}
use Rattle.unrolling.specs.Encodings.{IsGate, IsDefined, IsEncoding, IsExtended, same_function, Told, told, AreKept}
use Rattle.unrolling.specs.Demands.{IsMore}
use Rattle.unrolling.specs.Unrollings.{Leaves, Follows, Stands, IsTable, AreFresh, AreStates, AreInitial, IsUnrolled, later, literal_at, literal_of, input_of, latch_of}
use Rattle.unrolling.proofs.Encoded.{AgreeUpTo, agree_true, agree_satisfied, defined_agree, literals_up}
use Rattle.unrolling.proofs.Closed.{next_range, no_some}
use Rattle.unrolling.proofs.Negated.{literal_up}
use Rattle.unrolling.proofs.Tabled.{literal_in_range, literal_stands, table_weaker}

first_old : (s : Leaves) (first t : ℕ) → t < length s.firsts → get_or (s.firsts ++ first ∷ []) t 0 ≡ get_or s.firsts t 0
first_old s first t t_in = get_or_append_left s.firsts (first ∷ []) 0 t t_in

first_new : (s : Leaves) (first : ℕ) → get_or (s.firsts ++ first ∷ []) (length s.firsts) 0 ≡ first
first_new s first = get_or_at s.firsts first [] 0 (length s.firsts) refl

pub follows_before : (m : Parts) (c : Cone) (s : Leaves) (first : ℕ) (r : List (List Bool)) (v : ℕ → Bool) → Follows m c (later s first) r v → Follows m c s r v
follows_before m c s first r v h = record {
  runs = h.runs;
  state = h.state;
  inputs = λ t k t_in t_r k_in. ap (λ q. v (q + (k + 1))) (sym (first_old s first t t_in)) ∙ h.inputs t k (omega (arith, t_in, length-append s.firsts (first ∷ []))) t_r k_in;
}

pub fresh_later : (m : Parts) (c : Cone) (s : Leaves) (first : ℕ) → AreFresh m c (later s first) (length s.firsts) first
fresh_later m c s first r v h t_r k k_in =
    ap (λ q. v (q + (k + 1))) (sym (first_new s first)) ∙ h.inputs (length s.firsts) k (omega (arith, length-append s.firsts (first ∷ []))) t_r k_in

pub states_later : (m : Parts) (c : Cone) (s : Leaves) (cs : Told) (t n k first : ℕ) (state : List ℤ) → n ≤ k → AreStates m c s cs t n state → AreStates m c (later s first) cs t k state
states_later m c s cs t n k first state le h = record {
  literals = All-weaker (IsLiteral n) (IsLiteral k) (λ l is. literal_up n k l is le) state h.literals;
  stands = λ i i_in r v follows all t_in. h.stands i i_in r v (follows_before m c s first r v follows) all t_in;
}

-- what is false is the constant
false_stands : (m : Parts) (c : Cone) (s : Leaves) (cs : Told) (t : ℕ) → Stands m c s cs t 0 (negsuc 0)
false_stands m c s cs t r v follows all t_in = ap not all.0.truth ∙ sym (follows.runs.agrees t [] t_in).valuation.constant

pub table_begins : (m : Parts) (c : Cone) (s : Leaves) (cs : Told) (t : ℕ) (e : Encoder) (table : List ℤ) → length table ≡ m.max_var + 1 → All (IsLiteral e.variables) table →
    literal_at table 0 ≡ negsuc 0 → IsTable m c s cs t e.variables 0 0 0 table
table_begins m c s cs t e table whole literals zero_is = record {
  whole = whole;
  literals = literals;
  stands = λ x filled. elim filled [
    | inl none ↦ subst (λ q. Stands m c s cs t q (literal_at table q)) (sym none) (subst (Stands m c s cs t 0) (sym zero_is) (false_stands m c s cs t))
    | inr (inl (k, k_in, is)) ↦ absurd (omega (arith, k_in))
    | inr (inr (inl (k, k_in, is))) ↦ absurd (omega (arith, k_in))
    | inr (inr (inr (k, k_in, is))) ↦ absurd (omega (arith, k_in))
  ];
}

-- the constraints as clauses
units_literals : (n : ℕ) (table : List ℤ) (lits : List Lit) → All (IsLiteral n) table → All (λ a. variable a < length table) lits → All (All (IsLiteral n)) (unit_clauses (map (literal_of table) lits))
units_literals n table lits all range = All-map (All (IsLiteral n)) (λ l. l ∷ []) (map (literal_of table) lits)
    (All-map (λ l. All (IsLiteral n) (l ∷ [])) (literal_of table) lits (λ k d k_in.
    All-cons (IsLiteral n) (literal_of table (get_or lits k d)) [] (literal_in_range n table (get_or lits k d) all (range k d k_in)) (All-nil (IsLiteral n))))

units_satisfied : (v : ℕ → Bool) (table : List ℤ) (lits : List Lit) → All (λ a. is_true v (literal_of table a) ≡ true) lits → AreSatisfied v (unit_clauses (map (literal_of table) lits))
units_satisfied v table lits all = All-map (IsSatisfied v) (λ l. l ∷ []) (map (literal_of table) lits)
    (All-map (λ l. IsSatisfied v (l ∷ [])) (literal_of table) lits (λ k d k_in. unit-satisfied v (literal_of table (get_or lits k d)) (all k d k_in)))

constraints_true : (v : ℕ → Bool) (w : List Bool) (table : List ℤ) (lits : List Lit) → ((k : ℕ) (d : Lit) → k < length lits → is_true v (literal_of table (get_or lits k d)) ≡ value_of w (get_or lits k d)) →
    All (λ a. value_of w a ≡ true) lits → All (λ a. is_true v (literal_of table a) ≡ true) lits
constraints_true v w table lits same kept k d k_in = same k d k_in ∙ kept k d k_in

units_true : (v : ℕ → Bool) (table : List ℤ) (lits : List Lit) → AreSatisfied v (unit_clauses (map (literal_of table) lits)) → All (λ a. is_true v (literal_of table a) ≡ true) lits
units_true v table lits all k d k_in = satisfied-unit v (literal_of table (get_or lits k d))
    (All-unmap (λ l. IsSatisfied v (l ∷ [])) (literal_of table) lits (All-unmap (IsSatisfied v) (λ l. l ∷ []) (map (literal_of table) lits) all) k d k_in)

-- the literals of the next state
pub states_next : (m : Parts) (c : Cone) (s : Leaves) (cs : Told) (t n : ℕ) (table : List ℤ) → IsWellFormed m → IsConeOf m c →
    IsTable m c s cs t n (length c.inputs.items) (length c.latches.items) (length c.cells.items) table → ((k : ℕ) → k < length c.latches.items → variable (next_of m.latches (latch_of m c k)) < m.max_var + 1) →
    AreStates m c s cs (t + 1) n (map (λ i. literal_of table (next_of m.latches (latch_at m.latches i).lit)) c.latches.items)
states_next m c s cs t n table well cone is range =
    let f : ℕ → ℤ = λ i. literal_of table (next_of m.latches (latch_at m.latches i).lit) in
    record {
      literals = All-map (IsLiteral n) f c.latches.items (λ k d k_in.
          subst (λ q. IsLiteral n (f q)) (get_or_default c.latches.items k 0 d k_in) (literal_in_range n table (next_of m.latches (latch_of m c k)) is.literals (omega (arith, range k k_in, is.whole))));
      stands = λ k k_in r v follows all t_in.
          let a : Lit = latch_of m c k in
          let p_in : get_or c.latches.items k 0 < length m.latches = cone.latches k 0 k_in in
          let even = (latches_even m well (get_or c.latches.items k 0) no_latch p_in).1 in
          let there : Contains (map held m.latches) (variable a) = Contains-map held m.latches (get_or c.latches.items k 0) no_latch p_in in
          let step = next_value m (at r t) (at r (t + 1)) a well (Steps-at m r t follows.runs.steps t_in) there in
          let before = literal_stands m c s cs t n (length c.inputs.items) (length c.latches.items) (length c.cells.items) table (next_of m.latches a) is (cone.nexts k k_in) (range k k_in) r v follows all (omega (arith, t_in)) in
          ap (is_true v) (get_or-map f c.latches.items k 0 (negsuc 0) k_in) ∙ before ∙ sym step ∙ value_of-even (at r (t + 1)) a even;
    }

-- an assignment that follows a run one time more
opened : (n : ℕ) (v : ℕ → Bool) (f : ℕ → Bool) → ℕ → Bool
opened n v f x = if leb x n then v x else f (x - n - 1)

opened_old : (n : ℕ) (v f : ℕ → Bool) → AgreeUpTo n (opened n v f) v
unfolding opened
opened_old n v f x x_in = rw (le-leb x n x_in) refl

above : (a b : ℕ) → b < a → leb a b ≡ false
above a b lt = elim (leb_tells a b) [ inl h ↦ absurd (omega (arith, lt, h.1)) | inr h ↦ h.0 ]

opened_new : (n k : ℕ) (v f : ℕ → Bool) → opened n v f (n + (k + 1)) ≡ f k
unfolding opened
opened_new n k v f = let e : n + (k + 1) - n - 1 ≡ k = omega arith in rw (above (n + (k + 1)) n (omega arith)) (ap f e)

follows_agree : (m : Parts) (c : Cone) (s : Leaves) (n : ℕ) (r : List (List Bool)) (u v : ℕ → Bool) → IsConeOf m c → AreInitial m c s.initial → length c.latches.items + 1 ≤ n →
    All (λ first. first + length c.inputs.items ≤ n) s.firsts → AgreeUpTo n u v → Follows m c s r v → Follows m c s r u
follows_agree m c s n r u v cone initial some inputs agree h = record {
  runs = h.runs;
  state = λ k k_in.
      let p : ℕ = get_or c.latches.items k 0 in
      let l_in : IsLiteral n (literal_at s.initial p) = literal_up (length c.latches.items + 1) n (literal_at s.initial p) (initial.literals p (negsuc 0) (let q = cone.latches k 0 k_in in omega (arith, q, initial.whole))) some in
      agree_true n u v (literal_at s.initial p) agree l_in ∙ h.state k k_in;
  inputs = λ t k t_in t_r k_in.
      let room = inputs t 0 t_in in
      agree (get_or s.firsts t 0 + (k + 1)) (omega (arith, room, k_in)) ∙ h.inputs t k t_in t_r k_in;
}

follows_opened : (m : Parts) (c : Cone) (s : Leaves) (n : ℕ) (r : List (List Bool)) (v : ℕ → Bool) → IsConeOf m c → AreInitial m c s.initial → length c.latches.items + 1 ≤ n →
    All (λ first. first + length c.inputs.items ≤ n) s.firsts → Follows m c s r v → Follows m c (later s n) r (opened n v (λ k. place (at r (length s.firsts)) (input_of m c k)))
follows_opened m c s n r v cone initial some inputs h =
    let f : ℕ → Bool = λ k. place (at r (length s.firsts)) (input_of m c k) in
    let u : ℕ → Bool = opened n v f in
    let old : Follows m c s r u = follows_agree m c s n r u v cone initial some inputs (opened_old n v f) h in
    record {
      runs = h.runs;
      state = old.state;
      inputs = λ t k t_in t_r k_in. elim (cases_lt t (length s.firsts)) [
        | inl before ↦ ap (λ q. u (q + (k + 1))) (first_old s n t before) ∙ old.inputs t k before t_r k_in
        | inr last ↦
            let t_is : t ≡ length s.firsts = omega (arith, t_in, last, length-append s.firsts (n ∷ [])) in
            ap (λ q. u (get_or (s.firsts ++ n ∷ []) q 0 + (k + 1))) t_is ∙ ap (λ q. u (q + (k + 1))) (first_new s n) ∙ opened_new n k v f ∙ ap (λ q. place (at r q) (input_of m c k)) (sym t_is)
      ];
    }

-- the parts of one time, put together
pub record IsNext (m : Parts) (c : Cone) (s : Leaves) (e f : Encoder) (cs ds : List (List ℤ)) (table : List ℤ) : Type 0 where
  pub grown : IsExtended (e.variables + length c.inputs.items) e.functions.items f.variables f.functions.items
  pub encoding : IsEncoding f
  pub range : All (All (IsLiteral f.variables)) ds
  pub more : IsMore f.functions.items cs ds
  pub stands : IsTable m c (later s e.variables) (told f cs) (length s.firsts) f.variables (length c.inputs.items) (length c.latches.items) (length c.cells.items) table

constraints_small : (m : Parts) → IsWellFormed m → All (λ a. variable a < m.max_var + 1) m.constraints
constraints_small m well k d k_in = let p = constraints_in_range m well k d k_in in omega (arith, p)

pub unrolled_more : (m : Parts) (c : Cone) (s : Leaves) (state table : List ℤ) (e f : Encoder) (cs ds es : List (List ℤ)) → IsWellFormed m → IsConeOf m c → IsUnrolled m c s state e cs →
    IsNext m c s e f cs ds table → es ≡ ds ++ unit_clauses (map (literal_of table) m.constraints) →
    ((k : ℕ) → k < length c.latches.items → variable (next_of m.latches (latch_of m c k)) < m.max_var + 1) →
    IsUnrolled m c (later s e.variables) (map (λ i. literal_of table (next_of m.latches (latch_at m.latches i).lit)) c.latches.items) f es
    × IsTable m c (later s e.variables) (told f es) (length s.firsts) f.variables (length c.inputs.items) (length c.latches.items) (length c.cells.items) table
unrolled_more m c s state table e f cs ds es well cone h next es_is range =
    let t : ℕ = length s.firsts in
    let n : ℕ = e.variables in
    let s1 : Leaves = later s n in
    let fs : List Function = e.functions.items in
    let gs : List Function = f.functions.items in
    let units : List (List ℤ) = unit_clauses (map (literal_of table) m.constraints) in
    let small : All (λ a. variable a < length table) m.constraints = λ k d k_in. let p = constraints_small m well k d k_in in omega (arith, p, next.stands.whole) in
    let to_ds : (v : ℕ → Bool) → AreSatisfied v es → AreSatisfied v ds = λ v all. All-left (IsSatisfied v) ds units (subst (AreSatisfied v) es_is all) in
    let to_units : (v : ℕ → Bool) → AreSatisfied v es → AreSatisfied v units = λ v all. All-right (IsSatisfied v) ds units (subst (AreSatisfied v) es_is all) in
    let to_made : (v : ℕ → Bool) → AreKept v (told f es) → AreKept v (told f cs) = λ v all. (all.0, next.more.weaker v (to_ds v all.1)) in
    let to_old : (v : ℕ → Bool) → AreKept v (told f es) → AreKept v (told e cs) = λ v all. (next.grown.weaker v all.0, next.more.weaker v (to_ds v all.1)) in
    let es_range : All (All (IsLiteral f.variables)) es = subst (All (All (IsLiteral f.variables))) (sym es_is)
    (All-append (All (IsLiteral f.variables)) ds units next.range (units_literals f.variables table m.constraints next.stands.literals small)) in
    let whole : IsTable m c s1 (told f es) t f.variables (length c.inputs.items) (length c.latches.items) (length c.cells.items) table =
    table_weaker m c s1 (told f cs) (told f es) t f.variables f.variables (length c.inputs.items) (length c.latches.items) (length c.cells.items) table to_made (omega arith) next.stands in
    let true_now : (r : List (List Bool)) (v : ℕ → Bool) → Follows m c s1 r v → AreKept v (told f cs) → t < length r → (k : ℕ) (d : Lit) → k < length m.constraints →
    is_true v (literal_of table (get_or m.constraints k d)) ≡ value_of (at r t) (get_or m.constraints k d) = λ r v follows all t_in k d k_in.
    literal_stands m c s1 (told f cs) t f.variables (length c.inputs.items) (length c.latches.items) (length c.cells.items) table (get_or m.constraints k d) next.stands (cone.constraints k d k_in) (constraints_small m well k d k_in) r v follows all t_in in
    let states = states_next m c s1 (told f es) t f.variables table well cone whole range in
    let more : length (s.firsts ++ n ∷ []) ≡ t + 1 = omega (arith, length-append s.firsts (n ∷ [])) in
    let same_gate : (x : ℕ) → x ≤ n + length c.inputs.items → IsGate gs x → IsGate fs x = λ x x_in. subst (λ (q : Function). q.leaves.0 ≢ pos 0) (next.grown.same x x_in) in (
      record {
        encoding = next.encoding;
        range = es_range;
        initial = h.initial;
        opened = omega (arith, h.opened, next.grown.more);
        inputs = All-push (λ first. first + length c.inputs.items ≤ f.variables) s.firsts n (λ k d k_in. let p = h.inputs k d k_in in omega (arith, p, next.grown.more)) (omega (arith, next.grown.more));
        free = λ x x_in gate. h.free x x_in (same_gate x (omega (arith, x_in, h.opened)) gate);
        free_inputs = λ i k i_in k_in gate. elim (cases_lt i t) [
          | inl before ↦
              let room = h.inputs i 0 before in
              let old : IsGate gs (get_or s.firsts i 0 + (k + 1)) = subst (λ q. IsGate gs (q + (k + 1))) (first_old s n i before) gate in
              h.free_inputs i k before k_in (same_gate (get_or s.firsts i 0 + (k + 1)) (omega (arith, room, k_in)) old)
          | inr last ↦
              let i_is : i ≡ t = omega (arith, i_in, last, more) in
              let new : IsGate gs (n + (k + 1)) = subst (λ q. IsGate gs (q + (k + 1))) (ap (λ q. get_or (s.firsts ++ n ∷ []) q 0) i_is ∙ first_new s n) gate in
              let le = h.encoding.used (n + (k + 1)) (same_gate (n + (k + 1)) (omega (arith, k_in)) new) in
              absurd (omega (arith, le))
        ];
        whole = length-map c.latches.items _;
        states = subst (λ q. AreStates m c s1 (told f es) q f.variables (map (λ i. literal_of table (next_of m.latches (latch_at m.latches i).lit)) c.latches.items)) (sym more) states;
        keeps = λ r v follows all i i_in i_r. elim (cases_lt i t) [
          | inl before ↦ h.keeps r v (follows_before m c s n r v follows) (to_old v all) i before i_r
          | inr last ↦
              let i_is : i ≡ t = omega (arith, last, i_in, more) in
              let t_r : t < length r = omega (arith, i_r, i_is) in
              subst (λ q. KeepsNow m (at r q)) (sym i_is) (λ k d k_in. sym (true_now r v follows (to_made v all) t_r k d k_in) ∙ units_true v table m.constraints (to_units v all.1) k d k_in)
        ];
        exists = λ r run keeps long.
            let t_r : t < length r = omega (arith, long, more) in
            let first = h.exists r run keeps (omega (arith, t_r)) in
            let f0 : ℕ → Bool = λ k. place (at r t) (input_of m c k) in
            let u : ℕ → Bool = opened n first.0 f0 in
            let u_follows : Follows m c s1 r u = follows_opened m c s n r first.0 cone h.initial h.opened h.inputs first.1 in
            let u_agrees : AgreeUpTo n u first.0 = opened_old n first.0 f0 in
            let u_cs : AreSatisfied u cs = agree_satisfied n u first.0 cs h.range u_agrees first.2.1 in
            let u_defined : IsDefined fs u = defined_agree n u first.0 fs h.encoding.some h.encoding.used h.encoding.below u_agrees first.2.0 in
            let second = next.grown.extends u u_defined in
            let cs_up : All (All (IsLiteral (n + length c.inputs.items))) cs = literals_up n (n + length c.inputs.items) cs (omega arith) h.range in
            let z_cs : AreSatisfied second.0 cs = agree_satisfied (n + length c.inputs.items) second.0 u cs cs_up second.2 u_cs in
            let z_ds : AreSatisfied second.0 ds = next.more.stronger second.0 second.1 z_cs in
            let inputs_now : All (λ p. p + length c.inputs.items ≤ n + length c.inputs.items) (s.firsts ++ n ∷ []) = All-push (λ p. p + length c.inputs.items ≤ n + length c.inputs.items) s.firsts n (λ k d k_in. let p = h.inputs k d k_in in omega (arith, p)) (omega arith) in
            let follows : Follows m c s1 r second.0 = follows_agree m c s1 (n + length c.inputs.items) r second.0 u cone h.initial (omega (arith, h.opened)) inputs_now second.2 u_follows in
            let units_on : AreSatisfied second.0 units = units_satisfied second.0 table m.constraints (constraints_true second.0 (at r t) table m.constraints (true_now r second.0 follows (second.1, z_cs) t_r) (keeps t [] t_r)) in
            (second.0, follows, (second.1, subst (AreSatisfied second.0) (sym es_is) (All-append (IsSatisfied second.0) ds units z_ds units_on)));
      },
      whole,
    )

-- the next literal of a latch of the cone is in range
pub next_small : (m : Parts) (c : Cone) (k : ℕ) → IsWellFormed m → IsConeOf m c → k < length c.latches.items → variable (next_of m.latches (latch_of m c k)) < m.max_var + 1
next_small m c k well cone k_in =
    let p : ℕ = get_or c.latches.items k 0 in
    let p_in : p < length m.latches = cone.latches k 0 k_in in
    let range = latches_in_range m well p no_latch p_in in
    let q : (next_of m.latches (latch_of m c k)).0 ≤ 2 * m.max_var + 1 = next_range (2 * m.max_var + 1) m.latches (latch_of m c k) (nexts_in_range m well) range (latches_even m well p no_latch p_in).1 in
    omega (arith, q)

-- the first variable is true, and the others have these values
abbrev begun : (ℕ → Bool) → ℕ → Bool
begun f zero = false
begun f (suc zero) = true
begun f (suc (suc k)) = f k

begun_true : (f : ℕ → Bool) (k : ℕ) → is_true (begun f) (pos (k + 2)) ≡ f k
begun_true f k = let e : k + 2 ≡ suc (suc k) = omega arith in ap (λ q. is_true (begun f) (pos q)) e

-- before the first time
pub unrolled_begins : (m : Parts) (c : Cone) (initial : List ℤ) (e : Encoder) (cs : List (List ℤ)) → IsWellFormed m → IsConeOf m c → AreInitial m c initial → e.variables ≡ length c.latches.items + 1 →
    ((f : Function) → get same_function e.shared f ≡ None) → length e.functions.items ≤ suc e.variables → ((x : ℕ) → IsGate e.functions.items x → ⊥) → cs ≡ (pos 1 ∷ []) ∷ [] → IsUnrolled m c (record { initial = initial; firsts = [] }) (map (literal_at initial) c.latches.items) e cs
unrolled_begins m c initial e cs well cone are count none room free cs_is =
    let one : List (List ℤ) = (pos 1 ∷ []) ∷ [] in
    let s : Leaves = record { initial = initial; firsts = [] } in
    let one_in : IsLiteral e.variables (pos 1) = (λ z. cc, omega (arith, count)) in
    let state_at : (k : ℕ) → k < length c.latches.items → literal_at (map (literal_at initial) c.latches.items) k ≡ literal_at initial (get_or c.latches.items k 0) = λ k k_in. get_or-map (literal_at initial) c.latches.items k 0 (negsuc 0) k_in in
    let p_in : (k : ℕ) → k < length c.latches.items → get_or c.latches.items k 0 < length initial = λ k k_in. (let q = cone.latches k 0 k_in in omega (arith, q, are.whole)) in
    record {
      encoding = record {
        some = omega (arith, count);
        places = room;
        below = λ x gate. absurd (free x gate);
        used = λ x gate. absurd (free x gate);
        shared = λ f x found. absurd (no_some x (sym (none f) ∙ found));
      };
      range = subst (All (All (IsLiteral e.variables))) (sym cs_is) (All-cons (All (IsLiteral e.variables)) (pos 1 ∷ []) [] (All-cons (IsLiteral e.variables) (pos 1) [] one_in (All-nil (IsLiteral e.variables))) (All-nil (All (IsLiteral e.variables))));
      free = λ x x_in. free x;
      free_inputs = λ t k t_in k_in. absurd (omega (arith, t_in));
      initial = are;
      opened = omega (arith, count);
      inputs = All-nil (λ first. first + length c.inputs.items ≤ e.variables);
      whole = length-map c.latches.items (literal_at initial);
      states = record {
        literals = All-map (IsLiteral e.variables) (literal_at initial) c.latches.items (λ k d k_in.
            subst (λ q. IsLiteral e.variables (literal_at initial q)) (get_or_default c.latches.items k 0 d k_in) (literal_up (length c.latches.items + 1) e.variables _ (are.literals (get_or c.latches.items k 0) (negsuc 0) (p_in k k_in)) (omega (arith, count))));
        stands = λ k k_in r v follows all t_in. ap (is_true v) (state_at k k_in) ∙ follows.state k k_in;
      };
      keeps = λ r v follows all t t_in. absurd (omega (arith, t_in));
      exists = λ r run keeps long.
          let start = Starts-at m r run.starts in
          let v : ℕ → Bool = begun (λ k. place (at r 0) (variable (latch_of m c k))) in
          let first : v 1 ≡ true = refl in (
            v,
            record {
              runs = run;
              state = λ k k_in.
                  let p : ℕ = get_or c.latches.items k 0 in
                  let l : Latch = latch_at m.latches p in
                  let l_in : p < length m.latches = cone.latches k 0 k_in in
                  let even = latches_even m well p no_latch l_in in
                  let reset = start.1 p no_latch l_in in
                  elim (well.resets p no_latch l_in) [
                    | inl low ↦ ap (is_true v) (are.low p l_in low) ∙ sym (sym (value_of-even (at r 0) l.lit even.1) ∙ reset.low low)
                    | inr (inl high) ↦ ap (is_true v) (are.high p l_in high) ∙ sym (sym (value_of-even (at r 0) l.lit even.1) ∙ reset.high high)
                    | inr (inr own) ↦ ap (is_true v) (are.opened k k_in (omega (arith, own, even.0))) ∙ begun_true (λ i. place (at r 0) (variable (latch_of m c i))) k
                  ];
              inputs = λ t k t_in t_r k_in. absurd (omega (arith, t_in));
            },
            (record { truth = first; gates = λ x gate. absurd (free x gate) }, subst (AreSatisfied v) (sym cs_is) (All-cons (IsSatisfied v) (pos 1 ∷ []) [] (unit-satisfied v (pos 1) first) (All-nil (IsSatisfied v)))),
          );
    }
