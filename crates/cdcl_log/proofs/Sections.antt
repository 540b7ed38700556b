-- A clause that denies units leads with them to the empty clause.
use Rattle.std.proofs.Common.{◌≡◌, ◌≢◌, ◌∙◌, inl, inr, ℕ, zero, suc, ◌+◌, ◌<◌, ◌≤◌, List, [], ◌∷◌, ◌++◌, length, get_or, map, All, AllPairs, Contains, Some, ℤ, pos, neg_ℤ, unsigned_abs, refl, sym, ap, subst, arith, length-append, append_assoc}
use Rattle.std.specs.FinMap as fin
use Rattle.std.specs.Ordering.{nat_cmp}
use Rattle.std.proofs.lemmas.Bool.{cases_lt}
use Rattle.std.proofs.lemmas.List.{append-nil, get_or_append_left, get_or_at, get_or-map, length-map, map-append}
use Rattle.std.proofs.lemmas.List.Elements.{All-nil, All-cons, All-append, Contains-push_cases}
use Rattle.lrat.specs.Store.{ById}
use Rattle.lrat.specs.Literals.{Finder}
use Rattle.lrat.specs.Lines.{IsDenied, SetsOne, Leads, IsAcceptedLine}
use Rattle.lrat.specs.Shared.{unit_clauses}
use Rattle.lrat.specs.Stages.{Stage, IsPositive, Goes, GoAlong}
use Rattle.lrat.specs.Proofs.{numbered_from, first_stage, IsAcceptedProof}
use Rattle.lrat.specs.declared.formula.Formula.{Formula}
use Rattle.lrat.specs.declared.line.Line.{Line}
use Rattle.lrat.specs.declared.line.Line.TheVariants.{Add, Delete}
use Rattle.lrat.proofs.Numbered.{get_new, numbered_above}
use Rattle.lrat.proofs.Proper.{from_denial, neg_neg}
use Rattle.cdcl_kernel.proofs.Forgetting.{by_eq}
use Rattle.cdcl_log.specs.Logged.{first_id, start, AreNumbered, IsNext, with_units}
use Rattle.cdcl_log.specs.Units.{IsUnitId, AreDenials}
use Rattle.cdcl_log.specs.declared.numbering.Numbering.{Numbering}
use Rattle.cdcl_log.proofs.Logged.{get_same, below, after, along_more}

-- ---- the clauses and the units by their ids

numbered_append : (k : ℕ) (cs ds : List (List ℤ)) (m : ById) → numbered_from k (cs ++ ds) m ≡ numbered_from (k + length cs) ds (numbered_from k cs m)
numbered_append k [] ds m = ap (λ j. numbered_from j ds m) (omega arith)
numbered_append k (c ∷ cs) ds m = numbered_append (k + 1) cs ds (fin.insert m k c) ∙ ap (λ j. numbered_from j ds (numbered_from (k + 1) cs (fin.insert m k c))) (omega arith)

pub numbered_get : (cs : List (List ℤ)) (k i : ℕ) (m : ById) (d : List ℤ) → i < length cs → fin.get (numbered_from k cs m) (k + i) ≡ Some (get_or cs i d)
numbered_get [] k i m d lt = absurd (omega arith)
numbered_get (c ∷ cs) k zero m d lt =
    let e : k + 0 ≡ k = omega arith in
    rw e (below cs (k + 1) k (fin.insert m k c) (omega arith) ∙ get_same m k c)
numbered_get (c ∷ cs) k (suc i) m d lt =
    let e : k + suc i ≡ k + 1 + i = omega arith in
    rw e (numbered_get cs (k + 1) i (fin.insert m k c) d (omega arith))

pub some_below : (cs : List (List ℤ)) (q : ℕ) (d : List ℤ) → fin.get (numbered_from 1 cs fin.empty) q ≡ Some d → q < 1 + length cs
some_below cs q d e =
    elim (cases_lt q (1 + length cs)) [
      | inl lt ↦ lt
      | inr le ↦ absurd (let f = numbered_above 1 cs fin.empty q (fin.get-empty nat_cmp q) le in let g = sym e ∙ f in cc)
    ]

-- what one stage has, the other has too, and with it the units
record Carries (s u : Stage) (base : ℕ) (us : List ℤ) : Type 0 where
  top : u.top ≤ s.top
  room : base + length us ≤ s.top
  closed : u.closed ≡ s.closed
  named : (q : ℕ) (d : List ℤ) → fin.get s.present q ≡ Some d → fin.get u.present q ≡ Some d
  units : (i : ℕ) → i < length us → fin.get u.present (base + i + 1) ≡ Some (get_or us i (pos 0) ∷ [])

length_units : (us : List ℤ) → length (unit_clauses us) ≡ length us
length_units us = length-map us (λ (l : ℤ). l ∷ [])

carries_first : (f : Formula) (room : ℕ) (us : List ℤ) → length us ≤ room → Carries (start f room) (first_stage (with_units f us)) (length f.clauses) us
carries_first f room us le =
    let all = numbered_append 1 f.clauses (unit_clauses us) fin.empty in
    record {
      top = omega (arith, le, length-append f.clauses (unit_clauses us), length_units us);
      room = omega (arith, le);
      closed = refl;
      named = λ q d e.
          ap (λ m. fin.get m q) all ∙ below (unit_clauses us) (1 + length f.clauses) q (numbered_from 1 f.clauses fin.empty) (some_below f.clauses q d e) ∙ e;
      units = λ i lt.
          let index : length f.clauses + i + 1 ≡ 1 + length f.clauses + i = omega arith in
          rw index
          (ap (λ m. fin.get m (1 + length f.clauses + i)) all
          ∙ numbered_get (unit_clauses us) (1 + length f.clauses) i (numbered_from 1 f.clauses fin.empty) (pos 0 ∷ []) (omega (arith, lt, length_units us))
          ∙ ap Some (get_or-map (λ (l : ℤ). l ∷ []) us i (pos 0) (pos 0 ∷ []) lt));
    }

-- ---- hints show the same where they name the same clauses

abbrev Names : Finder → Finder → Type 0
Names m k = (q : ℕ) (d : List ℤ) → m q ≡ Some d → k q ≡ Some d

leads_too : (m k : Finder) (ids : List ℕ) (s t : List ℤ) → Names m k → Leads m s ids t → Leads k s ids t
leads_too m k [] s t names same = same
leads_too m k (id ∷ ids) s t names (l, one, rest) =
    (l, record { clause = one.clause; found = names id one.clause one.found; leaves = one.leaves; new_in = one.new_in }, leads_too m k ids (s ++ l ∷ []) t names rest)

accepted_too : (m k : Finder) (v : ℕ) (c : List ℤ) (hints : List ℕ) → Names m k → IsAcceptedLine v m c hints → IsAcceptedLine v k c hints
accepted_too m k v c hints names line =
    let s = line.shown in
    record {
      proper = line.proper;
      shown = record {
        first = s.first;
        last = s.last;
        are = s.are;
        reached = s.reached;
        leads = leads_too m k s.first (map neg_ℤ c) s.reached names s.leads;
        conflict = record { clause = s.conflict.clause; found = names s.last s.conflict.clause s.conflict.found; denied = s.conflict.denied };
      };
    }

-- ---- a log with the units beside

either : (m k : ById) (id q : ℕ) (c d : List ℤ) → (fin.get m q ≡ Some d → fin.get k q ≡ Some d) → fin.get (fin.insert m id c) q ≡ Some d → fin.get (fin.insert k id c) q ≡ Some d
either m k id q c d f e =
    by_eq q id
    (λ same.
    let found : Some c ≡ Some d = sym (get_same m id c) ∙ subst (λ p. fin.get (fin.insert m id c) p ≡ Some d) same e in
    ap (fin.get (fin.insert k id c)) same ∙ get_same k id c ∙ found)
    (λ ne. get_new k id q c ne ∙ f (sym (get_new m id q c ne) ∙ e))

carries_on : (v : ℕ) (s u t : Stage) (base : ℕ) (us : List ℤ) (id : ℕ) (c : List ℤ) (hints : List ℤ) → Carries s u base us → Goes v s (Add id c hints) t → Goes v u (Add id c hints) (after u id c) × Carries t (after u id c) base us
carries_on v s u t base us id c hints r goes =
    let above : s.top < id = goes.1 in (
      (r.closed ∙ goes.0, omega (arith, r.top, above), goes.2, accepted_too (fin.get s.present) (fin.get u.present) v c (map unsigned_abs hints) r.named goes.3, refl),
      subst (λ w. Carries w (after u id c) base us) (sym goes.4)
          (record {
            top = omega arith;
            room = omega (arith, r.room, above);
            closed = refl;
            named = λ q d e. either s.present u.present id q c d (r.named q d) e;
            units = λ i lt. get_new u.present id (base + i + 1) c (λ same. omega (arith, same, lt, r.room, above)) ∙ r.units i lt;
          }),
    )

-- the lines lead on with the units beside
record Beside (v : ℕ) (s u t : Stage) (base : ℕ) (us : List ℤ) (ls : List Line) : Type 0 where
  reached : Stage
  along : GoAlong v u ls reached
  carries : Carries t reached base us

beside : (v : ℕ) (s u t : Stage) (base : ℕ) (us : List ℤ) (k : ℕ) (ls : List Line) → AreNumbered k ls → Carries s u base us → GoAlong v s ls t → Beside v s u t base us ls
beside v s u t base us k [] are r same = record { reached = u; along = refl; carries = subst (λ w. Carries w u base us) (sym same) r }
beside v s u t base us k (Add id c hints ∷ ls) are r (w, goes, along) =
    let one = carries_on v s u w base us id c hints r goes in
    let rest = beside v w (after u id c) t base us (k + 1) ls are.3 one.1 along in
    record { reached = rest.reached; along = (after u id c, one.0, rest.along); carries = rest.carries }
beside v s u t base us k (Delete id ids ∷ ls) are r along = absurd are

-- ---- units that a clause denies

-- an earlier literal is neither a later one nor its negation
apart_from : (done c : List ℤ) (a b : ℤ) → AllPairs (λ a b. (a ≢ b) × (a ≢ neg_ℤ b)) (done ++ b ∷ c) → Contains done a → (a ≢ b) × (a ≢ neg_ℤ b)
apart_from done c a b apart (k, lt, at) =
    let inside : length done < length (done ++ b ∷ c) = omega (arith, length-append done (b ∷ c)) in
    let first : get_or (done ++ b ∷ c) k a ≡ a = get_or_append_left done (b ∷ c) a k lt ∙ at in
    let second : get_or (done ++ b ∷ c) (length done) a ≡ b = get_or_at done b c a (length done) refl in
    let p = apart k (length done) a lt inside in
    (λ same. p.0 (first ∙ same ∙ sym second), λ same. p.1 (first ∙ same ∙ ap neg_ℤ (sym second)))

leads_append : (m : Finder) (ids js : List ℕ) (s t u : List ℤ) → Leads m s ids t → Leads m t js u → Leads m s (ids ++ js) u
leads_append m [] js s t u same rest = subst (λ w. Leads m w js u) same rest
leads_append m (id ∷ ids) js s t u (l, one, more) rest = (l, one, leads_append m ids js (s ++ l ∷ []) t u more rest)

one_unit : (m : Finder) (base : ℕ) (us done c : List ℤ) (b : ℤ) (id : ℤ) → ((i : ℕ) → i < length us → m (base + i + 1) ≡ Some (get_or us i (pos 0) ∷ [])) → AllPairs (λ a b. (a ≢ b) × (a ≢ neg_ℤ b)) (done ++ b ∷ c)
    → IsUnitId base us (neg_ℤ b) id → SetsOne m (map neg_ℤ done) (unsigned_abs id) (neg_ℤ b)
one_unit m base us done c b id units apart is =
    record {
      clause = neg_ℤ b ∷ [];
      found = ap m (ap unsigned_abs is.is) ∙ units is.index is.inside ∙ ap (λ l. Some (l ∷ [])) is.there;
      leaves = record {
        stands = (0, omega arith, refl);
        open_in = λ denied. (apart_from done c (neg_ℤ b) b apart (subst (Contains done) (ap neg_ℤ (neg_neg b)) (from_denial done _ denied))).1 refl;
        others = λ k has ne. elim (Contains-push_cases [] (neg_ℤ b) k has) [
          | inl none ↦ absurd (let lt = none.1 in omega arith)
          | inr same ↦ absurd (ne (sym same))
        ];
      };
      new_in = λ held. (apart_from done c b b apart (subst (Contains done) (neg_neg b) (from_denial done (neg_ℤ b) held))).0 refl;
    }

units_lead : (m : Finder) (base : ℕ) (us done c : List ℤ) (ids : List ℤ) → ((i : ℕ) → i < length us → m (base + i + 1) ≡ Some (get_or us i (pos 0) ∷ [])) → AllPairs (λ a b. (a ≢ b) × (a ≢ neg_ℤ b)) (done ++ c)
    → AreDenials base us c ids → Leads m (map neg_ℤ done) (map unsigned_abs ids) (map neg_ℤ (done ++ c))
units_lead m base us done [] [] units apart are = ap (map neg_ℤ) (append-nil done)
units_lead m base us done [] (id ∷ ids) units apart are = absurd are
units_lead m base us done (b ∷ c) [] units apart are = absurd are
units_lead m base us done (b ∷ c) (id ∷ ids) units apart are =
    let step : map neg_ℤ (done ++ b ∷ []) ≡ map neg_ℤ done ++ neg_ℤ b ∷ [] = map-append neg_ℤ done (b ∷ []) in
    let whole : (done ++ b ∷ []) ++ c ≡ done ++ b ∷ c = append_assoc done (b ∷ []) c in
    let rest = units_lead m base us (done ++ b ∷ []) c ids units (rw whole apart) are.1 in (
      neg_ℤ b,
      one_unit m base us done c b id units apart are.0,
      subst (λ t. Leads m (map neg_ℤ done ++ neg_ℤ b ∷ []) (map unsigned_abs ids) t) (ap (map neg_ℤ) whole) (subst (λ s. Leads m s (map unsigned_abs ids) (map neg_ℤ ((done ++ b ∷ []) ++ c))) step rest),
    )

-- ---- the line that ends the proof

pub last_of : (v : ℕ) (ls : List Line) (s t : Stage) (l : Line) → GoAlong v s (ls ++ l ∷ []) t → (w : Stage) × GoAlong v s ls w × Goes v w l t
last_of v [] s t l (u, goes, same) = (s, refl, subst (λ w. Goes v s l w) (sym same) goes)
last_of v (k ∷ ls) s t l (u, goes, along) = let rest = last_of v ls u t l along in (rest.0, (u, goes, rest.1), rest.2)

ids_positive : (base : ℕ) (us c ids : List ℤ) → AreDenials base us c ids → All IsPositive ids
ids_positive base us [] [] are = All-nil IsPositive
ids_positive base us [] (id ∷ ids) are = absurd are
ids_positive base us (l ∷ c) [] are = absurd are
ids_positive base us (l ∷ c) (id ∷ ids) are =
    All-cons IsPositive id ids (subst IsPositive (sym are.0.is) (let lt : 0 < base + are.0.index + 1 = omega arith in lt)) (ids_positive base us c ids are.1)

no_pairs : AllPairs (λ (a b : ℤ). (a ≢ b) × (a ≢ neg_ℤ b)) []
no_pairs i j d lt lt2 = absurd (omega (arith, lt2))

-- the empty clause by units that deny the clause, and then by what shows that
pub empty_shown : (v : ℕ) (m : Finder) (base : ℕ) (us c ids hints : List ℤ) → ((i : ℕ) → i < length us → m (base + i + 1) ≡ Some (get_or us i (pos 0) ∷ [])) → AreDenials base us c ids → IsAcceptedLine v m c (map unsigned_abs hints)
    → IsAcceptedLine v m [] (map unsigned_abs (ids ++ hints))
empty_shown v m base us c ids hints units are line =
    let s = line.shown in
    record {
      proper = (All-nil (λ l. unsigned_abs l ≤ v), no_pairs);
      shown = record {
        first = map unsigned_abs ids ++ s.first;
        last = s.last;
        are = map-append unsigned_abs ids hints ∙ ap (λ u. map unsigned_abs ids ++ u) s.are ∙ sym (append_assoc (map unsigned_abs ids) s.first (s.last ∷ []));
        reached = s.reached;
        leads = leads_append m (map unsigned_abs ids) s.first [] (map neg_ℤ c) s.reached (units_lead m base us [] c ids units line.proper.1 are) s.leads;
        conflict = s.conflict;
      };
    }

pub accepted_section : (f : Formula) (n : Numbering) (us : List ℤ) (ls : List Line) (c : List ℤ) (l : Line) (ids : List ℤ) → n.base ≡ length f.clauses → length us ≤ n.room → AreNumbered (first_id n) ls
    → (x : IsNext f n ls c l) → AreDenials n.base us c ids → IsAcceptedProof (with_units f us) (ls ++ Add x.id [] (ids ++ x.hints) ∷ [])
accepted_section f n us ls c l ids base few numbered x are =
    let parts = last_of f.vars ls (start f n.room) x.reached (Add x.id c x.hints) x.along in
    let goes = parts.2 in
    let above : parts.0.top < x.id = goes.1 in
    let b = beside f.vars (start f n.room) (first_stage (with_units f us)) parts.0 (length f.clauses) us (first_id n) ls numbered (carries_first f n.room us few) parts.1 in
    let denials : AreDenials (length f.clauses) us c ids = subst (λ k. AreDenials k us c ids) base are in
    let line = accepted_too (fin.get parts.0.present) (fin.get b.reached.present) f.vars c (map unsigned_abs x.hints) b.carries.named goes.3 in (
      after b.reached x.id [],
      along_more f.vars ls (first_stage (with_units f us)) b.reached (after b.reached x.id []) (Add x.id [] (ids ++ x.hints)) b.along (
        b.carries.closed ∙ goes.0,
        omega (arith, b.carries.top, above),
        All-append IsPositive ids x.hints (ids_positive (length f.clauses) us c ids denials) goes.2,
        empty_shown f.vars (fin.get b.reached.present) (length f.clauses) us c ids x.hints b.carries.units denials line,
        refl,
      ),
      refl,
    )

-- ---- units that are opposed

pub opposed_shown : (v : ℕ) (m : Finder) (base : ℕ) (us : List ℤ) (l one other : ℤ) → ((i : ℕ) → i < length us → m (base + i + 1) ≡ Some (get_or us i (pos 0) ∷ [])) → IsUnitId base us l one → IsUnitId base us (neg_ℤ l) other
    → IsAcceptedLine v m [] (map unsigned_abs (one ∷ other ∷ []))
opposed_shown v m base us l one other units is opposed =
    record {
      proper = (All-nil (λ l. unsigned_abs l ≤ v), no_pairs);
      shown = record {
        first = unsigned_abs one ∷ [];
        last = unsigned_abs other;
        are = refl;
        reached = l ∷ [];
        leads = (
          l,
          record {
            clause = l ∷ [];
            found = ap m (ap unsigned_abs is.is) ∙ units is.index is.inside ∙ ap (λ k. Some (k ∷ [])) is.there;
            leaves = record {
              stands = (0, omega arith, refl);
              open_in = λ denied. absurd (let lt = denied.1 in omega arith);
              others = λ k has ne. elim (Contains-push_cases [] l k has) [
                | inl none ↦ absurd (let lt = none.1 in omega arith)
                | inr same ↦ absurd (ne (sym same))
              ];
            };
            new_in = λ held. absurd (let lt = held.1 in omega arith);
          },
          refl,
        );
        conflict = record {
          clause = neg_ℤ l ∷ [];
          found = ap m (ap unsigned_abs opposed.is) ∙ units opposed.index opposed.inside ∙ ap (λ k. Some (k ∷ [])) opposed.there;
          denied = All-cons (IsDenied (l ∷ [])) (neg_ℤ l) [] (0, omega arith, sym (neg_neg l)) (All-nil (IsDenied (l ∷ [])));
        };
      };
    }

pub accepted_opposed : (f : Formula) (base room : ℕ) (us : List ℤ) (id : ℕ) (l one other : ℤ) → base ≡ length f.clauses → length us ≤ room → base + room < id → IsUnitId base us l one → IsUnitId base us (neg_ℤ l) other
    → IsAcceptedProof (with_units f us) (Add id [] (one ∷ other ∷ []) ∷ [])
accepted_opposed f base room us id l one other same few above is opposed =
    let r = carries_first f room us few in
    let u : Stage = first_stage (with_units f us) in
    let first : IsUnitId (length f.clauses) us l one = subst (λ k. IsUnitId k us l one) same is in
    let second : IsUnitId (length f.clauses) us (neg_ℤ l) other = subst (λ k. IsUnitId k us (neg_ℤ l) other) same opposed in
    let one_above : 0 < length f.clauses + first.index + 1 = omega arith in
    let other_above : 0 < length f.clauses + second.index + 1 = omega arith in (
      after u id [],
      (
        after u id [],
        (
          refl,
          omega (arith, r.top, same, few, above),
          All-cons IsPositive one (other ∷ []) (subst IsPositive (sym first.is) one_above) (All-cons IsPositive other [] (subst IsPositive (sym second.is) other_above) (All-nil IsPositive)),
          opposed_shown f.vars (fin.get u.present) (length f.clauses) us l one other r.units first second,
          refl,
        ),
        refl,
      ),
      refl,
    )
