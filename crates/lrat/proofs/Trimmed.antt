-- What a proof refutes, it refutes without the lines that the empty clause does not rest on.
use Rattle.std.proofs.Common.{◌≡◌, ℕ, ◌<◌, ◌≤◌, ◌==◌, ◌||◌, inl, inr, Bool, true, false, cond, List, [], ◌∷◌, ◌++◌, map, All, Contains, length, get_or, Option, Some, None, ℤ, pos, neg_ℤ, unsigned_abs, refl, sym, ◌∙◌, ap, subst, arith, eq-eqb}
use Rattle.std.specs.List.{list_any}
use Rattle.std.proofs.lemmas.List.{get_or-map, length-map}
use Rattle.std.proofs.lemmas.List.Elements.{All-cons, All-head, All-tail, Contains-append_left, Contains-append_right}
use Rattle.std.proofs.lemmas.List.Folds.{list_any_at}
use Rattle.std.specs.FinMap as fin
use Rattle.std.specs.Ordering.{nat_cmp, eq_by_cmp}
use Rattle.std.specs.Cmp.{nat_cmp_total}
use Rattle.lrat.specs.Literals.{Finder}
use Rattle.lrat.specs.Lines.{Leads, AreHintsFor}
use Rattle.lrat.specs.Store.{ById}
use Rattle.lrat.specs.Stages.{Stage, TakesOut, is_nil, Goes, GoAlong}
use Rattle.lrat.specs.Proofs.{first_stage, IsAcceptedProof}
use Rattle.lrat.specs.Trimming.{is_needed, kept_before, trimmed, IsSublist}
use Rattle.lrat.specs.Hinted.{hinted}
use Rattle.lrat.specs.declared.formula.Formula.{Formula}
use Rattle.lrat.specs.declared.line.Line.{Line}
use Rattle.lrat.specs.declared.line.Line.TheVariants.{Add, Delete}
use Rattle.lrat.proofs.Numbered.{get_new}

-- ---- hints show the same where they name the same clauses

-- what these ids name in the first, they name in the second
abbrev pub Agree : Finder → Finder → List ℕ → Type 0
Agree m n ids = (q : ℕ) → Contains ids q → (c : List ℤ) → m q ≡ Some c → n q ≡ Some c

leads_too : (m n : Finder) (ids : List ℕ) (s t : List ℤ) → Agree m n ids → Leads m s ids t → Leads n s ids t
leads_too m n [] s t agree same = same
leads_too m n (id ∷ ids) s t agree (l, one, rest) = (
  l,
  record { clause = one.clause; found = agree id (0, omega arith, refl) one.clause one.found; leaves = one.leaves; new_in = one.new_in },
  leads_too m n ids (s ++ l ∷ []) t (λ q has. agree q (Contains-append_right (id ∷ []) ids q has)) rest,
)

pub shows_too : (m n : Finder) (c : List ℤ) (hints : List ℕ) → Agree m n hints → AreHintsFor m c hints → AreHintsFor n c hints
shows_too m n c hints agree s =
    let all : Agree m n (s.first ++ s.last ∷ []) = subst (Agree m n) s.are agree in
    record {
      first = s.first;
      last = s.last;
      are = s.are;
      reached = s.reached;
      leads = leads_too m n s.first (map neg_ℤ c) s.reached (λ q has. all q (Contains-append_left s.first (s.last ∷ []) q has)) s.leads;
      conflict = record {
        clause = s.conflict.clause;
        found = all s.last (Contains-append_right s.first (s.last ∷ []) s.last (0, omega arith, refl)) s.conflict.clause s.conflict.found;
        denied = s.conflict.denied;
      };
    }

-- ---- two runs of the checker, of the proof and of what is kept of it

or_left : (a b : Bool) → a ≡ true → (a || b) ≡ true
or_left true b e = refl
or_left false b e = cc

or_right : (a b : Bool) → b ≡ true → (a || b) ≡ true
or_right true b e = refl
or_right false b e = e

neither : (a b : Bool) → (a || b) ≡ false → (a ≡ false) × (b ≡ false)
neither true b e = cc
neither false b e = (refl, e)

-- the clauses that the kept lines hint are in both, and the second has no later ids
pub record Trails (s u : Stage) (kept : List Line) : Type 0 where
  pub top : u.top ≤ s.top
  pub closed : u.closed ≡ s.closed
  pub named : (q : ℕ) → hinted kept q ≡ true → (c : List ℤ) → fin.get s.present q ≡ Some c → fin.get u.present q ≡ Some c

pub hint_found : (hints : List ℤ) (q : ℕ) → Contains (map unsigned_abs hints) q → list_any (λ h. unsigned_abs h == q) hints ≡ true
hint_found hints q (k, lt, at) =
    let k_in : k < length hints = omega (arith, length-map hints unsigned_abs) in
    let same : unsigned_abs (get_or hints k (pos q)) ≡ q = sym (get_or-map unsigned_abs hints k (pos q) q k_in) ∙ at in
    list_any_at (λ h. unsigned_abs h == q) hints k (pos q) k_in (eq-eqb _ q same)

either_way : (b : Bool) (x y z : Option (List ℤ)) (d : List ℤ) → (y ≡ Some d → z ≡ Some d) → cond b x y ≡ Some d → cond b x z ≡ Some d
either_way true x y z d f e = e
either_way false x y z d f e = f e

inserted_too : (m k : ById) (id q : ℕ) (c d : List ℤ) → (fin.get m q ≡ Some d → fin.get k q ≡ Some d) → fin.get (fin.insert m id c) q ≡ Some d → fin.get (fin.insert k id c) q ≡ Some d
inserted_too m k id q c d f e =
    fin.get-insert nat_cmp_total k id c q
    ∙ either_way (eq_by_cmp nat_cmp q id) (Some c) (fin.get m q) (fin.get k q) d f (sym (fin.get-insert nat_cmp_total m id c q) ∙ e)

not_removed : (b : Bool) (y : Option (List ℤ)) (d : List ℤ) → cond b None y ≡ Some d → y ≡ Some d
not_removed true y d e = cc
not_removed false y d e = e

-- what is left was there
pub was_there : (ids : List ℕ) (m n : ById) (q : ℕ) (d : List ℤ) → TakesOut m ids n → fin.get n q ≡ Some d → fin.get m q ≡ Some d
was_there [] m n q d same e = ap (λ u. fin.get u q) (sym same) ∙ e
was_there (id ∷ ids) m n q d takes e =
    not_removed (eq_by_cmp nat_cmp q id) (fin.get m q) d
    (sym (fin.get-remove nat_cmp_total m id q) ∙ was_there ids (fin.remove m id) n q d takes.1 e)

abbrev after : Stage → ℕ → List ℤ → Stage
after s id c = record { present = fin.insert s.present id c; top = id; closed = is_nil c }

-- a line that is kept leads on in both
pub keeps : (n : ℕ) (s u v : Stage) (id : ℕ) (c : List ℤ) (hints : List ℤ) (kept : List Line) → Trails s u (Add id c hints ∷ kept) → Goes n s (Add id c hints) v
    → Goes n u (Add id c hints) (after u id c) × Trails v (after u id c) kept
keeps n s u v id c hints kept r goes =
    let agree : Agree (fin.get s.present) (fin.get u.present) (map unsigned_abs hints) =
    λ q has d e. r.named q (or_left _ (hinted kept q) (hint_found hints q has)) d e in
    let above : u.top < id = let le = r.top in let lt = goes.1 in omega (arith, le, lt) in (
      (r.closed ∙ goes.0, above, goes.2, record { proper = goes.3.proper; shown = shows_too _ _ c (map unsigned_abs hints) agree goes.3.shown }, refl),
      subst (λ w. Trails w (after u id c) kept) (sym goes.4)
          (record {
            top = omega arith;
            closed = refl;
            named = λ q has d e. inserted_too s.present u.present id q c d (r.named q (or_right (list_any (λ h. unsigned_abs h == q) hints) (hinted kept q) has) d) e;
          }),
    )

-- an addition that is not kept changes nothing that a kept line hints
pub skips : (n : ℕ) (s u v : Stage) (id : ℕ) (c : List ℤ) (hints : List ℤ) (kept : List Line) → Trails s u kept → Goes n s (Add id c hints) v → is_needed (Add id c hints) kept ≡ false → Trails v u kept
skips n s u v id c hints kept r goes out =
    let e = neither (is_nil c) (hinted kept id) out in
    subst (λ w. Trails w u kept) (sym goes.4)
    (record {
      top = let le = r.top in let lt = goes.1 in omega (arith, le, lt);
      closed = r.closed ∙ goes.0 ∙ sym e.0;
      named = λ q has d f. r.named q has d (sym (get_new s.present id q c (λ same. let g : hinted kept id ≡ true = ap (hinted kept) (sym same) ∙ has in let h = e.1 in cc)) ∙ f);
    })

pub deletes : (n : ℕ) (s u v : Stage) (id : ℕ) (ids : List ℕ) (kept : List Line) → Trails s u kept → Goes n s (Delete id ids) v → Trails v u kept
deletes n s u v id ids kept r goes =
    record {
      top = let le = r.top in let same = goes.1 in omega (arith, le, same);
      closed = r.closed ∙ goes.0 ∙ sym goes.2;
      named = λ q has d e. r.named q has d (was_there ids s.present v.present q d goes.3 e);
    }

abbrev Closes : ℕ → Stage → List Line → Type 0
Closes n s ls = (t : Stage) × GoAlong n s ls t × (t.closed ≡ true)

adds : (n : ℕ) (s u v : Stage) (id : ℕ) (c : List ℤ) (hints : List ℤ) (kept : List Line) → Trails s u (kept_before (Add id c hints) kept) → Goes n s (Add id c hints) v
    → ((w : Stage) → Trails v w kept → Closes n w kept) → Closes n u (kept_before (Add id c hints) kept)
adds n s u v id c hints kept r goes later =
    elim (is_needed (Add id c hints) kept) as (λ b. is_needed (Add id c hints) kept ≡ b → Trails s u (cond b (Add id c hints ∷ kept) kept) → Closes n u (cond b (Add id c hints ∷ kept) kept)) [
      | true ↦ λ e f.
          let k = keeps n s u v id c hints kept f goes in
          let l = later (after u id c) k.1 in
          (l.0, (after u id c, k.0, l.1), l.2)
      | false ↦ λ e f. later u (skips n s u v id c hints kept f goes e)
    ] refl r

closes_too : (n : ℕ) (ls : List Line) (s u t : Stage) → Trails s u (trimmed ls) → GoAlong n s ls t → t.closed ≡ true → Closes n u (trimmed ls)
closes_too n [] s u t r same e = (u, refl, r.closed ∙ sym (ap (λ (w : Stage). w.closed) same) ∙ e)
closes_too n (Add id c hints ∷ ls) s u t r (v, goes, along) e =
    adds n s u v id c hints (trimmed ls) r goes (λ w f. closes_too n ls v w t f along e)
closes_too n (Delete id ids ∷ ls) s u t r (v, goes, along) e =
    closes_too n ls v u t (deletes n s u v id ids (trimmed ls) r goes) along e

pub trimmed_refutes : (f : Formula) (ls : List Line) → IsAcceptedProof f ls → IsAcceptedProof f (trimmed ls)
trimmed_refutes f ls (t, along, e) =
    closes_too f.vars ls (first_stage f) (first_stage f) t (record { top = omega arith; closed = refl; named = λ q has c found. found }) along e

-- ---- lines that lead to a stage, and those of them that the last one rests on

-- what is kept is lines and the last one, and the lines lead to a stage that has what this one hints
pub record Rests (n : ℕ) (u t : Stage) (ls kept : List Line) (last : Line) : Type 0 where
  pub lines : List Line
  pub are : kept ≡ lines ++ last ∷ []
  pub among : IsSublist lines ls
  pub reached : Stage
  pub along : GoAlong n u lines reached
  pub trails : Trails t reached (last ∷ [])

rests_add : (n : ℕ) (s u v t : Stage) (id : ℕ) (c : List ℤ) (hints : List ℤ) (ls kept : List Line) (last : Line) → Trails s u (kept_before (Add id c hints) kept) → Goes n s (Add id c hints) v
    → ((w : Stage) → Trails v w kept → Rests n w t ls kept last) → Rests n u t (Add id c hints ∷ ls) (kept_before (Add id c hints) kept) last
rests_add n s u v t id c hints ls kept last r goes later =
    elim (is_needed (Add id c hints) kept) as (λ b. is_needed (Add id c hints) kept ≡ b → Trails s u (cond b (Add id c hints ∷ kept) kept) → Rests n u t (Add id c hints ∷ ls) (cond b (Add id c hints ∷ kept) kept) last) [
      | true ↦ λ e f.
          let k = keeps n s u v id c hints kept f goes in
          let l = later (after u id c) k.1 in
          record {
            lines = Add id c hints ∷ l.lines;
            are = ap (λ ks. Add id c hints ∷ ks) l.are;
            among = inr (l.lines, refl, l.among);
            reached = l.reached;
            along = (after u id c, k.0, l.along);
            trails = l.trails;
          }
      | false ↦ λ e f.
          let l = later u (skips n s u v id c hints kept f goes e) in
          record { lines = l.lines; are = l.are; among = inl l.among; reached = l.reached; along = l.along; trails = l.trails }
    ] refl r

pub rests : (n : ℕ) (ls : List Line) (last : Line) (s u t : Stage) → kept_before last [] ≡ last ∷ [] → Trails s u (trimmed (ls ++ last ∷ [])) → GoAlong n s ls t
    → Rests n u t ls (trimmed (ls ++ last ∷ [])) last
rests n [] last s u t ends r same = record {
  lines = [];
  are = ends;
  among = refl;
  reached = u;
  along = refl;
  trails = subst (λ w. Trails w u (last ∷ [])) (sym same) (subst (Trails s u) ends r);
}
rests n (Add id c hints ∷ ls) last s u t ends r (v, goes, along) =
    rests_add n s u v t id c hints ls (trimmed (ls ++ last ∷ [])) last r goes (λ w f. rests n ls last v w t ends f along)
rests n (Delete id ids ∷ ls) last s u t ends r (v, goes, along) =
    let l = rests n ls last v u t ends (deletes n s u v id ids (trimmed (ls ++ last ∷ [])) r goes) along in
    record { lines = l.lines; are = l.are; among = inl l.among; reached = l.reached; along = l.along; trails = l.trails }

-- what holds of all lines holds of those among them
pub all_among : (P : Line → Type 0) (xs ls : List Line) → IsSublist xs ls → All P ls → All P xs
all_among P xs [] none all = subst (All P) (sym none) all
all_among P xs (l ∷ ls) (inl among) all = all_among P xs ls among (All-tail P l ls all)
all_among P xs (l ∷ ls) (inr (zs, is, among)) all = subst (All P) (sym is) (All-cons P l zs (All-head P l ls all) (all_among P zs ls among (All-tail P l ls all)))
