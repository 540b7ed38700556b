-- A stimulus is read part by part, and what is found of it is found of the whole.
use Rattle.std.proofs.Common.{◌≡◌, ℕ, eqb, Bool, List, [], ◌∷◌, ◌++◌, Option, None, Some, Result, Ok, refl, sym, ◌∙◌, ap, subst, inl, inr}
use Rattle.std.specs.Prelude.{codes}
use Rattle.std.proofs.lemmas.Bool.{cases_Bool}
use Rattle.std.proofs.lemmas.List.{append-nil}
use Rattle.std.proofs.lemmas.Option.{none-some, same_Some}
use Rattle.scan.specs.Reading.{◌>>=◌, Read}
use Rattle.scan.specs.Bytes.{byte_at, tag_at}
use Rattle.scan.specs.Lists.{items_at}
use Rattle.graph.specs.declared.circuit.Property.{Property as AProperty}
use Rattle.graph.specs.declared.parts.Parts.{Parts}
use Rattle.stimulus.specs.declared.judge_error.JudgeError.TheVariants.{NotViolated}
use Rattle.stimulus.specs.declared.value.Stimulus.{Stimulus as AStimulus}
use Rattle.stimulus.specs.declared.value.Stimulus.TheVariants as stimulus
use Rattle.stimulus.specs.Reading.{concluded_at, heading_at, holds_at, line_at, property_at, stimulus_at, unknown_at, value_at, violated_at}
use Rattle.stimulus.specs.Texts.{SpellsStimulus, property_of}
use Rattle.stimulus.proofs.TextLaws.{stimulus_reads}
use Rattle.pieces.specs.Lines.{end_at}
use Rattle.pieces.proofs.LineLaws.{at_end, not_at_end}
use Rattle.replay.specs.declared.kinds.Status.{Status}
use Rattle.replay.specs.declared.kinds.Status.TheVariants.{Holds, Violated, Unknown}
use Rattle.replay.specs.declared.text_error.TextError.{TextError}
use Rattle.replay.specs.Found.{AreFound, IsFound, IsOutcome}
use Rattle.replay.specs.Reading.{IsConclusion, body_at, digit_at, dot_at, run_at, status_at}
use Rattle.replay.specs.Streams.{Finds, FindsWith, ForText}
use Rattle.replay.proofs.StreamLaws.{finds_made, for_text_map, then_finds, then_none}

-- ---- the lines of a run

abbrev then_inputs : AProperty → List Bool → List ℕ → Read AStimulus
then_inputs p initial bytes = items_at line_at bytes >>= λ inputs. Some (stimulus.Violated p initial inputs.0, inputs.1)

run_is : (p : AProperty) (bytes : List ℕ) → (items_at value_at bytes >>= λ initial. then_inputs p initial.0 initial.1) ≡ run_at p bytes
unfolding run_at
run_is p bytes = refl

pub run_stops : (p : AProperty) (bytes : List ℕ) (e : TextError) → ForText e (items_at value_at bytes ≡ None) → ForText e (run_at p bytes ≡ None)
run_stops p bytes e f = subst (λ o. ForText e (o ≡ None)) (run_is p bytes) (then_none (items_at value_at bytes) (then_inputs p) e f)

pub run_found : (m : Parts) (p : AProperty) (initial : List Bool) (bytes held later zs ws : List ℕ) (r : Result (Option ℕ) TextError)
    → Finds (items_at value_at bytes) (Ok initial) held zs → FindsWith (AreFound m p initial) (items_at line_at (held ++ zs)) r later ws → FindsWith (IsFound m) (run_at p bytes) r later ws
run_found m p initial bytes held later zs ws r first next =
    subst (λ o. FindsWith (IsFound m) o r later ws) (run_is p bytes)
    (then_finds (IsFound m) (items_at value_at bytes) (then_inputs p) initial held later zs ws r first
    (finds_made (AreFound m p initial) (IsFound m) (λ lines. stimulus.Violated p initial lines) (items_at line_at (held ++ zs)) r later ws (λ lines x found. found) next))

-- ---- what follows the property's line

pub violated_body : (m : Parts) (p : AProperty) (s : Status) (bytes held later : List ℕ) (r : Result (Option ℕ) TextError) → s ≡ Violated → FindsWith (IsFound m) (run_at p bytes) r held later → FindsWith (IsFound m) (body_at s p bytes) r held later
unfolding body_at
violated_body m p s bytes held later r is found = rw is found

mapped_none : (o : Read (Unit {0})) (s : AStimulus) → o ≡ None → ◌≡◌ {A = Read AStimulus} (o >>= λ end. Some (s, end.1)) None
mapped_none o s none = rw none refl

pub dot_stops : (s : Status) (p : AProperty) (bytes : List ℕ) (e : TextError) → IsConclusion s → ForText e (dot_at bytes ≡ None) → ForText e (body_at s p bytes ≡ None)
unfolding body_at
dot_stops Holds p bytes e told f = for_text_map e (dot_at bytes ≡ None) _ (λ none. mapped_none (dot_at bytes) (stimulus.Holds p) none) f
dot_stops Violated p bytes e told f = absurd told
dot_stops Unknown p bytes e told f = for_text_map e (dot_at bytes ≡ None) _ (λ none. mapped_none (dot_at bytes) (stimulus.Unknown p) none) f

pub dot_found : (m : Parts) (s : Status) (p : AProperty) (bytes held later : List ℕ) → IsConclusion s → Finds (dot_at bytes) (Ok (tt {0})) held later → FindsWith (IsFound m) (body_at s p bytes) (Ok (Some 65)) held later
unfolding body_at
dot_found m Holds p bytes held later told is = (stimulus.Holds p, rw is refl, (NotViolated, λ e. absurd cc, refl, refl))
dot_found m Violated p bytes held later told is = absurd told
dot_found m Unknown p bytes held later told is = (stimulus.Unknown p, rw is refl, (NotViolated, λ e. absurd cc, refl, refl))

-- ---- the property is that of its line

made_from : {A : Type 0} (o : Read A) (f : A → AStimulus) (s : AStimulus) (rest : List ℕ) → ◌≡◌ {A = Read AStimulus} (o >>= λ x. Some (f x.0, x.1)) (Some (s, rest)) → (x : A) × (s ≡ f x)
made_from None f s rest e = absurd (none-some (s, rest) e)
made_from (Some (x, t)) f s rest e = (x, sym (ap (λ (w : AStimulus × List ℕ). w.0) (same_Some (f x, t) (s, rest) e)))

run_property : (p : AProperty) (o : Read (List Bool)) (s : AStimulus) (rest : List ℕ) → (o >>= λ initial. then_inputs p initial.0 initial.1) ≡ Some (s, rest) → property_of s ≡ p
run_property p None s rest e = absurd (none-some (s, rest) e)
run_property p (Some (initial, t)) s rest e =
    let (lines, is) = made_from (items_at line_at t) (λ lines. stimulus.Violated p initial lines) s rest e in
    ap property_of is

pub body_property : (status : Status) (p : AProperty) (bytes : List ℕ) (s : AStimulus) (rest : List ℕ) → body_at status p bytes ≡ Some (s, rest) → property_of s ≡ p
unfolding body_at
body_property Holds p bytes s rest e = let (u, is) = made_from (dot_at bytes) (λ u. stimulus.Holds p) s rest e in ap property_of is
body_property Violated p bytes s rest e = run_property p (items_at value_at bytes) s rest (run_is p bytes ∙ e)
body_property Unknown p bytes s rest e = let (u, is) = made_from (dot_at bytes) (λ u. stimulus.Unknown p) s rest e in ap property_of is

-- ---- the first two lines

abbrev pub then_property : Status → List ℕ → Read AStimulus
then_property s bytes = property_at bytes >>= λ p. body_at s p.0 p.1

abbrev tagged : AProperty → Option (List ℕ) → Read AProperty
tagged p o = o >>= λ rest. Some (p, rest)

-- the line of a dot was read
abbrev dotted : Option (List ℕ) → Read (Unit {0})
dotted o = o >>= λ rest. Some (tt, rest)

dotted_holds : (p : AProperty) (o : Option (List ℕ)) → ◌≡◌ {A = Read AStimulus} (tagged p o >>= λ q. Some (stimulus.Holds q.0, q.1)) (dotted o >>= λ end. Some (stimulus.Holds p, end.1))
dotted_holds p None = refl
dotted_holds p (Some rest) = refl

dotted_unknown : (p : AProperty) (o : Option (List ℕ)) → ◌≡◌ {A = Read AStimulus} (tagged p o >>= λ q. Some (stimulus.Unknown q.0, q.1)) (dotted o >>= λ end. Some (stimulus.Unknown p, end.1))
dotted_unknown p None = refl
dotted_unknown p (Some rest) = refl

holds_then : (o : Read AProperty) → ((o >>= λ p. tagged p.0 (tag_at (codes ".\n") p.1)) >>= λ q. Some (stimulus.Holds q.0, q.1)) ≡ (o >>= λ p. body_at Holds p.0 p.1)
unfolding body_at dot_at
holds_then None = refl
holds_then (Some (p, t)) = dotted_holds p (tag_at (codes ".\n") t)

unknown_then : (o : Read AProperty) → ((o >>= λ p. tagged p.0 (tag_at (codes ".\n") p.1)) >>= λ q. Some (stimulus.Unknown q.0, q.1)) ≡ (o >>= λ p. body_at Unknown p.0 p.1)
unfolding body_at dot_at
unknown_then None = refl
unknown_then (Some (p, t)) = dotted_unknown p (tag_at (codes ".\n") t)

violated_then : (o : Read AProperty) → (o >>= λ p. (items_at value_at p.1 >>= λ initial. then_inputs p.0 initial.0 initial.1)) ≡ (o >>= λ p. body_at Violated p.0 p.1)
unfolding body_at run_at
violated_then None = refl
violated_then (Some (p, t)) = refl

-- the line end behind the digit was read
abbrev lined : Status → Option (List ℕ) → Read Status
lined s o = o >>= λ rest. Some (s, rest)

holds_lined : (o : Option (List ℕ)) → (((o >>= property_at) >>= λ p. tagged p.0 (tag_at (codes ".\n") p.1)) >>= λ q. Some (stimulus.Holds q.0, q.1)) ≡ (lined Holds o >>= λ s. then_property s.0 s.1)
holds_lined None = refl
holds_lined (Some rest) = holds_then (property_at rest)

unknown_lined : (o : Option (List ℕ)) → (((o >>= property_at) >>= λ p. tagged p.0 (tag_at (codes ".\n") p.1)) >>= λ q. Some (stimulus.Unknown q.0, q.1)) ≡ (lined Unknown o >>= λ s. then_property s.0 s.1)
unknown_lined None = refl
unknown_lined (Some rest) = unknown_then (property_at rest)

violated_lined : (o : Option (List ℕ)) → ((o >>= property_at) >>= λ p. (items_at value_at p.1 >>= λ initial. then_inputs p.0 initial.0 initial.1)) ≡ (lined Violated o >>= λ s. then_property s.0 s.1)
violated_lined None = refl
violated_lined (Some rest) = violated_then (property_at rest)

holds_is : (bytes : List ℕ) → holds_at bytes ≡ (lined Holds (byte_at 10 bytes) >>= λ s. then_property s.0 s.1)
unfolding holds_at concluded_at heading_at
holds_is bytes = holds_lined (byte_at 10 bytes)

unknown_is : (bytes : List ℕ) → unknown_at bytes ≡ (lined Unknown (byte_at 10 bytes) >>= λ s. then_property s.0 s.1)
unfolding unknown_at concluded_at heading_at
unknown_is bytes = unknown_lined (byte_at 10 bytes)

violated_is : (bytes : List ℕ) → violated_at bytes ≡ (lined Violated (byte_at 10 bytes) >>= λ s. then_property s.0 s.1)
unfolding violated_at heading_at
violated_is bytes = violated_lined (byte_at 10 bytes)

text_is : (bytes : List ℕ) → (status_at bytes >>= λ s. then_property s.0 s.1) ≡ stimulus_at bytes
unfolding stimulus_at status_at digit_at
text_is [] = refl
text_is (c ∷ cs) = elim (cases_Bool (eqb c 48)) [
  | inl y ↦ rw y (sym (holds_is cs))
  | inr n ↦ elim (cases_Bool (eqb c 49)) [
    | inl y ↦ rw (n, y) (sym (violated_is cs))
    | inr k ↦ elim (cases_Bool (eqb c 50)) [
      | inl y ↦ rw (n, k, y) (sym (unknown_is cs))
      | inr j ↦ rw (n, k, j) refl
    ]
  ]
]

-- one of them is refused
pub status_stops : (bytes : List ℕ) (e : TextError) → ForText e (status_at bytes ≡ None) → ForText e (stimulus_at bytes ≡ None)
status_stops bytes e f = subst (λ o. ForText e (o ≡ None)) (text_is bytes) (then_none (status_at bytes) then_property e f)

pub property_stops : (s : Status) (bytes : List ℕ) (e : TextError) → ForText e (property_at bytes ≡ None) → ForText e (then_property s bytes ≡ None)
property_stops s bytes e f = then_none (property_at bytes) (body_at s) e f

-- they were read, and what is behind them decides
pub behind_status : {X : Type 0} (P : AStimulus → X → Type 0) (s : Status) (bytes held later zs ws : List ℕ) (r : Result X TextError) → Finds (status_at bytes) (Ok s) held zs → FindsWith P (then_property s (held ++ zs)) r later ws → FindsWith P (stimulus_at bytes) r later ws
behind_status P s bytes held later zs ws r first next = subst (λ o. FindsWith P o r later ws) (text_is bytes) (then_finds P (status_at bytes) then_property s held later zs ws r first next)

pub behind_property : {X : Type 0} (P : AStimulus → X → Type 0) (s : Status) (p : AProperty) (bytes held later zs ws : List ℕ) (r : Result X TextError)
    → Finds (property_at bytes) (Ok p) held zs → FindsWith P (body_at s p (held ++ zs)) r later ws → FindsWith P (then_property s bytes) r later ws
behind_property P s p bytes held later zs ws r first next = then_finds P (property_at bytes) (body_at s) p held later zs ws r first next

-- the property is reported with what is found
pub outcome_found : (m : Parts) (s : Status) (p : AProperty) (bytes held later : List ℕ) (found : Option ℕ) → FindsWith (IsFound m) (body_at s p bytes) (Ok found) held later → FindsWith (IsOutcome m) (body_at s p bytes) (Ok (record { property = p; refusal = found })) held later
outcome_found m s p bytes held later found (a, is, judged) = (a, is, (sym (body_property s p bytes a (held ++ later) is), judged))

-- ---- the whole text

text_spelled : (text rest : List ℕ) (s : AStimulus) → stimulus_at text ≡ Some (s, rest) → rest ≡ [] → SpellsStimulus text s
text_spelled text rest s e none =
    let (front, spelled, whole) = stimulus_reads.sound text s rest e in
    subst (λ (w : List ℕ). SpellsStimulus w s) (sym (whole ∙ ap (λ (w : List ℕ). front ++ w) none ∙ append-nil front)) spelled

text_read : (text : List ℕ) (s : AStimulus) → SpellsStimulus text s → stimulus_at text ≡ Some (s, [])
text_read text s spelled = ap stimulus_at (sym (append-nil text)) ∙ stimulus_reads.complete text s [] spelled

-- it is refused before its end
pub text_refused : (held ys : List ℕ) (e : TextError) → held ≡ [] → ForText e (stimulus_at (held ++ ys) ≡ None) → ForText e ((s : AStimulus) → SpellsStimulus ys s → ⊥)
text_refused held ys e nothing f =
    for_text_map e (stimulus_at ys ≡ None) ((s : AStimulus) → SpellsStimulus ys s → ⊥) (λ none s spelled. none-some (s, []) (sym none ∙ text_read ys s spelled))
    (subst (λ (h : List ℕ). ForText e (stimulus_at (h ++ ys) ≡ None)) nothing f)

-- it goes on behind a stimulus
pub text_goes_on : {X : Type 0} (P : AStimulus → X → Type 0) (held later ys zs : List ℕ) (x : X) (e : TextError) → held ≡ []
    → FindsWith P (stimulus_at (held ++ ys)) (Ok x) later zs → ForText e (end_at (later ++ zs) ≡ None) → ForText e ((s : AStimulus) → SpellsStimulus ys s → ⊥)
text_goes_on P held later ys zs x e nothing (s, is, p) next =
    let read : stimulus_at ys ≡ Some (s, later ++ zs) = subst (λ (h : List ℕ). stimulus_at (h ++ ys) ≡ Some (s, later ++ zs)) nothing is in
    for_text_map e (end_at (later ++ zs) ≡ None) ((d : AStimulus) → SpellsStimulus ys d → ⊥)
    (λ more d spelled.
    let same = ap (λ (w : AStimulus × List ℕ). w.1) (same_Some (s, later ++ zs) (d, []) (sym read ∙ text_read ys d spelled)) in
    not_at_end (later ++ zs) more same)
    next

-- it is a stimulus
pub text_whole : {X : Type 0} (P : AStimulus → X → Type 0) (held later last ys zs ws : List ℕ) (x : X) → held ≡ []
    → FindsWith P (stimulus_at (held ++ ys)) (Ok x) later zs → Finds (end_at (later ++ zs)) (Ok (tt {0})) last ws → (s : AStimulus) × SpellsStimulus ys s × P s x
text_whole P held later last ys zs ws x nothing (s, is, p) ended =
    let read : stimulus_at ys ≡ Some (s, later ++ zs) = subst (λ (h : List ℕ). stimulus_at (h ++ ys) ≡ Some (s, later ++ zs)) nothing is in
    (s, text_spelled ys (later ++ zs) s read (at_end (later ++ zs) (last ++ ws) tt ended), p)
