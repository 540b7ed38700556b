-- What the line says of what was asked.
use Rattle.std.proofs.Common.{◌≡◌, ◌≢◌, ℕ, ◌⊎◌, Bool, true, false, List, Option, Result, Ok, Err, IfOk, IsOkAnd, OnErr, inl, inr, sym, subst, ◌∙◌}
use Rattle.std.specs.Prelude.{MatchResult}
use Rattle.std.specs.Io.KnownBytes.{Appends}
use Rattle.std.proofs.lemmas.Bool.{cases_eq, eq-eqb, ne_eqb}
use Rattle.base.specs.Devices.{PutsBeginning}
use Rattle.graph.specs.declared.circuit.Property.{Property}
use Rattle.graph.specs.Refusals.{number_of as read_number}
use Rattle.aiger.specs.Loading.{IsRefusal as IsLoadRefusal, SpellsNoFile}
use Rattle.aiger.specs.declared.load_error.LoadError.{LoadError}
use Rattle.aiger.specs.declared.load_error.LoadError.TheVariants as load
use Rattle.checker.specs.declared.line.Question.{Question}
use Rattle.checker.specs.declared.answer_error.AnswerError.{AnswerError}
use Rattle.checker.specs.declared.answer_error.AnswerError.TheVariants as error
use Rattle.checker.specs.Lines.{yes_line, no_line, Tells, BeginsToTell}
use Rattle.checker.specs.AnswerErrors.{error_numbered, error_of_load, IsAnswerError}

-- a refusal with this number stops, where the number is a reason unless memory was refused
pub stops : (N : ℕ → Type 0) (n : ℕ) → ((n ≡ 20 → ⊥) → N n) → IsAnswerError N (error_numbered n)
stops N n reason = elim (cases_eq n 20) [
  | inl memory ↦ rw (eq-eqb n 20 memory) tt
  | inr other ↦ rw (ne_eqb n 20 other) (reason other)
]

pub stops_more : (M N : ℕ → Type 0) (s : AnswerError) → ((n : ℕ) → M n → N n) → IsAnswerError M s → IsAnswerError N s
stops_more M N (error.No n) more is = more n is
stops_more M N (error.OutOfMemory refused) more is = tt
stops_more M N error.Device more is = tt

pub load_stops : (xs : List ℕ) (e : LoadError) → IsLoadRefusal xs e → IsAnswerError (SpellsNoFile xs) (error_of_load e)
load_stops xs (load.Refused e) is = stops (SpellsNoFile xs) (read_number e) is
load_stops xs load.Device is = tt

-- ---- what was asked of the texts holds of the property that a yes names, and there is a reason for a no

pub told_yes : (q : Question) (P : Property → Type 0) (N : ℕ → Type 0) (r : Result Property AnswerError) (said : Bool) (before after : Option (List ℕ)) → MatchResult r P (IsAnswerError N) →
    Tells q r said before after → said ≡ true → (p : Property) × P p × Appends before after (yes_line q p)
told_yes q P N (Ok p) said before after says told holds = (p, says, told.1)
told_yes q P N (Err (error.No n)) said before after says told holds = absurd (let e : false ≡ true = sym told.0 ∙ holds in cc)
told_yes q P N (Err (error.OutOfMemory refused)) said before after says told holds = absurd told
told_yes q P N (Err error.Device) said before after says told holds = absurd told

pub told_no : (q : Question) (P : Property → Type 0) (N : ℕ → Type 0) (r : Result Property AnswerError) (said : Bool) (before after : Option (List ℕ)) → MatchResult r P (IsAnswerError N) →
    Tells q r said before after → said ≡ false → (n : ℕ) × N n × Appends before after (no_line n)
told_no q P N (Ok p) said before after says told fails = absurd (let e : true ≡ false = sym told.0 ∙ fails in cc)
told_no q P N (Err (error.No n)) said before after says told fails = (n, says, told.1)
told_no q P N (Err (error.OutOfMemory refused)) said before after says told fails = absurd told
told_no q P N (Err error.Device) said before after says told fails = absurd told

-- where there is no reason for a no
pub told_exact : (q : Question) (P : Property → Type 0) (N : ℕ → Type 0) (r : Result Property AnswerError) (said : Bool) (before after : Option (List ℕ)) → MatchResult r P (IsAnswerError N) →
    Tells q r said before after → ((n : ℕ) → N n → ⊥) → said ≡ true
told_exact q P N (Ok p) said before after says told none = told.0
told_exact q P N (Err (error.No n)) said before after says told none = absurd (none n says)
told_exact q P N (Err (error.OutOfMemory refused)) said before after says told none = absurd told
told_exact q P N (Err error.Device) said before after says told none = absurd told

-- what holds wherever there is a property
pub told_ended : (q : Question) (E : Type 0) (r : Result Property AnswerError) (said : Bool) (before after : Option (List ℕ)) → IfOk r (λ _. E) → Tells q r said before after → said ≡ true → E
told_ended q E (Ok p) said before after ended told holds = ended
told_ended q E (Err (error.No n)) said before after ended told holds = absurd (let e : false ≡ true = sym told.0 ∙ holds in cc)
told_ended q E (Err (error.OutOfMemory refused)) said before after ended told holds = absurd told
told_ended q E (Err error.Device) said before after ended told holds = absurd told

pub told_begun : (q : Question) (P : Property → Type 0) (N : ℕ → Type 0) (r : Result Property AnswerError) (before after : Option (List ℕ)) → MatchResult r P (IsAnswerError N) → BeginsToTell q r before after →
    ((p : Property) × P p × PutsBeginning before after (yes_line q p)) ⊎ ((n : ℕ) × N n × PutsBeginning before after (no_line n))
told_begun q P N (Ok p) before after says begun = inl (p, says, begun)
told_begun q P N (Err (error.No n)) before after says begun = inr (n, says, begun)
told_begun q P N (Err (error.OutOfMemory refused)) before after says begun = absurd begun
told_begun q P N (Err error.Device) before after says begun = absurd begun

-- ---- of one property alone

-- a yes to another property became a no
pub about_says : (P : Property → Type 0) (N M : ℕ → Type 0) (p : Property) (before after : Result Property AnswerError) → MatchResult before P (IsAnswerError N) →
    MatchResult after (λ q. (q ≡ p) × (before ≡ Ok q)) (λ s. (before ≡ Err s) ⊎ ((s ≡ error.No 30) × IsOkAnd before (λ q. q ≢ p))) →
    ((n : ℕ) → N n → M n) → ((q : Property) → P q → q ≢ p → M 30) → MatchResult after (λ q. (q ≡ p) × P q) (IsAnswerError M)
about_says P N M p before (Ok q) says (same, is) more other = (same, subst (λ r. MatchResult r P (IsAnswerError N)) is says)
about_says P N M p before (Err s) says (inl is) more other = stops_more N M s more (subst (λ r. MatchResult r P (IsAnswerError N)) is says)
about_says P N M p (Ok q) (Err s) says (inr (is, ne)) more other = subst (IsAnswerError M) (sym is) (other q says ne)
about_says P N M p (Err e) (Err s) says (inr (is, ne)) more other = absurd ne

pub about_yes : (q : Question) (P : Property → Type 0) (M : ℕ → Type 0) (p : Property) (r : Result Property AnswerError) (said : Bool) (before after : Option (List ℕ)) → MatchResult r (λ k. (k ≡ p) × P k) (IsAnswerError M) →
    Tells q r said before after → said ≡ true → P p × Appends before after (yes_line q p)
about_yes q P M p (Ok k) said before after says told holds = (subst P says.0 says.1, subst (λ k. Appends before after (yes_line q k)) says.0 told.1)
about_yes q P M p (Err (error.No n)) said before after says told holds = absurd (let e : false ≡ true = sym told.0 ∙ holds in cc)
about_yes q P M p (Err (error.OutOfMemory refused)) said before after says told holds = absurd told
about_yes q P M p (Err error.Device) said before after says told holds = absurd told

pub about_begun : (q : Question) (P : Property → Type 0) (M : ℕ → Type 0) (p : Property) (r : Result Property AnswerError) (before after : Option (List ℕ)) → MatchResult r (λ q. (q ≡ p) × P q) (IsAnswerError M) → BeginsToTell q r before after →
    (P p × PutsBeginning before after (yes_line q p)) ⊎ ((n : ℕ) × M n × PutsBeginning before after (no_line n))
about_begun q P M p (Ok k) before after says begun = inl (subst P says.0 says.1, subst (λ k. PutsBeginning before after (yes_line q k)) says.0 begun)
about_begun q P M p (Err (error.No n)) before after says begun = inr (n, says, begun)
about_begun q P M p (Err (error.OutOfMemory refused)) before after says begun = absurd begun
about_begun q P M p (Err error.Device) before after says begun = absurd begun

-- what holds wherever there is a property
pub about_ended : (E : Type 0) (p : Property) (before after : Result Property AnswerError) → IfOk before (λ _. E) →
    MatchResult after (λ q. (q ≡ p) × (before ≡ Ok q)) (λ s. (before ≡ Err s) ⊎ ((s ≡ error.No 30) × IsOkAnd before (λ q. q ≢ p))) → IfOk after (λ _. E)
about_ended E p before (Ok q) ended (same, is) = subst (λ r. IfOk r (λ _. E)) is ended
about_ended E p before (Err s) ended says = tt

-- ---- of results

pub ok_then : {X E : Type 0} (P Q : X → Type 0) (r : Result X E) → ((x : X) → P x → Q x) → IfOk r P → IfOk r Q
ok_then P Q (Ok x) then is = then x is
ok_then P Q (Err e) then is = tt

pub err_then : {X E : Type 0} (A B C : Type 0) (r : Result X E) → (B → C) → OnErr r (A → B) → OnErr r (A → C)
err_then A B C (Ok x) then is = tt
err_then A B C (Err e) then is = λ a. then (is a)

-- nothing that stops without an answer is a no
pub unanswered : (N : ℕ → Type 0) (s : AnswerError) → IsAnswerError (λ _. ⊥) s → IsAnswerError N s
unanswered N s is = stops_more (λ _. ⊥) N s (λ n none. absurd none) is
