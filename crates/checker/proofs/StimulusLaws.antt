-- What the answers to a circuit and a stimulus say.
use Rattle.std.proofs.Common.{◌≡◌, ◌≢◌, ℕ, List, None, Some, inl, inr, refl, sym, ◌∙◌, ap, subst}
use Rattle.base.specs.Witness.{witness}
use Rattle.scan.proofs.Toolbox.{spells_one}
use Rattle.graph.specs.declared.circuit.Property.{Property}
use Rattle.graph.specs.declared.parts.Parts.{Parts}
use Rattle.graph.specs.File.{File}
use Rattle.aiger.specs.Loading.{IsFileOf, SpellsNoFile}
use Rattle.stimulus.specs.declared.value.Stimulus.{Stimulus}
use Rattle.stimulus.specs.declared.value.Stimulus.TheVariants.{Holds, Violated, Unknown}
use Rattle.stimulus.specs.declared.stim_error.StimError.{StimError}
use Rattle.stimulus.specs.declared.stim_error.StimError.TheVariants as text
use Rattle.stimulus.specs.declared.judge_error.JudgeError.{JudgeError}
use Rattle.stimulus.specs.declared.judge_error.JudgeError.TheVariants.{OutOfMemory}
use Rattle.stimulus.specs.Causes.{HasCause}
use Rattle.stimulus.specs.Numbers.{stim_number_of}
use Rattle.stimulus.specs.Shown.{Shows}
use Rattle.stimulus.specs.Texts.{SpellsStimulus, property_of}
use Rattle.stimulus.proofs.ExactLaws.{nothing_shown}
use Rattle.stimulus.proofs.TextLaws.{stimulus_reads}
use Rattle.replay.specs.declared.text_error.TextError.{TextError}
use Rattle.replay.specs.declared.text_error.TextError.TheVariants.{Refused, Device}
use Rattle.replay.specs.Found.{IsFound}
use Rattle.replay.specs.Streams.{ForText}
use Rattle.checker.specs.declared.answer_error.AnswerError.{AnswerError}
use Rattle.checker.specs.AnswerErrors.{error_numbered, error_of_text, IsAnswerError}
use Rattle.checker.specs.Replayed.{Confirms, IsStimulusOf, IsRunRefusal, IsRunRefusalFor}
use Rattle.checker.proofs.Said.{stops, stops_more}

-- ---- where it stops

pub first_stops : (xs ys : List ℕ) (s : AnswerError) → IsAnswerError (SpellsNoFile xs) s → IsAnswerError (IsRunRefusal xs ys) s
first_stops xs ys s is = stops_more (SpellsNoFile xs) (IsRunRefusal xs ys) s (λ n none. inl none) is

-- the one stimulus of the text
only_stimulus : (ys : List ℕ) (s : Stimulus) → SpellsStimulus ys s → IsStimulusOf ys s
only_stimulus ys s spells = record { spells = spells; only = λ t other. spells_one stimulus_reads ys t s other spells }

-- no stimulus has the text
text_refused : (xs ys : List ℕ) (f : File) (e : StimError) → IsFileOf xs f → ((s : Stimulus) → SpellsStimulus ys s → ⊥) → IsAnswerError (IsRunRefusal xs ys) (error_numbered (stim_number_of e))
text_refused xs ys f e first none =
    stops (IsRunRefusal xs ys) (stim_number_of e)
    (λ other. inr (inl (f, first, record { none = none; error = e; other = λ is. other (ap stim_number_of is); number = refl })))

pub text_stops : (xs ys : List ℕ) (f : File) (e : TextError) → IsFileOf xs f → ForText e ((s : Stimulus) → SpellsStimulus ys s → ⊥) → IsAnswerError (IsRunRefusal xs ys) (error_of_text e)
text_stops xs ys f (Refused (text.OutOfMemory refused)) first none = tt
text_stops xs ys f (Refused (text.Status place)) first none = text_refused xs ys f (text.Status place) first none
text_stops xs ys f (Refused (text.PropertyLine place)) first none = text_refused xs ys f (text.PropertyLine place) first none
text_stops xs ys f (Refused (text.Character place)) first none = text_refused xs ys f (text.Character place) first none
text_stops xs ys f (Refused (text.Truncated place)) first none = text_refused xs ys f (text.Truncated place) first none
text_stops xs ys f (Refused (text.AfterEnd place)) first none = text_refused xs ys f (text.AfterEnd place) first none
text_stops xs ys f Device first none = tt

-- where a cause stands, nothing is shown
none_shown : (m : Parts) (s : Stimulus) (e : JudgeError) → HasCause m s e → e ≢ OutOfMemory witness → Shows m s → ⊥
none_shown m (Violated p initial inputs) e cause other shows = nothing_shown m p initial inputs e cause other shows
none_shown m (Holds p) e cause other (inl b) = b.replays
none_shown m (Holds p) e cause other (inr l) = l.replays
none_shown m (Unknown p) e cause other (inl b) = b.replays
none_shown m (Unknown p) e cause other (inr l) = l.replays

pub found_some : (xs ys : List ℕ) (f : File) (s : Stimulus) (n : ℕ) → IsFileOf xs f → SpellsStimulus ys s → IsFound f.model s (Some n) → IsRunRefusal xs ys n
found_some xs ys f s n first spells (e, other, cause, is) =
    inr (inr (
      f,
      s,
      first,
      only_stimulus ys s spells,
      record { none = none_shown f.model s e cause other; error = e; other = other; cause = cause; number = is },
    ))

-- ---- what is confirmed

pub found_none : (xs ys : List ℕ) (f : File) (s : Stimulus) (p : Property) → IsFileOf xs f → SpellsStimulus ys s → p ≡ property_of s → IsFound f.model s None → Confirms xs ys p
found_none xs ys f s p first spells same shows = record {
  file = f;
  stimulus = s;
  first = first.spells;
  second = spells;
  shows = shows;
  property = sym same;
}

-- there is no reason to refuse it
pub refusal_not : (xs ys : List ℕ) (p : Property) → Confirms xs ys p → (n : ℕ) → IsRunRefusal xs ys n → ⊥
refusal_not xs ys p a n (inl no_circuit) = no_circuit.none a.file a.first
refusal_not xs ys p a n (inr (inl (f, first, no_stimulus))) = no_stimulus.none a.stimulus a.second
refusal_not xs ys p a n (inr (inr (f, s, first, second, not))) =
    let one : Shows f.model a.stimulus = subst (λ g. Shows g.model a.stimulus) (first.only a.file a.first) a.shows in
    not.none (subst (Shows f.model) (second.only a.stimulus a.second) one)

-- ---- of one property alone

-- all that is confirmed of a text is of one property
one_property : (xs ys : List ℕ) (p q : Property) → Confirms xs ys p → Confirms xs ys q → p ≡ q
one_property xs ys p q a b = sym a.property ∙ ap property_of (spells_one stimulus_reads ys a.stimulus b.stimulus a.second b.second) ∙ b.property

pub for_not : (xs ys : List ℕ) (p : Property) → Confirms xs ys p → (n : ℕ) → IsRunRefusalFor p xs ys n → ⊥
for_not xs ys p a n (inl refusal) = refusal_not xs ys p a n refusal
for_not xs ys p a n (inr (q, of, ne, is)) = ne (one_property xs ys q p of a)
