-- What is said of a circuit's text and a stimulus's, and what it means.
use Rattle.std.specs.Prelude.{◌≡◌, ◌≢◌, ℕ, ◌⊎◌, List, Option}
use Rattle.base.specs.Devices.{PutsBeginning}
use Rattle.base.specs.Witness.{witness}
use Rattle.graph.specs.declared.circuit.Property.{Property}
use Rattle.graph.specs.File.{File}
use Rattle.aiger.specs.Layouts.{SpellsFile}
use Rattle.aiger.specs.Loading.{IsFileOf, SpellsNoFile}
use Rattle.stimulus.specs.declared.value.Stimulus.{Stimulus}
use Rattle.stimulus.specs.declared.stim_error.StimError.{StimError}
use Rattle.stimulus.specs.declared.stim_error.StimError.TheVariants.{OutOfMemory as NoMemory}
use Rattle.stimulus.specs.declared.judge_error.JudgeError.{JudgeError}
use Rattle.stimulus.specs.declared.judge_error.JudgeError.TheVariants.{OutOfMemory}
use Rattle.stimulus.specs.Causes.{HasCause}
use Rattle.stimulus.specs.Numbers.{stim_number_of, judge_number_of}
use Rattle.stimulus.specs.Shown.{Shows}
use Rattle.stimulus.specs.Texts.{SpellsStimulus, property_of}
use Rattle.checker.specs.declared.line.Question.TheVariants.{Run}
use Rattle.checker.specs.Lines.{yes_line, no_line}

-- the first text spells a circuit, and the second, to its end, a stimulus that shows the violation of the property
pub record Confirms (xs ys : List ℕ) (p : Property) : Type 0 where
  pub file : File
  pub stimulus : Stimulus
  pub first : SpellsFile xs file
  pub second : SpellsStimulus ys stimulus
  pub shows : Shows file.model stimulus
  pub property : property_of stimulus ≡ p

-- the one stimulus that the text spells
pub record IsStimulusOf (ys : List ℕ) (s : Stimulus) : Type 0 where
  pub spells : SpellsStimulus ys s
  pub only : (t : Stimulus) → SpellsStimulus ys t → t ≡ s

-- the text spells no stimulus, and the number is one of its reader's refusals, but not out of memory
pub record SpellsNoStimulus (ys : List ℕ) (n : ℕ) : Type 0 where
  pub none : (s : Stimulus) → SpellsStimulus ys s → ⊥
  pub error : StimError
  pub other : error ≢ NoMemory witness
  pub number : n ≡ stim_number_of error

-- the stimulus shows no violation in the circuit, and the number is that of the first cause
pub record IsNotShown (f : File) (s : Stimulus) (n : ℕ) : Type 0 where
  pub none : Shows f.model s → ⊥
  pub error : JudgeError
  pub other : error ≢ OutOfMemory witness
  pub cause : HasCause f.model s error
  pub number : n ≡ judge_number_of error

-- why the answer is no, with the number reported: the first text is looked at first, then the second, and then what they say
abbrev pub IsRunRefusal : List ℕ → List ℕ → ℕ → Type 0
IsRunRefusal xs ys n =
    SpellsNoFile xs n
    ⊎ (((f : File) × IsFileOf xs f × SpellsNoStimulus ys n)
    ⊎ ((f : File) × (s : Stimulus) × IsFileOf xs f × IsStimulusOf ys s × IsNotShown f s n))

-- a beginning of the line that is due was put
abbrev pub BeginsRunLine : List ℕ → List ℕ → Option (List ℕ) → Option (List ℕ) → Type 0
BeginsRunLine xs ys before after =
    ((p : Property) × Confirms xs ys p × PutsBeginning before after (yes_line Run p))
    ⊎ ((n : ℕ) × IsRunRefusal xs ys n × PutsBeginning before after (no_line n))

-- ---- of one property alone

-- why the answer about this property is no: as before, or the stimulus shows the violation of another property
abbrev pub IsRunRefusalFor : Property → List ℕ → List ℕ → ℕ → Type 0
IsRunRefusalFor p xs ys n = IsRunRefusal xs ys n ⊎ ((q : Property) × Confirms xs ys q × (q ≢ p) × (n ≡ 30))

abbrev pub BeginsRunLineFor : Property → List ℕ → List ℕ → Option (List ℕ) → Option (List ℕ) → Type 0
BeginsRunLineFor p xs ys before after =
    (Confirms xs ys p × PutsBeginning before after (yes_line Run p))
    ⊎ ((n : ℕ) × IsRunRefusalFor p xs ys n × PutsBeginning before after (no_line n))
