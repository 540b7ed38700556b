-- What the answers to a circuit and a certificate say.
use Rattle.std.proofs.Common.{◌≡◌, ℕ, List, None, inl, inr, refl, sym, ◌∙◌, ap, subst}
use Rattle.scan.proofs.Toolbox.{spells_one}
use Rattle.graph.specs.declared.circuit.Property.{Property}
use Rattle.graph.specs.declared.circuit.Property.TheVariants.{Justice}
use Rattle.graph.specs.declared.parts.Parts.{Parts}
use Rattle.graph.specs.File.{File}
use Rattle.graph.specs.WellFormed.{IsWellFormed}
use Rattle.graph.specs.Circuits.{HasProperty, IsUpheld}
use Rattle.aiger.specs.Layouts.{SpellsFile, SpellsModel}
use Rattle.aiger.specs.Loading.{IsFileOf, SpellsNoFile}
use Rattle.aiger.proofs.LayoutLaws.{begins_with, one_model, well_formed}
use Rattle.extension.specs.Accepted.{AcceptedLaw as AcceptedThirdLaw, AcceptedRoundsLaw, IsAcceptedCertificate as IsAcceptedThird}
use Rattle.extension.specs.Rounds.{HoldsFew}
use Rattle.certificate3.specs.Formats.{Certified, SpellsCertified, earlier, third}
use Rattle.certificate3.proofs.FormatLaws.{certified_reads}
use Rattle.checker3.specs.Laws.{RefusedLaw}
use Rattle.checker.specs.declared.answer_error.AnswerError.{AnswerError}
use Rattle.checker.specs.AnyVersion.{IsFoundOf, named_property}
use Rattle.checker.specs.AnswerErrors.{IsAnswerError}
use Rattle.checker.specs.Verdicts.{Accepts, BoundsRounds, IsUpheldText, IsNotAccepted, IsRefusal, IsRefusalFor}
use Rattle.checker2.proofs.Accepted.{accepted_law, cause_refuses}
use Rattle.checker.proofs.Said.{stops_more}

-- ---- where it stops

pub first_stops : (xs ys : List ℕ) (s : AnswerError) → IsAnswerError (SpellsNoFile xs) s → IsAnswerError (IsRefusal xs ys) s
first_stops xs ys s is = stops_more (SpellsNoFile xs) (IsRefusal xs ys) s (λ n none. inl none) is

-- ---- what is accepted

-- a text spells one certificate of any version
pub one_certified : (ys : List ℕ) (c d : Certified) → SpellsCertified ys c → SpellsCertified ys d → c ≡ d
one_certified ys c d one other = spells_one certified_reads ys c d one other

pub accepts : (xs ys : List ℕ) (f : File) (c : Certified) → IsFileOf xs f → SpellsCertified ys c → IsFoundOf f.model c None → Accepts xs ys (named_property c)
accepts xs ys f (earlier c) first spells accepted = inl (record {
  file = f;
  certificate = c;
  first = first.spells;
  second = spells;
  accepted = accepted;
  property = refl;
})
accepts xs ys f (third c) first spells accepted = inr (record {
  file = f;
  certificate = c;
  first = first.spells;
  second = spells;
  accepted = accepted;
  property = refl;
})

-- the circuit, and the certificate of any version
record IsAcceptedText (xs ys : List ℕ) (p : Property) : Type 0 where
  file : File
  certificate : Certified
  first : SpellsFile xs file
  second : SpellsCertified ys certificate
  accepted : IsFoundOf file.model certificate None
  property : named_property certificate ≡ p

accepted_of : (xs ys : List ℕ) (p : Property) → Accepts xs ys p → IsAcceptedText xs ys p
accepted_of xs ys p (inl a) = record {
  file = a.file;
  certificate = earlier a.certificate;
  first = a.first;
  second = a.second;
  accepted = a.accepted;
  property = a.property;
}
accepted_of xs ys p (inr a) = record {
  file = a.file;
  certificate = third a.certificate;
  first = a.first;
  second = a.second;
  accepted = a.accepted;
  property = a.property;
}

-- it is safe
certified_upheld : AcceptedThirdLaw → (m : Parts) (c : Certified) → IsWellFormed m → IsFoundOf m c None → IsUpheld m (named_property c)
certified_upheld law m (earlier c) well accepted = accepted_law m c well accepted
certified_upheld law m (third c) well accepted = law m c.claim.property c.claim.rounds c.evidence well accepted

-- its circuit has the property
certified_exists : (m : Parts) (c : Certified) → IsFoundOf m c None → HasProperty m (named_property c)
certified_exists m (earlier c) accepted = accepted.showable.exists
certified_exists m (third c) accepted = accepted.showable.exists

pub accepted_safe : AcceptedThirdLaw → (xs ys : List ℕ) (p : Property) → Accepts xs ys p → IsUpheldText xs p
accepted_safe law xs ys p it =
    let a = accepted_of xs ys p it in
    let begins : SpellsModel xs a.file.model = begins_with xs a.file a.first in
    record {
      circuit = a.file.model;
      begins = begins;
      only = λ m s. one_model xs m a.file.model s begins;
      exists = subst (HasProperty a.file.model) a.property (certified_exists a.file.model a.certificate a.accepted);
      upheld = subst (IsUpheld a.file.model) a.property (certified_upheld law a.file.model a.certificate (well_formed xs a.file a.first) a.accepted);
    }

-- and of justice with a number of rounds no run holds more
pub accepted_bounds : AcceptedRoundsLaw → (xs ys : List ℕ) (p : Property) → Accepts xs ys p → BoundsRounds xs ys
accepted_bounds law xs ys p it m c j spells second names =
    let a = accepted_of xs ys p it in
    let same : m ≡ a.file.model = one_model xs m a.file.model spells (begins_with xs a.file a.first) in
    let one : a.certificate ≡ third c = one_certified ys a.certificate (third c) a.second second in
    let accepted : IsFoundOf a.file.model (third c) None = subst (λ d. IsFoundOf a.file.model d None) one a.accepted in
    let of : IsAcceptedThird a.file.model (Justice j) c.claim.rounds c.evidence = subst (λ q. IsAcceptedThird a.file.model q c.claim.rounds c.evidence) names accepted in
    subst (λ n. HoldsFew n j c.claim.rounds) (sym same) (law a.file.model j c.claim.rounds c.evidence (well_formed xs a.file a.first) of)

-- there is no reason to refuse it
not_accepted : RefusedLaw → (f : File) (c : Certified) (n : ℕ) → IsNotAccepted f c n → IsFoundOf f.model c None → ⊥
not_accepted law f (earlier c) n not accepted = cause_refuses f.model c not.error not.cause not.other accepted
not_accepted law f (third c) n not accepted = law f.model c not.refusal not.cause accepted

pub refusal_not : RefusedLaw → (xs ys : List ℕ) (p : Property) → Accepts xs ys p → (n : ℕ) → IsRefusal xs ys n → ⊥
refusal_not law xs ys p it n (inl no_circuit) = let a = accepted_of xs ys p it in no_circuit.none a.file a.first
refusal_not law xs ys p it n (inr (inl (f, first, no_certificate))) = let a = accepted_of xs ys p it in no_certificate.none a.certificate a.second
refusal_not law xs ys p it n (inr (inr (f, c, first, second, not))) =
    let a = accepted_of xs ys p it in
    let one : IsFoundOf f.model a.certificate None = subst (λ g. IsFoundOf g.model a.certificate None) (first.only a.file a.first) a.accepted in
    not_accepted law f c n not (subst (λ d. IsFoundOf f.model d None) (second.only a.certificate a.second) one)

-- ---- of one property alone

-- all that is accepted of a text is of one property
one_property : (xs ys : List ℕ) (p q : Property) → Accepts xs ys p → Accepts xs ys q → p ≡ q
one_property xs ys p q first second =
    let a = accepted_of xs ys p first in
    let b = accepted_of xs ys q second in
    sym a.property ∙ ap named_property (one_certified ys a.certificate b.certificate a.second b.second) ∙ b.property

pub for_not : RefusedLaw → (xs ys : List ℕ) (p : Property) → Accepts xs ys p → (n : ℕ) → IsRefusalFor p xs ys n → ⊥
for_not law xs ys p a n (inl refusal) = refusal_not law xs ys p a n refusal
for_not law xs ys p a n (inr (q, of, ne, is)) = ne (one_property xs ys q p of a)
