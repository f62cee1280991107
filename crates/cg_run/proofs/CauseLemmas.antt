-- A run has one cause at most to end before a session begins, and none where all files are accepted.
use Rattle.std.proofs.Common.{◌≡◌, ℕ, List, Option, Some, refl, sym, ap, subst, ◌∙◌, ◌⊎◌, inl, inr}
use Rattle.cg_io.specs.Shelf.{Files}
use Rattle.cg_words.specs.Words.{Request, AreWords, AreNoWords}
use Rattle.cg_words.proofs.AskLemmas.{one-thing}
use Rattle.cg_files.specs.Reading as files
use Rattle.cg_files.specs.Reading.{EndsWith}
use Rattle.cg_files.specs.Inputs.{Inputs, names_of, files_of, said_by}
use Rattle.cg_files.specs.declared.file.FileFault.{FileFault}
use Rattle.cg_files.specs.declared.file.FileFault.TheVariants as fault
use Rattle.cg_files.proofs.OneEndLemmas.{have_one_end}
use Rattle.cg_run.specs.Run.{AreAccepted, EndsAt, FilesCause, CausesStatus}
use Rattle.cg_run.specs.Status.{status_of}
use Rattle.cg_report.specs.declared.status.Status.{Status}
use Rattle.cg_report.specs.declared.status.Status.TheVariants.{Done, Usage, ReadFault, Refused, WriteFault, NoMemory}

-- the words ask for nothing, or the files cause a fault
record ByFiles (words : List (List ℕ)) (told : Option Files) (status : Status) : Type 0 where
  why : FileFault
  cause : FilesCause words told why
  is : status ≡ status_of why

abbrev Origin : List (List ℕ) → Option Files → Status → Type 0
Origin words told status = (AreNoWords words × (status ≡ Usage)) ⊎ ByFiles words told status

origin : (words : List (List ℕ)) (told : Option Files) (status : Status) → CausesStatus words told status → Origin words told status
origin words told Done cause = absurd cause
origin words told Usage cause = inl (cause, refl)
origin words told (ReadFault file) cause = inr (record { why = fault.Failed file; cause = cause; is = refl })
origin words told (Refused file line why) cause = inr (record { why = fault.Refused file line why; cause = cause; is = refl })
origin words told WriteFault cause = absurd cause
origin words told NoMemory cause = absurd cause

module _ (words : List (List ℕ)) (told : Files) where
  one_fault : (f g : FileFault) → FilesCause words (Some told) f → FilesCause words (Some told) g → f ≡ g
  one_fault f g x y =
      let same = one-thing words x.request y.request x.asks y.asks in
      (have_one_end (names_of y.request.curves) told (files_of y.request)).one f g (subst (λ r. files.CausesFault (names_of r.curves) (Some told) (files_of r) f) same x.cause) y.cause

  one_origin : (a b : Status) → Origin words (Some told) a → Origin words (Some told) b → a ≡ b
  one_origin a b (inl x) (inl y) = x.1 ∙ sym y.1
  one_origin a b (inl x) (inr y) = absurd (x.0 y.cause.request y.cause.asks)
  one_origin a b (inr x) (inl y) = absurd (y.0 x.cause.request x.cause.asks)
  one_origin a b (inr x) (inr y) = x.is ∙ ap status_of (one_fault x.why y.why x.cause y.cause) ∙ sym y.is

  no_origin : (a : Status) (request : Request) (inputs : Inputs) → Origin words (Some told) a → AreAccepted words (Some told) request inputs → ⊥
  no_origin a request inputs (inl x) accepts = x.0 request accepts.asks
  no_origin a request inputs (inr x) accepts =
      let same = one-thing words x.cause.request request x.cause.asks accepts.asks in
      (have_one_end (names_of request.curves) told (files_of request)).none (said_by inputs) x.why accepts.files.accepted
      (subst (λ r. files.CausesFault (names_of r.curves) (Some told) (files_of r) x.why) same x.cause.cause)

-- the status of a run of which no session began
abbrev pub IsUnbegun : List (List ℕ) → Option Files → Status → Type 0
IsUnbegun words told status = (status ≡ NoMemory) ⊎ CausesStatus words told status

pub unasked : (words : List (List ℕ)) (told : Option Files) (status : Status) → status ≡ Usage → AreNoWords words → IsUnbegun words told status
unasked words told status is none = inr (subst (λ s. CausesStatus words told s) (sym is) none)

-- a run that ends at a file has that cause
pub ended_at : (words : List (List ℕ)) (told now : Option Files) (request : Request) (why : FileFault) (status : Status) → status ≡ status_of why → AreWords words request →
    EndsWith (names_of request.curves) told now (files_of request) why → IsUnbegun words told status
ended_at words told now request why status is asks end = subst (λ s. IsUnbegun words told s) (sym is) (at_fault why end)
  where
    at_fault : (f : FileFault) → EndsWith (names_of request.curves) told now (files_of request) f → IsUnbegun words told (status_of f)
    at_fault (fault.Failed file) h = inr (record { request = request; asks = asks; cause = h.cause })
    at_fault (fault.Refused file line cause) h = inr (record { request = request; asks = asks; cause = h.refusal })
    at_fault fault.NoMemory h = inl refl

-- only a file's fault ends in a status that names the file
pub named_fault : (words : List (List ℕ)) (told now : Option Files) (request : Request) (why wanted : FileFault) → status_of why ≡ status_of wanted → AreWords words request →
    EndsWith (names_of request.curves) told now (files_of request) why → (why ≡ wanted) × EndsAt words told now wanted
named_fault words told now request why wanted is asks end =
    let same : why ≡ wanted = one_status why wanted is in
    (same, record { request = request; asks = asks; end = subst (λ f. EndsWith (names_of request.curves) told now (files_of request) f) same end })
  where
    one_status : (f g : FileFault) → status_of f ≡ status_of g → f ≡ g
    one_status (fault.Failed a) (fault.Failed b) e = cc
    one_status (fault.Failed a) (fault.Refused b l c) e = absurd cc
    one_status (fault.Failed a) fault.NoMemory e = absurd cc
    one_status (fault.Refused a l c) (fault.Failed b) e = absurd cc
    one_status (fault.Refused a l c) (fault.Refused b k d) e = cc
    one_status (fault.Refused a l c) fault.NoMemory e = absurd cc
    one_status fault.NoMemory (fault.Failed b) e = absurd cc
    one_status fault.NoMemory (fault.Refused b k d) e = absurd cc
    one_status fault.NoMemory fault.NoMemory e = refl

module _ (words : List (List ℕ)) (told : Option Files) (status : Status) where
  -- each cause has its status
  pub exact : IsUnbegun words told status → (files : Files) (cause : Status) → told ≡ Some files → CausesStatus words (Some files) cause → (status ≡ cause) ⊎ (status ≡ NoMemory)
  exact (inl none) files cause tells h = inr none
  exact (inr mine) files cause tells h =
      inl (one_origin words files status cause (origin words (Some files) status (subst (λ t. CausesStatus words t status) tells mine)) (origin words (Some files) cause h))

  -- accepted files have no cause
  pub exact_ran : (request : Request) (inputs : Inputs) → AreAccepted words told request inputs → (files : Files) (cause : Status) → told ≡ Some files → CausesStatus words (Some files) cause →
      (status ≡ cause) ⊎ (status ≡ NoMemory)
  exact_ran request inputs accepts files cause tells h =
      absurd (no_origin words files cause request inputs (origin words (Some files) cause h) (subst (λ t. AreAccepted words t request inputs) tells accepts))

  -- no run of accepted files ends before a session begins, but for want of memory
  pub complete : IsUnbegun words told status → (files : Files) (request : Request) (inputs : Inputs) → told ≡ Some files → AreAccepted words (Some files) request inputs →
      (status ≡ Done) ⊎ (status ≡ NoMemory)
  complete (inl none) files request inputs tells accepts = inr none
  complete (inr mine) files request inputs tells accepts =
      absurd (no_origin words files status request inputs (origin words (Some files) status (subst (λ t. CausesStatus words t status) tells mine)) accepts)
