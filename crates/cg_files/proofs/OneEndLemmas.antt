-- Reads of files have one fault at most, and none where all are accepted.
use Rattle.std.proofs.Common.{◌≡◌, ℕ, ◌<◌, ◌≤◌, ◌⊎◌, inl, inr, List, [], ◌∷◌, ◌++◌, length, Some, refl, sym, ap, ap₂, subst, ◌∙◌, arith}
use Rattle.cg_meaning.specs.Tree.{Name, Chronology}
use Rattle.cg_io.specs.Shelf.{Files, Gives, after_read}
use Rattle.cg_curve.proofs.DecidedLemmas.{each_is_decided}
use Rattle.cg_grammar.specs.CurveLine.{IsCurveLine}
use Rattle.cg_grammar.specs.declared.fault.CqlFault.{CqlFault}
use Rattle.cg_grammar.proofs.DecidedLemmas.{decided}
use Rattle.cg_grammar.proofs.CurveLineLemmas.{each-curve-line}
use Rattle.cg_script.specs.declared.fault.ScriptFault.{ScriptFault}
use Rattle.cg_script.proofs.DecidedLemmas.{each_is_decided as each_script_is_decided}
use Rattle.cg_report.specs.declared.file.FileKind.{FileKind}
use Rattle.cg_report.specs.declared.file.FileKind.TheVariants.{Curve, Model, Session}
use Rattle.cg_report.specs.declared.file.FileRef.{FileRef}
use Rattle.cg_report.specs.declared.file.FileCause.{FileCause}
use Rattle.cg_report.specs.declared.file.FileCause.TheVariants as cause
use Rattle.cg_files.specs.Shelf.{limit, later, Finds, Misses}
use Rattle.cg_files.specs.Said.{Said, a_curve, a_model, a_script, IsKnown, Says, fault_line, RefusesCurve, RefusesModel, RefusesScript, Refuses, HasCause}
use Rattle.cg_files.specs.Reading.{File, Accepts, AcceptsAll, ComesTo, CausesFault, HaveOneEnd}
use Rattle.cg_files.specs.declared.file.FileFault.{FileFault}
use Rattle.cg_files.specs.declared.file.FileFault.TheVariants.{Failed, Refused, NoMemory}

apart : (n m : ℕ) → n < m → m ≤ n → ⊥
apart n m less more = omega arith

one_content : (files : Files) (name x y : List ℕ) → Gives files name x → Gives files name y → x ≡ y
one_content files name x y f g = let e = sym f.file ∙ g.file in cc

one_line : (bytes : List ℕ) (l k : ℕ) → IsCurveLine bytes (Some l) → IsCurveLine bytes (Some k) → l ≡ k
one_line bytes l k x y =
    let e = (each-curve-line bytes).one (Some l) x ∙ sym ((each-curve-line bytes).one (Some k) y) in cc

-- where curves of these names are given
module _ (curves : List Name) where
  -- bytes of a kind are refused at one line by one cause at most
  one_of_curve : (bytes : List ℕ) (l k : ℕ) (a b : FileCause) → RefusesCurve bytes l a → RefusesCurve bytes k b → (l ≡ k) × (a ≡ b)
  one_of_curve bytes l k (cause.Curve f) (cause.Curve g) x y =
      let same : f ≡ g = (each_is_decided bytes).one_fault f g x.1 y.1 in
      (x.0 ∙ ap fault_line same ∙ sym y.0, ap (λ h. cause.Curve h) same)
  one_of_curve bytes l k (cause.Curve f) b x y = absurd y
  one_of_curve bytes l k a b x y = absurd x

  one_of_model : (bytes : List ℕ) (l k : ℕ) (a b : FileCause) → RefusesModel curves bytes l a → RefusesModel curves bytes k b → (l ≡ k) × (a ≡ b)
  one_of_model bytes l k cause.UnknownCurve cause.UnknownCurve x y = (one_line bytes l k x.place y.place, refl)
  one_of_model bytes l k cause.UnknownCurve (cause.Cql g) x y = absurd ((decided bytes).not_both x.chronology (record { line = k; cause = g }) x.spelled y)
  one_of_model bytes l k (cause.Cql f) cause.UnknownCurve x y = absurd ((decided bytes).not_both y.chronology (record { line = l; cause = f }) y.spelled x)
  one_of_model bytes l k (cause.Cql f) (cause.Cql g) x y =
      let same = (decided bytes).one_fault (record { line = l; cause = f }) (record { line = k; cause = g }) x y in
      (ap (λ (h : CqlFault). h.line) same, ap (λ (h : CqlFault). cause.Cql h.cause) same)
  one_of_model bytes l k cause.UnknownCurve b x y = absurd y
  one_of_model bytes l k (cause.Cql f) b x y = absurd y
  one_of_model bytes l k a b x y = absurd x

  one_of_script : (bytes : List ℕ) (l k : ℕ) (a b : FileCause) → RefusesScript bytes l a → RefusesScript bytes k b → (l ≡ k) × (a ≡ b)
  one_of_script bytes l k (cause.Script f) (cause.Script g) x y =
      let same = (each_script_is_decided bytes).one_fault (record { line = l; cause = f }) (record { line = k; cause = g }) x y in
      (ap (λ (h : ScriptFault). h.line) same, ap (λ (h : ScriptFault). cause.Script h.cause) same)
  one_of_script bytes l k (cause.Script f) b x y = absurd y
  one_of_script bytes l k a b x y = absurd x

  one_refusal : (kind : FileKind) (bytes : List ℕ) (l k : ℕ) (a b : FileCause) → Refuses curves kind bytes l a → Refuses curves kind bytes k b → (l ≡ k) × (a ≡ b)
  one_refusal Curve bytes l k a b x y = one_of_curve bytes l k a b x y
  one_refusal Model bytes l k a b x y = one_of_model bytes l k a b x y
  one_refusal Session bytes l k a b x y = one_of_script bytes l k a b x y

  -- bytes that say something of a kind are refused by no cause
  not_refused : (kind : FileKind) (bytes : List ℕ) (said : Said) (l : ℕ) (a : FileCause) → Says curves kind bytes said → Refuses curves kind bytes l a → ⊥
  not_refused Curve bytes (a_curve rows) l (cause.Curve f) says x = (each_is_decided bytes).not_both rows f says x.1
  not_refused Curve bytes (a_curve rows) l a says x = x
  not_refused Model bytes (a_model c) l cause.UnknownCurve says x =
      x.unknown (subst (λ (d : Chronology). IsKnown curves d.curve) ((decided bytes).one_value c x.chronology says.0 x.spelled) says.1)
  not_refused Model bytes (a_model c) l (cause.Cql f) says x = (decided bytes).not_both c (record { line = l; cause = f }) says.0 x
  not_refused Model bytes (a_model c) l a says x = x
  not_refused Session bytes (a_script s) l (cause.Script f) says x = (each_script_is_decided bytes).not_both s (record { line = l; cause = f }) says x
  not_refused Session bytes (a_script s) l a says x = x
  not_refused kind bytes said l a says x = says

  -- what a cause says of bytes that aren't too long
  short_cause : (kind : FileKind) (bytes : List ℕ) (l : ℕ) (a : FileCause) → length bytes ≤ limit → HasCause curves kind bytes l a → Refuses curves kind bytes l a
  short_cause kind bytes l cause.TooLong short x = absurd (apart limit (length bytes) x.1 short)
  short_cause kind bytes l a short x = x.1

  -- bytes of a kind have one cause at most
  one_cause : (kind : FileKind) (bytes : List ℕ) (ref : FileRef) (l k : ℕ) (a b : FileCause) → HasCause curves kind bytes l a → HasCause curves kind bytes k b → Refused ref l a ≡ Refused ref k b
  one_cause kind bytes ref l k cause.TooLong cause.TooLong x y = ap (λ n. Refused ref n cause.TooLong) (x.0 ∙ sym y.0)
  one_cause kind bytes ref l k cause.TooLong b x y = absurd (apart limit (length bytes) x.1 y.0)
  one_cause kind bytes ref l k a cause.TooLong x y = absurd (apart limit (length bytes) y.1 x.0)
  one_cause kind bytes ref l k a b x y =
      let (line, why) = one_refusal kind bytes l k a b x.1 y.1 in
      ap₂ (λ n w. Refused ref n w) line why

  -- the read of this file ends in this fault
  abbrev IsMissed : Files → File → FileFault → Type 0
  IsMissed told file fault = Misses (Some told) file.name × (fault ≡ Failed file.ref)

  record IsRefusedFile (told : Files) (file : File) (fault : FileFault) : Type 0 where
    bytes : List ℕ
    line : ℕ
    cause : FileCause
    gives : Gives told file.name bytes
    refused : HasCause curves file.ref.kind bytes line cause
    is : fault ≡ Refused file.ref line cause

  abbrev StopsAt : Files → File → FileFault → Type 0
  StopsAt told file fault = IsMissed told file fault ⊎ IsRefusedFile told file fault

  -- the reads of these files end in this fault, at the first or behind it
  abbrev StopsIn : Files → List File → FileFault → Type 0
  StopsIn told [] fault = ⊥
  StopsIn told (file ∷ files) fault =
      StopsAt told file fault ⊎ ((said : Said) × Accepts curves (Some told) file said × StopsIn (after_read told) files fault)

  one_stop : (told : Files) (file : File) (f g : FileFault) → StopsAt told file f → StopsAt told file g → f ≡ g
  one_stop told file f g (inl x) (inl y) = x.1 ∙ sym y.1
  one_stop told file f g (inl x) (inr y) = absurd (y.gives.sound x.0)
  one_stop told file f g (inr x) (inl y) = absurd (x.gives.sound y.0)
  one_stop told file f g (inr x) (inr y) =
      let same = one_content told file.name x.bytes y.bytes x.gives y.gives in
      x.is ∙ one_cause file.ref.kind y.bytes file.ref x.line y.line x.cause y.cause (subst (λ bytes. HasCause curves file.ref.kind bytes x.line x.cause) same x.refused) y.refused ∙ sym y.is

  no_stop : (told : Files) (file : File) (f : FileFault) (said : Said) → StopsAt told file f → Accepts curves (Some told) file said → ⊥
  no_stop told file f said (inl x) read = read.1.sound x.0
  no_stop told file f said (inr x) read =
      not_refused file.ref.kind read.0 said x.line x.cause read.3
      (short_cause file.ref.kind read.0 x.line x.cause read.2
      (subst (λ bytes. HasCause curves file.ref.kind bytes x.line x.cause) (one_content told file.name x.bytes read.0 x.gives read.1) x.refused))

  one_end : (told : Files) (files : List File) (f g : FileFault) → StopsIn told files f → StopsIn told files g → f ≡ g
  one_end told [] f g x y = absurd x
  one_end told (file ∷ files) f g (inl x) (inl y) = one_stop told file f g x y
  one_end told (file ∷ files) f g (inl x) (inr y) = absurd (no_stop told file f y.0 x y.1)
  one_end told (file ∷ files) f g (inr x) (inl y) = absurd (no_stop told file g x.0 y x.1)
  one_end told (file ∷ files) f g (inr x) (inr y) = one_end (after_read told) files f g x.2 y.2

  no_end : (told : Files) (files : List File) (said : List Said) (f : FileFault) → AcceptsAll curves (Some told) files said → StopsIn told files f → ⊥
  no_end told [] said f all x = x
  no_end told (file ∷ files) [] f all x = all
  no_end told (file ∷ files) (s ∷ said) f all (inl x) = no_stop told file f s x all.0
  no_end told (file ∷ files) (s ∷ said) f all (inr x) = no_end (after_read told) files said f all.1 x.2

  -- files behind accepted ones end as they do
  behind : (told : Files) (before files : List File) (said : List Said) (f : FileFault) → AcceptsAll curves (Some told) before said → ((now : Files) → later (length before) (Some told) ≡ Some now → StopsIn now files f) →
      StopsIn told (before ++ files) f
  behind told [] files [] f all stops = stops told refl
  behind told [] files (s ∷ said) f all stops = absurd all
  behind told (b ∷ before) files [] f all stops = absurd all
  behind told (b ∷ before) files (s ∷ said) f all stops = inr (s, all.0, behind (after_read told) before files said f all.1 stops)

  reached : (told : Files) (files : List File) (file : File) (f : FileFault) → (earlier : ComesTo curves (Some told) files file) →
      ((now : Files) → later (length earlier.before) (Some told) ≡ Some now → StopsAt now file f) → StopsIn told files f
  reached told files file f earlier stops =
      subst (λ fs. StopsIn told fs f) (sym earlier.parted) (behind told earlier.before (file ∷ earlier.behind) earlier.said f earlier.accepted (λ now is. inl (stops now is)))

  stops_in : (told : Files) (files : List File) (f : FileFault) → CausesFault curves (Some told) files f → StopsIn told files f
  stops_in told files (Failed ref) x =
      let file : File = record { ref = ref; name = x.name } in
      reached told files file (Failed ref) x.earlier (λ now is. inl (subst (λ o. Misses o x.name) is x.missed, refl))
  stops_in told files (Refused ref line cause) x =
      let file : File = record { ref = ref; name = x.name } in
      reached told files file (Refused ref line cause) x.earlier
      (λ now is. inr (record { bytes = x.bytes; line = line; cause = cause; gives = subst (λ o. Finds o x.name x.bytes) is x.found; refused = x.refused; is = refl }))
  stops_in told files NoMemory x = absurd x

  pub have_one_end : (told : Files) (files : List File) → HaveOneEnd curves told files
  have_one_end told files = record {
    one = λ f g x y. one_end told files f g (stops_in told files f x) (stops_in told files g y);
    none = λ said f all x. no_end told files said f all (stops_in told files f x);
  }
