-- Files that are read one after the other, up to the first that is not accepted.
use Rattle.std.specs.Prelude.{◌≡◌, ℕ, ◌+◌, List, [], ◌∷◌, ◌++◌, length, Option, Some, option_map}
use Rattle.cg_io.specs.Causes.{Rose}
use Rattle.cg_io.specs.Shelf.{Files, after_read}
use Rattle.cg_meaning.specs.Tree.{Name}
use Rattle.cg_report.specs.declared.file.FileRef.{FileRef}
use Rattle.cg_report.specs.declared.file.FileCause.{FileCause}
use Rattle.cg_files.specs.Shelf.{later, Reads, Finds, Misses, ReadsAs}
use Rattle.cg_files.specs.Said.{Said, Says, HasCause}
use Rattle.cg_files.specs.declared.file.FileFault.{FileFault}
use Rattle.cg_files.specs.declared.file.FileFault.TheVariants.{Failed, Refused, NoMemory}

-- A file to be read: what it is read for and its number, and its name on the shelf.
pub record File : Type 0 where
  pub ref : FileRef
  pub name : List ℕ

-- the next read finds a file that says this, where curves of these names are given
abbrev pub Accepts : List Name → Option Files → File → Said → Type 0
Accepts curves told file said = ReadsAs told file.name (λ bytes. Says curves file.ref.kind bytes said)

-- reads of these files in their order find files that say this
abbrev pub AcceptsAll : List Name → Option Files → List File → List Said → Type 0
AcceptsAll curves told [] [] = Unit {0}
AcceptsAll curves told [] (said ∷ others) = ⊥
AcceptsAll curves told (file ∷ files) [] = ⊥
AcceptsAll curves told (file ∷ files) (said ∷ others) =
    Accepts curves told file said × AcceptsAll curves (option_map after_read told) files others

-- Reads come to this file: all files before it are accepted.
pub record ComesTo (curves : List Name) (told : Option Files) (files : List File) (file : File) : Type 0 where
  pub before : List File
  pub behind : List File
  pub said : List Said
  pub parted : files ≡ before ++ file ∷ behind
  pub accepted : AcceptsAll curves told before said

-- All files before this one are accepted, and its read fails.
pub record MissesFile (curves : List Name) (told : Option Files) (files : List File) (ref : FileRef) : Type 0 where
  pub name : List ℕ
  pub earlier : ComesTo curves told files record { ref = ref; name = name }
  pub missed : Misses (later (length earlier.before) told) name

-- All files before this one are accepted, and its bytes are refused.
pub record RefusesFile (curves : List Name) (told : Option Files) (files : List File) (ref : FileRef) (line : ℕ)
    (cause : FileCause) : Type 0 where
  pub name : List ℕ
  pub bytes : List ℕ
  pub earlier : ComesTo curves told files record { ref = ref; name = name }
  pub found : Finds (later (length earlier.before) told) name bytes
  pub refused : HasCause curves ref.kind bytes line cause

-- The read of this file failed, and it was the last.
pub record IsReadFault (curves : List Name) (told now : Option Files) (files : List File) (ref : FileRef) : Type 0 where
  pub cause : MissesFile curves told files ref
  pub reads : Reads (length cause.earlier.before + 1) told now

-- This file is refused, and its read was the last.
pub record IsRefused (curves : List Name) (told now : Option Files) (files : List File) (ref : FileRef) (line : ℕ)
    (cause : FileCause) : Type 0 where
  pub refusal : RefusesFile curves told files ref line cause
  pub reads : Reads (length refusal.earlier.before + 1) told now

-- what the shelf's files cause; want of memory is not caused by them
abbrev pub CausesFault : List Name → Option Files → List File → FileFault → Type 0
CausesFault curves told files (Failed ref) = MissesFile curves told files ref
CausesFault curves told files (Refused ref line cause) = RefusesFile curves told files ref line cause
CausesFault curves told files NoMemory = ⊥

-- why reads of these files end before they are all accepted; want of memory may end them anywhere
abbrev pub EndsWith : List Name → Option Files → Option Files → List File → FileFault → Type 0
EndsWith curves told now files (Failed ref) = IsReadFault curves told now files ref
EndsWith curves told now files (Refused ref line cause) = IsRefused curves told now files ref line cause
EndsWith curves told now files NoMemory = Unit {0}

-- All of these files were read, and they say this.
pub record AreRead (curves : List Name) (told now : Option Files) (files : List File) (said : List Said) : Type 0 where
  pub accepted : AcceptsAll curves told files said
  pub reads : Reads (length files) told now

-- only a failed read raises the count of faults
abbrev pub HasRisen : FileFault → ℕ → ℕ → Type 0
HasRisen (Failed ref) before now = Rose before now
HasRisen (Refused ref line cause) before now = Unit {0}
HasRisen NoMemory before now = Unit {0}

-- Where the shelf tells its files, reads of these have one fault at most, and none where all are accepted.
pub record HaveOneEnd (curves : List Name) (told : Files) (files : List File) : Type 0 where
  pub one : (f g : FileFault) → CausesFault curves (Some told) files f → CausesFault curves (Some told) files g → f ≡ g
  pub none : (said : List Said) (fault : FileFault) → AcceptsAll curves (Some told) files said
      → ¬ CausesFault curves (Some told) files fault

-- so do reads of any files, whichever curves are given
abbrev pub FilesHaveOneEnd : Type 0
FilesHaveOneEnd = (curves : List Name) (told : Files) (files : List File) → HaveOneEnd curves told files
