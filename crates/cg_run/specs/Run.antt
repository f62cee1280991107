-- How a run ends, by the words, the shelf's files, the journal and what the sink takes.
use Rattle.std.specs.Prelude.{◌≡◌, ℕ, ◌<◌, Bool, true, false, List, [], ◌∷◌, length, take, Option, IfSome}
use Rattle.std.specs.List.{All, concat}
use Rattle.cg_meaning.specs.Tree.{root_of}
use Rattle.cg_io.specs.Shelf.{Files}
use Rattle.cg_io.specs.Sink.{Takes}
use Rattle.cg_recipe.specs.Recipe.{recipe}
use Rattle.cg_recipe.specs.Laws.{IsRight}
use Rattle.cg_ranges.specs.Cover.{cover}
use Rattle.cg_ranges.specs.Laws.{Covers}
use Rattle.cg_sharing.specs.Versions.{start_of}
use Rattle.cg_sharing.specs.Journal.{Entry, shared_of, IsLegal}
use Rattle.cg_sharing.specs.Pieces.{Print, prints_of, ranges_of}
use Rattle.cg_sharing.specs.Course.{Place}
use Rattle.cg_sharing.specs.Interleaving.{World, interleaving, IsInterleaving, some_stopped, IsOfSession}
use Rattle.cg_report.specs.Texts.{targets}
use Rattle.cg_report.specs.Transcript.{transcripts_of}
use Rattle.cg_report.specs.declared.status.Status.{Status}
use Rattle.cg_report.specs.declared.status.Status.TheVariants.{Done, Usage, ReadFault, Refused, WriteFault, NoMemory}
use Rattle.cg_session.specs.Calibration.{calibration_of}
use Rattle.cg_interleaving.specs.Run.{AreOver}
use Rattle.cg_words.specs.Words.{Request, AreWords, AreNoWords}
use Rattle.cg_files.specs.Shelf.{Reads}
use Rattle.cg_files.specs.Reading as files
use Rattle.cg_files.specs.Inputs.{Inputs, names_of, files_of, AreInputs}
use Rattle.cg_files.specs.declared.file.FileFault.{FileFault}
use Rattle.cg_files.specs.declared.file.FileFault.TheVariants as fault

-- The words ask for files that are all accepted, and this is what they say.
pub record AreAccepted (words : List (List ℕ)) (told : Option Files) (request : Request)
    (inputs : Inputs) : Type 0 where
  pub asks : AreWords words request
  pub files : AreInputs told request inputs

-- Each file that the words ask for was read once.
pub record ReadsAll (words : List (List ℕ)) (told now : Option Files) : Type 0 where
  pub request : Request
  pub asks : AreWords words request
  pub reads : Reads (length (files_of request)) told now

-- The files are accepted, and their sessions took the turns of the words, in any of which want of memory may have
-- stopped one: the journal is that of the world where this led. It is legal, each entry is of one of the sessions, and
-- the entries of each session are a course of its script that is over.
pub record IsJournal (words : List (List ℕ)) (told : Option Files) (journal : List Entry) : Type 0 where
  pub request : Request
  pub inputs : Inputs
  pub accepted : AreAccepted words told request inputs
  pub world : World
  pub interleaved : IsInterleaving (calibration_of inputs.curves) inputs.models request.cache inputs.scripts request.turns world
  pub is : journal ≡ world.journal
  pub legal : IsLegal (shared_of inputs.models request.cache) journal
  pub seats : All (IsOfSession (length inputs.scripts)) journal
  pub over : AreOver (calibration_of inputs.curves) 1 (start_of inputs.models) inputs.scripts journal world.places

-- what sessions write that end at these places, in their order
abbrev pub output_of : List Place → List ℕ
output_of places = concat (transcripts_of recipe 1 places)

-- the marginal that is printed holds for every admitted weighting of the print's model, in its scene, and is narrow
abbrev pub IsRightPrint : Print → Type 0
IsRightPrint print = IsRight (root_of print.chronology) print.scene print.event

-- each range that is printed has its part of the event's posterior, under every admitted weighting
abbrev pub AreRightRanges : Print → Type 0
AreRightRanges print =
    let tree = root_of print.chronology in
    IfSome (recipe tree print.scene print.event)
    (λ pairs. All (λ target. Covers tree print.scene print.event target (cover pairs target)) targets)

-- The sessions ran, and the output is what they wrote, each marginal and each range in it being right. It is told
-- whether want of memory stopped one; where it stopped none, the turns decide all.
pub record HaveRun (words : List (List ℕ)) (told : Option Files) (journal : List Entry) (output : List ℕ)
    (stopped : Bool) : Type 0 where
  pub entries : IsJournal words told journal
  pub some : stopped ≡ some_stopped entries.world.places
  pub whole : stopped ≡ false → entries.world ≡
      interleaving (calibration_of entries.inputs.curves) entries.inputs.models entries.request.cache
      entries.inputs.scripts entries.request.turns
  pub written : output ≡ output_of entries.world.places
  pub right : All (λ place. All IsRightPrint (prints_of place.written)) entries.world.places
  pub ranges : All (λ place. All AreRightRanges (ranges_of place.written)) entries.world.places

-- The sink took all of the output.
pub record TakesAll (before after : Option (List ℕ)) (output : List ℕ) (taken : ℕ) : Type 0 where
  pub took : Takes before after output
  pub count : taken ≡ length output

-- Each session did all of its script in the turns of the words, and all of the output was taken.
pub record IsDone (words : List (List ℕ)) (told : Option Files) (before after : Option (List ℕ))
    (journal : List Entry) (taken : ℕ) : Type 0 where
  pub output : List ℕ
  pub ran : HaveRun words told journal output false
  pub took : TakesAll before after output taken

-- Only the first bytes of the output were taken.
pub record IsCutOff (words : List (List ℕ)) (told : Option Files) (before after : Option (List ℕ))
    (journal : List Entry) (taken : ℕ) : Type 0 where
  pub output : List ℕ
  pub stopped : Bool
  pub ran : HaveRun words told journal output stopped
  pub took : Takes before after (take taken output)
  pub fewer : taken < length output

-- Want of memory stopped a session, and all of the output was taken.
pub record HasStopped (words : List (List ℕ)) (told : Option Files) (before after : Option (List ℕ))
    (journal : List Entry) (taken : ℕ) : Type 0 where
  pub output : List ℕ
  pub ran : HaveRun words told journal output true
  pub took : TakesAll before after output taken

-- Reads of the files that the words ask for ended in this fault, at the last one.
pub record EndsAt (words : List (List ℕ)) (told now : Option Files) (why : FileFault) : Type 0 where
  pub request : Request
  pub asks : AreWords words request
  pub end : files.EndsWith (names_of request.curves) told now (files_of request) why

-- The files that the words ask for cause this fault.
pub record FilesCause (words : List (List ℕ)) (told : Option Files) (why : FileFault) : Type 0 where
  pub request : Request
  pub asks : AreWords words request
  pub cause : files.CausesFault (names_of request.curves) told (files_of request) why

-- what ends a run before a session begins
abbrev pub CausesStatus : List (List ℕ) → Option Files → Status → Type 0
CausesStatus words told Done = ⊥
CausesStatus words told Usage = AreNoWords words
CausesStatus words told (ReadFault file) = FilesCause words told (fault.Failed file)
CausesStatus words told (Refused file line cause) = FilesCause words told (fault.Refused file line cause)
CausesStatus words told WriteFault = ⊥
CausesStatus words told NoMemory = ⊥

-- the statuses of runs of which no session began
abbrev pub BeginsNone : Status → Type 0
BeginsNone Done = ⊥
BeginsNone Usage = Unit {0}
BeginsNone (ReadFault file) = Unit {0}
BeginsNone (Refused file line cause) = Unit {0}
BeginsNone WriteFault = ⊥
BeginsNone NoMemory = ⊥
