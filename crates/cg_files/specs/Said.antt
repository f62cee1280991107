-- What the bytes of a file say by its kind, and why they say nothing.
use Rattle.std.specs.Prelude.{◌≡◌, ℕ, ◌<◌, ◌≤◌, List, length, Option, Some, None}
use Rattle.std.specs.List.{Any}
use Rattle.cg_meaning.specs.Curve as curve
use Rattle.cg_meaning.specs.Tree.{Name, Chronology}
use Rattle.cg_curve.specs.Curves.{IsSameCurveName}
use Rattle.cg_curve.specs.File.{IsCurveFile, HasFault}
use Rattle.cg_curve.specs.declared.fault.CurveFault.{CurveFault}
use Rattle.cg_curve.specs.declared.fault.CurveFault.TheVariants as curve_fault
use Rattle.cg_grammar.specs.Text.{Spells, Fails}
use Rattle.cg_grammar.specs.CurveLine.{IsCurveLine}
use Rattle.cg_grammar.specs.declared.command.Base.TheVariants.{Script}
use Rattle.cg_grammar.specs.declared.fault.CqlCause.{CqlCause}
use Rattle.cg_grammar.specs.declared.fault.CqlCause.TheVariants as cql
use Rattle.cg_sharing.specs.Command.{Line}
use Rattle.cg_script.specs.Script.{IsScript, HasFault as HasScriptFault}
use Rattle.cg_script.specs.declared.fault.ScriptCause.{ScriptCause}
use Rattle.cg_script.specs.declared.fault.ScriptCause.TheVariants as script
use Rattle.cg_report.specs.declared.file.FileKind.{FileKind}
use Rattle.cg_report.specs.declared.file.FileKind.TheVariants.{Curve, Model, Session}
use Rattle.cg_report.specs.declared.file.FileRef.{FileRef}
use Rattle.cg_report.specs.declared.file.FileCause.{FileCause}
use Rattle.cg_report.specs.declared.file.FileCause.TheVariants as cause
use Rattle.cg_files.specs.Shelf.{limit}
use Rattle.cg_files.specs.declared.file.FileFault.{FileFault}
use Rattle.cg_files.specs.declared.file.FileFault.TheVariants as fault

-- what a file says
pub data Said : Type 0 where
  a_curve : curve.Curve → Said
  a_model : Chronology → Said
  a_script : List Line → Said

-- one of the given curves has the name, ASCII case aside; without a name there is none to be known
abbrev pub IsKnown : List Name → Option Name → Type 0
IsKnown curves None = Unit {0}
IsKnown curves (Some name) = Any (λ curve. IsSameCurveName curve name) curves

-- the bytes of a file of this kind say this, where curves of these names are given
abbrev pub Says : List Name → FileKind → List ℕ → Said → Type 0
Says curves Curve bytes (a_curve rows) = IsCurveFile bytes rows
Says curves Model bytes (a_model chronology) = Spells bytes chronology × IsKnown curves chronology.curve
Says curves Session bytes (a_script lines) = IsScript bytes lines
Says curves kind bytes other = ⊥

-- the line of a curve's fault, 0 for the file as a whole
abbrev pub fault_line : CurveFault → ℕ
fault_line (curve_fault.BadRow line) = line
fault_line (curve_fault.OutOfRange line) = line
fault_line (curve_fault.Order line) = line
fault_line (curve_fault.Gap line) = line
fault_line (curve_fault.TooMany line) = line
fault_line curve_fault.TooFew = 0
fault_line curve_fault.NoMemory = 0

-- what the fault of a reader is of a file
abbrev pub fault_of_curve : FileRef → CurveFault → FileFault
fault_of_curve file curve_fault.NoMemory = fault.NoMemory
fault_of_curve file why = fault.Refused file (fault_line why) (cause.Curve why)

abbrev pub fault_of_model : FileRef → ℕ → CqlCause → FileFault
fault_of_model file line cql.NoMemory = fault.NoMemory
fault_of_model file line why = fault.Refused file line (cause.Cql why)

abbrev pub fault_of_script : FileRef → ℕ → ScriptCause → FileFault
fault_of_script file line script.NoMemory = fault.NoMemory
fault_of_script file line why = fault.Refused file line (cause.Script why)

-- The bytes spell a model that names a curve which isn't given, and its name is on this line.
pub record NamesUnknown (curves : List Name) (bytes : List ℕ) (line : ℕ) : Type 0 where
  pub chronology : Chronology
  pub spelled : Spells bytes chronology
  pub unknown : ¬ IsKnown curves chronology.curve
  pub place : IsCurveLine bytes (Some line)

-- why bytes that are short enough say no curve, and on which line
abbrev pub RefusesCurve : List ℕ → ℕ → FileCause → Type 0
RefusesCurve bytes line (cause.Curve why) = (line ≡ fault_line why) × HasFault bytes why
RefusesCurve bytes line other = ⊥

-- no model
abbrev pub RefusesModel : List Name → List ℕ → ℕ → FileCause → Type 0
RefusesModel curves bytes line cause.UnknownCurve = NamesUnknown curves bytes line
RefusesModel curves bytes line (cause.Cql why) = Fails Script bytes (record { line = line; cause = why })
RefusesModel curves bytes line other = ⊥

-- no session script
abbrev pub RefusesScript : List ℕ → ℕ → FileCause → Type 0
RefusesScript bytes line (cause.Script why) = HasScriptFault bytes (record { line = line; cause = why })
RefusesScript bytes line other = ⊥

-- by what the file is read for
abbrev pub Refuses : List Name → FileKind → List ℕ → ℕ → FileCause → Type 0
Refuses curves Curve bytes line why = RefusesCurve bytes line why
Refuses curves Model bytes line why = RefusesModel curves bytes line why
Refuses curves Session bytes line why = RefusesScript bytes line why

-- why a file of this kind is refused, and at which line
abbrev pub HasCause : List Name → FileKind → List ℕ → ℕ → FileCause → Type 0
HasCause curves kind bytes line cause.TooLong = (line ≡ 0) × (limit < length bytes)
HasCause curves kind bytes line other = (length bytes ≤ limit) × Refuses curves kind bytes line other
