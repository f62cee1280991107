-- What the files of a request say.
use Rattle.std.specs.Prelude.{◌≡◌, ℕ, ◌+◌, List, [], ◌∷◌, ◌++◌, map, Option}
use Rattle.cg_io.specs.Shelf.{Files}
use Rattle.cg_meaning.specs.Tree.{Name}
use Rattle.cg_curve.specs.Curves.{NamedCurve}
use Rattle.cg_sharing.specs.Command.{Line}
use Rattle.cg_sharing.specs.Versions.{StartModel}
use Rattle.cg_words.specs.Words.{NamedFile, Request}
use Rattle.cg_files.specs.Said.{Said, a_curve, a_model, a_script}
use Rattle.cg_files.specs.Reading.{File, AcceptsAll}
use Rattle.cg_report.specs.declared.file.FileKind.{FileKind}
use Rattle.cg_report.specs.declared.file.FileKind.TheVariants.{Curve, Model, Session}
use Rattle.cg_files.specs.declared.inputs.Inputs as declared

-- the file of this name
abbrev pub file_as : FileKind → ℕ → List ℕ → File
file_as kind number name = record { ref = record { kind = kind; number = number }; name = name }

-- the files of these names, numbered from this number on
abbrev pub files_from : FileKind → ℕ → List (List ℕ) → List File
files_from kind number [] = []
files_from kind number (name ∷ names) = file_as kind number name ∷ files_from kind (number + 1) names

-- the names of named files, and where they stand on the shelf
abbrev pub names_of : List NamedFile → List Name
names_of named = map (λ one. one.name) named

abbrev pub file_names : List NamedFile → List (List ℕ)
file_names named = map (λ one. one.file) named

-- the files of each kind
abbrev pub curve_files : List NamedFile → List File
curve_files named = files_from Curve 1 (file_names named)

abbrev pub model_files : List NamedFile → List File
model_files named = files_from Model 1 (file_names named)

abbrev pub session_files : List (List ℕ) → List File
session_files paths = files_from Session 1 paths

-- all files in the order in which they are read
abbrev pub files_of : Request → List File
files_of request = curve_files request.curves ++ model_files request.models ++ session_files request.sessions

-- The curves by their names, the models by theirs, and the session scripts.
pub record Inputs : Type 0 where
  pub curves : List NamedCurve
  pub models : List StartModel
  pub scripts : List (List Line)

-- what the files of each kind say
abbrev pub said_of_curves : List NamedCurve → List Said
said_of_curves curves = map (λ named. a_curve named.curve) curves

abbrev pub said_of_models : List StartModel → List Said
said_of_models models = map (λ model. a_model model.chronology) models

abbrev pub said_of_scripts : List (List Line) → List Said
said_of_scripts scripts = map (λ lines. a_script lines) scripts

-- what all files say
abbrev pub said_by : Inputs → List Said
said_by inputs = said_of_curves inputs.curves ++ said_of_models inputs.models ++ said_of_scripts inputs.scripts

-- All files of the request are accepted, and say this, each under its name.
pub record AreInputs (told : Option Files) (request : Request) (inputs : Inputs) : Type 0 where
  pub accepted : AcceptsAll (names_of request.curves) told (files_of request) (said_by inputs)
  pub curves : map (λ named. named.name) inputs.curves ≡ names_of request.curves
  pub models : map (λ model. model.name) inputs.models ≡ names_of request.models

-- what the code's inputs are
abbrev pub inputs_in : declared.Inputs → Inputs
inputs_in inputs = record { curves = inputs.curves; models = inputs.models; scripts = inputs.scripts.items }
