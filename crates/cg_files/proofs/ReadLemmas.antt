-- A file that is refused.
use Rattle.std.proofs.Common.{◌≢◌, ℕ, ◌≤◌, List, [], ◌∷◌, length, Option, refl}
use Rattle.cg_meaning.specs.Tree.{Name}
use Rattle.cg_io.specs.Shelf.{Files}
use Rattle.cg_curve.specs.File.{HasFault}
use Rattle.cg_curve.specs.declared.fault.CurveFault.{CurveFault}
use Rattle.cg_curve.specs.declared.fault.CurveFault.TheVariants.{NoMemory}
use Rattle.cg_grammar.specs.Text.{FailsBy}
use Rattle.cg_grammar.specs.declared.command.Base.TheVariants.{Script}
use Rattle.cg_grammar.specs.declared.fault.CqlCause.{CqlCause}
use Rattle.cg_grammar.specs.declared.fault.CqlCause.TheVariants as cql
use Rattle.cg_script.specs.Script as script
use Rattle.cg_script.specs.declared.fault.ScriptCause.{ScriptCause}
use Rattle.cg_script.specs.declared.fault.ScriptCause.TheVariants as script_causes
use Rattle.cg_report.specs.declared.file.FileKind.TheVariants.{Curve, Model, Session}
use Rattle.cg_report.specs.declared.file.FileCause.TheVariants as cause
use Rattle.cg_files.specs.Shelf.{limit, Reads, Finds}
use Rattle.cg_files.specs.Said.{fault_line, fault_of_curve, fault_of_model, fault_of_script}
use Rattle.cg_files.specs.Reading.{EndsWith}
use Rattle.cg_files.specs.Inputs.{file_as}
use Rattle.cg_files.proofs.EndLemmas.{refuse_one}

module _ (curves : List Name) (told now : Option Files) (number : ℕ) (name bytes : List ℕ) (found : Finds told name bytes) (short : length bytes ≤ limit) (reads : Reads 1 told now) where
  pub curve_fault : (fault : CurveFault) → (fault ≢ NoMemory → HasFault bytes fault) →
      EndsWith curves told now (file_as Curve number name ∷ []) (fault_of_curve (file_as Curve number name).ref fault)
  curve_fault NoMemory has = tt
  curve_fault fault has = refuse_one curves told now (file_as Curve number name) bytes (fault_line fault) (cause.Curve fault) found (short, (refl, has (λ e. absurd cc))) reads

  pub model_fault : (line : ℕ) (why : CqlCause) → FailsBy Script bytes (record { line = line; cause = why }) →
      EndsWith curves told now (file_as Model number name ∷ []) (fault_of_model (file_as Model number name).ref line why)
  model_fault line cql.NoMemory has = tt
  model_fault line why has = refuse_one curves told now (file_as Model number name) bytes line (cause.Cql why) found (short, has) reads

  pub script_fault : (line : ℕ) (why : ScriptCause) → script.FailsBy bytes (record { line = line; cause = why }) →
      EndsWith curves told now (file_as Session number name ∷ []) (fault_of_script (file_as Session number name).ref line why)
  script_fault line script_causes.NoMemory has = tt
  script_fault line why has = refuse_one curves told now (file_as Session number name) bytes line (cause.Script why) found (short, has) reads
