-- The texts of statuses, and the exit codes of the program.
use Rattle.std.specs.Prelude.{ℕ, List, [], ◌∷◌, ◌++◌, codes, decimal}
use Rattle.cg_curve.specs.declared.fault.CurveFault.{CurveFault}
use Rattle.cg_curve.specs.declared.fault.CurveFault.TheVariants as curve
use Rattle.cg_grammar.specs.declared.fault.CqlCause.{CqlCause}
use Rattle.cg_grammar.specs.declared.fault.CqlCause.TheVariants as cql
use Rattle.cg_grammar.specs.declared.fault.CqlLimit.{CqlLimit}
use Rattle.cg_grammar.specs.declared.fault.CqlLimit.TheVariants as limits
use Rattle.cg_script.specs.declared.fault.ScriptCause.{ScriptCause}
use Rattle.cg_script.specs.declared.fault.ScriptCause.TheVariants as script
use Rattle.cg_script.specs.declared.fault.ScriptLimit.{ScriptLimit}
use Rattle.cg_script.specs.declared.fault.ScriptLimit.TheVariants as script_limits
use Rattle.cg_report.specs.declared.file.FileKind.{FileKind}
use Rattle.cg_report.specs.declared.file.FileKind.TheVariants as kinds
use Rattle.cg_report.specs.declared.file.FileRef.{FileRef}
use Rattle.cg_report.specs.declared.file.FileCause.{FileCause}
use Rattle.cg_report.specs.declared.file.FileCause.TheVariants.{TooLong, UnknownCurve, Curve, Cql, Script}
use Rattle.cg_report.specs.declared.status.Status.{Status}
use Rattle.cg_report.specs.declared.status.Status.TheVariants.{Done, Usage, ReadFault, Refused, WriteFault, NoMemory}

-- the word for what a file is read for
abbrev pub file_kind_text : FileKind → List ℕ
file_kind_text kinds.Curve = codes "curve "
file_kind_text kinds.Model = codes "model "
file_kind_text kinds.Session = codes "session "

-- a file by its kind and its number
abbrev pub file_text : FileRef → List ℕ
file_text file = file_kind_text file.kind ++ decimal file.number

-- why a curve file is refused; want of memory is no cause
abbrev pub curve_text : CurveFault → List ℕ
curve_text (curve.BadRow line) = codes "bad row"
curve_text (curve.OutOfRange line) = codes "out of range"
curve_text (curve.Order line) = codes "order"
curve_text (curve.Gap line) = codes "gap"
curve_text (curve.TooMany line) = codes "too many"
curve_text curve.TooFew = codes "too few"
curve_text curve.NoMemory = codes "out of memory"

-- the limit that a model passes
abbrev pub cql_limit_text : CqlLimit → List ℕ
cql_limit_text limits.Events = codes "limit events"
cql_limit_text limits.Groups = codes "limit groups"
cql_limit_text limits.Depth = codes "limit depth"
cql_limit_text limits.Curves = codes "limit curves"

-- why a model file, or a statement, is refused; want of memory is no cause
abbrev pub cql_text : CqlCause → List ℕ
cql_text cql.Token = codes "token"
cql_text cql.Syntax = codes "syntax"
cql_text (cql.Command word) = codes "command " ++ word
cql_text (cql.Option word) = codes "option " ++ word
cql_text cql.Place = codes "place"
cql_text cql.Argument = codes "argument"
cql_text (cql.Limit limit) = cql_limit_text limit
cql_text cql.NoMemory = codes "out of memory"

-- the limit that a session script passes
abbrev pub script_limit_text : ScriptLimit → List ℕ
script_limit_text script_limits.Commands = codes "limit commands"
script_limit_text script_limits.Prints = codes "limit prints"
script_limit_text script_limits.Years = codes "limit years"

-- why a session script is refused; want of memory is no cause
abbrev pub script_text : ScriptCause → List ℕ
script_text (script.Unknown word) = codes "unknown " ++ word
script_text script.Syntax = codes "syntax"
script_text (script.Statement fault) = codes "statement: " ++ cql_text fault
script_text (script.Limit limit) = script_limit_text limit
script_text script.NoMemory = codes "out of memory"

-- why a file is refused
abbrev pub file_cause_text : FileCause → List ℕ
file_cause_text TooLong = codes "too long"
file_cause_text UnknownCurve = codes "unknown curve"
file_cause_text (Curve fault) = curve_text fault
file_cause_text (Cql fault) = cql_text fault
file_cause_text (Script fault) = script_text fault

-- the file, the line, and why
abbrev pub refusal_text : FileRef → ℕ → FileCause → List ℕ
refusal_text file line cause = file_text file ++ codes " line " ++ decimal line ++ codes ": " ++ file_cause_text cause

-- the line that tells of a status; there is nothing to tell of a run that is done
abbrev pub status_text : Status → List ℕ
status_text Done = []
status_text Usage = codes "usage\n"
status_text (ReadFault file) = (codes "read fault: " ++ file_text file) ++ (10 ∷ [])
status_text (Refused file line cause) = refusal_text file line cause ++ (10 ∷ [])
status_text WriteFault = codes "write fault\n"
status_text NoMemory = codes "out of memory\n"

-- the exit code of the program
abbrev pub code_of : Status → ℕ
code_of Done = 0
code_of Usage = 2
code_of (ReadFault file) = 3
code_of (Refused file line cause) = 4
code_of WriteFault = 5
code_of NoMemory = 6
