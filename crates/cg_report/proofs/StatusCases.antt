-- Statuses, computed.
use Rattle.std.proofs.Common.{◌≡◌, ℕ, refl, List, [], ◌∷◌, ◌++◌}
use Rattle.std.specs.Prelude.{codes, map}
use Rattle.std.specs.Fmt.{digits}
use Rattle.std.specs.List.{flat_map}
use Rattle.cg_curve.specs.declared.fault.CurveFault.TheVariants as curve
use Rattle.cg_grammar.specs.declared.fault.CqlCause.TheVariants as cql
use Rattle.cg_grammar.specs.declared.fault.CqlLimit.TheVariants as limits
use Rattle.cg_script.specs.declared.fault.ScriptCause.TheVariants as script
use Rattle.cg_script.specs.declared.fault.ScriptLimit.TheVariants as script_limits
use Rattle.cg_report.specs.declared.file.FileKind.{FileKind}
use Rattle.cg_report.specs.declared.file.FileKind.TheVariants as kinds
use Rattle.cg_report.specs.declared.file.FileRef.{FileRef}
use Rattle.cg_report.specs.declared.file.FileCause.TheVariants.{TooLong, UnknownCurve, Curve, Cql, Script}
use Rattle.cg_report.specs.declared.status.Status.{Status}
use Rattle.cg_report.specs.declared.status.Status.TheVariants.{Done, Usage, ReadFault, Refused, WriteFault, NoMemory}
use Rattle.cg_report.specs.Status.{status_text, code_of}

abbrev file_of : FileKind → ℕ → FileRef
file_of kind number = record { kind = kind; number = number }

abbrev statuses : List Status
statuses =
    Done ∷ Usage ∷ ReadFault (file_of kinds.Session 3) ∷ Refused (file_of kinds.Model 1) 0 TooLong ∷ WriteFault
    ∷ NoMemory ∷ []

lines : flat_map status_text statuses
    ≡ codes "usage\nread fault: session 3\nmodel 1 line 0: too long\nwrite fault\nout of memory\n"
unfolding digits
lines = refl

exit_codes : map code_of statuses ≡ 0 ∷ 2 ∷ 3 ∷ 4 ∷ 5 ∷ 6 ∷ []
exit_codes = refl

-- the lines of refusals of one curve, at its line 12
curves : flat_map (λ fault. status_text (Refused (file_of kinds.Curve 1) 12 (Curve fault)))
    (curve.BadRow 12 ∷ curve.OutOfRange 12 ∷ curve.Order 12 ∷ curve.Gap 12 ∷ curve.TooMany 12 ∷ curve.TooFew ∷ [])
    ≡ codes "curve 1 line 12: bad row\ncurve 1 line 12: out of range\ncurve 1 line 12: order\n"
    ++ codes "curve 1 line 12: gap\ncurve 1 line 12: too many\ncurve 1 line 12: too few\n"
unfolding digits
curves = refl

-- those of one model
models : flat_map (λ cause. status_text (Refused (file_of kinds.Model 2) 7 cause))
    (UnknownCurve ∷ Cql cql.Token ∷ Cql cql.Syntax ∷ Cql (cql.Command (codes "Foo"))
    ∷ Cql (cql.Option (codes "Resolution")) ∷ Cql cql.Place ∷ Cql cql.Argument ∷ Cql (cql.Limit limits.Events)
    ∷ Cql (cql.Limit limits.Groups) ∷ Cql (cql.Limit limits.Depth) ∷ Cql (cql.Limit limits.Curves) ∷ [])
    ≡ codes "model 2 line 7: unknown curve\nmodel 2 line 7: token\nmodel 2 line 7: syntax\n"
    ++ codes "model 2 line 7: command Foo\nmodel 2 line 7: option Resolution\nmodel 2 line 7: place\n"
    ++ codes "model 2 line 7: argument\nmodel 2 line 7: limit events\nmodel 2 line 7: limit groups\n"
    ++ codes "model 2 line 7: limit depth\nmodel 2 line 7: limit curves\n"
unfolding digits
models = refl

-- those of one session script
scripts : flat_map (λ cause. status_text (Refused (file_of kinds.Session 1) 4 (Script cause)))
    (script.Unknown (codes "foo") ∷ script.Syntax ∷ script.Statement cql.Argument
    ∷ script.Statement (cql.Command (codes "Foo")) ∷ script.Limit script_limits.Commands ∷ script.Limit script_limits.Prints
    ∷ script.Limit script_limits.Years ∷ [])
    ≡ codes "session 1 line 4: unknown foo\nsession 1 line 4: syntax\n"
    ++ codes "session 1 line 4: statement: argument\nsession 1 line 4: statement: command Foo\n"
    ++ codes "session 1 line 4: limit commands\nsession 1 line 4: limit prints\n"
    ++ codes "session 1 line 4: limit years\n"
unfolding digits
scripts = refl
