-- The words of the CQL2 profile. After the OxCal 4 manual (CQL2).
use Rattle.std.specs.Prelude.{ℕ, Bool, ◌||◌, List, codes, bytes_eq, Option, Some, None, if◌then◌else◌}
use Rattle.cg_model.specs.Group.{kind_in, word_of_kind}
use Rattle.cg_model.specs.declared.group.GroupKind.TheVariants.{Sequence, Phase, After, Before}
use Rattle.cg_grammar.specs.declared.command.Command.{Command}
use Rattle.cg_grammar.specs.declared.command.Command.TheVariants.{Date, Boundary, CDate, RDate, Group, Plot, Options, Curve}
use Rattle.cg_grammar.specs.declared.command.Setting.{Setting}
use Rattle.cg_grammar.specs.declared.command.Setting.TheVariants as settings

-- the word of a command
abbrev pub word_of : Command → List ℕ
word_of Date = codes "Date"
word_of Boundary = codes "Boundary"
word_of CDate = codes "C_Date"
word_of RDate = codes "R_Date"
word_of (Group kind) = word_of_kind (kind_in kind)
word_of Plot = codes "Plot"
word_of Options = codes "Options"
word_of Curve = codes "Curve"

-- the command of a word
unfoldable pub command_of : List ℕ → Option Command
command_of word =
    if bytes_eq word (codes "Date") then Some Date
    else (if bytes_eq word (codes "Boundary") then Some Boundary
    else (if bytes_eq word (codes "C_Date") then Some CDate
    else (if bytes_eq word (codes "R_Date") then Some RDate
    else (if bytes_eq word (codes "Sequence") then Some (Group Sequence)
    else (if bytes_eq word (codes "Phase") then Some (Group Phase)
    else (if bytes_eq word (codes "After") then Some (Group After)
    else (if bytes_eq word (codes "Before") then Some (Group Before)
    else (if bytes_eq word (codes "Plot") then Some Plot
    else (if bytes_eq word (codes "Options") then Some Options
    else (if bytes_eq word (codes "Curve") then Some Curve
    else None))))))))))

-- the option of a word is accepted where it is off
abbrev pub is_off : List ℕ → Bool
is_off word = bytes_eq word (codes "Cubic")
    || (bytes_eq word (codes "UniformSpanPrior")
    || (bytes_eq word (codes "UseF14C")
    || bytes_eq word (codes "Intercept")))

-- the option of a word is ignored
abbrev pub is_ignored : List ℕ → Bool
is_ignored word = bytes_eq word (codes "BCAD")
    || (bytes_eq word (codes "PlusMinus")
    || (bytes_eq word (codes "SD1")
    || (bytes_eq word (codes "SD2")
    || (bytes_eq word (codes "SD3")
    || (bytes_eq word (codes "RawData")
    || (bytes_eq word (codes "ConvergenceData")
    || (bytes_eq word (codes "kIterations")
    || bytes_eq word (codes "Ensembles"))))))))

-- what the option of a word accepts
unfoldable pub setting_of : List ℕ → Option Setting
setting_of word =
    if is_off word then Some settings.False
    else (if bytes_eq word (codes "Resolution") then Some settings.One
    else (if bytes_eq word (codes "Curve") then Some settings.Curve
    else (if is_ignored word then Some settings.Ignored
    else None)))
