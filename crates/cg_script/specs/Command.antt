-- What the code's commands mean.
use Rattle.std.specs.Prelude.{ℕ}
use Rattle.cg_sharing.specs.Command as spec
use Rattle.cg_edit.specs.Plain.{edit_in}
use Rattle.cg_script.specs.declared.command.Command.{Command}
use Rattle.cg_script.specs.declared.command.Command.TheVariants.{Grid, Open, Take, Undo, Change, Commit, Print, Ranges, Model, Work}

abbrev pub command_in : Command → spec.Command
command_in (Grid older younger) = spec.Grid older younger
command_in (Open name) = spec.Open name
command_in (Take version) = spec.Take version
command_in Undo = spec.Undo
command_in (Change edit) = spec.Change (edit_in edit)
command_in (Commit name) = spec.Commit name
command_in (Print event) = spec.Print event
command_in (Ranges event) = spec.Ranges event
command_in Model = spec.Model
command_in Work = spec.Work

-- a line of its number
abbrev pub line_in : ℕ × Command → spec.Line
line_in line = record { number = line.0; command = command_in line.1 }
