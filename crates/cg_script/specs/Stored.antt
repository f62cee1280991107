-- Lines of the definitions as stored data: each holds what some command of the code means.
use Rattle.std.specs.Prelude.{◌≡◌, ℕ, refl}
use Rattle.std.proofs.Common.{ap}
use Rattle.std.specs.Coded.{Coded, code_by, coded×, coded_ℕ}
use Rattle.cg_meaning.specs.Tree as tree
use Rattle.cg_model.specs.Dating.{dating_of}
use Rattle.cg_model.specs.Stored.{dating_back, node_of, tree_again}
use Rattle.cg_sharing.specs.Edit as meaning
use Rattle.cg_sharing.specs.Command as spec
use Rattle.cg_edit.specs.Plain.{edit_in}
use Rattle.cg_edit.specs.declared.edit.Edit.{Edit}
use Rattle.cg_edit.specs.declared.edit.Edit.TheVariants.{Set, Add, InsertBefore, Drop, Rename}
use Rattle.cg_script.specs.declared.command.Command.{Command}
use Rattle.cg_script.specs.declared.command.Command.TheVariants.{Grid, Open, Take, Undo, Change, Commit, Print, Ranges, Model, Work}
use Rattle.cg_script.specs.contracts.command.Command as command
use Rattle.cg_script.specs.Command.{command_in}

-- an edit that means this
abbrev pub edit_back : meaning.Edit → Edit
edit_back (meaning.Set name dating) = Set name (dating_back dating)
edit_back (meaning.Add name node) = Add name (node_of node)
edit_back (meaning.InsertBefore name node) = InsertBefore name (node_of node)
edit_back (meaning.Drop name) = Drop name
edit_back (meaning.Rename name new) = Rename name new

-- a command that means this
abbrev pub command_back : spec.Command → Command
command_back (spec.Grid older younger) = Grid older younger
command_back (spec.Open name) = Open name
command_back (spec.Take version) = Take version
command_back spec.Undo = Undo
command_back (spec.Change edit) = Change (edit_back edit)
command_back (spec.Commit name) = Commit name
command_back (spec.Print event) = Print event
command_back (spec.Ranges event) = Ranges event
command_back spec.Model = Model
command_back spec.Work = Work

dating_again : (d : tree.Dating) → dating_of (dating_back d) ≡ d
dating_again tree.Free = refl
dating_again (tree.Exact year) = refl
dating_again (tree.Normal year error) = refl
dating_again (tree.Carbon age error) = refl

edit_again : (e : meaning.Edit) → edit_in (edit_back e) ≡ e
edit_again (meaning.Set name dating) = ap (λ d. meaning.Set name d) (dating_again dating)
edit_again (meaning.Add name node) = ap (λ t. meaning.Add name t) (tree_again node)
edit_again (meaning.InsertBefore name node) = ap (λ t. meaning.InsertBefore name t) (tree_again node)
edit_again (meaning.Drop name) = refl
edit_again (meaning.Rename name new) = refl

pub command_again : (c : spec.Command) → command_in (command_back c) ≡ c
command_again (spec.Grid older younger) = refl
command_again (spec.Open name) = refl
command_again (spec.Take version) = refl
command_again spec.Undo = refl
command_again (spec.Change edit) = ap (λ e. spec.Change e) (edit_again edit)
command_again (spec.Commit name) = refl
command_again (spec.Print event) = refl
command_again (spec.Ranges event) = refl
command_again spec.Model = refl
command_again spec.Work = refl

abbrev pub coded_command : Coded spec.Command
coded_command = code_by Command command.the_row.coded command_back command_in command_again

abbrev pub coded_line : Coded spec.Line
coded_line =
    code_by (ℕ × spec.Command) (coded× coded_ℕ coded_command) (λ l. (l.number, l.command))
    (λ p. record { number = p.0; command = p.1 }) (λ _. refl)
