-- What the code's changes and faults mean.
use Rattle.std.specs.Prelude.{◌≡◌, Option, Some, None, Result, Ok, Err}
use Rattle.cg_meaning.specs.Tree as spec
use Rattle.cg_meaning.specs.Tree.{Chronology}
use Rattle.cg_model.specs.Dating.{dating_of}
use Rattle.cg_model.specs.Node.{tree_of}
use Rattle.cg_sharing.specs.Edit as meaning
use Rattle.cg_sharing.specs.Edit.{a_leaf, a_boundary, a_group, result_of}
use Rattle.cg_edit.specs.declared.edit.Edit.{Edit}
use Rattle.cg_edit.specs.declared.edit.Edit.TheVariants.{Set, Add, InsertBefore, Drop, Rename}
use Rattle.cg_edit.specs.declared.fault.Kind.{Kind}
use Rattle.cg_edit.specs.declared.fault.Kind.TheVariants.{Leaf, Boundary, Sequence, Phase, After, Before}
use Rattle.cg_edit.specs.declared.fault.EditFault.{EditFault}
use Rattle.cg_edit.specs.declared.fault.EditFault.TheVariants.{NoName, Ambiguous, WrongKind, Limit, NoMemory}

abbrev pub edit_in : Edit → meaning.Edit
edit_in (Set name dating) = meaning.Set name (dating_of dating)
edit_in (Add name node) = meaning.Add name (tree_of node)
edit_in (InsertBefore name node) = meaning.InsertBefore name (tree_of node)
edit_in (Drop name) = meaning.Drop name
edit_in (Rename name new) = meaning.Rename name new

abbrev pub kind_in : Kind → meaning.NodeKind
kind_in Leaf = a_leaf
kind_in Boundary = a_boundary
kind_in Sequence = a_group spec.Sequence
kind_in Phase = a_group spec.Phase
kind_in After = a_group spec.After
kind_in Before = a_group spec.Before

-- the fault of the definitions; want of memory is none
abbrev pub fault_in : EditFault → Option meaning.EditFault
fault_in NoName = Some meaning.NoName
fault_in (Ambiguous count) = Some (meaning.Ambiguous count)
fault_in (WrongKind kind) = Some (meaning.WrongKind (kind_in kind))
fault_in (Limit limit) = Some (meaning.Past limit)
fault_in NoMemory = None

-- the change is refused for this fault, or for want of memory
abbrev pub IsRefusedChange : Chronology → meaning.Edit → Option meaning.EditFault → Type 0
IsRefusedChange before edit None = Unit {0}
IsRefusedChange before edit (Some fault) = result_of edit before.top ≡ Err fault

-- the outcome of a change: the changed statements, the curve's name being as before, or the fault
abbrev pub IsOutcome : Chronology → meaning.Edit → Result Chronology EditFault → Type 0
IsOutcome before edit (Ok after) = (result_of edit before.top ≡ Ok after.top) × (after.curve ≡ before.curve)
IsOutcome before edit (Err fault) = IsRefusedChange before edit (fault_in fault)
