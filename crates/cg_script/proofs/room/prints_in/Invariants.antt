use Rattle.std.proofs.Common.{◌≡◌, ◌≤◌, take, count_by}
use Rattle.cg_script.specs.Command.{command_in}
use Rattle.cg_script.specs.Script.{is_print}
use Rattle.cg_script.proofs.room.prints_in.Given as goal

abbrev pub invariant-loop-line : goal.invariant-loop-line
invariant-loop-line l =
    (l.prints ≡ count_by (λ line. is_print (command_in line.1)) (take l.line-index l.lines)) × (l.prints ≤ l.line-index)
