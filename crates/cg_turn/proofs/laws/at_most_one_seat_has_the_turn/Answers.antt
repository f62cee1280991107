use Rattle.std.proofs.Common.{arith, ◌≤◌}
use Rattle.cg_turn.specs.Phases.{serving, ticketed}
use Rattle.cg_turn.proofs.PhaseLemmas.{serving_holds, serving_ticket, at_served}
use Rattle.cg_turn.proofs.RuleLemmas.{due_alone}
use Rattle.cg_turn.proofs.laws.at_most_one_seat_has_the_turn.Goals as goal

pub returns : goal.returns
returns g c s r i j v w ne a b h =
    let x = serving_holds v.phase in
    let y = serving_ticket v.phase in
    let serves : 1 ≤ serving v.phase = omega arith in
    let has : 1 ≤ ticketed v.phase = omega arith in
    due_alone s r i j v w ne a b has (at_served r.drawn r.served v v.phase ((r.each i v a).at) serves)
