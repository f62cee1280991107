use Rattle.std.proofs.Common.{◌*◌, ◌∙◌, ap, arith}
use Rattle.std.proofs.lemmas.Result.{IfOk-weaker}
use Rattle.cg_table.specs.Table.{Table}
use Rattle.cg_table.specs.Formulas.{identity_of}
use Rattle.cg_context.specs.Formulas.{into_phase_of}
use Rattle.cg_recipe.specs.Recipe.{side_by_side}
use Rattle.cg_message.specs.Element.{all_in}
use Rattle.cg_message.specs.Pass.{nodes_among, pass_of}
use Rattle.cg_message.proofs.ReachLemmas.{earlier_room, others_beside}
use Rattle.cg_message.proofs.RoomLemmas.{ready_pass}
use Rattle.cg_message.proofs.down.beside_others.Goals as goal

pub side_by_side-requires-2-clause-room : goal.side_by_side-requires-2-clause-room
side_by_side-requires-2-clause-room g c =
    earlier_room (pass_of c.args.pass.now) (8 * nodes_among (all_in c.args.later.now)) (all_in c.args.earlier.now) c.in_ok-nothing.nothing _ (ready_pass c.args.pass.now c.requires.ready)
    c.requires.earlier (omega (arith, c.requires.later.events, c.requires.later.groups)) (c.in_ok-nothing.ensures.value ∙ ap identity_of c.cells.ensures) c.in_ok-before.ensures.value

pub into_phase-requires-clause-cells : goal.into_phase-requires-clause-cells
into_phase-requires-clause-cells g c =
    let pass = pass_of c.args.pass.now in
    let nothing = c.in_ok-nothing.ensures.value ∙ ap identity_of c.cells.ensures in
    let before = c.in_ok-before.ensures.value ∙ ap (λ (t : Table). side_by_side pass t (all_in c.args.earlier.now)) nothing in
    (others_beside pass (all_in c.args.earlier.now) (all_in c.args.later.now) c.args.x c.in_ok-others.others (ready_pass c.args.pass.now c.requires.ready) c.requires.earlier c.requires.later c.requires.room
    (c.in_ok-others.ensures.value ∙ ap (λ (t : Table). side_by_side pass t (all_in c.args.later.now)) before)).cells

pub into_phase-requires-clause-reach : goal.into_phase-requires-clause-reach
into_phase-requires-clause-reach g c =
    let pass = pass_of c.args.pass.now in
    let nothing = c.in_ok-nothing.ensures.value ∙ ap identity_of c.cells.ensures in
    let before = c.in_ok-before.ensures.value ∙ ap (λ (t : Table). side_by_side pass t (all_in c.args.earlier.now)) nothing in
    (others_beside pass (all_in c.args.earlier.now) (all_in c.args.later.now) c.args.x c.in_ok-others.others (ready_pass c.args.pass.now c.requires.ready) c.requires.earlier c.requires.later c.requires.room
    (c.in_ok-others.ensures.value ∙ ap (λ (t : Table). side_by_side pass t (all_in c.args.later.now)) before)).near

pub returns-clause-value : goal.returns-clause-value
returns-clause-value g c =
    let pass = pass_of c.args.pass.now in
    let nothing = c.in_ok-nothing.ensures.value ∙ ap identity_of c.cells.ensures in
    let before = c.in_ok-before.ensures.value ∙ ap (λ (t : Table). side_by_side pass t (all_in c.args.earlier.now)) nothing in
    let others = c.in_ok-others.ensures.value ∙ ap (λ (t : Table). side_by_side pass t (all_in c.args.later.now)) before in
    IfOk-weaker c.into_phase.result _ _ (λ r is. is ∙ ap (into_phase_of c.args.x) others) c.into_phase.ensures.value
