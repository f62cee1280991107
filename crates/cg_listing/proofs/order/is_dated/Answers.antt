use Rattle.std.proofs.Common.{suc, ◌<◌, ◌≤◌, ◌&&◌, length, drop, sym, ap, ◌∙◌, add-one, arith}
use Rattle.cg_meaning.specs.Tree.{datings_of_all}
use Rattle.cg_meaning.specs.Scene.{is_dated}
use Rattle.cg_listing.proofs.OrderLemmas.{is_dated-drop, is_dated-past}
use Rattle.cg_listing.proofs.order.is_dated.Goals as goal

pub returns-then-not-admits : goal.returns-then-not-admits
returns-then-not-admits c =
    let datings = datings_of_all c.args.model.now.top in
    let event = c.loop-event.event in
    let within : event < length c.args.cells.now = omega arith in
    let later = is_dated c.args.grid.now (drop (suc event) datings) (drop (suc event) c.args.cells.now) in
    sym (c.loop-event.invariant ∙ is_dated-drop c.args.grid.now datings c.args.cells.now event _ c.dating.ensures.dating within
    ∙ ap (λ here. here && later) (sym c.admits.ensures ∙ c.if-not-admits.true))

pub loop-event-preserved : goal.loop-event-preserved
loop-event-preserved c =
    let datings = datings_of_all c.args.model.now.top in
    let event = c.loop-event.event in
    let within : event < length c.args.cells.now = omega arith in
    let later = is_dated c.args.grid.now (drop (suc event) datings) (drop (suc event) c.args.cells.now) in
    rw add-one
    (c.loop-event.invariant ∙ is_dated-drop c.args.grid.now datings c.args.cells.now event _ c.dating.ensures.dating within
    ∙ ap (λ here. here && later) (sym c.admits.ensures ∙ c.if-not-admits.false))

pub returns : goal.returns
returns c =
    let datings = datings_of_all c.args.model.now.top in
    let event = c.loop-event.event in
    let past : length c.args.cells.now ≤ event = omega arith in
    sym (c.loop-event.invariant ∙ is_dated-past c.args.grid.now (drop event datings) c.args.cells.now event past)
