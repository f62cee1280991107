use Rattle.std.proofs.Common.{◌<◌, length, map, sym, ap, subst, ◌∙◌, arith}
use Rattle.std.proofs.Math.ListN.{get_or-map}
use Rattle.cg_sharing.specs.Command.{Line}
use Rattle.cg_sharing.specs.Course.{IsFit}
use Rattle.cg_script.specs.Command.{line_in}
use Rattle.cg_script.proofs.script.Script.get.Goals as goal

pub returns-clause-fit : goal.returns-clause-fit
returns-clause-fit c =
    let items = c.self.inside.lines.items in
    let place = c.args.place in
    let line = c.index-line.result.now in
    let within : place < length (map line_in items) = omega (arith, c.requires, ap length c.self.view_is) in
    subst (λ (l : Line). IsFit l.command) (get_or-map line_in items place line ∙ ap line_in (sym c.index-line.ensures))
    (c.self.invariant.fit place (line_in line) within)
