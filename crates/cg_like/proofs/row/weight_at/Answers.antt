use Rattle.std.proofs.Common.{cond, option_map, sym, ap, ◌∙◌, Bool}
use Rattle.cg_meaning.specs.Scene.{scene_of}
use Rattle.cg_enc.specs.Enclosure.{exact_zero}
use Rattle.cg_enc.specs.Rounding.{of_whole}
use Rattle.cg_model.specs.Dating.{dating_of}
use Rattle.cg_like.specs.Cover.{rows_of}
use Rattle.cg_like.specs.Distance.{distance_in}
use Rattle.cg_like.proofs.MeasuredLemmas.{on_known_curve, measured_at}
use Rattle.cg_like.proofs.RowLemmas.{unit_weight}
use Rattle.cg_like.proofs.row.weight_at.Goals as goal

pub likelihood-requires : goal.likelihood-requires
likelihood-requires c =
    let curve = option_map (λ c. c.now) c.args.curve in
    let dating = dating_of c.args.dating.now in
    measured_at (scene_of c.args.grid.now (rows_of curve)) dating c.args.cell (distance_in c.in-Some.distance)
    (on_known_curve curve dating c.in-Some.ensures.known) c.requires.ranged c.requires.covered c.requires.cell c.in-Some.ensures.value

pub returns-then-admits-clause-value : goal.returns-then-admits-clause-value
returns-then-admits-clause-value c =
    let curve = option_map (λ c. c.now) c.args.curve in
    let dating = dating_of c.args.dating.now in
    let unit = unit_weight (scene_of c.args.grid.now (rows_of curve)) dating c.args.cell
    (on_known_curve curve dating c.distance_at.ensures.known) c.requires.ranged c.requires.covered c.requires.cell
    (sym (ap (option_map distance_in) c.in_default.is) ∙ c.distance_at.ensures.value) in
    c.of_whole.ensures.value ∙ sym (unit ∙ ap (λ (b : Bool). cond b (of_whole 1) exact_zero) (sym c.admits.ensures ∙ c.if-admits.true))
