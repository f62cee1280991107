use Rattle.std.proofs.Common.{◌≡◌, ◌∙◌, ap}
use Rattle.cg_gen.specs.Draws.{after, draw}
use Rattle.cg_gen.proofs.DrawLemmas.{after-more, draw-more}
use Rattle.cg_gen.proofs.curve.push_drawn.Goals as goal

pub returns-clause-text : goal.returns-clause-text
returns-clause-text c =
    let x = c.args.draws.now in
    let sigma : c.draw-sigma.result ≡ draw x 1 11 = c.draw-sigma.ensures.value ∙ ap (λ n. draw n 0 11) c.draw.ensures.number ∙ draw-more x 1 0 11 in
    rw (← c.draw.ensures.value, ← sigma) c.push_row.ensures

pub returns-clause-draws : goal.returns-clause-draws
returns-clause-draws c = c.draw-sigma.ensures.number ∙ ap (λ n. after n 1) c.draw.ensures.number ∙ after-more c.args.draws.now 1 1
