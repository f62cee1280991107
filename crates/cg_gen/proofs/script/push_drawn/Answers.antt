use Rattle.std.proofs.Common.{◌≡◌, ◌∙◌, ap}
use Rattle.cg_gen.specs.Draws.{after, draw}
use Rattle.cg_gen.proofs.DrawLemmas.{after-more, draw-more}
use Rattle.cg_gen.proofs.script.push_drawn.Goals as goal

pub returns-clause-text : goal.returns-clause-text
returns-clause-text c =
    let x = c.args.draws.now in
    let age : c.draw-age.result ≡ draw x 1 160 = c.draw-age.ensures.value ∙ ap (λ n. draw n 0 160) c.draw-number.ensures.number ∙ draw-more x 1 0 160 in
    let second : c.draw-age.new.self ≡ after x 2 = c.draw-age.ensures.number ∙ ap (λ n. after n 1) c.draw-number.ensures.number ∙ after-more x 1 1 in
    let error : c.draw-error.result ≡ draw x 2 31 = c.draw-error.ensures.value ∙ ap (λ n. draw n 0 31) second ∙ draw-more x 2 0 31 in
    rw (← c.draw-number.ensures.value, ← age, ← error) c.push_set.ensures

pub returns-clause-draws : goal.returns-clause-draws
returns-clause-draws c =
    let x = c.args.draws.now in
    let second : c.draw-age.new.self ≡ after x 2 = c.draw-age.ensures.number ∙ ap (λ n. after n 1) c.draw-number.ensures.number ∙ after-more x 1 1 in
    c.draw-error.ensures.number ∙ ap (λ n. after n 1) second ∙ after-more x 2 1
