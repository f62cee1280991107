use Rattle.std.proofs.Common.{◌≡◌, ◌∙◌, ℕ, List, ap, map, refl, vec_items}
use Rattle.cg_writing.specs.Text.{model_text}
use Rattle.cg_gen.specs.Draws.{after}
use Rattle.cg_gen.specs.Texts.{Texts, curve_text, model, scripts, texts}
use Rattle.cg_gen.proofs.DrawLemmas.{after-more}
use Rattle.cg_gen.proofs.inputs.generate.Goals as goal

-- texts behind one another
together : (number x y z : ℕ) (c m : List ℕ) (s : List (List ℕ)) → x ≡ number → y ≡ after x 202 → z ≡ after y 40 → c ≡ curve_text x → m ≡ model_text (model y) → s ≡ scripts z →
    ◌≡◌ {A = Texts} (record { curve = c; model = m; scripts = s }) (texts number)
together number x y z c m s start first second hc hm hs =
    let one : y ≡ after number 202 = first ∙ ap (λ n. after n 202) start in
    let two : z ≡ after number 242 = second ∙ ap (λ n. after n 40) one ∙ after-more number 202 40 in
    rw (hc, hm, hs, start, one, two) (refl {a = texts number})

pub returns : goal.returns
returns c = together c.args.number c.new.result c.curve_text.new.draws c.model_text.new.draws c.in_ok-curve.curve.items c.in_ok-model.model.items (map vec_items c.in_ok-scripts.scripts.items)
    c.new.ensures c.in_ok-curve.ensures.draws c.in_ok-model.ensures.draws c.in_ok-curve.ensures.text c.in_ok-model.ensures.text c.in_ok-scripts.ensures
