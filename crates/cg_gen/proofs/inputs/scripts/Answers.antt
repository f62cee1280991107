use Rattle.std.proofs.Common.{◌*◌, ◌∙◌, ap, map, vec_items, sym}
use Rattle.cg_gen.specs.Draws.{after}
use Rattle.cg_gen.specs.Texts.{script_text}
use Rattle.cg_gen.proofs.DrawLemmas.{after-none, three-more}
use Rattle.cg_gen.proofs.TextLemmas.{text-more}
use Rattle.cg_gen.proofs.inputs.scripts.Goals as goal

pub loop-k-init : goal.loop-k-init
loop-k-init c = record {
  texts = ap (map vec_items) c.new-scripts.ensures.items;
  draws = sym (after-none c.args.draws.now);
}

pub loop-k-preserved : goal.loop-k-preserved
loop-k-preserved c =
    let x = c.args.draws.now in
    let k = c.loop-k.k in
    record {
      texts = text-more vec_items (λ k. script_text k (after x (3 * k))) c.loop-k.scripts.items c.push.new.self.items c.in_ok-script_text.field-0 k c.loop-k.invariant.texts c.in_ok-push.ensures.items
          (c.in_ok-script_text.ensures.text ∙ ap (script_text k) c.loop-k.invariant.draws);
      draws = three-more x c.loop-k.draws c.script_text.new.draws k c.in_ok-script_text.ensures.draws c.loop-k.invariant.draws;
    }
