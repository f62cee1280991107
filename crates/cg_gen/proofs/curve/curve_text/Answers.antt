use Rattle.std.proofs.Common.{◌≡◌, ◌-◌, ◌*◌, ◌++◌, ◌∙◌, ℕ, List, ap, codes, sym, arith}
use Rattle.std.specs.List.{flat_map, range_with_len}
use Rattle.cg_writing.specs.Text.{line}
use Rattle.cg_gen.specs.Draws.{after}
use Rattle.cg_gen.specs.Texts.{drawn_row}
use Rattle.cg_gen.proofs.DrawLemmas.{after-none, pair-more}
use Rattle.cg_gen.proofs.TextLemmas.{piece-more}
use Rattle.cg_gen.proofs.curve.curve_text.Goals as goal

pub loop-i-init : goal.loop-i-init
loop-i-init c = record {
  text = c.in_ok-extend_from_slice.ensures.items ∙ ap (λ (text : List ℕ). text ++ codes "# generated\n") c.new-text.ensures.items;
  draws = sym (after-none c.args.draws.now);
}

pub loop-i-preserved : goal.loop-i-preserved
loop-i-preserved c =
    let x = c.args.draws.now in
    let i = c.loop-i.i in
    record {
      text = piece-more (λ i. drawn_row (3000 - 10 * i) (after x (2 * i))) (line 0 (codes "# generated")) c.loop-i.text.items c.push_drawn.new.text.items (drawn_row (3000 - 10 * i) c.loop-i.draws) i
          c.loop-i.invariant.text c.in_ok-push_drawn.ensures.text (ap (drawn_row (3000 - 10 * i)) c.loop-i.invariant.draws);
      draws = pair-more x c.loop-i.draws c.push_drawn.new.draws i c.push_drawn.ensures.draws c.loop-i.invariant.draws;
    }

pub returns-clause-text : goal.returns-clause-text
returns-clause-text c =
    let x = c.args.draws.now in
    let end : c.loop-i.i ≡ 101 = omega arith in
    c.loop-i.invariant.text ∙ ap (λ (n : ℕ). line 0 (codes "# generated") ++ flat_map (λ i. drawn_row (3000 - 10 * i) (after x (2 * i))) (range_with_len 0 n)) end
