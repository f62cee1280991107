-- The parts of all cells, and what is made of them.
use Rattle.std.proofs.Common.{◌≡◌, ℕ, ◌+◌, ◌*◌, ◌^◌, ◌<◌, ◌≤◌, List, length, map, arith, ap, ◌∙◌}
use Rattle.std.proofs.lemmas.List.FromFn.{length-map-range_with_len}
use Rattle.cg_enc.specs.Enclosure.{Enclosure, HasLoss, IsExponent}
use Rattle.cg_table.specs.Losses.{greatest_loss, greatest_reach}
use Rattle.cg_table.proofs.LossLemmas.{HasLoss-more, greatest_loss-least}
use Rattle.cg_table.proofs.ReachLemmas.{IsExponent-more, greatest_reach-least}
use Rattle.cg_context.specs.Formulas.{root_context}
use Rattle.cg_marginal.specs.Finished.{finished}
use Rattle.cg_meaning.specs.Tree.{Tree, datings_of}
use Rattle.cg_meaning.specs.Scene.{Scene}
use Rattle.cg_like.specs.Likelihood.{weights_of}
use Rattle.cg_part.specs.Elements.{Element, element_of}
use Rattle.cg_recipe.specs.Recipe.{Rows, part_at, parts_of, recipe}
use Rattle.cg_recipe.specs.Bounds.{weight_loss, events_in, nodes_in, IsBounded}
use Rattle.cg_recipe.proofs.BoundsPath.{parts-bounded}
use Rattle.cg_up.specs.Pass.{IsReady, IsFit, pass_of, rows_of}
use Rattle.cg_up.specs.declared.pass.Pass as code
use Rattle.cg_up.proofs.RowLemmas.{All-cells}
use Rattle.cg_up.proofs.WeightLemmas.{rows-are}

-- What pairs can be made of.
pub record IsFinished (parts : List Enclosure) : Type 0 where
  pub some : 0 < length parts
  pub few : length parts ≤ 512
  pub loss : greatest_loss parts < 2 ^ 41
  pub reach : greatest_reach parts < 2 ^ 20

-- the loss of a tree of 100 events and 161 nodes
loss-bound : (events nodes : ℕ) → events ≤ 100 → nodes ≤ 161 → events * (9 * 2 ^ 30 + 16) + 8 * nodes * 2 ^ 13 ≤ 2 ^ 40
loss-bound events nodes few few' = omega arith

-- the parts of an event are so
pub parts-finished : (pass : code.Pass) (n event : ℕ) (e : Element) (parts : List Enclosure) → IsReady pass → IsFit n e → parts ≡ parts_of (pass_of pass) event e → IsFinished parts
parts-finished pass n event e parts ready fit is =
    rw is (record {
      some = omega (arith, each, ready.some);
      few = omega (arith, each, ready.few);
      loss = omega (
        arith,
        greatest_loss-least all (2 ^ 40) (All-cells (λ x. HasLoss x (2 ^ 40)) pass.cells at (λ cell less.
            HasLoss-more (at cell) (events_in e * weight_loss + 8 * nodes_in e * 2 ^ 13) (2 ^ 40) (loss-bound (events_in e) (nodes_in e) fit.events (omega (arith, fit.events, fit.groups))) (bounds cell less).lost)),
      );
      reach = omega (
        arith,
        greatest_reach-least all 1289 (All-cells (λ x. IsExponent (1289 * 2 ^ 31) x.exp) pass.cells at (λ cell less.
            IsExponent-more (at cell).exp ((8 * nodes_in e + 1) * 2 ^ 31) (1289 * 2 ^ 31) (omega (arith, fit.events, fit.groups)) (bounds cell less).near)),
      );
    })
  where
    at : ℕ → Enclosure
    at cell = part_at (pass_of pass) event cell e (root_context pass.cells)

    all : List Enclosure
    all = parts_of (pass_of pass) event e

    each : length all ≡ pass.cells
    each = length-map-range_with_len at 0 pass.cells

    bounds : (cell : ℕ) → cell < pass.cells → IsBounded (events_in e * weight_loss + 8 * nodes_in e * 2 ^ 13) (8 * nodes_in e + 1) (at cell)
    bounds cell less = parts-bounded (pass_of pass) event cell e ready.some ready.few ready.light fit.events fit.groups less

-- the pairs of these parts are the recipe's
pub recipe-is : (scene : Scene) (tree : Tree) (event cells : ℕ) (rows : List (List Enclosure)) (parts : List Enclosure) → cells ≡ scene.grid.cells → rows ≡ map (weights_of scene) (datings_of tree) →
    parts ≡ parts_of (record { cells = cells; rows = rows_of cells rows }) event (element_of 0 tree) → finished parts ≡ recipe tree scene event
unfolding recipe
recipe-is scene tree event cells rows parts same is all =
    ap finished
    (all ∙ ap (λ (n : ℕ). parts_of (record { cells = n; rows = rows_of n rows }) event (element_of 0 tree)) same
    ∙ ap (λ (r : Rows). parts_of (record { cells = scene.grid.cells; rows = r }) event (element_of 0 tree)) (rows-are scene tree rows is))
