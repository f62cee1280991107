-- The making of tables and marginals by passes over a node's datings.
use Rattle.std.proofs.Common.{◌≡◌, ℕ, ◌+◌, ◌*◌, ◌^◌, ◌<◌, ◌≤◌, true, false, List, [], length, ap, ap₂, ◌∙◌, arith, ◌&&◌}
use Rattle.std.specs.Prelude.{slice_get}
use Rattle.std.proofs.lemmas.Bool.{lt-ltb, le-leb}
use Rattle.std.proofs.lemmas.List.FromFn.{length-map-range_with_len}
use Rattle.cg_enc.specs.Enclosure.{Enclosure, HasLoss, IsExponent}
use Rattle.cg_table.specs.Table.{Table}
use Rattle.cg_table.specs.Formulas.{identity_of}
use Rattle.cg_table.proofs.LossLemmas.{HasLoss-more, greatest_loss-least}
use Rattle.cg_table.proofs.ReachLemmas.{IsExponent-more, greatest_reach-least}
use Rattle.cg_context.specs.Formulas.{root_context, row_by}
use Rattle.cg_marginal.specs.Finished.{finished}
use Rattle.cg_meaning.specs.Tree as tree
use Rattle.cg_meaning.specs.Tree.{Tree, Trees, Dating, Phase, Sequence, After, Before, count_all}
use Rattle.cg_meaning.specs.Scene.{Scene}
use Rattle.cg_model.specs.Event.{is_event}
use Rattle.cg_model.specs.Limits.{IsWithinLimits}
use Rattle.cg_part.specs.Elements.{Element, Elements, Group, element_of, members_of, has_among}
use Rattle.cg_part.proofs.HasEvents.{has-events}
use Rattle.cg_recipe.specs.Recipe as recipe
use Rattle.cg_recipe.specs.Recipe.{Pass, part_at, part_beside, parts_of}
use Rattle.cg_recipe.specs.Bounds.{weight_loss, events_in, nodes_in, IsBounded}
use Rattle.cg_recipe.proofs.BoundsContexts.{root-bounded}
use Rattle.cg_recipe.proofs.BoundsPath.{parts-bounded}
use Rattle.cg_recipe.proofs.CountLemmas.{counted}
use Rattle.cg_code.specs.Content.{IsNode}
use Rattle.cg_message.specs.Parts.{MembersAreGot}
use Rattle.cg_message.specs.Pass.{IsReady, IsSmall, AreSmall, IsFinished, HasMembers, HasRoom, nodes_among, pass_of, datings_in, scene_in, shelf_in, rows_by}
use Rattle.cg_message.specs.Placed.{placed_of}
use Rattle.cg_message.specs.Value.{pass_in}
use Rattle.cg_message.specs.declared.pass.Pass as code
use Rattle.cg_message.proofs.HeldLemmas.{Begins, IsGiven, given-members, members-held, items-held}
use Rattle.cg_message.proofs.RoomLemmas.{bounded_room}
use Rattle.cg_message.proofs.RowLemmas.{All-cells}

-- the datings of a pass are those that it begins with
pub begins : (pass : code.Pass) (datings : List Dating) → datings_in pass ≡ datings → Begins pass 0 datings
begins pass datings is i d here =
    let first : 0 + i ≡ i = omega arith in
    ap (λ (ds : List Dating). slice_get ds (0 + i)) is ∙ ap (slice_get datings) first ∙ here

-- the recipe's pass over a node
pub pass-is : (pass : code.Pass) (scene : Scene) (t : Tree) → scene_in pass ≡ scene → datings_in pass ≡ tree.datings_of t → pass_of pass ≡ pass_in scene t
pass-is pass scene t scene_is datings_are = ap₂ (λ (s : Scene) (ds : List Dating). record { cells = s.grid.cells; rows = rows_by s ds }) scene_is datings_are

-- a node is within the limits of its model
pub node-small : (t : Tree) → IsNode t → IsSmall (element_of 0 t)
node-small t node =
    let size = counted 0 t in
    record { events = omega (arith, size.events, node.limits.events); groups = omega (arith, size.groups, node.limits.groups) }

-- what the table of a group is made of is at hand
pub node-members : (pass : code.Pass) (place : ℕ) (t : Tree) → is_event t ≡ false → IsGiven pass 0 t → MembersAreGot (shelf_in pass) place t → HasMembers pass (placed_of 0 place t)
node-members pass place (tree.Leaf name dating) group given got = absurd (cc)
node-members pass place (tree.Boundary name) group given got = absurd (cc)
node-members pass place (tree.Group Sequence name ts) group given got = items-held pass 0 (place + 1) ts (given-members pass 0 Sequence name ts given) got
node-members pass place (tree.Group Phase name ts) group given got = members-held pass 0 (place + 1) ts (given-members pass 0 Phase name ts given) got
node-members pass place (tree.Group After name ts) group given got = members-held pass 0 (place + 1) ts (given-members pass 0 After name ts given) got
node-members pass place (tree.Group Before name ts) group given got = members-held pass 0 (place + 1) ts (given-members pass 0 Before name ts given) got

-- the root of a model, and its members
pub root-small : (ts : Trees) → IsWithinLimits ts → IsSmall (Group Phase (members_of 0 ts))
root-small ts limits =
    let size = counted 0 (tree.Group Phase [] ts) in
    record { events = omega (arith, size.events, limits.events); groups = omega (arith, size.groups, limits.groups) }

pub members-small : (ts : Trees) → IsWithinLimits ts → AreSmall (members_of 0 ts)
members-small ts limits = let root = root-small ts limits in record { events = root.events; groups = omega (arith, root.groups) }

-- they have each event
pub members-have : (event : ℕ) (ts : Trees) → event < count_all ts → has_among event (members_of 0 ts) ≡ true
members-have event ts inside =
    has-events 0 (tree.Group Phase [] ts) event ∙ ap₂ (λ a b. a && b) (le-leb 0 event (omega arith)) (lt-ltb event (0 + count_all ts) (omega (arith, inside)))

-- the root's context has room for them
pub root-room : (cells : ℕ) (es : Elements) (x : Table) → cells ≤ 512 → AreSmall es → x ≡ root_context cells → HasRoom cells (8 * nodes_among es + 3) x
root-room cells es x few small is = rw is (bounded_room (omega (arith, small.events, small.groups)) (root-bounded cells few))

-- the sums are those of the recipe
pub sums-are : (pass other : Pass) (event : ℕ) (es fs : Elements) (x : Table) → pass ≡ other → es ≡ fs → x ≡ root_context pass.cells →
    row_by pass.cells (λ cell. part_beside pass event cell (identity_of pass.cells) es x) ≡ parts_of other event (Group Phase fs)
sums-are pass other event es fs x same alike is =
    ap (λ (y : Table). row_by pass.cells (λ cell. part_beside pass event cell (identity_of pass.cells) es y)) is
    ∙ ap₂ (λ (p : Pass) (us : Elements). parts_of p event (Group Phase us)) same alike

-- the loss of a tree of 100 events and 161 nodes
loss-bound : (events nodes : ℕ) → events ≤ 100 → nodes ≤ 161 → events * (9 * 2 ^ 30 + 16) + 8 * nodes * 2 ^ 13 ≤ 2 ^ 40
loss-bound events nodes few few' = omega arith

-- pairs can be made of them
pub sums-finished : (pass : code.Pass) (event : ℕ) (e : Element) (sums : List Enclosure) → IsReady pass → IsSmall e → sums ≡ parts_of (pass_of pass) event e → IsFinished sums
sums-finished pass event e sums ready fit is =
    rw is (record {
      some = omega (arith, each, ready.some);
      few = omega (arith, each, ready.few);
      loss = omega (
        arith,
        greatest_loss-least all (2 ^ 40) (All-cells (λ x. HasLoss x (2 ^ 40)) pass.grid.cells at (λ cell less.
            HasLoss-more (at cell) (events_in e * weight_loss + 8 * nodes_in e * 2 ^ 13) (2 ^ 40) (loss-bound (events_in e) (nodes_in e) fit.events (omega (arith, fit.events, fit.groups))) (bounds cell less).lost)),
      );
      reach = omega (
        arith,
        greatest_reach-least all 1289 (All-cells (λ x. IsExponent (1289 * 2 ^ 31) x.exp) pass.grid.cells at (λ cell less.
            IsExponent-more (at cell).exp ((8 * nodes_in e + 1) * 2 ^ 31) (1289 * 2 ^ 31) (omega (arith, fit.events, fit.groups)) (bounds cell less).near)),
      );
    })
  where
    at : ℕ → Enclosure
    at cell = part_at (pass_of pass) event cell e (root_context pass.grid.cells)

    all : List Enclosure
    all = parts_of (pass_of pass) event e

    each : length all ≡ pass.grid.cells
    each = length-map-range_with_len at 0 pass.grid.cells

    bounds : (cell : ℕ) → cell < pass.grid.cells → IsBounded (events_in e * weight_loss + 8 * nodes_in e * 2 ^ 13) (8 * nodes_in e + 1) (at cell)
    bounds cell less = parts-bounded (pass_of pass) event cell e ready.some ready.few ready.light fit.events fit.groups less

-- the pairs of the sums are the recipe's
pub recipe-is : (scene : Scene) (t : Tree) (event : ℕ) (sums : List Enclosure) → sums ≡ parts_of (pass_in scene t) event (element_of 0 t) → finished sums ≡ recipe.recipe t scene event
unfolding recipe.recipe
recipe-is scene t event sums is = ap finished is
