-- The recipe is right: its pairs hold for the event, they are narrow, and there are none just where no dating is allowed.
use Rattle.std.proofs.Common.{◌≡◌, ℕ, ◌<◌, ◌≤◌, Bool, true, false, cond, inl, inr, List, length, get_or, map, refl, sym, ap, ◌∙◌, subst, arith, zero, suc, [], ◌∷◌, ◌+◌, ◌-◌, ◌*◌, ◌^◌, zero-add, Option}
use Rattle.std.specs.Prelude.{IsFalse, IfSome}
use Rattle.std.specs.List.{All}
use Rattle.std.proofs.lemmas.Bool.{cases_eq}
use Rattle.cg_enc.specs.Enclosure.{Enclosure, exact_zero, IsEnclosure, IsZero, HasLoss, Encloses}
use Rattle.std.proofs.lemmas.Nat.{pow_pos}
use Rattle.std.proofs.Math.Nat.{mul-pos}
use borrow.Author.Differences.{up, down}
use Rattle.cg_enc.proofs.Products.{only_zero}
use Rattle.cg_table.specs.Sums.{total_of}
use Rattle.cg_marginal.specs.Finished.{finished, whole_of, ppm_pair, ArePartsOf}
use Rattle.cg_marginal.specs.Pairs.{ArePairs}
use Rattle.cg_marginal.proofs.FinishedLemmas.{finished-impossible, finished-pairs, IsTold, ArePairs-told, ArePartsOf-told}
use Rattle.cg_marginal.proofs.WholeLemmas.{whole-IsZero}
use Rattle.cg_meaning.specs.Tree.{Tree, Chronology, root_of, count, datings_of_all}
use Rattle.cg_meaning.specs.Scene.{Scene}
use Rattle.cg_meaning.specs.Sums.{sum_below, sum_over}
use Rattle.cg_meaning.specs.Weights.{Weighting, AreAdmitted}
use Rattle.cg_meaning.specs.Posterior.{allows, weight_of, total, total_at, IsImpossible, AreHeld, IsMarginal}
use Rattle.cg_meaning.proofs.Sums.{sum_below-zero, AreCells}
use Rattle.cg_meaning.proofs.Marginals.{total_by_cell, sum_below-term, sum_over-term, AreCells-from_All, possible}
use Rattle.cg_model.specs.Limits.{IsModel}
use Rattle.cg_like.specs.Likelihood.{WeightsEnclose}
use Rattle.std.proofs.lemmas.List.FromFn.{get_or-map-range_with_len, length-map-range_with_len}
use Rattle.cg_table.proofs.LossLemmas.{HasLoss-more, greatest_loss-least}
use Rattle.cg_table.specs.Table.{EnclosesRow}
use Rattle.cg_context.specs.Formulas.{root_context}
use Rattle.cg_context.proofs.TotalLemmas.{total-below}
use Rattle.cg_part.specs.Elements.{Element, element_of}
use Rattle.cg_recipe.specs.Recipe.{Pass, rows_in, part_at, parts_of, recipe}
use Rattle.cg_recipe.specs.Enclosed.{pass_of}
use Rattle.cg_recipe.specs.Bounds.{weight_loss, events_in, groups_in, nodes_in, IsBounded}
use Rattle.cg_recipe.specs.Laws.{IsRight, RecipesAreRight}
use Rattle.cg_recipe.proofs.BoundsPath.{parts-bounded}
use Rattle.cg_recipe.proofs.CountLemmas.{counted}
use Rattle.cg_recipe.proofs.PathLemmas.{part-totals}
use Rattle.cg_recipe.proofs.RowLemmas.{IsKnown, rows-light, multiplier, rows-weighed, some_weighting, some-admitted, weight_of-some}

-- what encloses 0 and loses little is zero
near-zero : (a : Enclosure) (n d : ℕ) → HasLoss a (2 ^ 40) → 0 < d → Encloses a n d → n ≡ 0 → IsZero a
near-zero a n d loss some h none =
    elim (cases_eq a.hi 0) [
      | inl z ↦ z
      | inr full ↦
          let firm : 1 ≤ a.lo = apart a.lo a.hi (omega arith) loss in
          absurd (omega (arith, h.below, ap (λ (x : ℕ). x * 2 ^ down a.exp) none, mul-pos (mul-pos firm (pow_pos (up a.exp))) some))
    ]
  where
    apart : (lo hi : ℕ) → 0 < hi → (hi - lo) * 2 ^ 62 ≤ 2 ^ 40 * hi → 1 ≤ lo
    apart lo hi some loss = omega arith

-- an element is read with any default
same_default : (xs : List Enclosure) (i : ℕ) (d e : Enclosure) → i < length xs → get_or xs i d ≡ get_or xs i e
same_default [] i d e h = absurd (omega arith)
same_default (x ∷ xs) zero d e h = refl
same_default (x ∷ xs) (suc i) d e h = same_default xs i d e (omega arith)

-- a weight that does not count
not_allowed : (b : Bool) (x : ℕ) → cond b x 0 ≤ 0 → 0 < x → IsFalse b
not_allowed true x none some = absurd (omega arith)
not_allowed false x none some = refl

-- where the sum is 0 under a weighting that gives each dating on the grid a weight, none is allowed
none_allowed : (tree : Tree) (scene : Scene) (w : Weighting) →
    ((cells : List ℕ) → length cells ≡ count tree → AreCells scene.grid.cells cells → 0 < weight_of tree scene w cells) →
    total tree scene w ≡ 0 → IsImpossible tree scene
none_allowed tree scene w some none cells placed =
    let all : AreCells scene.grid.cells cells = AreCells-from_All scene.grid.cells cells placed.within in
    let f : List ℕ → ℕ = λ cs. cond (allows tree scene cs) (weight_of tree scene w cs) 0 in
    let small : f cells ≤ 0 = omega (arith, sum_over-term scene.grid.cells f cells all, ap (λ n. sum_over scene.grid.cells n f) placed.each, none) in
    not_allowed (allows tree scene cells) (weight_of tree scene w cells) small (some cells placed.each all)

-- The row encloses the sums with the event at each cell over a divisor.
pub record IsEnclosedRow (tree : Tree) (scene : Scene) (event : ℕ) (row : List Enclosure) (w : Weighting) : Type 0 where
  pub d : ℕ
  pub some : 0 < d
  pub encloses : EnclosesRow row (total_at tree scene w event) d

-- What is known of the row of an event whose marginal is asked for.
pub record IsGood (tree : Tree) (scene : Scene) (event : ℕ) (row : List Enclosure) : Type 0 where
  pub known : IsKnown tree scene
  pub few : scene.grid.cells ≤ 512
  pub inside : event < count tree
  pub each : length row ≡ scene.grid.cells
  pub valid : All IsEnclosure row
  pub loss : All (λ e. HasLoss e (2 ^ 40)) row
  pub enclosed : (w : Weighting) → AreAdmitted tree scene w → IsEnclosedRow tree scene event row w

-- the sums over the cells of the event are all
total-is : (tree : Tree) (scene : Scene) (event : ℕ) (w : Weighting) → event < count tree →
    total_of (total_at tree scene w event) 0 scene.grid.cells ≡ total tree scene w
total-is tree scene event w inside = total-below (total_at tree scene w event) scene.grid.cells ∙ sym (total_by_cell tree scene w event inside)

-- where no dating counts all parts are zero
all-zero : (tree : Tree) (scene : Scene) (event : ℕ) (row : List Enclosure) (w : Weighting) → IsGood tree scene event row → AreAdmitted tree scene w →
    total tree scene w ≡ 0 → All IsZero row
all-zero tree scene event row w r admitted none cell e h =
    let over = r.enclosed w admitted in
    let all : sum_below scene.grid.cells (total_at tree scene w event) ≡ 0 = sym (total_by_cell tree scene w event r.inside) ∙ none in
    let inside : cell < scene.grid.cells = omega (arith, r.each) in
    near-zero (get_or row cell e) (total_at tree scene w event cell) over.d (r.loss cell e h) over.some
    (subst (λ (x : Enclosure). Encloses x (total_at tree scene w event cell) over.d) (same_default row cell exact_zero e h) (over.encloses.at cell h))
    (omega (arith, sum_below-term scene.grid.cells cell (total_at tree scene w event) inside, all))

-- where all parts are zero no dating counts
none-counts : (tree : Tree) (scene : Scene) (event : ℕ) (row : List Enclosure) (w : Weighting) → IsGood tree scene event row → AreAdmitted tree scene w →
    All IsZero row → total tree scene w ≡ 0
none-counts tree scene event row w r admitted zeros =
    let over = r.enclosed w admitted in
    total_by_cell tree scene w event r.inside
    ∙ sum_below-zero scene.grid.cells (total_at tree scene w event)
    (λ cell h.
    let inside : cell < length row = omega (arith, r.each) in
    only_zero (get_or row cell exact_zero) (total_at tree scene w event cell) over.d (zeros cell exact_zero inside) (over.encloses.at cell inside))

-- what the parts are of the whole, under each admitted weighting
told-parts : (tree : Tree) (scene : Scene) (event : ℕ) (row : List Enclosure) (w : Weighting) → IsGood tree scene event row →
    AreAdmitted tree scene w → IsTold row →
    ArePartsOf (total_at tree scene w event) scene.grid.cells (map (ppm_pair (whole_of row)) row)
told-parts tree scene event row w r admitted told =
    let over = r.enclosed w admitted in
    subst (λ (n : ℕ). ArePartsOf (total_at tree scene w event) n (map (ppm_pair (whole_of row)) row)) r.each
    (ArePartsOf-told row (total_at tree scene w event) over.d told over.some over.encloses)

-- so the pairs hold
held : (tree : Tree) (scene : Scene) (event : ℕ) (row : List Enclosure) (w : Weighting) → IsGood tree scene event row → AreAdmitted tree scene w →
    0 < total tree scene w →
    IsTold row → AreHeld tree scene event (map (ppm_pair (whole_of row)) row)
held tree scene event row w r admitted some told =
    let dating = possible tree scene w some in
    record {
      dating = dating.0;
      possible = dating.1;
      each = (told-parts tree scene event row w r admitted told).each;
      hold = λ cell l. record {
        lower = λ v for_v. rw (← total-is tree scene event v r.inside) ((told-parts tree scene event row v r for_v told).lower cell l);
        upper = λ v for_v. rw (← total-is tree scene event v r.inside) ((told-parts tree scene event row v r for_v told).upper cell l);
      };
    }

-- What is made of the parts.
pub record IsMadeRight (tree : Tree) (scene : Scene) (event : ℕ) (answer : Option (List (ℕ × ℕ))) : Type 0 where
  pub holds : IsMarginal tree scene event answer
  pub narrow : IfSome answer ArePairs

-- where some dating counts
some-right : (tree : Tree) (scene : Scene) (event : ℕ) (row : List Enclosure) (w : Weighting) → IsGood tree scene event row →
    AreAdmitted tree scene w → 0 < total tree scene w →
    IsMadeRight tree scene event (finished row)
some-right tree scene event row w r admitted some =
    elim (cases_eq (whole_of row).hi 0) [
      | inl z ↦ absurd (omega (arith, some, none-counts tree scene event row w r admitted ((whole-IsZero row r.valid).0 z)))
      | inr n ↦
          let full : 0 < (whole_of row).hi = omega arith in
          let told : IsTold row = record {
            valid = r.valid;
            few = omega (arith, r.each, r.few);
            loss = omega (arith, greatest_loss-least row (2 ^ 40) r.loss);
            some = full;
          } in
          subst (λ (answer : Option (List (ℕ × ℕ))). IsMadeRight tree scene event answer) (sym (finished-pairs row r.valid full)) (record {
            holds = held tree scene event row w r admitted some told;
            narrow = ArePairs-told row told;
          })
    ]

-- where none does
none-right : (tree : Tree) (scene : Scene) (event : ℕ) (row : List Enclosure) (w : Weighting) → IsGood tree scene event row →
    AreAdmitted tree scene w → total tree scene w ≡ 0 →
    IsMadeRight tree scene event (finished row)
none-right tree scene event row w r admitted none =
    subst (λ (answer : Option (List (ℕ × ℕ))). IsMadeRight tree scene event answer)
    (sym (finished-impossible row (all-zero tree scene event row w r admitted none))) (record {
      holds = none_allowed tree scene w (λ cells l all. weight_of-some tree scene w cells r.known admitted l all) none;
      narrow = tt;
    })

-- Whatever gives the row.
pub made-right : (tree : Tree) (scene : Scene) (event : ℕ) (row : List Enclosure) → IsGood tree scene event row → IsMadeRight tree scene event (finished row)
made-right tree scene event row r =
    let w = some_weighting tree scene r.known in
    let admitted = some-admitted tree scene r.known in
    elim (cases_eq (total tree scene w) 0) [
      | inl none ↦ none-right tree scene event row w r admitted none
      | inr n ↦ some-right tree scene event row w r admitted (omega arith)
    ]

-- the part of a cell, in the list of all
part-here : (pass : Pass) (event cell : ℕ) (e : Element) (d : Enclosure) → cell < pass.cells →
    get_or (parts_of pass event e) cell d ≡ part_at pass event cell e (root_context pass.cells)
part-here pass event cell e d h = get_or-map-range_with_len (λ c. part_at pass event c e (root_context pass.cells)) 0 pass.cells cell cell d h (zero-add cell)

-- one for each cell
length-parts_of : (pass : Pass) (event : ℕ) (e : Element) → length (parts_of pass event e) ≡ pass.cells
length-parts_of pass event e = length-map-range_with_len (λ c. part_at pass event c e (root_context pass.cells)) 0 pass.cells

-- what holds of the part of each cell holds of all
each-part : (P : Enclosure → Type 0) (pass : Pass) (event : ℕ) (e : Element) →
    ((cell : ℕ) → cell < pass.cells → P (part_at pass event cell e (root_context pass.cells))) → All P (parts_of pass event e)
each-part P pass event e each k d h =
    let inside : k < pass.cells = omega (arith, length-parts_of pass event e) in
    subst P (sym (part-here pass event k e d inside)) (each k inside)

-- the bound of a tree of 100 events and 161 nodes
loss-bound : (events groups : ℕ) → events ≤ 100 → groups ≤ 61 → events * (9 * 2 ^ 30 + 16) + 8 * (events + groups) * 2 ^ 13 ≤ 2 ^ 40
loss-bound events groups few few' = omega arith

-- The recipe is right where its rows enclose their weights.
pub right-on : (chronology : Chronology) (scene : Scene) (event : ℕ) → 1 ≤ scene.grid.cells → scene.grid.cells ≤ 512 → IsModel chronology.top →
    IsKnown (root_of chronology) scene →
    event < count (root_of chronology) → IsRight (root_of chronology) scene event
unfolding recipe
right-on chronology scene event some few model known h =
    let tree = root_of chronology in
    let rows = rows_in scene tree in
    let cells = scene.grid.cells in
    let pass = pass_of scene rows in
    let e = element_of 0 tree in
    let size = counted 0 tree in
    let events : events_in e ≤ 100 = omega (arith, size.events, model.limits.events) in
    let groups : groups_in e ≤ 61 = omega (arith, size.groups, model.limits.groups) in
    let bounds : (cell : ℕ) → cell < cells → IsBounded (events_in e * weight_loss + 8 * nodes_in e * 2 ^ 13) (8 * nodes_in e + 1)
    (part_at pass event cell e (root_context cells)) =
    λ cell less. parts-bounded pass event cell e some few (rows-light tree scene known) events groups less in
    let made = made-right tree scene event (parts_of pass event e) (record {
      known = known;
      few = few;
      inside = h;
      each = length-parts_of pass event e;
      valid = each-part IsEnclosure pass event e (λ cell less. (bounds cell less).valid);
      loss = each-part (λ x. HasLoss x (2 ^ 40)) pass event e
          (λ cell less. HasLoss-more (part_at pass event cell e (root_context cells)) (events_in e * weight_loss + 8 * nodes_in e * 2 ^ 13) (2 ^ 40)
          (loss-bound (events_in e) (groups_in e) events groups) (bounds cell less).lost);
      enclosed = λ w admitted.
          let sums = part-totals scene w rows (multiplier tree scene w known admitted) tree event few (rows-weighed tree scene w known admitted) h in
          record {
            d = sums.divisor;
            some = sums.some;
            encloses = record {
              at = λ cell less.
                  let inside : cell < cells = omega (arith, length-parts_of pass event e) in
                  subst (λ (x : Enclosure). Encloses x (total_at tree scene w event cell) sums.divisor)
                  (sym (part-here pass event cell e exact_zero inside)) (sums.each cell inside);
            };
          };
    }) in
    record { holds = made.holds; narrow = made.narrow }

-- They do on every grid and curve on which all datings can be weighed.
pub right-by : WeightsEnclose → RecipesAreRight
right-by weigh chronology scene event model is_scene covered h =
    right-on chronology scene event is_scene.grid.some is_scene.grid.few model
    (record {
      weighable = λ i d inside. weigh scene (get_or (datings_of_all chronology.top) i d) is_scene (model.ranged i d inside) (covered i d inside);
      ranged = model.ranged;
      covered = covered;
    }) h
