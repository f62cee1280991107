-- What a pass takes from its messages.
use Rattle.std.proofs.Common.{◌≡◌, ℕ, ◌<◌, List, length, sym, subst, ap, ◌∙◌, arith, Some, None, refl, Option}
use Rattle.std.specs.Prelude.{slice_get, slice_index_or}
use Rattle.std.proofs.lemmas.List.{get_or-map, length-map}
use Rattle.std.proofs.lemmas.Option.{slice_get_within, get_or_from_slice_get}
use Rattle.cg_enc.specs.Enclosure.{Enclosure}
use Rattle.cg_meaning.specs.Tree.{Tree, Dating, Free, Exact, Normal, Carbon}
use Rattle.cg_meaning.specs.Scene.{Scene}
use Rattle.cg_model.specs.Limits.{IsInRange}
use Rattle.cg_model.specs.declared.group.GroupKind.{GroupKind}
use Rattle.cg_model.proofs.PlaceLemmas.{All-slice_get}
use Rattle.cg_like.specs.Likelihood.{weights_of}
use Rattle.cg_part.specs.Elements.{element_of}
use Rattle.cg_recipe.specs.Recipe.{table_of}
use Rattle.cg_code.specs.Content as content
use Rattle.cg_code.specs.Content.{IsNode}
use Rattle.cg_message.specs.Parts.{Shelf, StandsAt, IsRowGot}
use Rattle.cg_message.specs.Placed.{bare}
use Rattle.cg_message.specs.Element.{placed_in, element_in}
use Rattle.cg_message.specs.Pass.{IsReady, HasRow, HasTable, IsHeld, pass_of, scene_in, datings_in, shelf_in, spot_row}
use Rattle.cg_message.specs.Value.{Value, Row, Table, Seen, IsValue, pass_in, message_of}
use Rattle.cg_message.specs.declared.element.Element.{Element}
use Rattle.cg_message.specs.declared.element.Element.TheViews.{Group}
use Rattle.cg_message.specs.declared.element.Element.TheBlock.{Event}
use Rattle.cg_message.specs.declared.element.Elements.{Elements}
use Rattle.cg_message.specs.declared.pass.Pass.{Pass}
use Rattle.cg_message.proofs.ElementLemmas.{placed_in-Event, placed_in-Group}

-- The row of an event by its message.
pub record IsRowPart (pass : Pass) (number place : ℕ) : Type 0 where
  pub dating : Dating
  pub ranged : IsInRange dating
  pub got : StandsAt (shelf_in pass) place (content.Row dating)
  pub row_is : (pass_of pass).rows number ≡ weights_of (scene_in pass) dating

-- a row that isn't made on the spot is got
got-row : (scene : Scene) (shelf : Shelf) (place : ℕ) (d : Dating) → spot_row scene d ≡ None → IsRowGot shelf place d → StandsAt shelf place (content.Row d)
got-row scene shelf place Free none got = absurd (cc)
got-row scene shelf place (Exact year) none got = absurd (cc)
got-row scene shelf place (Normal year error) none got = got
got-row scene shelf place (Carbon age error) none got = got

-- the row on the spot, by the event's dating
spot-at : (pass : Pass) (number : ℕ) (d : Dating) (default : Option (List Enclosure)) → IsReady pass → slice_get (datings_in pass) number ≡ Some d →
    slice_index_or pass.made.now number default ≡ spot_row (scene_in pass) d
spot-at pass number d default ready here =
    ap (λ (rows : List (Option (List Enclosure))). slice_index_or rows number default) ready.made
    ∙ get_or-map (spot_row (scene_in pass)) (datings_in pass) number d default (slice_get_within (datings_in pass) number d here)
    ∙ ap (spot_row (scene_in pass)) (get_or_from_slice_get (datings_in pass) number d d here)

-- the row of the recipe
row-at : (pass : Pass) (number : ℕ) (d : Dating) → slice_get (datings_in pass) number ≡ Some d → (pass_of pass).rows number ≡ weights_of (scene_in pass) d
row-at pass number d here = ap (weights_of (scene_in pass)) (get_or_from_slice_get (datings_in pass) number d Free here)

-- where no row is made
pub row-part : (pass : Pass) (number place : ℕ) (default : Option (List Enclosure)) → IsReady pass → HasRow pass number place → slice_index_or pass.made.now number default ≡ None →
    IsRowPart pass number place
row-part pass number place default ready row none = record {
  dating = row.dating;
  ranged = All-slice_get IsInRange (datings_in pass) number row.dating ready.ranged row.here;
  got = got-row (scene_in pass) (shelf_in pass) place row.dating (sym (spot-at pass number row.dating default ready row.here) ∙ none) row.got;
  row_is = row-at pass number row.dating row.here;
}

-- where one is made
pub row-made : (pass : Pass) (number place : ℕ) (default : Option (List Enclosure)) (made : List Enclosure) → IsReady pass → HasRow pass number place →
    slice_index_or pass.made.now number default ≡ Some made → made ≡ (pass_of pass).rows number
row-made pass number place default made ready row here =
    spot-is (scene_in pass) row.dating made (sym (spot-at pass number row.dating default ready row.here) ∙ here) ∙ sym (row-at pass number row.dating row.here)
  where
    spot-is : (scene : Scene) (d : Dating) (made : List Enclosure) → spot_row scene d ≡ Some made → made ≡ weights_of scene d
    spot-is scene Free made h = cc
    spot-is scene (Exact year) made h = cc
    spot-is scene (Normal year error) made h = absurd (cc)
    spot-is scene (Carbon age error) made h = absurd (cc)

-- an event is within the datings
pub row-inside : (pass : Pass) (number place : ℕ) → IsReady pass → HasRow pass number place → number < length pass.made.now
row-inside pass number place ready row =
    rw ready.made (omega (arith, length-map (datings_in pass) (spot_row (scene_in pass)), slice_get_within (datings_in pass) number row.dating row.here))

-- the value of a message with a row
pub row-value : (pass : Pass) (d : Dating) (seen : Seen) (value : Value) → IsReady pass → IsInRange d → seen ≡ message_of pass.curves.now (content.Row d) pass.grid pass.curve → IsValue seen value →
    value ≡ Row (weights_of (scene_in pass) d)
row-value pass d seen value ready ranged is worth =
    (subst (λ s. IsValue s value) is worth) (content.Row d) pass.grid pass.curve (record { content_is = ranged; grid_is = ready.grid; curve_is = ready.curve }) refl

-- with a table
pub table-value : (pass : Pass) (t : Tree) (seen : Seen) (value : Value) → IsReady pass → IsNode t → seen ≡ message_of pass.curves.now (content.Table t) pass.grid pass.curve → IsValue seen value →
    value ≡ Table (table_of (pass_in (scene_in pass) t) (element_of 0 t))
table-value pass t seen value ready node is worth =
    (subst (λ s. IsValue s value) is worth) (content.Table t) pass.grid pass.curve (record { content_is = node; grid_is = ready.grid; curve_is = ready.curve }) refl

-- what is at hand of an event
pub event-row : {pass : Pass} (e : Element) (number place : ℕ) → e ≡ Event number place → IsHeld pass (placed_in e) → HasRow pass number place
event-row {pass = pass} e number place is held = subst (IsHeld pass) (ap placed_in is ∙ placed_in-Event number place) held

-- and of a group
pub group-table : {pass : Pass} (e : Element) (kind : GroupKind) (place : ℕ) (es : Elements) → e ≡ Group kind place es → IsHeld pass (placed_in e) → HasTable pass place (element_in e)
group-table {pass = pass} e kind place es is held =
    let same = ap placed_in is ∙ placed_in-Group kind place es in
    subst (λ p. HasTable pass place (bare p)) (sym same) (subst (IsHeld pass) same held)
