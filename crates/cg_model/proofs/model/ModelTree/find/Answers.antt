use Rattle.std.proofs.Common.{◌≡◌, ◌+◌, true, [], ◌∷◌, ◌++◌, Some, take, zero-add, ◌∙◌, sym, ap, arith, add-one, length-take}
use Rattle.std.specs.Prelude.{slice_get, option_map}
use Rattle.std.proofs.lemmas.Slice.Eq.{bytes_eq-Decides}
use Rattle.cg_meaning.specs.Tree.{name_of, nodes_of_all}
use Rattle.cg_model.specs.Found.{has_name, places_from, found_at}
use Rattle.cg_model.specs.Node.{tree_of}
use Rattle.cg_model.proofs.FoundLemmas.{places_from-yes, places_from-no, length-places_from, found_at-Many, found_at-One}
use Rattle.cg_model.proofs.PlaceLemmas.{option_map-within}
use Rattle.cg_model.proofs.model.ModelTree.find.Goals.{then-eq, else-eq}
use Rattle.cg_model.proofs.model.ModelTree.find.Goals as goal

pub with-found-requires : goal.with-found-requires
with-found-requires c =
    let nodes = nodes_of_all c.args.self.now.top in
    let before = take c.loop-place.place nodes in
    λ count is. omega (arith, found_at-Many (places_from 0 c.args.name.now before) count (sym c.loop-place.invariant.found ∙ is), length-places_from 0 c.args.name.now before, length-take c.loop-place.place nodes, c.size-place-end.ensures)

pub loop-place-preserved : goal.loop-place-preserved
loop-place-preserved c =
    let name = c.args.name.now in
    let nodes = nodes_of_all c.args.self.now.top in
    let place = c.loop-place.place in
    let t = tree_of c.node.result.now in
    let places = places_from 0 name (take place nodes) in
    let text : c.text.result.now ≡ name_of t = c.text.ensures.text ∙ c.name.ensures in
    let tested : c.eq.result ≡ has_name name t = cc (text, c.eq.ensures, c.text-in-loop-place.ensures.text) in
    elim c.if-eq.branch [
      | then-eq w ↦
          let named : has_name name t ≡ true = sym tested ∙ w.if-eq.true in
          let met : places_from 0 name (take (place + 1) nodes) ≡ places ++ place ∷ [] =
          rw add-one (places_from-yes 0 name nodes place t c.node.ensures.node named ∙ ap (λ k. places ++ k ∷ []) (zero-add place)) in
          let found = w.found-is ∙ w.with-found.ensures places c.loop-place.invariant.found in
          record {
            found = found ∙ ap found_at (sym met);
            one = λ first is.
                ap (λ k. option_map name_of (slice_get nodes k)) (found_at-One places first place (sym found ∙ is))
                ∙ ap (λ node. option_map name_of node) c.node.ensures.node
                ∙ ap (λ bytes. Some bytes) ((bytes_eq-Decides (name_of t) name).0 named);
          }
      | else-eq w ↦ record {
        found = w.found-is ∙ c.loop-place.invariant.found ∙ ap found_at (sym (rw add-one (places_from-no 0 name nodes place t c.node.ensures.node (sym tested ∙ w.if-eq.false))));
        one = λ first is. c.loop-place.invariant.one first (sym w.found-is ∙ is);
      }
    ]

pub returns-clause-within : goal.returns-clause-within
returns-clause-within c = λ place is. option_map-within name_of (nodes_of_all c.args.self.now.top) place c.args.name.now (c.loop-place.invariant.one place is)
