use Rattle.std.proofs.Common.{◌≡◌, ℕ, take, Some}
use Rattle.std.specs.Prelude.{slice_get, option_map}
use Rattle.cg_meaning.specs.Tree.{nodes_of_all, name_of}
use Rattle.cg_model.specs.Found.{places_from, found_at}
use Rattle.cg_model.specs.declared.find.Found.TheVariants.{One}
use Rattle.cg_model.proofs.model.ModelTree.find.Given as goal

-- the nodes so far are searched
abbrev pub invariant-loop-place : goal.invariant-loop-place
invariant-loop-place l = record {
  found : l.found ≡ found_at (places_from 0 l.name (take l.place (nodes_of_all l.self.top)));
  one : (place : ℕ) → l.found ≡ One place → option_map name_of (slice_get (nodes_of_all l.self.top) place) ≡ Some l.name;
}
