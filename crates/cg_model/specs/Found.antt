-- The search for a name among the nodes of a model.
use Rattle.std.specs.Prelude.{ℕ, ◌+◌, Bool, List, [], ◌∷◌, length, bytes_eq, if◌then◌else◌}
use Rattle.cg_meaning.specs.Tree.{Name, Tree, name_of}
use Rattle.cg_model.specs.declared.find.Found.{Found}
use Rattle.cg_model.specs.declared.find.Found.TheVariants.{Nobody, One, Many}

abbrev pub has_name : Name → Tree → Bool
has_name name t = bytes_eq (name_of t) name

-- the places of the nodes of this name, where the first node is at this place
abbrev pub places_from : ℕ → Name → List Tree → List ℕ
places_from place name [] = []
places_from place name (t ∷ ts) =
    if has_name name t then place ∷ places_from (place + 1) name ts else places_from (place + 1) name ts

-- what a search answers that met these places
abbrev pub found_at : List ℕ → Found
found_at [] = Nobody
found_at (place ∷ []) = One place
found_at (place ∷ next ∷ places) = Many (length (place ∷ next ∷ places))

-- what a search for a name finds among nodes
abbrev pub found_in : Name → List Tree → Found
found_in name nodes = found_at (places_from 0 name nodes)
