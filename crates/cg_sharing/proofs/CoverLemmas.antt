-- Datings among which none is at fault.
use Rattle.std.proofs.Common.{◌≡◌, List, [], ◌∷◌, refl, Option, Some, None}
use Rattle.std.specs.Prelude.{All}
use Rattle.std.proofs.lemmas.List.Elements.{All-nil, All-cons}
use Rattle.cg_meaning.specs.Tree.{Dating}
use Rattle.cg_meaning.specs.Scene.{Scene}
use Rattle.cg_meaning.specs.Cover.{CoverFault, or_fault, cover_fault, first_fault, IsCovered}

own-none : (fault other : Option CoverFault) → or_fault fault other ≡ None → (fault ≡ None) × (other ≡ None)
own-none None other none = (refl, none)
own-none (Some fault) other none = absurd (cc)

-- without a fault each is covered
pub all-covered : (scene : Scene) (datings : List Dating) → first_fault scene datings ≡ None → All (λ dating. IsCovered scene dating) datings
all-covered scene [] none = All-nil (λ dating. IsCovered scene dating)
all-covered scene (d ∷ ds) none =
    let each = own-none (cover_fault scene d) (first_fault scene ds) none in
    All-cons (λ dating. IsCovered scene dating) d ds each.0 (all-covered scene ds each.1)
