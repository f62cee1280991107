-- Datings that can be weighed, one by one.
use Rattle.std.proofs.Common.{◌≡◌, ℕ, ◌+◌, List, [], ◌∷◌, ◌++◌, take, Some, sym, subst, ap, ◌∙◌}
use Rattle.std.specs.Prelude.{slice_get}
use Rattle.std.specs.List.{All}
use Rattle.std.proofs.lemmas.List.{take_more}
use Rattle.std.proofs.lemmas.Option.{slice_get_within, get_or_from_slice_get}
use Rattle.std.proofs.lemmas.List.Elements.{All-push}
use Rattle.cg_meaning.specs.Tree.{Dating}
use Rattle.cg_meaning.specs.Scene.{Scene}
use Rattle.cg_meaning.specs.Cover.{IsCovered}

-- one more event's dating
take-next : (datings : List Dating) (event : ℕ) (dating : Dating) → slice_get datings event ≡ Some dating → take (event + 1) datings ≡ take event datings ++ dating ∷ []
take-next datings event dating here =
    take_more datings event dating (slice_get_within datings event dating here) ∙ ap (λ d. take event datings ++ d ∷ []) (get_or_from_slice_get datings event dating dating here)

-- so can one more
pub covered-next : (scene : Scene) (datings : List Dating) (event : ℕ) (dating : Dating) → slice_get datings event ≡ Some dating → IsCovered scene dating →
    All (λ d. IsCovered scene d) (take event datings) → All (λ d. IsCovered scene d) (take (event + 1) datings)
covered-next scene datings event dating here covered all =
    subst (All (λ d. IsCovered scene d)) (sym (take-next datings event dating here)) (All-push (λ d. IsCovered scene d) (take event datings) dating all covered)
