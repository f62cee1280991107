-- Datings event by event.
use Rattle.std.proofs.Common.{◌≡◌, ℕ, zero, suc, ◌<◌, ◌&&◌, List, [], ◌∷◌, length, drop, get_or, refl, ap, ◌∙◌, ◌≤◌, true, arith, Some}
use Rattle.std.proofs.lemmas.List.{drop_all}
use Rattle.std.specs.Prelude.{slice_get}
use Rattle.cg_meaning.specs.Tree.{Dating}
use Rattle.cg_meaning.specs.Scene.{Grid, admits, is_dated}

-- from an event on, it and those behind it are dated
pub is_dated-drop : (grid : Grid) (datings : List Dating) (cells : List ℕ) (event : ℕ) (dating : Dating) →
    slice_get datings event ≡ Some dating → event < length cells →
    is_dated grid (drop event datings) (drop event cells)
    ≡ (admits grid dating (get_or cells event 0) && is_dated grid (drop (suc event) datings) (drop (suc event) cells))
is_dated-drop grid [] cells event dating is within = absurd (cc)
is_dated-drop grid (d ∷ ds) [] event dating is within = absurd (omega arith)
is_dated-drop grid (d ∷ ds) (c ∷ cs) zero dating is within =
    let same : d ≡ dating = cc in ap (λ e. admits grid e c && is_dated grid ds cs) same
is_dated-drop grid (d ∷ ds) (c ∷ cs) (suc event) dating is within = is_dated-drop grid ds cs event dating is (omega arith)

-- where no event is left, all are dated
no_events_dated : (grid : Grid) (datings : List Dating) → is_dated grid datings [] ≡ true
no_events_dated grid [] = refl
no_events_dated grid (d ∷ ds) = refl

pub is_dated-past : (grid : Grid) (datings : List Dating) (cells : List ℕ) (event : ℕ) → length cells ≤ event →
    is_dated grid datings (drop event cells) ≡ true
is_dated-past grid datings cells event past = ap (λ cs. is_dated grid datings cs) (drop_all event cells past) ∙ no_events_dated grid datings
