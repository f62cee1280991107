-- The rows of a tree's events, and those of its members'.
use Rattle.std.proofs.Common.{◌≡◌, ℕ, zero, suc, ◌+◌, Bool, true, false, cond, eqb, List, [], ◌∷◌, ◌++◌, length, refl, ap, ◌∙◌, arith, Some, subst}
use Rattle.std.specs.Prelude.{slice_get, if◌then◌else◌}
use Rattle.std.proofs.lemmas.Option.{slice_get_within, get_or_from_slice_get}
use Rattle.cg_meaning.specs.Tree.{Tree, Dating, Free, datings_of}
use Rattle.cg_meaning.specs.Scene.{Scene, admits}
use Rattle.cg_meaning.specs.Weights.{Weighting, held_at}
use Rattle.cg_part.specs.Tables.{row_of, rows_of}
use Rattle.cg_part.specs.Laws.{AreRows}

-- these are the rows of events with these datings, which are numbered from n
abbrev pub HaveRows : Scene → Weighting → ℕ → List Dating → (ℕ → ℕ → ℕ) → Type 0
HaveRows scene w n ds rows =
    (event : ℕ) (d : Dating) → slice_get ds event ≡ Some d → (cell : ℕ) → rows (n + event) cell ≡ row_of scene w (n + event) d cell

-- one of the first list
get_first : (ds es : List Dating) (event : ℕ) (d : Dating) → slice_get ds event ≡ Some d → slice_get (ds ++ es) event ≡ Some d
get_first [] es event d h = absurd (omega (arith, slice_get_within [] event d h))
get_first (x ∷ ds) es zero d h = h
get_first (x ∷ ds) es (suc event) d h = get_first ds es event d h

-- one behind the first list
get_later : (ds es : List Dating) (event : ℕ) → slice_get (ds ++ es) (length ds + event) ≡ slice_get es event
get_later [] es event = ap (λ i. slice_get es i) (omega arith)
get_later (x ∷ ds) es event =
    let next : suc (length ds) + event ≡ suc (length ds + event) = omega arith in
    ap (λ i. slice_get (x ∷ ds ++ es) i) next ∙ get_later ds es event

-- the rows of the first events
pub first_rows : (scene : Scene) (w : Weighting) (n : ℕ) (ds es : List Dating) (rows : ℕ → ℕ → ℕ) →
    HaveRows scene w n (ds ++ es) rows → HaveRows scene w n ds rows
first_rows scene w n ds es rows h event d at = h event d (get_first ds es event d at)

-- those of the events behind them
pub later_rows : (scene : Scene) (w : Weighting) (n k : ℕ) (ds es : List Dating) (rows : ℕ → ℕ → ℕ) →
    HaveRows scene w n (ds ++ es) rows → length ds ≡ k → HaveRows scene w (n + k) es rows
later_rows scene w n k ds es rows h l event d at cell =
    let number : n + (length ds + event) ≡ n + k + event = omega arith in
    subst (λ (i : ℕ). rows i cell ≡ row_of scene w i d cell) number (h (length ds + event) d (get_later ds es event ∙ at) cell)

-- that of the first event
pub event_row : (scene : Scene) (w : Weighting) (n : ℕ) (d : Dating) (ds : List Dating) (rows : ℕ → ℕ → ℕ) →
    HaveRows scene w n (d ∷ ds) rows → (cell : ℕ) → rows n cell ≡ row_of scene w n d cell
event_row scene w n d ds rows h cell =
    let number : n + 0 ≡ n = omega arith in
    subst (λ (i : ℕ). rows i cell ≡ row_of scene w i d cell) number (h 0 d refl cell)

-- The rows of a whole tree.
pub tree_rows : (scene : Scene) (w : Weighting) (t : Tree) → AreRows scene w 0 t (rows_of scene w t)
tree_rows scene w t event d at cell =
    let number : 0 + event ≡ event = omega arith in
    ap (λ x. row_of scene w (0 + event) x cell)
    (get_or_from_slice_get (datings_of t) (0 + event) d Free (ap (λ i. slice_get (datings_of t) i) number ∙ at))

-- a condition, where another one lets a weight stand or not
turned : (here same a : Bool) (x r : ℕ) → r ≡ cond a x 0 →
    (if here then cond same r 0 else r) ≡ cond a (if here then cond same x 0 else x) 0
turned true true a x r h = h
turned true false true x r h = refl
turned true false false x r h = refl
turned false same a x r h = h

-- Rows with an event held at a cell are those of the weighting that holds it there.
pub held_rows : (scene : Scene) (w : Weighting) (n : ℕ) (t : Tree) (rows : ℕ → ℕ → ℕ) (event cell : ℕ) →
    AreRows scene w n t rows → AreRows scene (held_at event cell w) n t (held_at event cell rows)
held_rows scene w n t rows event cell h e d at c =
    turned (eqb (n + e) event) (eqb c cell) (admits scene.grid d c) (w (n + e) c) (rows (n + e) c) (h e d at c)
