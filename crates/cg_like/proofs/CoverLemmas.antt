-- The oldest fault, cell by cell.
use Rattle.std.proofs.Common.{◌≡◌, ℕ, suc, ◌+◌, ◌-◌, ◌<◌, ◌≤◌, refl, ap, ◌∙◌, arith, true, subst, option_map, Option, Some, None, [], ◌∷◌, ℤ}
use Rattle.std.specs.Option.{is_some}
use Rattle.cg_meaning.specs.Tree as meaning
use Rattle.cg_meaning.specs.Tree.{Dating}
use Rattle.cg_meaning.specs.Curve.{Curve}
use Rattle.cg_meaning.specs.Scene.{Grid, Scene, scene_of, year_of}
use Rattle.cg_meaning.specs.Weights.{Distance, distance_of}
use Rattle.cg_meaning.specs.Cover.{CoverFault, fault_at, or_fault, fault_from, cover_fault}
use Rattle.cg_like.specs.Cover.{rows_of}
use Rattle.cg_like.specs.Distance.{IsKnown}

abbrev pub fault_of : Scene → Dating → ℕ → Option CoverFault
fault_of scene dating cell = fault_at (year_of scene.grid cell) (distance_of scene dating cell)

-- the fault of the cells from one on is its own, or that of the others
fault_from-next : (scene : Scene) (dating : Dating) (cell cells : ℕ) → cell < cells
    → fault_from scene dating cell (cells - cell) ≡ or_fault (fault_of scene dating cell) (fault_from scene dating (cell + 1) (cells - (cell + 1)))
fault_from-next scene dating cell cells less = let e : cells - cell ≡ suc (cells - (cell + 1)) = omega arith in rw e refl

pub fault_from-here : (scene : Scene) (dating : Dating) (cell cells : ℕ) (fault : CoverFault) → cell < cells
    → fault_of scene dating cell ≡ Some fault → fault_from scene dating cell (cells - cell) ≡ Some fault
fault_from-here scene dating cell cells fault less is =
    fault_from-next scene dating cell cells less ∙ ap (λ (f : Option CoverFault). or_fault f (fault_from scene dating (cell + 1) (cells - (cell + 1)))) is

pub fault_from-later : (scene : Scene) (dating : Dating) (cell cells : ℕ) → cell < cells
    → fault_of scene dating cell ≡ None → fault_from scene dating cell (cells - cell) ≡ fault_from scene dating (cell + 1) (cells - (cell + 1))
fault_from-later scene dating cell cells less is =
    fault_from-next scene dating cell cells less ∙ ap (λ (f : Option CoverFault). or_fault f (fault_from scene dating (cell + 1) (cells - (cell + 1)))) is

-- behind the last cell there is none
pub fault_from-end : (scene : Scene) (dating : Dating) (cell cells : ℕ) → cells ≤ cell → fault_from scene dating cell (cells - cell) ≡ None
fault_from-end scene dating cell cells le = let e : cells - cell ≡ 0 = omega arith in rw e refl

pub fault_from-all : (scene : Scene) (dating : Dating) (cells : ℕ) → fault_from scene dating 0 cells ≡ fault_from scene dating 0 (cells - 0)
fault_from-all scene dating cells = let e : cells - 0 ≡ cells = omega arith in rw e refl

-- the same, where the year and the distance go by other names
pub same_fault : (year year' : ℤ) (distance distance' : Option Distance) (fault : Option CoverFault) → year ≡ year' → distance ≡ distance'
    → fault_at year distance ≡ fault → fault_at year' distance' ≡ fault
same_fault year year' distance distance' fault y d is = rw (← y, ← d) is

-- a curve that is lent is there
still_some : {A B : Type 0} (f : A → B) (o : Option A) → is_some o ≡ true → is_some (option_map f o) ≡ true
still_some f None some = absurd (cc)
still_some f (Some x) some = refl

on_some : (grid : Grid) (curve : Option Curve) (age error : ℤ) → is_some curve ≡ true → IsKnown curve (meaning.Carbon age error)
    → cover_fault (scene_of grid (rows_of curve)) (meaning.Carbon age error) ≡ fault_from (scene_of grid (rows_of curve)) (meaning.Carbon age error) 0 grid.cells
on_some grid None age error some known = absurd (cc)
on_some grid (Some []) age error some known = absurd (omega (arith, known.some))
on_some grid (Some (row ∷ rows)) age error some known = refl

-- a radiocarbon date on a curve has the fault that it has at its oldest year
pub carbon_fault : {A : Type 0} (view : A → Curve) (grid : Grid) (lent : Option A) (dating : Dating) (age error : ℤ)
    → is_some lent ≡ true → dating ≡ meaning.Carbon age error → IsKnown (option_map view lent) dating
    → cover_fault (scene_of grid (rows_of (option_map view lent))) dating ≡ fault_from (scene_of grid (rows_of (option_map view lent))) dating 0 grid.cells
carbon_fault view grid lent dating age error some is known =
    rw is (on_some grid (option_map view lent) age error (still_some view lent some) (subst (λ (d : Dating). IsKnown (option_map view lent) d) is known))
