-- What holds of all codes. chron's own.
use Rattle.std.specs.Prelude.{◌≡◌, ◌↔◌, ℕ, ◌<◌}
use Rattle.cg_meaning.specs.Scene.{Grid}
use Rattle.cg_model.specs.Grid.{IsGrid}
use Rattle.cg_code.specs.Code.{code_of}
use Rattle.cg_code.specs.Content.{Content, IsContent, nameless}

-- Within the limits: a model's content, a grid, and a curve's number of one byte.
pub record IsEvaluation (content : Content) (grid : Grid) (curve : ℕ) : Type 0 where
  pub content_is : IsContent content
  pub grid_is : IsGrid grid.oldest grid.cells
  pub curve_is : curve < 256

-- two codes are equal exactly where, names aside, the kinds and contents are, and the grids and the curves' numbers
abbrev pub EqualCodes : Type 0
EqualCodes =
    (x y : Content) (g h : Grid) (m n : ℕ) → IsEvaluation x g m → IsEvaluation y h n →
    (code_of x g m ≡ code_of y h n) ↔ ((nameless x ≡ nameless y) × (g ≡ h) × (m ≡ n))
