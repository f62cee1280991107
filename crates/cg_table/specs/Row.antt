-- What a row is: a list of enclosures, one for each cell of a grid.
use Rattle.std.specs.Prelude.{◌^◌, List, All}
use Rattle.cg_enc.specs.Enclosure.{Enclosure, IsEnclosure, IsExponent}

-- what the entries of every row meet
pub record AreEntries (entries : List Enclosure) : Type 0 where
  pub valid : All IsEnclosure entries
  pub near : All (λ e. IsExponent (2 ^ 60) e.exp) entries
