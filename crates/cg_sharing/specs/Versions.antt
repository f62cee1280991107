-- Versions of models, and the heads that models' names stand for. chron's own.
use Rattle.std.specs.Prelude.{ℕ, ◌+◌, List, [], ◌∷◌, ◌++◌, map, length, slice_get, bytes_eq, Option, Some, None, if◌then◌else◌}
use Rattle.cg_meaning.specs.Tree.{Name, Trees, none, Chronology}

-- a model's text, and the number of the version that it was changed from
pub record Version : Type 0 where
  pub parent : Option ℕ
  pub chronology : Chronology

-- a model's name, and the number of the version that it stands for
pub record Head : Type 0 where
  pub name : Name
  pub version : ℕ

-- All versions by their numbers from 0 on, and the heads.
pub record State : Type 0 where
  pub versions : List Version
  pub heads : List Head

-- a model as it is at the start
pub record StartModel : Type 0 where
  pub name : Name
  pub chronology : Chronology

-- the heads of models that are the versions from this number on
abbrev pub heads_from : ℕ → List StartModel → List Head
heads_from number [] = []
heads_from number (model ∷ models) = record { name = model.name; version = number } ∷ heads_from (number + 1) models

-- each model is a version without a parent, and its name stands for it
abbrev pub start_of : List StartModel → State
start_of models = record {
  versions = map (λ model. record { parent = None; chronology = model.chronology }) models;
  heads = heads_from 0 models;
}

-- how many versions there are
abbrev pub count_of : State → ℕ
count_of state = length state.versions

-- the version that a name stands for
abbrev pub head_of : Name → List Head → Option ℕ
head_of name [] = None
head_of name (head ∷ heads) = if bytes_eq name head.name then Some head.version else head_of name heads

-- the heads once a name stands for this version
abbrev pub with_head : Name → ℕ → List Head → List Head
with_head name version [] = []
with_head name version (head ∷ heads) =
    if bytes_eq name head.name then record head { version = version } ∷ heads else head ∷ with_head name version heads

-- the parent of a version, and its text
abbrev pub parent_at : Option Version → Option ℕ
parent_at None = None
parent_at (Some version) = version.parent

abbrev pub chronology_at : Option Version → Chronology
chronology_at None = record { curve = None; top = none }
chronology_at (Some version) = version.chronology

abbrev pub parent_of : State → ℕ → Option ℕ
parent_of state number = parent_at (slice_get state.versions number)

abbrev pub chronology_of : State → ℕ → Chronology
chronology_of state number = chronology_at (slice_get state.versions number)

-- a further version with this parent and these statements
abbrev pub with_version : ℕ → Trees → State → State
with_version parent top state =
    record state { versions = state.versions ++ record { parent = Some parent; chronology = record (chronology_of state parent) { top = top } } ∷ [] }
