-- What the code's models, versions and heads mean.
use Rattle.std.specs.Prelude.{◌≢◌, ℕ, ◌<◌, ◌≤◌, ◌^◌, List, [], ◌∷◌, ◌++◌, length, None, All, AllPairs, IfSome, string_bytes}
use Rattle.std.specs.Arc.{arc_value}
use Rattle.std.specs.declared.string.String.{String}
use Rattle.cg_meaning.specs.Tree.{Name, Chronology}
use Rattle.cg_sharing.specs.Versions as meaning
use Rattle.cg_sharing.specs.Versions.{State}
use Rattle.cg_versions.specs.declared.start.StartModel.{StartModel}
use Rattle.cg_versions.specs.declared.versions.Version.{Version}

abbrev pub start_in : StartModel → meaning.StartModel
start_in model = record { name = model.name; chronology = model.tree }

-- at most eight models, with different names
pub record AreStart (models : List meaning.StartModel) : Type 0 where
  pub few : length models ≤ 8
  pub distinct : AllPairs (λ a b. a.name ≢ b.name) models

abbrev pub version_in : Version → meaning.Version
version_in version = record { parent = version.parent; chronology = arc_value version.tree }

-- an entry of the heads: a name and a version's number
abbrev pub head_in : {Y : Type 0} → String Y × ℕ → meaning.Head
head_in head = record { name = string_bytes head.0; version = head.1 }

-- fewer than 2 ^ 32 versions; parents and heads are among them
pub record AreVersions (versions : List meaning.Version) (heads : List meaning.Head) : Type 0 where
  pub few : length versions < 2 ^ 32
  pub parents : All (λ version. IfSome version.parent (λ parent. parent < length versions)) versions
  pub heads_known : All (λ head. head.version < length versions) heads

-- one model more at the start
abbrev pub with_model : State → Name → Chronology → State
with_model state name chronology = record {
  versions = state.versions ++ record { parent = None; chronology = chronology } ∷ [];
  heads = state.heads ++ record { name = name; version = length state.versions } ∷ [];
}
