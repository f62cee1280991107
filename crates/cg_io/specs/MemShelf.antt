-- A shelf in memory. chron's own.
use Rattle.std.specs.Prelude.{ℕ, List, map, Result, String, refl}
use Rattle.std.specs.Ordering.{nat_cmp}
use Rattle.std.specs.Cmp.Lexicographic.{slice_cmp}
use Rattle.std.specs.String.{string_bytes}
use Rattle.std.specs.Global.{Global, Vec}
use Rattle.std.specs.BTreeMap.{BTreeMap}
use Rattle.std.specs.FinMap as finite
use Rattle.std.specs.Coded.{Coded, code_by, coded×, coded_ℕ, coded_list}
use Rattle.cg_io.specs.Calls.{Counted, no_calls, after_call}
use Rattle.cg_io.specs.Shelf.{Files, faults_counted}
use Rattle.cg_io.specs.declared.shelf.ReadEnd.{ReadEnd}
use Rattle.cg_io.specs.declared.shelf.ShelfFault.{ShelfFault}

-- from names to bytes
abbrev pub ByName : Type 0
ByName = finite.FinMap (slice_cmp nat_cmp) (List ℕ)

-- the files, the reads, and how many of them failed
pub record ShelfState : Type 0 where
  pub files : ByName
  pub calls : Counted
  pub faults : ℕ

-- a state is stored as its numbers and lists
abbrev pub state_code : Coded ShelfState
state_code =
    code_by (ByName × (ℕ × (List ℕ × ℕ))) (coded× (finite.code (coded_list coded_ℕ) (coded_list coded_ℕ)) (coded× coded_ℕ (coded× (coded_list coded_ℕ) coded_ℕ)))
    (λ s. (s.files, (s.calls.made, (s.calls.failing, s.faults))))
    (λ p. record { files = p.0; calls = record { made = p.1.0; failing = p.1.1.0 }; faults = p.1.1.1 })
    (λ _. refl)

-- the map as it is seen: the bytes of each name, and the bytes of its file
abbrev pub files_in : BTreeMap (String Global) (Vec ℕ) → ByName
files_in m = finite.from_entries (map (λ e. (string_bytes e.0, e.1.items)) m.entries)

-- no file, no read, and none that is to fail
abbrev pub empty_shelf : ShelfState
empty_shelf = record { files = finite.empty; calls = no_calls; faults = 0 }

-- the name has these bytes, and all else is as it was
abbrev pub with_file : ShelfState → List ℕ → List ℕ → ShelfState
with_file shelf name bytes = record shelf { files = finite.insert shelf.files name bytes }

-- what the shelf tells
abbrev pub told_files : ShelfState → Files
told_files shelf = record { content = finite.get shelf.files; reads = shelf.calls.made; failing = shelf.calls.failing }

-- the shelf after a read that answered so
abbrev pub after_answer : ShelfState → Result ReadEnd ShelfFault → ShelfState
after_answer shelf result = record shelf { calls = after_call shelf.calls; faults = faults_counted shelf.faults result }
