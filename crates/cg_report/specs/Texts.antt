-- The lines of a transcript. chron's own.
use Rattle.std.specs.Prelude.{ℕ, ◌+◌, ◌-◌, ◌/◌, ◌%◌, List, [], ◌∷◌, ◌++◌, length, codes, decimal, Option, Some, None, ℤ}
use Rattle.std.specs.List.{flat_map}
use Rattle.std.specs.Fmt.{signed_decimal}
use Rattle.sha2.specs.Sha256.{sha256}
use Rattle.hex.specs.Hex.{encode_lower}
use Rattle.cg_num.specs.Label.{label_of}
use Rattle.cg_meaning.specs.Tree.{Name, Chronology}
use Rattle.cg_meaning.specs.Scene.{Grid, year_of}
use Rattle.cg_meaning.specs.Cover as cover
use Rattle.cg_meaning.specs.Cover.{CoverFault}
use Rattle.cg_model.specs.Group.{word_of_kind}
use Rattle.cg_model.specs.declared.model.Limit.{Limit}
use Rattle.cg_model.specs.declared.model.Limit.TheVariants.{Events, Groups, Depth}
use Rattle.cg_writing.specs.Text.{model_text}
use Rattle.cg_ranges.specs.Ranges.{Ranges, ranges_of}
use Rattle.cg_sharing.specs.Edit.{NodeKind, a_leaf, a_boundary, a_group, EditFault, NoName, Ambiguous, WrongKind, Past}
use Rattle.cg_sharing.specs.Cause as cause
use Rattle.cg_sharing.specs.Cause.{Cause}

-- a line with its end
abbrev pub line : List ℕ → List ℕ
line text = text ++ (10 ∷ [])

abbrev pub version_text : ℕ → List ℕ
version_text version = codes "v" ++ decimal version

abbrev pub kind_text : NodeKind → List ℕ
kind_text a_leaf = codes "Leaf"
kind_text a_boundary = codes "Boundary"
kind_text (a_group kind) = word_of_kind kind

abbrev pub limit_text : Limit → List ℕ
limit_text Events = codes "limit events"
limit_text Groups = codes "limit groups"
limit_text Depth = codes "limit depth"

abbrev pub fault_text : EditFault → List ℕ
fault_text NoName = codes "no name"
fault_text (Ambiguous count) = codes "ambiguous " ++ decimal count
fault_text (WrongKind kind) = codes "wrong kind " ++ kind_text kind
fault_text (Past limit) = limit_text limit

abbrev pub cover_text : CoverFault → List ℕ
cover_text cover.NoCurve = codes "no curve"
cover_text (cover.Uncovered year) = codes "uncovered " ++ signed_decimal year
cover_text (cover.Far year) = codes "far date " ++ signed_decimal year

abbrev pub cause_text : Cause → List ℕ
cause_text cause.NotOpen = codes "not open"
cause_text cause.NoGrid = codes "no grid"
cause_text (cause.GridLimit cells) = codes "grid limit " ++ signed_decimal cells
cause_text (cause.Fault fault) = fault_text fault
cause_text cause.NoModel = codes "no model"
cause_text (cause.NoVersion count) = codes "no version " ++ decimal count
cause_text cause.NoParent = codes "no parent"
cause_text (cause.Moved head) = codes "moved " ++ version_text head
cause_text (cause.Cover fault) = cover_text fault

-- the first line, by the session's number, and the last ones
abbrev pub session_line : ℕ → List ℕ
session_line session = line (codes "session " ++ decimal session)

abbrev pub end_line : ℕ → List ℕ
end_line session = line (codes "end " ++ decimal session)

abbrev pub stopped_line : ℕ → List ℕ
stopped_line session = line (codes "stopped " ++ decimal session ++ codes " out of memory")

abbrev pub at_line : ℕ → List ℕ
at_line version = line (codes "at " ++ version_text version)

abbrev pub made_line : ℕ → List ℕ
made_line version = line (codes "made " ++ version_text version)

abbrev pub committed_line : ℕ → List ℕ
committed_line version = line (codes "committed " ++ version_text version)

-- by the line of the script
abbrev pub refused_line : ℕ → Cause → List ℕ
refused_line number cause = line (codes "refused " ++ decimal number ++ codes " " ++ cause_text cause)

-- the older year and the younger
abbrev pub grid_line : Grid → List ℕ
grid_line grid =
    line (codes "grid " ++ signed_decimal grid.oldest ++ codes " " ++ signed_decimal (year_of grid (grid.cells - 1)))

-- a year in cal BP, and its label
abbrev pub year_text : ℤ → List ℕ
year_text year = signed_decimal year ++ codes " " ++ label_of year

-- a year, and the two bounds in parts per million
abbrev pub pair_line : ℤ → ℕ × ℕ → List ℕ
pair_line year pair = line (year_text year ++ codes " " ++ decimal pair.0 ++ codes " " ++ decimal pair.1)

-- a line for each cell from this one on
abbrev pub pair_lines : Grid → ℕ → List (ℕ × ℕ) → List ℕ
pair_lines grid cell [] = []
pair_lines grid cell (pair ∷ pairs) = pair_line (year_of grid cell) pair ++ pair_lines grid (cell + 1) pairs

-- the event, in quotes, and the version of the model
abbrev pub subject_text : Name → ℕ → List ℕ
subject_text event version = codes "\"" ++ event ++ codes "\" " ++ version_text version

-- impossible where there are no pairs
abbrev pub marginal_lines : Grid → Name → ℕ → Option (List (ℕ × ℕ)) → List ℕ
marginal_lines grid event version None = line (codes "impossible " ++ subject_text event version)
marginal_lines grid event version (Some pairs) =
    line (codes "marginal " ++ subject_text event version) ++ pair_lines grid 0 pairs

-- a run of years, by its first and its last cell
abbrev pub run_line : Grid → ℕ × ℕ → List ℕ
run_line grid run = line (year_text (year_of grid run.0) ++ codes " to " ++ year_text (year_of grid run.1))

-- the parts of a posterior that ranges cover, in parts per million
abbrev pub targets : List ℕ
targets = 683000 ∷ 954000 ∷ 997000 ∷ []

-- a part in per cent, with one digit behind the point
abbrev pub per_cent : ℕ → List ℕ
per_cent target = decimal (target / 10000) ++ codes "." ++ decimal (target / 1000 % 10)

-- a part, what the lower ends of its ranges sum to, and their years
abbrev pub target_lines : Grid → ℕ → Ranges → List ℕ
target_lines grid target ranges =
    line (per_cent target ++ codes " " ++ decimal ranges.sum) ++ flat_map (run_line grid) ranges.runs

-- the ranges of all of them
abbrev pub range_lines : Grid → List (ℕ × ℕ) → List ℕ
range_lines grid pairs = flat_map (λ target. target_lines grid target (ranges_of pairs target)) targets

-- impossible where there are no pairs
abbrev pub ranges_lines : Grid → Name → ℕ → Option (List (ℕ × ℕ)) → List ℕ
ranges_lines grid event version None = line (codes "impossible " ++ subject_text event version)
ranges_lines grid event version (Some pairs) =
    line (codes "ranges " ++ subject_text event version) ++ range_lines grid pairs

-- the SHA-256 of a text, in hexadecimal digits
abbrev pub fingerprint_text : List ℕ → List ℕ
fingerprint_text text = encode_lower (sha256 text)

-- the length of the canonical text, its fingerprint, and the text itself
abbrev pub model_lines : ℕ → Chronology → List ℕ
model_lines version chronology =
    let text = model_text chronology in
    let known_by = decimal (length text) ++ codes " " ++ fingerprint_text text in
    line (codes "model " ++ version_text version ++ codes " " ++ known_by) ++ text

-- the counts of a session's claims to what others computed; nothing is kept between two computations
abbrev pub work_line : List ℕ
work_line = codes "work claims 0 hits 0 mine 0 busy 0 noroom 0 published 0\n"
