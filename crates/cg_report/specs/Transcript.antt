-- The text of what sessions tell. chron's own.
use Rattle.std.specs.Prelude.{ℕ, ◌+◌, Bool, true, false, List, [], ◌∷◌, ◌++◌, Option}
use Rattle.std.specs.List.{flat_map}
use Rattle.cg_meaning.specs.Tree.{Tree, root_of}
use Rattle.cg_meaning.specs.Scene.{Scene}
use Rattle.cg_sharing.specs.Pieces.{Print, Piece, Begun, At, Made, Committed, On, Refused, Marginal, Ranges, Model, Work}
use Rattle.cg_sharing.specs.Course.{Place}
use Rattle.cg_report.specs.Texts.{session_line, end_line, stopped_line, at_line, made_line, committed_line, refused_line, grid_line, marginal_lines, ranges_lines, model_lines, work_line}

-- the marginal of a tree's event in a scene: a pair for each cell, or nothing where it is impossible
abbrev pub Marginals : Type 0
Marginals = Tree → Scene → ℕ → Option (List (ℕ × ℕ))

abbrev pub marginal_of : Marginals → Print → Option (List (ℕ × ℕ))
marginal_of marginals print = marginals (root_of print.chronology) print.scene print.event

abbrev pub text_of_piece : Marginals → Piece → List ℕ
text_of_piece marginals (Begun session) = session_line session
text_of_piece marginals (At version) = at_line version
text_of_piece marginals (Made version) = made_line version
text_of_piece marginals (Committed version) = committed_line version
text_of_piece marginals (On grid) = grid_line grid
text_of_piece marginals (Refused number cause) = refused_line number cause
text_of_piece marginals (Marginal print) =
    marginal_lines print.scene.grid print.name print.version (marginal_of marginals print)
text_of_piece marginals (Ranges print) =
    ranges_lines print.scene.grid print.name print.version (marginal_of marginals print)
text_of_piece marginals (Model version chronology) = model_lines version chronology
text_of_piece marginals Work = work_line

-- the text of all pieces
abbrev pub text_of : Marginals → List Piece → List ℕ
text_of marginals pieces = flat_map (text_of_piece marginals) pieces

-- the last line: of a session that did all of its script, and of one that want of memory stopped
abbrev pub last_line : Bool → ℕ → List ℕ
last_line false session = end_line session
last_line true session = stopped_line session

-- all that a session writes which ends at this place
abbrev pub transcript_of : Marginals → ℕ → Place → List ℕ
transcript_of marginals session place = text_of marginals place.written ++ last_line place.stopped session

-- the transcripts of sessions from this number on
abbrev pub transcripts_of : Marginals → ℕ → List Place → List (List ℕ)
transcripts_of marginals session [] = []
transcripts_of marginals session (place ∷ places) =
    transcript_of marginals session place ∷ transcripts_of marginals (session + 1) places
