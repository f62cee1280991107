-- Transcripts, computed.
use Rattle.std.proofs.Common.{◌≡◌, ℕ, zero, suc, ◌+◌, Bool, true, false, Option, refl, List, [], ◌∷◌, ◌++◌, pos, negsuc, Some, None}
use Rattle.std.specs.Prelude.{codes}
use Rattle.std.specs.Fmt.{digits}
use Rattle.sha2.specs.Sha256.{sha256, digest_bytes, hash_after, compress, rounds, schedule, first_words}
use Rattle.hex.specs.Hex.{encode_with}
use Rattle.cg_meaning.specs.Tree.{Tree, Leaf, Group, none, more, Free, Sequence, Chronology}
use Rattle.cg_meaning.specs.Scene.{Grid, scene_on}
use Rattle.cg_meaning.specs.Cover as cover
use Rattle.cg_model.specs.declared.model.Limit.TheVariants as limits
use Rattle.cg_sharing.specs.Edit as edit
use Rattle.cg_sharing.specs.Cause as cause
use Rattle.cg_sharing.specs.Cause.{Cause}
use Rattle.cg_sharing.specs.Pieces.{Print, Piece, Begun, At, Made, Committed, On, Refused, Marginal, Ranges, Model, Work}
use Rattle.cg_sharing.specs.Course.{Place}
use Rattle.cg_report.specs.Transcript.{Marginals, text_of, text_of_piece, transcripts_of}

-- the grid from 2002 cal BP to 2000
abbrev small_grid : Grid
small_grid = record { oldest = pos 2002; cells = 3 }

-- the pairs of each event but the first, which is told to be impossible
abbrev pairs_of : ℕ → Option (List (ℕ × ℕ))
pairs_of zero = None
pairs_of (suc earlier) = Some ((500000, 500000) ∷ (333333, 333334) ∷ (166666, 166667) ∷ [])

abbrev marginals : Marginals
marginals = λ tree scene event. pairs_of event

abbrev date : List ℕ → Tree
date name = Leaf name Free

-- Sequence("s"){Date("A");Date("B");};
abbrev model : Chronology
model = record {
  curve = None;
  top = more (Group Sequence (codes "s") (more (date (codes "A")) (more (date (codes "B")) none))) none;
}

-- of the event with this name and number
abbrev print_of : List ℕ → ℕ → Print
print_of name event =
    record { name = name; version = 0; chronology = model; scene = scene_on small_grid; event = event }

versions : text_of marginals (Begun 1 ∷ At 0 ∷ Made 1 ∷ Committed 1 ∷ [])
    ≡ codes "session 1\nat v0\nmade v1\ncommitted v1\n"
unfolding digits
versions = refl

a_marginal : text_of marginals (On small_grid ∷ Marginal (print_of (codes "A") 1) ∷ [])
    ≡ codes "grid 2002 2000\nmarginal \"A\" v0\n2002 53 BC 500000 500000\n2001 52 BC 333333 333334\n"
    ++ codes "2000 51 BC 166666 166667\n"
unfolding digits
a_marginal = refl

-- half the posterior and a third cover 68.3 per cent, and all three cells the others
its_ranges : text_of_piece marginals (Ranges (print_of (codes "A") 1))
    ≡ codes "ranges \"A\" v0\n68.3 833333\n2002 53 BC to 2001 52 BC\n95.4 999999\n"
    ++ codes "2002 53 BC to 2000 51 BC\n99.7 999999\n2002 53 BC to 2000 51 BC\n"
unfolding digits
its_ranges = refl

impossible : text_of marginals (Marginal (print_of (codes "B") 0) ∷ Ranges (print_of (codes "B") 0) ∷ [])
    ≡ codes "impossible \"B\" v0\nimpossible \"B\" v0\n"
unfolding digits
impossible = refl

a_model : text_of_piece marginals (Model 3 model)
    ≡ codes "model v3 42 92d186abdafba214eff256aef4465c043e12730500fbd1d0a7bfd89f0700a28c\n"
    ++ codes "Sequence(\"s\"){\n Date(\"A\");\n Date(\"B\");\n};\n"
unfolding digits encode_with sha256 digest_bytes hash_after compress rounds schedule first_words
a_model = refl

counts : text_of_piece marginals Work ≡ codes "work claims 0 hits 0 mine 0 busy 0 noroom 0 published 0\n"
counts = refl

-- a command is refused in each line from this one on
abbrev refused_from : ℕ → List Cause → List Piece
refused_from number [] = []
refused_from number (cause ∷ causes) = Refused number cause ∷ refused_from (number + 1) causes

refusals : text_of marginals (refused_from 1
    (cause.NotOpen ∷ cause.NoGrid ∷ cause.GridLimit (pos 513) ∷ cause.GridLimit (negsuc 0)
    ∷ cause.Fault edit.NoName ∷ cause.Fault (edit.Ambiguous 2) ∷ cause.Fault (edit.WrongKind edit.a_leaf)
    ∷ cause.Fault (edit.WrongKind (edit.a_group Sequence)) ∷ cause.Fault (edit.Past limits.Events)
    ∷ cause.Fault (edit.Past limits.Groups) ∷ cause.Fault (edit.Past limits.Depth) ∷ cause.NoModel
    ∷ cause.NoVersion 3 ∷ cause.NoParent ∷ cause.Moved 1 ∷ cause.Cover cover.NoCurve
    ∷ cause.Cover (cover.Uncovered (pos 2004)) ∷ cause.Cover (cover.Far (negsuc 999)) ∷ []))
    ≡ codes "refused 1 not open\nrefused 2 no grid\nrefused 3 grid limit 513\n"
    ++ codes "refused 4 grid limit -1\nrefused 5 no name\nrefused 6 ambiguous 2\n"
    ++ codes "refused 7 wrong kind Leaf\nrefused 8 wrong kind Sequence\nrefused 9 limit events\n"
    ++ codes "refused 10 limit groups\nrefused 11 limit depth\nrefused 12 no model\n"
    ++ codes "refused 13 no version 3\nrefused 14 no parent\nrefused 15 moved v1\n"
    ++ codes "refused 16 no curve\nrefused 17 uncovered 2004\nrefused 18 far date -1000\n"
unfolding digits
refusals = refl

-- a place at which a session ends that has written its first line and gone to a version, and may be stopped
abbrev place_of : ℕ → Bool → Place
place_of session stopped =
    record {
      left = [];
      written = Begun session ∷ At 0 ∷ [];
      version = Some 0;
      grid = None;
      bases = [];
      stopped = stopped;
    }

ends : transcripts_of marginals 1 (place_of 1 false ∷ place_of 2 true ∷ [])
    ≡ codes "session 1\nat v0\nend 1\n" ∷ codes "session 2\nat v0\nstopped 2 out of memory\n" ∷ []
unfolding digits
ends = refl
