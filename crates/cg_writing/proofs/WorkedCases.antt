-- The canonical text of two chronologies.
use Rattle.std.proofs.Common.{◌≡◌, [], Some, None, codes, refl, pos, negsuc}
use Rattle.std.specs.Fmt.{digits}
use Rattle.cg_num.specs.Written.{decimal_text}
use Rattle.cg_meaning.specs.Tree.{Free, Exact, Normal, Carbon, Sequence, After, Leaf, Boundary, Group, none, more, Chronology}
use Rattle.cg_writing.specs.Text.{model_text}

-- two events in order, each one blank deeper than their group
two_events : Chronology
two_events = record { curve = None; top = more (Group Sequence (codes "s") (more (Leaf (codes "A") Free) (more (Leaf (codes "B") Free) none))) none }

two_events-text : model_text two_events ≡ codes "Sequence(\"s\"){\n Date(\"A\");\n Date(\"B\");\n};\n"
unfolding two_events
two_events-text = refl

-- A curve, 50 BC and AD 1 with and without an error, an age with a part of a year, and nothing for an empty name.
each_dating : Chronology
each_dating = record {
  curve = Some (codes "IntCal20.14c");
  top =
      more (Group Sequence [] (more (Boundary (codes "S")) (more (Group After [] (more (Leaf (codes "B") (Normal (pos 1999) (pos 5500))) none))
      (more (Leaf [] (Carbon (negsuc 499) (pos 30000))) none)))) (more (Leaf (codes "P") (Exact (pos 1999))) (more (Leaf [] (Exact (pos 1949))) none));
}

each_dating-text : model_text each_dating
    ≡ codes "Curve(\"IntCal20.14c\");\nSequence(){\n Boundary(\"S\");\n After(){\n  C_Date(\"B\",-50,5.5);\n };\n R_Date(-0.5,30);\n};\nC_Date(\"P\",-50);\nC_Date(1);\n"
unfolding each_dating decimal_text digits
each_dating-text = refl
