use Rattle.std.proofs.Common.{◌≡◌, ◌*◌, ◌++◌, ◌∙◌, ℕ, List, pos, codes}
use Rattle.cg_meaning.specs.Tree.{Carbon}
use Rattle.cg_writing.specs.Text.{quoted, statement_text, values_text}
use Rattle.cg_gen.specs.Texts.{dated, numbered}
use Rattle.cg_gen.proofs.TextLemmas.{event-line}
use Rattle.cg_gen.proofs.model.push_dated.Goals as goal

-- the pieces are those of the event
whole : (old first second third fourth new : List ℕ) (number age error : ℕ) → first ≡ old ++ codes "  R_Date(" → second ≡ first ++ quoted (numbered (codes "d") number) → third ≡ second ++ codes "," →
    fourth ≡ third ++ values_text (Carbon (pos (1000 * age)) (pos (1000 * error))) → new ≡ fourth ++ codes ");\n" → new ≡ old ++ statement_text 2 (dated number age error)
whole old first second third fourth new number age error h1 h2 h3 h4 h5 =
    h5 ∙ rw (h4, h3, h2, h1) (event-line old (codes "  ") (codes "R_Date(") (quoted (numbered (codes "d") number)) (codes ",") (values_text (Carbon (pos (1000 * age)) (pos (1000 * error)))) (codes ")") (codes ";") (codes "\n"))

pub returns : goal.returns
returns c = whole c.args.text.now.items c.extend_from_slice.new.self.items c.push_name.new.text.items c.push.new.self.items c.push_values.new.text.items c.extend_from_slice-2.new.self.items c.args.number c.args.age c.args.error
    c.in_ok-extend_from_slice.ensures.items c.in_ok-push_name.ensures c.in_ok-push.ensures.items c.in_ok-push_values.ensures c.in_ok-extend_from_slice-2.ensures.items
