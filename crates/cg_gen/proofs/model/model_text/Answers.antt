use Rattle.std.proofs.Common.{◌≡◌, ◌++◌, ◌∙◌, ℕ, List, [], Some, ap, codes}
use Rattle.cg_writing.specs.Text.{call_text, curve_text, line, model_text, name_text, statement_text}
use Rattle.cg_gen.specs.Draws.{after}
use Rattle.cg_gen.specs.Texts.{boundary, model, phase}
use Rattle.cg_gen.proofs.DrawLemmas.{after-more}
use Rattle.cg_gen.proofs.TextLemmas.{enclosed}
use Rattle.cg_gen.proofs.model.model_text.Goals as goal

-- the pieces are those of the model
whole : (x y : ℕ) (none head first second third fourth fifth new : List ℕ) → none ≡ [] → head ≡ none ++ codes "Curve(\"C.14c\");\nSequence(\"s\"){\n" →
    first ≡ head ++ statement_text 1 (boundary 0) → second ≡ first ++ statement_text 1 (phase 0 2690 x) →
    third ≡ second ++ statement_text 1 (boundary 1) → y ≡ after x 20 → fourth ≡ third ++ statement_text 1 (phase 1 2570 y) →
    fifth ≡ fourth ++ statement_text 1 (boundary 2) → new ≡ fifth ++ codes "};\n" → new ≡ model_text (model x)
whole x y none head first second third fourth fifth new h0 h1 h2 h3 h4 at h5 h6 h7 =
    let curve = curve_text (Some (codes "C.14c")) in
    let opening = line 0 (call_text (codes "Sequence") (name_text (codes "s") []) ++ codes "{") in
    let p : List ℕ = statement_text 1 (phase 0 2690 x) in
    let q : List ℕ = statement_text 1 (phase 1 2570 (after x 20)) in
    let b : ℕ → List ℕ = λ n. statement_text 1 (boundary n) in
    h7 ∙ rw (h6, h5, h4, h3, h2, h1, h0, at) (enclosed curve opening (b 0) p (b 1) q (b 2) (codes "};\n"))

pub returns-clause-text : goal.returns-clause-text
returns-clause-text c = whole c.args.draws.now c.push_phase.new.draws c.new-text.result.items c.extend_from_slice.new.self.items c.push_boundary.new.text.items c.push_phase.new.text.items c.push_boundary-2.new.text.items
    c.push_phase-2.new.text.items c.push_boundary-3.new.text.items c.extend_from_slice-2.new.self.items c.new-text.ensures.items c.in_ok-extend_from_slice.ensures.items c.in_ok-push_boundary.ensures c.in_ok-push_phase.ensures.text
    c.in_ok-push_boundary-2.ensures c.in_ok-push_phase.ensures.draws c.in_ok-push_phase-2.ensures.text c.in_ok-push_boundary-3.ensures c.in_ok-extend_from_slice-2.ensures.items

pub returns-clause-draws : goal.returns-clause-draws
returns-clause-draws c = c.in_ok-push_phase-2.ensures.draws ∙ ap (λ n. after n 20) c.in_ok-push_phase.ensures.draws ∙ after-more c.args.draws.now 20 20
