use Rattle.std.proofs.Common.{◌≡◌, ◌+◌, ◌*◌, ◌++◌, ◌∙◌, ℕ, List, [], ap, append_assoc, append-nil, map, codes, sym, arith}
use Rattle.std.specs.List.{flat_map, range_with_len}
use Rattle.cg_writing.specs.Text.{call_text, line, name_text, statement_text, statements_text}
use Rattle.cg_meaning.specs.Tree.{Tree}
use Rattle.cg_gen.specs.Draws.{after}
use Rattle.cg_gen.specs.Texts.{drawn_date, numbered, phase, trees}
use Rattle.cg_gen.proofs.DrawLemmas.{after-none, pair-more}
use Rattle.cg_gen.proofs.TextLemmas.{members-text, piece-more}
use Rattle.cg_gen.proofs.model.push_phase.Goals as goal

-- the line that opens a Phase
abbrev opening : ℕ → List ℕ
opening number = line 1 (call_text (codes "Phase") (name_text (numbered (codes "p") number) []) ++ codes "{")

-- its date at place i
abbrev date : ℕ → ℕ → ℕ → ℕ → Tree
date number least x i = drawn_date (10 * number + i) least (after x (2 * i))

pub loop-i-init : goal.loop-i-init
loop-i-init c = record {
  text = c.in_ok-push_opening.ensures ∙ sym (append-nil (c.args.text.now.items ++ opening c.args.number));
  draws = sym (after-none c.args.draws.now);
}

pub loop-i-preserved : goal.loop-i-preserved
loop-i-preserved c =
    let x = c.args.draws.now in
    let i = c.loop-i.i in
    let number = c.args.number in
    let least = c.args.least in
    record {
      text = piece-more (λ i. statement_text 2 (date number least x i)) (c.args.text.now.items ++ opening number) c.loop-i.text.items c.push_drawn.new.text.items (statement_text 2 (drawn_date (10 * number + i) least c.loop-i.draws)) i
          c.loop-i.invariant.text c.in_ok-push_drawn.ensures.text (ap (λ (n : ℕ). statement_text 2 (drawn_date (10 * number + i) least n)) c.loop-i.invariant.draws);
      draws = pair-more x c.loop-i.draws c.push_drawn.new.draws i c.push_drawn.ensures.draws c.loop-i.invariant.draws;
    }

-- the pieces are those of the Phase
whole : (old text new : List ℕ) (number least x n : ℕ) → n ≡ 10 → text ≡ (old ++ opening number) ++ flat_map (λ i. statement_text 2 (date number least x i)) (range_with_len 0 n) → new ≡ text ++ line 1 (codes "};") →
    new ≡ old ++ statement_text 1 (phase number least x)
whole old text new number least x n end h is =
    let dates = flat_map (λ i. statement_text 2 (date number least x i)) (range_with_len 0 n) in
    let members : dates ≡ statements_text 2 (trees (map (date number least x) (range_with_len 0 10))) = rw end (sym (members-text 2 10 (date number least x))) in
    is ∙ ap (λ (t : List ℕ). t ++ line 1 (codes "};")) (h ∙ append_assoc old (opening number) dates ∙ ap (λ (t : List ℕ). old ++ (opening number ++ t)) members)
    ∙ append_assoc old (opening number ++ statements_text 2 (trees (map (date number least x) (range_with_len 0 10)))) (line 1 (codes "};"))

pub returns-clause-text : goal.returns-clause-text
returns-clause-text c = whole c.args.text.now.items c.loop-i.text.items c.extend_from_slice.new.self.items c.args.number c.args.least c.args.draws.now c.loop-i.i (omega arith) c.loop-i.invariant.text c.in_ok-extend_from_slice.ensures.items

pub returns-clause-draws : goal.returns-clause-draws
returns-clause-draws c =
    let end : 2 * c.loop-i.i ≡ 20 = omega arith in
    c.loop-i.invariant.draws ∙ ap (after c.args.draws.now) end
