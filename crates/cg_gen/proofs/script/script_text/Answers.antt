use Rattle.std.proofs.Common.{◌≡◌, ◌+◌, ◌*◌, ◌++◌, ◌∙◌, ℕ, List, ap, append_assoc, codes, refl, sym, arith}
use Rattle.std.specs.List.{flat_map, range_with_len}
use Rattle.cg_gen.specs.Texts.{drawn_set, print_line, script_text}
use Rattle.cg_gen.proofs.TextLemmas.{piece-more}
use Rattle.cg_gen.proofs.script.script_text.Goals as goal

pub loop-i-preserved : goal.loop-i-preserved
loop-i-preserved c =
    let k = c.args.k in
    let i = c.loop-i.i in
    piece-more (λ i. print_line (5 * k + i)) (codes "open main\ngrid 2799 2600\n") c.loop-i.text.items c.push_print.new.text.items (print_line (5 * k + i)) i c.loop-i.invariant c.in_ok-push_print.ensures refl

-- the pieces are those of the script
whole : (text next new : List ℕ) (k x n : ℕ) → n ≡ 5 → text ≡ codes "open main\ngrid 2799 2600\n" ++ flat_map (λ i. print_line (5 * k + i)) (range_with_len 0 n) → next ≡ text ++ drawn_set x → new ≡ next ++ codes "ranges \"b1\"\ncommit main\nwork\n" →
    new ≡ script_text k x
whole text next new k x n end h is is' =
    let prints = flat_map (λ i. print_line (5 * k + i)) (range_with_len 0 n) in
    let all : prints ≡ flat_map (λ i. print_line (5 * k + i)) (range_with_len 0 5) = rw end refl in
    let open_grid = codes "open main\ngrid 2799 2600\n" in
    let done = (open_grid ++ flat_map (λ i. print_line (5 * k + i)) (range_with_len 0 5)) ++ drawn_set x in
    let ranges = codes "ranges \"b1\"\n" in
    let commit = codes "commit main\n" in
    let work = codes "work\n" in
    is' ∙ ap (λ (t : List ℕ). t ++ codes "ranges \"b1\"\ncommit main\nwork\n") (is ∙ ap (λ (t : List ℕ). t ++ drawn_set x) (h ∙ ap (λ (t : List ℕ). open_grid ++ t) all))
    ∙ sym (append_assoc done (ranges ++ commit) work) ∙ ap (λ (t : List ℕ). t ++ work) (sym (append_assoc done ranges commit))

pub returns-clause-text : goal.returns-clause-text
returns-clause-text c = whole c.loop-i.text.items c.push_drawn.new.text.items c.extend_from_slice-2.new.self.items c.args.k c.args.draws.now c.loop-i.i (omega arith) c.loop-i.invariant c.in_ok-push_drawn.ensures.text c.in_ok-extend_from_slice-2.ensures.items
