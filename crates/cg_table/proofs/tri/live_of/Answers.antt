use Rattle.std.proofs.Common.{◌≡◌, ◌+◌, ◌-◌, ◌≤◌, ◌∙◌, Bool, ℕ, inl, inr, List, length, take, drop, get_or, ap, sym, rules, arith}
use Rattle.std.specs.List.{All}
use Rattle.std.proofs.lemmas.Bool.{cases_lt}
use Rattle.std.proofs.lemmas.List.{get_or-take, get_or-drop, get_or_past, length-take, length-drop}
use Rattle.cg_enc.specs.Enclosure.{Enclosure, exact_zero}
use Rattle.cg_table.specs.Live.{any_live, live_in, padded}
use Rattle.cg_table.specs.Table.{start}
use Rattle.cg_table.proofs.LiveLemmas.{live_until-found, live_until-passed, live_until-same, padded-dead, row-padded}
use Rattle.cg_table.proofs.PlaceLemmas.{start_next, start_rises}
use Rattle.cg_table.proofs.tri.live_of.Goals as goal
use Rattle.cg_table.proofs.tri.live_of.Goals.{In-loop-passed}

pub loop-passed-init : goal.loop-passed-init
loop-passed-init c =
    let all : c.args.rows - 0 ≡ c.args.rows = omega arith in
    rw all (record {
      live = live_until-same (padded c.args.cells c.args.entries.now) c.args.cells c.args.rows c.requires.within (λ a low less. padded-dead c.args.cells c.args.rows c.args.entries.now a c.requires.count low);
      place = c.requires.count;
      zeros = λ i past. get_or_past c.args.entries.now i exact_zero past;
    })

-- the row that is looked at is within the entries, and begins at its start
ends : (c : In-loop-passed) → c.loop-passed.begin ≤ length c.args.entries.now
ends c = omega (arith, c.loop-passed.invariant.place, c.requires.count, start_rises c.args.cells (c.args.rows - c.loop-passed.passed) c.args.rows (omega arith))

pub offset_bounds-entries-begin : goal.offset_bounds-entries-begin
offset_bounds-entries-begin c = let fits = ends c in search rules

pub slice_bounds-has_live-end : goal.slice_bounds-has_live-end
slice_bounds-has_live-end c = let fits = ends c in search rules

begins : (cells live a end : ℕ) → live ≡ a + 1 → end ≡ start cells live → end - (cells - a) ≡ start cells a
begins cells live a end e at = omega (arith, at, start_next cells a, ap (start cells) e)

-- what is found of the row is whether it is live
found : (cells rows live a end : ℕ) (xs : List Enclosure) (b : Bool) → rows ≤ cells → length xs ≡ start cells rows → live ≤ rows → live ≡ a + 1 → end ≡ start cells live →
    b ≡ any_live (take (end - (end - (cells - a))) (drop (end - (cells - a)) xs)) → live_in (padded cells xs) a ≡ b
found cells rows live a end xs b few long within e at is =
    let begin = begins cells live a end e at in
    let wide : end - (end - (cells - a)) ≡ cells - a = omega (arith, at, start_next cells a, ap (start cells) e) in
    ap any_live (sym (row-padded cells rows xs a (end - (cells - a)) long (omega arith) few begin)) ∙ sym (is ∙ ap (λ (n : ℕ). any_live (take n (drop (end - (cells - a)) xs))) wide)

-- zeros go on before zeros
zeros_more : (begin end i : ℕ) (xs : List Enclosure) → begin ≤ end → end ≤ length xs → All (λ (e : Enclosure). e ≡ exact_zero) (take (end - begin) (drop begin xs)) →
    ((i : ℕ) → end ≤ i → get_or xs i exact_zero ≡ exact_zero) → begin ≤ i → get_or xs i exact_zero ≡ exact_zero
zeros_more begin end i xs le inside row rest low =
    elim (cases_lt i end) [
      | inl before ↦
          let at : begin + (i - begin) ≡ i = omega arith in
          ap (λ (k : ℕ). get_or xs k exact_zero) (sym at) ∙ sym (get_or-drop begin xs (i - begin) exact_zero) ∙ sym (get_or-take (end - begin) (drop begin xs) (i - begin) exact_zero (omega arith))
          ∙ row (i - begin) exact_zero (omega (arith, length-take (end - begin) (drop begin xs), length-drop begin xs))
      | inr behind ↦ rest i behind
    ]

pub returns-then-has_live-clause-value : goal.returns-then-has_live-clause-value
returns-then-has_live-clause-value c =
    let live : ℕ = c.args.rows - c.loop-passed.passed in
    sym (c.loop-passed.invariant.live ∙ live_until-found (padded c.args.cells c.args.entries.now) live (live - 1) (omega arith)
    (found c.args.cells c.args.rows live (live - 1) c.loop-passed.begin c.args.entries.now c.has_live.result c.requires.within c.requires.count (omega arith) (omega arith) c.loop-passed.invariant.place c.has_live.ensures.value ∙ c.if-has_live.true))

pub loop-passed-preserved : goal.loop-passed-preserved
loop-passed-preserved c =
    let live : ℕ = c.args.rows - c.loop-passed.passed in
    let next : c.args.rows - (c.loop-passed.passed + 1) ≡ live - 1 = omega arith in
    rw next (record {
      live = c.loop-passed.invariant.live ∙ live_until-passed (padded c.args.cells c.args.entries.now) live (live - 1) (omega arith)
          (found c.args.cells c.args.rows live (live - 1) c.loop-passed.begin c.args.entries.now c.has_live.result c.requires.within c.requires.count (omega arith) (omega arith) c.loop-passed.invariant.place c.has_live.ensures.value ∙ c.if-has_live.false);
      place = begins c.args.cells live (live - 1) c.loop-passed.begin (omega arith) c.loop-passed.invariant.place;
      zeros = λ i low. zeros_more (c.loop-passed.begin - (c.args.cells - (live - 1))) c.loop-passed.begin i c.args.entries.now (omega arith)
          (omega (arith, c.loop-passed.invariant.place, c.requires.count, start_rises c.args.cells live c.args.rows (omega arith))) (c.has_live.ensures.zeros c.if-has_live.false) c.loop-passed.invariant.zeros low;
    })
