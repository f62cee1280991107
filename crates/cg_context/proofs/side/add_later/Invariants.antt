use Rattle.std.proofs.Common.{◌≡◌, ℕ, ◌+◌, ◌-◌, ◌<◌, ◌≤◌, get_or}
use Rattle.cg_enc.specs.Enclosure.{exact_zero}
use Rattle.cg_table.specs.Table.{entry}
use Rattle.cg_context.specs.Formulas.{into_phase_entry, sum_on}
use Rattle.cg_context.proofs.FallingLemmas.{AreFallen}
use Rattle.cg_context.proofs.PhaseLemmas.{own-term, later-term}
use Rattle.cg_context.proofs.side.add_later.Given as goal

abbrev pub invariant-loop-i : goal.invariant-loop-i
invariant-loop-i g l = record {
  done : AreFallen (into_phase_entry l.x.cells (entry l.x) (entry l.others) l.a) l.x.cells l.a l.base (l.x.cells - l.i) l.initial.sums l.sums;
  left : (d : ℕ) → l.a ≤ d → d < l.x.cells - l.i → get_or l.sums (l.base + (d - l.a)) exact_zero ≡ own-term l.x l.others l.a d;
  later : l.later ≡ sum_on l.x.cells (l.x.cells - l.i) (later-term l.x l.others l.a);
  ticks : l.steps ≡ l.initial.steps + l.i;
}
