use Rattle.std.proofs.Common.{◌≤◌, ◌^◌, length, arith, subst, sym}
use Rattle.cg_enc.specs.Enclosure.{Enclosure, IsExponent}
use Rattle.cg_marginal.proofs.WholeLemmas.{part-IsExponent}
use Rattle.cg_marginal.proofs.parts.whole_of.Goals as goal

pub plus-whole-requires-clause-left : goal.plus-whole-requires-clause-left
plus-whole-requires-clause-left c =
    let within : c.loop-cell.cell ≤ length c.args.n.now = omega arith in
    subst (λ (a : Enclosure). IsExponent (2 ^ 60) a.exp) (sym c.loop-cell.invariant)
    (part-IsExponent c.args.n.now c.loop-cell.cell c.len-cell-end.ensures.entries.valid within c.requires.few c.requires.reach)
