use Rattle.std.proofs.Common.{◌∙◌, arith, option_map}
use Rattle.std.proofs.lemmas.Result.{err_from_is_err_and}
use Rattle.cg_meaning.specs.Scene.{scene_of}
use Rattle.cg_model.specs.Dating.{dating_of}
use Rattle.cg_like.specs.Cover.{rows_of, fault_in}
use Rattle.cg_like.proofs.CoverLemmas.{fault_from-here, fault_from-later, fault_from-end, fault_from-all, same_fault}
use Rattle.cg_like.proofs.cover.first_fault.Goals as goal

pub loop-cell-init : goal.loop-cell-init
loop-cell-init c = record {
  none = fault_from-all (scene_of c.args.grid.now (rows_of (option_map (λ c. c.now) c.args.curve))) (dating_of c.args.dating.now) c.args.grid.now.cells;
  known = λ less. absurd (omega arith);
}

pub returns-in_err-check-clause-fault : goal.returns-in_err-check-clause-fault
returns-in_err-check-clause-fault c =
    let scene = scene_of c.args.grid.now (rows_of (option_map (λ c. c.now) c.args.curve)) in
    let p = err_from_is_err_and c.from_residual.result c.from_residual.ensures.1 in
    rw (p.1, p.2)
    (c.loop-cell.invariant.none
    ∙ fault_from-here scene (dating_of c.args.dating.now) c.loop-cell.cell c.args.grid.now.cells (fault_in c.in_err-check.field-0.0) (omega arith)
    (same_fault _ _ _ _ _ c.year.ensures c.distance_at.ensures.value c.in_err-check.ensures.fault))

pub loop-cell-preserved : goal.loop-cell-preserved
loop-cell-preserved c =
    let scene = scene_of c.args.grid.now (rows_of (option_map (λ c. c.now) c.args.curve)) in
    record {
      none = c.loop-cell.invariant.none
          ∙ fault_from-later scene (dating_of c.args.dating.now) c.loop-cell.cell c.args.grid.now.cells (omega arith)
          (same_fault _ _ _ _ _ c.year.ensures c.distance_at.ensures.value c.in_ok-check.ensures.ok);
      known = λ more. c.distance_at.ensures.known;
    }

pub returns-clause-ok : goal.returns-clause-ok
returns-clause-ok c =
    let scene = scene_of c.args.grid.now (rows_of (option_map (λ c. c.now) c.args.curve)) in
    c.loop-cell.invariant.none ∙ fault_from-end scene (dating_of c.args.dating.now) c.loop-cell.cell c.args.grid.now.cells (omega arith)

pub returns-clause-known : goal.returns-clause-known
returns-clause-known c = c.loop-cell.invariant.known (omega arith)
