use Rattle.std.proofs.Common.{arith}
use Rattle.cg_run.proofs.OutputLemmas.{within_all, next_length}
use Rattle.cg_run.proofs.output.fits_usize.Goals as goal

pub returns-in-None : goal.returns-in-None
returns-in-None c =
    let w = within_all (λ text. text.items) c.args.texts.now c.loop-text.text-index c.text-item.result c.text-item.is c.loop-text-test.true in
    ((λ e. absurd cc), (λ fits. absurd (c.in-None.ensures (omega (arith, w, fits, c.len.ensures, c.loop-text.invariant.count)))))

pub loop-text-preserved : goal.loop-text-preserved
loop-text-preserved c =
    let e = next_length (λ text. text.items) c.args.texts.now c.loop-text.text-index c.text-item.result c.text-item.is c.loop-text-test.true in
    record {
      count = omega (arith, e, c.in-Some.ensures.1, c.len.ensures, c.loop-text.invariant.count);
      fits = omega (arith, c.in-Some.ensures.0, c.in-Some.ensures.1);
    }
