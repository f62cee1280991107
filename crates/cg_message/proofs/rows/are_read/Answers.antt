use Rattle.std.proofs.Common.{inr, arith}
use Rattle.std.proofs.lemmas.Int.{ints}
use Rattle.cg_message.proofs.rows.are_read.Goals as goal

pub returns-in-Some : goal.returns-in-Some
returns-in-Some c =
    rw c.in-Some.is (record {
      grid = record {
        some = omega (arith, c.cells-youngest.ensures.cells, c.cells-youngest.ensures.some);
        few = omega (arith, c.cells-youngest.ensures.cells, c.cells-youngest.ensures.few);
        old = omega (arith, ints, c.bp-old.ensures.high, c.bp-old.ensures.number, c.year.ensures);
        young = omega (arith, ints, c.bp-young.ensures.low, c.bp-young.ensures.number, c.year-2.ensures, c.cells-youngest.ensures.cells, c.cells-youngest.ensures.some);
      };
      curve = inr c.at-first.ensures.valid;
    })
