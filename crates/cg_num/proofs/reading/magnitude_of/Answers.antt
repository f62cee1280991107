use Rattle.std.proofs.Common.{arith, ◌≤◌, length, lit≤}
use Rattle.std.specs.Char.{is_ascii_digit}
use Rattle.std.specs.List.{prefix_len}
use Rattle.cg_num.specs.Decimal.{is_zero}
use Rattle.cg_num.proofs.DigitLemmas.{list_all-drop, list_all-three_of, length-three_of, number_of-joined, below_ten_to}
use Rattle.cg_num.proofs.reading.magnitude_of.Goals as goal

pub number_of-requires-clause-digits : goal.number_of-requires-clause-digits
number_of-requires-clause-digits c =
    rw c.significant.ensures (list_all-drop is_ascii_digit (prefix_len is_zero c.args.whole.now) c.args.whole.now c.requires.whole)

pub overflow_mul-result : goal.overflow_mul-result
overflow_mul-result c =
    let few : length c.significant.result.now ≤ 12 = rw c.significant.ensures c.requires.few in
    omega (arith, below_ten_to c.number_of.result (length c.significant.result.now) 12 c.number_of.ensures.below few)

pub number_of-requires-2-clause-digits : goal.number_of-requires-2-clause-digits
number_of-requires-2-clause-digits c = rw c.three_of.ensures (list_all-three_of c.args.decimals.now c.requires.decimals)

pub overflow_add-result : goal.overflow_add-result
overflow_add-result c =
    let few : length c.significant.result.now ≤ 12 = rw c.significant.ensures c.requires.few in
    let three : length c.three_of.result ≤ 3 = rw (c.three_of.ensures, length-three_of c.args.decimals.now) (lit≤ tt) in
    omega (
      arith,
      below_ten_to c.number_of.result (length c.significant.result.now) 12 c.number_of.ensures.below few,
      below_ten_to c.number_of-2.result (length c.three_of.result) 3 c.number_of-2.ensures.below three,
    )

pub returns-clause-value : goal.returns-clause-value
returns-clause-value c = let joined = number_of-joined c.args.whole.now c.args.decimals.now in cc

pub returns-clause-below : goal.returns-clause-below
returns-clause-below c =
    let few : length c.significant.result.now ≤ 12 = rw c.significant.ensures c.requires.few in
    let three : length c.three_of.result ≤ 3 = rw (c.three_of.ensures, length-three_of c.args.decimals.now) (lit≤ tt) in
    omega (
      arith,
      below_ten_to c.number_of.result (length c.significant.result.now) 12 c.number_of.ensures.below few,
      below_ten_to c.number_of-2.result (length c.three_of.result) 3 c.number_of-2.ensures.below three,
    )
