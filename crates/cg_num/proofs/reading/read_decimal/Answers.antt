use Rattle.std.specs.Char.{is_ascii_digit}
use Rattle.cg_num.proofs.DigitLemmas.{list_all-take_prefix}
use Rattle.cg_num.proofs.reading.read_decimal.Goals as goal

pub value_of-requires-clause-whole : goal.value_of-requires-clause-whole
value_of-requires-clause-whole c = rw (c.split_at.ensures.front, c.digits_len.ensures.value) (list_all-take_prefix is_ascii_digit c.without_sign-body.result.now)
