use Rattle.cg_path.proofs.Order.{any-order}
use Rattle.cg_path.proofs.laws.order_does_not_count.Goals as goal

pub returns : goal.returns
returns c = any-order
