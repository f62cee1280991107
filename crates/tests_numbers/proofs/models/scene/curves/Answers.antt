use Rattle.std.proofs.lemmas.List.Elements.{All-nil}
use Rattle.tests_numbers.proofs.models.scene.curves.Goals as goal

pub push-requires-clause-new : goal.push-requires-clause-new
push-requires-clause-new c = rw c.new-curves.ensures (All-nil _)
