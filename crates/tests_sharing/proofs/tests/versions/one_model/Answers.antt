use Rattle.std.proofs.Common.{[], ◌≡◌, refl}
use Rattle.std.specs.Prelude.{codes}
use Rattle.std.proofs.lemmas.List.Elements.{All-nil, All-cons}
use Rattle.tests_sharing.proofs.tests.versions.one_model.Goals as goal

pub returns-clause-names : goal.returns-clause-names
returns-clause-names c = rw (c.in_ok-push.ensures.ok, c.new-models.ensures)
    (All-cons (λ model. model.name ≡ codes "old") _ [] c.in_ok-name.ensures (All-nil (λ model. model.name ≡ codes "old")))

pub returns-clause-count : goal.returns-clause-count
returns-clause-count c = rw (c.in_ok-push.ensures.ok, c.new-models.ensures) refl
