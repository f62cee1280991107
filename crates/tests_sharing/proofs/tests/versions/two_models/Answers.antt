use Rattle.std.proofs.Common.{◌≢◌, ◌∙◌, ◌≡◌, sym, ap, arith}
use Rattle.std.specs.Prelude.{codes, slice_index}
use Rattle.tests_sharing.proofs.tests.versions.two_models.Goals as goal

-- the first letters differ
differ : codes "old" ≢ codes "new"
differ same = let first : 111 ≡ 110 = ap (λ name. slice_index name 0) same in absurd (omega (arith, first))

pub push-requires-clause-fresh : goal.push-requires-clause-fresh
push-requires-clause-fresh c = λ k model within same. differ (sym (c.in_ok-models.ensures.names k model within) ∙ same ∙ c.in_ok-name.ensures)
