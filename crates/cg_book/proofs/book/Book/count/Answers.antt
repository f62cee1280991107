use Rattle.std.proofs.Common.{◌∙◌, ap}
use Rattle.cg_sharing.specs.Versions.{count_of}
use Rattle.cg_sharing.specs.Journal.{Shared}
use Rattle.cg_book.proofs.book.Book.count.Goals as goal

pub returns : goal.returns
returns g c = rw (← c.self.view_is) (c.count.ensures ∙ ap (λ (shared : Shared). count_of shared.state) c.self.invariant.0.replay)
