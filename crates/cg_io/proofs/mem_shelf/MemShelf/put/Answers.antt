use Rattle.std.proofs.Common.{ap}
use Rattle.cg_io.specs.MemShelf.{ByName, ShelfState}
use Rattle.cg_io.proofs.FilesInLemmas.{files_in-insert}
use Rattle.cg_io.proofs.mem_shelf.MemShelf.put.Goals as goal

pub returns-clause-ok : goal.returns-clause-ok
returns-clause-ok c =
    let put = files_in-insert c.self.inside.files c.insert.new.self c.in_ok-name.name c.in_ok-bytes.bytes c.in_ok-insert.ensures.updates in
    let seen = rw (c.in_ok-name.ensures.ok, c.in_ok-bytes.ensures.items) at put in
    rw (← c.self.view_is) (ap (λ (f : ByName). let s : ShelfState = record { files = f; calls = c.self.inside.calls; faults = c.self.inside.faults } in s) seen)
