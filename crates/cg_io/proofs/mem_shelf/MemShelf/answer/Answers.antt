use Rattle.std.proofs.Common.{sym, inr, rules, arith}
use Rattle.cg_io.proofs.FilesInLemmas.{get-files_in-Some, get-files_in-None}
use Rattle.cg_io.proofs.ShelfLemmas.{Gives-found}
use Rattle.cg_io.proofs.mem_shelf.MemShelf.answer.Goals as goal

pub returns-in_default-clause-answers : goal.returns-in_default-clause-answers
returns-in_default-clause-answers c = rw (← c.self.view_is) (inr (get-files_in-None c.self.inside.files c.args.name.now (sym c.in_default.ensures.value)))

pub returns-then-len-limit-clause-answers : goal.returns-then-len-limit-clause-answers
returns-then-len-limit-clause-answers c =
    rw (← c.self.view_is) (
      c.in-Some.bytes.now.items,
      Gives-found _ c.args.name.now c.in-Some.bytes.now.items (get-files_in-Some c.self.inside.files c.args.name.now c.in-Some.bytes.now (sym c.in-Some.ensures.value)) c.if-count.ensures.fails.1,
      search rules,
    )

pub returns-clause-answers : goal.returns-clause-answers
returns-clause-answers c =
    rw (← c.self.view_is) (
      c.in-Some.bytes.now.items,
      Gives-found _ c.args.name.now c.in-Some.bytes.now.items (get-files_in-Some c.self.inside.files c.args.name.now c.in-Some.bytes.now (sym c.in-Some.ensures.value)) c.if-count.ensures.fails.1,
      search rules,
      grind arith,
    )
