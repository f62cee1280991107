use Rattle.std.proofs.Common.{rules, ◌≡◌, ◌++◌, Some, Err, Ok, Result, refl, sym, subst, ℤ}
use Rattle.cg_meaning.specs.Scene.{Grid}
use Rattle.cg_sharing.specs.Cause as cause
use Rattle.cg_sharing.specs.Pieces.{On, Refused}
use Rattle.cg_sharing.specs.Course.{grid_of, with_grid}
use Rattle.cg_report.specs.Texts.{refused_line, grid_line}
use Rattle.cg_session.specs.declared.standing.Standing.{Standing}
use Rattle.cg_session.specs.Standing.{Shows}
use Rattle.cg_session.proofs.StandingLemmas.{piece_shown}
use Rattle.cg_session.proofs.standing.Standing.set_grid.Goals as goal

pub returns-in_ok-append-in-Ok-clause-ok : goal.returns-in_ok-append-in-Ok-clause-ok
returns-in_ok-append-in-Ok-clause-ok c = λ place shows.
    let grid = c.in-Ok.grid in
    let is : grid_of c.args.older c.args.younger ≡ Ok grid = search rules in
    let more : c.append.new.self.bytes.items ≡ c.args.self.now.transcript.bytes.items ++ grid_line grid = search rules in
    let new : Standing = record c.args.self.now { transcript = c.append.new.self; grid = Some grid } in
    let P : Result Grid ℤ → Type 0 = λ r. Shows new (with_grid c.args.line r place) in
    subst P (sym is) (piece_shown c.args.self.now new place _ (On grid) shows more refl shows.version refl shows.bases)

pub returns-in-Err-clause-ok : goal.returns-in-Err-clause-ok
returns-in-Err-clause-ok c = λ place shows.
    let cells = c.in-Err.limit.cells in
    let is : grid_of c.args.older c.args.younger ≡ Err cells = search rules in
    let more : c.refuse.new.self.bytes.items ≡ c.args.self.now.transcript.bytes.items ++ refused_line c.args.line (cause.GridLimit cells) = search rules in
    let new : Standing = record c.args.self.now { transcript = c.refuse.new.self } in
    let P : Result Grid ℤ → Type 0 = λ r. Shows new (with_grid c.args.line r place) in
    subst P (sym is) (piece_shown c.args.self.now new place _ (Refused c.args.line (cause.GridLimit cells)) shows more refl shows.version shows.grid shows.bases)
