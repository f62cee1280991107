use Rattle.std.proofs.Common.{rules, sym, ◌∙◌, ap, Some, Option, ◌∷◌, List, ℕ}
use Rattle.atomic_table.specs.Table.{rest}
use Rattle.cg_turn.specs.declared.view.View.{View}
use Rattle.cg_turn.proofs.DrawLemmas.{draws}
use Rattle.cg_turn.proofs.LookLemmas.{looks}
use Rattle.cg_turn.proofs.LoadLemmas.{loads_length}
use Rattle.cg_turn.proofs.lock.Turn.take.Goals as goal

pub fetch_add-ticket-requires : goal.fetch_add-ticket-requires
fetch_add-ticket-requires g c = (search rules, search rules, draws _ _ _ _ _ _ _ _ c.args.seat.now.seat.me c.requires.idle.0)

pub load-requires : goal.load-requires
load-requires g c = (search rules, search rules, looks _ _ _ _ _ _ _ _ _ c.loop.invariant.waiting)

pub load-requires-then-load-ticket : goal.load-requires-then-load-ticket
load-requires-then-load-ticket g c =
    let Sight = View g.row.V-Ground.Denot g.row.V-Entry.Denot in
    let due = c.load.ensures.2.0 (c.if-load-ticket.true ∙ c.loop.invariant.ticket) in (
      search rules,
      search rules,
      loads_length _ _ _ _ _ _ _ _ c.load.new.seat.me
          (ap (λ (v : Sight). v.phase) due.0)
          (due.1 ∙ c.loop.invariant.empty),
    )

pub exchange-requires : goal.exchange-requires
exchange-requires g c =
    let x = c.load-then-load-ticket.ensures.2 in
    (search rules, (Some x.0, x.2 ∙ ap (λ (l : List (ℕ × Option g.row.V.Denot)). (0, Some x.0) ∷ rest l) (sym x.2)))
