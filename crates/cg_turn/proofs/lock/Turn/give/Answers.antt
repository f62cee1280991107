use Rattle.std.proofs.Common.{◌∷◌, ◌∙◌, ℕ, List, Option, Some, ◌++◌, ap, sym, subst, rules}
use Rattle.atomic_table.specs.Table.{Me, rest}
use Rattle.cg_turn.specs.declared.view.View.{View}
use Rattle.cg_turn.specs.Logs.{AllBy}
use Rattle.cg_turn.proofs.LogLemmas.{one_value}
use Rattle.cg_turn.proofs.StoreLemmas.{stores_length}
use Rattle.cg_turn.proofs.PassLemmas.{passes}
use Rattle.cg_turn.proofs.lock.Turn.give.Goals as goal

pub store-requires : goal.store-requires
store-requires g c =
    let V = g.row.V.Denot in
    let Sight = View g.row.V-Ground.Denot g.row.V-Entry.Denot in
    let after = c.exchange-before.ensures.3 in
    let view = ap (λ (m : Me (Option V) Sight). m.0) after in
    let turn = c.requires.turn in
    let log = c.requires.log in (
      search rules,
      search rules,
      stores_length _ _ _ _ _ _ _ _ c.exchange-before.new.seat.me c.args.value log.0 c.length-length.result
          (ap (λ (v : Sight). v.phase) view ∙ turn.0)
          (ap (λ (m : Me (Option V) Sight). m.1) after ∙ ap (λ (l : List (ℕ × Option V)). (0, Some c.args.value) ∷ rest l) turn.1)
          (log.1 ∙ ap (λ (v : Sight). v.seen ++ log.0) (sym view))
          (subst (λ (v : Sight). AllBy g.V.Logged.seat_of v.number log.0) (sym view) log.2)
          c.length-length.ensures,
    )

pub fetch_add-requires : goal.fetch_add-requires
fetch_add-requires g c =
    let V = g.row.V.Denot in
    let Sight = View g.row.V-Ground.Denot g.row.V-Entry.Denot in
    let after = c.exchange-before.ensures.3 in
    let view = ap (λ (m : Me (Option V) Sight). m.0) after in
    let has = ap (λ (m : Me (Option V) Sight). m.1) after ∙ ap (λ (l : List (ℕ × Option V)). (0, Some c.args.value) ∷ rest l) c.requires.turn.1 in
    let n = c.store.ensures.2 in
    let base : Sight → Option g.row.V-Ground.Denot = λ v. v.seen_ground in
    let same = one_value n.0 c.args.value c.exchange-before.new.seat.me.1 n.1 has in (
      search rules,
      search rules,
      passes _ _ _ _ _ _ _ _ c.store.new.seat.me n.0
          (ap (λ (v : Sight). v.phase) n.2)
          (n.3 ∙ n.1)
          (ap base n.2 ∙ (ap base view ∙ (c.requires.same_ground ∙ ap (λ (y : V). Some (g.V.Logged.ground_of y)) (sym same))))
          (sym (ap (λ (v : Sight). v.seen) n.2)),
    )
