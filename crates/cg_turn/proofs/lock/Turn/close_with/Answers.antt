use Rattle.std.proofs.Common.{◌≡◌, ◌∙◌, ap, sym, refl, subst, IsSome, Some, Option, List}
use mathlib.Core.Option.{some-injective}
use mathlib.Core.Option as maybe
use lib.ListN.{get_elem?}
use Rattle.cg_turn.specs.Rule.{HasAll}
use Rattle.cg_turn.proofs.EndLemmas.{ends}
use Rattle.cg_turn.proofs.lock.Turn.close_with.Goals as goal

-- the value that is taken is the one in the slot
some_value : (V : Type 0) (x r : V) (o : Option V) → Some x ≡ o → o ≡ Some r → x ≡ r
some_value V x r o a b = cc

pub unwrap-value-requires : goal.unwrap-value-requires
unwrap-value-requires g c =
    let V = g.row.V.Denot in
    let f = c.close_with-closed.ensures.values.2 in
    let home = ends _ _ _ _ _ _ f.0 f.1.0 c.args.first.seat.id c.args.first.seat.me.0 f.1.1 c.requires.idle.0 c.requires.number c.requires.all in
    let there = f.4 0 (Some home.0) (ap (λ (hs : List (maybe.Option (Option V))). get_elem? hs 0) home.1) in
    let same = some-injective (Some home.0) c.take.result (sym there ∙ c.take.ensures.value) in
    subst IsSome same refl

pub returns : goal.returns
returns g c =
    let V = g.row.V.Denot in
    let f = c.close_with-closed.ensures.values.2 in
    let home = ends _ _ _ _ _ _ f.0 f.1.0 c.args.first.seat.id c.args.first.seat.me.0 f.1.1 c.requires.idle.0 c.requires.number c.requires.all in
    let there = f.4 0 (Some home.0) (ap (λ (hs : List (maybe.Option (Option V))). get_elem? hs 0) home.1) in
    let same = some-injective (Some home.0) c.take.result (sym there ∙ c.take.ensures.value) in
    let is = some_value V home.0 c.unwrap-value.result c.take.result same c.unwrap-value.ensures in
    subst (λ (x : V). HasAll g.V.Logged.seat_of (g.V.Logged.ground_of x) (g.V.Logged.entries x) c.args.first.seat.me.0) is home.2
