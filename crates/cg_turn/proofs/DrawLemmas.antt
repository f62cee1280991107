-- The step that draws a ticket keeps the rule.
use Rattle.std.proofs.Common.{◌≡◌, ℕ, ◌+◌, ◌%◌, ◌^◌, ◌<◌, ◌≤◌, List, [], ◌∷◌, length, refl, ap, sym, ◌∙◌, arith, Option}
use Rattle.std.specs.Prelude.{slice_index, slice_set}
use Rattle.std.proofs.Math.Nat.{mod-add-mod}
use mathlib.Core.Option.{none}
use Rattle.atomic_table.specs.Table.{State, Me, step, keeps, Allows}
use Rattle.cg_turn.specs.declared.view.View.{View}
use Rattle.cg_turn.specs.declared.view.Phase.TheVariants.{Idle, Waiting}
use Rattle.cg_turn.specs.Phases.{ticketed, live, holding}
use Rattle.cg_turn.specs.Views.{has_ticket, is_live, in_phase}
use Rattle.cg_turn.specs.Rule.{Sits, Apart, Turned}
use Rattle.cg_turn.specs.Steps.{Draws}
use Rattle.cg_turn.proofs.ListLemmas.{total_set, each_set, pairs_set}
use Rattle.cg_turn.proofs.PhaseLemmas.{within, more_drawn}
use Rattle.cg_turn.proofs.RuleLemmas.{slot_kept, phase_sits, count_sits}

module _ (V G E : Type 0) (ground_of : V → G) (entries : V → List E) (seat_of : E → ℕ) where
  -- what a seat of the lock knows
  abbrev Sight : Type 0
  Sight = View G E

  -- the rule of the lock
  abbrev Rule : State (Option V) Sight → Type 0
  Rule = Turned ground_of entries seat_of

  -- an idle seat may draw a ticket
  pub draws : (slots id : ℕ) (me : Me (Option V) Sight) → me.0.phase ≡ Idle
      → Allows Rule slots id me 0 (λ n. (n + 1) % 2 ^ 64) (Draws (step slots 0 1 0 none) me)
  draws slots id me idle s r wide at small =
      let v : Sight = me.0 in
      let w : Sight = in_phase v Waiting r.drawn in
      let here = r.each id v at in
      let v0 : has_ticket v ≡ 0 = ap ticketed idle in
      let v1 : is_live v ≡ 1 = ap live idle in
      let a = total_set has_ticket s.views id v w at in
      let b = total_set is_live s.views id v w at in
      let t = r.tickets in let c = r.seats in
      let alive : 1 ≤ is_live v = omega arith in
      let F : List ℕ → List ℕ = λ ws. slice_set ws 0 ((slice_index ws 0 + 1) % 2 ^ 64) in (
        w,
        keeps,
        tt,
        record {
          drawn = r.drawn + 1;
          served = r.served;
          count = r.count;
          gone = r.gone;
          log_ground = r.log_ground;
          log = r.log;
          words = ap F r.words ∙ ap (λ (n : ℕ). n ∷ (r.served % 2 ^ 64) ∷ length r.log ∷ []) (mod-add-mod r.drawn (2 ^ 64) 1);
          tickets = omega arith;
          seats = omega arith;
          few = r.few;
          slot = slot_kept ground_of entries r.log_ground r.log s.homes s.views id v w at (ap holding idle) refl r.slot;
          each = each_set (Sits seat_of r.drawn r.served r.count r.gone r.log_ground r.log) (Sits seat_of (r.drawn + 1) r.served r.count r.gone r.log_ground r.log) s.views id w r.each
              (phase_sits seat_of r.drawn r.served (r.drawn + 1) r.served r.count r.gone r.log_ground r.log v Waiting r.drawn alive here (omega arith, omega arith) (λ k. absurd (omega arith)))
              (λ j u ne x h. count_sits seat_of r.drawn r.served (r.drawn + 1) r.served r.count r.gone r.log_ground r.log u h (more_drawn r.drawn r.served u u.phase h.at));
          apart = pairs_set Apart s.views id w r.apart
              (λ j u ne x.
              let one = r.apart id j v u (λ e. ne (sym e)) at x in
              let two = r.apart j id u v ne x at in
              let below : 1 ≤ ticketed u.phase → u.ticket < r.drawn = λ k. (within r.drawn r.served u u.phase ((r.each j u x).at) k).1 in (
                record {
                  numbers = λ _ k. one.numbers alive k;
                  tickets = λ _ k e. (let q = below k in let e' : r.drawn ≡ u.ticket = e in omega arith);
                },
                record {
                  numbers = λ k _. two.numbers k alive;
                  tickets = λ k _ e. (let q = below k in let e' : u.ticket ≡ r.drawn = e in omega arith);
                },
              ));
          ends = r.ends;
          no_other = r.no_other;
        },
        (r.drawn, ap (λ (ws : List ℕ). slice_index ws 0) r.words, refl, refl),
      )
