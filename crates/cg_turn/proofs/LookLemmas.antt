-- The step that looks at the ticket served keeps the rule.
use Rattle.std.proofs.Common.{◌≡◌, ◌≢◌, ℕ, ◌%◌, ◌^◌, ◌<◌, ◌≤◌, List, set, refl, ap, sym, subst, ◌∙◌, arith, Option}
use Rattle.std.specs.Prelude.{slice_index, slice_set}
use mathlib.Core.Option.{some, none}
use mathlib.Core.Logic.{dite}
use lib.ListN.{get_elem?}
use native.Mathlib.Decide.{ℕ_discrete}
use Rattle.atomic_table.specs.Table.{State, Me, step, Act, Valid, stepped, carried_after, keeps, Allows}
use Rattle.atomic_table.proofs.Lists.{set_again, one_turn}
use Rattle.cg_turn.specs.declared.view.View.{View}
use Rattle.cg_turn.specs.declared.view.Phase.TheVariants.{Waiting, Due}
use Rattle.cg_turn.specs.Phases.{ticketed, live, holding}
use Rattle.cg_turn.specs.Views.{has_ticket, is_live, in_phase}
use Rattle.cg_turn.specs.Rule.{InPhase, Sits, Apart, Turned}
use Rattle.cg_turn.specs.Steps.{Looks}
use Rattle.cg_turn.proofs.ListLemmas.{total_set, each_set, pairs_set}
use Rattle.cg_turn.proofs.ViewLemmas.{as_before, as_before_turned}
use Rattle.cg_turn.proofs.RuleLemmas.{few_tickets, slot_kept, phase_sits}

module _ (V G E : Type 0) (ground_of : V → G) (entries : V → List E) (seat_of : E → ℕ) where
  -- what a seat of the lock knows
  abbrev Sight : Type 0
  Sight = View G E

  -- the rule of the lock
  abbrev Rule : State (Option V) Sight → Type 0
  Rule = Turned ground_of entries seat_of

  -- its ticket is served
  look_hit : (slots id : ℕ) (me : Me (Option V) Sight) → me.0.phase ≡ Waiting
      → (s : State (Option V) Sight) (r : Rule s) → get_elem? s.views id ≡ some me.0
      → slice_index s.words 1 ≡ me.0.ticket % 2 ^ 64
      → (w : Sight) × (a : Act (Option V)) × Valid s.homes me.1 a × Rule (stepped s 1 (slice_index s.words 1) id me.1 w a) × Looks (step slots 1 0 0 none) me (slice_index s.words 1) (w, carried_after me.1 a)
  look_hit slots id me waiting s r at hit =
      let v : Sight = me.0 in
      let w : Sight = in_phase v Due v.ticket in
      let here = r.each id v at in
      let v0 : has_ticket v ≡ 1 = ap ticketed waiting in
      let v1 : is_live v ≡ 1 = ap live waiting in
      let alive : 1 ≤ is_live v = omega arith in
      let has : 1 ≤ has_ticket v = omega arith in
      let at_v = subst (InPhase r.drawn r.served v) waiting here.at in
      let low : r.served ≤ v.ticket = at_v.0 in
      let high : v.ticket < r.drawn = at_v.1 in
      let near = few_tickets s r in
      let found = ap (λ (ws : List ℕ). slice_index ws 1) r.words in
      let turn : r.served ≡ v.ticket = one_turn r.served v.ticket (2 ^ 64) low (omega arith) (sym found ∙ hit) in
      let a = total_set has_ticket s.views id v w at in
      let b = total_set is_live s.views id v w at in
      let t = r.tickets in let c = r.seats in
      let F : List ℕ → List ℕ = λ ws. slice_set ws 1 (slice_index ws 1) in (
        w,
        keeps,
        tt,
        record {
          drawn = r.drawn;
          served = r.served;
          count = r.count;
          gone = r.gone;
          log_ground = r.log_ground;
          log = r.log;
          words = ap F r.words;
          tickets = omega arith;
          seats = omega arith;
          few = r.few;
          slot = slot_kept ground_of entries r.log_ground r.log s.homes s.views id v w at (ap holding waiting) refl r.slot;
          each = each_set (Sits seat_of r.drawn r.served r.count r.gone r.log_ground r.log) (Sits seat_of r.drawn r.served r.count r.gone r.log_ground r.log) s.views id w r.each
              (phase_sits seat_of r.drawn r.served r.drawn r.served r.count r.gone r.log_ground r.log v Due v.ticket alive here (sym turn, high) (λ k. absurd (omega arith)))
              (λ j u ne x k. k);
          apart = pairs_set Apart s.views id w r.apart
              (λ j u ne x. (as_before v w u (r.apart id j v u (λ e. ne (sym e)) at x) refl (λ _. alive) (λ _. (has, refl)), as_before_turned v w u (r.apart j id u v ne x at) refl (λ _. alive) (λ _. (has, refl))));
          ends = r.ends;
          no_other = r.no_other;
        },
        ((λ _. (refl, refl)), λ n. absurd (n hit)),
      )

  -- another ticket is served
  look_miss : (slots id : ℕ) (me : Me (Option V) Sight) → (s : State (Option V) Sight) (r : Rule s)
      → get_elem? s.views id ≡ some me.0 → slice_index s.words 1 ≢ me.0.ticket % 2 ^ 64
      → (w : Sight) × (a : Act (Option V)) × Valid s.homes me.1 a × Rule (stepped s 1 (slice_index s.words 1) id me.1 w a) × Looks (step slots 1 0 0 none) me (slice_index s.words 1) (w, carried_after me.1 a)
  look_miss slots id me s r at miss =
      let F : List ℕ → List ℕ = λ ws. slice_set ws 1 (slice_index ws 1) in
      let same_words : slice_set s.words 1 (slice_index s.words 1) ≡ s.words = ap F r.words ∙ sym r.words in
      let same_views : set s.views id me.0 ≡ s.views = set_again s.views id me.0 at in (
        me.0,
        keeps,
        tt,
        subst (λ (z : List ℕ × List Sight). Rule (record { words = z.0; homes = s.homes; views = z.1 })) (λ k. (sym same_words k, sym same_views k)) r,
        ((λ h. absurd (miss h)), λ _. (refl, refl)),
      )

  -- a seat that waits may look at the ticket served
  pub looks : (slots id : ℕ) (me : Me (Option V) Sight) → me.0.phase ≡ Waiting
      → Allows Rule slots id me 1 (λ n. n) (Looks (step slots 1 0 0 none) me)
  looks slots id me waiting s r wide at small = dite (ℕ_discrete (slice_index s.words 1) (me.0.ticket % 2 ^ 64)) (λ e. look_hit slots id me waiting s r at e) (λ n. look_miss slots id me s r at n)
