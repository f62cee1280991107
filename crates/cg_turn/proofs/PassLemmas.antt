-- The step that gives the slot, and passes the turn, keeps the rule.
use Rattle.std.proofs.Common.{◌≡◌, ◌≢◌, ℕ, ◌+◌, ◌%◌, ◌^◌, ◌≤◌, List, [], ◌∷◌, length, refl, ap, sym, subst, ◌∙◌, inl, ⊎_elim, arith, Option, Some}
use Rattle.std.specs.Prelude.{slice_index, slice_set}
use Rattle.std.proofs.Math.Nat.{mod-add-mod}
use mathlib.Core.Option as maybe
use mathlib.Core.Option.{some, none, some-injective, some-ne-none}
use lib.ListN.{get_elem?}
use Rattle.atomic_table.specs.Table.{State, Me, step, gives, Allows}
use Rattle.cg_turn.specs.declared.view.View.{View}
use Rattle.cg_turn.specs.declared.view.Phase.TheVariants.{Idle, Noted}
use Rattle.cg_turn.specs.Phases.{ticketed, live, holding}
use Rattle.cg_turn.specs.Views.{has_ticket, is_live, in_phase}
use Rattle.cg_turn.specs.Rule.{InPhase, Sits, Apart, Turned}
use Rattle.cg_turn.specs.Steps.{Passes}
use Rattle.cg_turn.proofs.ListLemmas.{total_set, each_set, pairs_set}
use Rattle.cg_turn.proofs.PhaseLemmas.{more_served}
use Rattle.cg_turn.proofs.ViewLemmas.{as_before, as_before_turned}
use Rattle.cg_turn.proofs.RuleLemmas.{due_alone, phase_sits, count_sits}

module _ (V G E : Type 0) (ground_of : V → G) (entries : V → List E) (seat_of : E → ℕ) where
  -- what a seat of the lock knows
  abbrev Sight : Type 0
  Sight = View G E

  -- the rule of the lock
  abbrev Rule : State (Option V) Sight → Type 0
  Rule = Turned ground_of entries seat_of

  -- a seat that has the slot with this value
  passed : (slots id : ℕ) (v : Sight) (y : V) → v.phase ≡ Noted → v.seen_ground ≡ Some (ground_of y)
      → entries y ≡ v.seen
      → Allows Rule slots id (v, (0, Some y) ∷ []) 1 (λ n. (n + 1) % 2 ^ 64) (Passes (step slots 1 1 0 none) (v, (0, Some y) ∷ []))
  passed slots id v y done base same s r wide at small =
      let w : Sight = in_phase v Idle 0 in
      let here = r.each id v at in
      let v0 : has_ticket v ≡ 1 = ap ticketed done in
      let v1 : is_live v ≡ 1 = ap live done in
      let vh : holding v.phase ≡ 1 = ap holding done in
      let a = total_set has_ticket s.views id v w at in
      let b = total_set is_live s.views id v w at in
      let t = r.tickets in let c = r.seats in
      let alive : 1 ≤ is_live v = omega arith in
      let has : 1 ≤ has_ticket v = omega arith in
      let at_v = subst (InPhase r.drawn r.served v) done here.at in
      let turn : v.ticket ≡ r.served = at_v.0 in
      let F : List ℕ → List ℕ = λ ws. slice_set ws 1 ((slice_index ws 1 + 1) % 2 ^ 64) in
      let K : List (maybe.Option (Option V)) → List (maybe.Option (Option V)) = λ hs. slice_set hs 0 (some (Some y)) in
      let alone = λ (j : ℕ) (u : Sight) (ne : j ≢ id) (q : get_elem? s.views j ≡ some u). due_alone s r id j v u (λ e. ne (sym e)) at q has turn in
      let out : s.homes ≡ none ∷ [] = ⊎_elim (λ h. let z = h.4 id v at in absurd (omega arith)) (λ h. h.4) r.slot in
      let base_is : ground_of y ≡ r.log_ground = (let e : Some (ground_of y) ≡ Some r.log_ground = sym base ∙ here.same_ground alive in cc) in (
        w,
        gives,
        tt,
        record {
          drawn = r.drawn;
          served = r.served + 1;
          count = r.count;
          gone = r.gone;
          log_ground = r.log_ground;
          log = r.log;
          words = ap F r.words ∙ ap (λ (n : ℕ). (r.drawn % 2 ^ 64) ∷ n ∷ length r.log ∷ []) (mod-add-mod r.served (2 ^ 64) 1);
          tickets = omega arith;
          seats = omega arith;
          few = r.few;
          slot = inl (y, ap K out, base_is, same ∙ here.whole (omega arith), each_set (λ (u : Sight). Unit {0}) (λ (u : Sight). holding u.phase ≡ 0) s.views id w (λ _ _ _. tt) refl (λ j u ne q _. alone j u ne q));
          each = each_set (Sits seat_of r.drawn r.served r.count r.gone r.log_ground r.log) (Sits seat_of r.drawn (r.served + 1) r.count r.gone r.log_ground r.log) s.views id w r.each
              (phase_sits seat_of r.drawn r.served r.drawn (r.served + 1) r.count r.gone r.log_ground r.log v Idle 0 alive here tt (λ k. absurd (omega arith)))
              (λ j u ne q h. count_sits seat_of r.drawn r.served r.drawn (r.served + 1) r.count r.gone r.log_ground r.log u h (more_served r.drawn r.served u u.phase h.at (λ k e. (r.apart id j v u (λ z. ne (sym z)) at q).tickets has k (turn ∙ sym e))));
          apart = pairs_set Apart s.views id w r.apart
              (λ j u ne q. (as_before v w u (r.apart id j v u (λ e. ne (sym e)) at q) refl (λ _. alive) (λ k. absurd (omega arith)), as_before_turned v w u (r.apart j id u v ne q at) refl (λ _. alive) (λ k. absurd (omega arith))));
          ends = r.ends;
          no_other = r.no_other;
        },
        (refl, refl),
      )

  -- a seat that has stored the length may pass, and the slot is given
  pub passes : (slots id : ℕ) (me : Me (Option V) Sight) (y : V) → me.0.phase ≡ Noted → me.1 ≡ (0, Some y) ∷ []
      → me.0.seen_ground ≡ Some (ground_of y) → entries y ≡ me.0.seen
      → Allows Rule slots id me 1 (λ n. (n + 1) % 2 ^ 64) (Passes (step slots 1 1 0 none) me)
  passes slots id me y done has base same = subst (λ (c : List (ℕ × Option V)). Allows Rule slots id (me.0, c) 1 (λ n. (n + 1) % 2 ^ 64) (Passes (step slots 1 1 0 none) (me.0, c))) (sym has) (passed slots id me.0 y done base same)
