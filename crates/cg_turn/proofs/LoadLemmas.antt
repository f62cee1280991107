-- The step that loads the length of the log, and takes the slot, keeps the rule.
use Rattle.std.proofs.Common.{◌≡◌, ◌≢◌, ℕ, ◌≤◌, List, [], refl, ap, sym, subst, ◌∙◌, inr, ⊎_elim, arith, Option, Some}
use Rattle.std.specs.Prelude.{slice_index, slice_set}
use mathlib.Core.Option as maybe
use mathlib.Core.Option.{some, none, some-injective, some-ne-none}
use lib.ListN.{get_elem?}
use Rattle.atomic_table.specs.Table.{State, Me, step, takes, Allows}
use Rattle.cg_turn.specs.declared.view.View.{View}
use Rattle.cg_turn.specs.declared.view.Phase.TheVariants.{Due, Fresh}
use Rattle.cg_turn.specs.Phases.{ticketed, live, holding}
use Rattle.cg_turn.specs.Logs.{by, StartsWith}
use Rattle.cg_turn.specs.Views.{has_ticket, is_live, with_log}
use Rattle.cg_turn.specs.Rule.{InPhase, Sits, Apart, Turned}
use Rattle.cg_turn.specs.Steps.{LoadsLength}
use Rattle.cg_turn.proofs.ListLemmas.{total_set, each_set, pairs_set}
use Rattle.cg_turn.proofs.LogLemmas.{starts_self}
use Rattle.cg_turn.proofs.ViewLemmas.{set_there, one_view, as_before, as_before_turned}
use Rattle.cg_turn.proofs.RuleLemmas.{due_alone}

module _ (V G E : Type 0) (ground_of : V → G) (entries : V → List E) (seat_of : E → ℕ) where
  -- what a seat of the lock knows
  abbrev Sight : Type 0
  Sight = View G E

  -- the rule of the lock
  abbrev Rule : State (Option V) Sight → Type 0
  Rule = Turned ground_of entries seat_of

  -- a seat that has nothing yet
  loaded : (slots id : ℕ) (v : Sight) → v.phase ≡ Due
      → Allows Rule slots id (v, []) 2 (λ n. n) (LoadsLength ground_of entries seat_of (step slots 2 0 0 none) (v, []))
  loaded slots id v due s r wide at small =
      let here = r.each id v at in
      let v0 : has_ticket v ≡ 1 = ap ticketed due in
      let v1 : is_live v ≡ 1 = ap live due in
      let vh : holding v.phase ≡ 0 = ap holding due in
      let alive : 1 ≤ is_live v = omega arith in
      let has : 1 ≤ has_ticket v = omega arith in
      let at_v = subst (InPhase r.drawn r.served v) due here.at in
      ⊎_elim
      (λ h.
      let w : Sight = with_log v Fresh (entries h.0) v.mine in
      let a = total_set has_ticket s.views id v w at in
      let b = total_set is_live s.views id v w at in
      let t = r.tickets in let c = r.seats in
      let F : List ℕ → List ℕ = λ ws. slice_set ws 2 (slice_index ws 2) in (
        w,
        takes 0 (Some h.0),
        ap (λ (hs : List (maybe.Option (Option V))). get_elem? hs 0) h.1,
        record {
          drawn = r.drawn;
          served = r.served;
          count = r.count;
          gone = r.gone;
          log_ground = r.log_ground;
          log = r.log;
          words = ap F r.words;
          tickets = omega arith;
          seats = omega arith;
          few = r.few;
          slot = inr (id, w, set_there s.views id v w at, refl, ap (λ (hs : List (maybe.Option (Option V))). slice_set hs 0 none) h.1);
          each = each_set (Sits seat_of r.drawn r.served r.count r.gone r.log_ground r.log) (Sits seat_of r.drawn r.served r.count r.gone r.log_ground r.log) s.views id w r.each
              record {
                at = at_v;
                low = λ _. here.low alive;
                high = λ _. here.high alive;
                counts = λ _. here.counts alive;
                same_ground = λ _. here.same_ground alive;
                seen = λ _. subst (λ (l : List E). StartsWith l (entries h.0)) h.3 (starts_self (entries h.0));
                own = λ _. here.own alive;
                own_seen = λ _. ap (by seat_of v.number) h.3 ∙ here.own alive;
                whole = λ _. h.3;
                not_gone = λ _. here.not_gone alive;
              }
              (λ j u ne x k. k);
          apart = pairs_set Apart s.views id w r.apart
              (λ j u ne x. (as_before v w u (r.apart id j v u (λ e. ne (sym e)) at x) refl (λ _. alive) (λ _. (has, refl)), as_before_turned v w u (r.apart j id u v ne x at) refl (λ _. alive) (λ _. (has, refl))));
          ends = r.ends;
          no_other = r.no_other;
        },
        (h.0, refl, refl, here.same_ground alive ∙ ap (λ (y : G). Some y) (sym h.2), subst (λ (l : List E). StartsWith l v.seen) (sym h.3) (here.seen alive), ap (by seat_of v.number) h.3 ∙ here.own alive, here.own_seen alive),
      ))
      (λ h.
      let k : holding h.1.phase ≡ 1 = h.3 in
      let ne : id ≢ h.0 = λ e. (let q : holding h.1.phase ≡ holding v.phase = ap (λ (u : Sight). holding u.phase) (one_view s.views h.0 id h.1 v h.2 at (sym e)) in omega arith) in
      let z = due_alone s r id h.0 v h.1 ne at h.2 has at_v.0 in absurd (omega arith))
      r.slot

  -- a seat that is due may load the length, and it has the slot
  pub loads_length : (slots id : ℕ) (me : Me (Option V) Sight) → me.0.phase ≡ Due → me.1 ≡ []
      → Allows Rule slots id me 2 (λ n. n) (LoadsLength ground_of entries seat_of (step slots 2 0 0 none) me)
  loads_length slots id me due empty = subst (λ (c : List (ℕ × Option V)). Allows Rule slots id (me.0, c) 2 (λ n. n) (LoadsLength ground_of entries seat_of (step slots 2 0 0 none) (me.0, c))) (sym empty) (loaded slots id me.0 due)
