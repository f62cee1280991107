-- A seat more keeps the rule.
use Rattle.std.proofs.Common.{◌≡◌, ℕ, ◌+◌, ◌<◌, ◌≤◌, List, [], set, refl, ap, sym, subst, ◌∙◌, inl, inr, ⊎_elim, arith, Option}
use Rattle.atomic_table.specs.Table.{State, Splits}
use Rattle.cg_turn.specs.declared.view.View.{View}
use Rattle.cg_turn.specs.declared.view.Phase.TheVariants.{Idle}
use Rattle.cg_turn.specs.Phases.{ticketed, live, holding}
use Rattle.cg_turn.specs.Logs.{by}
use Rattle.cg_turn.specs.Views.{has_ticket, is_live, split_left, split_right}
use Rattle.cg_turn.specs.Rule.{InPhase, Sits, Apart, Turned}
use Rattle.cg_turn.proofs.ListLemmas.{total_set, total_snoc, Each, each_set, pairs_set, each_more, pairs_more}
use Rattle.cg_turn.proofs.LogLemmas.{by_begin}
use Rattle.cg_turn.proofs.ViewLemmas.{as_before, as_before_turned}
use Rattle.cg_turn.proofs.RuleLemmas.{slot_kept, slot_more}

module _ (V G E : Type 0) (ground_of : V → G) (entries : V → List E) (seat_of : E → ℕ) where
  -- what a seat of the lock knows
  abbrev Sight : Type 0
  Sight = View G E

  -- the rule of the lock
  abbrev Rule : State (Option V) Sight → Type 0
  Rule = Turned ground_of entries seat_of

  -- the first seat may make one more, up to eight
  pub splits : (id : ℕ) (v : Sight) → v.phase ≡ Idle → v.number ≡ 1 → v.count < 8
      → Splits Rule id v (split_left v) (split_right v)
  splits id v idle first room s r at =
      let l : Sight = split_left v in
      let w : Sight = split_right v in
      let vs : List Sight = set s.views id l in
      let here = r.each id v at in
      let v0 : has_ticket v ≡ 0 = ap ticketed idle in
      let v1 : is_live v ≡ 1 = ap live idle in
      let alive : 1 ≤ is_live v = omega arith in
      let counts = here.counts alive first in
      let count : v.count ≡ r.count = counts.0 in
      let high : v.number ≤ r.count = here.high alive in
      let fresh : by seat_of (v.count + 1) r.log ≡ [] = r.no_other (v.count + 1) (inr (omega arith)) in
      let a = total_set has_ticket s.views id v l at in
      let b = total_set is_live s.views id v l at in
      let a2 = total_snoc has_ticket vs w in
      let b2 = total_snoc is_live vs w in
      let t = r.tickets in let c = r.seats in
      let nd : holding v.phase ≡ 0 = ap holding idle in
      let P : Sight → Type 0 = Sits seat_of r.drawn r.served r.count r.gone r.log_ground r.log in
      let Q : Sight → Type 0 = Sits seat_of r.drawn r.served (r.count + 1) r.gone r.log_ground r.log in
      let each' : Each Q vs =
      each_set P Q s.views id l r.each
      record {
        at = subst (InPhase r.drawn r.served l) (sym idle) tt;
        low = here.low;
        high = (λ k. let h = here.high k in omega arith);
        counts = λ _ _. (omega arith, counts.1);
        same_ground = here.same_ground;
        seen = here.seen;
        own = here.own;
        own_seen = here.own_seen;
        whole = here.whole;
        not_gone = here.not_gone;
      }
      (λ j u ne q h. record {
        at = h.at;
        low = h.low;
        high = (λ k. let y = h.high k in omega arith);
        counts = λ k e. absurd ((r.apart id j v u (λ z. ne (sym z)) at q).numbers alive k (first ∙ sym e));
        same_ground = h.same_ground;
        seen = h.seen;
        own = h.own;
        own_seen = h.own_seen;
        whole = h.whole;
        not_gone = h.not_gone;
      }) in
      let numbers : Each (λ u. 1 ≤ live u.phase → u.number ≤ r.count) vs = each_set P (λ u. 1 ≤ live u.phase → u.number ≤ r.count) s.views id l r.each here.high (λ j u ne q h. h.high) in
      record {
        drawn = r.drawn;
        served = r.served;
        count = r.count + 1;
        gone = r.gone;
        log_ground = r.log_ground;
        log = r.log;
        words = r.words;
        tickets = omega arith;
        seats = omega arith;
        few = omega arith;
        slot = slot_more ground_of entries r.log_ground r.log s.homes vs w refl (slot_kept ground_of entries r.log_ground r.log s.homes s.views id v l at nd nd r.slot);
        each = each_more Q vs w each'
            record {
              at = tt;
              low = λ _. omega arith;
              high = λ _. omega arith;
              counts = λ _ e. absurd (omega arith);
              same_ground = λ _. here.same_ground alive;
              seen = λ _. here.seen alive;
              own = λ _. fresh;
              own_seen = λ _. by_begin seat_of (v.count + 1) r.log v.seen (here.seen alive) fresh;
              whole = λ k. absurd (omega arith);
              not_gone = λ _ k x g e. (let q = (r.ends k x g).high in let e' : v.count + 1 ≡ x.number = e in omega arith);
            };
        apart = pairs_more Apart vs w
            (pairs_set Apart s.views id l r.apart (λ j u ne q. (as_before v l u (r.apart id j v u (λ z. ne (sym z)) at q) refl (λ k. k) (λ k. (k, refl)), as_before_turned v l u (r.apart j id u v ne q at) refl (λ k. k) (λ k. (k, refl)))))
            (λ j u q.
            let low : 1 ≤ live u.phase → u.number ≤ r.count = numbers j u q in (
              record {
                numbers = λ _ k e. (let y = low k in let e' : v.count + 1 ≡ u.number = e in omega arith);
                tickets = λ k _. absurd (omega arith);
              },
              record {
                numbers = λ k _ e. (let y = low k in let e' : u.number ≡ v.count + 1 = e in omega arith);
                tickets = λ _ k. absurd (omega arith);
              },
            ));
        ends = λ k x g. (let e = r.ends k x g in let q = e.high in record {
          high = omega arith;
          same_ground = e.same_ground;
          seen = e.seen;
          own = e.own;
        });
        no_other = λ n out. r.no_other n (⊎_elim (λ z. inl z) (λ z. inr (omega arith)) out);
      }
