-- A seat less keeps the rule.
use Rattle.std.proofs.Common.{◌≡◌, ◌≢◌, ℕ, ◌≤◌, List, ◌∷◌, set, refl, ap, sym, subst, ◌∙◌, ⊎_elim, arith, Option}
use mathlib.Core.Option.{some}
use lib.ListN.{get_elem?}
use Rattle.atomic_table.specs.Table.{State, Joins}
use Rattle.atomic_table.proofs.Lists.{at_set, set_else}
use Rattle.cg_turn.specs.declared.view.View.{View}
use Rattle.cg_turn.specs.declared.view.Ended.{Ended}
use Rattle.cg_turn.specs.declared.view.Phase.TheVariants.{Idle}
use Rattle.cg_turn.specs.Phases.{ticketed, live, holding}
use Rattle.cg_turn.specs.Views.{has_ticket, is_live, at_end, joined, spent}
use Rattle.cg_turn.specs.Rule.{InPhase, Sits, Apart, IsEnded, Turned}
use Rattle.cg_turn.proofs.ListLemmas.{total_set, Pairs, each_set, pairs_set}
use Rattle.cg_turn.proofs.ViewLemmas.{as_before, as_before_turned, gone_cons}
use Rattle.cg_turn.proofs.RuleLemmas.{slot_kept}

module _ (V G E : Type 0) (ground_of : V → G) (entries : V → List E) (seat_of : E → ℕ) where
  -- what a seat of the lock knows
  abbrev Sight : Type 0
  Sight = View G E

  -- the rule of the lock
  abbrev Rule : State (Option V) Sight → Type 0
  Rule = Turned ground_of entries seat_of

  -- an idle seat may end in the first one
  pub joins : (id : ℕ) (v : Sight) (other : ℕ) (w : Sight) → v.phase ≡ Idle → v.number ≡ 1 → w.phase ≡ Idle
      → Joins Rule id v other w (joined v w) spent
  joins id v other w idle first quiet s r at ne_ids also =
      let l : Sight = joined v w in
      let vs : List Sight = set s.views id l in
      let at_w : get_elem? s.views other ≡ some w = sym (set_else s.views id other l ne_ids) ∙ also in
      let here = r.each id v at in
      let there = r.each other w at_w in
      let v0 : has_ticket v ≡ 0 = ap ticketed idle in
      let v1 : is_live v ≡ 1 = ap live idle in
      let w0 : has_ticket w ≡ 0 = ap ticketed quiet in
      let w1 : is_live w ≡ 1 = ap live quiet in
      let alive : 1 ≤ is_live v = omega arith in
      let alive_w : 1 ≤ is_live w = omega arith in
      let counts = here.counts alive first in
      let gone2 : List (Ended G E) = at_end w ∷ r.gone in
      let a = total_set has_ticket s.views id v l at in
      let b = total_set is_live s.views id v l at in
      let a2 = total_set has_ticket vs other w spent also in
      let b2 = total_set is_live vs other w spent also in
      let t = r.tickets in let c = r.seats in
      let nd : holding v.phase ≡ 0 = ap holding idle in
      let kept = slot_kept ground_of entries r.log_ground r.log s.homes s.views id v l at nd nd r.slot in
      -- all but the seat that ends: its number is none of the numbers gone
      let P : Sight → Type 0 = Sits seat_of r.drawn r.served r.count r.gone r.log_ground r.log in
      let Q : Sight → Type 0 = Sits seat_of r.drawn r.served r.count gone2 r.log_ground r.log in
      let apart' : Pairs Apart vs = pairs_set Apart s.views id l r.apart (λ j u ne q. (as_before v l u (r.apart id j v u (λ z. ne (sym z)) at q) refl (λ k. k) (λ k. (k, refl)), as_before_turned v l u (r.apart j id u v ne q at) refl (λ k. k) (λ k. (k, refl)))) in
      let not_gone : (u : Sight) (old : (k : ℕ) (x : Ended G E) → get_elem? r.gone k ≡ some x → u.number ≢ x.number) (ne : u.number ≢ w.number) (k : ℕ) (x : Ended G E) → get_elem? gone2 k ≡ some x → u.number ≢ x.number = λ u old ne k x. gone_cons (at_end w) r.gone (λ y. u.number ≢ y.number) ne old k x in
      record {
        drawn = r.drawn;
        served = r.served;
        count = r.count;
        gone = gone2;
        log_ground = r.log_ground;
        log = r.log;
        words = r.words;
        tickets = omega arith;
        seats = omega arith;
        few = r.few;
        slot = slot_kept ground_of entries r.log_ground r.log s.homes vs other w spent also (ap holding quiet) refl kept;
        each = each_set (λ (u : Sight). Unit {0}) Q vs other spent (λ _ _ _. tt)
            record {
              at = tt;
              low = λ k. absurd (omega arith);
              high = λ k. absurd (omega arith);
              counts = λ k. absurd (omega arith);
              same_ground = λ k. absurd (omega arith);
              seen = λ k. absurd (omega arith);
              own = λ k. absurd (omega arith);
              own_seen = λ k. absurd (omega arith);
              whole = λ k. absurd (omega arith);
              not_gone = λ k. absurd (omega arith);
            }
            (λ j u no a' _. ⊎_elim
            (λ h. subst Q h.1 record {
              at = subst (InPhase r.drawn r.served l) (sym idle) tt;
              low = here.low;
              high = here.high;
              counts = λ _ _. (counts.0, ap (λ (xs : List (Ended G E)). at_end w ∷ xs) counts.1);
              same_ground = here.same_ground;
              seen = here.seen;
              own = here.own;
              own_seen = here.own_seen;
              whole = here.whole;
              not_gone = λ k. not_gone l (here.not_gone k) ((r.apart id other v w (λ e. ne_ids (sym e)) at at_w).numbers k alive_w);
            })
            (λ h.
            let old = r.each j u h.1 in
            record {
              at = old.at;
              low = old.low;
              high = old.high;
              counts = λ k e. absurd ((r.apart id j v u (λ z. h.0 (sym z)) at h.1).numbers alive k (first ∙ sym e));
              same_ground = old.same_ground;
              seen = old.seen;
              own = old.own;
              own_seen = old.own_seen;
              whole = old.whole;
              not_gone = λ k. not_gone u (old.not_gone k) ((r.apart j other u w no h.1 at_w).numbers k alive_w);
            })
            (at_set s.views id j l u a'));
        apart = pairs_set Apart vs other spent apart'
            (λ j u ne q. (
              record {
                numbers = λ k. absurd (omega arith);
                tickets = λ k. absurd (omega arith);
              },
              record { numbers = λ _ k. absurd (omega arith); tickets = λ _ k. absurd (omega arith) },
            ));
        ends = gone_cons (at_end w) r.gone (IsEnded seat_of r.count r.log_ground r.log) record {
          high = there.high alive_w;
          same_ground = there.same_ground alive_w;
          seen = there.seen alive_w;
          own = there.own alive_w;
        } r.ends;
        no_other = r.no_other;
      }
