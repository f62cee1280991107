-- A new lock, and a lock whose seats have ended.
use Rattle.std.proofs.Common.{◌≡◌, ◌≢◌, ℕ, ◌+◌, ◌≤◌, List, [], ◌∷◌, length, refl, ap, sym, subst, ◌∙◌, inl, inr, ⊎_elim, arith, Option, Some}
use mathlib.Core.Option.{some, some-ne-none}
use lib.ListN.{get_elem?}
use Rattle.atomic_table.specs.Table.{State}
use Rattle.cg_turn.specs.declared.view.View.{View}
use Rattle.cg_turn.specs.declared.view.Ended.{Ended}
use Rattle.cg_turn.specs.declared.view.Phase.TheVariants.{Idle}
use Rattle.cg_turn.specs.Phases.{live, holding}
use Rattle.cg_turn.specs.Logs.{by}
use Rattle.cg_turn.specs.Views.{is_live, first_view}
use Rattle.cg_turn.specs.Rule.{HasAll, Sits, Apart, Turned}
use Rattle.cg_turn.proofs.ListLemmas.{total_two, each_one, pairs_one}
use Rattle.cg_turn.proofs.LogLemmas.{starts_self}
use Rattle.cg_turn.proofs.PhaseLemmas.{ticket_at_most, serving_holds, serving_ticket}
use Rattle.cg_turn.proofs.ViewLemmas.{one_view}

module _ (V G E : Type 0) (ground_of : V → G) (entries : V → List E) (seat_of : E → ℕ) where
  -- what a seat of the lock knows
  abbrev Sight : Type 0
  Sight = View G E

  -- the rule of the lock
  abbrev Rule : State (Option V) Sight → Type 0
  Rule = Turned ground_of entries seat_of

  -- where all seats but the first have ended, the value is in the slot, with all that each seat knew
  pub ends : (s : State (Option V) Sight) (r : Rule s) (id : ℕ) (v : Sight) → get_elem? s.views id ≡ some v
      → v.phase ≡ Idle → v.number ≡ 1 → length v.gone + 1 ≡ v.count
      → (x : V) × (s.homes ≡ some (Some x) ∷ []) × HasAll seat_of (ground_of x) (entries x) v
  ends s r id v at idle first all =
      let here = r.each id v at in
      let v1 : is_live v ≡ 1 = ap live idle in
      let alive : 1 ≤ is_live v = omega arith in
      let counts = here.counts alive first in
      let count : v.count ≡ r.count = counts.0 in
      let gone : v.gone ≡ r.gone = counts.1 in
      let long = ap length gone in
      let c = r.seats in
      let known : HasAll seat_of r.log_ground r.log v = record {
        same_ground = here.same_ground alive;
        seen = here.seen alive;
        own = ap (λ n. by seat_of n r.log) (sym first) ∙ here.own alive;
        ends = λ k x g.
            let e = r.ends k x (ap (λ (l : List (Ended G E)). get_elem? l k) (sym gone) ∙ g) in
            let high = e.high in
            record { high = omega arith; same_ground = e.same_ground; seen = e.seen; own = e.own };
        no_other = λ n out. r.no_other n (⊎_elim (λ z. inl z) (λ z. inr (omega arith)) out);
      } in
      ⊎_elim
      (λ h. (
        h.0,
        h.1,
        subst (λ (g : G). HasAll seat_of g (entries h.0) v) (sym h.2)
            (subst (λ (l : List E). HasAll seat_of r.log_ground l v) (sym h.3) known),
      ))
      (λ h.
      let vh : holding v.phase ≡ 0 = ap holding idle in
      let k : holding h.1.phase ≡ 1 = h.3 in
      let ne : id ≢ h.0 = λ e. (let q : holding h.1.phase ≡ holding v.phase = ap (λ (u : Sight). holding u.phase) (one_view s.views h.0 id h.1 v h.2 at (sym e)) in omega arith) in
      let two = total_two is_live s.views id h.0 v h.1 ne at h.2 in
      let x1 = serving_holds h.1.phase in
      let x2 = serving_ticket h.1.phase in
      let x3 = ticket_at_most h.1.phase in
      absurd (omega arith))
      r.slot

  -- the lock as it is made
  pub opens : (x : V) → entries x ≡ []
      → Rule record { words = 0 ∷ 0 ∷ 0 ∷ []; homes = some (Some x) ∷ []; views = first_view (ground_of x) ∷ [] }
  opens x empty = record {
    drawn = 0;
    served = 0;
    count = 1;
    gone = [];
    log_ground = ground_of x;
    log = [];
    words = refl;
    tickets = refl;
    seats = refl;
    few = omega arith;
    slot = inl (x, refl, refl, empty, each_one (λ (u : Sight). holding u.phase ≡ 0) (first_view (ground_of x)) refl);
    each = each_one (Sits seat_of 0 0 1 [] (ground_of x) []) (first_view (ground_of x))
        record {
          at = tt;
          low = λ _. omega arith;
          high = λ _. omega arith;
          counts = λ _ _. (refl, refl);
          same_ground = λ _. refl;
          seen = λ _. starts_self [];
          own = λ _. refl;
          own_seen = λ _. refl;
          whole = λ k. absurd (omega arith);
          not_gone = λ _ k y e. absurd (some-ne-none y (sym e));
        };
    apart = pairs_one Apart (first_view (ground_of x));
    ends = λ k y e. absurd (some-ne-none y (sym e));
    no_other = λ n out. refl;
  }
