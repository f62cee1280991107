-- What the rule says of its seats and of the slot.
use Rattle.std.proofs.Common.{◌≡◌, ◌≢◌, ℕ, ◌+◌, ◌≤◌, ◌⊎◌, List, [], ◌∷◌, ◌++◌, set, ap, sym, ◌∙◌, inl, inr, ⊎_elim, arith, Option}
use mathlib.Core.Option as maybe
use mathlib.Core.Option.{some, none, some-injective, some-ne-none}
use lib.ListN.{get_elem?}
use Rattle.atomic_table.specs.Table.{State}
use Rattle.atomic_table.proofs.Lists.{set_else, at_longer}
use Rattle.cg_turn.specs.declared.view.View.{View}
use Rattle.cg_turn.specs.declared.view.Ended.{Ended}
use Rattle.cg_turn.specs.declared.view.Phase.{Phase}
use Rattle.cg_turn.specs.Phases.{live, serving, holding}
use Rattle.cg_turn.specs.Views.{has_ticket, is_live, in_phase}
use Rattle.cg_turn.specs.Rule.{InPhase, Sits, IsHome, IsOut, Turned}
use Rattle.cg_turn.proofs.ListLemmas.{total_le, each_set, each_more}
use Rattle.cg_turn.proofs.PhaseLemmas.{ticket_at_most, serving_holds, serving_ticket, at_served}
use Rattle.cg_turn.proofs.ViewLemmas.{one_view, none_of}

module _ {V G E : Type 0} {ground_of : V → G} {entries : V → List E} {seat_of : E → ℕ} where
  -- at most eight tickets are out
  pub few_tickets : (s : State (Option V) (View G E)) (r : Turned ground_of entries seat_of s) → r.drawn ≤ r.served + 8
  few_tickets s r = let a = total_le has_ticket is_live s.views (λ (v : View G E). ticket_at_most v.phase) in let b = r.tickets in let c = r.seats in let d = r.few in omega arith

  -- where one seat holds the ticket served, another's is not
  pub due_alone : (s : State (Option V) (View G E)) (r : Turned ground_of entries seat_of s) (i j : ℕ) (v u : View G E)
      → i ≢ j → get_elem? s.views i ≡ some v → get_elem? s.views j ≡ some u → 1 ≤ has_ticket v → v.ticket ≡ r.served
      → holding u.phase ≡ 0
  due_alone s r i j v u ne a b t e = none_of (holding u.phase) (λ k.
      let h = serving_holds u.phase in
      let g = serving_ticket u.phase in
      let serves : 1 ≤ serving u.phase = omega arith in
      let has : 1 ≤ has_ticket u = omega arith in
      (r.apart i j v u ne a b).tickets t has (e ∙ sym (at_served r.drawn r.served u u.phase ((r.each j u b).at) serves)))

module _ {V G E : Type 0} (ground_of : V → G) (entries : V → List E) where
  -- a seat that has the slot neither before nor after leaves it as it is
  pub slot_kept : (g : G) (log : List E) (homes : List (maybe.Option (Option V))) (vs : List (View G E)) (id : ℕ) (v w : View G E)
      → get_elem? vs id ≡ some v → holding v.phase ≡ 0 → holding w.phase ≡ 0
      → IsHome ground_of entries g log homes vs ⊎ IsOut homes vs
      → IsHome ground_of entries g log homes (set vs id w) ⊎ IsOut homes (set vs id w)
  slot_kept g log homes vs id v w at nv nw =
      ⊎_elim
      (λ h. inl (h.0, h.1, h.2, h.3, each_set (λ (u : View G E). holding u.phase ≡ 0) (λ (u : View G E). holding u.phase ≡ 0) vs id w h.4 nw (λ j u ne a p. p)))
      (λ h. let ne : h.0 ≢ id = λ e. (let q : holding h.1.phase ≡ holding v.phase = ap (λ (u : View G E). holding u.phase) (one_view vs h.0 id h.1 v h.2 at e) in let k : holding h.1.phase ≡ 1 = h.3 in omega arith) in inr (h.0, h.1, set_else vs id h.0 w ne ∙ h.2, h.3, h.4))

  -- a new seat leaves the slot as it is
  pub slot_more : (g : G) (log : List E) (homes : List (maybe.Option (Option V))) (vs : List (View G E)) (w : View G E)
      → holding w.phase ≡ 0 → IsHome ground_of entries g log homes vs ⊎ IsOut homes vs
      → IsHome ground_of entries g log homes (vs ++ w ∷ []) ⊎ IsOut homes (vs ++ w ∷ [])
  slot_more g log homes vs w nw =
      ⊎_elim
      (λ h. inl (h.0, h.1, h.2, h.3, each_more (λ (u : View G E). holding u.phase ≡ 0) vs w h.4 nw))
      (λ h. inr (h.0, h.1, at_longer vs (w ∷ []) h.0 h.1 h.2, h.3, h.4))

module _ {G E : Type 0} (seat_of : E → ℕ) where
  -- a seat in another phase knows what it knew
  pub phase_sits : (drawn served drawn2 served2 count : ℕ) (gone : List (Ended G E)) (g : G) (log : List E) (v : View G E) (p : Phase) (t : ℕ)
      → 1 ≤ live v.phase → Sits seat_of drawn served count gone g log v → InPhase drawn2 served2 (in_phase v p t) p
      → (1 ≤ holding p → v.seen ≡ log) → Sits seat_of drawn2 served2 count gone g log (in_phase v p t)
  phase_sits drawn served drawn2 served2 count gone g log v p t alive h here whole = record {
    at = here;
    low = λ _. h.low alive;
    high = λ _. h.high alive;
    counts = λ _. h.counts alive;
    same_ground = λ _. h.same_ground alive;
    seen = λ _. h.seen alive;
    own = λ _. h.own alive;
    own_seen = λ _. h.own_seen alive;
    whole = whole;
    not_gone = λ _. h.not_gone alive;
  }

  -- the numbers of tickets do not matter to the rest
  pub count_sits : (drawn served drawn2 served2 count : ℕ) (gone : List (Ended G E)) (g : G) (log : List E) (v : View G E)
      → Sits seat_of drawn served count gone g log v → InPhase drawn2 served2 v v.phase
      → Sits seat_of drawn2 served2 count gone g log v
  count_sits drawn served drawn2 served2 count gone g log v h here = record {
    at = here;
    low = h.low;
    high = h.high;
    counts = h.counts;
    same_ground = h.same_ground;
    seen = h.seen;
    own = h.own;
    own_seen = h.own_seen;
    whole = h.whole;
    not_gone = h.not_gone;
  }
