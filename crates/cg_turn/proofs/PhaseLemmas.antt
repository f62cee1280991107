-- A ticket in each phase.
use Rattle.std.proofs.Common.{◌≡◌, ◌≢◌, ℕ, ◌+◌, ◌<◌, ◌≤◌, arith}
use Rattle.cg_turn.specs.declared.view.View.{View}
use Rattle.cg_turn.specs.declared.view.Phase.{Phase}
use Rattle.cg_turn.specs.declared.view.Phase.TheVariants.{Idle, Waiting, Due, Fresh, Noted, Spent}
use Rattle.cg_turn.specs.Phases.{ticketed, live, serving, holding}
use Rattle.cg_turn.specs.Rule.{InPhase}

-- only a seat that has not ended has a ticket
pub ticket_at_most : (p : Phase) → ticketed p ≤ live p
ticket_at_most Idle = omega arith
ticket_at_most Waiting = omega arith
ticket_at_most Due = omega arith
ticket_at_most Fresh = omega arith
ticket_at_most Noted = omega arith
ticket_at_most Spent = omega arith

-- only a seat whose ticket is served has the slot
pub serving_holds : (p : Phase) → holding p ≤ serving p
serving_holds Idle = omega arith
serving_holds Waiting = omega arith
serving_holds Due = omega arith
serving_holds Fresh = omega arith
serving_holds Noted = omega arith
serving_holds Spent = omega arith

-- only a ticket is served
pub serving_ticket : (p : Phase) → serving p ≤ ticketed p
serving_ticket Idle = omega arith
serving_ticket Waiting = omega arith
serving_ticket Due = omega arith
serving_ticket Fresh = omega arith
serving_ticket Noted = omega arith
serving_ticket Spent = omega arith

module _ {G E : Type 0} where
  -- a ticket that is held is drawn, and not yet passed
  pub within : (drawn served : ℕ) (v : View G E) (p : Phase) → InPhase drawn served v p → 1 ≤ ticketed p
      → (served ≤ v.ticket) × (v.ticket < drawn)
  within drawn served v Idle h t = absurd (omega arith)
  within drawn served v Waiting h t = h
  within drawn served v Due h t = let e = h.0 in let l = h.1 in (omega arith, l)
  within drawn served v Fresh h t = let e = h.0 in let l = h.1 in (omega arith, l)
  within drawn served v Noted h t = let e = h.0 in let l = h.1 in (omega arith, l)
  within drawn served v Spent h t = absurd (omega arith)

  -- one ticket more is drawn
  pub more_drawn : (drawn served : ℕ) (v : View G E) (p : Phase) → InPhase drawn served v p
      → InPhase (drawn + 1) served v p
  more_drawn drawn served v Idle h = tt
  more_drawn drawn served v Waiting h = let b = h.1 in (h.0, omega arith)
  more_drawn drawn served v Due h = let b = h.1 in (h.0, omega arith)
  more_drawn drawn served v Fresh h = let b = h.1 in (h.0, omega arith)
  more_drawn drawn served v Noted h = let b = h.1 in (h.0, omega arith)
  more_drawn drawn served v Spent h = tt

  -- one ticket more is served, and it is no seat's own
  pub more_served : (drawn served : ℕ) (v : View G E) (p : Phase) → InPhase drawn served v p
      → (1 ≤ ticketed p → v.ticket ≢ served) → InPhase drawn (served + 1) v p
  more_served drawn served v Idle h ne = tt
  more_served drawn served v Waiting h ne = let a = h.0 in let b = h.1 in let n = ne (omega arith) in (omega arith, b)
  more_served drawn served v Due h ne = absurd (ne (omega arith) h.0)
  more_served drawn served v Fresh h ne = absurd (ne (omega arith) h.0)
  more_served drawn served v Noted h ne = absurd (ne (omega arith) h.0)
  more_served drawn served v Spent h ne = tt

  -- the ticket of a seat that is served is the one served
  pub at_served : (drawn served : ℕ) (v : View G E) (p : Phase) → InPhase drawn served v p → 1 ≤ serving p
      → v.ticket ≡ served
  at_served drawn served v Idle h k = absurd (omega arith)
  at_served drawn served v Waiting h k = absurd (omega arith)
  at_served drawn served v Due h k = h.0
  at_served drawn served v Fresh h k = h.0
  at_served drawn served v Noted h k = h.0
  at_served drawn served v Spent h k = absurd (omega arith)
