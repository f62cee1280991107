-- What a seat knows, at each step. chron's own.
use Rattle.std.specs.Prelude.{ℕ, ◌+◌, List, [], ◌∷◌, Some, None}
use Rattle.cg_turn.specs.declared.view.View.{View}
use Rattle.cg_turn.specs.declared.view.Ended.{Ended}
use Rattle.cg_turn.specs.declared.view.Phase.{Phase}
use Rattle.cg_turn.specs.declared.view.Phase.TheVariants.{Idle, Spent}
use Rattle.cg_turn.specs.Phases.{live, ticketed}

module _ {G E : Type 0} where
  -- 1 where the seat has a ticket
  abbrev pub has_ticket : View G E → ℕ
  has_ticket v = ticketed v.phase

  -- 1 until the seat has ended
  abbrev pub is_live : View G E → ℕ
  is_live v = live v.phase

  -- the first seat of a new lock
  abbrev pub first_view : G → View G E
  first_view log_ground = record {
    phase = Idle;
    ticket = 0;
    number = 1;
    seen_ground = Some log_ground;
    seen = [];
    mine = [];
    count = 1;
    gone = [];
  }

  -- the first seat when it has made one seat more
  abbrev pub split_left : View G E → View G E
  split_left v = record v { count = v.count + 1 }

  -- the seat that the first one makes: it has seen the same, and has no entry
  abbrev pub split_right : View G E → View G E
  split_right v = record {
    phase = Idle;
    ticket = 0;
    number = v.count + 1;
    seen_ground = v.seen_ground;
    seen = v.seen;
    mine = [];
    count = 0;
    gone = [];
  }

  -- what a seat knew when it ended
  abbrev pub at_end : View G E → Ended G E
  at_end v = record { number = v.number; seen_ground = v.seen_ground; seen = v.seen; mine = v.mine }

  -- the first seat when another has ended
  abbrev pub joined : View G E → View G E → View G E
  joined v other = record v { gone = at_end other ∷ v.gone }

  -- the seat that has ended
  abbrev pub spent : View G E
  spent = record {
    phase = Spent;
    ticket = 0;
    number = 0;
    seen_ground = None;
    seen = [];
    mine = [];
    count = 0;
    gone = [];
  }

  -- in this phase, with this ticket
  abbrev pub in_phase : View G E → Phase → ℕ → View G E
  in_phase v phase ticket = record v { phase = phase; ticket = ticket }

  -- in this phase, with what it has seen and made by now
  abbrev pub with_log : View G E → Phase → List E → List E → View G E
  with_log v phase seen mine = record v { phase = phase; seen = seen; mine = mine }
