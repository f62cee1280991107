-- Seats that stay at their lock while they take and give: what a caller needs to take from each seat, and to close.
use Rattle.std.proofs.Common.{◌≡◌, ℕ, zero, suc, ◌+◌, ◌<◌, List, [], ◌∷◌, length, get_or, set, ap, sym, subst, ◌∙◌, arith}
use Rattle.std.proofs.lemmas.List.{length-set}
use Rattle.atomic_table.specs.Seated.{TableId}
use Rattle.cg_turn.specs.declared.logged.Logged.{Ghosts}
use Rattle.cg_turn.specs.declared.lock.TurnSeat.{TurnSeat}
use Rattle.cg_turn.specs.Seats.{IsReady, IsSeat, IsFirst, AreFrom, AreSeats, StaysIdle, AllStayIdle}

module _ {V G E : Type 0} {g : Ghosts V G E} where
  -- the seat with its number
  seat_stays : (lock : TableId) (n : ℕ) (s t : TurnSeat V G E g) → StaysIdle s t → IsSeat lock n s → IsSeat lock n t
  seat_stays lock n s t stays is = (stays.0.0 ∙ is.0, stays.1, stays.0.1 ∙ is.2)

  -- seats from a number on
  from_stay : (lock : TableId) (n : ℕ) (ss ts : List (TurnSeat V G E g)) → length ts ≡ length ss → AllStayIdle ss ts
      → AreFrom lock n ss → AreFrom lock n ts
  from_stay lock n ss [] same stay all = tt
  from_stay lock n [] (t ∷ ts) same stay all = absurd (omega arith)
  from_stay lock n (s ∷ ss) (t ∷ ts) same stay all = (seat_stays lock n s t (stay 0 s (omega arith)) all.0, from_stay lock (n + 1) ss ts (omega arith) (λ k d h. stay (suc k) d (omega arith)) all.1)

  -- where each seat stays, they are all seats of the lock still
  pub seats_stay : (lock : TableId) (ss ts : List (TurnSeat V G E g)) → length ts ≡ length ss → AllStayIdle ss ts
      → AreSeats lock ss → AreSeats lock ts
  seats_stay lock [] ts same stay all = absurd all
  seats_stay lock (s ∷ ss) [] same stay all = absurd (omega arith)
  seats_stay lock (s ∷ ss) (t ∷ ts) same stay all =
      let one = stay 0 s (omega arith) in
      let first = all.0 in
      let long : length ts ≡ length ss = omega arith in
      ((seat_stays lock 1 s t one first.0, one.0.3 ∙ (first.1 ∙ ap (λ n. n + 1) (sym long)), one.0.4 ∙ first.2), from_stay lock 2 ss ts long (λ k d h. stay (suc k) d (omega arith)) all.1)

  -- a seat from a number on may take its turn
  ready_from : (lock : TableId) (n : ℕ) (ss : List (TurnSeat V G E g)) → AreFrom lock n ss
      → (k : ℕ) (d : TurnSeat V G E g) → k < length ss → IsReady lock (get_or ss k d)
  ready_from lock n [] all k d h = absurd (omega arith)
  ready_from lock n (s ∷ ss) all zero d h = (all.0.0, all.0.1)
  ready_from lock n (s ∷ ss) all (suc k) d h = ready_from lock (n + 1) ss all.1 k d (omega arith)

  -- each seat of the lock may take its turn
  pub ready : (lock : TableId) (ss : List (TurnSeat V G E g)) → AreSeats lock ss → (k : ℕ) (d : TurnSeat V G E g)
      → k < length ss → IsReady lock (get_or ss k d)
  ready lock [] all k d h = absurd all
  ready lock (s ∷ ss) all zero d h = (all.0.0.0, all.0.0.1)
  ready lock (s ∷ ss) all (suc k) d h = ready_from lock 2 ss all.1 k d (omega arith)

  -- one of the seats from a number on stays, and the others are left as they are
  one_from : (lock : TableId) (n : ℕ) (ss : List (TurnSeat V G E g)) (k : ℕ) (s t : TurnSeat V G E g) → k < length ss
      → s ≡ get_or ss k s → StaysIdle s t → AreFrom lock n ss → AreFrom lock n (set ss k t)
  one_from lock n [] k s t h is stays all = tt
  one_from lock n (x ∷ xs) zero s t h is stays all = (seat_stays lock n s t stays (subst (IsSeat lock n) (sym is) all.0), all.1)
  one_from lock n (x ∷ xs) (suc k) s t h is stays all = (all.0, one_from lock (n + 1) xs k s t (omega arith) is stays all.1)

  -- where one seat stays, and the others are left as they are, they are all seats of the lock still
  pub one_stays : (lock : TableId) (ss : List (TurnSeat V G E g)) (k : ℕ) (s t : TurnSeat V G E g) → k < length ss
      → s ≡ get_or ss k s → StaysIdle s t → AreSeats lock ss → AreSeats lock (set ss k t)
  one_stays lock [] k s t h is stays all = absurd all
  one_stays lock (x ∷ xs) zero s t h is stays all =
      let first = subst (IsFirst lock (length xs + 1)) (sym is) all.0 in
      ((seat_stays lock 1 s t stays first.0, stays.0.3 ∙ first.1, stays.0.4 ∙ first.2), all.1)
  one_stays lock (x ∷ xs) (suc k) s t h is stays all = (subst (λ (n : ℕ). IsFirst lock (n + 1) x) (sym (length-set xs k t)) all.0, one_from lock 2 xs k s t (omega arith) is stays all.1)
