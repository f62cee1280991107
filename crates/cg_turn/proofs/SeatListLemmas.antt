-- Lists of seats that grow and shrink at their end.
use Rattle.std.proofs.Common.{◌≡◌, ℕ, suc, ◌+◌, List, [], ◌∷◌, ◌++◌, length, map, refl, ap, sym, subst, Option, arith, get_or}
use Rattle.std.proofs.lemmas.List.{length-map}
use Rattle.std.specs.List.{remove}
use mathlib.Core.Option.{some}
use lib.ListN.{get_elem?}
use Rattle.atomic_table.specs.Seated.{TableId}
use Rattle.cg_turn.specs.declared.logged.Logged.{Ghosts}
use Rattle.cg_turn.specs.declared.lock.TurnSeat.{TurnSeat}
use Rattle.cg_turn.specs.declared.view.Ended.{Ended}
use Rattle.cg_turn.specs.Rule.{IsEnded}
use Rattle.cg_turn.specs.Seats.{number_of, IsSeat, AreFrom, AreSeats, IsNew, AreNew, Has, HasEach, end_of}

module _ {V G E : Type 0} {g : Ghosts V G E} where
  -- one seat more at the end
  pub from_more : (lock : TableId) (n : ℕ) (ss : List (TurnSeat V G E g)) (s : TurnSeat V G E g) → AreFrom lock n ss
      → IsSeat lock (n + length ss) s → AreFrom lock n (ss ++ s ∷ [])
  from_more lock n [] s h here = (subst (λ (m : ℕ). IsSeat lock m s) (let e : n + 0 ≡ n = omega arith in e) here, tt)
  from_more lock n (x ∷ xs) s h here = (h.0, from_more lock (n + 1) xs s h.1 (subst (λ (m : ℕ). IsSeat lock m s) (let e : n + length (x ∷ xs) ≡ n + 1 + length xs = omega arith in e) here))

  -- one seat less at the end
  pub from_less : (lock : TableId) (n : ℕ) (ss : List (TurnSeat V G E g)) (s : TurnSeat V G E g)
      → AreFrom lock n (ss ++ s ∷ []) → AreFrom lock n ss × IsSeat lock (n + length ss) s
  from_less lock n [] s h = (tt, subst (λ (m : ℕ). IsSeat lock m s) (let e : n ≡ n + 0 = omega arith in e) h.0)
  from_less lock n (x ∷ xs) s h = let r = from_less lock (n + 1) xs s h.1 in ((h.0, r.0), subst (λ (m : ℕ). IsSeat lock m s) (let e : n + 1 + length xs ≡ n + length (x ∷ xs) = omega arith in e) r.1)

  -- one new seat more at the end
  pub new_more : (base : Option G) (ss : List (TurnSeat V G E g)) (s : TurnSeat V G E g) → AreNew base ss → IsNew base s
      → AreNew base (ss ++ s ∷ [])
  new_more base [] s h here = (here, tt)
  new_more base (x ∷ xs) s h here = (h.0, new_more base xs s h.1 here)

  -- what the seats knew that have ended is true of the log
  pub has_each : (seat_of : E → ℕ) (count : ℕ) (base : G) (log : List E) (ss : List (TurnSeat V G E g))
      → ((k : ℕ) (y : Ended G E) → get_elem? (map end_of ss) k ≡ some y → IsEnded seat_of count base log y)
      → HasEach seat_of base log ss
  has_each seat_of count base log [] all = tt
  has_each seat_of count base log (s ∷ ss) all =
      let one = all 0 (end_of s) refl in
      ((one.same_ground, one.seen, one.own), has_each seat_of count base log ss (λ k y e. all (suc k) y e))

  -- the first seat and the others
  pub each_of : (lock : TableId) (seat_of : E → ℕ) (base : G) (log : List E) (ss others : List (TurnSeat V G E g)) (s : TurnSeat V G E g)
      → AreSeats lock ss → s ≡ get_or ss 0 s → others ≡ remove ss 0 → Has seat_of base log s
      → HasEach seat_of base log others → HasEach seat_of base log ss
  each_of lock seat_of base log [] others s all is left here each = tt
  each_of lock seat_of base log (y ∷ ys) others s all is left here each = (subst (Has seat_of base log) is here, subst (HasEach seat_of base log) left each)

  -- the first seat was one of them
  pub one_less : (lock : TableId) (ss : List (TurnSeat V G E g)) → AreSeats lock ss
      → length (remove ss 0) + 1 ≡ length ss
  one_less lock [] all = absurd all
  one_less lock (y ∷ ys) all = omega arith

  -- all seats but one have ended
  pub all_gone : (ss : List (TurnSeat V G E g)) (gone : List (Ended G E)) (count : ℕ) → gone ≡ map end_of ss
      → count ≡ length ss + 1 → length gone + 1 ≡ count
  all_gone ss gone count is total =
      let long : length gone ≡ length (map end_of ss) = ap length is in
      let same : length (map end_of ss) ≡ length ss = simp length-map refl in
      omega arith

  -- the first seat has the number 1
  pub first_of : (lock : TableId) (ss : List (TurnSeat V G E g)) (s : TurnSeat V G E g) → s ≡ get_or ss 0 s
      → AreSeats lock ss → number_of s ≡ 1
  first_of lock [] s is all = absurd all
  first_of lock (y ∷ ys) s is all = subst (λ (z : TurnSeat V G E g). number_of z ≡ 1) (sym is) all.0.0.2
