-- What a join of two nodes leaves of a list's links.
use Rattle.std.proofs.Common.{◌≡◌, ◌≢◌, ℕ, ◌<◌, true, List, [], ◌∷◌, ◌⊎◌, inl, inr, length, get_or, set, ap, sym, ◌∙◌, subst, get_or-set_other, get_or-set_same, length-set}
use Rattle.std.proofs.lemmas.Bool.{false≢true, eq-eqb, ne_eqb, cases_eq}
use Rattle.std.proofs.lemmas.Grind.{get_or-set_at}
use Rattle.cg_rings.specs.Links.{Arrows, joined}
use Rattle.cg_rings.specs.Lists.{has, without}
use Rattle.cg_rings.specs.Threaded.{Linked, IsOut, IsOnce}
use Rattle.cg_rings.proofs.SlotLemmas.{has_else, without_out}

-- the node after another goes back to it
pub first_back : (a : Arrows) (before after : ℕ) (xs : List ℕ) → Linked a before xs after → get_or a.prev (get_or a.next before 0) 0 ≡ before
first_back a before after [] l = ap (λ n. get_or a.prev n 0) l.0 ∙ l.1
first_back a before after (x ∷ xs) l = ap (λ n. get_or a.prev n 0) l.0 ∙ l.1

-- a slot is next to the node before it, and before the node next to it
abbrev IsBetween : Arrows → ℕ → Type 0
IsBetween a x = (get_or a.next (get_or a.prev x 0) 0 ≡ x) × (get_or a.prev (get_or a.next x 0) 0 ≡ x)

-- the first slot of a list, or one behind it
around_step : (a : Arrows) (x y before after : ℕ) (ys : List ℕ) → Linked a before (y ∷ ys) after → (has x ys ≡ true → IsBetween a x) → (x ≡ y) ⊎ (x ≡ y → ⊥) → has x (y ∷ ys) ≡ true → IsBetween a x
around_step a x y before after ys l rest (inl e) h = (
  ap (λ n. get_or a.next (get_or a.prev n 0) 0) e ∙ (ap (λ n. get_or a.next n 0) l.1 ∙ (l.0 ∙ sym e)),
  ap (λ n. get_or a.prev (get_or a.next n 0) 0) e ∙ (first_back a y after ys l.2 ∙ sym e),
)
around_step a x y before after ys l rest (inr ne) h = rest (sym (has_else x y ys ne) ∙ h)

-- so it is with each slot of a linked list
pub around : (a : Arrows) (x before after : ℕ) (xs : List ℕ) → Linked a before xs after → has x xs ≡ true → IsBetween a x
around a x before after [] l h = absurd (false≢true h)
around a x before after (y ∷ ys) l h = around_step a x y before after ys l (around a x y after ys l.2) (cases_eq x y) h

-- two nodes are linked, both ways
abbrev IsEdge : Arrows → ℕ → ℕ → Type 0
IsEdge a u v = (get_or a.next u 0 ≡ v) × (get_or a.prev v 0 ≡ u)

-- a join of the two nodes around x leaves a link between others
edge_away : (a : Arrows) (x p q u v : ℕ) → get_or a.next p 0 ≡ x → get_or a.prev q 0 ≡ x → u ≢ x → v ≢ x → IsEdge a u v → IsEdge (joined p q a) u v
edge_away a x p q u v np pq un vn e = (
  get_or-set_other a.next p u q 0 (λ (k : u ≡ p). vn (sym e.0 ∙ (ap (λ n. get_or a.next n 0) k ∙ np))) ∙ e.0,
  get_or-set_other a.prev q v p 0 (λ (k : v ≡ q). un (sym e.1 ∙ (ap (λ n. get_or a.prev n 0) k ∙ pq))) ∙ e.1,
)

-- and so a list that x isn't in
pub away : (a : Arrows) (x p q before after : ℕ) (xs : List ℕ) → get_or a.next p 0 ≡ x → get_or a.prev q 0 ≡ x → before ≢ x → after ≢ x → IsOut x xs → Linked a before xs after → Linked (joined p q a) before xs after
away a x p q before after [] np pq bn an out l = edge_away a x p q before after np pq bn an l
away a x p q before after (y ∷ ys) np pq bn an out l =
    let e = edge_away a x p q before y np pq bn out.0 (l.0, l.1) in
    (e.0, e.1, away a x p q y after ys np pq out.0 an out.1 l.2)

-- x is the first
cut_here : (a : Arrows) (x p q before after : ℕ) (ys : List ℕ) → p ≡ before → q ≡ get_or a.next x 0 → get_or a.next p 0 ≡ x → get_or a.prev q 0 ≡ x → p < length a.next → q < length a.prev → after ≢ x → IsOut x ys → Linked a x ys after → Linked (joined p q a) before ys after
cut_here a x p q before after [] pb qe np pq pl ql an out l = (
  get_or-set_at a.next p before q 0 (sym pb) pl ∙ (qe ∙ l.0),
  get_or-set_at a.prev q after p 0 (sym (qe ∙ l.0)) ql ∙ pb,
)
cut_here a x p q before after (z ∷ zs) pb qe np pq pl ql an out l = (
  get_or-set_at a.next p before q 0 (sym pb) pl ∙ (qe ∙ l.0),
  get_or-set_at a.prev q z p 0 (sym (qe ∙ l.0)) ql ∙ pb,
  away a x p q z after zs np pq out.0 an out.1 l.2,
)

-- x is the first, or another is
cut_step : (a : Arrows) (x p q y before after : ℕ) (ys : List ℕ) → p ≡ get_or a.prev x 0 → q ≡ get_or a.next x 0 → get_or a.next p 0 ≡ x → get_or a.prev q 0 ≡ x → p < length a.next → q < length a.prev → before ≢ x → after ≢ x → IsOnce (y ∷ ys) → Linked a before (y ∷ ys) after → (y ≢ x → Linked (joined p q a) y (without x ys) after) → (x ≡ y) ⊎ (x ≡ y → ⊥) → Linked (joined p q a) before (without x (y ∷ ys)) after
cut_step a x p q y before after ys pe qe np pq pl ql bn an once l rest (inl e) =
    let out : IsOut x ys = subst (λ (n : ℕ). IsOut n ys) (sym e) once.0 in
    let here : Linked a x ys after = subst (λ (n : ℕ). Linked a n ys after) (sym e) l.2 in
    rw (eq-eqb x y e, without_out x ys out) (cut_here a x p q before after ys (pe ∙ (ap (λ n. get_or a.prev n 0) e ∙ l.1)) qe np pq pl ql an out here)
cut_step a x p q y before after ys pe qe np pq pl ql bn an once l rest (inr ne) =
    let yn : y ≢ x = λ (k : y ≡ x). ne (sym k) in
    let e = edge_away a x p q before y np pq bn yn (l.0, l.1) in
    rw (ne_eqb x y ne) (e.0, e.1, rest yn)

-- a join of the two nodes around x takes x out of its list
pub cut : (a : Arrows) (x p q before after : ℕ) (xs : List ℕ) → p ≡ get_or a.prev x 0 → q ≡ get_or a.next x 0 → get_or a.next p 0 ≡ x → get_or a.prev q 0 ≡ x → p < length a.next → q < length a.prev → before ≢ x → after ≢ x → IsOnce xs → Linked a before xs after → Linked (joined p q a) before (without x xs) after
cut a x p q before after [] pe qe np pq pl ql bn an once l = edge_away a x p q before after np pq bn an l
cut a x p q before after (y ∷ ys) pe qe np pq pl ql bn an once l =
    cut_step a x p q y before after ys pe qe np pq pl ql bn an once l (λ yn. cut a x p q y after ys pe qe np pq pl ql yn an once.1 l.2) (cases_eq x y)

-- a join leaves a list that it doesn't touch
pub beside : (a : Arrows) (u v before after : ℕ) (xs : List ℕ) → u ≢ before → v ≢ after → IsOut u xs → IsOut v xs → Linked a before xs after → Linked (joined u v a) before xs after
beside a u v before after [] un vn uo vo l = (
  get_or-set_other a.next u before v 0 (λ k. un (sym k)) ∙ l.0,
  get_or-set_other a.prev v after u 0 (λ k. vn (sym k)) ∙ l.1,
)
beside a u v before after (y ∷ ys) un vn uo vo l = (
  get_or-set_other a.next u before v 0 (λ k. un (sym k)) ∙ l.0,
  get_or-set_other a.prev v y u 0 vo.0 ∙ l.1,
  beside a u v y after ys (λ k. uo.0 (sym k)) vn uo.1 vo.1 l.2,
)

-- a node that comes after s is no node of a list that s isn't in
pub after_out : (a : Arrows) (s f before after : ℕ) (xs : List ℕ) → get_or a.prev f 0 ≡ s → s ≢ before → IsOut s xs → Linked a before xs after → IsOut f xs × (f ≢ after)
after_out a s f before after [] back sn out l = (tt, (λ (k : f ≡ after). sn (sym back ∙ (ap (λ n. get_or a.prev n 0) k ∙ l.1))))
after_out a s f before after (y ∷ ys) back sn out l =
    let rest = after_out a s f y after ys back (λ (k : s ≡ y). out.0 (sym k)) out.1 l.2 in
    (((λ (k : y ≡ f). sn (sym back ∙ (ap (λ n. get_or a.prev n 0) (sym k) ∙ l.1))), rest.0), rest.1)

module _ (a : Arrows) (x s f : ℕ) (xn : x ≢ s) (sl : s < length a.next) (xl : x < length a.next) (xb : x < length a.prev) (fb : f < length a.prev) where
  -- x is next to the end
  next_of_end : get_or (set (set a.next s x) x f) s 0 ≡ x
  next_of_end = get_or-set_other (set a.next s x) x s f 0 (λ k. xn (sym k)) ∙ get_or-set_same a.next s x 0 sl

  -- what was first is next to x
  next_of_slot : get_or (set (set a.next s x) x f) x 0 ≡ f
  next_of_slot = let h : x < length (set a.next s x) = simp length-set xl in get_or-set_same (set a.next s x) x f 0 h

  -- the end is before x
  prev_of_slot : x ≢ f → get_or (set (set a.prev x s) f x) x 0 ≡ s
  prev_of_slot ne = get_or-set_other (set a.prev x s) f x x 0 ne ∙ get_or-set_same a.prev x s 0 xb

  -- x is before what was first
  prev_of_first : (v : ℕ) → v ≡ f → get_or (set (set a.prev x s) f x) v 0 ≡ x
  prev_of_first v e = let h : f < length (set a.prev x s) = simp length-set fb in get_or-set_at (set a.prev x s) f v x 0 e h

  -- x comes between the end and what was first
  pub put_first : (xs : List ℕ) → f ≡ get_or a.next s 0 → IsOut s xs → IsOut x xs → IsOnce xs → Linked a s xs s → Linked (joined x f (joined s x a)) s (x ∷ xs) s
  put_first [] fe so xo once l =
      let fs : f ≡ s = fe ∙ l.0 in
      (next_of_end, prev_of_slot (λ (k : x ≡ f). xn (k ∙ fs)), (next_of_slot ∙ fs, prev_of_first s (sym fs)))
  put_first (y ∷ ys) fe so xo once l =
      let fy : f ≡ y = fe ∙ l.0 in
      let fo : IsOut f ys = subst (λ (n : ℕ). IsOut n ys) (sym fy) once.0 in (
        next_of_end,
        prev_of_slot (λ (k : x ≡ f). xo.0 (sym (k ∙ fy))),
        (
          next_of_slot ∙ fy,
          prev_of_first y (sym fy),
          beside (joined s x a) x f y s ys (λ (k : x ≡ y). xo.0 (sym k)) (λ (k : f ≡ s). so.0 (sym fy ∙ k)) xo.1 fo
              (beside a s x y s ys (λ (k : s ≡ y). so.0 (sym k)) xn so.1 xo.1 l.2),
        ),
      )

  -- and another list stays
  pub put_beside : (e : ℕ) (xs : List ℕ) → get_or a.prev f 0 ≡ s → s ≢ e → x ≢ e → IsOut s xs → IsOut x xs → Linked a e xs e → Linked (joined x f (joined s x a)) e xs e
  put_beside e xs back sn en so xo l =
      let out = after_out a s f e e xs back sn so l in
      beside (joined s x a) x f e e xs en out.1 xo out.0 (beside a s x e e xs sn en so xo l)
