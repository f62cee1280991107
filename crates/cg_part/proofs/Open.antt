-- Open events carry the weight of the pair from further out.
use Rattle.std.proofs.Common.{◌≡◌, ℕ, suc, ◌+◌, ◌*◌, ◌^◌, Bool, true, false, ◌&&◌, List, [], ◌∷◌, ◌++◌, length, take, drop, refl, sym, ap, ap₂, ◌∙◌, arith, Option, Some, None, length-take-le, length-drop}
use Rattle.std.specs.Prelude.{if◌then◌else◌}
use Rattle.std.proofs.Math.Nat.{mul_assoc, mul-mul-mul_comm, pow-zero, pow-suc}
use Rattle.std.proofs.lemmas.Nat.{pow-add}
use Rattle.cg_meaning.specs.Tree.{Tree, Leaf, Boundary, Group, Trees, none, more, Kind, Sequence, Phase, After, Before, Dating, Name, count, count_all}
use Rattle.cg_meaning.specs.Sums.{product_by}
use Rattle.cg_meaning.specs.Pairs.{pair_of, span_weight}
use Rattle.cg_part.proofs.CellPairs.{first, boundary_at, pairs_at, pairs_at_all, pairs_at_sequence}
use Rattle.cg_part.specs.Elements as element
use Rattle.cg_part.specs.Elements.{Element, Elements, put_before, element_of, members_of, items_of, items_behind, open_events, open_in}
use Rattle.cg_part.proofs.Items.{has_boundary, begins_with_span, span-there}

-- one factor
pub pow-one : (f : ℕ) → f ^ 1 ≡ f
pow-one f = rw pow-suc (rw pow-zero (omega arith))

-- the product of the spans' weights
abbrev pub spans : ℕ → List (Option (ℕ × ℕ)) → ℕ
spans g pairs = product_by (λ pair. span_weight g pair) pairs

-- of two lists
pub spans-append : (g : ℕ) (xs ys : List (Option (ℕ × ℕ))) → spans g (xs ++ ys) ≡ spans g xs * spans g ys
spans-append g [] ys = omega arith
spans-append g (x ∷ xs) ys = ap (λ a. span_weight g x * a) (spans-append g xs ys) ∙ sym (mul_assoc (span_weight g x) (spans g xs) (spans g ys))

-- two parts, each with its power
joined : (f a b c d m n : ℕ) → a ≡ c * f ^ m → b ≡ d * f ^ n → a * b ≡ (c * d) * f ^ (m + n)
joined f a b c d m n p q =
    ap₂ (λ x y. x * y) p q ∙ mul-mul-mul_comm c (f ^ m) d (f ^ n) ∙ ap (λ x. (c * d) * x) (sym (pow-add f m n))

-- without a factor
no_factor : (f c : ℕ) → c ≡ c * f ^ 0
no_factor f c = omega (arith, ap (λ x. c * x) (pow-zero f))

-- with one
one_factor : (f : ℕ) → f ≡ 1 * f ^ 1
one_factor f = omega (arith, pow-one f)

-- the items of a Sequence, behind a Boundary or not
abbrev items : Bool → ℕ → Trees → Elements
items false n ts = items_of n ts
items true n ts = items_behind n ts

-- what is put before items is open, but where a span takes it up
open_in-put : (e : Element) (es : Elements) → open_in (put_before e es) ≡ (if begins_with_span es then 0 else open_events e) + open_in es
open_in-put e element.none = refl
open_in-put e (element.more (element.Event number) es) = refl
open_in-put e (element.more (element.Group kind us) es) = refl
open_in-put e (element.more (element.Span us closing) es) = omega arith

-- by whether a Boundary follows
open_in-behind : (e : Element) (n : ℕ) (ts : Trees) →
    open_in (put_before e (items_behind n ts)) ≡ (if has_boundary ts then 0 else open_events e) + open_in (items_behind n ts)
open_in-behind e n ts =
    open_in-put e (items_behind n ts) ∙ ap (λ b. (if b then 0 else open_events e) + open_in (items_behind n ts)) (span-there n ts)

-- whether there is a cell
abbrev is_there : Option ℕ → Bool
is_there None = false
is_there (Some c) = true

-- a Boundary among the members has a cell
boundary-there : (ts : Trees) (cells : List ℕ) → length cells ≡ count_all ts → is_there (boundary_at ts cells) ≡ has_boundary ts
boundary-there none cells l = refl
boundary-there (more (Boundary name) ts) [] l = absurd (omega arith)
boundary-there (more (Boundary name) ts) (c ∷ cs) l = refl
boundary-there (more (Leaf name d) ts) cells l = boundary-there ts (drop 1 cells) (omega (arith, length-drop 1 cells))
boundary-there (more (Group kind name us) ts) cells l =
    boundary-there ts (drop (count (Group kind name us)) cells) (omega (arith, length-drop (count (Group kind name us)) cells))

-- the first of some cells
first-there : (cells : List ℕ) (n : ℕ) → length cells ≡ suc n → is_there (first cells) ≡ true
first-there [] n l = absurd (omega arith)
first-there (c ∷ cs) n l = refl

-- a member of a Sequence between two Boundaries has their pair, and else that from further out
chosen : (g : ℕ) (outer : Option (ℕ × ℕ)) (before next : Option ℕ) (t : Tree) (cells : List ℕ) (opened : ℕ) →
    spans g (pairs_at outer t cells) ≡ spans g (pairs_at None t cells) * span_weight g outer ^ opened →
    spans g (pairs_at (pair_of before next outer) t cells)
    ≡ spans g (pairs_at (pair_of before next None) t cells) * span_weight g outer ^ (if (is_there before && is_there next) then 0 else opened)
chosen g outer None next t cells opened h = h
chosen g outer (Some a) None t cells opened h = h
chosen g outer (Some a) (Some b) t cells opened h = no_factor (span_weight g outer) (spans g (pairs_at (Some (a, b)) t cells))

-- a member and later members of a Sequence, of which so many are open
open_step : (g : ℕ) (outer : Option (ℕ × ℕ)) (before : Option ℕ) (behind : Bool) (t : Tree) (ts : Trees) (xs ys : List ℕ)
    (rest rest_own : List (Option (ℕ × ℕ))) (opened later : ℕ) →
    is_there before ≡ behind → length ys ≡ count_all ts →
    spans g (pairs_at outer t xs) ≡ spans g (pairs_at None t xs) * span_weight g outer ^ opened →
    spans g rest ≡ spans g rest_own * span_weight g outer ^ later →
    spans g (pairs_at (pair_of before (boundary_at ts ys) outer) t xs ++ rest)
    ≡ spans g (pairs_at (pair_of before (boundary_at ts ys) None) t xs ++ rest_own)
    * span_weight g outer ^ ((if (behind && has_boundary ts) then 0 else opened) + later)
open_step g outer before behind t ts xs ys rest rest_own opened later b l one others =
    let next = boundary_at ts ys in
    let n = if (behind && has_boundary ts) then 0 else opened in
    spans-append g (pairs_at (pair_of before next outer) t xs) rest
    ∙ joined (span_weight g outer) _ _ (spans g (pairs_at (pair_of before next None) t xs)) (spans g rest_own) n later
    (rw (← b, ← boundary-there ts ys l) (chosen g outer before next t xs opened one)) others
    ∙ ap (λ x. x * span_weight g outer ^ (n + later)) (sym (spans-append g (pairs_at (pair_of before next None) t xs) rest_own))

-- a leaf as such a member
open_leaf : (behind : Bool) (name : Name) (d : Dating) (n : ℕ) (ts : Trees) →
    (if (behind && has_boundary ts) then 0 else 1) + open_in (items behind (n + 1) ts) ≡ open_in (items behind n (more (Leaf name d) ts))
open_leaf false name d n ts = refl
open_leaf true name d n ts = sym (open_in-behind (element.Event n) (n + 1) ts)

-- a group
open_group : (behind : Bool) (kind : Kind) (name : Name) (us : Trees) (n : ℕ) (ts : Trees) →
    (if (behind && has_boundary ts) then 0 else open_events (element_of n (Group kind name us))) + open_in (items behind (n + count_all us) ts)
    ≡ open_in (items behind n (more (Group kind name us) ts))
open_group false kind name us n ts = refl
open_group true kind name us n ts = sym (open_in-behind (element_of n (Group kind name us)) (n + count_all us) ts)

-- a Boundary, whose own event is open
open_boundary : (behind : Bool) (name : Name) (n : ℕ) (ts : Trees) →
    1 + open_in (items_behind (n + 1) ts) ≡ open_in (items behind n (more (Boundary name) ts))
open_boundary false name n ts = refl
open_boundary true name n ts = refl

mutual
  -- Under a pair from further out a node has its own spans' weights, times that of the pair for each open event.
  pub spans-open : (g : ℕ) (outer : Option (ℕ × ℕ)) (n : ℕ) (t : Tree) (cells : List ℕ) → length cells ≡ count t →
      spans g (pairs_at outer t cells) ≡ spans g (pairs_at None t cells) * span_weight g outer ^ open_events (element_of n t)
  spans-open g outer n (Leaf name d) cells l = omega (arith, one_factor (span_weight g outer))
  spans-open g outer n (Boundary name) cells l = omega (arith, one_factor (span_weight g outer))
  spans-open g outer n (Group Sequence name ts) cells l = spans-open_sequence g outer None false n ts cells refl l
  spans-open g outer n (Group Phase name ts) cells l = spans-open_all g outer n ts cells l
  spans-open g outer n (Group After name ts) cells l = no_factor (span_weight g outer) (spans g (pairs_at_all None ts cells))
  spans-open g outer n (Group Before name ts) cells l = no_factor (span_weight g outer) (spans g (pairs_at_all None ts cells))

  spans-open_all : (g : ℕ) (outer : Option (ℕ × ℕ)) (n : ℕ) (ts : Trees) (cells : List ℕ) → length cells ≡ count_all ts →
      spans g (pairs_at_all outer ts cells) ≡ spans g (pairs_at_all None ts cells) * span_weight g outer ^ open_in (members_of n ts)
  spans-open_all g outer n none cells l = no_factor (span_weight g outer) 1
  spans-open_all g outer n (more t ts) cells l =
      let xs = take (count t) cells in
      let ys = drop (count t) cells in
      let opened = open_events (element_of n t) in
      let later = open_in (members_of (n + count t) ts) in
      let m : length xs ≡ count t = length-take-le (count t) cells (omega arith) in
      let k : length ys ≡ count_all ts = omega (arith, length-drop (count t) cells) in
      spans-append g (pairs_at outer t xs) (pairs_at_all outer ts ys)
      ∙ joined (span_weight g outer) _ _ (spans g (pairs_at None t xs)) (spans g (pairs_at_all None ts ys)) opened later
      (spans-open g outer n t xs m) (spans-open_all g outer (n + count t) ts ys k)
      ∙ ap (λ x. x * span_weight g outer ^ (opened + later)) (sym (spans-append g (pairs_at None t xs) (pairs_at_all None ts ys)))

  spans-open_sequence : (g : ℕ) (outer : Option (ℕ × ℕ)) (before : Option ℕ) (behind : Bool) (n : ℕ) (ts : Trees) (cells : List ℕ) →
      is_there before ≡ behind → length cells ≡ count_all ts →
      spans g (pairs_at_sequence outer before ts cells) ≡ spans g (pairs_at_sequence None before ts cells) * span_weight g outer ^ open_in (items behind n ts)
  spans-open_sequence g outer before false n none cells b l = no_factor (span_weight g outer) 1
  spans-open_sequence g outer before true n none cells b l = no_factor (span_weight g outer) 1
  spans-open_sequence g outer before behind n (more (Boundary name) ts) cells b l =
      let ys = drop 1 cells in
      let own = spans g (pairs_at_sequence None (first cells) ts ys) in
      let k : length ys ≡ count_all ts = omega (arith, length-drop 1 cells) in
      joined (span_weight g outer) _ _ 1 own 1 (open_in (items_behind (n + 1) ts))
      (one_factor (span_weight g outer)) (spans-open_sequence g outer (first cells) true (n + 1) ts ys (first-there cells (count_all ts) (omega arith)) k)
      ∙ ap (λ j. 1 * own * span_weight g outer ^ j) (open_boundary behind name n ts)
  spans-open_sequence g outer before behind n (more (Leaf name d) ts) cells b l =
      let ys = drop 1 cells in
      let k : length ys ≡ count_all ts = omega (arith, length-drop 1 cells) in
      open_step g outer before behind (Leaf name d) ts (take 1 cells) ys (pairs_at_sequence outer before ts ys)
      (pairs_at_sequence None before ts ys) 1 (open_in (items behind (n + 1) ts)) b k
      (omega (arith, one_factor (span_weight g outer))) (spans-open_sequence g outer before behind (n + 1) ts ys b k)
      ∙ ap (λ j. spans g (pairs_at_sequence None before (more (Leaf name d) ts) cells) * span_weight g outer ^ j) (open_leaf behind name d n ts)
  spans-open_sequence g outer before behind n (more (Group kind name us) ts) cells b l =
      let xs = take (count_all us) cells in
      let ys = drop (count_all us) cells in
      let m : length xs ≡ count_all us = length-take-le (count_all us) cells (omega arith) in
      let k : length ys ≡ count_all ts = omega (arith, length-drop (count_all us) cells) in
      open_step g outer before behind (Group kind name us) ts xs ys (pairs_at_sequence outer before ts ys) (pairs_at_sequence None before ts ys)
      (open_events (element_of n (Group kind name us))) (open_in (items behind (n + count_all us) ts)) b k
      (spans-open g outer n (Group kind name us) xs m) (spans-open_sequence g outer before behind (n + count_all us) ts ys b k)
      ∙ ap (λ j. spans g (pairs_at_sequence None before (more (Group kind name us) ts) cells) * span_weight g outer ^ j)
      (open_group behind kind name us n ts)
