-- Boundary pairs member by member.
use Rattle.std.proofs.Common.{◌≡◌, ℕ, ◌+◌, true, false, List, ◌++◌, length, Option, Some, None, refl, arith, sym, ap, ap₂, ◌∙◌, append_assoc, length-append}
use Rattle.cg_meaning.specs.Tree.{Tree, Trees, Leaf, Boundary, Group, none, more, Sequence, Phase, After, Before, count, count_all}
use Rattle.cg_meaning.specs.Pairs.{boundary_after, pair_of, pairs_of, pairs_of_all, pairs_in_sequence}
use Rattle.cg_model.specs.Member.{is_boundary}
use Rattle.cg_listing.specs.Member.{pair_for, boundary_before}

-- each event has its place in the list of pairs
mutual
  pub length-pairs_of : (outer : Option (ℕ × ℕ)) (number : ℕ) (t : Tree) → length (pairs_of outer number t) ≡ count t
  length-pairs_of outer number (Leaf name d) = refl
  length-pairs_of outer number (Boundary name) = refl
  length-pairs_of outer number (Group Sequence name ts) = length-pairs_in_sequence outer None number ts
  length-pairs_of outer number (Group Phase name ts) = length-pairs_of_all outer number ts
  length-pairs_of outer number (Group After name ts) = length-pairs_of_all None number ts
  length-pairs_of outer number (Group Before name ts) = length-pairs_of_all None number ts

  length-pairs_of_all : (outer : Option (ℕ × ℕ)) (number : ℕ) (ts : Trees) → length (pairs_of_all outer number ts) ≡ count_all ts
  length-pairs_of_all outer number none = refl
  length-pairs_of_all outer number (more t ts) =
      length-append (pairs_of outer number t) (pairs_of_all outer (number + count t) ts)
      ∙ ap₂ (λ m n. m + n) (length-pairs_of outer number t) (length-pairs_of_all outer (number + count t) ts)

  length-pairs_in_sequence : (outer : Option (ℕ × ℕ)) (before : Option ℕ) (number : ℕ) (ts : Trees) → length (pairs_in_sequence outer before number ts) ≡ count_all ts
  length-pairs_in_sequence outer before number none = refl
  length-pairs_in_sequence outer before number (more (Boundary name) ts) = omega (arith, length-pairs_in_sequence outer (Some number) (number + 1) ts)
  length-pairs_in_sequence outer before number (more (Leaf name d) ts) = omega (arith, length-pairs_in_sequence outer before (number + 1) ts)
  length-pairs_in_sequence outer before number (more (Group kind name us) ts) =
      let next : ℕ = number + count_all us in
      let pair : Option (ℕ × ℕ) = pair_of before (boundary_after next ts) outer in
      length-append (pairs_of pair number (Group kind name us)) (pairs_in_sequence outer before next ts)
      ∙ ap₂ (λ m n. m + n) (length-pairs_of pair number (Group kind name us)) (length-pairs_in_sequence outer before next ts)

-- the first Boundary is the first member, where that is one
pub boundary_after-first : (number : ℕ) (t : Tree) (ts : Trees) → is_boundary t ≡ true → boundary_after number (more t ts) ≡ Some number
boundary_after-first number (Leaf name d) ts is = absurd (cc)
boundary_after-first number (Boundary name) ts is = refl
boundary_after-first number (Group kind name us) ts is = absurd (cc)

-- else it is among the members behind it
pub boundary_after-later : (number : ℕ) (t : Tree) (ts : Trees) → is_boundary t ≡ false →
    boundary_after number (more t ts) ≡ boundary_after (number + count t) ts
boundary_after-later number (Leaf name d) ts is = refl
boundary_after-later number (Boundary name) ts is = absurd (cc)
boundary_after-later number (Group kind name us) ts is = refl

-- the pairs of the first member, and those behind it
pairs_in_sequence-more : (outer : Option (ℕ × ℕ)) (before : Option ℕ) (number : ℕ) (t : Tree) (ts : Trees) →
    pairs_in_sequence outer before number (more t ts)
    ≡ pairs_of (pair_for t before (boundary_after (number + count t) ts) outer) number t
    ++ pairs_in_sequence outer (boundary_before t before number) (number + count t) ts
pairs_in_sequence-more outer before number (Leaf name d) ts = refl
pairs_in_sequence-more outer before number (Boundary name) ts = refl
pairs_in_sequence-more outer before number (Group kind name us) ts = refl

abbrev Pairs : Type 0
Pairs = List (Option (ℕ × ℕ))

-- the number of the next event
pub next-number : (done next : Pairs) (outer : Option (ℕ × ℕ)) (t : Tree) → next ≡ done ++ pairs_of outer (length done) t →
    length next ≡ length done + count t
next-number done next outer t is =
    ap length is ∙ length-append done (pairs_of outer (length done) t) ∙ ap (λ n. length done + n) (length-pairs_of outer (length done) t)

-- one more part of a list
joined : (done next own later : Pairs) → next ≡ done ++ own → next ++ later ≡ done ++ (own ++ later)
joined done next own later is = ap (λ ps. ps ++ later) is ∙ append_assoc done own later

-- one more member
pub pairs_of_all-next : (done next : Pairs) (outer : Option (ℕ × ℕ)) (t : Tree) (ts : Trees) → next ≡ done ++ pairs_of outer (length done) t →
    next ++ pairs_of_all outer (length next) ts ≡ done ++ pairs_of_all outer (length done) (more t ts)
pairs_of_all-next done next outer t ts is =
    ap (λ n. next ++ pairs_of_all outer n ts) (next-number done next outer t is)
    ∙ joined done next (pairs_of outer (length done) t) (pairs_of_all outer (length done + count t) ts) is

-- one more member of a Sequence
pub pairs_in_sequence-next : (done next : Pairs) (outer pair : Option (ℕ × ℕ)) (before after nearest : Option ℕ) (t : Tree) (ts : Trees) →
    after ≡ boundary_after (length done + count t) ts → pair ≡ pair_for t before after outer → nearest ≡ boundary_before t before (length done) →
    next ≡ done ++ pairs_of pair (length done) t →
    next ++ pairs_in_sequence outer nearest (length next) ts ≡ done ++ pairs_in_sequence outer before (length done) (more t ts)
pairs_in_sequence-next done next outer pair before after nearest t ts after_is pair_is nearest_is is =
    let own : Option (ℕ × ℕ) = pair_for t before (boundary_after (length done + count t) ts) outer in
    let own_pair : pair ≡ own = pair_is ∙ ap (λ b. pair_for t before b outer) after_is in
    ap₂ (λ b n. next ++ pairs_in_sequence outer b n ts) nearest_is (next-number done next pair t is)
    ∙ joined done next (pairs_of own (length done) t) (pairs_in_sequence outer (boundary_before t before (length done)) (length done + count t) ts)
    (is ∙ ap (λ p. done ++ pairs_of p (length done) t) own_pair)
    ∙ ap (λ ps. done ++ ps) (sym (pairs_in_sequence-more outer before (length done) t ts))
