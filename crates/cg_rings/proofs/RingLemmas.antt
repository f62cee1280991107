-- The three rings after a slot is taken out, and after one is put at a front.
use Rattle.std.proofs.Common.{◌≡◌, ◌≢◌, ◌↔◌, ℕ, ◌+◌, ◌<◌, ◌≤◌, true, false, List, ◌∷◌, ◌⊎◌, inl, inr, length, get_or, set, refl, ap, sym, ◌∙◌, Some, None, Option, arith, get_or-set_other, length-set}
use Rattle.std.proofs.lemmas.Bool.{false≢true, cases_eq, cases_lt, false_from_ne_true}
use Rattle.std.proofs.lemmas.Grind.{get_or-set_at}
use Rattle.std.proofs.lemmas.List.{get_or_past}
use Rattle.cg_rings.specs.declared.which.Which.{Which}
use Rattle.cg_rings.specs.declared.which.Which.TheVariants.{Free, Claimed, Ready}
use Rattle.cg_rings.specs.Links.{Arrows, joined}
use Rattle.cg_rings.specs.Lists.{Lists, list_in, has, without, unlinked, pushed}
use Rattle.cg_rings.specs.Threaded.{end_of, IsOut, IsRing, AreRings}
use Rattle.cg_rings.proofs.SlotLemmas.{out_from_has, has_front, has_else, once_without, has_without_same, has_without_other}
use Rattle.cg_rings.proofs.PathLemmas.{first_back, around, cut, put_first, put_beside}

-- a slot that is noted has its place among the notes
pub noted_known : (notes : List (Option Which)) (x : ℕ) (k : Which) → get_or notes x None ≡ Some k → x < length notes
noted_known notes x k e =
    elim (cases_lt x (length notes)) [ inl h ↦ h | inr past ↦ (let n : None ≡ Some k = sym (get_or_past notes x None past) ∙ e in cc) ]

module _ (n : ℕ) (a : Arrows) (notes : List (Option Which)) (few : length notes ≡ n) where
  -- a slot in a list is one of the slots
  pub known : (k : Which) (xs : List ℕ) (x : ℕ) → IsRing n a notes k xs → has x xs ≡ true → x < n
  known k xs x r h = let l = noted_known notes x k ((r.noted x).0 h) in omega arith

  -- a node past the slots is in no list
  pub end_out : (k : Which) (xs : List ℕ) (s : ℕ) → IsRing n a notes k xs → n ≤ s → IsOut s xs
  end_out k xs s r past = out_from_has s xs (false_from_ne_true (has s xs) (λ h. let l = known k xs s r h in omega arith))

  -- and a slot that is noted to be elsewhere
  pub other_out : (k : Which) (xs : List ℕ) (x : ℕ) → IsRing n a notes k xs → get_or notes x None ≢ Some k → IsOut x xs
  other_out k xs x r ne = out_from_has x xs (false_from_ne_true (has x xs) (λ h. ne ((r.noted x).0 h)))

-- an end is no slot
pub end_past : (n : ℕ) (k : Which) → n ≤ end_of n k
end_past n Free = omega arith
end_past n Claimed = omega arith
end_past n Ready = omega arith

-- an end has its links
pub end_known : (n : ℕ) (k : Which) → end_of n k < n + 3
end_known n Free = omega arith
end_known n Claimed = omega arith
end_known n Ready = omega arith

-- a list has the slot exactly where that is noted
abbrev IsNotedAs : List (Option Which) → Which → List ℕ → ℕ → Type 0
IsNotedAs notes k xs y = (has y xs ≡ true) ↔ (get_or notes y None ≡ Some k)

-- so it is after a slot was taken out of list and notes
unnoted : (notes : List (Option Which)) (x y : ℕ) (k : Which) (xs : List ℕ) → x < length notes → IsNotedAs notes k xs y → (y ≡ x) ⊎ (y ≡ x → ⊥) → IsNotedAs (set notes x None) k (without x xs) y
unnoted notes x y k xs l noted (inl e) =
    let gone : get_or (set notes x None) y None ≡ None = get_or-set_at notes x y None None e l in
    let out : has y (without x xs) ≡ false = ap (λ z. has z (without x xs)) e ∙ has_without_same x xs in
    ((λ h. absurd (false≢true (sym out ∙ h))), (λ h. let none : None ≡ Some k = sym gone ∙ h in cc))
unnoted notes x y k xs l noted (inr ne) =
    rw (has_without_other y x xs ne, get_or-set_other notes x y None None ne) noted

module _ (n : ℕ) (a : Arrows) (notes : List (Option Which)) (few : length notes ≡ n) (nodes : length a.next ≡ n + 3) (back : length a.prev ≡ n + 3) where
  module _ (x p q : ℕ) (here : x < n) (pe : p ≡ get_or a.prev x 0) (qe : q ≡ get_or a.next x 0) (np : get_or a.next p 0 ≡ x) (pq : get_or a.prev q 0 ≡ x) (pl : p < length a.next) (ql : q < length a.next) where
    -- a list's ring after a slot was taken out
    ring_without : (k : Which) (xs : List ℕ) → IsRing n a notes k xs → IsRing n (joined p q a) (set notes x None) k (without x xs)
    ring_without k xs r =
        let past = end_past n k in
        let ne : end_of n k ≢ x = omega arith in
        let qb : q < length a.prev = omega arith in
        let xl : x < length notes = omega arith in
        record {
          linked = cut a x p q (end_of n k) (end_of n k) xs pe qe np pq pl qb ne ne r.once r.linked;
          once = once_without x xs r.once;
          noted = λ y. unnoted notes x y k xs xl (r.noted y) (cases_eq y x);
        }

    -- all three rings after that
    pub rings_without : (lists : Lists) → lists.slots ≡ n → ((k : Which) → IsRing n a notes k (list_in lists k)) → (k : Which) → IsRing n (joined p q a) (set notes x None) k (list_in (unlinked x lists) k)
    rings_without lists e r Free = ring_without Free lists.free (r Free)
    rings_without lists e r Claimed = ring_without Claimed lists.claimed (r Claimed)
    rings_without lists e r Ready = ring_without Ready lists.ready (r Ready)

  module _ (x : ℕ) (here : x < n) (none : get_or notes x None ≡ None) where
    -- a slot without a note is in no list
    x_out : (k : Which) (xs : List ℕ) → IsRing n a notes k xs → IsOut x xs
    x_out k xs r = other_out n a notes few k xs x r (λ e. let n : None ≡ Some k = sym none ∙ e in cc)

    -- its place among the notes
    xl : x < length notes
    xl = omega arith

    -- the notes of the list to which it comes
    noted_first : (k : Which) (xs : List ℕ) (y : ℕ) → IsNotedAs notes k xs y → (y ≡ x) ⊎ (y ≡ x → ⊥) → IsNotedAs (set notes x (Some k)) k (x ∷ xs) y
    noted_first k xs y noted (inl e) =
        let h : has y (x ∷ xs) ≡ true = ap (λ z. has z (x ∷ xs)) e ∙ has_front x xs in
        ((λ _. get_or-set_at notes x y (Some k) None e xl), (λ _. h))
    noted_first k xs y noted (inr ne) = rw (has_else y x xs ne, get_or-set_other notes x y (Some k) None ne) noted

    -- and of another list
    noted_beside : (k other : Which) (xs : List ℕ) (y : ℕ) → k ≢ other → IsNotedAs notes other xs y → (y ≡ x) ⊎ (y ≡ x → ⊥) → IsNotedAs (set notes x (Some k)) other xs y
    noted_beside k other xs y ne noted (inl e) =
        let here = get_or-set_at notes x y (Some k) None e xl in
        let was : get_or notes y None ≡ None = ap (λ z. get_or notes z None) e ∙ none in (
          (λ h. let s : None ≡ Some other = sym was ∙ noted.0 h in cc),
          (λ h. let s : Some k ≡ Some other = sym here ∙ h in absurd (ne (cc))),
        )
    noted_beside k other xs y ne noted (inr away) = rw get_or-set_other noted

    module _ (k : Which) (f : ℕ) (fe : f ≡ get_or a.next (end_of n k) 0) (fl : f < length a.next) where
      -- the links with x between the end of a list and what was first
      abbrev put : Arrows
      put = joined x f (joined (end_of n k) x a)

      -- the ring of the list to which it comes
      ring_first : (xs : List ℕ) → IsRing n a notes k xs → IsRing n put (set notes x (Some k)) k (x ∷ xs)
      ring_first xs r =
          let past = end_past n k in
          let below = end_known n k in
          let ne : x ≢ end_of n k = omega arith in
          let sl : end_of n k < length a.next = omega arith in
          let xn : x < length a.next = omega arith in
          let xb : x < length a.prev = omega arith in
          let fb : f < length a.prev = omega arith in
          let so = end_out n a notes few k xs (end_of n k) r past in
          record {
            linked = put_first a x (end_of n k) f ne sl xn xb fb xs fe so (x_out k xs r) r.once r.linked;
            once = (x_out k xs r, r.once);
            noted = λ y. noted_first k xs y (r.noted y) (cases_eq y x);
          }

      -- and of another list
      ring_beside : (other : Which) (ys xs : List ℕ) → k ≢ other → end_of n k ≢ end_of n other → IsRing n a notes k ys → IsRing n a notes other xs → IsRing n put (set notes x (Some k)) other xs
      ring_beside other ys xs ne ends own r =
          let past = end_past n k in
          let past_other = end_past n other in
          let below = end_known n k in
          let xs_end : x ≢ end_of n k = omega arith in
          let xo_end : x ≢ end_of n other = omega arith in
          let sl : end_of n k < length a.next = omega arith in
          let xn : x < length a.next = omega arith in
          let xb : x < length a.prev = omega arith in
          let fb : f < length a.prev = omega arith in
          let so = end_out n a notes few other xs (end_of n k) r past in
          let bk : get_or a.prev f 0 ≡ end_of n k = ap (λ m. get_or a.prev m 0) fe ∙ first_back a (end_of n k) (end_of n k) ys own.linked in
          record {
            linked = put_beside a x (end_of n k) f xs_end sl xn xb fb (end_of n other) xs bk ends xo_end so (x_out other xs r) r.linked;
            once = r.once;
            noted = λ y. noted_beside k other xs y ne (r.noted y) (cases_eq y x);
          }

  module _ (x : ℕ) (here : x < n) (none : get_or notes x None ≡ None) (f : ℕ) (fl : f < length a.next) (lists : Lists) (r : (k : Which) → IsRing n a notes k (list_in lists k)) where
    -- all three rings after that
    pub rings_pushed : (k : Which) → f ≡ get_or a.next (end_of n k) 0 → (list : Which) → IsRing n (joined x f (joined (end_of n k) x a)) (set notes x (Some k)) list (list_in (pushed k x lists) list)
    rings_pushed Free fe Free = ring_first x here none Free f fe fl lists.free (r Free)
    rings_pushed Free fe Claimed = ring_beside x here none Free f fe fl Claimed lists.free lists.claimed (λ e. cc) (omega arith) (r Free) (r Claimed)
    rings_pushed Free fe Ready = ring_beside x here none Free f fe fl Ready lists.free lists.ready (λ e. cc) (omega arith) (r Free) (r Ready)
    rings_pushed Claimed fe Free = ring_beside x here none Claimed f fe fl Free lists.claimed lists.free (λ e. cc) (omega arith) (r Claimed) (r Free)
    rings_pushed Claimed fe Claimed = ring_first x here none Claimed f fe fl lists.claimed (r Claimed)
    rings_pushed Claimed fe Ready = ring_beside x here none Claimed f fe fl Ready lists.claimed lists.ready (λ e. cc) (omega arith) (r Claimed) (r Ready)
    rings_pushed Ready fe Free = ring_beside x here none Ready f fe fl Free lists.ready lists.free (λ e. cc) (omega arith) (r Ready) (r Free)
    rings_pushed Ready fe Claimed = ring_beside x here none Ready f fe fl Claimed lists.ready lists.claimed (λ e. cc) (omega arith) (r Ready) (r Claimed)
    rings_pushed Ready fe Ready = ring_first x here none Ready f fe fl lists.ready (r Ready)

-- a slot that is noted to be in a list is between two nodes
pub between : (a : Arrows) (notes : List (Option Which)) (lists : Lists) (x : ℕ) (k : Which) → AreRings a notes lists → get_or notes x None ≡ Some k → (get_or a.next (get_or a.prev x 0) 0 ≡ x) × (get_or a.prev (get_or a.next x 0) 0 ≡ x)
between a notes lists x k r e = let own = r.rings k in around a x (end_of lists.slots k) (end_of lists.slots k) (list_in lists k) own.linked ((own.noted x).1 e)

-- rings stay rings where a slot is taken out
pub unlinked_rings : (a : Arrows) (notes : List (Option Which)) (lists : Lists) (x p q : ℕ) (k : Which) → AreRings a notes lists → get_or notes x None ≡ Some k → p ≡ get_or a.prev x 0 → q ≡ get_or a.next x 0 → p < length a.next → q < length a.next → AreRings (joined p q a) (set notes x None) (unlinked x lists)
unlinked_rings a notes lists x p q k r e pe qe pl ql =
    let b = between a notes lists x k r e in
    let xl = noted_known notes x k e in
    let few = r.slots in
    let here : x < lists.slots = omega arith in
    let noted : length (set notes x None) ≡ lists.slots = simp length-set r.slots in
    let next : length (set a.next p q) ≡ lists.slots + 3 = simp length-set r.nodes in
    let prev : length (set a.prev q p) ≡ lists.slots + 3 = simp length-set r.nodes_back in
    record {
      few = r.few;
      slots = noted;
      nodes = next;
      nodes_back = prev;
      rings = rings_without lists.slots a notes r.slots r.nodes r.nodes_back x p q here pe qe (ap (λ m. get_or a.next m 0) pe ∙ b.0) (ap (λ m. get_or a.prev m 0) qe ∙ b.1) pl ql lists refl r.rings;
    }

-- and where one is put at the front of a list
pub pushed_rings : (a : Arrows) (notes : List (Option Which)) (lists : Lists) (k : Which) (x f : ℕ) → AreRings a notes lists → x < lists.slots → get_or notes x None ≡ None → f ≡ get_or a.next (end_of lists.slots k) 0 → f < length a.next → AreRings (joined x f (joined (end_of lists.slots k) x a)) (set notes x (Some k)) (pushed k x lists)
pushed_rings a notes lists k x f r here none fe fl =
    let rings = rings_pushed lists.slots a notes r.slots r.nodes r.nodes_back x here none f fl lists r.rings k fe in
    let next : length (set (set a.next (end_of lists.slots k) x) x f) ≡ lists.slots + 3 = simp length-set r.nodes in
    let prev : length (set (set a.prev x (end_of lists.slots k)) f x) ≡ lists.slots + 3 = simp length-set r.nodes_back in
    let noted : length (set notes x (Some k)) ≡ lists.slots = simp length-set r.slots in
    elim k as (λ (list : Which). ((list' : Which) → IsRing lists.slots (joined x f (joined (end_of lists.slots k) x a)) (set notes x (Some k)) list' (list_in (pushed list x lists) list')) → AreRings (joined x f (joined (end_of lists.slots k) x a)) (set notes x (Some k)) (pushed list x lists)) [
      | Free ↦ λ rs. record { few = r.few; slots = noted; nodes = next; nodes_back = prev; rings = rs }
      | Claimed ↦ λ rs. record { few = r.few; slots = noted; nodes = next; nodes_back = prev; rings = rs }
      | Ready ↦ λ rs. record { few = r.few; slots = noted; nodes = next; nodes_back = prev; rings = rs }
    ] rings
