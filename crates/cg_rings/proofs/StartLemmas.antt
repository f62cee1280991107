-- Rings without a slot, and slots put at a front one by one.
use Rattle.std.proofs.Common.{◌≡◌, ℕ, zero, suc, ◌+◌, ◌<◌, ◌≤◌, false, eqb, List, [], ◌∷◌, ◌++◌, length, get_or, refl, ap, sym, ◌∙◌, Some, None, Option, arith}
use Rattle.std.proofs.lemmas.Bool.{false≢true, or_from, ne_eqb}
use Rattle.std.proofs.lemmas.List.FromFn.{length-range_with_len, get_or-range_with_len}
use Rattle.std.specs.List.{range_with_len}
use Rattle.cg_rings.specs.declared.which.Which.{Which}
use Rattle.cg_rings.specs.declared.which.Which.TheVariants.{Free, Claimed, Ready}
use Rattle.cg_rings.specs.Links.{Arrows, AreArrows}
use Rattle.cg_rings.specs.Lists.{list_in, list_of, has}
use Rattle.cg_rings.specs.Threaded.{end_of, IsRing, AreRings}
use Rattle.cg_rings.proofs.RingLemmas.{end_known}

-- one number more behind a range
pub range_more : (a n : ℕ) → range_with_len a (n + 1) ≡ range_with_len a n ++ (a + n) ∷ []
range_more a zero = let e : a + 0 ≡ a = omega arith in rw e refl
range_more a (suc n) =
    let e : a + 1 + n ≡ a + suc n = omega arith in
    let m : suc n + 1 ≡ suc (n + 1) = omega arith in
    rw m (ap (λ xs. a ∷ xs) (range_more (a + 1) n ∙ ap (λ k. range_with_len (a + 1) n ++ k ∷ []) e))

-- nodes that are next to themselves go to nodes
pub alone_known : (n : ℕ) (a : Arrows) → a.next ≡ range_with_len 0 n → a.prev ≡ range_with_len 0 n → AreArrows a
alone_known n a ne pe =
    let nl : length a.next ≡ n = ap length ne ∙ length-range_with_len 0 n in
    let pl : length a.prev ≡ n = ap length pe ∙ length-range_with_len 0 n in
    let at : (xs : List ℕ) → xs ≡ range_with_len 0 n → (k d : ℕ) → k < n → get_or xs k d < length a.next = λ xs e k d l. (let v = ap (λ ys. get_or ys k d) e ∙ get_or-range_with_len 0 n k d l in omega arith) in
    record {
      paired = pl ∙ sym nl;
      next_known = λ k d l. at a.next ne k d (omega arith);
      prev_known = λ k d l. at a.prev pe k d (omega arith);
    }

module _ (n : ℕ) (a : Arrows) (notes : List (Option Which)) (e : a ≡ record { next = range_with_len 0 (n + 3); prev = range_with_len 0 (n + 3) }) (none : (slot : ℕ) → get_or notes slot None ≡ None) where
  -- an end that is next to itself is an empty ring
  alone_ring : (k : Which) → IsRing n a notes k []
  alone_ring k =
      let l = end_known n k in
      let s : get_or (range_with_len 0 (n + 3)) (end_of n k) 0 ≡ end_of n k = get_or-range_with_len 0 (n + 3) (end_of n k) 0 l ∙ omega arith in
      record {
        linked = (ap (λ b. get_or b.next (end_of n k) 0) e ∙ s, ap (λ b. get_or b.prev (end_of n k) 0) e ∙ s);
        once = tt;
        noted = λ y. ((λ h. absurd (false≢true h)), (λ h. let m : None ≡ Some k = sym (none y) ∙ h in cc));
      }

  -- so are all three
  alone_rings : (k : Which) → IsRing n a notes k (list_in (record { slots = n; free = []; claimed = []; ready = [] }) k)
  alone_rings Free = alone_ring Free
  alone_rings Claimed = alone_ring Claimed
  alone_rings Ready = alone_ring Ready

  -- rings without a slot in any list
  pub no_rings : n ≤ 256 → length notes ≡ n → AreRings a notes (record { slots = n; free = []; claimed = []; ready = [] })
  no_rings few slots = record {
    few = few;
    slots = slots;
    nodes = ap (λ b. length b.next) e ∙ length-range_with_len 0 (n + 3);
    nodes_back = ap (λ b. length b.prev) e ∙ length-range_with_len 0 (n + 3);
    rings = alone_rings;
  }

-- a number below a range is not in it
pub range_out : (x a n : ℕ) → x < a → has x (range_with_len a n) ≡ false
range_out x a zero l = refl
range_out x a (suc n) l = or_from (eqb x a) (has x (range_with_len (a + 1) n)) (ne_eqb x a (λ e. omega arith)) (range_out x (a + 1) n (omega arith))

-- a slot that isn't filled in yet is in no list
pub free_out : (x a n slots : ℕ) → x < a → list_of (record { slots = slots; free = range_with_len a n; claimed = []; ready = [] }) x ≡ None
free_out x a n slots l = rw (range_out x a n l) refl

-- one number more behind those from 0
pub numbers_more : (n : ℕ) → range_with_len 0 (n + 1) ≡ range_with_len 0 n ++ n ∷ []
numbers_more n = let e : 0 + n ≡ n = omega arith in rw range_more (rw e refl)
