-- No code stands twice.
use Rattle.std.proofs.Common.{◌≡◌, ◌≢◌, ℕ, ◌<◌, true, false, List, [], ◌∷◌, map, length, get_or, zero, suc, refl, ap, sym, ◌∙◌, Some, eqb, arith}
use Rattle.std.specs.List.{AllPairs}
use Rattle.std.proofs.lemmas.Bool.{or_left, or_right, eq-eqb}
use Rattle.std.proofs.lemmas.Bool.Decides.{Decides-eqb}
use Rattle.std.proofs.lemmas.List.{get_or-map, length-map}
use Rattle.std.proofs.lemmas.Map.Made.{AllPairs-from_IsDistinct}
use Rattle.cg_rings.specs.declared.which.Which.{Which}
use Rattle.cg_rings.specs.declared.which.Which.TheVariants.{Free, Claimed, Ready}
use Rattle.cg_rings.specs.Lists.{list_in, list_of, has}
use Rattle.cg_cache.specs.Cached.{stands, HasOnce}
use Rattle.cg_cache.specs.Slots.{Seen, at, code_at, claim_at, cached_of, IsCache}
use Rattle.cg_cache.proofs.ChangeLemmas.{code_is, filled}
use Rattle.cg_cache.proofs.FoundLemmas.{not_ready}

-- what stands at a place is in the list
has_place : (xs : List ℕ) (i : ℕ) → i < length xs → has (get_or xs i 0) xs ≡ true
has_place [] i l = absurd (omega arith)
has_place (x ∷ xs) zero l = or_left (eqb x x) (has x xs) (eq-eqb x x refl)
has_place (x ∷ xs) (suc i) l = or_right (eqb (get_or xs i 0) x) (has (get_or xs i 0) xs) (has_place xs i (omega arith))

module _ {O : Type 0} (s : Seen O) (i : IsCache s) where
  -- one code, one slot
  one_slot : (x y : ℕ) (k j : Which) → k ≢ Free → j ≢ Free → has x (list_in s.rings k) ≡ true → has y (list_in s.rings j) ≡ true → code_at s.slots x ≡ code_at s.slots y → x ≡ y
  one_slot x y k j kn jn hx hy e =
      let f = filled s.origin k (at s.slots x) kn (i.fits x k (i.apart.apart k x hx)) in
      let h = filled s.origin j (at s.slots y) jn (i.fits y j (i.apart.apart j y hy)) in
      let same : h.0 ≡ f.0 = sym (code_is (at s.slots y) h.0 h.1) ∙ (sym e ∙ code_is (at s.slots x) f.0 f.1) in
      i.once f.0 x y f.1 (h.1 ∙ ap (λ c. Some c) same)

  -- the codes of a list differ
  pairs_apart : {B : Type 0} (f : ℕ → B) (c : B → List ℕ) (k : Which) → k ≢ Free → ((x : ℕ) → c (f x) ≡ code_at s.slots x) → AllPairs (λ a b. c a ≢ c b) (map f (list_in s.rings k))
  pairs_apart f c k kn reads a b d l m =
      let xs : List ℕ = list_in s.rings k in
      let size : length (map f xs) ≡ length xs = simp length-map refl in
      let bl : b < length xs = omega arith in
      let al : a < length xs = omega arith in
      let differ : get_or xs a 0 ≢ get_or xs b 0 = AllPairs-from_IsDistinct Decides-eqb xs (i.apart.once k) a b 0 l bl in
      λ same. differ (one_slot (get_or xs a 0) (get_or xs b 0) k k kn kn (has_place xs a al) (has_place xs b bl)
      (sym (ap c (get_or-map f xs a 0 d al) ∙ reads (get_or xs a 0)) ∙ (same ∙ (ap c (get_or-map f xs b 0 d bl) ∙ reads (get_or xs b 0)))))

  -- a code that is claimed isn't ready
  claim_apart : (x : ℕ) → has x s.rings.claimed ≡ true → stands (code_at s.slots x) (cached_of s).ready ≡ false
  claim_apart x h =
      let f = filled s.origin Claimed (at s.slots x) (λ n. cc) (i.fits x Claimed (i.apart.apart Claimed x h)) in
      not_ready s i (code_at s.slots x) (λ y was e. (
      let own = code_is (at s.slots x) f.0 f.1 in
      let same : x ≡ y = i.once f.0 x y f.1 (e ∙ ap (λ c. Some c) own) in
      let there : Some Claimed ≡ Some Ready = sym (i.apart.apart Claimed x h) ∙ (ap (list_of s.rings) same ∙ was) in
      cc
      ))

  -- no code stands twice
  pub has_once : HasOnce (cached_of s)
  has_once = record {
    ready = pairs_apart (code_at s.slots) (λ c. c) Ready (λ n. cc) (λ x. refl);
    claimed = pairs_apart (claim_at s.slots) (λ c. c.0) Claimed (λ n. cc) (λ x. refl);
    apart = λ k d l. (
        let xs : List ℕ = s.rings.claimed in
        let size : length (map (claim_at s.slots) xs) ≡ length xs = simp length-map refl in
        let known : k < length xs = omega arith in
        rw (get_or-map (claim_at s.slots) xs k 0 d known) (claim_apart (get_or xs k 0) (has_place xs k known))
        );
  }
