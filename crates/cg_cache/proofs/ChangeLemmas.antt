-- A slot that gets a content and goes to the front of a list: the cache stays one, and what its lists are.
use Rattle.std.proofs.Common.{◌≡◌, ◌≢◌, ℕ, ◌+◌, ◌-◌, ◌<◌, ◌≤◌, true, not, eqb, List, [], ◌∷◌, ◌⊎◌, inl, inr, map, length, take, set, refl, ap, sym, ◌∙◌, subst, Some, IsSome, unwrap_or, bytes_eq, arith, length-set, get_or-set_other}
use Rattle.std.proofs.lemmas.Bool.{false≢true, cases_eq, cases_Bool, eq-eqb, ne_eqb, le-leb, lt-leb}
use Rattle.std.proofs.lemmas.Grind.{get_or-set_at}
use Rattle.std.proofs.lemmas.List.{take-map, length-map}
use Rattle.std.proofs.lemmas.Slice.Eq.{bytes_eq-Decides}
use Rattle.std.specs.List.{slice_get}
use Rattle.cg_rings.specs.declared.which.Which.{Which}
use Rattle.cg_rings.specs.declared.which.Which.TheVariants.{Free, Claimed, Ready}
use Rattle.cg_rings.specs.Lists.{list_in, list_of, has, without, unlinked, pushed, AreApart}
use Rattle.cg_rings.proofs.SlotLemmas.{has_from_get, has_without_same}
use Rattle.cg_rings.proofs.CallerLemmas.{stays, slot_known, slots_moved, list_of_moved, list_of_other}
use Rattle.cg_cache.specs.Cached.{Cached, after_claim, after_publish, after_give_back, without_code, unclaimed, cut_if_full, Hit, Mine}
use Rattle.cg_cache.specs.Slots.{Held, Seen, nothing, at, code_at, claim_at, cached_of, Fits, IsCache, IsRoom}
use Rattle.cg_cache.proofs.MapLemmas.{filter_map, map_same, without_last}

module _ {O : Type 0} where
  -- a cache after a slot got a content and went to the front of a list
  abbrev pub put : Which → ℕ → Held O → Seen O → Seen O
  put k x held s = record { origin = s.origin; rings = pushed k x (unlinked x s.rings); slots = set s.slots x held }

  -- a code that a slot has is the one that is read there
  pub code_is : (h : Held O) (c : List ℕ) → h.code ≡ Some c → unwrap_or h.code [] ≡ c
  code_is h c e = ap (λ o. unwrap_or o []) e

  -- a slot that isn't free has a code
  pub filled : (origin : O) (k : Which) (h : Held O) → k ≢ Free → Fits origin k h → (c : List ℕ) × (h.code ≡ Some c)
  filled origin Free h ne f = absurd (ne refl)
  filled origin Claimed h ne f = (f.0, f.1)
  filled origin Ready h ne f = (f.0, f.1)

  module _ (s : Seen O) (i : IsCache s) where
    -- a slot in a list is one of the slots
    known : (x : ℕ) (k : Which) → list_of s.rings x ≡ Some k → x < length s.slots
    known x k e = let l = slot_known s.rings x k i.apart e in let n = i.count in omega arith

    -- a code and a slot say the same
    pub tests : (c : List ℕ) (x y : ℕ) (k : Which) → (at s.slots x).code ≡ Some c → k ≢ Free → has y (list_in s.rings k) ≡ true → bytes_eq c (code_at s.slots y) ≡ eqb x y
    tests c x y k e ne h =
        let f = filled s.origin k (at s.slots y) ne (i.fits y k (i.apart.apart k y h)) in
        let own = code_is (at s.slots y) f.0 f.1 in
        elim (cases_eq x y) [
          | inl same ↦ (
              let there : Some c ≡ Some f.0 = sym e ∙ (ap (λ z. (at s.slots z).code) same ∙ f.1) in
              let equal : c ≡ code_at s.slots y = (let d : c ≡ f.0 = cc in d ∙ sym own) in
              (bytes_eq-Decides c (code_at s.slots y)).1 equal ∙ sym (eq-eqb x y same)
              )
          | inr other ↦ elim (cases_Bool (bytes_eq c (code_at s.slots y))) [
            | inl hit ↦ (
                let equal : c ≡ f.0 = (bytes_eq-Decides c (code_at s.slots y)).0 hit ∙ own in
                absurd (other (i.once c x y e (f.1 ∙ ap (λ d. Some d) (sym equal))))
                )
            | inr miss ↦ miss ∙ sym (ne_eqb x y other)
          ]
        ]

    module _ (k : Which) (x : ℕ) (h : Held O) (j : Which) (was : list_of s.rings x ≡ Some j) where
      -- the slot has its new content
      at_same : at (set s.slots x h) x ≡ h
      at_same = get_or-set_at s.slots x x h nothing refl (known x j was)

      -- and another what it had
      at_other : (y : ℕ) → y ≢ x → at (set s.slots x h) y ≡ at s.slots y
      at_other y ne = get_or-set_other s.slots x y h nothing ne

      -- each slot holds what belongs into its list
      fits_put : AreApart (pushed k x (unlinked x s.rings)) → Fits s.origin k h → (y : ℕ) (list : Which) → (y ≡ x) ⊎ (y ≡ x → ⊥) → list_of (pushed k x (unlinked x s.rings)) y ≡ Some list → Fits s.origin list (at (set s.slots x h) y)
      fits_put apart f y list (inl e) o =
          let here : Some k ≡ Some list = sym (list_of_moved s.rings x k apart) ∙ (ap (list_of (pushed k x (unlinked x s.rings))) (sym e) ∙ o) in
          let same : k ≡ list = cc in
          let held : at (set s.slots x h) y ≡ h = ap (at (set s.slots x h)) e ∙ at_same in
          subst (λ (l : Which). Fits s.origin l (at (set s.slots x h) y)) same (subst (λ (m : Held O). Fits s.origin k m) (sym held) f)
      fits_put apart f y list (inr ne) o =
          subst (λ (m : Held O). Fits s.origin list m) (sym (at_other y ne)) (i.fits y list (sym (list_of_other s.rings x k y ne) ∙ o))

      -- no code stands in two slots
      once_put : ((c : List ℕ) (y : ℕ) → h.code ≡ Some c → (at s.slots y).code ≡ Some c → x ≡ y) → (c : List ℕ) (y z : ℕ) → (y ≡ x) ⊎ (y ≡ x → ⊥) → (z ≡ x) ⊎ (z ≡ x → ⊥) → (at (set s.slots x h) y).code ≡ Some c → (at (set s.slots x h) z).code ≡ Some c → y ≡ z
      once_put fresh c y z (inl e) (inl d) p q = e ∙ sym d
      once_put fresh c y z (inl e) (inr ne) p q =
          let own : h.code ≡ Some c = sym (ap (λ m. m.code) (ap (at (set s.slots x h)) e ∙ at_same)) ∙ p in
          e ∙ fresh c z own (sym (ap (λ m. m.code) (at_other z ne)) ∙ q)
      once_put fresh c y z (inr ne) (inl d) p q =
          let own : h.code ≡ Some c = sym (ap (λ m. m.code) (ap (at (set s.slots x h)) d ∙ at_same)) ∙ q in
          sym (d ∙ fresh c y own (sym (ap (λ m. m.code) (at_other y ne)) ∙ p))
      once_put fresh c y z (inr ne) (inr nd) p q =
          i.once c y z (sym (ap (λ m. m.code) (at_other y ne)) ∙ p) (sym (ap (λ m. m.code) (at_other z nd)) ∙ q)

      -- each slot is in a list
      listed_put : AreApart (pushed k x (unlinked x s.rings)) → (y : ℕ) → y < s.rings.slots → (y ≡ x) ⊎ (y ≡ x → ⊥) → IsSome (list_of (pushed k x (unlinked x s.rings)) y)
      listed_put apart y l (inl e) =
          let here : list_of (pushed k x (unlinked x s.rings)) y ≡ Some k = ap (list_of (pushed k x (unlinked x s.rings))) e ∙ list_of_moved s.rings x k apart in
          rw here refl
      listed_put apart y l (inr ne) = rw (list_of_other s.rings x k y ne) (i.listed y l)

      -- the cache stays one
      pub put_stays : AreApart (pushed k x (unlinked x s.rings)) → Fits s.origin k h → ((c : List ℕ) (y : ℕ) → h.code ≡ Some c → (at s.slots y).code ≡ Some c → x ≡ y) → IsCache (put k x h s)
      put_stays apart f fresh =
          let n : length (set s.slots x h) ≡ length s.slots = simp length-set refl in
          record {
            apart = apart;
            count = n ∙ (i.count ∙ sym (slots_moved s.rings x k));
            listed = λ y l. listed_put apart y (subst (λ (m : ℕ). y < m) (slots_moved s.rings x k) l) (cases_eq y x);
            fits = λ y list o. fits_put apart f y list (cases_eq y x) o;
            once = λ c y z p q. once_put fresh c y z (cases_eq y x) (cases_eq z x) p q;
          }

      -- what is read of the others stays
      pub others : {B : Type 0} (f : Held O → B) (xs : List ℕ) → map (λ y. f (at (set s.slots x h) y)) (without x xs) ≡ map (λ y. f (at s.slots y)) (without x xs)
      others f xs =
          map_same (λ y. f (at (set s.slots x h) y)) (λ y. f (at s.slots y)) (without x xs)
          (λ y e. ap f (at_other y (λ (same : y ≡ x). false≢true (sym (has_without_same x xs) ∙ (sym (ap (λ z. has z (without x xs)) same) ∙ e)))))

    -- the codes of a list without a slot
    pub ready_without : (c : List ℕ) (x : ℕ) → (at s.slots x).code ≡ Some c → without_code c (map (code_at s.slots) s.rings.ready) ≡ map (code_at s.slots) (without x s.rings.ready)
    ready_without c x e =
        filter_map (λ other. not (bytes_eq c other)) (λ y. not (eqb x y)) (code_at s.slots) s.rings.ready
        (λ y h. ap not (tests c x y Ready e (λ n. cc) h))

    -- and its claims
    pub claimed_without : (c : List ℕ) (x : ℕ) → (at s.slots x).code ≡ Some c → unclaimed c (map (claim_at s.slots) s.rings.claimed) ≡ map (claim_at s.slots) (without x s.rings.claimed)
    claimed_without c x e =
        filter_map (λ claim. not (bytes_eq c claim.0)) (λ y. not (eqb x y)) (claim_at s.slots) s.rings.claimed
        (λ y h. ap not (tests c x y Claimed e (λ n. cc) h))

    -- a ready payload goes to the front
    pub cached_used : (c : List ℕ) (x : ℕ) → list_of s.rings x ≡ Some Ready → (at s.slots x).code ≡ Some c → cached_of (record { origin = s.origin; rings = pushed Ready x (unlinked x s.rings); slots = s.slots }) ≡ after_claim (cached_of s) 0 c Hit
    cached_used c x was e =
        rw (ready_without c x e, stays s.rings x Ready Claimed i.apart was (λ n. cc), code_is (at s.slots x) c e) refl

    -- a claim becomes ready
    pub cached_ready : (c : List ℕ) (x : ℕ) (h : Held O) → list_of s.rings x ≡ Some Claimed → (at s.slots x).code ≡ Some c → h.code ≡ Some c → cached_of (put Ready x h s) ≡ after_publish (cached_of s) c
    cached_ready c x h was e own =
        let code : code_at (set s.slots x h) x ≡ c = ap (λ m. unwrap_or m.code []) (at_same Ready x h Claimed was) ∙ code_is h c own in
        let same : without x s.rings.ready ≡ s.rings.ready = stays s.rings x Claimed Ready i.apart was (λ n. cc) in
        let ready : map (code_at (set s.slots x h)) (without x s.rings.ready) ≡ map (code_at s.slots) s.rings.ready = others Ready x h Claimed was (λ m. unwrap_or m.code []) s.rings.ready ∙ ap (map (code_at s.slots)) same in
        let claimed : map (claim_at (set s.slots x h)) (without x s.rings.claimed) ≡ map (claim_at s.slots) (without x s.rings.claimed) = others Ready x h Claimed was (λ m. (unwrap_or m.code [], m.seat)) s.rings.claimed in
        rw (claimed_without c x e, code, ready, claimed) refl

    -- a claim becomes free
    pub cached_free : (c : List ℕ) (x : ℕ) (h : Held O) → list_of s.rings x ≡ Some Claimed → (at s.slots x).code ≡ Some c → cached_of (put Free x h s) ≡ after_give_back (cached_of s) c
    cached_free c x h was e =
        let same : without x s.rings.ready ≡ s.rings.ready = stays s.rings x Claimed Ready i.apart was (λ n. cc) in
        let ready : map (code_at (set s.slots x h)) (without x s.rings.ready) ≡ map (code_at s.slots) s.rings.ready = others Free x h Claimed was (λ m. unwrap_or m.code []) s.rings.ready ∙ ap (map (code_at s.slots)) same in
        let claimed : map (claim_at (set s.slots x h)) (without x s.rings.claimed) ≡ map (claim_at s.slots) (without x s.rings.claimed) = others Free x h Claimed was (λ m. (unwrap_or m.code [], m.seat)) s.rings.claimed in
        rw (claimed_without c x e, ready, claimed) refl

    -- two caches with equal lists
    same_lists : (n : ℕ) (a b : List (List ℕ)) (d e : List (List ℕ × ℕ)) → a ≡ b → d ≡ e → (let p : Cached = record { capacity = n; ready = a; claimed = d } in p) ≡ record { capacity = n; ready = b; claimed = e }
    same_lists n a b d e p q = rw (p, q) refl

    module _ (c : List ℕ) (seat x : ℕ) (h : Held O) (own : h.code ≡ Some c) (of : h.seat ≡ seat) where
      -- codes are as many as slots
      sizes : length (cached_of s).ready + length (cached_of s).claimed ≡ length s.rings.ready + length s.rings.claimed
      sizes = simp length-map refl

      -- the claims with one more at the front
      claimed_more : (j : Which) → j ≢ Claimed → list_of s.rings x ≡ Some j → map (claim_at (set s.slots x h)) (x ∷ without x s.rings.claimed) ≡ (c, seat) ∷ map (claim_at s.slots) s.rings.claimed
      claimed_more j ne was =
          let front : claim_at (set s.slots x h) x ≡ (c, seat) = ap (λ m. (unwrap_or m.code [], m.seat)) (at_same Claimed x h j was) ∙ rw (code_is h c own, of) refl in
          let same : without x s.rings.claimed ≡ s.rings.claimed = stays s.rings x j Claimed i.apart was ne in
          let rest : map (claim_at (set s.slots x h)) (without x s.rings.claimed) ≡ map (claim_at s.slots) s.rings.claimed = others Claimed x h j was (λ m. (unwrap_or m.code [], m.seat)) s.rings.claimed ∙ ap (map (claim_at s.slots)) same in
          rw (front, rest) refl

      -- a claim in a free slot
      mine_free : list_of s.rings x ≡ Some Free → length s.rings.ready + length s.rings.claimed < s.rings.slots → cached_of (put Claimed x h s) ≡ after_claim (cached_of s) seat c Mine
      mine_free was few =
          let same : without x s.rings.ready ≡ s.rings.ready = stays s.rings x Free Ready i.apart was (λ n. cc) in
          let kept : map (code_at (set s.slots x h)) (without x s.rings.ready) ≡ (cached_of s).ready = others Claimed x h Free was (λ m. unwrap_or m.code []) s.rings.ready ∙ ap (map (code_at s.slots)) same in
          let below : length (cached_of s).ready + length (cached_of s).claimed < s.rings.slots = (let n = sizes in omega arith) in
          let cut : (cached_of s).ready ≡ cut_if_full (cached_of s) = rw (lt-leb s.rings.slots (length (cached_of s).ready + length (cached_of s).claimed) below) refl in
          same_lists s.rings.slots _ _ _ _ (kept ∙ cut) (claimed_more Free (λ n. cc) was)

      -- a claim in the slot of the last ready code, which is dropped
      mine_last : slice_get s.rings.ready (length s.rings.ready - 1) ≡ Some x → s.rings.slots ≤ length s.rings.ready + length s.rings.claimed → cached_of (put Claimed x h s) ≡ after_claim (cached_of s) seat c Mine
      mine_last last full =
          let was = i.apart.apart Ready x (has_from_get x s.rings.ready (length s.rings.ready - 1) last) in
          let rest : map (code_at (set s.slots x h)) (without x s.rings.ready) ≡ map (code_at s.slots) (without x s.rings.ready) = others Claimed x h Ready was (λ m. unwrap_or m.code []) s.rings.ready in
          let front : map (code_at s.slots) (without x s.rings.ready) ≡ take (length s.rings.ready - 1) (cached_of s).ready = ap (map (code_at s.slots)) (without_last x s.rings.ready (i.apart.once Ready) last) ∙ sym (take-map (code_at s.slots) (length s.rings.ready - 1) s.rings.ready) in
          let size : length s.rings.ready ≡ length (cached_of s).ready = simp length-map refl in
          let above : s.rings.slots ≤ length (cached_of s).ready + length (cached_of s).claimed = (let n = sizes in omega arith) in
          let cut : take (length (cached_of s).ready - 1) (cached_of s).ready ≡ cut_if_full (cached_of s) = rw (le-leb s.rings.slots (length (cached_of s).ready + length (cached_of s).claimed) above) refl in
          same_lists s.rings.slots _ _ _ _ (rest ∙ (front ∙ (ap (λ n. take (n - 1) (cached_of s).ready) size ∙ cut))) (claimed_more Ready (λ n. cc) was)

      -- a claim in a slot for which there is room
      pub cached_mine : IsRoom s.rings x → cached_of (put Claimed x h s) ≡ after_claim (cached_of s) seat c Mine
      cached_mine r = elim r.room [ inl free ↦ mine_free free.0 free.1 | inr last ↦ mine_last last.0 last.1 ]
