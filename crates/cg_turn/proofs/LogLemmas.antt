-- Entries of a log, seat by seat.
use Rattle.std.proofs.Common.{◌≡◌, ◌≢◌, ℕ, List, [], ◌∷◌, ◌++◌, length, refl, ap, sym, ◌∙◌, nat_eq, drop, append_assoc, eq-eqb, ne_eqb, Option, Some, None}
use Rattle.std.proofs.lemmas.List.{append-nil}
use Rattle.std.proofs.lemmas.List.Elements.{filter-append}
use Rattle.cg_turn.specs.Logs.{by, AllBy, StartsWith}

-- a list with an element is not empty
cons_is_some : {A : Type 0} (x : A) (xs : List A) → x ∷ xs ≡ [] → ⊥
cons_is_some x xs e = cc

-- a part of an empty list is empty
no_front : {A : Type 0} (xs ys : List A) → xs ++ ys ≡ [] → xs ≡ []
no_front [] ys e = refl
no_front (x ∷ xs) ys e = absurd (cons_is_some x (xs ++ ys) e)

module _ {E : Type 0} (seat_of : E → ℕ) where
  -- the entries of a seat, part by part
  pub by-append : (n : ℕ) (xs ys : List E) → by seat_of n (xs ++ ys) ≡ by seat_of n xs ++ by seat_of n ys
  by-append n xs ys = filter-append (λ e. nat_eq (seat_of e) n) xs ys

  -- entries of one seat are all its own
  pub by_all : (n : ℕ) (es : List E) → AllBy seat_of n es → by seat_of n es ≡ es
  by_all n [] h = refl
  by_all n (e ∷ es) h = rw (eq-eqb (seat_of e) n h.0) (ap (λ (l : List E). e ∷ l) (by_all n es h.1))

  -- entries of another seat are none of its own
  pub by_none : (m n : ℕ) (es : List E) → AllBy seat_of m es → m ≢ n → by seat_of n es ≡ []
  by_none m n [] h ne = refl
  by_none m n (e ∷ es) h ne = rw (ne_eqb (seat_of e) n (λ is. ne (sym h.0 ∙ is))) (by_none m n es h.1 ne)

  -- entries of another seat leave a seat's own as they are
  pub by_other : (m n : ℕ) (log news : List E) → AllBy seat_of m news → m ≢ n
      → by seat_of n (log ++ news) ≡ by seat_of n log
  by_other m n log news h ne = by-append n log news ∙ (ap (λ (l : List E). by seat_of n log ++ l) (by_none m n news h ne) ∙ append-nil (by seat_of n log))

  -- a seat's new entries are its own
  pub by_own : (n : ℕ) (log news : List E) → AllBy seat_of n news
      → by seat_of n (log ++ news) ≡ by seat_of n log ++ news
  by_own n log news h = by-append n log news ∙ ap (λ (l : List E). by seat_of n log ++ l) (by_all n news h)

  -- where a log has no entry of a seat, no beginning of it has
  pub by_begin : (n : ℕ) (log seen : List E) → StartsWith log seen → by seat_of n log ≡ [] → by seat_of n seen ≡ []
  by_begin n log seen h none = no_front (by seat_of n seen) (by seat_of n h.0) (sym (by-append n seen h.0) ∙ (ap (by seat_of n) h.1 ∙ none))

module _ {E : Type 0} where
  -- a longer log begins with what the shorter begins with
  pub starts_more : (log news seen : List E) → StartsWith log seen → StartsWith (log ++ news) seen
  starts_more log news seen h = (h.0 ++ news, sym (append_assoc seen h.0 news) ∙ ap (λ (l : List E). l ++ news) h.1)

  -- a log begins with itself
  pub starts_self : (log : List E) → StartsWith log log
  starts_self log = ([], append-nil log)

  -- what is left behind the front
  pub drop_front : (xs ys : List E) → drop (length xs) (xs ++ ys) ≡ ys
  drop_front [] ys = refl
  drop_front (x ∷ xs) ys = drop_front xs ys

module _ {V : Type 0} where
  -- the value of the first slot of a list
  abbrev first_of : List (ℕ × Option V) → Option V
  first_of [] = None
  first_of (p ∷ ps) = p.1

  -- the slot has one value
  pub one_value : (x y : V) (slots : List (ℕ × Option V)) → slots ≡ (0, Some x) ∷ [] → slots ≡ (0, Some y) ∷ [] → x ≡ y
  one_value x y slots a b = let e : Some x ≡ Some y = ap first_of (sym a ∙ b) in cc
