-- Rows that have zeros alone, and tables of which the first rows alone are kept.
use Rattle.std.proofs.Common.{◌≡◌, ℕ, zero, suc, ◌+◌, ◌-◌, ◌*◌, ◌^◌, ◌<◌, ◌≤◌, Bool, true, false, inl, inr, List, ◌++◌, length, take, drop, replicate, get_or, arith, refl, sym, ap, ap₂, ◌∙◌, append_assoc, max, fold}
use Rattle.std.specs.Prelude.{nat_lt, if◌then◌else◌}
use Rattle.std.specs.List.{All}
use Rattle.std.proofs.lemmas.Bool.{cases_eq, cases_lt, cases_Bool, lt-ltb, le-ltb, true≢false}
use Rattle.std.proofs.lemmas.List.{ext_get_or, get_or-take, get_or-drop, get_or_past, get_or_read, get_or_append_left, get_or-append-add, get_or-replicate, length-append, length-replicate, length-take, length-drop, append-nil, replicate-append-replicate}
use Rattle.std.proofs.lemmas.List.Folds.{list_any_at, list_any_none}
use Rattle.std.proofs.lemmas.List.FromFn.{get_or-map-range_with_len, length-map-range_with_len}
use Rattle.std.proofs.lemmas.List.Sums.{fold-append}
use Rattle.cg_enc.specs.Enclosure.{Enclosure, exact_zero, IsEnclosure, IsExponent, IsZero}
use Rattle.cg_table.specs.Formulas.{identity_entry}
use Rattle.cg_table.specs.Live.{any_live, identity_rows_entry, identity_rows_of, live_in, live_until, live_rows, padded}
use Rattle.cg_table.specs.Losses.{loss_of, reach_of, greatest_loss, greatest_reach}
use Rattle.cg_table.specs.Table.{Table, IsTable, start, place, entry, row, rows, table, table_loss, table_reach}
use Rattle.cg_table.proofs.LossLemmas.{loss_of-zero}
use Rattle.cg_table.proofs.ReachLemmas.{reach_of-least, IsExponent-more, greatest_reach-IsExponent}
use Rattle.cg_table.proofs.PlaceLemmas.{start_rises, start_next, length-rows, place_below}
use Rattle.cg_table.proofs.WithinLemmas.{entry-within, row_entry-near}

-- an enclosure whose upper end is zero is that of 0 alone
pub exactly_zero : (e : Enclosure) → IsEnclosure e → IsZero e → e ≡ exact_zero
exactly_zero e v z =
    let low : e.lo ≡ 0 = omega (arith, v.ordered, z) in
    rw (low, z, v.zero_exp z) refl

-- none of them is other than zero
pub none_live : (xs : List Enclosure) → All (λ e. e ≡ exact_zero) xs → any_live xs ≡ false
none_live xs h = list_any_none (λ e. nat_lt 0 e.hi) xs (λ i d less. ap (λ (e : Enclosure). nat_lt 0 e.hi) (h i d less))

pub none_live-IsZero : (xs : List Enclosure) (i : ℕ) (d : Enclosure) → any_live xs ≡ false → i < length xs → IsZero (get_or xs i d)
none_live-IsZero xs i d none less =
    elim (cases_eq (get_or xs i d).hi 0) [
      | inl z ↦ z
      | inr n ↦ absurd (true≢false (sym (list_any_at (λ e. nat_lt 0 e.hi) xs i d less (lt-ltb 0 (get_or xs i d).hi (omega arith))) ∙ none))
    ]

-- an entry of a row of a table
pub row-at : (cells : ℕ) (f : ℕ → ℕ → Enclosure) (a i : ℕ) (d : Enclosure) → i < length (row cells f a) → get_or (row cells f a) i d ≡ f a (a + i)
row-at cells f a i d less = get_or-map-range_with_len (f a) a (cells - a) i (a + i) d (omega (arith, length-map-range_with_len (f a) a (cells - a))) refl

-- a row of zeros is dead, and a dead row has zeros alone
pub dead_row : (t : Table) (a : ℕ) → ((b : ℕ) → a ≤ b → b < t.cells → entry t a b ≡ exact_zero) → live_in t a ≡ false
dead_row t a h = none_live (row t.cells (entry t) a)
    (λ i d less. row-at t.cells (entry t) a i d less ∙ h (a + i) (omega arith) (omega (arith, length-map-range_with_len (entry t a) a (t.cells - a))))

pub dead_row-zero : (t : Table) (a b : ℕ) → IsTable t → live_in t a ≡ false → a ≤ b → b < t.cells → entry t a b ≡ exact_zero
dead_row-zero t a b v dead le less =
    let inside : b - a < length (row t.cells (entry t) a) = omega (arith, length-map-range_with_len (entry t a) a (t.cells - a)) in
    let at : a + (b - a) ≡ b = omega arith in
    let same : get_or (row t.cells (entry t) a) (b - a) exact_zero ≡ entry t a b = row-at t.cells (entry t) a (b - a) exact_zero inside ∙ ap (entry t a) at in
    exactly_zero (entry t a b) (entry-within t a b v).valid (ap (λ (e : Enclosure). e.hi) (sym same) ∙ none_live-IsZero (row t.cells (entry t) a) (b - a) exact_zero dead inside)

-- the count of live rows among the first n
pub live_until-most : (t : Table) (n : ℕ) → live_until t n ≤ n
live_until-most t zero = omega arith
live_until-most t (suc a) = next (live_in t a) a (live_until t a) (live_until-most t a)
  where
    next : (b : Bool) (a m : ℕ) → m ≤ a → (if b then suc a else m) ≤ suc a
    next true a m h = omega arith
    next false a m h = omega (arith, h)

pub live_until-found : (t : Table) (n a : ℕ) → n ≡ a + 1 → live_in t a ≡ true → live_until t n ≡ n
live_until-found t n a e live = let more : n ≡ suc a = omega arith in rw (more, live) refl

pub live_until-passed : (t : Table) (n a : ℕ) → n ≡ a + 1 → live_in t a ≡ false → live_until t n ≡ live_until t a
live_until-passed t n a e dead = let more : n ≡ suc a = omega arith in rw (more, dead) refl

-- behind it rows are dead
pub live_until-dead : (t : Table) (n a : ℕ) → live_until t n ≤ a → a < n → live_in t a ≡ false
live_until-dead t zero a le less = absurd (omega arith)
live_until-dead t (suc k) a le less =
    elim (cases_Bool (live_in t k)) [
      | inl live ↦ absurd (omega (arith, le, less, live_until-found t (suc k) k (omega arith) live))
      | inr dead ↦ elim (cases_eq a k) [
        | inl e ↦ rw e dead
        | inr ne ↦ live_until-dead t k a (omega (arith, le, live_until-passed t (suc k) k (omega arith) dead)) (omega arith)
      ]
    ]

-- dead rows are passed over
pub live_until-same : (t : Table) (n m : ℕ) → m ≤ n → ((a : ℕ) → m ≤ a → a < n → live_in t a ≡ false) → live_until t n ≡ live_until t m
live_until-same t zero m le h = let none : m ≡ 0 = omega arith in rw none refl
live_until-same t (suc k) m le h =
    elim (cases_eq m (suc k)) [
      | inl e ↦ ap (live_until t) (sym e)
      | inr ne ↦
          live_until-passed t (suc k) k (omega arith) (h k (omega arith) (omega arith)) ∙ live_until-same t k m (omega arith) (λ a low less. h a low (omega arith))
    ]

-- the live rows are rows, and an entry of any further row is zero
pub live_rows-most : (t : Table) → live_rows t ≤ t.cells
live_rows-most t = live_until-most t t.cells

pub dead-zero : (t : Table) (a b : ℕ) → IsTable t → live_rows t ≤ a → a ≤ b → b < t.cells → entry t a b ≡ exact_zero
dead-zero t a b v dead le less = dead_row-zero t a b v (live_until-dead t t.cells a dead (omega arith)) le less

-- zeros behind a list change no read of it whose default is zero
pub get_or-padded : (xs : List Enclosure) (n i : ℕ) → get_or (xs ++ replicate n exact_zero) i exact_zero ≡ get_or xs i exact_zero
get_or-padded xs n i =
    elim (cases_lt i (length xs)) [
      | inl low ↦ get_or_append_left xs (replicate n exact_zero) exact_zero i low
      | inr high ↦
          let at : length xs + (i - length xs) ≡ i = omega arith in
          ap (λ (k : ℕ). get_or (xs ++ replicate n exact_zero) k exact_zero) (sym at) ∙ get_or-append-add xs (replicate n exact_zero) (i - length xs) exact_zero
          ∙ zeros n (i - length xs) ∙ sym (get_or_past xs i exact_zero high)
    ]
  where
    zeros : (n i : ℕ) → get_or (replicate n exact_zero) i exact_zero ≡ exact_zero
    zeros n i =
        elim (cases_lt i n) [
          | inl low ↦ get_or-replicate n i exact_zero exact_zero low
          | inr high ↦ get_or_past (replicate n exact_zero) i exact_zero (omega (arith, length-replicate n exact_zero))
        ]

pub entry-padded : (cells : ℕ) (xs : List Enclosure) (a b : ℕ) → entry (padded cells xs) a b ≡ get_or xs (place cells a b) exact_zero
entry-padded cells xs a b = get_or-padded xs (start cells cells - length xs) (place cells a b)

-- a table of whole rows has as many entries as it wants
pub length-padded : (cells r : ℕ) (xs : List Enclosure) → r ≤ cells → length xs ≡ start cells r → length (padded cells xs).entries ≡ start cells cells
length-padded cells r xs le long =
    omega (arith, length-append xs (replicate (start cells cells - length xs) exact_zero), length-replicate (start cells cells - length xs) exact_zero, long, start_rises cells r cells le)

-- nothing is put behind all entries
pub padded-all : (cells : ℕ) (xs : List Enclosure) → length xs ≡ start cells cells → padded cells xs ≡ record { cells = cells; entries = xs }
padded-all cells xs long =
    let none : start cells cells - length xs ≡ 0 = omega (arith, long) in
    rw none (ap (λ (ys : List Enclosure). record { cells = cells; entries = ys }) (append-nil xs))

-- behind the rows that were given all are dead
pub padded-dead : (cells r : ℕ) (xs : List Enclosure) (a : ℕ) → length xs ≡ start cells r → r ≤ a → live_in (padded cells xs) a ≡ false
padded-dead cells r xs a long le = dead_row (padded cells xs) a
    (λ b low less. entry-padded cells xs a b ∙ get_or_past xs (place cells a b) exact_zero (omega (arith, long, start_rises cells r a le)))

-- a row that was given
pub row-padded : (cells r : ℕ) (xs : List Enclosure) (a begin : ℕ) → length xs ≡ start cells r → a < r → r ≤ cells → begin ≡ start cells a →
    take (cells - a) (drop begin xs) ≡ row cells (entry (padded cells xs)) a
row-padded cells r xs a begin long less le at =
    let f = entry (padded cells xs) in
    let wide : length (row cells f a) ≡ cells - a = length-map-range_with_len (f a) a (cells - a) in
    let inside : start cells a + (cells - a) ≤ start cells r = omega (arith, start_next cells a, start_rises cells (a + 1) r (omega arith)) in
    let long_row : length (take (cells - a) (drop begin xs)) ≡ cells - a =
    omega (arith, length-take (cells - a) (drop begin xs), length-drop begin xs, long, inside, at) in
    ext_get_or exact_zero (take (cells - a) (drop begin xs)) (row cells f a) (long_row ∙ sym wide)
    (λ i short.
    let here : a + i - a ≡ i = omega arith in
    get_or-take (cells - a) (drop begin xs) i exact_zero (omega (arith, long_row)) ∙ get_or-drop begin xs i exact_zero
    ∙ ap (λ (k : ℕ). get_or xs k exact_zero) (omega (arith, at, here)) ∙ sym (entry-padded cells xs a (a + i)) ∙ sym (row-at cells f a i exact_zero (omega (arith, long_row, wide))))

-- zeros at the end may be left out
pub padded-take : (cells n : ℕ) (xs : List Enclosure) → length xs ≤ start cells cells → n ≤ length xs → ((i : ℕ) → n ≤ i → get_or xs i exact_zero ≡ exact_zero) → padded cells (take n xs) ≡ padded cells xs
padded-take cells n xs few short zeros =
    let rest : ℕ = start cells cells - length (take n xs) in
    let more : ℕ = start cells cells - length xs in
    ap (λ (ys : List Enclosure). record { cells = cells; entries = ys })
    (ext_get_or exact_zero (take n xs ++ replicate rest exact_zero) (xs ++ replicate more exact_zero)
    (omega (arith, length-append (take n xs) (replicate rest exact_zero), length-append xs (replicate more exact_zero), length-replicate rest exact_zero, length-replicate more exact_zero, length-take n xs, few, short))
    (λ i less. get_or-padded (take n xs) rest i ∙ cut i ∙ sym (get_or-padded xs more i)))
  where
    cut : (i : ℕ) → get_or (take n xs) i exact_zero ≡ get_or xs i exact_zero
    cut i =
        elim (cases_lt i n) [
          | inl low ↦ get_or-take n xs i exact_zero low
          | inr high ↦ get_or_past (take n xs) i exact_zero (omega (arith, length-take n xs)) ∙ sym (zeros i high)
        ]

-- a table whose formula gives zeros from row r on is given by its first r rows
pub padded-rows : (cells r : ℕ) (f : ℕ → ℕ → Enclosure) → r ≤ cells → ((a b : ℕ) → r ≤ a → a ≤ b → b < cells → f a b ≡ exact_zero) → padded cells (rows cells f r) ≡ table cells f
padded-rows cells r f le h =
    let all : r + (cells - r) ≡ cells = omega arith in
    let count : start cells (r + (cells - r)) - start cells r ≡ start cells cells - length (rows cells f r) = omega (arith, length-rows cells f r, ap (start cells) all) in
    ap (λ (ys : List Enclosure). record { cells = cells; entries = ys })
    (ap (λ (n : ℕ). rows cells f r ++ replicate n exact_zero) (sym count) ∙ sym (zeros (cells - r) (omega arith)) ∙ ap (rows cells f) all)
  where
    zero_row : (a : ℕ) → r ≤ a → a < cells → row cells f a ≡ replicate (cells - a) exact_zero
    zero_row a low less = ext_get_or exact_zero (row cells f a) (replicate (cells - a) exact_zero)
        (length-map-range_with_len (f a) a (cells - a) ∙ sym (length-replicate (cells - a) exact_zero))
        (λ i short.
        let inside : i < cells - a = omega (arith, length-map-range_with_len (f a) a (cells - a)) in
        row-at cells f a i exact_zero short ∙ h a (a + i) low (omega arith) (omega arith) ∙ sym (get_or-replicate (cells - a) i exact_zero exact_zero inside))

    zeros : (k : ℕ) → r + k ≤ cells → rows cells f (r + k) ≡ rows cells f r ++ replicate (start cells (r + k) - start cells r) exact_zero
    zeros zero few =
        let here : r + 0 ≡ r = omega arith in
        let none : start cells r - start cells r ≡ 0 = omega arith in
        rw (here, none) (sym (append-nil (rows cells f r)))
    zeros (suc k) few =
        let next : r + suc k ≡ suc (r + k) = omega arith in
        let gone : ℕ = start cells (r + k) - start cells r in
        let wide : gone + (cells - (r + k)) ≡ start cells (suc (r + k)) - start cells r = omega (arith, start_rises cells r (r + k) (omega arith)) in
        rw (next, zeros k (omega arith), zero_row (r + k) (omega arith) (omega arith))
        (append_assoc (rows cells f r) (replicate gone exact_zero) (replicate (cells - (r + k)) exact_zero)
        ∙ ap (λ (ys : List Enclosure). rows cells f r ++ ys) (replicate-append-replicate gone (cells - (r + k)) exact_zero ∙ ap (λ (n : ℕ). replicate n exact_zero) wide))

-- zeros lose and reach nothing
pub loss-padded : (cells : ℕ) (xs : List Enclosure) → table_loss (padded cells xs) ≡ greatest_loss xs
loss-padded cells xs = fold-append (λ k e. max k (loss_of e)) 0 xs (replicate (start cells cells - length xs) exact_zero) ∙ stays (start cells cells - length xs) (greatest_loss xs)
  where
    stays : (n k : ℕ) → fold (λ k e. max k (loss_of e)) k (replicate n exact_zero) ≡ k
    stays zero k = refl
    stays (suc n) k =
        let same : max k (loss_of exact_zero) ≡ k = omega (arith, loss_of-zero exact_zero refl) in
        ap (λ (m : ℕ). fold (λ k e. max k (loss_of e)) m (replicate n exact_zero)) same ∙ stays n k

pub reach-padded : (cells : ℕ) (xs : List Enclosure) → table_reach (padded cells xs) ≡ greatest_reach xs
reach-padded cells xs = fold-append (λ m e. max m (reach_of e)) 0 xs (replicate (start cells cells - length xs) exact_zero) ∙ stays (start cells cells - length xs) (greatest_reach xs)
  where
    stays : (n k : ℕ) → fold (λ m e. max m (reach_of e)) k (replicate n exact_zero) ≡ k
    stays zero k = refl
    stays (suc n) k =
        let same : max k (reach_of exact_zero) ≡ k = omega (arith, reach_of-least exact_zero 0 (omega arith, omega arith)) in
        ap (λ (m : ℕ). fold (λ m e. max m (reach_of e)) m (replicate n exact_zero)) same ∙ stays n k

-- rows whose formulas agree
pub rows-same : (cells n : ℕ) (f g : ℕ → ℕ → Enclosure) → ((a b : ℕ) → a < n → a ≤ b → b < cells → f a b ≡ g a b) → rows cells f n ≡ rows cells g n
rows-same cells zero f g same = refl
rows-same cells (suc n) f g same = ap₂ (λ (xs ys : List Enclosure). xs ++ ys) (rows-same cells n f g (λ a b less le within. same a b (omega arith) le within)) last
  where
    last : row cells f n ≡ row cells g n
    last = ext_get_or exact_zero (row cells f n) (row cells g n)
        (length-map-range_with_len (f n) n (cells - n) ∙ sym (length-map-range_with_len (g n) n (cells - n)))
        (λ i short.
        let inside : i < cells - n = omega (arith, length-map-range_with_len (f n) n (cells - n)) in
        row-at cells f n i exact_zero short ∙ same n (n + i) (omega arith) (omega arith) (omega arith)
        ∙ sym (row-at cells g n i exact_zero (omega (arith, inside, length-map-range_with_len (g n) n (cells - n)))))

-- where an entry of a kept row stands, and what is read there
pub kept-inside : (cells live a b n : ℕ) (xs : List Enclosure) → length xs ≡ start cells live → a ≤ b → b < n → cells ≡ n → a < live → place cells a b < length xs
kept-inside cells live a b n xs long le within same less = omega (arith, long, place_below cells a b live le (omega arith) less)

pub kept-entry : (t : Table) (cells : ℕ) (xs : List Enclosure) (i a b : ℕ) (x : Enclosure) → padded cells xs ≡ t → i < length xs → i ≡ place cells a b → x ≡ get_or xs i x → x ≡ entry t a b
kept-entry t cells xs i a b x view inside at is =
    get_or_read xs i x inside is exact_zero ∙ ap (λ (k : ℕ). get_or xs k exact_zero) at ∙ sym (entry-padded cells xs a b) ∙ ap (λ (u : Table). entry u a b) view

-- what is kept reaches no further than the table
pub kept-near : (t : Table) (cells m : ℕ) (xs : List Enclosure) → padded cells xs ≡ t → table_reach t * 2 ^ 31 ≤ m → All (λ e. IsExponent m e.exp) xs
kept-near t cells m xs view le =
    let reach : greatest_reach xs ≡ table_reach t = sym (reach-padded cells xs) ∙ ap (λ (u : Table). table_reach u) view in
    λ i d less. IsExponent-more (get_or xs i d).exp (greatest_reach xs * 2 ^ 31) m (rw reach le) (greatest_reach-IsExponent xs i d less)

-- an entry that was read is as the table's are
pub entry-near : (t : Table) (a b : ℕ) (x : Enclosure) → IsTable t → x ≡ entry t a b → IsExponent (2 ^ 60) x.exp
entry-near t a b x v is = rw is (row_entry-near t.entries (place t.cells a b) v.entries).near

-- the first rows of the identity
pub identity-rows : (cells live : ℕ) → live ≤ cells → padded cells (rows cells identity_entry live) ≡ identity_rows_of cells live
identity-rows cells live le =
    ap (padded cells) (rows-same cells live identity_entry (identity_rows_entry live) (λ a b less le within. rw (lt-ltb a live less) refl))
    ∙ padded-rows cells live (identity_rows_entry live) le (λ a b low le within. rw (le-ltb a live low) refl)

-- the table of the rows that were made, where its formula gives zeros behind them
pub made-table : (r : Table) (cells live : ℕ) (f : ℕ → ℕ → Enclosure) (items : List Enclosure) → r ≡ padded cells items → items ≡ rows cells f live → live ≤ cells →
    ((a b : ℕ) → live ≤ a → a ≤ b → b < cells → f a b ≡ exact_zero) → r ≡ table cells f
made-table r cells live f items is made le dead = is ∙ ap (padded cells) made ∙ padded-rows cells live f le dead

pub length-made : (cells live : ℕ) (f : ℕ → ℕ → Enclosure) (items : List Enclosure) → items ≡ rows cells f live → length items ≡ start cells live
length-made cells live f items made = ap length made ∙ length-rows cells f live
