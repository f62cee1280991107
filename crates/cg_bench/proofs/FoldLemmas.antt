-- A check sum as it goes on.
use Rattle.std.proofs.Common.{◌≡◌, ℕ, ◌+◌, ◌-◌, ◌≤◌, ◌∷◌, [], ◌∙◌, fold, map, sym, arith, refl, add-one}
use Rattle.std.specs.List.{range_with_len}
use Rattle.std.proofs.lemmas.List.FromFn.{map-range_with_len_more}
use Rattle.std.proofs.lemmas.List.Sums.{fold-append}
use Rattle.cg_enc.specs.Enclosure.{Enclosure}
use Rattle.cg_table.specs.Table.{Table, entry, row}
use Rattle.cg_bench.specs.Fold.{check_of, mixed}

-- with one entry more
pub mixed_more : (sum now next : ℕ) (e : Enclosure) (f : ℕ → Enclosure) (a b : ℕ) → a ≤ b → e ≡ f b → now ≡ fold mixed sum (map f (range_with_len a (b - a))) → next ≡ mixed now e →
    next ≡ fold mixed sum (map f (range_with_len a (b + 1 - a)))
mixed_more sum now next e f a b le is h last =
    let more : b + 1 - a ≡ b - a + 1 = omega arith in
    last ∙ rw (h, is, more, map-range_with_len_more f a (b - a) b (omega arith)) (sym (fold-append mixed sum (map f (range_with_len a (b - a))) (f b ∷ [])))

-- with one row more
pub check_more : (t : Table) (a : ℕ) → fold mixed (check_of t a) (row t.cells (entry t) a) ≡ check_of t (a + 1)
unfolding check_of
check_more t a = rw (add-one a) refl
