-- The fields of a code have their widths: where two codes begin with one kind of field, the values and what follows are equal.
use Rattle.std.proofs.Common.{◌≡◌, ℕ, ◌-◌, ◌<◌, List, [], ◌∷◌, ◌++◌, length, get_or, refl, sym, ap, ap₂, ◌∙◌, arith}
use Rattle.std.specs.Prelude.{ℤ, pos, negsuc, ◌+ℤ◌, ◌≤ℤ◌, unsigned_abs}
use Rattle.std.specs.Int.{w16, w32, from_be_bytes}
use Rattle.std.proofs.lemmas.Int.{ints}
use Rattle.std.proofs.lemmas.Nat.{from_be_bytes-to_be_bytes_2, from_be_bytes-to_be_bytes_4}
use Rattle.cg_num.specs.Year.{IsYear}
use Rattle.cg_meaning.specs.Tree.{Dating, Free, Exact, Normal, Carbon, Kind, Sequence, Phase, After, Before}
use Rattle.cg_meaning.specs.Scene.{Grid, year_of}
use Rattle.cg_model.specs.Grid.{IsGrid}
use Rattle.cg_model.specs.Limits.{IsInRange}
use Rattle.cg_code.specs.Code.{in_two, in_four, year_bytes, age_bytes, error_bytes, dating_bytes, kind_bytes, grid_bytes}

-- lists that begin with parts of one length
parts : (p q xs ys : List ℕ) → length p ≡ length q → p ++ xs ≡ q ++ ys → (p ≡ q) × (xs ≡ ys)
parts [] [] xs ys same eq = (refl, eq)
parts [] (b ∷ q) xs ys same eq = absurd (omega (arith, same))
parts (a ∷ p) [] xs ys same eq = absurd (omega (arith, same))
parts (a ∷ p) (b ∷ q) xs ys same eq =
    let head : a ≡ b = cc in
    let tail : p ++ xs ≡ q ++ ys = cc in
    let rest = parts p q xs ys (omega (arith, same)) tail in
    (ap₂ (λ x zs. x ∷ zs) head rest.0, rest.1)

-- a number in two bytes
pub two-front : (m n : ℕ) (xs ys : List ℕ) → m < 65536 → n < 65536 → in_two m ++ xs ≡ in_two n ++ ys → (m ≡ n) × (xs ≡ ys)
two-front m n xs ys small few eq =
    let same = parts (in_two m) (in_two n) xs ys refl eq in
    (sym (from_be_bytes-to_be_bytes_2 m small) ∙ ap (from_be_bytes w16) same.0 ∙ from_be_bytes-to_be_bytes_2 n few, same.1)

-- and in four
four-front : (m n : ℕ) (xs ys : List ℕ) → m < 4294967296 → n < 4294967296 → in_four m ++ xs ≡ in_four n ++ ys → (m ≡ n) × (xs ≡ ys)
four-front m n xs ys small few eq =
    let same = parts (in_four m) (in_four n) xs ys refl eq in
    (sym (from_be_bytes-to_be_bytes_4 m small) ∙ ap (from_be_bytes w32) same.0 ∙ from_be_bytes-to_be_bytes_4 n few, same.1)

-- a number that isn't negative is its size
size : (z : ℤ) → pos 0 ≤ℤ z → pos (unsigned_abs z) ≡ z
size (pos n) above = refl
size (negsuc n) above = absurd (omega (arith, ints, above))

-- a year
year-front : (y z : ℤ) (xs ys : List ℕ) → IsYear y → IsYear z → year_bytes y ++ xs ≡ year_bytes z ++ ys → (y ≡ z) × (xs ≡ ys)
year-front y z xs ys here there eq =
    let a = size (y +ℤ pos 1000) (omega (arith, ints, here.0)) in
    let b = size (z +ℤ pos 1000) (omega (arith, ints, there.0)) in
    let same = two-front (unsigned_abs (y +ℤ pos 1000)) (unsigned_abs (z +ℤ pos 1000)) xs ys (omega (arith, ints, a, here.1)) (omega (arith, ints, b, there.1)) eq in
    (omega (arith, ints, a, b, same.0), same.1)

-- a radiocarbon age
age-front : (y z : ℤ) (xs ys : List ℕ) → negsuc 1999999 ≤ℤ y → y ≤ℤ pos 60000000 → negsuc 1999999 ≤ℤ z → z ≤ℤ pos 60000000 →
    age_bytes y ++ xs ≡ age_bytes z ++ ys → (y ≡ z) × (xs ≡ ys)
age-front y z xs ys low high least most eq =
    let a = size (y +ℤ pos 2000000) (omega (arith, ints, low)) in
    let b = size (z +ℤ pos 2000000) (omega (arith, ints, least)) in
    let same = four-front (unsigned_abs (y +ℤ pos 2000000)) (unsigned_abs (z +ℤ pos 2000000)) xs ys (omega (arith, ints, a, high)) (omega (arith, ints, b, most)) eq in
    (omega (arith, ints, a, b, same.0), same.1)

-- an error
error-front : (y z : ℤ) (xs ys : List ℕ) → pos 1000 ≤ℤ y → y ≤ℤ pos 10000000 → pos 1000 ≤ℤ z → z ≤ℤ pos 10000000 →
    error_bytes y ++ xs ≡ error_bytes z ++ ys → (y ≡ z) × (xs ≡ ys)
error-front y z xs ys low high least most eq =
    let a = size y (omega (arith, ints, low)) in
    let b = size z (omega (arith, ints, least)) in
    let same = four-front (unsigned_abs y) (unsigned_abs z) xs ys (omega (arith, ints, a, high)) (omega (arith, ints, b, most)) eq in
    (omega (arith, ints, a, b, same.0), same.1)

-- the first byte
pub first : (p q : List ℕ) → p ≡ q → get_or p 0 0 ≡ get_or q 0 0
first p q eq = ap (λ s. get_or s 0 0) eq

-- and what follows it
pub behind : (a b : ℕ) (xs ys : List ℕ) → a ∷ xs ≡ b ∷ ys → xs ≡ ys
behind a b xs ys eq = cc

-- a dating
pub dating-front : (d e : Dating) (xs ys : List ℕ) → IsInRange d → IsInRange e → dating_bytes d ++ xs ≡ dating_bytes e ++ ys → (d ≡ e) × (xs ≡ ys)
dating-front Free Free xs ys here there eq = (refl, behind _ _ xs ys eq)
dating-front (Exact y) (Exact z) xs ys here there eq =
    let years = year-front y z xs ys here there (behind _ _ _ _ eq) in
    (ap Exact years.0, years.1)
dating-front (Normal y s) (Normal z t) xs ys here there eq =
    let years = year-front y z (error_bytes s ++ xs) (error_bytes t ++ ys) here.year_is there.year_is (behind _ _ _ _ eq) in
    let errors = error-front s t xs ys here.some here.few there.some there.few years.1 in
    (ap₂ Normal years.0 errors.0, errors.1)
dating-front (Carbon y s) (Carbon z t) xs ys here there eq =
    let ages = age-front y z (error_bytes s ++ xs) (error_bytes t ++ ys) here.low here.high there.low there.high (behind _ _ _ _ eq) in
    let errors = error-front s t xs ys here.some here.few there.some there.few ages.1 in
    (ap₂ Carbon ages.0 errors.0, errors.1)
dating-front d e xs ys here there eq = absurd (omega (arith, first _ _ eq))

-- the kind of a group
pub kind-front : (k l : Kind) (xs ys : List ℕ) → kind_bytes k ++ xs ≡ kind_bytes l ++ ys → (k ≡ l) × (xs ≡ ys)
kind-front Sequence Sequence xs ys eq = (refl, behind _ _ xs ys eq)
kind-front Phase Phase xs ys eq = (refl, behind _ _ xs ys eq)
kind-front After After xs ys eq = (refl, behind _ _ xs ys eq)
kind-front Before Before xs ys eq = (refl, behind _ _ xs ys eq)
kind-front k l xs ys eq = absurd (omega (arith, first _ _ eq))

-- the youngest year of a grid
youngest : (g : Grid) → IsGrid g.oldest g.cells → IsYear (year_of g (g.cells - 1))
youngest g is = (omega (arith, ints, is.some, is.young), omega (arith, ints, is.old))

-- a grid
pub grid-front : (g h : Grid) (xs ys : List ℕ) → IsGrid g.oldest g.cells → IsGrid h.oldest h.cells → grid_bytes g ++ xs ≡ grid_bytes h ++ ys → (g ≡ h) × (xs ≡ ys)
grid-front g h xs ys here there eq =
    let old = youngest g here in
    let new = youngest h there in
    let older = year-front g.oldest h.oldest _ _ (omega (arith, ints, here), here.old) (omega (arith, ints, there), there.old) eq in
    let younger = year-front (year_of g (g.cells - 1)) (year_of h (h.cells - 1)) xs ys old new older.1 in
    let cells : g.cells ≡ h.cells = omega (arith, ints, older.0, younger.0, here.some, there.some) in
    (ap₂ (λ oldest count. record { oldest = oldest; cells = count }) older.0 cells, younger.1)
