-- Sums over lists of cells, and what bounds them.
use Rattle.std.proofs.Common.{◌≡◌, ℕ, zero, suc, ◌+◌, ◌-◌, ◌*◌, ◌^◌, ◌<◌, ◌≤◌, List, [], ◌∷◌, ◌++◌, length, take, refl, sym, ap, ap₂, ◌∙◌, arith, add-one, append_assoc, length-append}
use Rattle.std.proofs.Math.Seq.{take-append_seam}
use Rattle.std.proofs.Math.Nat.{pow-zero, pow-succ', pow-le-pow_right, mul-le-mul_right, mul_assoc}
use Rattle.cg_meaning.specs.Sums.{sum_below, sum_over}
use Rattle.cg_meaning.proofs.Sums.{sum_below-le, sum_over-same}

-- terms of at most this
sum_over-le : (g n most : ℕ) (f : List ℕ → ℕ) → ((cells : List ℕ) → f cells ≤ most) → sum_over g n f ≤ g ^ n * most
sum_over-le g zero most f each = rw pow-zero (omega (arith, each []))
sum_over-le g (suc n) most f each =
    let rest : (cell : ℕ) → cell < g → sum_over g n (λ cells. f (cell ∷ cells)) ≤ g ^ n * most =
    λ cell h. sum_over-le g n most (λ cells. f (cell ∷ cells)) (λ cells. each (cell ∷ cells)) in
    rw (pow-succ', mul_assoc) (sum_below-le g (g ^ n * most) (λ cell. sum_over g n (λ cells. f (cell ∷ cells))) rest)

-- The sum over the lists that have these first cells, then this one, where there are so many cells in all.
abbrev pub sum_behind : ℕ → ℕ → (List ℕ → ℕ) → List ℕ → ℕ → ℕ
sum_behind g events f first cell = sum_over g (events - (length first + 1)) (λ later. f (first ++ cell ∷ later))

-- it is the sum over the lists with one more first cell
sum_behind-push : (g events : ℕ) (f : List ℕ → ℕ) (first pushed : List ℕ) (cell : ℕ) → pushed ≡ first ++ cell ∷ [] →
    sum_over g (events - length pushed) (λ later. f (pushed ++ later)) ≡ sum_behind g events f first cell
sum_behind-push g events f first pushed cell is =
    let more : length pushed ≡ length first + 1 = ap length is ∙ length-append first (cell ∷ []) in
    ap (λ n. sum_over g (events - n) (λ later. f (pushed ++ later))) more
    ∙ sum_over-same g (events - (length first + 1)) (λ later. f (pushed ++ later)) (λ later. f (first ++ cell ∷ later))
    (λ later l all. ap (λ cells. f (cells ++ later)) is ∙ ap f (append_assoc first (cell ∷ []) later))

-- one more cell
pub sum_behind-next : (g events : ℕ) (f : List ℕ → ℕ) (first pushed : List ℕ) (cell sum more : ℕ) → pushed ≡ first ++ cell ∷ [] →
    more ≡ sum_over g (events - length pushed) (λ later. f (pushed ++ later)) → sum ≡ sum_below cell (sum_behind g events f first) →
    sum + more ≡ sum_below (cell + 1) (sum_behind g events f first)
sum_behind-next g events f first pushed cell sum more is more_is sum_is =
    rw add-one (ap₂ (λ a b. a + b) sum_is (more_is ∙ sum_behind-push g events f first pushed cell is))

-- all cells
pub sum_behind-all : (g events : ℕ) (f : List ℕ → ℕ) (first : List ℕ) (cell sum : ℕ) → length first < events → cell ≡ g →
    sum ≡ sum_below cell (sum_behind g events f first) → sum ≡ sum_over g (events - length first) (λ later. f (first ++ later))
sum_behind-all g events f first cell sum short all is =
    let left : events - length first ≡ suc (events - (length first + 1)) = omega arith in
    is ∙ ap (λ n. sum_below n (sum_behind g events f first)) all ∙ ap (λ n. sum_over g n (λ later. f (first ++ later))) (sym left)

-- no sum of some cells passes the bound of the sum of all
pub sum_behind-fits : (g events most : ℕ) (f : List ℕ → ℕ) (first : List ℕ) (cell : ℕ) → cell < g → length first < events →
    ((cells : List ℕ) → f cells ≤ most) → sum_below (cell + 1) (sum_behind g events f first) ≤ g ^ events * most
sum_behind-fits g events most f first cell within short each =
    let left : ℕ = events - (length first + 1) in
    let some : sum_below (cell + 1) (sum_behind g events f first) ≤ (cell + 1) * (g ^ left * most) =
    sum_below-le (cell + 1) (g ^ left * most) (sum_behind g events f first) (λ k h. sum_over-le g left most (λ later. f (first ++ k ∷ later)) (λ later. each (first ++ k ∷ later))) in
    let all : (cell + 1) * (g ^ left * most) ≤ g * (g ^ left * most) = mul-le-mul_right (g ^ left * most) (omega arith) in
    let power : g * (g ^ left * most) ≡ g ^ suc left * most = sym (rw (pow-succ', mul_assoc) refl) in
    let grows : g ^ suc left ≤ g ^ events = pow-le-pow_right (omega arith) (omega arith) in
    omega (arith, some, all, power, mul-le-mul_right most grows)

-- what was put behind the first cells is taken away again
pub popped-first : (first pushed popped : List ℕ) (cell len : ℕ) → pushed ≡ first ++ cell ∷ [] → len ≡ length pushed → popped ≡ take (len - 1) pushed → popped ≡ first
popped-first first pushed popped cell len is len_is rest =
    let short : len - 1 ≡ length first = omega (arith, ap length is, length-append first (cell ∷ [])) in
    rest ∙ ap₂ (λ n cells. take n cells) short is ∙ take-append_seam first (cell ∷ [])
