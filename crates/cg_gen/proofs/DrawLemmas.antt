-- The number as it goes on by draws.
use Rattle.std.proofs.Common.{◌≡◌, ℕ, zero, suc, ◌+◌, ◌*◌, ◌/◌, ◌%◌, ◌^◌, refl, ap, ◌∙◌, arith}
use Rattle.cg_gen.specs.Draws.{next, after, draw}

-- after one draw
pub after-one : (x : ℕ) → after x 1 ≡ next x
unfolding after
after-one x = refl

-- before any
pub after-none : (x : ℕ) → after x 0 ≡ x
unfolding after
after-none x = refl

-- draws behind j others
pub after-more : (x j k : ℕ) → after (after x j) k ≡ after x (j + k)
unfolding after
after-more x j zero = let none : j ≡ j + 0 = omega arith in ap (after x) none
after-more x j (suc k) = let next_is : suc (j + k) ≡ j + suc k = omega arith in ap next (after-more x j k) ∙ ap (after x) next_is

-- and what is drawn there
pub draw-more : (x j k m : ℕ) → draw (after x j) k m ≡ draw x (j + k) m
draw-more x j k m =
    let at : j + (k + 1) ≡ j + k + 1 = omega arith in
    ap (λ (n : ℕ). n / 2 ^ 33 % m) (after-more x j (k + 1) ∙ ap (after x) at)

-- two more draws behind i pairs of them
pub pair-more : (x d new i : ℕ) → new ≡ after d 2 → d ≡ after x (2 * i) → new ≡ after x (2 * (i + 1))
pair-more x d new i is h =
    let at : 2 * i + 2 ≡ 2 * (i + 1) = omega arith in
    is ∙ ap (λ (n : ℕ). after n 2) h ∙ after-more x (2 * i) 2 ∙ ap (after x) at

-- three more behind k threes
pub three-more : (x d new k : ℕ) → new ≡ after d 3 → d ≡ after x (3 * k) → new ≡ after x (3 * (k + 1))
three-more x d new k is h =
    let at : 3 * k + 3 ≡ 3 * (k + 1) = omega arith in
    is ∙ ap (λ (n : ℕ). after n 3) h ∙ after-more x (3 * k) 3 ∙ ap (after x) at
