-- What the recipe's value promises.
use Rattle.std.proofs.Common.{◌≡◌, ℕ, ◌-◌, ◌*◌, ◌^◌, ◌<◌, ◌≤◌, negsuc, arith, refl}
use Rattle.std.proofs.Math.Nat.{mul-le-mul_right, le_of_mul-le-mul_right, mul-pos, one-le-pow, pow-le-pow_left}
use Rattle.std.proofs.lemmas.Nat.{pow_pos, mul-pow}
use borrow.Author.Differences.{up, down}
use Rattle.cg_enc.specs.Enclosure.{Enclosure, IsEnclosure, IsExponent, IsFirm, Encloses, HasLoss}
use Rattle.cg_enc.specs.Rounding.{norm}
use Rattle.cg_enc.proofs.Powers.{pow_le}
use Rattle.cg_meaning.specs.Taylor.{IsHalving, bound_top, bound_bottom, denominator, series}
use Rattle.cg_exp.specs.Exponential.{halvings, reduced_below, reduced_above, horner_after, start, squared, halved, exp_neg_of}
use Rattle.cg_exp.proofs.Halving.{halvings-is, halving_few, halvings-IsHalving}
use Rattle.cg_exp.proofs.Reductions.{reduced-IsReduced, is_reduced}
use Rattle.cg_exp.proofs.Starting.{IsStart, start-IsStart, Starts, start-Starts, denominator-positive}
use Rattle.cg_exp.proofs.Squarings.{IsFull, squared-IsFull, squared-encloses, squared-loss, squared-exponent, near-IsExponent, loss_more}

-- p / q is in the range of the call
pub record IsArgument (p q : ℕ) : Type 0 where
  pub some : 0 < q
  pub reach : p ≤ q * 2 ^ 28

small_reduced : (p q h : ℕ) → 0 < q → 4 * p ≤ q * 2 ^ h → (0 < q * 2 ^ h) × (p ≤ q * 2 ^ h)
small_reduced p q h some small = (mul-pos some (pow_pos h), omega arith)

pub reduced-IsStart : (p q h low high x u : ℕ) → 0 < q → 4 * p ≤ q * 2 ^ h → low ≡ reduced_below p q h → high ≡ reduced_above p q h → x ≡ horner_after low high 17 17 → u ≡ horner_after low high 16 16 → IsStart x u
reduced-IsStart p q h low high x u some small el eh ex eu =
    let s = small_reduced p q h some small in
    rw (ex, eu) (start-IsStart p (q * 2 ^ h) low high s.0 s.1 (is_reduced p q h low high some small el eh))

starts : (p q h : ℕ) → IsArgument p q → IsHalving p q h → Starts p (q * 2 ^ h) (start (reduced_below p q h) (reduced_above p q h))
starts p q h r v =
    let s = small_reduced p q h r.some v.small in
    start-Starts p (q * 2 ^ h) (reduced_below p q h) (reduced_above p q h) s.0 s.1 (reduced-IsReduced p q h r.some v.small)

-- the numbers that the code finds are those of the recipe
pub halved-is : (p q h low high x u : ℕ) → low ≡ reduced_below p q h → high ≡ reduced_above p q h → x ≡ horner_after low high 17 17 → u ≡ horner_after low high 16 16 → squared (norm x u (negsuc 61)) h ≡ halved p q h
unfolding halved start
halved-is p q h low high x u el eh ex eu = rw (ex, eu, el, eh) refl

-- what stands between two numbers that are enclosed is enclosed
encloses-between : (e : Enclosure) (a b c f n d : ℕ) → 0 < b → 0 < f → Encloses e a b → Encloses e c f → a * d ≤ n * b → n * f ≤ c * d → Encloses e n d
encloses-between e a b c f n d sb sf ha hc more less =
    let low : (e.lo * 2 ^ up e.exp * d) * b ≤ (n * 2 ^ down e.exp) * b = omega (arith, mul-le-mul_right d ha.below, mul-le-mul_right (2 ^ down e.exp) more) in
    let high : (n * 2 ^ down e.exp) * f ≤ (e.hi * 2 ^ up e.exp * d) * f = omega (arith, mul-le-mul_right d hc.above, mul-le-mul_right (2 ^ down e.exp) less) in
    record { below = le_of_mul-le-mul_right low sb; above = le_of_mul-le-mul_right high sf }

power-positive : (n k : ℕ) → 0 < n → 0 < n ^ k
power-positive n k some = one-le-pow k n some

-- powers of two fractions are ordered as they are
powers_ordered : (a b c d k : ℕ) → a * d ≤ c * b → a ^ k * d ^ k ≤ c ^ k * b ^ k
powers_ordered a b c d k le = omega (arith, mul-pow a d k, mul-pow c b k, pow-le-pow_left le k)

-- what the recipe's value is, for its number of halvings
pub record IsExpNeg (p q h : ℕ) (r : Enclosure) : Type 0 where
  pub some : 0 < bound_top p q h 17
  pub ordered : bound_top p q h 17 * bound_bottom q h 16 ≤ bound_top p q h 16 * bound_bottom q h 17
  pub full : IsFull r
  pub lower : Encloses r (bound_top p q h 17) (bound_bottom q h 17)
  pub upper : Encloses r (bound_top p q h 16) (bound_bottom q h 16)
  pub between : (n d : ℕ) → bound_top p q h 17 * d ≤ n * bound_bottom q h 17 → n * bound_bottom q h 16 ≤ bound_top p q h 16 * d → Encloses r n d
  pub loss : HasLoss r (9 * 2 ^ h)
  pub few : h ≤ 30
  pub exponent : IsExponent (2 ^ 31) r.exp

halved-IsExpNeg : (p q h : ℕ) → IsArgument p q → IsHalving p q h → IsExpNeg p q h (halved p q h)
unfolding halved
halved-IsExpNeg p q h r v =
    let s = starts p q h r v in
    let a : Enclosure = start (reduced_below p q h) (reduced_above p q h) in
    let few = halving_few p q h r.reach v in
    let d : 0 < q * 2 ^ h = (small_reduced p q h r.some v.small).0 in
    let lower = squared-encloses a h (series p (q * 2 ^ h) 17) (denominator (q * 2 ^ h) 17) s.full s.lower in
    let upper = squared-encloses a h (series p (q * 2 ^ h) 16) (denominator (q * 2 ^ h) 16) s.full s.upper in
    record {
      some = power-positive (series p (q * 2 ^ h) 17) (2 ^ h) s.some;
      ordered = powers_ordered (series p (q * 2 ^ h) 17) (denominator (q * 2 ^ h) 17) (series p (q * 2 ^ h) 16) (denominator (q * 2 ^ h) 16) (2 ^ h) s.less;
      full = squared-IsFull a h s.full;
      lower = lower;
      upper = upper;
      between = λ n m more less. encloses-between (squared a h) (bound_top p q h 17) (bound_bottom q h 17) (bound_top p q h 16) (bound_bottom q h 16) n m
          (power-positive (denominator (q * 2 ^ h) 17) (2 ^ h) (denominator-positive (q * 2 ^ h) 17 d)) (power-positive (denominator (q * 2 ^ h) 16) (2 ^ h) (denominator-positive (q * 2 ^ h) 16 d)) lower upper more less;
      loss = squared-loss a h s.full s.loss;
      few = few;
      exponent = near-IsExponent (squared a h).exp (2 ^ h) (2 ^ 31) (omega (arith, pow_le h 30 few)) (squared-exponent a h s.full s.exponent);
    }

pub exp_neg-IsExpNeg : (p q h : ℕ) → IsArgument p q → IsHalving p q h → IsExpNeg p q h (exp_neg_of p q)
exp_neg-IsExpNeg p q h r v = rw (halvings-is p q h v (halving_few p q h r.reach v)) (halved-IsExpNeg p q h r v)

-- what doesn't speak of h
pub record IsBounded (r : Enclosure) : Type 0 where
  pub valid : IsEnclosure r
  pub loss : HasLoss r (2 ^ 34 - 1)
  pub exponent : IsExponent (2 ^ 31) r.exp
  pub positive : 0 < r.hi
  pub firm : IsFirm r

little_loss : (lo hi : ℕ) → 2 ^ 62 ≤ hi → (hi - lo) * 2 ^ 62 ≤ (2 ^ 34 - 1) * hi → 1 ≤ lo
little_loss lo hi full loss = omega arith

pub exp_neg-IsBounded : (p q : ℕ) → IsArgument p q → IsBounded (exp_neg_of p q)
exp_neg-IsBounded p q r =
    let h : ℕ = halvings p q in
    let e = exp_neg-IsExpNeg p q h r (halvings-IsHalving p q r.reach) in
    let loss : HasLoss (exp_neg_of p q) (2 ^ 34 - 1) = loss_more (exp_neg_of p q) (9 * 2 ^ h) (2 ^ 34 - 1) (omega (arith, pow_le h 30 e.few)) e.loss in
    record {
      valid = e.full.valid;
      loss = loss;
      exponent = e.exponent;
      positive = e.full.full;
      firm = little_loss (exp_neg_of p q).lo (exp_neg_of p q).hi (e.full.valid.least e.full.full) loss;
    }
