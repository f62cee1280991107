-- Enclosures made wider by one unit at each end.
use Rattle.std.proofs.Common.{◌≡◌, ℕ, ◌+◌, ◌-◌, ◌*◌, ◌^◌, ◌<◌, ◌≤◌, ◌↔◌, inl, inr, arith, refl}
use Rattle.std.proofs.Math.Nat.{mul-le-mul_right}
use Rattle.std.proofs.lemmas.Bool.{cases_eq, eq-eqb, ne_eqb}
use borrow.Author.Differences.{up}
use Rattle.cg_enc.specs.Enclosure.{Enclosure, exact_zero, IsEnclosure, IsExponent, IsZero, Encloses, HasLoss}
use Rattle.cg_enc.specs.Rounding.{norm, margin}
use Rattle.cg_enc.proofs.Products.{only_zero}
use Rattle.cg_enc.proofs.Settling.{norm-exponent_settled}
use Rattle.cg_enc.proofs.Widening.{norm_encloses, norm_loss_more, norm-positive}
use Rattle.cg_enc.proofs.WholeNumbers.{zero-encloses}

-- what a margin is
pub record IsMargin (a r : Enclosure) : Type 0 where
  pub encloses : (n d : ℕ) → Encloses a n d → Encloses r n d
  pub loss : (k : ℕ) → HasLoss a k → HasLoss r (k + 3)
  pub zero : IsZero r ↔ IsZero a
  pub exponent : (m : ℕ) → IsExponent m a.exp → IsExponent (m + 1) r.exp

pub margin-zero : (a : Enclosure) → IsZero a → margin a ≡ exact_zero
unfolding margin
margin-zero a e = rw (eq-eqb a.hi 0 e) refl

pub margin-value : (a : Enclosure) → 0 < a.hi → margin a ≡ norm (a.lo - 1) (a.hi + 1) a.exp
unfolding margin
margin-value a some = rw (ne_eqb a.hi 0 (λ e. absurd (omega arith))) refl

-- wider ends enclose the same
wider : (a : Enclosure) (n d : ℕ) → Encloses a n d → Encloses (record { lo = a.lo - 1; hi = a.hi + 1; exp = a.exp }) n d
wider a n d h =
    let less : a.lo - 1 ≤ a.lo = omega arith in
    let more : a.hi ≤ a.hi + 1 = omega arith in
    record {
      below = omega (arith, h.below, mul-le-mul_right (2 ^ up a.exp * d) less);
      above = omega (arith, h.above, mul-le-mul_right (2 ^ up a.exp * d) more);
    }

IsMargin-full : (a : Enclosure) → IsEnclosure a → 0 < a.hi → IsMargin a (norm (a.lo - 1) (a.hi + 1) a.exp)
IsMargin-full a v some =
    let ordered : a.lo - 1 ≤ a.hi + 1 = omega (arith, v.ordered) in
    let fits : a.hi + 1 < 2 ^ 128 = omega (arith, v.most) in
    let full : 2 ^ 62 ≤ a.hi + 1 = omega (arith, v.least some) in
    record {
      encloses = λ n d h. norm_encloses (a.lo - 1) (a.hi + 1) a.exp n d ordered (omega arith) fits (wider a n d h);
      loss = λ k l. norm_loss_more (a.lo - 1) (a.hi + 1) a.exp k ordered full fits (omega (arith, l, v.ordered));
      zero = (λ z. absurd (omega (arith, norm-positive (a.lo - 1) (a.hi + 1) a.exp ordered (omega arith) fits, z)), λ z. absurd (omega (arith, some, z)));
      exponent = λ m r. norm-exponent_settled (a.lo - 1) (a.hi + 1) a.exp m full (omega (arith, v.most)) r;
    }

pub margin-IsMargin : (a : Enclosure) → IsEnclosure a → IsMargin a (margin a)
margin-IsMargin a v =
    elim (cases_eq a.hi 0) [
      | inl z ↦ rw (margin-zero a z) (record {
        encloses = λ n d h. zero-encloses n d (only_zero a n d z h);
        loss = λ k l. omega arith;
        zero = (λ _. z, λ _. refl);
        exponent = λ m r. (omega arith, omega arith);
      })
      | inr s ↦
          let some : 0 < a.hi = omega arith in
          rw (margin-value a some) (IsMargin-full a v some)
    ]
