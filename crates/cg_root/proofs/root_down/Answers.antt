use Rattle.std.proofs.Common.{◌≡◌, ℕ, suc, ◌-◌, ◌*◌, ◌%◌, ◌^◌, ◌<◌, arith}
use Rattle.std.proofs.Math.Nat.{two-pow-succ}
use Rattle.std.proofs.lemmas.Nat.{one_shl}
use Rattle.cg_root.proofs.root_down.Goals as goal

-- twice a digit is the digit before it
twice : (k : ℕ) → k < 63 → 2 * (1 * 2 ^ (62 - k) % 2 ^ 64) ≡ 2 ^ (63 - k)
twice k less =
    let e : 63 - k ≡ suc (62 - k) = omega arith in
    rw (one_shl (62 - k) 64 (omega arith), e, two-pow-succ (62 - k)) (omega arith)

pub with_digit-root-requires-clause-above : goal.with_digit-root-requires-clause-above
with_digit-root-requires-clause-above c = rw (twice c.loop-done.done (omega arith)) c.loop-done.invariant.above

pub with_digit-root-requires-clause-fits : goal.with_digit-root-requires-clause-fits
with_digit-root-requires-clause-fits c = rw (twice c.loop-done.done (omega arith)) c.loop-done.invariant.fits
