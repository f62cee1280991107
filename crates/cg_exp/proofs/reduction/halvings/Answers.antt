use Rattle.std.proofs.Common.{◌≡◌, ℕ, ◌*◌, ◌%◌, ◌^◌, ◌<◌, ◌≤◌, arith, sym, below_more}
use Rattle.std.proofs.lemmas.Nat.{shl_whole}
use Rattle.cg_exp.proofs.Halving.{halvings-found}
use Rattle.cg_exp.proofs.reduction.halvings.Goals as goal

-- the shift loses nothing
shifted : (q h : ℕ) → q < 2 ^ 96 → h ≤ 30 → q * 2 ^ h % 2 ^ 128 ≡ q * 2 ^ h
shifted q h fits few = shl_whole q 96 h 128 fits (omega arith)

pub returns-then-small-clause-value : goal.returns-then-small-clause-value
returns-then-small-clause-value c =
    let few : c.loop-h.h ≤ 30 = omega arith in
    let small : 4 * c.args.p ≤ c.args.q * 2 ^ c.loop-h.h = omega (arith, shifted c.args.q c.loop-h.h c.requires.fits few, c.if-small.true) in
    sym (halvings-found c.args.p c.args.q c.loop-h.h few small c.loop-h.invariant)

pub loop-h-preserved : goal.loop-h-preserved
loop-h-preserved c =
    let few : c.loop-h.h ≤ 30 = omega arith in
    let here : c.args.q * 2 ^ c.loop-h.h < 4 * c.args.p = omega (arith, shifted c.args.q c.loop-h.h c.requires.fits few, c.if-small.false) in
    below_more (λ (k : ℕ). c.args.q * 2 ^ k < 4 * c.args.p) c.loop-h.h c.loop-h.invariant here

pub returns-clause-value : goal.returns-clause-value
returns-clause-value c =
    let small : 4 * c.args.p ≤ c.args.q * 2 ^ 30 = omega (arith, c.requires.reach) in
    sym (halvings-found c.args.p c.args.q 30 (omega arith) small (λ k less. c.loop-h.invariant k (omega (arith, less, c.loop-h-test.false))))
