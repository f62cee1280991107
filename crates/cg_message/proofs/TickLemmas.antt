-- Ticks that a call counts twice or six times.
use Rattle.std.proofs.Common.{ℕ, ◌+◌, ◌*◌, ◌/◌, ◌≤◌, arith}

-- twice as many ticks, of which some are counted once
pub halved : (new old x more : ℕ) → 2 * new ≤ 2 * old + x + 2 * more → new ≤ old + (x / 2 + more)
halved new old x more h = omega arith
