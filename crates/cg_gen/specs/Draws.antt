-- The draws of the generator. chron's own.
use Rattle.std.specs.Prelude.{ℕ, zero, suc, ◌+◌, ◌*◌, ◌/◌, ◌%◌, ◌^◌}

-- the number after one draw
abbrev pub next : ℕ → ℕ
next x = (6364136223846793005 * x + 1442695040888963407) % 2 ^ 64

-- and after k draws
unfoldable pub after : ℕ → ℕ → ℕ
after x zero = x
after x (suc k) = next (after x k)

-- the draw below m that comes behind k others
abbrev pub draw : ℕ → ℕ → ℕ → ℕ
draw x k m = after x (k + 1) / 2 ^ 33 % m
