-- What lists of enclosures lose, and how far their exponents reach.
use Rattle.std.specs.Prelude.{ℕ, ◌+◌, ◌-◌, ◌*◌, ◌^◌, max, fold, nat_eq, if◌then◌else◌, List}
use borrow.Author.Differences.{up, down}
use Rattle.cg_enc.specs.Enclosure.{Enclosure}
use Rattle.cg_enc.specs.Rounding.{ceil_div}

-- the least loss that an enclosure has
unfoldable pub loss_of : Enclosure → ℕ
loss_of a = if nat_eq a.hi 0 then 0 else ceil_div ((a.hi - a.lo) * 2 ^ 62) a.hi

-- the least loss that all of them have
abbrev pub greatest_loss : List Enclosure → ℕ
greatest_loss enclosures = fold (λ k e. max k (loss_of e)) 0 enclosures

-- the least number of times 2 ^ 31 within which an exponent lies
unfoldable pub reach_of : Enclosure → ℕ
reach_of a = ceil_div (up a.exp + down a.exp) (2 ^ 31)

-- the least one that serves all of them
abbrev pub greatest_reach : List Enclosure → ℕ
greatest_reach enclosures = fold (λ m e. max m (reach_of e)) 0 enclosures
