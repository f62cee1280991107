-- What a book keeps: its journal is legal, what is shared is that after the journal, and there is room for the entry that
-- closes each claim.
use Rattle.std.specs.Prelude.{◌≡◌, ℕ, ◌+◌, ◌≤◌, List, length}
use Rattle.cg_cache.specs.Cached.{Mine}
use Rattle.cg_cache.specs.Deeds.{Claimed}
use Rattle.cg_sharing.specs.Journal.{Shared, Entry, Answer, Told, IsLegal, shared_after}

pub record IsReplay (start now : Shared) (journal : List Entry) : Type 0 where
  pub legal : IsLegal start journal
  pub replay : now ≡ shared_after start journal

-- so many claims are open at most, and that many entries more have room
pub record HasRoom (claimed : List (List ℕ × ℕ)) (open_claims entries capacity : ℕ) : Type 0 where
  pub counted : length claimed ≤ open_claims
  pub room : entries + open_claims ≤ capacity

-- how many are open after the answer to one more
abbrev pub open_after : ℕ → Answer → ℕ
open_after open_claims (Told (Claimed Mine)) = open_claims + 1
open_after open_claims other = open_claims
