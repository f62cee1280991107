-- A journal of claims, computed: what the seats are told, where the cache has room for two codes.
use Rattle.std.proofs.Common.{◌≡◌, ℕ, List, [], ◌∷◌, refl}
use Rattle.std.specs.Prelude.{codes}
use Rattle.cg_cache.specs.Cached.{Hit, Mine, Busy, NoRoom}
use Rattle.cg_cache.specs.Deeds as deeds
use Rattle.cg_cache.specs.Deeds.{Deed, Claim, Publish, GiveBack, Claimed}
use Rattle.cg_sharing.specs.Journal.{Shared, shared_of, shared_by, answer_of, Do, Answer, Told}

-- what the seats are told of these deeds, one after another
abbrev told : Shared → List (ℕ × Deed) → List Answer
told shared [] = []
told shared (ask ∷ asks) =
    let answer = answer_of shared (Do ask.1) in
    answer ∷ told (shared_by shared (record { seat = ask.0; act = Do ask.1; answer = answer })) asks

-- Seat 1 has claimed A and seat 2 B, so there is no room for C. Once A is ready it makes room, and is gone. Once B is
-- given back there is room for A again. What is published is ready for the other seat.
two_seats : told (shared_of [] 2)
    ((1, Claim (codes "A")) ∷ (2, Claim (codes "A")) ∷ (2, Claim (codes "B")) ∷ (1, Claim (codes "C"))
    ∷ (1, Publish (codes "A")) ∷ (2, Claim (codes "C")) ∷ (1, Claim (codes "A")) ∷ (2, GiveBack (codes "B"))
    ∷ (1, Claim (codes "A")) ∷ (2, Publish (codes "C")) ∷ (1, Claim (codes "C")) ∷ [])
    ≡ Told (Claimed Mine) ∷ Told (Claimed (Busy 1)) ∷ Told (Claimed Mine) ∷ Told (Claimed NoRoom)
    ∷ Told deeds.Published ∷ Told (Claimed Mine) ∷ Told (Claimed NoRoom) ∷ Told deeds.Returned
    ∷ Told (Claimed Mine) ∷ Told deeds.Published ∷ Told (Claimed Hit) ∷ []
two_seats = refl
