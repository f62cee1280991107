-- For callers: whose a claim is after further calls.
use Rattle.std.proofs.Common.{◌≡◌, ◌≢◌, ℕ, Bool, true, false, not, cond, List, [], ◌∷◌, refl, ap, sym, ◌∙◌, Some, None, Option, bytes_eq}
use Rattle.std.proofs.lemmas.Bool.{false_from_ne_true}
use Rattle.std.proofs.lemmas.Slice.Eq.{bytes_eq-Decides}
use Rattle.cg_cache.specs.Cached.{Cached, Answer, Hit, Mine, Busy, NoRoom, stands, owner, unclaimed, busy_or, claim_answer, after_claim}

-- a code is itself
same_code : (code : List ℕ) → bytes_eq code code ≡ true
same_code code = (bytes_eq-Decides code code).1 refl

-- and no other
other_code : (a b : List ℕ) → a ≢ b → bytes_eq a b ≡ false
other_code a b ne = false_from_ne_true (bytes_eq a b) (λ e. ne ((bytes_eq-Decides a b).0 e))

-- the newest claim is its seat's
pub owner_new : (code : List ℕ) (seat : ℕ) (claims : List (List ℕ × ℕ)) → owner code ((code, seat) ∷ claims) ≡ Some seat
owner_new code seat claims = rw same_code refl

-- and another code is claimed as before
pub owner_behind : (a b : List ℕ) (seat : ℕ) (claims : List (List ℕ × ℕ)) → a ≢ b → owner a ((b, seat) ∷ claims) ≡ owner a claims
owner_behind a b seat claims ne = rw (other_code a b ne) refl

-- one claim, kept or not
kept_step : (a b : List ℕ) (claim : List ℕ × ℕ) (claims rest : List (List ℕ × ℕ)) (c : Bool) → a ≢ b → bytes_eq b claim.0 ≡ c → owner a rest ≡ owner a claims → owner a (cond (not c) (claim ∷ rest) rest) ≡ owner a (claim ∷ claims)
kept_step a b claim claims rest true ne e h =
    let other : a ≢ claim.0 = λ (k : a ≡ claim.0). ne (k ∙ sym ((bytes_eq-Decides b claim.0).0 e)) in
    rw (other_code a claim.0 other) h
kept_step a b claim claims rest false ne e h = ap (λ o. cond (bytes_eq a claim.0) (Some claim.1) o) h

-- without the claim of one code another is claimed as before
pub owner_unclaimed : (a b : List ℕ) (claims : List (List ℕ × ℕ)) → a ≢ b → owner a (unclaimed b claims) ≡ owner a claims
owner_unclaimed a b [] ne = refl
owner_unclaimed a b (claim ∷ claims) ne =
    kept_step a b claim claims (unclaimed b claims) (bytes_eq b claim.0) ne refl (owner_unclaimed a b claims ne)

-- so a claim outlives the end of another
pub kept_by_end : (a b : List ℕ) (seat : ℕ) (before after : List (List ℕ × ℕ)) → after ≡ unclaimed b before → a ≢ b → owner a before ≡ Some seat → owner a after ≡ Some seat
kept_by_end a b seat before after e ne owned = ap (owner a) e ∙ (owner_unclaimed a b before ne ∙ owned)

-- a code that is claimed isn't one that isn't
pub owned_apart : (a b : List ℕ) (seat : ℕ) (claims : List (List ℕ × ℕ)) → owner a claims ≡ Some seat → owner b claims ≡ None → a ≢ b
owned_apart a b seat claims owned none e =
    let gone : None ≡ Some seat = sym none ∙ (ap (λ c. owner c claims) (sym e) ∙ owned) in
    cc

-- a ticket comes only where the code has no owner
mine_case : (cached : Cached) (o : Option ℕ) → busy_or cached o ≡ Mine → o ≡ None
mine_case cached None e = refl
mine_case cached (Some seat) e = cc

-- and isn't ready
mine_step : (cached : Cached) (o : Option ℕ) (ready : Bool) → cond ready Hit (busy_or cached o) ≡ Mine → o ≡ None
mine_step cached o true e = cc
mine_step cached o false e = mine_case cached o e

-- the code of a new claim was nobody's
pub mine_not_owned : (cached : Cached) (code : List ℕ) → claim_answer cached code ≡ Mine → owner code cached.claimed ≡ None
mine_not_owned cached code e = mine_step cached (owner code cached.claimed) (stands code cached.ready) e

-- a claim takes no other claim away
pub kept_by_claim : (cached : Cached) (seat : ℕ) (code a : List ℕ) (other : ℕ) (answer : Answer) → answer ≡ claim_answer cached code → owner a cached.claimed ≡ Some other → owner a (after_claim cached seat code answer).claimed ≡ Some other
kept_by_claim cached seat code a other Hit e owned = owned
kept_by_claim cached seat code a other Mine e owned =
    let none = mine_not_owned cached code (sym e) in
    owner_behind a code seat cached.claimed (owned_apart a code other cached.claimed owned none) ∙ owned
kept_by_claim cached seat code a other (Busy s) e owned = owned
kept_by_claim cached seat code a other NoRoom e owned = owned
