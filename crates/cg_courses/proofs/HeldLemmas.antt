-- What a seat has claimed, along deeds of its own and of others.
use Rattle.std.proofs.Common.{◌≡◌, ◌≢◌, ℕ, true, false, cond, nat_eq, List, [], ◌∷◌, refl, sym, ap, subst, ◌∙◌, ne_eqb, eq-eqb, eqb-true, Some, None, bytes_eq}
use Rattle.std.proofs.lemmas.Bool.{false_from_ne_true}
use Rattle.std.proofs.lemmas.Slice.Eq.{bytes_eq-Decides}
use Rattle.cg_cache.specs.Cached.{Cached, Answer, Hit, Mine, Busy, NoRoom, owner, unclaimed, claim_answer, after_claim}
use Rattle.cg_cache.specs.Deeds.{Deed, Claim, Publish, GiveBack, Reply, Claimed, Published, Returned, reply_of, MayDo, after_deed}
use Rattle.cg_cache.proofs.OwnerLemmas.{owner_unclaimed, mine_not_owned}
use Rattle.cg_walk.specs.Walk.{Todo, Want, Owe, Return, deed_of, turned, owed, IsReply}
use Rattle.cg_walk.proofs.WalkLemmas.{owed-wants}

-- the codes that a seat has claimed, the newest first
abbrev pub held_by : ℕ → List (List ℕ × ℕ) → List (List ℕ)
held_by seat [] = []
held_by seat (claim ∷ claims) = cond (nat_eq seat claim.1) (claim.0 ∷ held_by seat claims) (held_by seat claims)

-- no code is claimed twice
abbrev pub AreOnce : List (List ℕ × ℕ) → Type 0
AreOnce [] = Unit {0}
AreOnce (claim ∷ claims) = (owner claim.0 claims ≡ None) × AreOnce claims

held_own : (seat : ℕ) (claim : List ℕ × ℕ) (claims : List (List ℕ × ℕ)) → nat_eq seat claim.1 ≡ true → held_by seat (claim ∷ claims) ≡ claim.0 ∷ held_by seat claims
held_own seat claim claims is = rw is refl

held_other : (seat : ℕ) (claim : List ℕ × ℕ) (claims : List (List ℕ × ℕ)) → nat_eq seat claim.1 ≡ false → held_by seat (claim ∷ claims) ≡ held_by seat claims
held_other seat claim claims is = rw is refl

other_code : (a b : List ℕ) → a ≢ b → bytes_eq a b ≡ false
other_code a b ne = false_from_ne_true (bytes_eq a b) (λ e. ne ((bytes_eq-Decides a b).0 e))

owner_first : (code : List ℕ) (claim : List ℕ × ℕ) (claims : List (List ℕ × ℕ)) → bytes_eq code claim.0 ≡ true → owner code (claim ∷ claims) ≡ Some claim.1
owner_first code claim claims is = rw is refl

owner_later : (code : List ℕ) (claim : List ℕ × ℕ) (claims : List (List ℕ × ℕ)) → bytes_eq code claim.0 ≡ false → owner code (claim ∷ claims) ≡ owner code claims
owner_later code claim claims is = rw is refl

without_first : (code : List ℕ) (claim : List ℕ × ℕ) (claims : List (List ℕ × ℕ)) → bytes_eq code claim.0 ≡ true → unclaimed code (claim ∷ claims) ≡ unclaimed code claims
without_first code claim claims is = rw is refl

with_first : (code : List ℕ) (claim : List ℕ × ℕ) (claims : List (List ℕ × ℕ)) → bytes_eq code claim.0 ≡ false → unclaimed code (claim ∷ claims) ≡ claim ∷ unclaimed code claims
with_first code claim claims is = rw is refl

-- nothing ends where the code isn't claimed
none_ends : (code : List ℕ) (claims : List (List ℕ × ℕ)) → owner code claims ≡ None → unclaimed code claims ≡ claims
none_ends code [] none = refl
none_ends code (claim ∷ claims) none =
    elim (bytes_eq code claim.0) as (λ b. bytes_eq code claim.0 ≡ b → unclaimed code (claim ∷ claims) ≡ claim ∷ claims) [
      | true ↦ λ is. absurd (let both = sym none ∙ owner_first code claim claims is in cc)
      | false ↦ λ is. with_first code claim claims is ∙ ap (λ l. claim ∷ l) (none_ends code claims (sym (owner_later code claim claims is) ∙ none))
    ] refl

-- the claim at the front is the only one of its code
front_ends : (code : List ℕ) (claim : List ℕ × ℕ) (claims : List (List ℕ × ℕ)) → bytes_eq code claim.0 ≡ true → owner claim.0 claims ≡ None → unclaimed code (claim ∷ claims) ≡ claims
front_ends code claim claims is none =
    let same : code ≡ claim.0 = (bytes_eq-Decides code claim.0).0 is in
    without_first code claim claims is ∙ none_ends code claims (ap (λ c. owner c claims) same ∙ none)

once_ends : (code : List ℕ) (claims : List (List ℕ × ℕ)) → AreOnce claims → AreOnce (unclaimed code claims)
once_ends code [] once = tt
once_ends code (claim ∷ claims) once =
    let P : List (List ℕ × ℕ) → Type 0 = λ l. AreOnce l in
    elim (bytes_eq code claim.0) as (λ b. bytes_eq code claim.0 ≡ b → AreOnce (unclaimed code (claim ∷ claims))) [
      | true ↦ λ is. subst P (sym (front_ends code claim claims is once.0)) once.1
      | false ↦ λ is.
          let differ : claim.0 ≢ code = λ e. absurd (let both = sym is ∙ (bytes_eq-Decides code claim.0).1 (sym e) in cc) in
          subst P (sym (with_first code claim claims is)) (owner_unclaimed claim.0 code claims differ ∙ once.0, once_ends code claims once.1)
    ] refl

-- the end of another's claim leaves what a seat holds
other_ends : (session seat : ℕ) (code : List ℕ) (claims : List (List ℕ × ℕ)) → seat ≢ session → AreOnce claims → owner code claims ≡ Some seat → held_by session (unclaimed code claims) ≡ held_by session claims
other_ends session seat code [] ne once owned = refl
other_ends session seat code (claim ∷ claims) ne once owned =
    elim (bytes_eq code claim.0) as (λ b. bytes_eq code claim.0 ≡ b → held_by session (unclaimed code (claim ∷ claims)) ≡ held_by session (claim ∷ claims)) [
      | true ↦ λ is.
          let whose : Some claim.1 ≡ Some seat = sym (owner_first code claim claims is) ∙ owned in
          let seat_is : claim.1 ≡ seat = cc in
          let differ : session ≢ claim.1 = λ e. ne (sym (e ∙ seat_is)) in
          ap (λ l. held_by session l) (front_ends code claim claims is once.0) ∙ sym (held_other session claim claims (ne_eqb session claim.1 differ))
      | false ↦ λ is.
          ap (λ l. held_by session l) (with_first code claim claims is)
          ∙ ap (λ l. cond (nat_eq session claim.1) (claim.0 ∷ l) l) (other_ends session seat code claims ne once.1 (sym (owner_later code claim claims is) ∙ owned))
    ] refl

-- A seat owns the newest of its claims, and may end it.
pub newest_ends : (seat : ℕ) (code : List ℕ) (rest : List (List ℕ)) (claims : List (List ℕ × ℕ)) → AreOnce claims → held_by seat claims ≡ code ∷ rest → (held_by seat (unclaimed code claims) ≡ rest) × (owner code claims ≡ Some seat)
newest_ends seat code rest [] once is = absurd (cc)
newest_ends seat code rest (claim ∷ claims) once is =
    elim (nat_eq seat claim.1) as (λ b. nat_eq seat claim.1 ≡ b → (held_by seat (unclaimed code (claim ∷ claims)) ≡ rest) × (owner code (claim ∷ claims) ≡ Some seat)) [
      | true ↦ λ own.
          let both : claim.0 ∷ held_by seat claims ≡ code ∷ rest = sym (held_own seat claim claims own) ∙ is in
          let same : claim.0 ≡ code = cc in
          let tail : held_by seat claims ≡ rest = cc in
          let bytes : bytes_eq code claim.0 ≡ true = (bytes_eq-Decides code claim.0).1 (sym same) in (
            ap (λ l. held_by seat l) (front_ends code claim claims bytes once.0) ∙ tail,
            owner_first code claim claims bytes ∙ ap (λ k. Some k) (sym (eqb-true seat claim.1 own)),
          )
      | false ↦ λ other.
          let rec = newest_ends seat code rest claims once.1 (sym (held_other seat claim claims other) ∙ is) in
          let differ : code ≢ claim.0 = λ e. absurd (let both = sym once.0 ∙ ap (λ c. owner c claims) (sym e) ∙ rec.1 in cc) in
          let bytes = other_code code claim.0 differ in (
            ap (λ l. held_by seat l) (with_first code claim claims bytes) ∙ held_other seat claim (unclaimed code claims) other ∙ rec.0,
            owner_later code claim claims bytes ∙ rec.1,
          )
    ] refl

-- What a seat holds stays, whatever another seat does.
pub others_keep : (session seat : ℕ) (deed : Deed) (reply : Reply) (cached : Cached) → seat ≢ session → AreOnce cached.claimed → MayDo cached seat deed →
    held_by session (after_deed cached seat deed reply).claimed ≡ held_by session cached.claimed
others_keep session seat (Claim code) (Claimed Mine) cached ne once may =
    let differ : session ≢ seat = λ e. ne (sym e) in held_other session (code, seat) cached.claimed (ne_eqb session seat differ)
others_keep session seat (Claim code) (Claimed Hit) cached ne once may = refl
others_keep session seat (Claim code) (Claimed (Busy other)) cached ne once may = refl
others_keep session seat (Claim code) (Claimed NoRoom) cached ne once may = refl
others_keep session seat (Publish code) Published cached ne once may = other_ends session seat code cached.claimed ne once may
others_keep session seat (GiveBack code) Returned cached ne once may = other_ends session seat code cached.claimed ne once may
others_keep session seat deed reply cached ne once may = refl

-- A seat holds what its session owes, after each deed of the session too.
pub own_keeps : (seat : ℕ) (cached : Cached) (first : Todo) (todo : List Todo) (reply : Reply) → IsReply (deed_of first) reply → AreOnce cached.claimed → held_by seat cached.claimed ≡ owed (first ∷ todo) →
    held_by seat (after_deed cached seat (deed_of first) reply).claimed ≡ owed (turned first reply todo)
own_keeps seat cached (Want code parts) todo (Claimed Hit) may once is = is
own_keeps seat cached (Want code parts) todo (Claimed Mine) may once is =
    held_own seat (code, seat) cached.claimed (eq-eqb seat seat refl) ∙ ap (λ l. code ∷ l) is ∙ sym (owed-wants parts (Owe code ∷ todo))
own_keeps seat cached (Want code parts) todo (Claimed (Busy other)) may once is = is ∙ sym (owed-wants parts todo)
own_keeps seat cached (Want code parts) todo (Claimed NoRoom) may once is = is ∙ sym (owed-wants parts todo)
own_keeps seat cached (Want code parts) todo Published may once is = absurd may
own_keeps seat cached (Want code parts) todo Returned may once is = absurd may
own_keeps seat cached (Owe code) todo Published may once is = (newest_ends seat code (owed todo) cached.claimed once is).0
own_keeps seat cached (Owe code) todo (Claimed answer) may once is = absurd may
own_keeps seat cached (Owe code) todo Returned may once is = absurd may
own_keeps seat cached (Return code) todo Returned may once is = (newest_ends seat code (owed todo) cached.claimed once is).0
own_keeps seat cached (Return code) todo (Claimed answer) may once is = absurd may
own_keeps seat cached (Return code) todo Published may once is = absurd may

-- A session may do what comes next.
pub may_do_next : (seat : ℕ) (cached : Cached) (first : Todo) (todo : List Todo) → AreOnce cached.claimed → held_by seat cached.claimed ≡ owed (first ∷ todo) → MayDo cached seat (deed_of first)
may_do_next seat cached (Want code parts) todo once is = tt
may_do_next seat cached (Owe code) todo once is = (newest_ends seat code (owed todo) cached.claimed once is).1
may_do_next seat cached (Return code) todo once is = (newest_ends seat code (owed todo) cached.claimed once is).1

-- The reply to a deed is one that it may have.
pub reply_fits : (cached : Cached) (deed : Deed) → IsReply deed (reply_of cached deed)
reply_fits cached (Claim code) = tt
reply_fits cached (Publish code) = tt
reply_fits cached (GiveBack code) = tt

once_claim : (seat : ℕ) (cached : Cached) (code : List ℕ) (answer : Answer) → answer ≡ claim_answer cached code → AreOnce cached.claimed → AreOnce (after_claim cached seat code answer).claimed
once_claim seat cached code Hit is once = once
once_claim seat cached code Mine is once = (mine_not_owned cached code (sym is), once)
once_claim seat cached code (Busy other) is once = once
once_claim seat cached code NoRoom is once = once

-- No code comes to be claimed twice.
pub once_keeps : (seat : ℕ) (cached : Cached) (deed : Deed) → AreOnce cached.claimed → AreOnce (after_deed cached seat deed (reply_of cached deed)).claimed
once_keeps seat cached (Claim code) once = once_claim seat cached code (claim_answer cached code) refl once
once_keeps seat cached (Publish code) once = once_ends code cached.claimed once
once_keeps seat cached (GiveBack code) once = once_ends code cached.claimed once
