-- How many messages a print gets at most, and that each walk is done one deed at a time.
use Rattle.std.proofs.Common.{◌≡◌, ℕ, ◌+◌, ◌-◌, ◌*◌, ◌≤◌, true, false, cond, List, [], ◌∷◌, ◌++◌, refl, sym, ap, subst, ◌∙◌, arith, append_assoc}
use Rattle.std.specs.Prelude.{nat_lt}
use Rattle.cg_meaning.specs.Tree.{Dating, Tree, Leaf, Boundary, Group, Trees, none, more, count, count_all}
use Rattle.cg_model.specs.Limits.{groups_of, groups_in, IsWithinLimits}
use Rattle.cg_code.specs.Content.{Content, Row}
use Rattle.cg_cache.specs.Cached.{Answer, Hit, Mine, Busy, NoRoom}
use Rattle.cg_cache.specs.Deeds.{Claim, Publish, Claimed, Published}
use Rattle.cg_walk.specs.Gets.{Gets, no_more, get, is_weighed, row_gets, node_gets, member_gets, beside_gets, way_gets, member_way_gets, print_gets}
use Rattle.cg_walk.specs.Walk.{Todo, Want, Owe, wants, weight_of, Step, Runs, Makes, Follow, IsWalk}

row_most : (code : Content → List ℕ) (d : Dating) (others : Gets) → weight_of (row_gets code d others) ≤ 2 + weight_of others
row_most code d others =
    elim (is_weighed d) as (λ b. weight_of (cond b (get (code (Row d)) no_more others) others) ≤ 2 + weight_of others) [ true ↦ omega arith | false ↦ omega arith ]

mutual
  node_most : (code : Content → List ℕ) (t : Tree) (others : Gets) → weight_of (node_gets code t others) ≤ 2 * (count t + groups_of t) + weight_of others
  node_most code (Leaf name d) others = omega (arith, row_most code d others)
  node_most code (Boundary name) others = omega arith
  node_most code (Group kind name ts) others = omega (arith, members_most code ts no_more)

  members_most : (code : Content → List ℕ) (ts : Trees) (others : Gets) → weight_of (member_gets code ts others) ≤ 2 * (count_all ts + groups_in ts) + weight_of others
  members_most code none others = omega arith
  members_most code (more t ts) others = omega (arith, node_most code t (member_gets code ts others), members_most code ts others)

-- the size of the member that an event is in
holder : ℕ → Trees → ℕ
holder event none = 0
holder event (more t ts) = cond (nat_lt event (count t)) (count t + groups_of t) (holder (event - count t) ts)

beside_most : (code : Content → List ℕ) (event : ℕ) (ts : Trees) (others : Gets) → weight_of (beside_gets code event ts others) + 2 * holder event ts ≤ 2 * (count_all ts + groups_in ts) + weight_of others
unfolding holder
beside_most code event none others = omega arith
beside_most code event (more t ts) others =
    let later = event - count t in
    let rest = beside_most code later ts others in
    elim (nat_lt event (count t)) as (λ b. weight_of (cond b (member_gets code ts others) (node_gets code t (beside_gets code later ts others))) + 2 * cond b (count t + groups_of t) (holder later ts)
    ≤ 2 * (count_all (more t ts) + groups_in (more t ts)) + weight_of others) [
      | true ↦ omega (arith, members_most code ts others)
      | false ↦ omega (arith, node_most code t (beside_gets code later ts others), rest)
    ]

mutual
  unfolding holder

  way_most : (code : Content → List ℕ) (event : ℕ) (t : Tree) (others : Gets) → weight_of (way_gets code event t others) ≤ 2 * (count t + groups_of t) + weight_of others
  way_most code event (Leaf name d) others = omega (arith, row_most code d others)
  way_most code event (Boundary name) others = omega arith
  way_most code event (Group kind name ts) others = omega (arith, beside_most code event ts (member_way_gets code event ts others), member_way_most code event ts others)

  member_way_most : (code : Content → List ℕ) (event : ℕ) (ts : Trees) (others : Gets) → weight_of (member_way_gets code event ts others) ≤ 2 * holder event ts + weight_of others
  member_way_most code event none others = omega arith
  member_way_most code event (more t ts) others =
      let later = event - count t in
      let first = way_most code event t others in
      let rest = member_way_most code later ts others in
      elim (nat_lt event (count t)) as (λ b. weight_of (cond b (way_gets code event t others) (member_way_gets code later ts others)) ≤ 2 * cond b (count t + groups_of t) (holder later ts) + weight_of others) [
        | true ↦ first
        | false ↦ rest
      ]

-- A print makes at most 322 deeds: it gets at most 161 messages.
pub print_most : (code : Content → List ℕ) (ts : Trees) (event : ℕ) → IsWithinLimits ts → weight_of (print_gets code ts event) ≤ 322
print_most code ts event within =
    let events = within.events in let groups = within.groups in
    omega (arith, events, groups, beside_most code event ts (member_way_gets code event ts no_more), member_way_most code event ts no_more)

-- A walk is done one deed at a time.
WalkRuns : Gets → Type 0
WalkRuns gets = (steps behind : List Step) (todo end : List Todo) → IsWalk gets steps → Runs todo behind end → Runs (wants gets todo) (steps ++ behind) end

made_runs : (code : List ℕ) (parts others : Gets) (rest behind : List Step) (todo end : List Todo) → WalkRuns parts → WalkRuns others → Makes (λ l. IsWalk parts l) (λ l. IsWalk others l) rest → Runs todo behind end → Runs (wants parts (wants others todo)) (rest ++ behind) end
unfolding WalkRuns
made_runs code parts others rest behind todo end ps os follow runs =
    let R : List Step → Type 0 = λ l. Runs (wants parts (wants others todo)) l end in
    subst R (sym (ap (λ l. l ++ behind) follow.all ∙ append_assoc follow.first follow.later behind))
    (ps follow.first (follow.later ++ behind) (wants others todo) end follow.made (os follow.later behind todo end follow.gone runs))

follow_runs : (code : List ℕ) (parts others : Gets) (answer : Answer) (rest behind : List Step) (todo end : List Todo) → WalkRuns parts → WalkRuns others → Follow code answer (λ l. IsWalk parts l) (λ l. IsWalk others l) rest → Runs todo behind end →
    Runs (Want code parts ∷ wants others todo) (record { deed = Claim code; reply = Claimed answer } ∷ (rest ++ behind)) end
unfolding WalkRuns
follow_runs code parts others Hit rest behind todo end ps os follow runs = (refl, tt, os rest behind todo end follow runs)
follow_runs code parts others Mine rest behind todo end ps os follow runs =
    let own : Step = record { deed = Publish code; reply = Published } in
    let later = os follow.later behind todo end follow.gone runs in
    let owed : Runs (Owe code ∷ wants others todo) (own ∷ (follow.later ++ behind)) end = (refl, tt, later) in
    let all : rest ++ behind ≡ follow.first ++ (own ∷ (follow.later ++ behind)) = ap (λ l. l ++ behind) follow.all ∙ append_assoc follow.first (own ∷ follow.later) behind in
    let R : List Step → Type 0 = λ l. Runs (wants parts (Owe code ∷ wants others todo)) l end in
    (refl, tt, subst R (sym all) (ps follow.first (own ∷ (follow.later ++ behind)) (Owe code ∷ wants others todo) end follow.made owed))
follow_runs code parts others (Busy seat) rest behind todo end ps os follow runs = (refl, tt, made_runs code parts others rest behind todo end ps os follow runs)
follow_runs code parts others NoRoom rest behind todo end ps os follow runs = (refl, tt, made_runs code parts others rest behind todo end ps os follow runs)

walks_run : (gets : Gets) → WalkRuns gets
unfolding WalkRuns
walks_run no_more = λ steps behind todo end walk runs. let R : List Step → Type 0 = λ l. Runs todo (l ++ behind) end in subst R (sym walk) runs
walks_run (get code parts others) = λ steps behind todo end walk runs.
    let R : List Step → Type 0 = λ l. Runs (Want code parts ∷ wants others todo) (l ++ behind) end in
    subst R (sym walk.claim) (follow_runs code parts others walk.answer walk.rest behind todo end (walks_run parts) (walks_run others) walk.follow runs)

-- The steps of a print are its walk, and no others are.
pub walk_runs : (gets : Gets) (steps : List Step) → IsWalk gets steps → Runs (wants gets []) (steps ++ []) []
unfolding WalkRuns
walk_runs gets steps walk = walks_run gets steps [] [] [] walk refl
