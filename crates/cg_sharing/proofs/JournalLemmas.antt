-- A journal in two parts, and the numbers of versions after its entries.
use Rattle.std.proofs.Common.{◌≡◌, ℕ, zero, suc, ◌+◌, ◌<◌, ◌≤◌, true, false, cond, List, [], ◌∷◌, ◌++◌, map, length, refl, ap, arith, le_refl, le_trans, length-append, Option, Some, None, Result, Ok, Err}
use Rattle.std.specs.Prelude.{slice_get, bytes_eq}
use Rattle.cg_meaning.specs.Tree.{Name, Trees}
use Rattle.cg_sharing.specs.Edit.{EditFault, result_of}
use Rattle.cg_sharing.specs.Versions.{Version, Head, State, StartModel, heads_from, start_of, count_of, head_of, with_head, parent_at, chronology_of, with_version}
use Rattle.cg_sharing.specs.Journal.{Act, Change, Commit, Answer, Made, Committed, Entry, Shared, with_result, changed_by, after, state_after, shared_by, shared_after, May, IsLegal}

-- the state after two lists of entries
pub state_after-append : (state : State) (xs ys : List Entry) → state_after state (xs ++ ys) ≡ state_after (state_after state xs) ys
state_after-append state [] ys = refl
state_after-append state (x ∷ xs) ys = state_after-append (after state x) xs ys

-- what is shared after two lists of entries
pub shared_after-append : (shared : Shared) (xs ys : List Entry) → shared_after shared (xs ++ ys) ≡ shared_after (shared_after shared xs) ys
shared_after-append shared [] ys = refl
shared_after-append shared (x ∷ xs) ys = shared_after-append (shared_by shared x) xs ys

-- the versions go their own way
pub state-shared_after : (shared : Shared) (xs : List Entry) → (shared_after shared xs).state ≡ state_after shared.state xs
state-shared_after shared [] = refl
state-shared_after shared (x ∷ xs) = state-shared_after (shared_by shared x) xs

-- a legal journal goes on
pub IsLegal-append : (shared : Shared) (xs ys : List Entry) → IsLegal shared xs → IsLegal (shared_after shared xs) ys → IsLegal shared (xs ++ ys)
IsLegal-append shared [] ys first then = then
IsLegal-append shared (x ∷ xs) ys first then = (first.0, first.1, IsLegal-append (shared_by shared x) xs ys first.2 then)

-- its first entries are legal
pub IsLegal-front : (shared : Shared) (xs ys : List Entry) → IsLegal shared (xs ++ ys) → IsLegal shared xs
IsLegal-front shared [] ys legal = tt
IsLegal-front shared (x ∷ xs) ys legal = (legal.0, legal.1, IsLegal-front (shared_by shared x) xs ys legal.2)

-- a version that may be missing is below a count
abbrev pub IsBelow : ℕ → Option ℕ → Type 0
IsBelow count None = Unit {0}
IsBelow count (Some version) = version < count

-- the versions of heads are
abbrev pub AreBelow : ℕ → List Head → Type 0
AreBelow count [] = Unit {0}
AreBelow count (head ∷ heads) = (head.version < count) × AreBelow count heads

-- and so are the parents of versions
abbrev pub HaveParents : ℕ → List Version → Type 0
HaveParents count [] = Unit {0}
HaveParents count (version ∷ versions) = IsBelow count version.parent × HaveParents count versions

-- the versions that a state speaks of are among its own
pub record IsClosed (state : State) : Type 0 where
  pub heads : AreBelow (count_of state) state.heads
  pub parents : HaveParents (count_of state) state.versions

pub IsBelow-more : {m n : ℕ} → m ≤ n → (version : Option ℕ) → IsBelow m version → IsBelow n version
IsBelow-more le None below = tt
IsBelow-more le (Some version) below = omega arith

pub AreBelow-more : {m n : ℕ} → m ≤ n → (heads : List Head) → AreBelow m heads → AreBelow n heads
AreBelow-more le [] below = tt
AreBelow-more le (head ∷ heads) below = (omega arith, AreBelow-more le heads below.1)

HaveParents-more : {m n : ℕ} → m ≤ n → (versions : List Version) → HaveParents m versions → HaveParents n versions
HaveParents-more le [] below = tt
HaveParents-more le (version ∷ versions) below = (IsBelow-more le version.parent below.0, HaveParents-more le versions below.1)

HaveParents-append : (count : ℕ) (versions : List Version) (version : Version) → HaveParents count versions → IsBelow count version.parent → HaveParents count (versions ++ version ∷ [])
HaveParents-append count [] version below own = (own, tt)
HaveParents-append count (v ∷ vs) version below own = (below.0, HaveParents-append count vs version below.1 own)

-- the head of a name is below
pub head_of-below : (count : ℕ) (name : Name) (heads : List Head) → AreBelow count heads → IsBelow count (head_of name heads)
head_of-below count name [] below = tt
head_of-below count name (head ∷ heads) below =
    elim (bytes_eq name head.name) as (λ b. IsBelow count (cond b (Some head.version) (head_of name heads))) [ true ↦ below.0 | false ↦ head_of-below count name heads below.1 ]

-- and so is the parent of a version
pub parent_of-below : (count : ℕ) (versions : List Version) (number : ℕ) → HaveParents count versions → IsBelow count (parent_at (slice_get versions number))
parent_of-below count [] number below = tt
parent_of-below count (version ∷ versions) zero below = below.0
parent_of-below count (version ∷ versions) (suc number) below = parent_of-below count versions number below.1

with_head-below : (count : ℕ) (name : Name) (version : ℕ) (heads : List Head) → version < count → AreBelow count heads → AreBelow count (with_head name version heads)
with_head-below count name version [] own below = tt
with_head-below count name version (head ∷ heads) own below =
    elim (bytes_eq name head.name) as (λ b. AreBelow count (cond b (record head { version = version } ∷ heads) (head ∷ with_head name version heads))) [
      | true ↦ (own, below.1)
      | false ↦ (below.0, with_head-below count name version heads own below.1)
    ]

heads_from-below : (count number : ℕ) (models : List StartModel) → number + length models ≤ count → AreBelow count (heads_from number models)
heads_from-below count number [] le = tt
heads_from-below count number (model ∷ models) le = (omega arith, heads_from-below count (number + 1) models (omega arith))

start-parents : (count : ℕ) (models : List StartModel) → HaveParents count (map (λ model. record { parent = None; chronology = model.chronology }) models)
start-parents count [] = tt
start-parents count (model ∷ models) = (tt, start-parents count models)

length-versions : (models : List StartModel) → length (map {A = StartModel} {B = Version} (λ model. record { parent = None; chronology = model.chronology }) models) ≡ length models
length-versions [] = refl
length-versions (model ∷ models) = ap (λ n. suc n) (length-versions models)

-- the state at the start is closed
pub start-closed : (models : List StartModel) → IsClosed (start_of models)
start-closed models = record {
  heads = heads_from-below (count_of (start_of models)) 0 models (omega (arith, length-versions models));
  parents = start-parents (count_of (start_of models)) models;
}

-- a further version is one more
pub count_of-with_version : (parent : ℕ) (top : Trees) (state : State) → count_of (with_version parent top state) ≡ count_of state + 1
count_of-with_version parent top state = length-append state.versions (record { parent = Some parent; chronology = record (chronology_of state parent) { top = top } } ∷ [])

grows-with_result : (parent : ℕ) (result : Result Trees EditFault) (state : State) → count_of state ≤ count_of (with_result parent result state)
grows-with_result parent (Ok top) state = omega (arith, count_of-with_version parent top state)
grows-with_result parent (Err fault) state = omega arith

-- no act takes a version away
pub grows-changed_by : (act : Act) (answer : Answer) (state : State) → count_of state ≤ count_of (changed_by act answer state)
grows-changed_by (Change version edit) (Made number) state = grows-with_result version (result_of edit (chronology_of state version).top) state
grows-changed_by (Commit name base version) (Committed number) state = omega arith
grows-changed_by act answer state = le_refl (count_of state)

closed-with_result : (parent : ℕ) (result : Result Trees EditFault) (state : State) → parent < count_of state → IsClosed state → IsClosed (with_result parent result state)
closed-with_result parent (Err fault) state known closed = closed
closed-with_result parent (Ok top) state known closed =
    let new : Version = record { parent = Some parent; chronology = record (chronology_of state parent) { top = top } } in
    let more : count_of state ≤ count_of (with_version parent top state) = omega (arith, count_of-with_version parent top state) in
    record {
      heads = AreBelow-more more state.heads closed.heads;
      parents = HaveParents-append (count_of (with_version parent top state)) state.versions new (HaveParents-more more state.versions closed.parents) (omega arith);
    }

-- a commit's version is known
pub commit-known : (shared : Shared) (seat : ℕ) (name : Name) (base : Option ℕ) (version : ℕ) → May shared seat (Commit name base version) → version < count_of shared.state
commit-known shared seat name None version may = may
commit-known shared seat name (Some base) version may = may.1

-- a state stays closed
pub closed-changed_by : (seat : ℕ) (act : Act) (answer : Answer) (shared : Shared) → May shared seat act → IsClosed shared.state → IsClosed (changed_by act answer shared.state)
closed-changed_by seat (Change version edit) (Made number) shared may closed =
    closed-with_result version (result_of edit (chronology_of shared.state version).top) shared.state may.0 closed
closed-changed_by seat (Commit name base version) (Committed number) shared may closed = record {
  heads = with_head-below (count_of shared.state) name version shared.state.heads (commit-known shared seat name base version may) closed.heads;
  parents = closed.parents;
}
closed-changed_by seat act answer shared may closed = closed

-- after a legal journal too
pub closed-after : (shared : Shared) (entries : List Entry) → IsLegal shared entries → IsClosed shared.state → IsClosed (state_after shared.state entries)
closed-after shared [] legal closed = closed
closed-after shared (entry ∷ entries) legal closed =
    closed-after (shared_by shared entry) entries legal.2 (closed-changed_by entry.seat entry.act entry.answer shared legal.0 closed)

-- no entry takes a version away
pub grows-state_after : (state : State) (entries : List Entry) → count_of state ≤ count_of (state_after state entries)
grows-state_after state [] = omega arith
grows-state_after state (entry ∷ entries) = le_trans (grows-changed_by entry.act entry.answer state) (grows-state_after (after state entry) entries)
