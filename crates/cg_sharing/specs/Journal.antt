-- The journal of all events of the book, and what makes it legal. chron's own.
use Rattle.std.specs.Prelude.{◌≡◌, ◌≢◌, ℕ, ◌<◌, nat_lt, nat_eq, List, [], ◌∷◌, Option, Some, None, Result, Ok, Err, if◌then◌else◌}
use Rattle.std.specs.List.{All}
use Rattle.cg_meaning.specs.Tree.{Name, Trees, datings_of}
use Rattle.cg_model.specs.Limits.{IsInRange}
use Rattle.cg_sharing.specs.Edit.{Edit, Set, Add, InsertBefore, Drop, Rename, EditFault, result_of}
use Rattle.cg_cache.specs.Cached.{Cached}
use Rattle.cg_cache.specs.Deeds.{Deed, Reply, empty_of, reply_of, MayDo, after_deed}
use Rattle.cg_sharing.specs.Versions.{State, StartModel, start_of, count_of, head_of, with_head, parent_of, chronology_of, with_version}

-- what a session asks of the book, versions being named by their numbers: of the versions, and of the cache
pub data Act : Type 0 where
  Head : Name → Act
  Take : ℕ → Act
  Undo : ℕ → Act
  Change : ℕ → Edit → Act
  Commit : Name → Option ℕ → ℕ → Act
  Do : Deed → Act

-- what the book answers
pub data Answer : Type 0 where
  At : ℕ → Answer
  Made : ℕ → Answer
  Committed : ℕ → Answer
  NoModel : Answer
  NoVersion : ℕ → Answer
  NoParent : Answer
  Refused : EditFault → Answer
  Moved : ℕ → Answer
  Told : Reply → Answer

pub record Entry : Type 0 where
  pub seat : ℕ
  pub act : Act
  pub answer : Answer

abbrev pub at_or : Answer → Option ℕ → Answer
at_or other None = other
at_or other (Some version) = At version

abbrev pub made_or : ℕ → Result Trees EditFault → Answer
made_or number (Ok top) = Made number
made_or number (Err fault) = Refused fault

abbrev pub is_base : Option ℕ → ℕ → Answer → Answer
is_base None head right = Moved head
is_base (Some base) head right = if nat_eq base head then right else Moved head

abbrev pub committed_or : Option ℕ → ℕ → Option ℕ → Answer
committed_or base version None = NoModel
committed_or base version (Some head) = is_base base head (Committed version)

-- What the sessions share: the versions, and the cache.
pub record Shared : Type 0 where
  pub state : State
  pub cached : Cached

-- at the start: the models' versions, and an empty cache of this capacity
abbrev pub shared_of : List StartModel → ℕ → Shared
shared_of models capacity = record { state = start_of models; cached = empty_of capacity }

-- the answer to an act: a commit is refused where the head isn't its base
abbrev pub answer_of : Shared → Act → Answer
answer_of shared (Head name) = at_or NoModel (head_of name shared.state.heads)
answer_of shared (Take version) =
    if nat_lt version (count_of shared.state) then At version else NoVersion (count_of shared.state)
answer_of shared (Undo version) = at_or NoParent (parent_of shared.state version)
answer_of shared (Change version edit) =
    made_or (count_of shared.state) (result_of edit (chronology_of shared.state version).top)
answer_of shared (Commit name base version) = committed_or base version (head_of name shared.state.heads)
answer_of shared (Do deed) = Told (reply_of shared.cached deed)

-- a further version where a change made one
abbrev pub with_result : ℕ → Result Trees EditFault → State → State
with_result parent (Ok top) state = with_version parent top state
with_result parent (Err fault) state = state

-- the state after an act that was answered so: a change that made a version, and a commit that set a head
abbrev pub changed_by : Act → Answer → State → State
changed_by (Change version edit) (Made number) state = with_result version (result_of edit (chronology_of state version).top) state
changed_by (Commit name base version) (Committed number) state = record state { heads = with_head name version state.heads }
changed_by act answer state = state

abbrev pub after : State → Entry → State
after state entry = changed_by entry.act entry.answer state

-- the state after a list of entries
abbrev pub state_after : State → List Entry → State
state_after state [] = state
state_after state (entry ∷ entries) = state_after (after state entry) entries

-- the cache after an act of a seat that was answered so
abbrev pub cached_by : ℕ → Act → Answer → Cached → Cached
cached_by seat (Do deed) (Told reply) cached = after_deed cached seat deed reply
cached_by seat act answer cached = cached

-- what is shared after an entry
abbrev pub shared_by : Shared → Entry → Shared
shared_by shared entry = record {
  state = after shared.state entry;
  cached = cached_by entry.seat entry.act entry.answer shared.cached;
}

-- and after a list of entries
abbrev pub shared_after : Shared → List Entry → Shared
shared_after shared [] = shared
shared_after shared (entry ∷ entries) = shared_after (shared_by shared entry) entries

-- the values that a change brings are in their ranges, and its name isn't empty
abbrev pub IsInOrder : Edit → Type 0
IsInOrder (Set name dating) = (name ≢ []) × IsInRange dating
IsInOrder (Add name node) = (name ≢ []) × All IsInRange (datings_of node)
IsInOrder (InsertBefore name node) = (name ≢ []) × All IsInRange (datings_of node)
IsInOrder (Drop name) = name ≢ []
IsInOrder (Rename name new) = name ≢ []

-- each version number of an act that is no question is known, its change is in order, and a claim that it closes is its own
-- seat's
abbrev pub May : Shared → ℕ → Act → Type 0
May shared seat (Head name) = Unit {0}
May shared seat (Take version) = Unit {0}
May shared seat (Undo version) = version < count_of shared.state
May shared seat (Change version edit) = (version < count_of shared.state) × IsInOrder edit
May shared seat (Commit name None version) = version < count_of shared.state
May shared seat (Commit name (Some base) version) = (base < count_of shared.state) × (version < count_of shared.state)
May shared seat (Do deed) = MayDo shared.cached seat deed

-- each answer is the one that the start and the entries before it give
abbrev pub IsLegal : Shared → List Entry → Type 0
IsLegal shared [] = Unit {0}
IsLegal shared (entry ∷ entries) =
    May shared entry.seat entry.act × (entry.answer ≡ answer_of shared entry.act) × IsLegal (shared_by shared entry) entries
