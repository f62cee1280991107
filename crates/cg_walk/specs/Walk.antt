-- The deeds of one print, by what it is told. chron's own.
use Rattle.std.specs.Prelude.{◌≡◌, ℕ, ◌+◌, List, [], ◌∷◌, ◌++◌, map}
use Rattle.cg_cache.specs.Cached.{Answer, Hit, Mine, Busy, NoRoom}
use Rattle.cg_cache.specs.Deeds.{Deed, Claim, Publish, GiveBack, Reply, Claimed, Published, Returned}
use Rattle.cg_walk.specs.Gets.{Gets, no_more, get}

-- What a session has still to do with messages: to get one and those that it takes, to publish one that it made, or to
-- give a claim back.
pub data Todo : Type 0 where
  Want : List ℕ → Gets → Todo
  Owe : List ℕ → Todo
  Return : List ℕ → Todo

abbrev pub deed_of : Todo → Deed
deed_of (Want code parts) = Claim code
deed_of (Owe code) = Publish code
deed_of (Return code) = GiveBack code

-- messages to be got, before all else
abbrev pub wants : Gets → List Todo → List Todo
wants no_more todo = todo
wants (get code parts others) todo = Want code parts ∷ wants others todo

-- what is to be done once the first is done and this was told of it, the others being these: a hit is the whole get
abbrev pub turned : Todo → Reply → List Todo → List Todo
turned (Want code parts) (Claimed Hit) todo = todo
turned (Want code parts) (Claimed Mine) todo = wants parts (Owe code ∷ todo)
turned (Want code parts) other todo = wants parts todo
turned (Owe code) reply todo = todo
turned (Return code) reply todo = todo

-- the codes of the claims that are held, the newest first
abbrev pub owed : List Todo → List (List ℕ)
owed [] = []
owed (Want code parts ∷ todo) = owed todo
owed (Owe code ∷ todo) = code ∷ owed todo
owed (Return code ∷ todo) = code ∷ owed todo

-- a session that is stopped gives them back, the newest first
abbrev pub returns : List Todo → List Todo
returns todo = map (λ code. Return code) (owed todo)

-- at most so many deeds
abbrev pub weight_of : Gets → ℕ
weight_of no_more = 0
weight_of (get code parts others) = 2 + (weight_of parts + weight_of others)

abbrev pub weight : List Todo → ℕ
weight [] = 0
weight (Want code parts ∷ todo) = 2 + (weight_of parts + weight todo)
weight (Owe code ∷ todo) = 1 + weight todo
weight (Return code ∷ todo) = 1 + weight todo

-- a deed, and what was told of it
pub record Step : Type 0 where
  pub deed : Deed
  pub reply : Reply

-- what may be told of a deed
abbrev pub IsReply : Deed → Reply → Type 0
IsReply (Claim code) (Claimed answer) = Unit {0}
IsReply (Publish code) Published = Unit {0}
IsReply (GiveBack code) Returned = Unit {0}
IsReply deed reply = ⊥

-- steps, one at a time, from what is to be done to what is left
abbrev pub Runs : List Todo → List Step → List Todo → Type 0
Runs todo [] end = todo ≡ end
Runs [] (step ∷ steps) end = ⊥
Runs (first ∷ todo) (step ∷ steps) end =
    (step.deed ≡ deed_of first) × IsReply step.deed step.reply × Runs (turned first step.reply todo) steps end

-- Steps that get the parts of a message, and then the other messages.
pub record Makes (parts others : List Step → Type 0) (steps : List Step) : Type 0 where
  pub first : List Step
  pub later : List Step
  pub made : parts first
  pub gone : others later
  pub all : steps ≡ first ++ later

-- Steps that get the parts of a message, publish it, and then get the other messages.
pub record MakesOwn (code : List ℕ) (parts others : List Step → Type 0) (steps : List Step) : Type 0 where
  pub first : List Step
  pub later : List Step
  pub made : parts first
  pub gone : others later
  pub all : steps ≡ first ++ (record { deed = Publish code; reply = Published } ∷ later)

-- what follows the answer to a claim: a hit is the whole get, and what is one's own is published once its parts are there
abbrev pub Follow : List ℕ → Answer → (List Step → Type 0) → (List Step → Type 0) → List Step → Type 0
Follow code Hit parts others steps = others steps
Follow code Mine parts others steps = MakesOwn code parts others steps
Follow code (Busy seat) parts others steps = Makes parts others steps
Follow code NoRoom parts others steps = Makes parts others steps

-- The claim of a code, and what follows it.
pub record Claims (code : List ℕ) (parts others : List Step → Type 0) (steps : List Step) : Type 0 where
  pub answer : Answer
  pub rest : List Step
  pub claim : steps ≡ record { deed = Claim code; reply = Claimed answer } ∷ rest
  pub follow : Follow code answer parts others rest

-- these steps, and no others, get the messages
abbrev pub IsWalk : Gets → List Step → Type 0
IsWalk no_more steps = steps ≡ []
IsWalk (get code parts others) steps = Claims code (λ first. IsWalk parts first) (λ later. IsWalk others later) steps
