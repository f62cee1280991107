-- What is done one deed at a time is a walk, and each deed leaves less to be done.
use Rattle.std.proofs.Common.{◌≡◌, ℕ, ◌+◌, ◌<◌, List, [], ◌∷◌, ◌++◌, refl, sym, ap, subst, ◌∙◌, arith, append_assoc, append-nil}
use Rattle.cg_cache.specs.Cached.{Answer, Hit, Mine, Busy, NoRoom}
use Rattle.cg_cache.specs.Deeds.{Deed, Claim, Publish, Reply, Claimed, Published, Returned}
use Rattle.cg_walk.specs.Gets.{Gets, no_more, get}
use Rattle.cg_walk.specs.Walk.{Todo, Want, Owe, Return, wants, turned, owed, returns, weight_of, weight, Step, IsReply, Runs, Makes, Follow, IsWalk}

pub weight-wants : (gets : Gets) (todo : List Todo) → weight (wants gets todo) ≡ weight_of gets + weight todo
weight-wants no_more todo = omega arith
weight-wants (get code parts others) todo = omega (arith, weight-wants others todo)

-- each deed leaves less
pub weight-turned : (first : Todo) (reply : Reply) (todo : List Todo) → weight (turned first reply todo) < weight (first ∷ todo)
weight-turned (Want code parts) (Claimed Hit) todo = omega arith
weight-turned (Want code parts) (Claimed Mine) todo = omega (arith, weight-wants parts (Owe code ∷ todo))
weight-turned (Want code parts) (Claimed (Busy seat)) todo = omega (arith, weight-wants parts todo)
weight-turned (Want code parts) (Claimed NoRoom) todo = omega (arith, weight-wants parts todo)
weight-turned (Want code parts) Published todo = omega (arith, weight-wants parts todo)
weight-turned (Want code parts) Returned todo = omega (arith, weight-wants parts todo)
weight-turned (Owe code) reply todo = omega arith
weight-turned (Return code) reply todo = omega arith

-- what is wanted isn't owed
pub owed-wants : (gets : Gets) (todo : List Todo) → owed (wants gets todo) ≡ owed todo
owed-wants no_more todo = refl
owed-wants (get code parts others) todo = owed-wants others todo

-- all that is owed is given back
pub owed-returns : (todo : List Todo) → owed (returns todo) ≡ owed todo
owed-returns [] = refl
owed-returns (Want code parts ∷ todo) = owed-returns todo
owed-returns (Owe code ∷ todo) = ap (λ l. code ∷ l) (owed-returns todo)
owed-returns (Return code ∷ todo) = ap (λ l. code ∷ l) (owed-returns todo)

-- The first steps get messages, and the others do the rest.
record Splits (gets : Gets) (todo : List Todo) (steps : List Step) : Type 0 where
  first : List Step
  later : List Step
  walk : IsWalk gets first
  rest : Runs todo later []
  all : steps ≡ first ++ later

step_is : (step : Step) (deed : Deed) (reply : Reply) → step.deed ≡ deed → step.reply ≡ reply → step ≡ record { deed = deed; reply = reply }
step_is step deed reply d r = ap (λ x. record { deed = x; reply = step.reply }) d ∙ ap (λ x. record { deed = deed; reply = x }) r

SplitAll : Gets → Type 0
SplitAll gets = (todo : List Todo) (steps : List Step) → Runs (wants gets todo) steps [] → Splits gets todo steps

split_hit : (code : List ℕ) (parts others : Gets) (todo : List Todo) (step : Step) (steps : List Step) → step.deed ≡ Claim code → step.reply ≡ Claimed Hit → SplitAll others → Runs (wants others todo) steps [] → Splits (get code parts others) todo (step ∷ steps)
unfolding SplitAll
split_hit code parts others todo step steps d r rec runs =
    let more = rec todo steps runs in record {
      first = step ∷ more.first;
      later = more.later;
      walk = record { answer = Hit; rest = more.first; claim = ap (λ s. s ∷ more.first) (step_is step (Claim code) (Claimed Hit) d r); follow = more.walk };
      rest = more.rest;
      all = ap (λ l. step ∷ l) more.all;
    }

-- a message that isn't claimed is made of its parts
made_by : (code : List ℕ) (parts others : Gets) (todo : List Todo) (steps : List Step) → SplitAll parts → SplitAll others → Runs (wants parts (wants others todo)) steps [] →
    (first : List Step) × (later : List Step) × Makes (λ l. IsWalk parts l) (λ l. IsWalk others l) first × Runs todo later [] × (steps ≡ first ++ later)
unfolding SplitAll
made_by code parts others todo steps rec more runs =
    let a = rec (wants others todo) steps runs in
    let b = more todo a.later a.rest in (
      a.first ++ b.first,
      b.later,
      record { first = a.first; later = b.first; made = a.walk; gone = b.walk; all = refl },
      b.rest,
      a.all ∙ ap (λ l. a.first ++ l) b.all ∙ sym (append_assoc a.first b.first b.later),
    )

split_made : (code : List ℕ) (parts others : Gets) (todo : List Todo) (step : Step) (steps : List Step) (answer : Answer) → ((l : List Step) → Makes (λ x. IsWalk parts x) (λ x. IsWalk others x) l → Follow code answer (λ x. IsWalk parts x) (λ x. IsWalk others x) l) →
    step.deed ≡ Claim code → step.reply ≡ Claimed answer → SplitAll parts → SplitAll others → Runs (wants parts (wants others todo)) steps [] → Splits (get code parts others) todo (step ∷ steps)
split_made code parts others todo step steps answer follow d r rec more runs =
    let m = made_by code parts others todo steps rec more runs in record {
      first = step ∷ m.0;
      later = m.1;
      walk = record { answer = answer; rest = m.0; claim = ap (λ s. s ∷ m.0) (step_is step (Claim code) (Claimed answer) d r); follow = follow m.0 m.2 };
      rest = m.3;
      all = ap (λ l. step ∷ l) m.4;
    }

published : (code : List ℕ) (reply : Reply) → IsReply (Publish code) reply → reply ≡ Published
published code (Claimed answer) may = absurd may
published code Published may = refl
published code Returned may = absurd may

split_owe : (code : List ℕ) (parts others : Gets) (todo : List Todo) (step : Step) (front steps : List Step) → step.deed ≡ Claim code → step.reply ≡ Claimed Mine → IsWalk parts front → SplitAll others → Runs (Owe code ∷ wants others todo) steps [] →
    Splits (get code parts others) todo (step ∷ (front ++ steps))
unfolding SplitAll
split_owe code parts others todo step front [] d r made more runs = absurd (cc)
split_owe code parts others todo step front (s ∷ steps) d r made more runs =
    let b = more todo steps runs.2 in
    let P : Deed → Type 0 = λ x. IsReply x s.reply in
    let own = step_is s (Publish code) Published runs.0 (published code s.reply (subst P runs.0 runs.1)) in
    let first = front ++ (s ∷ b.first) in record {
      first = step ∷ first;
      later = b.later;
      walk = record {
        answer = Mine;
        rest = first;
        claim = ap (λ x. x ∷ first) (step_is step (Claim code) (Claimed Mine) d r);
        follow = record { first = front; later = b.first; made = made; gone = b.walk; all = ap (λ x. front ++ (x ∷ b.first)) own };
      };
      rest = b.rest;
      all = ap (λ l. step ∷ (front ++ (s ∷ l))) b.all ∙ ap (λ l. step ∷ l) (sym (append_assoc front (s ∷ b.first) b.later));
    }

split_mine : (code : List ℕ) (parts others : Gets) (todo : List Todo) (step : Step) (steps : List Step) → step.deed ≡ Claim code → step.reply ≡ Claimed Mine → SplitAll parts → SplitAll others → Runs (wants parts (Owe code ∷ wants others todo)) steps [] →
    Splits (get code parts others) todo (step ∷ steps)
unfolding SplitAll
split_mine code parts others todo step steps d r rec more runs =
    let a = rec (Owe code ∷ wants others todo) steps runs in
    let P : List Step → Type 0 = λ l. Splits (get code parts others) todo (step ∷ l) in
    subst P (sym a.all) (split_owe code parts others todo step a.first a.later d r a.walk more a.rest)

split_claim : (code : List ℕ) (parts others : Gets) (todo : List Todo) (step : Step) (steps : List Step) (reply : Reply) → step.deed ≡ Claim code → step.reply ≡ reply → IsReply (Claim code) reply → SplitAll parts → SplitAll others →
    Runs (turned (Want code parts) reply (wants others todo)) steps [] → Splits (get code parts others) todo (step ∷ steps)
split_claim code parts others todo step steps (Claimed Hit) d r may rec more runs = split_hit code parts others todo step steps d r more runs
split_claim code parts others todo step steps (Claimed Mine) d r may rec more runs = split_mine code parts others todo step steps d r rec more runs
split_claim code parts others todo step steps (Claimed (Busy seat)) d r may rec more runs = split_made code parts others todo step steps (Busy seat) (λ l m. m) d r rec more runs
split_claim code parts others todo step steps (Claimed NoRoom) d r may rec more runs = split_made code parts others todo step steps NoRoom (λ l m. m) d r rec more runs
split_claim code parts others todo step steps Published d r may rec more runs = absurd may
split_claim code parts others todo step steps Returned d r may rec more runs = absurd may

split_get : (code : List ℕ) (parts others : Gets) (todo : List Todo) (steps : List Step) → SplitAll parts → SplitAll others → Runs (Want code parts ∷ wants others todo) steps [] → Splits (get code parts others) todo steps
split_get code parts others todo [] rec more runs = absurd (cc)
split_get code parts others todo (step ∷ steps) rec more runs =
    let P : Deed → Type 0 = λ x. IsReply x step.reply in
    split_claim code parts others todo step steps step.reply runs.0 refl (subst P runs.0 runs.1) rec more runs.2

splits : (gets : Gets) → SplitAll gets
unfolding SplitAll
splits no_more = λ todo steps runs. record { first = []; later = steps; walk = refl; rest = runs; all = refl }
splits (get code parts others) = λ todo steps runs. split_get code parts others todo steps (splits parts) (splits others) runs

ended : (steps : List Step) → Runs [] steps [] → [] ≡ steps
ended [] runs = refl
ended (step ∷ steps) runs = absurd runs

-- Steps that do all that a print wants, and no more, are its walk.
pub walk_is : (gets : Gets) (steps : List Step) → Runs (wants gets []) steps [] → IsWalk gets steps
unfolding SplitAll
walk_is gets steps runs = let s = splits gets [] steps runs in let P : List Step → Type 0 = λ l. IsWalk gets l in
    subst P (ap (λ l. s.first ++ l) (ended s.later s.rest) ∙ sym s.all) (subst P (sym (append-nil s.first)) s.walk)
