-- An event that is found by its name is one of the model's, and where no cause is told each event can be weighed.
use Rattle.std.proofs.Common.{◌≡◌, ℕ, zero, suc, ◌+◌, ◌<◌, true, false, cond, List, [], ◌∷◌, take, refl, sym, subst, arith, Option, Some, None, Result, Ok, Err}
use Rattle.std.specs.Prelude.{slice_get, count_by}
use Rattle.std.proofs.lemmas.List.Sums.{sum_by-append}
use Rattle.cg_meaning.specs.Tree.{Name, Tree, Chronology, datings_of, nodes_of_all, root_of, count}
use Rattle.cg_meaning.specs.Scene.{Scene}
use Rattle.cg_meaning.specs.Cover.{CoverFault, first_fault, AreCovered}
use Rattle.cg_model.specs.Event.{is_event, number_if, number_at}
use Rattle.cg_model.specs.Found.{found_in}
use Rattle.cg_model.specs.declared.find.Found.{Found}
use Rattle.cg_model.specs.declared.find.Found.TheVariants.{Nobody, One, Many}
use Rattle.cg_model.proofs.TreeLemmas.{count_by-nodes_of_all}
use Rattle.cg_sharing.specs.Edit.{EditFault, NodeKind}
use Rattle.cg_sharing.specs.Course.{event_or, event_found, event_of, weighed_or, weighed, event_in}
use Rattle.cg_sharing.proofs.CoverLemmas.{all-covered}

-- a first node is counted where it is an event
count-first : (t : Tree) (ts : List Tree) → count_by is_event (t ∷ ts) ≡ cond (is_event t) 1 0 + count_by is_event ts
count-first t ts = omega (arith, sum_by-append (λ u. cond (is_event u) 1 0) (t ∷ []) ts)

-- the number that a node has behind another is below the count of both, where it is so of those behind
behind : (first : Tree) (others : List Tree) (node : Option Tree) (before event : ℕ) → (number_if node before ≡ Some before → before < count_by is_event others) →
    number_if node (cond (is_event first) 1 0 + before) ≡ Some event → event < count_by is_event (first ∷ others)
behind first others None before event below is = absurd (cc)
behind first others (Some node) before event below is =
    elim (is_event node) as (λ b. (cond b (Some before) None ≡ Some before → before < count_by is_event others) → cond b (Some (cond (is_event first) 1 0 + before)) None ≡ Some event → event < count_by is_event (first ∷ others)) [
      | true ↦ λ later own. let same : cond (is_event first) 1 0 + before ≡ event = cc in omega (arith, same, later refl, count-first first others)
      | false ↦ λ later own. absurd (cc)
    ] below is

-- an event's number is below the count of events
counted : (nodes : List Tree) (place event : ℕ) → number_at nodes place ≡ Some event → event < count_by is_event nodes
counted [] place event is = absurd (cc)
counted (t ∷ ts) zero event is =
    subst (λ n. event < n) (sym (count-first t ts)) (
    elim (is_event t) as (λ b. cond b (Some 0) None ≡ Some event → event < cond b 1 0 + count_by is_event ts) [
      | true ↦ λ own. let same : 0 ≡ event = cc in omega (arith, same)
      | false ↦ λ own. absurd (cc)
    ] is
    )
counted (t ∷ ts) (suc place) event is =
    let before = count_by is_event (take place ts) in
    let both = count-first t (take place ts) in
    behind t ts (slice_get ts place) before event (λ own. counted ts place before own) (subst (λ n. number_if (slice_get ts place) n ≡ Some event) both is)

told : (kind : NodeKind) (number : Option ℕ) (event : ℕ) → event_or kind number ≡ Ok event → number ≡ Some event
told kind None event is = absurd (cc)
told kind (Some other) event is = let same : other ≡ event = cc in rw same refl

found_below : (nodes : List Tree) (found : Found) (event : ℕ) → event_found nodes found ≡ Ok event → event < count_by is_event nodes
found_below nodes Nobody event is = absurd (cc)
found_below nodes (One place) event is = counted nodes place event (told _ (number_at nodes place) event is)
found_below nodes (Many several) event is = absurd (cc)

-- What an event is that was found and may be weighed.
pub record IsFound (scene : Scene) (chronology : Chronology) (event : ℕ) : Type 0 where
  pub covered : AreCovered (root_of chronology) scene
  pub below : event < count (root_of chronology)

weighs : (scene : Scene) (chronology : Chronology) (fault : Option CoverFault) (other event : ℕ) → first_fault scene (datings_of (root_of chronology)) ≡ fault →
    other < count (root_of chronology) → weighed_or fault other ≡ Ok event → IsFound scene chronology event
weighs scene chronology None other event none below is =
    let same : other ≡ event = cc in
    record { covered = all-covered scene (datings_of (root_of chronology)) none; below = subst (λ e. e < count (root_of chronology)) same below }
weighs scene chronology (Some fault) other event some below is = absurd (cc)

searched : (scene : Scene) (chronology : Chronology) (found : Result ℕ EditFault) (event : ℕ) → ((e : ℕ) → found ≡ Ok e → e < count (root_of chronology)) →
    weighed scene (root_of chronology) found ≡ Ok event → IsFound scene chronology event
searched scene chronology (Ok other) event below is = weighs scene chronology (first_fault scene (datings_of (root_of chronology))) other event refl (below other refl) is
searched scene chronology (Err fault) event below is = absurd (cc)

pub found : (scene : Scene) (name : Name) (chronology : Chronology) (event : ℕ) → event_in scene name chronology ≡ Ok event → IsFound scene chronology event
found scene name chronology event is =
    let nodes = nodes_of_all chronology.top in
    searched scene chronology (event_of name chronology.top) event
    (λ e own. subst (λ n. e < n) (count_by-nodes_of_all chronology.top) (found_below nodes (found_in name nodes) e own)) is
