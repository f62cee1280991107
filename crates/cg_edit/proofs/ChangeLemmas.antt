-- The result of a change, by what a search for its name finds, and the limit that a model passes.
use Rattle.std.proofs.Common.{◌≡◌, ℕ, ◌<◌, ◌≤◌, refl, sym, ap, ◌∙◌, Option, Some, None, Err}
use Rattle.std.specs.Prelude.{slice_get}
use Rattle.std.proofs.lemmas.Bool.{lt-ltb, le-ltb}
use Rattle.cg_meaning.specs.Tree.{Tree, Trees, count_all, nodes_of_all}
use Rattle.cg_model.specs.Found.{found_in}
use Rattle.cg_model.specs.declared.find.Found.TheVariants.{Nobody, One, Many}
use Rattle.cg_model.specs.declared.model.Limit.{Limit}
use Rattle.cg_model.specs.declared.model.Limit.TheVariants.{Events, Groups, Depth}
use Rattle.cg_model.specs.Limits.{groups_in, depth_in, IsWithinLimits}
use Rattle.cg_sharing.specs.Edit.{Edit, NoName, Ambiguous, target_of, edited, wrong_kind, limit_passed, within, checked, changed_at, result_for, result_of}

-- no node has the name
pub result_of-Nobody : (edit : Edit) (ts : Trees) → found_in (target_of edit) (nodes_of_all ts) ≡ Nobody → result_of edit ts ≡ Err NoName
unfolding result_of
result_of-Nobody edit ts is = ap (λ found. result_for found edit ts) is

-- several do
pub result_of-Many : (edit : Edit) (ts : Trees) (count : ℕ) → found_in (target_of edit) (nodes_of_all ts) ≡ Many count → result_of edit ts ≡ Err (Ambiguous count)
unfolding result_of
result_of-Many edit ts count is = ap (λ found. result_for found edit ts) is

-- one does
pub result_of-One : (edit : Edit) (ts : Trees) (place : ℕ) (t : Tree) → found_in (target_of edit) (nodes_of_all ts) ≡ One place → slice_get (nodes_of_all ts) place ≡ Some t → result_of edit ts ≡ checked (wrong_kind edit t ts) (edited edit ts)
unfolding result_of
result_of-One edit ts place t is here = ap (λ found. result_for found edit ts) is ∙ ap (λ node. changed_at node edit ts) here

-- where the node's kind is right, a limit decides
pub result_of-right : (edit : Edit) (ts : Trees) (place : ℕ) (t : Tree) (top : Trees) (limit : Option Limit) → found_in (target_of edit) (nodes_of_all ts) ≡ One place → slice_get (nodes_of_all ts) place ≡ Some t → None ≡ wrong_kind edit t ts → top ≡ edited edit ts → limit_passed top ≡ limit → result_of edit ts ≡ within limit top
result_of-right edit ts place t top limit is here right same passed =
    result_of-One edit ts place t is here
    ∙ ap (λ kind. checked kind (edited edit ts)) (sym right)
    ∙ ap (λ us. within (limit_passed us) us) (sym same)
    ∙ ap (λ found. within found top) passed

-- the first limit that statements pass
limit_passed-Events : (ts : Trees) → 100 < count_all ts → limit_passed ts ≡ Some Events
limit_passed-Events ts many = rw (lt-ltb 100 (count_all ts) many)

limit_passed-Groups : (ts : Trees) → count_all ts ≤ 100 → 60 < groups_in ts → limit_passed ts ≡ Some Groups
limit_passed-Groups ts few many = rw (le-ltb 100 (count_all ts) few, lt-ltb 60 (groups_in ts) many)

limit_passed-Depth : (ts : Trees) → count_all ts ≤ 100 → groups_in ts ≤ 60 → 16 < depth_in ts → limit_passed ts ≡ Some Depth
limit_passed-Depth ts few fewer deep = rw (le-ltb 100 (count_all ts) few, le-ltb 60 (groups_in ts) fewer, lt-ltb 16 (depth_in ts) deep)

pub limit_passed-none : (ts : Trees) → IsWithinLimits ts → limit_passed ts ≡ None
limit_passed-none ts is = rw (le-ltb 100 (count_all ts) is.events, le-ltb 60 (groups_in ts) is.groups, le-ltb 16 (depth_in ts) is.depth)

pub limit_passed-is : (ts : Trees) (limit : Limit) → (limit ≡ Events → 100 < count_all ts) → (limit ≡ Groups → (count_all ts ≤ 100) × (60 < groups_in ts)) → (limit ≡ Depth → (count_all ts ≤ 100) × (groups_in ts ≤ 60) × (16 < depth_in ts)) → limit_passed ts ≡ Some limit
limit_passed-is ts Events events groups depth = limit_passed-Events ts (events refl)
limit_passed-is ts Groups events groups depth = limit_passed-Groups ts (groups refl).0 (groups refl).1
limit_passed-is ts Depth events groups depth = limit_passed-Depth ts (depth refl).0 (depth refl).1 (depth refl).2
