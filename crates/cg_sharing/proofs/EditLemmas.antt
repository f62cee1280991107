-- What a change is that is accepted.
use Rattle.std.proofs.Common.{◌≡◌, ℕ, [], ◌∷◌, refl, sym, subst, Option, Some, None, Ok}
use Rattle.std.specs.Prelude.{slice_get}
use Rattle.cg_meaning.specs.Tree.{Tree, Trees, nodes_of_all}
use Rattle.cg_model.specs.Found.{found_in}
use Rattle.cg_model.specs.declared.find.Found.{Found}
use Rattle.cg_model.specs.declared.find.Found.TheVariants.{Nobody, One, Many}
use Rattle.cg_model.specs.declared.model.Limit.{Limit}
use Rattle.cg_model.proofs.FoundLemmas.{named, found-One}
use Rattle.cg_sharing.specs.Edit.{Edit, NodeKind, target_of, edited, wrong_kind, limit_passed, within, checked, changed_at, result_for, result_of}

-- one node has the name, its kind is right, and the changed statements pass no limit
pub record IsAccepted (edit : Edit) (before after : Trees) : Type 0 where
  pub node : Tree
  pub only : named (target_of edit) before ≡ node ∷ []
  pub right : wrong_kind edit node before ≡ None
  pub fits : limit_passed after ≡ None
  pub changed : after ≡ edited edit before

for_limit : (edit : Edit) (before after : Trees) (node : Tree) (limit : Option Limit) → named (target_of edit) before ≡ node ∷ [] → wrong_kind edit node before ≡ None → limit_passed (edited edit before) ≡ limit → within limit (edited edit before) ≡ Ok after → IsAccepted edit before after
for_limit edit before after node None only right fits is =
    let same : edited edit before ≡ after = cc in
    record { node = node; only = only; right = right; fits = subst (λ ts. limit_passed ts ≡ None) same fits; changed = sym same }
for_limit edit before after node (Some limit) only right fits is = absurd (cc)

for_kind : (edit : Edit) (before after : Trees) (node : Tree) (kind : Option NodeKind) → named (target_of edit) before ≡ node ∷ [] → wrong_kind edit node before ≡ kind → checked kind (edited edit before) ≡ Ok after → IsAccepted edit before after
for_kind edit before after node None only right is = for_limit edit before after node (limit_passed (edited edit before)) only right refl is
for_kind edit before after node (Some kind) only right is = absurd (cc)

for_node : (edit : Edit) (before after : Trees) (place : ℕ) (node : Option Tree) → found_in (target_of edit) (nodes_of_all before) ≡ One place → slice_get (nodes_of_all before) place ≡ node → changed_at node edit before ≡ Ok after → IsAccepted edit before after
for_node edit before after place None found here is = absurd (cc)
for_node edit before after place (Some node) found here is =
    for_kind edit before after node (wrong_kind edit node before) (found-One (target_of edit) before place node found here) refl is

for_found : (edit : Edit) (before after : Trees) (found : Found) → found_in (target_of edit) (nodes_of_all before) ≡ found → result_for found edit before ≡ Ok after → IsAccepted edit before after
for_found edit before after Nobody found is = absurd (cc)
for_found edit before after (One place) found is = for_node edit before after place (slice_get (nodes_of_all before) place) found refl is
for_found edit before after (Many count) found is = absurd (cc)

pub accepted : (edit : Edit) (before after : Trees) → result_of edit before ≡ Ok after → IsAccepted edit before after
unfolding result_of
accepted edit before after is = for_found edit before after (found_in (target_of edit) (nodes_of_all before)) refl is
