-- A change that is accepted makes a model of a model.
use Rattle.std.proofs.Common.{◌≡◌, Bool, true, false, cond, refl, sym, subst, Some, None, Ok}
use Rattle.std.specs.Prelude.{nat_lt}
use Rattle.std.proofs.lemmas.Bool.{ltb-false}
use Rattle.cg_meaning.specs.Tree.{Trees, Phase, count_all}
use Rattle.cg_model.specs.declared.model.Limit.TheVariants.{Events, Groups, Depth}
use Rattle.cg_model.specs.Limits.{groups_in, depth_in, IsWithinLimits, IsModel, AreInPlace, AreInRange}
use Rattle.cg_sharing.specs.Edit.{Edit, limit_passed, result_of}
use Rattle.cg_sharing.specs.Journal.{IsInOrder}
use Rattle.cg_sharing.proofs.EditLemmas.{accepted}
use Rattle.cg_edit.proofs.PlacedLemmas.{edited-placed, edited-ranged}

-- no test passes
none_passed : (many deep high : Bool) → cond many (Some Events) (cond deep (Some Groups) (cond high (Some Depth) None)) ≡ None → (many ≡ false) × (deep ≡ false) × (high ≡ false)
none_passed true deep high is = absurd (cc)
none_passed false true high is = absurd (cc)
none_passed false false true is = absurd (cc)
none_passed false false false is = (refl, refl, refl)

-- statements that pass no limit are within them
within_limits : (ts : Trees) → limit_passed ts ≡ None → IsWithinLimits ts
within_limits ts is =
    let tests = none_passed (nat_lt 100 (count_all ts)) (nat_lt 60 (groups_in ts)) (nat_lt 16 (depth_in ts)) is in
    record {
      events = ltb-false 100 (count_all ts) tests.0;
      groups = ltb-false 60 (groups_in ts) tests.1;
      depth = ltb-false 16 (depth_in ts) tests.2;
    }

pub kept : (edit : Edit) (before after : Trees) → IsModel before → IsInOrder edit → result_of edit before ≡ Ok after → IsModel after
kept edit before after model order is =
    let change = accepted edit before after is in
    record {
      limits = within_limits after change.fits;
      placed = subst (λ ts. AreInPlace Phase ts) (sym change.changed) (edited-placed edit before change.node change.only change.right model.placed);
      ranged = subst (λ ts. AreInRange ts) (sym change.changed) (edited-ranged edit before order model.ranged);
    }
