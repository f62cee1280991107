use Rattle.std.proofs.Common.{◌≡◌, true, option_map, ap, ◌∙◌, not}
use Rattle.std.specs.Option.{is_some}
use Rattle.std.proofs.lemmas.Result.{IfOk-weaker, IfErr-weaker}
use Rattle.cg_meaning.specs.Scene.{scene_of}
use Rattle.cg_meaning.specs.Cover.{cover_fault, fault_from}
use Rattle.cg_model.specs.Dating.{dating_of}
use Rattle.cg_like.specs.Cover.{rows_of}
use Rattle.cg_like.proofs.CoverLemmas.{carbon_fault}
use Rattle.cg_like.proofs.cover.covers.Goals as goal
use Rattle.cg_like.proofs.cover.covers.Goals.{After-first_fault-in-Carbon}

same : (c : After-first_fault-in-Carbon) → let scene = scene_of c.args.grid.now (rows_of (option_map (λ c. c.now) c.args.curve)) in
    cover_fault scene (dating_of c.args.dating.now) ≡ fault_from scene (dating_of c.args.dating.now) 0 c.args.grid.now.cells
same c =
    let some : is_some c.args.curve ≡ true = c.is_none.ensures ∙ ap not c.if-is_none.false in
    carbon_fault (λ c. c.now) c.args.grid.now c.args.curve (dating_of c.args.dating.now) _ _ some (ap dating_of c.in-Carbon.is) c.first_fault-in-Carbon.ensures.known

pub returns-else-is_none-clause-ok : goal.returns-else-is_none-clause-ok
returns-else-is_none-clause-ok c = IfOk-weaker c.first_fault-in-Carbon.result _ _ (λ _ none. same c ∙ none) c.first_fault-in-Carbon.ensures.ok

pub returns-else-is_none-clause-fault : goal.returns-else-is_none-clause-fault
returns-else-is_none-clause-fault c = IfErr-weaker c.first_fault-in-Carbon.result _ _ (λ _ found. same c ∙ found) c.first_fault-in-Carbon.ensures.fault
