use Rattle.std.proofs.Common.{sym, ap, ◌∙◌, subst, arith}
use Rattle.std.proofs.lemmas.List.{length-map}
use Rattle.std.proofs.Math.ListN.{get_or-map}
use Rattle.cg_model.specs.Dating.{dating_of}
use Rattle.cg_model.specs.Limits.{IsInRange}
use Rattle.cg_message.proofs.rows.spot_rows.Goals as goal

pub spot_row-requires : goal.spot_row-requires
spot_row-requires c =
    let dating = c.dating-item.result in
    let place = c.loop-dating.dating-index in
    subst IsInRange (get_or-map dating_of c.args.datings.now place dating ∙ ap dating_of (sym c.dating-item.is))
    (c.requires place (dating_of dating) (omega (arith, length-map c.args.datings.now dating_of)))
