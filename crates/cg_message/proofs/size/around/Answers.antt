use Rattle.std.proofs.Common.{refl}
use Rattle.std.proofs.lemmas.Option.{slice_get_read}
use Rattle.cg_message.proofs.SizeLemmas.{all_placed-around}
use Rattle.cg_message.proofs.size.around.Goals as goal

pub returns-clause-all : goal.returns-clause-all
returns-clause-all c = all_placed-around c.args.items.now c.place_of-place.result c.index-items-place.result c.place_of-place.ensures.within c.index-items-place.is

pub returns-clause-own : goal.returns-clause-own
returns-clause-own c =
    c.place_of-place.ensures.own c.index-items-place.result (slice_get_read c.args.items.now _ c.place_of-place.result c.index-items-place.result refl c.place_of-place.ensures.within c.index-items-place.is)
