use Rattle.std.proofs.Common.{◌∙◌, sym, ap}
use Rattle.cg_message.specs.Element.{items_in, all_placed, placed_in}
use Rattle.cg_message.specs.Placed.{elements_with}
use Rattle.cg_message.specs.declared.element.Elements.{roll-Elements}
use Rattle.cg_message.proofs.ElementLemmas.{places_in-all, all_placed-push}
use Rattle.cg_message.proofs.element.Elements.push.Goals as goal

pub returns : goal.returns
returns c =
    let es = c.args.self.now in
    places_in-all (roll-Elements (record { items = c.push.new.self }))
    ∙ ap all_placed c.in_ok-push.ensures.ok
    ∙ all_placed-push (items_in es) c.args.e
    ∙ ap (λ us. elements_with us (placed_in c.args.e)) (sym (places_in-all es))
