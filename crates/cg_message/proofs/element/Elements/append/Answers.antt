use Rattle.std.proofs.Common.{◌∙◌, sym, ap, ap₂}
use Rattle.cg_message.specs.Element.{items_in, all_placed}
use Rattle.cg_message.specs.Placed.{joined}
use Rattle.cg_message.specs.declared.element.Elements.{roll-Elements}
use Rattle.cg_message.proofs.ElementLemmas.{places_in-all, all_placed-append}
use Rattle.cg_message.proofs.element.Elements.append.Goals as goal

pub returns : goal.returns
returns c =
    let es = c.args.self.now in
    let more = c.args.more in
    places_in-all (roll-Elements (record { items = c.append.new.self }))
    ∙ ap all_placed c.in_ok-append.ensures
    ∙ all_placed-append (items_in es) (items_in more)
    ∙ ap₂ (λ us vs. joined us vs) (sym (places_in-all es)) (sym (places_in-all more))
