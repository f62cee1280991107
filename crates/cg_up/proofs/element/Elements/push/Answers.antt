use Rattle.std.proofs.Common.{◌∙◌, sym, ap}
use Rattle.cg_up.specs.Element.{element_in, elements_with, items_in, all_in}
use Rattle.cg_up.specs.declared.element.Elements.{roll-Elements}
use Rattle.cg_up.proofs.ElementLemmas.{elements_in-all, all_in-push}
use Rattle.cg_up.proofs.element.Elements.push.Goals as goal

pub returns : goal.returns
returns c =
    let es = c.args.self.now in
    elements_in-all (roll-Elements (record { items = c.push.new.self }))
    ∙ ap all_in c.in_ok-push.ensures.ok
    ∙ all_in-push (items_in es) c.args.e
    ∙ ap (λ us. elements_with us (element_in c.args.e)) (sym (elements_in-all es))
