use Rattle.std.proofs.Common.{◌∙◌, sym, ap, ap₂}
use Rattle.cg_up.specs.Element.{joined, items_in, all_in}
use Rattle.cg_up.specs.declared.element.Elements.{roll-Elements}
use Rattle.cg_up.proofs.ElementLemmas.{elements_in-all, all_in-append}
use Rattle.cg_up.proofs.element.Elements.append.Goals as goal

pub returns : goal.returns
returns c =
    let es = c.args.self.now in
    let more = c.args.more in
    elements_in-all (roll-Elements (record { items = c.append.new.self }))
    ∙ ap all_in c.in_ok-append.ensures
    ∙ all_in-append (items_in es) (items_in more)
    ∙ ap₂ (λ us vs. joined us vs) (sym (elements_in-all es)) (sym (elements_in-all more))
