use Rattle.std.proofs.Common.{◌∙◌, map, sym, ap}
use Rattle.cg_model.specs.Node.{tree_of, trees, trees_with, items_of}
use Rattle.cg_model.specs.declared.node.Members.{roll-Members}
use Rattle.cg_model.proofs.NodeLemmas.{trees_of-all, trees-push}
use Rattle.cg_model.proofs.node.Members.push.Goals as goal

pub returns-clause-trees : goal.returns-clause-trees
returns-clause-trees c =
    let node = c.args.node in
    let members = c.args.self.now in
    trees_of-all (roll-Members (record { items = c.push.new.self }))
    ∙ ap (λ items. trees (map tree_of items)) c.in_ok-push.ensures.ok
    ∙ trees-push (items_of members) node
    ∙ ap (λ ts. trees_with ts (tree_of node)) (sym (trees_of-all members))
