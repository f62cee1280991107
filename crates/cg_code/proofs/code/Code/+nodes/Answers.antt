use Rattle.std.proofs.Common.{◌≡◌, ◌+◌, ◌++◌, sym, ap, ap₂, ◌∙◌, subst, arith, append_assoc, append-nil}
use Rattle.cg_meaning.specs.Tree.{more, count_all}
use Rattle.cg_model.specs.Limits.{groups_in}
use Rattle.cg_model.specs.Node.{tree_of, trees_of}
use Rattle.cg_model.proofs.NodeLemmas.{trees_of-all, trees_from, trees_from-next, trees_from-past}
use Rattle.cg_code.specs.Code.{in_two, tree_bytes, trees_bytes}
use Rattle.cg_code.proofs.TreeLemmas.{AreFit, IsFit-first, AreFit-rest, members-few, members_in-len}
use Rattle.cg_code.proofs.code.Code.+nodes.Goals as goal

pub push_members-overflow_cast-len : goal.push_members-overflow_cast-len
push_members-overflow_cast-len t c =
    let members = c.args.members.now in
    omega (arith, c.len.ensures, c.requires.few, members-few (trees_of members), members_in-len members)

pub push_members-loop-node-init : goal.push_members-loop-node-init
push_members-loop-node-init t c =
    let members = c.args.members.now in
    let all : trees_from c.nodes-node-items.result.now 0 ≡ trees_of members =
    ap (λ items. trees_from items 0) c.nodes-node-items.ensures ∙ sym (trees_of-all members) in
    let fit : AreFit (trees_of members) = record { few = c.requires.few; ranged = c.requires.ranged } in
    let same = subst AreFit (sym all) fit in
    record {
      bytes = ap₂ (λ front ts. front ++ trees_bytes ts) c.in_ok-push_two.ensures all
          ∙ ap (λ n. (c.args.self.now ++ in_two n) ++ trees_bytes (trees_of members)) (c.len.ensures ∙ sym (members_in-len members))
          ∙ append_assoc c.args.self.now _ _;
      fewer = omega (arith, ap count_all all, ap groups_in all);
      ranged = same.ranged;
    }

pub push_members-push_node-requires : goal.push_members-push_node-requires
push_members-push_node-requires t c =
    let items = c.nodes-node-items.result.now in
    let i = c.loop-node.node-index in
    let later = trees_from items (i + 1) in
    let here : trees_from items i ≡ more (tree_of c.node-item.result) later = trees_from-next items i c.node-item.result c.loop-node-test.true c.node-item.is in
    let left : AreFit (trees_from items i) = record { few = omega (arith, c.loop-node.invariant.fewer, c.requires.few); ranged = c.loop-node.invariant.ranged } in
    let fit = IsFit-first (tree_of c.node-item.result) later (subst AreFit here left) in
    (omega (arith, c.decreases, c.loop-node.invariant.fewer, ap count_all here, ap groups_in here), (fit.few, fit.ranged))

pub push_members-loop-node-preserved : goal.push_members-loop-node-preserved
push_members-loop-node-preserved t c =
    let items = c.nodes-node-items.result.now in
    let i = c.loop-node.node-index in
    let node = tree_of c.node-item.result in
    let later = trees_from items (i + 1) in
    let here : trees_from items i ≡ more node later = trees_from-next items i c.node-item.result c.loop-node-test.true c.node-item.is in
    let left : AreFit (trees_from items i) = record { few = omega (arith, c.loop-node.invariant.fewer, c.requires.few); ranged = c.loop-node.invariant.ranged } in
    let rest = AreFit-rest node later (subst AreFit here left) in
    record {
      bytes = ap (λ front. front ++ trees_bytes later) c.in_ok-push_node.ensures
          ∙ append_assoc c.loop-node.self (tree_bytes node) (trees_bytes later)
          ∙ ap (λ ts. c.loop-node.self ++ trees_bytes ts) (sym here)
          ∙ c.loop-node.invariant.bytes;
      fewer = omega (arith, c.loop-node.invariant.fewer, ap count_all here, ap groups_in here);
      ranged = rest.ranged;
    }

pub push_members-returns : goal.push_members-returns
push_members-returns t c =
    let items = c.nodes-node-items.result.now in
    sym (append-nil c.loop-node.self)
    ∙ ap (λ ts. c.loop-node.self ++ trees_bytes ts) (sym (trees_from-past items c.loop-node.node-index c.loop-node-test.false))
    ∙ c.loop-node.invariant.bytes
