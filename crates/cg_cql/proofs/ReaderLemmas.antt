-- What the lists of a reader mean, and what it read.
use Rattle.std.proofs.Common.{◌≡◌, ℕ, suc, ◌<◌, false, not, eqb, List, [], ◌∷◌, length, map, reverse, refl, sym, ap, ◌∙◌, arith}
use Rattle.std.proofs.lemmas.Bool.Decides.{nat_tests}
use Rattle.std.proofs.lemmas.List.{length-reverse, length-map}
use Rattle.cg_meaning.specs.Tree.{Trees, none, more}
use Rattle.cg_model.specs.Node.{tree_of, trees, trees_of, items_of}
use Rattle.cg_model.proofs.NodeLemmas.{trees_of-all}
use Rattle.cg_model.specs.declared.node.Members.{Members}
use Rattle.cg_model.specs.declared.node.Node.{Node}
use Rattle.cg_grammar.specs.Done.{is_none}
use Rattle.cg_grammar.specs.Steps as spec
use Rattle.std.specs.Prelude.{slice_get, Some}
use Rattle.cg_meaning.specs.Tree.{Tree}
use Rattle.cg_model.specs.Limits.{IsModel}
use Rattle.cg_grammar.specs.declared.command.Base.TheVariants.{Script}
use Rattle.cg_grammar.specs.Text.{Reads}
use Rattle.cg_grammar.proofs.DecidedLemmas.{reads-script}
use Rattle.cg_grammar.proofs.LimitLemmas.{each-spelled}
use Rattle.cg_cql.specs.View.{frame_of}
use Rattle.cg_cql.specs.declared.reader.Frame.{Frame}

-- a kind for each open group
path-length : (fs : List spec.Frame) → length (spec.path_of fs) ≡ length fs
path-length [] = refl
path-length (f ∷ fs) = ap (λ n. suc n) (path-length fs)

-- as many as the reader keeps
pub path_of-length : (fs : List Frame) (n : ℕ) → n ≡ length fs → n ≡ length (spec.path_of (map frame_of (reverse fs)))
path_of-length fs n h = h ∙ sym (path-length (map frame_of (reverse fs)) ∙ length-map (reverse fs) frame_of ∙ length-reverse fs)

-- there are nodes where there are trees
started-list : (ns : List Node) → not (eqb (length ns) 0) ≡ not (is_none (trees (map tree_of ns)))
started-list [] = refl
started-list (n ∷ ns) = let some : eqb (suc (length ns)) 0 ≡ false = grind (arith, nat_tests) in rw some refl

-- the same of members
pub started-members : (m : Members) (n : ℕ) → n ≡ length (items_of m) → not (eqb n 0) ≡ not (is_none (trees_of m))
started-members m n h = ap (λ (k : ℕ). not (eqb k 0)) h ∙ started-list (items_of m) ∙ ap (λ (x : Trees). not (is_none x)) (sym (trees_of-all m))

-- the node of one tree
pub first-of-one : (ns : List Node) (t : Tree) (n : Node) → trees (map tree_of ns) ≡ more t none → slice_get ns 0 ≡ Some n → tree_of n ≡ t
first-of-one [] t n h e = absurd cc
first-of-one (x ∷ ns) t n h e =
    let same : x ≡ n = cc in
    ap tree_of (sym same) ∙ ap (λ (ts : Trees). elim ts [ none ↦ t | more u us ↦ u ]) h

-- there is one
pub some-of-one : (ns : List Node) (t : Tree) → trees (map tree_of ns) ≡ more t none → 0 < length ns
some-of-one [] t h = absurd cc
some-of-one (x ∷ ns) t h = omega arith

-- what is read as a script is a model
pub reads-model : (bytes : List ℕ) (s : spec.State) → Reads Script bytes s → IsModel s.done.members
reads-model bytes s r = each-spelled bytes _ (reads-script bytes s r)
