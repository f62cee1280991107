-- A code tells its content, names aside, its grid and the number of its curve, and nothing else.
use Rattle.std.proofs.Common.{◌≡◌, ℕ, List, [], ◌∷◌, ◌++◌, refl, ap, arith}
use Rattle.std.specs.Prelude.{codes}
use Rattle.cg_meaning.specs.Tree.{Phase, Group, Tree, Trees}
use Rattle.cg_meaning.specs.Scene.{Grid}
use Rattle.cg_model.specs.Grid.{IsGrid}
use Rattle.cg_code.specs.Code.{in_two, grid_bytes, code_of}
use Rattle.cg_code.specs.Content.{Content, Row, Table, Marginal, IsNode, HasEvent, all_without_names, nameless}
use Rattle.cg_code.specs.Laws.{IsEvaluation, EqualCodes}
use Rattle.cg_code.proofs.FieldLemmas.{first, behind, two-front, dating-front, grid-front}
use Rattle.cg_code.proofs.TreeLemmas.{IsFit, tree-front, tree_bytes-nameless}

IsFit-node : (t : Tree) → IsNode t → IsFit t
IsFit-node t is = record { few = omega (arith, is.limits.events, is.limits.groups); ranged = is.ranged }

IsFit-top : (top : Trees) (event : ℕ) → HasEvent top event → IsFit (Group Phase [] top)
IsFit-top top event has = record { few = omega (arith, has.limits.events, has.limits.groups); ranged = has.ranged }

-- the grid and the curve's number, and what is behind them
fields : (g h : Grid) (m n : ℕ) (xs ys : List ℕ) → IsGrid g.oldest g.cells → IsGrid h.oldest h.cells →
    grid_bytes g ++ (m ∷ xs) ≡ grid_bytes h ++ (n ∷ ys) → (g ≡ h) × (m ≡ n) × (xs ≡ ys)
fields g h m n xs ys here there eq =
    let grids = grid-front g h (m ∷ xs) (n ∷ ys) here there eq in
    let rest : m ∷ xs ≡ n ∷ ys = grids.1 in
    (grids.0, cc, cc)

-- with nothing behind them
whole : (p q : List ℕ) → p ≡ q → p ++ [] ≡ q ++ []
whole p q eq = ap (λ s. s ++ []) eq

-- what equal codes are of
told : (x y : Content) (g h : Grid) (m n : ℕ) → IsEvaluation x g m → IsEvaluation y h n → code_of x g m ≡ code_of y h n → (nameless x ≡ nameless y) × (g ≡ h) × (m ≡ n)
told (Row d) (Row e) g h m n a b eq =
    let same = fields g h m n _ _ a.grid_is b.grid_is (behind _ _ _ _ eq) in
    (ap Row (dating-front d e [] [] a.content_is b.content_is (whole _ _ same.2)).0, same.0, same.1)
told (Table t) (Table u) g h m n a b eq =
    let same = fields g h m n _ _ a.grid_is b.grid_is (behind _ _ _ _ eq) in
    (ap Table (tree-front t u [] [] (IsFit-node t a.content_is) (IsFit-node u b.content_is) (whole _ _ same.2)).0, same.0, same.1)
told (Marginal top i) (Marginal other j) g h m n a b eq =
    let same = fields g h m n _ _ a.grid_is b.grid_is (behind _ _ _ _ eq) in
    let trees = tree-front (Group Phase [] top) (Group Phase [] other) (in_two i) (in_two j) (IsFit-top top i a.content_is) (IsFit-top other j b.content_is) same.2 in
    let events = two-front i j [] [] (omega (arith, a.content_is.counted, a.content_is.limits.events)) (omega (arith, b.content_is.counted, b.content_is.limits.events)) (whole _ _ trees.1) in
    let root : Group Phase [] (all_without_names top) ≡ Group Phase [] (all_without_names other) = trees.0 in
    let number : i ≡ j = events.0 in
    (cc, same.0, same.1)
told x y g h m n a b eq = absurd (omega (arith, first _ _ eq))

-- names aside, a code is the same
code-nameless : (x : Content) (g : Grid) (m : ℕ) → code_of (nameless x) g m ≡ code_of x g m
code-nameless (Row d) g m = refl
code-nameless (Table t) g m = ap (λ bytes. codes "T" ++ (grid_bytes g ++ (m ∷ bytes))) (tree_bytes-nameless t)
code-nameless (Marginal top event) g m =
    ap (λ bytes. codes "M" ++ (grid_bytes g ++ (m ∷ (bytes ++ in_two event)))) (tree_bytes-nameless (Group Phase [] top))

same_codes : (x y : Content) (g h : Grid) (m n : ℕ) → nameless x ≡ nameless y → g ≡ h → m ≡ n → code_of x g m ≡ code_of y h n
same_codes x y g h m n contents grids curves =
    let here = code-nameless x g m in
    let there = code-nameless y h n in
    cc

pub equal_codes : EqualCodes
equal_codes x y g h m n a b = (told x y g h m n a b, λ same. same_codes x y g h m n same.0 same.1 same.2)
