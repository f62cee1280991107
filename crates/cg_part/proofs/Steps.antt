-- One member onto the table of the earlier ones, with the part sums of the later ones.
use Rattle.std.proofs.Common.{◌≡◌, ℕ, ◌<◌, ◌≤◌, ◌+◌, ◌*◌, ◌^◌, Bool, true, false, cond, ◌&&◌, max, leb, leb-true, List, [], ◌∷◌, ◌++◌, length, refl, sym, ap, ◌∙◌, arith, Option, Some, None}
use Rattle.std.specs.List.{zip}
use Rattle.std.proofs.Math.Nat.{mul_assoc, mul_comm, pow-zero}
use Rattle.cg_meaning.specs.Tree.{Tree, Trees, Leaf, Boundary, more, Sequence, Phase, Dating, Free, Name, count, datings_of, datings_of_all, paths_of, paths_of_all}
use Rattle.cg_meaning.specs.Scene.{Scene, admits}
use Rattle.cg_meaning.specs.Weights.{Weighting}
use Rattle.cg_meaning.specs.Sums.{product_from}
use Rattle.cg_meaning.specs.Pairs.{span_weight}
use Rattle.cg_part.proofs.CellPairs.{first}
use Rattle.cg_meaning.proofs.Counts.{length-datings_of}
use Rattle.cg_part.specs.Part.{reaches}
use Rattle.cg_part.specs.Elements.{element_of, items_of, items_behind, open_events}
use Rattle.cg_part.specs.Tables.{ExactTable, sum_from, cumulated, identity, row_table, row_of, then_table, in_order, span_item}
use Rattle.cg_part.proofs.Ranges.{sum_from-same, sum_from-identity}
use Rattle.cg_part.proofs.Blocks.{and_true}
use Rattle.cg_part.proofs.Parts.{starts, up_to, up_to-same}
use Rattle.cg_part.proofs.Members.{length-paths_of, lead, part_leaf, has_parts, then_event, then_member}
use Rattle.cg_part.proofs.Items.{has_boundary, items-last, behind, behind-identity}
use Rattle.cg_part.proofs.Splits.{node_weight, beside_weight, ordered_weight, closing, segment_weight, is_boundary, ordered-split, segment-split, last-weight}

-- the datings of a tree's own events
abbrev pub own : Scene → Weighting → ℕ → Tree → ℕ → ℕ → ℕ
own scene w n t a b = up_to scene (λ cells. node_weight scene w n t cells) (paths_of t) (datings_of t) a b

-- those of members of a Phase, from place k on
abbrev pub beside_parts : Scene → Weighting → ℕ → ℕ → Trees → ℕ → ℕ → ℕ
beside_parts scene w n k ts a b = up_to scene (λ cells. beside_weight scene w n ts cells) (paths_of_all Phase k ts) (datings_of_all ts) a b

-- those of members of a Sequence, with the nearest Boundary before them
abbrev pub ordered_parts : Scene → Weighting → ℕ → Option ℕ → ℕ → Trees → ℕ → ℕ → ℕ
ordered_parts scene w n before k ts a b =
    up_to scene (λ cells. ordered_weight scene w n before ts cells) (paths_of_all Sequence k ts) (datings_of_all ts) a b

-- those of members behind a Boundary at c, and so many open events before them
abbrev pub segment_parts : Scene → Weighting → ℕ → ℕ → ℕ → ℕ → Trees → ℕ → ℕ → ℕ
segment_parts scene w n opened c k ts a b =
    up_to scene (λ cells. segment_weight scene w n opened c ts cells) (paths_of_all Sequence k ts) (datings_of_all ts) a b

-- each event has a path and a dating
pub paired : (t : Tree) → length (datings_of t) ≡ length (paths_of t)
paired t = length-datings_of t ∙ sym (length-paths_of t)

-- the table of a node has its part sums, up to b
abbrev pub IsTable : Scene → Weighting → ℕ → Tree → ExactTable → ℕ → Type 0
IsTable scene w n t table b = (c d : ℕ) → c ≤ d → d ≤ b → cumulated table c d ≡ own scene w n t c d

-- a member of a Sequence onto the earlier ones, before the first Boundary
pub ordered_member : (scene : Scene) (w : Weighting) (s table : ExactTable) (t : Tree) (ts : Trees) (k n a b : ℕ) → is_boundary t ≡ false →
    b < scene.grid.cells →
    IsTable scene w n t table b →
    sum_from a b (λ c. then_table s table a c * ordered_parts scene w (n + count t) None (k + 1) ts c b)
    ≡ sum_from a b (λ c. s a c * ordered_parts scene w n None k (more t ts) c b)
ordered_member scene w s table t ts k n a b member within same =
    then_member scene k a b s table (paths_of t) (paths_of_all Sequence (k + 1) ts) (datings_of t) (datings_of_all ts)
    (λ c cells. ordered_weight scene w n None (more t ts) cells) (λ cells. node_weight scene w n t cells)
    (λ c cells. ordered_weight scene w (n + count t) None ts cells)
    (paired t) (lead Sequence k (k + 1) ts (omega arith)) within
    (has_parts scene table (λ cells. node_weight scene w n t cells) (paths_of t) (datings_of t) b same)
    (λ c xs ys l m starts. ordered-split scene w n t ts xs ys member (l ∙ length-paths_of t))

-- a member of a segment, onto the earlier ones
pub segment_member : (scene : Scene) (w : Weighting) (s table : ExactTable) (t : Tree) (ts : Trees) (k n opened c b : ℕ) → is_boundary t ≡ false →
    b < scene.grid.cells →
    IsTable scene w n t table b →
    sum_from c b (λ e. then_table s table c e * segment_parts scene w (n + count t) (opened + open_events (element_of n t)) c (k + 1) ts e b)
    ≡ sum_from c b (λ e. s c e * segment_parts scene w n opened c k (more t ts) e b)
segment_member scene w s table t ts k n opened c b member within same =
    then_member scene k c b s table (paths_of t) (paths_of_all Sequence (k + 1) ts) (datings_of t) (datings_of_all ts)
    (λ e cells. segment_weight scene w n opened c (more t ts) cells) (λ cells. node_weight scene w n t cells)
    (λ e cells. segment_weight scene w (n + count t) (opened + open_events (element_of n t)) c ts cells)
    (paired t) (lead Sequence k (k + 1) ts (omega arith)) within
    (has_parts scene table (λ cells. node_weight scene w n t cells) (paths_of t) (datings_of t) b same)
    (λ e xs ys l m starts. segment-split scene w n opened c t ts xs ys member (l ∙ length-paths_of t))

-- the table of one event
event_table : (scene : Scene) (row : ℕ → ℕ) (weight : List ℕ → ℕ) (d : Dating) (a b : ℕ) → b < scene.grid.cells →
    ((c : ℕ) → row c ≡ cond (admits scene.grid d c) (weight (c ∷ [])) 0) →
    cumulated (row_table row) a b ≡ up_to scene weight ([] ∷ []) (d ∷ []) a b
event_table scene row weight d a b within same =
    sum_from-same a b row (λ c. cond (admits scene.grid d c) (weight (c ∷ [])) 0) (λ c h l. same c) ∙ sym (part_leaf scene weight d a b within)

-- that of a leaf, or of a Boundary
pub leaf_table : (scene : Scene) (w : Weighting) (row : ℕ → ℕ) (name : Name) (d : Dating) (n a b : ℕ) → b < scene.grid.cells →
    ((c : ℕ) → row c ≡ row_of scene w n d c) →
    cumulated (row_table row) a b ≡ own scene w n (Leaf name d) a b
leaf_table scene w row name d n a b within same =
    event_table scene row (λ cells. node_weight scene w n (Leaf name d) cells) d a b within
    (λ c. same c ∙ ap (λ x. cond (admits scene.grid d c) x 0) (omega arith))

-- a Boundary reaches its own cell
boundary_reach : (c x : ℕ) → (leb c x && true) ≡ true → max c x ≡ x
boundary_reach c x h = let later : c ≤ x = leb-true c x (sym (and_true (leb c x)) ∙ h) in omega arith

-- the weight of a Boundary and of what is behind it, where the former reaches
behind_weight : (scene : Scene) (w : Weighting) (n : ℕ) (ts : Trees) (whole first : List ℕ → ℕ) (c : ℕ) (xs ys : List ℕ) → length xs ≡ 1 →
    ((x : ℕ) → whole (x ∷ ys) ≡ first (x ∷ []) * ordered_weight scene w (n + 1) (Some x) ts ys) →
    starts scene ([] ∷ []) (Free ∷ []) c xs ≡ true →
    whole (xs ++ ys) ≡ first xs * ordered_weight scene w (n + 1) (Some (reaches c (zip ([] ∷ []) xs))) ts ys
behind_weight scene w n ts whole first c [] ys l split h = absurd (omega arith)
behind_weight scene w n ts whole first c (x ∷ []) ys l split h =
    split x ∙ ap (λ r. first (x ∷ []) * ordered_weight scene w (n + 1) (Some r) ts ys) (sym (boundary_reach c x h))
behind_weight scene w n ts whole first c (x ∷ y ∷ zs) ys l split h = absurd (omega arith)

-- A Boundary onto the earlier members, whatever the weight that comes with it: what follows has it before itself.
pub boundary_member : (scene : Scene) (w : Weighting) (s : ExactTable) (row : ℕ → ℕ) (name : Name) (ts : Trees)
    (whole first : List ℕ → ℕ) (k n a b : ℕ) → b < scene.grid.cells →
    ((c : ℕ) → row c ≡ first (c ∷ [])) →
    ((x : ℕ) (ys : List ℕ) → whole (x ∷ ys) ≡ first (x ∷ []) * ordered_weight scene w (n + 1) (Some x) ts ys) →
    sum_from a b (λ c. then_table s (row_table row) a c * ordered_parts scene w (n + 1) (Some c) (k + 1) ts c b)
    ≡ sum_from a b (λ c. s a c * up_to scene whole (paths_of_all Sequence k (more (Boundary name) ts)) (datings_of_all (more (Boundary name) ts)) c b)
boundary_member scene w s row name ts whole first k n a b within same split =
    then_member scene k a b s (row_table row) ([] ∷ []) (paths_of_all Sequence (k + 1) ts) (Free ∷ []) (datings_of_all ts)
    (λ c. whole) first (λ c cells. ordered_weight scene w (n + 1) (Some c) ts cells) refl (lead Sequence k (k + 1) ts (omega arith)) within
    (has_parts scene (row_table row) first ([] ∷ []) (Free ∷ []) b
    (λ c d i j. event_table scene row first Free c d (omega arith) same))
    (λ c xs ys l m h. behind_weight scene w n ts whole first c xs ys l (λ x. split x ys) h)

-- The items behind a Boundary, onto what reaches it, by whether another one follows.
pub behind_sums : (scene : Scene) (w : Weighting) (rows : ℕ → ℕ → ℕ) (s : ExactTable) (ts : Trees) (k n a b : ℕ) (more_boundaries : Bool) →
    has_boundary ts ≡ more_boundaries →
    (has_boundary ts ≡ true → cumulated (behind scene.grid.cells rows s identity 0 (items_behind n ts)) a b
    ≡ sum_from a b (λ c. s a c * sum_from c b (λ e. identity c e * segment_parts scene w n 0 c k ts e b))) →
    cumulated (in_order scene.grid.cells rows s (items_of n ts)) a b ≡ sum_from a b (λ c. s a c * ordered_parts scene w n None k ts c b) →
    cumulated (in_order scene.grid.cells rows s (items_behind n ts)) a b ≡ sum_from a b (λ c. s a c * ordered_parts scene w n (Some c) k ts c b)
behind_sums scene w rows s ts k n a b true h segment ordered =
    ap (λ t. cumulated t a b) (sym (behind-identity scene.grid.cells rows s (items_behind n ts)))
    ∙ segment h
    ∙ sum_from-same a b (λ c. s a c * sum_from c b (λ e. identity c e * segment_parts scene w n 0 c k ts e b))
    (λ c. s a c * ordered_parts scene w n (Some c) k ts c b)
    (λ c i j. ap (λ x. s a c * x)
    (sum_from-identity c b (λ e. segment_parts scene w n 0 c k ts e b) j
    ∙ up_to-same scene (λ cells. segment_weight scene w n 0 c ts cells) (λ cells. ordered_weight scene w n (Some c) ts cells)
    (paths_of_all Sequence k ts) (datings_of_all ts) c b
    (λ cells l. ap (λ x. ordered_weight scene w n (Some c) ts cells * x) (pow-zero _) ∙ omega arith)))
behind_sums scene w rows s ts k n a b false h segment ordered =
    ap (λ es. cumulated (in_order scene.grid.cells rows s es) a b) (items-last n ts h)
    ∙ ordered
    ∙ sum_from-same a b (λ c. s a c * ordered_parts scene w n None k ts c b) (λ c. s a c * ordered_parts scene w n (Some c) k ts c b)
    (λ c i j. ap (λ x. s a c * x)
    (up_to-same scene (λ cells. ordered_weight scene w n None ts cells) (λ cells. ordered_weight scene w n (Some c) ts cells)
    (paths_of_all Sequence k ts) (datings_of_all ts) c b
    (λ cells l. sym (last-weight scene w n c ts cells h))))

-- the weight of a Boundary that closes a span
abbrev pub closing_weight : Scene → Weighting → ℕ → ℕ → ℕ → List ℕ → ℕ
closing_weight scene w n opened c cells = product_from n w cells * closing scene opened c (first cells)

-- A span item is the segment, and then its Boundary with the weight of the span.
pub span_after : (scene : Scene) (w : Weighting) (row : ℕ → ℕ) (segment : ExactTable) (n opened c d : ℕ) → row d ≡ w n d →
    span_item scene.grid.cells segment opened row c d
    ≡ then_table segment (row_table (λ x. closing_weight scene w n opened c (x ∷ []))) c d
span_after scene w row segment n opened c d same =
    let f = span_weight scene.grid.cells (Some (c, d)) ^ opened in
    let m = cumulated segment c d in
    mul_assoc m f (row d) ∙ ap (λ x. m * (f * x)) same ∙ ap (λ x. m * x) (mul_comm f (w n d) ∙ ap (λ x. x * f) (omega arith))
    ∙ then_event segment (λ x. closing_weight scene w n opened c (x ∷ [])) c d
