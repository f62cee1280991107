-- The parts of a node's members: their paths, datings, numbers and entries.
use Rattle.std.proofs.Common.{◌≡◌, ℕ, ◌<◌, ◌≤◌, ◌+◌, ◌*◌, max, Bool, true, false, cond, ◌&&◌, leb, le-leb, List, [], ◌∷◌, ◌++◌, map, length, refl, sym, ap, ◌∙◌, arith, length-append}
use Rattle.std.proofs.lemmas.List.{length-map}
use Rattle.std.proofs.lemmas.Bool.{lt-leb}
use Rattle.cg_meaning.specs.Tree.{Tree, Trees, Leaf, Boundary, Group, none, more, Kind, Sequence, Step, Dating, count, count_all, paths_of, paths_of_all}
use Rattle.cg_meaning.specs.Scene.{Scene, admits}
use Rattle.cg_part.specs.Part.{reaches}
use Rattle.cg_part.specs.Tables.{ExactTable, sum_from, cumulated, row_table, then_table}
use Rattle.cg_part.proofs.Ranges.{sum_below-range, sum_from-same, sum_from-nest, sum_from-scale_right}
use Rattle.cg_part.proofs.Cumulated.{entry}
use Rattle.cg_part.proofs.Blocks.{step, and_false}
use Rattle.cg_part.proofs.Ordered.{part_then}
use Rattle.cg_part.proofs.Parts.{starts, at, up_to, at-sum, LeadBeyond}
use Rattle.std.specs.List.{zip}

-- each event has a path
mutual
  pub length-paths_of : (t : Tree) → length (paths_of t) ≡ count t
  length-paths_of (Leaf name d) = refl
  length-paths_of (Boundary name) = refl
  length-paths_of (Group kind name ts) = length-paths_of_all kind 0 ts

  pub length-paths_of_all : (kind : Kind) (k : ℕ) (ts : Trees) → length (paths_of_all kind k ts) ≡ count_all ts
  length-paths_of_all kind k none = refl
  length-paths_of_all kind k (more t ts) =
      rw (length-append, length-map) (omega (arith, length-paths_of t, length-paths_of_all kind (k + 1) ts))

-- with the paths of a member
lead-append : (kind : Kind) (k j : ℕ) (ps qs : List (List Step)) → k < j → LeadBeyond kind k qs →
    LeadBeyond kind k (map (λ p. step kind j ∷ p) ps ++ qs)
lead-append kind k j [] qs h r = r
lead-append kind k j (p ∷ ps) qs h r = ((refl, h), lead-append kind k j ps qs h r)

-- the paths of later members lead to later members
pub lead : (kind : Kind) (k j : ℕ) (ts : Trees) → k < j → LeadBeyond kind k (paths_of_all kind j ts)
lead kind k j none h = tt
lead kind k j (more t ts) h = lead-append kind k j (paths_of t) (paths_of_all kind (j + 1) ts) h (lead kind k (j + 1) ts (omega arith))

-- an event before a, after b, and between
leaf_low : (ad : Bool) (a b c v : ℕ) → c < a → cond (((ad && true) && (leb a c && true)) && leb (max a c) b) v 0 ≡ 0
leaf_low ad a b c v h = rw (lt-leb a c h, and_false) refl

leaf_high : (ad : Bool) (a b c v : ℕ) → b < c → cond (((ad && true) && (leb a c && true)) && leb (max a c) b) v 0 ≡ 0
leaf_high ad a b c v h = rw (lt-leb (max a c) b (omega arith), and_false) refl

leaf_between : (ad : Bool) (a b c v : ℕ) → a ≤ c → c ≤ b → cond (((ad && true) && (leb a c && true)) && leb (max a c) b) v 0 ≡ cond ad v 0
leaf_between true a b c v h l = rw (le-leb a c h, le-leb (max a c) b (omega arith)) refl
leaf_between false a b c v h l = refl

-- One event has the sum of its weights at the cells that its dating admits.
pub part_leaf : (scene : Scene) (weight : List ℕ → ℕ) (d : Dating) (a b : ℕ) → b < scene.grid.cells →
    up_to scene weight ([] ∷ []) (d ∷ []) a b ≡ sum_from a b (λ c. cond (admits scene.grid d c) (weight (c ∷ [])) 0)
part_leaf scene weight d a b h =
    let f : ℕ → ℕ = λ c. cond (starts scene ([] ∷ []) (d ∷ []) a (c ∷ []) && leb (max a c) b) (weight (c ∷ [])) 0 in
    sum_below-range scene.grid.cells a b f h
    (λ c l. leaf_low (admits scene.grid d c) a b c (weight (c ∷ [])) l) (λ c l. leaf_high (admits scene.grid d c) a b c (weight (c ∷ [])) l)
    ∙ sum_from-same a b f (λ c. cond (admits scene.grid d c) (weight (c ∷ [])) 0)
    (λ c l m. leaf_between (admits scene.grid d c) a b c (weight (c ∷ [])) l m)

-- the table has the part sums of these events, up to b
abbrev pub HasParts : Scene → ExactTable → (List ℕ → ℕ) → List (List Step) → List Dating → ℕ → Type 0
HasParts scene t weight ps ds b = (c d : ℕ) → c ≤ d → d ≤ b → t c d ≡ at scene weight ps ds c d

-- by the sums up to each cell
pub has_parts : (scene : Scene) (t : ExactTable) (weight : List ℕ → ℕ) (ps : List (List Step)) (ds : List Dating) (b : ℕ) →
    ((c d : ℕ) → c ≤ d → d ≤ b → cumulated t c d ≡ up_to scene weight ps ds c d) → HasParts scene t weight ps ds b
has_parts scene t weight ps ds b same c d h l =
    entry (λ e. t c e) (λ e. at scene weight ps ds c e) c d h (λ e m k. same c e m (omega arith) ∙ sym (at-sum scene weight ps ds c e))

-- an event after a table
pub then_event : (s : ExactTable) (row : ℕ → ℕ) (a b : ℕ) → cumulated s a b * row b ≡ then_table s (row_table row) a b
then_event s row a b = sym (sum_from-scale_right a b (row b) (λ c. s a c))

-- A member onto the earlier ones, before the later ones. The weight of the later ones may depend on what it reaches.
pub then_member : (scene : Scene) (k a b : ℕ) (s t : ExactTable) (ps qs : List (List Step)) (ds es : List Dating) (whole : ℕ → List ℕ →
    ℕ) (first : List ℕ → ℕ)
    (second : ℕ → List ℕ → ℕ) →
    length ds ≡ length ps → LeadBeyond Sequence k qs → b < scene.grid.cells → HasParts scene t first ps ds b →
    ((c : ℕ) (xs ys : List ℕ) → length xs ≡ length ps → length ys ≡ length qs → starts scene ps ds c xs ≡ true →
    whole c (xs ++ ys) ≡ first xs * second (reaches c (zip ps xs)) ys) →
    sum_from a b (λ c. then_table s t a c * up_to scene (second c) qs es c b)
    ≡ sum_from a b (λ c. s a c * up_to scene (whole c) (map (λ p. step Sequence k ∷ p) ps ++ qs) (ds ++ es) c b)
then_member scene k a b s t ps qs ds es whole first second l h within parts weigh =
    let rest : ℕ → ℕ = λ c. up_to scene (second c) qs es c b in
    let all : ℕ → ℕ = λ c. up_to scene (whole c) (map (λ p. step Sequence k ∷ p) ps ++ qs) (ds ++ es) c b in
    sum_from-nest a b (λ c. s a c) t rest
    ∙ sum_from-same a b (λ d. s a d * sum_from d b (λ c. t d c * rest c)) (λ d. s a d * all d)
    (λ d m o.
    ap (λ x. s a d * x)
    (sum_from-same d b (λ c. t d c * rest c) (λ c. at scene first ps ds d c * rest c) (λ c i j. ap (λ x. x * rest c) (parts d c i j))
    ∙ sym (part_then scene k d b ps qs ds es (whole d) first second l h o within (λ xs ys. weigh d xs ys))))
