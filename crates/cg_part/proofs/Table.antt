-- The tables of elements, by the formulas, are the part sums of their nodes.
use Rattle.std.proofs.Common.{◌≡◌, ℕ, ◌<◌, ◌≤◌, ◌+◌, ◌-◌, ◌*◌, true, cond, le-leb, List, [], ◌∷◌, refl, sym, ap, ◌∙◌, arith, Some, None, add-zero}
use Rattle.std.proofs.Math.Nat.{mul_assoc, mul_comm}
use Rattle.std.proofs.lemmas.Bool.{false≢true}
use Rattle.cg_meaning.specs.Tree.{Tree, Trees, Leaf, Boundary, Group, none, more, Sequence, Phase, After, Before, Free, count, datings_of, datings_of_all, paths_of, paths_of_all}
use Rattle.cg_meaning.specs.Scene.{Scene}
use Rattle.cg_meaning.specs.Weights.{Weighting}
use Rattle.cg_meaning.specs.Sums.{sum_over, product_from}
use Rattle.cg_meaning.proofs.Counts.{length-datings_of}
use Rattle.cg_part.specs.Part.{own_weight, suits}
use Rattle.cg_part.specs.Elements.{element_of, members_of, items_of, items_behind, open_events}
use Rattle.cg_part.specs.Tables.{ExactTable, sum_from, cumulated, identity, row_table, then_table, table_of, in_order, side_by_side, beside, span_item}
use Rattle.cg_part.specs.Laws.{AreRows, PartSumsAreTables}
use Rattle.cg_part.proofs.Ranges.{sum_from-same, sum_from-nest, sum_from-identity}
use Rattle.cg_part.proofs.Cumulated.{cumulated-beside, cumulated-identity, cumulated-after, cumulated-before}
use Rattle.cg_part.proofs.Beside.{part_beside}
use Rattle.cg_part.proofs.Parts.{up_to, up_to-same}
use Rattle.cg_part.proofs.Groups.{paths_from, in_phase, part_after, part_before}
use Rattle.cg_part.proofs.Members.{length-paths_of, lead, has_parts}
use Rattle.cg_part.proofs.PairsRead.{spans-at}
use Rattle.cg_part.proofs.Splits.{node_weight, beside_weight, ordered_weight, closing, segment_weight, beside-split, boundary-split}
use Rattle.cg_part.proofs.Rows.{HaveRows, first_rows, later_rows, event_row}
use Rattle.cg_part.proofs.Items.{has_boundary, span-there, behind, behind-put}
use Rattle.cg_part.proofs.Steps.{own, beside_parts, ordered_parts, segment_parts, paired, ordered_member, segment_member, leaf_table, boundary_member, behind_sums, closing_weight, span_after}

-- onto nothing
onto_identity : (a b x m : ℕ) → a ≤ b → x ≡ cumulated identity a b * m → x ≡ m
onto_identity a b x m h e = e ∙ ap (λ y. y * m) (cumulated-identity a b h) ∙ omega arith

-- the weight of a closing Boundary with that of the span, before what follows
closing_split : (v r c : ℕ) → v * r * c ≡ v * 1 * c * r
closing_split v r c = mul_assoc v r c ∙ ap (λ x. v * x) (mul_comm r c) ∙ sym (mul_assoc v c r) ∙ ap (λ x. x * c * r) (omega arith)

-- the rows of the members behind the first
others_rows : (scene : Scene) (w : Weighting) (rows : ℕ → ℕ → ℕ) (n : ℕ) (t : Tree) (ts : Trees) →
    HaveRows scene w n (datings_of_all (more t ts)) rows → HaveRows scene w (n + count t) (datings_of_all ts) rows
others_rows scene w rows n t ts have = later_rows scene w n (count t) (datings_of t) (datings_of_all ts) rows have (length-datings_of t)

mutual
  -- The sums of the table of a node's element are those of the datings of its own events.
  table_sums : (scene : Scene) (w : Weighting) (rows : ℕ → ℕ → ℕ) (t : Tree) (n a b : ℕ) → HaveRows scene w n (datings_of t) rows → a ≤ b →
      b < scene.grid.cells →
      cumulated (table_of scene.grid.cells rows (element_of n t)) a b ≡ own scene w n t a b
  table_sums scene w rows (Leaf name d) n a b have h within =
      leaf_table scene w (rows n) name d n a b within (event_row scene w n d [] rows have)
  table_sums scene w rows (Boundary name) n a b have h within =
      leaf_table scene w (rows n) name Free n a b within (event_row scene w n Free [] rows have)
  table_sums scene w rows (Group Sequence name ts) n a b have h within =
      ordered_sums scene w rows identity ts 0 n a b have h within ∙ sum_from-identity a b (λ c. ordered_parts scene w n None 0 ts c b) h
  table_sums scene w rows (Group Phase name ts) n a b have h within =
      onto_identity a b _ (beside_parts scene w n 0 ts a b) h (beside_sums scene w rows identity ts 0 n a b have h within)
  table_sums scene w rows (Group After name ts) n a b have h within =
      let weight : List ℕ → ℕ = λ cells. beside_weight scene w n ts cells in
      cumulated-after (side_by_side scene.grid.cells rows identity (members_of n ts)) a b h
      ∙ onto_identity 0 b _ (beside_parts scene w n 0 ts 0 b) (omega arith) (beside_sums scene w rows identity ts 0 n 0 b have (omega arith) within)
      ∙ sym (part_after scene weight (paths_of_all Phase 0 ts) (datings_of_all ts) a b (in_phase 0 ts) h)
      ∙ ap (λ ps. up_to scene weight ps (datings_of_all ts) a b) (sym (paths_from After 0 ts))
  table_sums scene w rows (Group Before name ts) n a b have h within =
      let weight : List ℕ → ℕ = λ cells. beside_weight scene w n ts cells in
      let last = scene.grid.cells - 1 in
      cumulated-before scene.grid.cells (side_by_side scene.grid.cells rows identity (members_of n ts)) a b h
      ∙ onto_identity a last _ (beside_parts scene w n 0 ts a last) (omega arith)
      (beside_sums scene w rows identity ts 0 n a last have (omega arith) (omega arith))
      ∙ sym (part_before scene weight (paths_of_all Phase 0 ts) (datings_of_all ts) a b (in_phase 0 ts) h (omega arith))
      ∙ ap (λ ps. up_to scene weight ps (datings_of_all ts) a b) (sym (paths_from Before 0 ts))

  -- the items of a Sequence onto a table, up to the first Boundary or without one
  ordered_sums : (scene : Scene) (w : Weighting) (rows : ℕ → ℕ → ℕ) (s : ExactTable) (ts : Trees) (k n a b : ℕ) →
      HaveRows scene w n (datings_of_all ts) rows → a ≤ b → b < scene.grid.cells →
      cumulated (in_order scene.grid.cells rows s (items_of n ts)) a b ≡ sum_from a b (λ c. s a c * ordered_parts scene w n None k ts c b)
  ordered_sums scene w rows s none k n a b have h within =
      sum_from-same a b (λ c. s a c) (λ c. s a c * ordered_parts scene w n None k none c b) (λ c i j. rw (le-leb c b j) (omega arith))
  ordered_sums scene w rows s (more (Leaf name d) ts) k n a b have h within =
      let row = row_table (rows n) in
      let mine = event_row scene w n d (datings_of_all ts) rows have in
      ordered_sums scene w rows (then_table s row) ts (k + 1) (n + 1) a b (others_rows scene w rows n (Leaf name d) ts have) h within
      ∙ ordered_member scene w s row (Leaf name d) ts k n a b refl within (λ c e i j. leaf_table scene w (rows n) name d n c e (omega arith) mine)
  ordered_sums scene w rows s (more (Boundary name) ts) k n a b have h within =
      let first = then_table s (row_table (rows n)) in
      let others = others_rows scene w rows n (Boundary name) ts have in
      behind_sums scene w rows first ts (k + 1) (n + 1) a b (has_boundary ts) refl
      (λ more_boundaries. segment_sums scene w rows first identity ts (k + 1) (n + 1) 0 a b others more_boundaries h within)
      (ordered_sums scene w rows first ts (k + 1) (n + 1) a b others h within)
      ∙ boundary_member scene w s (rows n) name ts (λ cells. ordered_weight scene w n None (more (Boundary name) ts) cells)
      (λ cells. product_from n w cells) k n a b within
      (λ c. event_row scene w n Free (datings_of_all ts) rows have c ∙ omega arith)
      (λ x ys. boundary-split scene w n None name ts x ys ∙ ap (λ v. v * ordered_weight scene w (n + 1) (Some x) ts ys) (omega arith))
  ordered_sums scene w rows s (more (Group kind name us) ts) k n a b have h within =
      let t = Group kind name us in
      let table = table_of scene.grid.cells rows (element_of n t) in
      let mine = first_rows scene w n (datings_of t) (datings_of_all ts) rows have in
      ordered_sums scene w rows (then_table s table) ts (k + 1) (n + count t) a b (others_rows scene w rows n t ts have) h within
      ∙ ordered_member scene w s table t ts k n a b refl within
      (λ c e i j. table_sums scene w rows (Group kind name us) n c e mine i (omega arith))

  -- the items behind a Boundary where another one follows: those of the segment so far, and the rest
  segment_sums : (scene : Scene) (w : Weighting) (rows : ℕ → ℕ → ℕ) (s segment : ExactTable) (ts : Trees) (k n opened a b : ℕ) →
      HaveRows scene w n (datings_of_all ts) rows → has_boundary ts ≡ true → a ≤ b → b < scene.grid.cells →
      cumulated (behind scene.grid.cells rows s segment opened (items_behind n ts)) a b
      ≡ sum_from a b (λ c. s a c * sum_from c b (λ e. segment c e * segment_parts scene w n opened c k ts e b))
  segment_sums scene w rows s segment none k n opened a b have more_boundaries h within = absurd (false≢true more_boundaries)
  segment_sums scene w rows s segment (more (Leaf name d) ts) k n opened a b have more_boundaries h within =
      let row = row_table (rows n) in
      let mine = event_row scene w n d (datings_of_all ts) rows have in
      ap (λ t. cumulated t a b)
      (behind-put scene.grid.cells rows s segment opened (element_of n (Leaf name d)) (items_behind (n + 1) ts)
      (span-there (n + 1) ts ∙ more_boundaries))
      ∙ segment_sums scene w rows s (then_table segment row) ts (k + 1) (n + 1) (opened + 1) a b
      (others_rows scene w rows n (Leaf name d) ts have) more_boundaries h within
      ∙ sum_from-same a b _ (λ c. s a c * sum_from c b (λ e. segment c e * segment_parts scene w n opened c k (more (Leaf name d) ts) e b))
      (λ c i j. ap (λ x. s a c * x)
      (segment_member scene w segment row (Leaf name d) ts k n opened c b refl within
      (λ e f l m. leaf_table scene w (rows n) name d n e f (omega arith) mine)))
  segment_sums scene w rows s segment (more (Boundary name) ts) k n opened a b have more_boundaries h within =
      let g = scene.grid.cells in
      let item : ExactTable = λ c d. span_item g segment opened (rows n) c d in
      let rest : ℕ → ℕ = λ d. ordered_parts scene w (n + 1) (Some d) (k + 1) ts d b in
      let others = others_rows scene w rows n (Boundary name) ts have in
      let mine : (d : ℕ) → rows n d ≡ w n d = event_row scene w n Free (datings_of_all ts) rows have in
      ap (λ i. cumulated (in_order g rows (then_table s (span_item g segment i (rows n))) (items_behind (n + 1) ts)) a b) (add-zero opened)
      ∙ behind_sums scene w rows (then_table s item) ts (k + 1) (n + 1) a b (has_boundary ts) refl
      (λ one_more. segment_sums scene w rows (then_table s item) identity ts (k + 1) (n + 1) 0 a b others one_more h within)
      (ordered_sums scene w rows (then_table s item) ts (k + 1) (n + 1) a b others h within)
      ∙ sum_from-nest a b (λ c. s a c) item rest
      ∙ sum_from-same a b (λ c. s a c * sum_from c b (λ d. item c d * rest d))
      (λ c. s a c * sum_from c b (λ e. segment c e * segment_parts scene w n opened c k (more (Boundary name) ts) e b))
      (λ c i j. ap (λ x. s a c * x)
      (sum_from-same c b (λ d. item c d * rest d) (λ d. then_table segment (row_table (λ x. closing_weight scene w n opened c (x ∷ []))) c d * rest d)
      (λ d l m. ap (λ x. x * rest d) (span_after scene w (rows n) segment n opened c d (mine d)))
      ∙ boundary_member scene w segment (λ x. closing_weight scene w n opened c (x ∷ [])) name ts
      (λ cells. segment_weight scene w n opened c (more (Boundary name) ts) cells) (λ cells. closing_weight scene w n opened c cells) k n c b within
      (λ x. refl)
      (λ x ys. ap (λ v. v * closing scene opened c (Some x)) (boundary-split scene w n (Some c) name ts x ys)
      ∙ closing_split (w n x) (ordered_weight scene w (n + 1) (Some x) ts ys) (closing scene opened c (Some x)))))
  segment_sums scene w rows s segment (more (Group kind name us) ts) k n opened a b have more_boundaries h within =
      let t = Group kind name us in
      let e = element_of n t in
      let table = table_of scene.grid.cells rows e in
      let mine = first_rows scene w n (datings_of t) (datings_of_all ts) rows have in
      ap (λ x. cumulated x a b)
      (behind-put scene.grid.cells rows s segment opened e (items_behind (n + count t) ts) (span-there (n + count t) ts ∙ more_boundaries))
      ∙ segment_sums scene w rows s (then_table segment table) ts (k + 1) (n + count t) (opened + open_events e) a b
      (others_rows scene w rows n t ts have) more_boundaries h within
      ∙ sum_from-same a b _ (λ c. s a c * sum_from c b (λ d. segment c d * segment_parts scene w n opened c k (more t ts) d b))
      (λ c i j. ap (λ x. s a c * x)
      (segment_member scene w segment table t ts k n opened c b refl within
      (λ d f l m. table_sums scene w rows (Group kind name us) n d f mine l (omega arith))))

  -- the members of a Phase, beside a table
  beside_sums : (scene : Scene) (w : Weighting) (rows : ℕ → ℕ → ℕ) (s : ExactTable) (ts : Trees) (k n a b : ℕ) →
      HaveRows scene w n (datings_of_all ts) rows → a ≤ b → b < scene.grid.cells →
      cumulated (side_by_side scene.grid.cells rows s (members_of n ts)) a b ≡ cumulated s a b * beside_parts scene w n k ts a b
  beside_sums scene w rows s none k n a b have h within = rw (le-leb a b h) (omega arith)
  beside_sums scene w rows s (more t ts) k n a b have h within =
      let table = table_of scene.grid.cells rows (element_of n t) in
      let rest = beside_parts scene w (n + count t) (k + 1) ts a b in
      beside_sums scene w rows (beside s table) ts (k + 1) (n + count t) a b (others_rows scene w rows n t ts have) h within
      ∙ ap (λ x. x * rest) (cumulated-beside s table a b h) ∙ mul_assoc (cumulated s a b) (cumulated table a b) rest
      ∙ ap (λ x. cumulated s a b * (x * rest))
      (table_sums scene w rows t n a b (first_rows scene w n (datings_of t) (datings_of_all ts) rows have) h within)
      ∙ ap (λ x. cumulated s a b * x)
      (sym (part_beside scene Phase k a b (paths_of t) (paths_of_all Phase (k + 1) ts) (datings_of t) (datings_of_all ts)
      (λ cells. beside_weight scene w n (more t ts) cells) (λ cells. node_weight scene w n t cells)
      (λ cells. beside_weight scene w (n + count t) ts cells)
      refl refl refl (paired t) (lead Phase k (k + 1) ts (omega arith))
      (λ xs ys l m. beside-split scene w n t ts xs ys (l ∙ length-paths_of t))))

-- They are the sums of the weights by numbers.
pub own_sums : (scene : Scene) (w : Weighting) (rows : ℕ → ℕ → ℕ) (t : Tree) (n a b : ℕ) → AreRows scene w n t rows → a ≤ b →
    b < scene.grid.cells →
    cumulated (table_of scene.grid.cells rows (element_of n t)) a b
    ≡ up_to scene (λ cells. own_weight scene w n t cells) (paths_of t) (datings_of t) a b
own_sums scene w rows t n a b have h within =
    table_sums scene w rows t n a b have h within
    ∙ up_to-same scene (λ cells. node_weight scene w n t cells) (λ cells. own_weight scene w n t cells) (paths_of t) (datings_of t) a b
    (λ cells l. ap (λ x. product_from n w cells * x) (sym (spans-at scene.grid.cells t cells (l ∙ length-paths_of t))))

-- Each entry of the table is the node's part sum.
pub part-table : PartSumsAreTables
part-table scene w n t rows have a b h within =
    ap (λ k. sum_over scene.grid.cells k (λ cells. cond (suits t scene a b cells) (own_weight scene w n t cells) 0)) (sym (length-paths_of t))
    ∙ sym (has_parts scene (table_of scene.grid.cells rows (element_of n t)) (λ cells. own_weight scene w n t cells) (paths_of t) (datings_of t) b
    (λ c d i j. own_sums scene w rows t n c d have i (omega arith)) a b h (omega arith))
