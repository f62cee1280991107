-- What one call of the contexts makes of tables that enclose exact ones.
use Rattle.std.proofs.Common.{ℕ, ◌*◌, ◌+◌, ◌^◌, ◌<◌, ◌≤◌, List, arith, refl, subst}
use Rattle.std.proofs.Math.Nat.{mul-pos, one-le-pow}
use Rattle.cg_enc.specs.Enclosure.{Enclosure}
use Rattle.cg_enc.specs.Rounding.{times}
use Rattle.cg_table.specs.Losses.{greatest_loss, greatest_reach}
use Rattle.cg_table.specs.Table.{Table, entry, row_entry, table_loss, table_reach}
use Rattle.cg_table.proofs.FormulaLemmas.{AllWithin, times_encloses}
use Rattle.cg_table.proofs.WithinLemmas.{IsWithin, times-within}
use Rattle.cg_meaning.specs.Pairs.{factorial}
use Rattle.cg_part.specs.Tables as part
use Rattle.cg_recipe.proofs.StepLemmas.{IsMade, IsRow, of-formula, entries-within, read-within}
use Rattle.cg_path.specs.Contexts as exact
use Rattle.cg_context.specs.Formulas.{root_entry, root_context, into_phase_entry, into_phase_of, into_after_entry, into_after_of, into_before_entry, into_before_of, back_entry, back_of, back_row_entry, back_row_of, into_sequence_entry, into_sequence_of, into_span_entry, into_span_of, at_member_entry, at_leaf_entry, at_end_entry}
use Rattle.cg_recipe.specs.Enclosed.{EncloseSums}
use Rattle.cg_context.proofs.CallLemmas.{factorial-some, root-within, root-encloses, into_phase-within, into_phase-encloses, into_after-within, into_after-encloses, back-within, back-encloses, back_row-within, back_row-encloses, into_sequence-within, into_sequence-encloses, into_span-within, into_span-encloses, at_leaf-within, at_leaf-encloses, at_end-within, at_end-encloses, at_member-within, at_member-encloses}

-- a table's entries lose and reach no more than the table
inside : {cells : ℕ} {t : Table} {x : part.ExactTable} {d : ℕ} → IsMade cells t x d → AllWithin (entry t) (table_loss t) (table_reach t * 2 ^ 31)
inside {t = t} h = entries-within t h.valid

-- the context of a whole tree
pub root-made : (cells : ℕ) → IsMade cells (root_context cells) exact.root 1
root-made cells =
    of-formula cells cells root_entry exact.root exact.root 1 0 66 refl (omega arith) (λ a b le less. root-within a b)
    (λ a b le less. root-encloses a b) (λ a b le less. refl)

-- of a member of a Phase
pub into_phase-made : {cells : ℕ} {x : Table} {X : part.ExactTable} {d : ℕ} {q : Table} {Q : part.ExactTable} {e : ℕ} → IsMade cells x X d →
    IsMade cells q Q e →
    IsMade cells (into_phase_of x q) (exact.into_phase cells X Q) (d * e)
into_phase-made {cells = cells} {x = x} {X = X} {d = d} {q = q} {Q = Q} {e = e} h k =
    subst (λ (n : ℕ). IsMade cells (into_phase_of x q) (exact.into_phase n X Q) (d * e)) h.each
    (of-formula cells x.cells (into_phase_entry x.cells (entry x) (entry q)) (exact.into_phase x.cells X Q) (exact.into_phase x.cells X Q)
    (d * e) _ _ h.each (mul-pos h.some k.some)
    (λ a b le less. into_phase-within (entry x) (entry q) (table_loss x) (table_reach x * 2 ^ 31) (table_loss q) (table_reach q * 2 ^ 31) x.cells a b
    (inside h) (inside k) le less)
    (λ a b le less. into_phase-encloses (entry x) (entry q) X Q d e (table_loss x) (table_reach x * 2 ^ 31) (table_loss q)
    (table_reach q * 2 ^ 31) x.cells a b h.some k.some (inside h) (inside k)
    h.encloses.at (λ i j le' less'. k.encloses.at i j le' (omega (arith, h.each, k.each))) le less)
    (λ a b le less. refl))

-- of an After group's Phase
pub into_after-made : {cells : ℕ} {x : Table} {X : part.ExactTable} {d : ℕ} → IsMade cells x X d → IsMade cells (into_after_of x) (exact.into_after cells X) d
into_after-made {cells = cells} {x = x} {X = X} {d = d} h =
    subst (λ (n : ℕ). IsMade cells (into_after_of x) (exact.into_after n X) d) h.each
    (of-formula cells x.cells (into_after_entry x.cells (entry x)) (exact.into_after x.cells X) (exact.into_after x.cells X) d _ _ h.each h.some
    (λ a b le less. into_after-within (entry x) (table_loss x) (table_reach x * 2 ^ 31) x.cells a b (inside h) le less)
    (λ a b le less. into_after-encloses (entry x) X d (table_loss x) (table_reach x * 2 ^ 31) x.cells a b h.some (inside h) h.encloses.at le less)
    (λ a b le less. refl))

-- of a Before group's Phase
pub into_before-made : {cells : ℕ} {x : Table} {X : part.ExactTable} {d : ℕ} → IsMade cells x X d → IsMade cells (into_before_of x) (exact.into_before X) d
into_before-made {cells = cells} {x = x} {X = X} {d = d} h =
    of-formula cells x.cells (into_before_entry (entry x)) (exact.into_before X) (exact.into_before X) d (table_loss x) (table_reach x * 2 ^ 31) h.each h.some
    (λ a b le less. inside h a a)
    (λ a b le less. h.encloses.at a a (omega arith) (omega arith))
    (λ a b le less. refl)

-- of what precedes an item
pub back-made : {cells : ℕ} {v : Table} {V : part.ExactTable} {d : ℕ} {t : Table} {T : part.ExactTable} {e : ℕ} → IsMade cells v V d → IsMade cells t T e →
    IsMade cells (back_of v t) (exact.back cells V T) (d * e)
back-made {cells = cells} {v = v} {V = V} {d = d} {t = t} {T = T} {e = e} h k =
    subst (λ (n : ℕ). IsMade cells (back_of v t) (exact.back n V T) (d * e)) h.each
    (of-formula cells v.cells (back_entry v.cells (entry v) (entry t)) (exact.back v.cells V T) (exact.back v.cells V T) (d * e) _ _ h.each
    (mul-pos h.some k.some)
    (λ a b le less. back-within (entry v) (entry t) (table_loss v) (table_reach v * 2 ^ 31) (table_loss t) (table_reach t * 2 ^ 31) v.cells a b
    (inside h) (inside k))
    (λ a b le less. back-encloses (entry v) (entry t) V T d e (table_loss v) (table_reach v * 2 ^ 31) (table_loss t)
    (table_reach t * 2 ^ 31) v.cells a b h.some k.some (inside h) (inside k)
    h.encloses.at (λ i j le' less'. k.encloses.at i j le' (omega (arith, h.each, k.each))) le less)
    (λ a b le less. refl))

-- of what precedes an event
pub back_row-made : {cells : ℕ} {v : Table} {V : part.ExactTable} {d : ℕ} {w : List Enclosure} {y : ℕ → ℕ} {e : ℕ} → IsMade cells v V d → IsRow cells w y e →
    IsMade cells (back_row_of v w) (exact.back_row cells V y) (d * e)
back_row-made {cells = cells} {v = v} {V = V} {d = d} {w = w} {y = y} {e = e} h r =
    let weights : (b : ℕ) → IsWithin (row_entry w b) (greatest_loss w) (greatest_reach w * 2 ^ 31) = λ b. read-within w b r.valid in
    subst (λ (n : ℕ). IsMade cells (back_row_of v w) (exact.back_row n V y) (d * e)) h.each
    (of-formula cells v.cells (back_row_entry v.cells (entry v) (row_entry w)) (exact.back_row v.cells V y) (exact.back_row v.cells V y)
    (d * e) _ _ h.each (mul-pos h.some r.some)
    (λ a b le less. back_row-within (entry v) (row_entry w) (table_loss v) (table_reach v * 2 ^ 31) (greatest_loss w)
    (greatest_reach w * 2 ^ 31) v.cells a b (inside h) weights)
    (λ a b le less. back_row-encloses (entry v) (row_entry w) V y d e (table_loss v) (table_reach v * 2 ^ 31) (greatest_loss w)
    (greatest_reach w * 2 ^ 31) v.cells a b h.some r.some (inside h) weights
    h.encloses.at (λ j less'. r.encloses.at j (omega (arith, h.each, r.each))) le less)
    (λ a b le less. refl))

-- of an item of a Sequence
pub into_sequence-made : {cells : ℕ} {p : Table} {P : part.ExactTable} {d : ℕ} {v : Table} {V : part.ExactTable} {e : ℕ} → IsMade cells p P d →
    IsMade cells v V e →
    IsMade cells (into_sequence_of p v) (exact.into_sequence P V) (d * e)
into_sequence-made {cells = cells} {p = p} {P = P} {d = d} {v = v} {V = V} {e = e} h k =
    of-formula cells p.cells (into_sequence_entry (entry p) (entry v)) (exact.into_sequence P V) (exact.into_sequence P V) (d * e) _ _ h.each
    (mul-pos h.some k.some)
    (λ a b le less. into_sequence-within (entry p) (entry v) (table_loss p) (table_reach p * 2 ^ 31) (table_loss v)
    (table_reach v * 2 ^ 31) p.cells a b (inside h) (inside k) (omega arith))
    (λ a b le less. into_sequence-encloses (entry p) (entry v) P V d e (table_loss p) (table_reach p * 2 ^ 31) (table_loss v)
    (table_reach v * 2 ^ 31) p.cells a b h.some k.some (inside h) (inside k)
    h.encloses.at (λ i j le' less'. k.encloses.at i j le' (omega (arith, h.each, k.each))) le less)
    (λ a b le less. refl)

-- of what stands between two Boundaries
pub into_span-made : {cells : ℕ} {x : Table} {X : part.ExactTable} {d : ℕ} (opened : ℕ) → cells ≤ 512 → IsMade cells x X d →
    IsMade cells (into_span_of x opened) (exact.into_span cells X opened) (d * factorial cells ^ opened)
into_span-made {cells = cells} {x = x} {X = X} {d = d} opened few h =
    let small : x.cells < 2 ^ 33 = omega (arith, h.each) in
    subst (λ (n : ℕ). IsMade cells (into_span_of x opened) (exact.into_span n X opened) (d * factorial n ^ opened)) h.each
    (of-formula cells x.cells (into_span_entry x.cells (entry x) opened) (exact.into_span x.cells X opened) (exact.into_span x.cells X opened)
    (d * factorial x.cells ^ opened) _ _ h.each
    (mul-pos h.some (one-le-pow opened (factorial x.cells) (factorial-some x.cells)))
    (λ a b le less. into_span-within (entry x) (table_loss x) (table_reach x * 2 ^ 31) opened x.cells a b (inside h) small le less)
    (λ a b le less. into_span-encloses (entry x) X d (table_loss x) (table_reach x * 2 ^ 31) opened x.cells a b h.some (inside h) h.encloses.at small le less)
    (λ a b le less. refl))

-- the entries of a leaf by itself
pub leaf-entries : {cells : ℕ} {x : Table} {X : part.ExactTable} {d : ℕ} {w : List Enclosure} {y : ℕ → ℕ} {e : ℕ} → IsMade cells x X d → IsRow cells w y e →
    EncloseSums cells (λ c. times (at_leaf_entry (entry x) c) (row_entry w c)) (λ c. exact.at_leaf X c * y c)
leaf-entries {cells = cells} {x = x} {X = X} {d = d} {w = w} {y = y} {e = e} h r =
    let weights : (b : ℕ) → IsWithin (row_entry w b) (greatest_loss w) (greatest_reach w * 2 ^ 31) = λ b. read-within w b r.valid in
    let own : (c : ℕ) → c < cells → IsWithin (at_leaf_entry (entry x) c) (table_loss x + 3 * x.cells) (table_reach x * 2 ^ 31 + x.cells) =
    λ c less. at_leaf-within (entry x) (table_loss x) (table_reach x * 2 ^ 31) x.cells c (inside h) (omega (arith, h.each)) in
    record {
      divisor = d * e;
      some = mul-pos h.some r.some;
      valid = λ c less. (times-within (at_leaf_entry (entry x) c) (row_entry w c) _ _ _ _ (own c less) (weights c)).valid;
      each = λ c less. times_encloses (at_leaf_entry (entry x) c) (row_entry w c) _ _ _ _ (exact.at_leaf X c) d (y c) e (own c less) (weights c)
          (at_leaf-encloses (entry x) X d (table_loss x) (table_reach x * 2 ^ 31) x.cells c h.some (inside h) h.encloses.at (omega (arith, h.each)))
          (r.encloses.at c (omega (arith, r.each)));
    }

-- those of an item by itself
pub member-entries : {cells : ℕ} {p : Table} {P : part.ExactTable} {d : ℕ} {v : Table} {V : part.ExactTable} {f : ℕ} {w : List Enclosure} {y : ℕ → ℕ} {e : ℕ} →
    IsMade cells p P d → IsMade cells v V f → IsRow cells w y e →
    EncloseSums cells (λ c. times (at_member_entry (entry p) (entry v) c) (row_entry w c)) (λ c. exact.at_member P V c * y c)
member-entries {cells = cells} {p = p} {P = P} {d = d} {v = v} {V = V} {f = f} {w = w} {y = y} {e = e} h k r =
    let weights : (b : ℕ) → IsWithin (row_entry w b) (greatest_loss w) (greatest_reach w * 2 ^ 31) = λ b. read-within w b r.valid in
    let own : (c : ℕ) → c < cells → IsWithin (at_member_entry (entry p) (entry v) c) (table_loss p + table_loss v + 6 * p.cells + 3)
    (table_reach p * 2 ^ 31 + table_reach v * 2 ^ 31 + 2 * p.cells + 63) =
    λ c less. at_member-within (entry p) (entry v) (table_loss p) (table_reach p * 2 ^ 31) (table_loss v) (table_reach v * 2 ^ 31) p.cells c
    (inside h) (inside k) (omega (arith, h.each)) in
    record {
      divisor = d * f * e;
      some = mul-pos (mul-pos h.some k.some) r.some;
      valid = λ c less. (times-within (at_member_entry (entry p) (entry v) c) (row_entry w c) _ _ _ _ (own c less) (weights c)).valid;
      each = λ c less. times_encloses (at_member_entry (entry p) (entry v) c) (row_entry w c) _ _ _ _ (exact.at_member P V c) (d * f) (y c) e
          (own c less) (weights c)
          (at_member-encloses (entry p) (entry v) P V d f (table_loss p) (table_reach p * 2 ^ 31) (table_loss v)
          (table_reach v * 2 ^ 31) p.cells c h.some k.some (inside h) (inside k)
          h.encloses.at (λ i j le' less'. k.encloses.at i j le' (omega (arith, h.each, k.each))) (omega (arith, h.each)))
          (r.encloses.at c (omega (arith, r.each)));
    }

-- those of the Boundary that closes an item
pub end-entries : {cells : ℕ} {x : Table} {X : part.ExactTable} {d : ℕ} {t : Table} {T : part.ExactTable} {e : ℕ} → IsMade cells x X d → IsMade cells t T e →
    EncloseSums cells (λ c. at_end_entry (entry x) (entry t) c) (λ c. exact.at_end X T c)
end-entries {cells = cells} {x = x} {X = X} {d = d} {t = t} {T = T} {e = e} h k = record {
  divisor = d * e;
  some = mul-pos h.some k.some;
  valid = λ c less. (at_end-within (entry x) (entry t) (table_loss x) (table_reach x * 2 ^ 31) (table_loss t) (table_reach t * 2 ^ 31) x.cells c
      (inside h) (inside k) (omega (arith, h.each))).valid;
  each = λ c less. at_end-encloses (entry x) (entry t) X T d e (table_loss x) (table_reach x * 2 ^ 31) (table_loss t)
      (table_reach t * 2 ^ 31) x.cells c h.some k.some (inside h) (inside k)
      h.encloses.at (λ i j le' less'. k.encloses.at i j le' (omega (arith, h.each, k.each))) (omega (arith, h.each));
}
