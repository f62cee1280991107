-- Tables side by side in any order, and one of them apart from the others.
use Rattle.std.proofs.Common.{◌≡◌, ℕ, ◌*◌, ◌≤◌, sym, ap, ◌∙◌, mul-one, one-mul, mul_right_comm}
use Rattle.std.proofs.Math.Nat.{mul_comm, mul_assoc}
use Rattle.cg_part.specs.Elements.{Elements, none, more}
use Rattle.cg_part.specs.Tables.{ExactTable, cumulated, identity, beside, table_of, side_by_side}
use Rattle.cg_part.proofs.Cumulated.{cumulated-beside, cumulated-identity, entry}
use Rattle.cg_path.specs.Laws.{OrderDoesNotCount}

-- the sums of the members, multiplied
products : ℕ → (ℕ → ℕ → ℕ) → Elements → ℕ → ℕ → ℕ
products g rows none a b = 1
products g rows (more e es) a b = cumulated (table_of g rows e) a b * products g rows es a b

-- Side by side the sums are multiplied.
all_sums : (g : ℕ) (rows : ℕ → ℕ → ℕ) (es : Elements) (others : ExactTable) (a b : ℕ) → a ≤ b →
    cumulated (side_by_side g rows others es) a b ≡ cumulated others a b * products g rows es a b
unfolding products
all_sums g rows none others a b h = sym (mul-one (cumulated others a b))
all_sums g rows (more e es) others a b h =
    all_sums g rows es (beside others (table_of g rows e)) a b h
    ∙ ap (λ x. x * products g rows es a b) (cumulated-beside others (table_of g rows e) a b h)
    ∙ mul_assoc (cumulated others a b) (cumulated (table_of g rows e) a b) (products g rows es a b)

-- A table beside the earlier members, or beside all others.
pub apart : (g : ℕ) (rows : ℕ → ℕ → ℕ) (others t : ExactTable) (es : Elements) (a b : ℕ) → a ≤ b →
    side_by_side g rows (beside others t) es a b ≡ beside (side_by_side g rows others es) t a b
apart g rows others t es a b h =
    entry (λ c. side_by_side g rows (beside others t) es a c) (λ c. beside (side_by_side g rows others es) t a c) a b h
    (λ c i j. all_sums g rows es (beside others t) a c i
    ∙ ap (λ x. x * products g rows es a c) (cumulated-beside others t a c i)
    ∙ mul_right_comm (cumulated others a c) (cumulated t a c) (products g rows es a c)
    ∙ ap (λ x. x * cumulated t a c) (sym (all_sums g rows es others a c i))
    ∙ sym (cumulated-beside (side_by_side g rows others es) t a c i))

-- The order of tables side by side does not count.
pub any-order : OrderDoesNotCount
any-order a b h = record {
  swapped = λ s t.
      entry (λ c. beside s t a c) (λ c. beside t s a c) a b h
      (λ c i j. cumulated-beside s t a c i ∙ mul_comm (cumulated s a c) (cumulated t a c) ∙ sym (cumulated-beside t s a c i));
  regrouped = λ s t u.
      entry (λ c. beside (beside s t) u a c) (λ c. beside s (beside t u) a c) a b h
      (λ c i j. cumulated-beside (beside s t) u a c i
      ∙ ap (λ x. x * cumulated u a c) (cumulated-beside s t a c i)
      ∙ mul_assoc (cumulated s a c) (cumulated t a c) (cumulated u a c)
      ∙ ap (λ x. cumulated s a c * x) (sym (cumulated-beside t u a c i))
      ∙ sym (cumulated-beside s (beside t u) a c i));
  nothing = λ t.
      entry (λ c. beside identity t a c) (λ c. t a c) a b h
      (λ c i j. cumulated-beside identity t a c i
      ∙ ap (λ x. x * cumulated t a c) (cumulated-identity a c i)
      ∙ one-mul (cumulated t a c));
}
