use Rattle.std.proofs.Common.{◌≡◌, ◌<◌, ◌≤◌, ◌^◌, ◌↔◌, ◌∙◌, List, Bool, true, false, Some, length, map, arith, rules, ap, sym, subst, inl, inr}
use Rattle.std.specs.Prelude.{IsTrue}
use Rattle.std.proofs.lemmas.Bool.{cases_eq}
use Rattle.std.proofs.lemmas.List.{take_all}
use Rattle.cg_enc.specs.Enclosure.{Enclosure, IsExponent, IsFirm, IsZero}
use Rattle.cg_table.specs.Losses.{greatest_loss}
use Rattle.cg_table.specs.Row.{AreEntries}
use Rattle.cg_marginal.specs.Finished.{ppm_pair, whole_of}
use Rattle.cg_marginal.proofs.WholeLemmas.{part-IsExponent, whole-IsFirm, whole-IsZero}
use Rattle.cg_marginal.proofs.FinishedLemmas.{IsTold, ArePairs-made, finished-impossible, finished-pairs}
use Rattle.cg_marginal.proofs.parts.shares.Goals as goal

not_zero : (b : Bool) (a : Enclosure) → (IsTrue b ↔ IsZero a) → b ≡ false → 0 < a.hi
not_zero true a test e = absurd (cc)
not_zero false a test e =
    elim (cases_eq a.hi 0) [
      | inl z ↦ let yes : IsTrue false = test.1 z in absurd (cc)
      | inr n ↦ omega arith
    ]

told : (row : List Enclosure) (whole : Enclosure) (zero : Bool) → AreEntries row → length row ≤ 512 → greatest_loss row < 2 ^ 41 → whole ≡ whole_of row → (IsTrue zero ↔ IsZero whole) → zero ≡ false → IsTold row
told row whole zero entries few loss e test full = record {
  valid = entries.valid;
  few = few;
  loss = loss;
  some = subst (λ (a : Enclosure). 0 < a.hi) e (not_zero zero whole test full);
}

pub returns-then-is_zero-clause-value : goal.returns-then-is_zero-clause-value
returns-then-is_zero-clause-value c =
    let zero : IsZero c.whole_of-whole.result = search rules in
    sym (finished-impossible c.args.n.now ((whole-IsZero c.args.n.now c.whole_of-whole.ensures.entries.valid).0 (subst IsZero c.whole_of-whole.ensures.value zero)))

pub ppm-lower-requires-clause-right : goal.ppm-lower-requires-clause-right
ppm-lower-requires-clause-right c =
    subst (λ (a : Enclosure). IsExponent (2 ^ 60) a.exp) (sym c.whole_of-whole.ensures.value)
    (part-IsExponent c.args.n.now (length c.args.n.now) c.whole_of-whole.ensures.entries.valid (omega arith) c.requires.few c.requires.reach)

pub ppm-lower-requires-clause-firm : goal.ppm-lower-requires-clause-firm
ppm-lower-requires-clause-firm c =
    let t = told c.args.n.now c.whole_of-whole.result c.is_zero.result c.whole_of-whole.ensures.entries c.requires.few c.requires.loss c.whole_of-whole.ensures.value c.is_zero.ensures.test c.if-is_zero.false in
    subst IsFirm (sym c.whole_of-whole.ensures.value) (whole-IsFirm c.args.n.now t.valid t.few t.loss t.some)

pub new-requires : goal.new-requires
new-requires c =
    let past : length c.args.n.now ≤ c.loop-cell.cell = omega arith in
    ArePairs-made c.args.n.now c.whole_of-whole.result c.loop-cell.cell c.loop-cell.cells.items (told c.args.n.now c.whole_of-whole.result c.is_zero.result c.whole_of-whole.ensures.entries c.requires.few c.requires.loss c.whole_of-whole.ensures.value c.is_zero.ensures.test c.if-is_zero.false) c.whole_of-whole.ensures.value past c.loop-cell.invariant

pub returns-clause-value : goal.returns-clause-value
returns-clause-value c =
    let past : length c.args.n.now ≤ c.loop-cell.cell = omega arith in
    let t = told c.args.n.now c.whole_of-whole.result c.is_zero.result c.whole_of-whole.ensures.entries c.requires.few c.requires.loss c.whole_of-whole.ensures.value c.is_zero.ensures.test c.if-is_zero.false in
    let all = ap (map (ppm_pair c.whole_of-whole.result)) (take_all c.loop-cell.cell c.args.n.now past) in
    let whole = ap (λ (a : Enclosure). map (ppm_pair a) c.args.n.now) c.whole_of-whole.ensures.value in
    ap Some (c.new.ensures ∙ c.loop-cell.invariant ∙ all ∙ whole) ∙ sym (finished-pairs c.args.n.now t.valid t.some)
