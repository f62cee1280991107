use Rattle.std.proofs.Common.{◌≡◌, ◌+◌, ◌-◌, ◌^◌, ◌<◌, ◌≤◌, ℕ, List, length, arith, ◌∙◌, sym, ap, subst, take, replicate, max, slice_index_or}
use Rattle.std.specs.List.{All}
use Rattle.std.proofs.lemmas.List.Elements.{All-more, All-append, All-replicate, All-take}
use Rattle.std.proofs.lemmas.List.{length-take}
use Rattle.std.proofs.lemmas.List.Sums.{fold_more}
use Rattle.std.proofs.Math.Seq.{take-length}
use Rattle.cg_enc.specs.Enclosure.{Enclosure, exact_zero, IsEnclosure, IsExponent}
use Rattle.cg_enc.proofs.WholeNumbers.{zero-IsEnclosure}
use Rattle.cg_table.specs.Live.{live_rows, padded}
use Rattle.cg_table.specs.Losses.{loss_of, reach_of, greatest_loss, greatest_reach}
use Rattle.cg_table.specs.Table.{Table, start}
use Rattle.cg_table.proofs.LiveLemmas.{length-padded, loss-padded, reach-padded, padded-take}
use Rattle.cg_table.proofs.PlaceLemmas.{start_rises}
use Rattle.cg_table.proofs.tri.Tri.of_rows.Goals as goal

greatest_loss-more : (xs : List Enclosure) (i loss new : ℕ) (x : Enclosure) → i < length xs → loss ≡ greatest_loss (take i xs) → new ≡ max loss (loss_of x) → x ≡ slice_index_or xs i x →
    new ≡ greatest_loss (take (i + 1) xs)
greatest_loss-more xs i loss new x less before e is = e ∙ rw before (ap (λ (y : Enclosure). max (greatest_loss (take i xs)) (loss_of y)) is ∙ sym (fold_more (λ k e. max k (loss_of e)) 0 xs i x less))

greatest_reach-more : (xs : List Enclosure) (i reach new : ℕ) (x : Enclosure) → i < length xs → reach ≡ greatest_reach (take i xs) → new ≡ max reach (reach_of x) → x ≡ slice_index_or xs i x →
    new ≡ greatest_reach (take (i + 1) xs)
greatest_reach-more xs i reach new x less before e is = e ∙ rw before (ap (λ (y : Enclosure). max (greatest_reach (take i xs)) (reach_of y)) is ∙ sym (fold_more (λ m e. max m (reach_of e)) 0 xs i x less))

pub loop-e-preserved : goal.loop-e-preserved
loop-e-preserved c = record {
  valid = All-more IsEnclosure c.deref-e-items.result.now c.loop-e.e-index c.e-item.result c.loop-e-test.true c.loop-e.invariant.valid (subst IsEnclosure c.e-item.is c.greater_loss-loss.ensures.valid);
  loss = greatest_loss-more c.deref-e-items.result.now c.loop-e.e-index c.loop-e.loss c.greater_loss-loss.result c.e-item.result c.loop-e-test.true c.loop-e.invariant.loss c.greater_loss-loss.ensures.value c.e-item.is;
  reach = greatest_reach-more c.deref-e-items.result.now c.loop-e.e-index c.loop-e.reach c.greater_reach-reach.result c.e-item.result c.loop-e-test.true c.loop-e.invariant.reach c.greater_reach-reach.ensures c.e-item.is;
}

pub start_of-requires-clause-len : goal.start_of-requires-clause-len
start_of-requires-clause-len c = omega (arith, c.requires.count, start_rises c.args.cells c.live_of-live.result c.args.rows c.live_of-live.ensures.within, c.len.ensures)

-- what is left out is zeros
same : (cells rows live n : ℕ) (xs looked ys : List Enclosure) → rows ≤ cells → live ≤ rows → length xs ≡ start cells rows → looked ≡ xs → n ≡ start cells live → ys ≡ take n xs →
    ((i : ℕ) → start cells live ≤ i → slice_index_or looked i exact_zero ≡ exact_zero) → padded cells ys ≡ padded cells xs
same cells rows live n xs looked ys few within long e at cut zeros =
    ap (padded cells) (cut ∙ ap (λ (k : ℕ). take k xs) at)
    ∙ padded-take cells (start cells live) xs (omega (arith, long, start_rises cells rows cells few)) (omega (arith, long, start_rises cells live rows within))
    (λ i low. ap (λ (zs : List Enclosure). slice_index_or zs i exact_zero) (sym e) ∙ zeros i low)

pub invariant_of-result : goal.invariant_of-result
invariant_of-result c =
    let xs = c.args.entries.items in
    let ys = c.truncate.new.self.items in
    let cells : ℕ = c.args.cells in
    let end : c.loop-e.e-index ≡ length c.deref-e-items.result.now = omega arith in
    let whole : take c.loop-e.e-index c.deref-e-items.result.now ≡ ys = rw end (take-length c.deref-e-items.result.now) ∙ c.deref-e-items.ensures.value in
    let cut : ys ≡ take (start cells c.live_of-live.result) xs = c.truncate.ensures.items ∙ ap (λ (n : ℕ). take n xs) c.start_of.ensures in
    let long : length ys ≡ start cells c.live_of-live.result =
    omega (arith, ap length cut, length-take (start cells c.live_of-live.result) xs, c.requires.count, start_rises cells c.live_of-live.result c.args.rows c.live_of-live.ensures.within) in
    let rest : ℕ = start cells cells - length ys in
    let near : All (λ e. IsExponent (2 ^ 60) e.exp) ys = subst (All (λ e. IsExponent (2 ^ 60) e.exp)) (sym cut) (All-take (λ e. IsExponent (2 ^ 60) e.exp) (start cells c.live_of-live.result) xs c.requires.near) in
    let live : c.live_of-live.result ≡ live_rows (padded cells xs) = c.live_of-live.ensures.value ∙ ap (λ (es : List Enclosure). live_rows (padded cells es)) c.deref.ensures.value in
    let as_given = same cells c.args.rows c.live_of-live.result c.start_of.result xs c.deref.result.now ys c.requires.within c.live_of-live.ensures.within c.requires.count c.deref.ensures.value c.start_of.ensures c.truncate.ensures.items c.live_of-live.ensures.zeros in (
      record {
        all_there = length-padded cells c.live_of-live.result ys (omega (arith, c.live_of-live.ensures.within, c.requires.within)) long;
        entries = record {
          valid = All-append IsEnclosure ys (replicate rest exact_zero) (subst (All IsEnclosure) whole c.loop-e.invariant.valid) (All-replicate IsEnclosure rest exact_zero zero-IsEnclosure);
          near = All-append (λ e. IsExponent (2 ^ 60) e.exp) ys (replicate rest exact_zero) near (All-replicate (λ e. IsExponent (2 ^ 60) e.exp) rest exact_zero (omega arith, omega arith));
        };
        few = c.requires.few;
      },
      long,
      live ∙ ap (λ (t : Table). live_rows t) (sym as_given),
      c.loop-e.invariant.loss ∙ ap greatest_loss whole ∙ sym (loss-padded cells ys),
      c.loop-e.invariant.reach ∙ ap greatest_reach whole ∙ sym (reach-padded cells ys),
    )

pub returns : goal.returns
returns c = same c.args.cells c.args.rows c.live_of-live.result c.start_of.result c.args.entries.items c.deref.result.now c.truncate.new.self.items c.requires.within c.live_of-live.ensures.within c.requires.count c.deref.ensures.value c.start_of.ensures c.truncate.ensures.items c.live_of-live.ensures.zeros
