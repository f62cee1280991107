use Rattle.std.proofs.Common.{ℕ, ◌<◌, ◌^◌, take, sym, ap, ◌∙◌, subst}
use Rattle.cg_text.proofs.NumberLemmas.{number-small}
use Rattle.cg_text.proofs.number.number_at.Goals as goal

pub returns-then-is_plain-clause-small : goal.returns-then-is_plain-clause-small
returns-then-is_plain-clause-small c =
    let digits = c.split_at.result.0.now in
    let front = c.split_at.ensures.front ∙ ap (λ n. take n c.args.bytes.now) c.digits_len.ensures.value in
    subst (λ (n : ℕ). n < 10 ^ c.args.most) (sym c.number_of.ensures.value) (number-small c.args.most c.args.bytes.now digits front (sym c.is_plain.ensures ∙ c.if-is_plain.true))
