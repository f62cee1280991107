use Rattle.std.proofs.Common.{◌∙◌, ap, take}
use Rattle.cg_text.proofs.PieceLemmas.{letters-utf8}
use Rattle.cg_text.proofs.piece.letters_at.Goals as goal

pub returns-in-Err : goal.returns-in-Err
returns-in-Err c =
    absurd (c.in-Err.ensures.cases.0
    (letters-utf8 c.args.bytes.now c.split_at.result.0.now (c.split_at.ensures.front ∙ ap (λ n. take n c.args.bytes.now) c.letters_len-len.ensures.value)))
