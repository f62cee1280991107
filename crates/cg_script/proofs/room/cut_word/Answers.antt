use Rattle.std.proofs.Common.{sym, ◌∙◌}
use Rattle.cg_script.proofs.WordLemmas.{cut_long}
use Rattle.cg_script.proofs.room.cut_word.Goals as goal

pub returns-clause-value : goal.returns-clause-value
returns-clause-value c =
    let last = c.floor_char_boundary.ensures in
    c.split_at.ensures.front
    ∙ sym (cut_long c.args.word.now c.floor_char_boundary.result c.if-word-le-MAX_BYTES.false (last.bound, last.boundary, last.nearest))
