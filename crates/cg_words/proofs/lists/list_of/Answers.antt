use Rattle.std.proofs.Common.{◌∙◌, string_bytes}
use Rattle.cg_words.proofs.OptionLemmas.{list_of-short}
use Rattle.cg_words.proofs.lists.list_of.Goals as goal

pub returns : goal.returns
returns c = list_of-short string_bytes c.args.option.now c.loop-rest.rest.now c.in_default.len_below ∙ c.loop-rest.invariant
