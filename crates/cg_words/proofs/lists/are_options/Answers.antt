use Rattle.std.proofs.Common.{◌∙◌, string_bytes, sym}
use Rattle.cg_words.proofs.OptionLemmas.{are_options-short, no-option, twice, one-more}
use Rattle.cg_words.proofs.lists.are_options.Goals as goal
use Rattle.cg_words.proofs.lists.are_options.Goals.{then-not-is_option-via-then-not-is_option, then-not-is_option-via-else-not-is_option+then-is_some}

pub returns-then-not-is_option : goal.returns-then-not-is_option
returns-then-not-is_option c =
    elim c.then-not-is_option.branch [
      | then-not-is_option-via-then-not-is_option w ↦
          no-option string_bytes c.loop-rest.rest.now c.args.words.now c.word-item.result c.as_str-option.result.now c.in-len2-up.len_at_least c.word-item.is c.as_str-option.ensures.value c.loop-rest.invariant
          (sym c.is_option.ensures ∙ w.if-not-is_option.true)
      | then-not-is_option-via-else-not-is_option+then-is_some w ↦
          twice string_bytes (λ list. list.now) c.loop-rest.rest.now c.args.words.now c.word-item.result c.as_str-option.result.now w.list_of.result c.in-len2-up.len_at_least c.word-item.is
          c.as_str-option.ensures.value c.loop-rest.invariant w.list_of.ensures (sym w.is_some.ensures ∙ w.if-is_some.true)
    ]

pub loop-rest-preserved : goal.loop-rest-preserved
loop-rest-preserved c =
    one-more string_bytes (λ list. list.now) c.loop-rest.rest.now c.args.words.now c.word-item.result c.as_str-option.result.now c.list_of.result c.in-len2-up.len_at_least c.word-item.is c.as_str-option.ensures.value
    c.loop-rest.invariant (sym c.is_option.ensures ∙ c.if-not-is_option.false) c.list_of.ensures (sym c.is_some.ensures ∙ c.if-is_some.false)

pub returns : goal.returns
returns c = c.is_empty.ensures ∙ are_options-short string_bytes c.loop-rest.rest.now c.in_default.len_below ∙ c.loop-rest.invariant
