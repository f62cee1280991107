use Rattle.std.proofs.Common.{sym, subst}
use Rattle.cg_text.specs.Names.{IsName}
use Rattle.cg_words.specs.Words.{IsFile}
use Rattle.cg_words.proofs.NamedLemmas.{found, not_found, refuted}
use Rattle.cg_words.proofs.named.named_file.Goals as goal
use Rattle.cg_words.proofs.named.named_file.Goals.{else-is_name-via-then-is_name+else-is_file, else-is_name-via-else-is_name}

pub returns-else-is_name-clause-none : goal.returns-else-is_name-clause-none
returns-else-is_name-clause-none c = λ named h e.
    let parts = found _ _ c.split_once.ensures.cases _ c.in-Some.is named h e in
    elim c.else-is_name.branch [
      | else-is_name-via-then-is_name+else-is_file w ↦ refuted w.is_file.ensures w.if-is_file.false (subst IsFile (sym parts.file) h.file)
      | else-is_name-via-else-is_name w ↦ refuted c.is_name.ensures w.if-is_name.false (subst IsName (sym parts.name) h.name)
    ]

pub returns-in-None-clause-none : goal.returns-in-None-clause-none
returns-in-None-clause-none c = λ named h e. not_found _ _ c.split_once.ensures.cases c.in-None.is named h e
