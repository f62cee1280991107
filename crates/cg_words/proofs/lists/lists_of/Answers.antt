use Rattle.std.proofs.Common.{◌≡◌, Bool, true, false, not, List, ℕ, codes, bytes_eq, Option, Some, None, string_bytes, refl, sym, ap, ◌∙◌}
use Rattle.std.proofs.lemmas.Slice.Eq.{bytes_eq-Decides}
use Rattle.cg_words.proofs.ListsLemmas.{behind-command, lists-behind}
use Rattle.cg_words.proofs.lists.lists_of.Goals as goal
use Rattle.cg_words.proofs.lists.lists_of.Goals.{then-ne-via-then-ne, then-ne-via-else-ne+then-not-are_options}

pub returns-then-ne-clause-none : goal.returns-then-ne-clause-none
returns-then-ne-clause-none c = λ lists h.
    let (command, found) = behind-command string_bytes c.args.words.now c.command-item.result lists c.in-len1-up.len_at_least c.command-item.is h in
    elim c.then-ne.branch [
      | then-ne-via-then-ne w ↦
          let same : bytes_eq c.as_str.result.now (codes "alone") ≡ true = (bytes_eq-Decides c.as_str.result.now (codes "alone")).1 (c.as_str.ensures.value ∙ command) in
          let wrong : true ≡ false = sym w.if-ne.true ∙ c.ne.ensures ∙ ap not same in cc
      | then-ne-via-else-ne+then-not-are_options w ↦
          let wrong : false ≡ true = sym w.if-not-are_options.true ∙ w.are_options.ensures ∙ found.good in cc
    ]

pub returns-in_err-list_of-clause-none : goal.returns-in_err-list_of-clause-none
returns-in_err-list_of-clause-none c = rw c.from_residual.ensures (λ lists h.
    let (command, found) = behind-command string_bytes c.args.words.now c.command-item.result lists c.in-len1-up.len_at_least c.command-item.is h in
    let wrong : ◌≡◌ {A = Option (List ℕ)} None (Some lists.models) = c.in_err-list_of.ensures ∙ found.models in cc)

pub returns-in_err-list_of-2-clause-none : goal.returns-in_err-list_of-2-clause-none
returns-in_err-list_of-2-clause-none c = rw c.from_residual-in_err-list_of-2.ensures (λ lists h.
    let (command, found) = behind-command string_bytes c.args.words.now c.command-item.result lists c.in-len1-up.len_at_least c.command-item.is h in
    let wrong : ◌≡◌ {A = Option (List ℕ)} None (Some lists.sessions) = c.in_err-list_of-2.ensures ∙ found.sessions in cc)

pub returns-clause-some : goal.returns-clause-some
returns-clause-some c =
    let same : not (bytes_eq c.as_str.result.now (codes "alone")) ≡ false = sym c.ne.ensures ∙ c.if-ne.false in
    let text : c.as_str.result.now ≡ codes "alone" = (bytes_eq-Decides c.as_str.result.now (codes "alone")).0 (not-false _ same) in
    lists-behind string_bytes c.args.words.now c.command-item.result _ c.in-len1-up.len_at_least c.command-item.is (sym c.as_str.ensures.value ∙ text) (record {
      good = sym c.are_options.ensures ∙ c.if-not-are_options.false;
      curves = sym c.list_of.ensures;
      models = sym c.in_ok-list_of.ensures;
      sessions = sym c.in_ok-list_of-2.ensures;
      turns = sym c.list_of-4.ensures;
      cache = sym c.list_of-5.ensures;
    })
  where
    not-false : (b : Bool) → not b ≡ false → b ≡ true
    not-false true h = refl
    not-false false h = absurd cc
