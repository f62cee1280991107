use Rattle.std.proofs.Common.{map, string_bytes, sym, subst, ◌∙◌, inl, inr}
use Rattle.cg_words.specs.Words.{AreWords}
use Rattle.cg_files.specs.Inputs.{inputs_in}
use Rattle.cg_run.specs.Run.{IsJournal, IsDone, IsCutOff, HasStopped}
use Rattle.cg_run.proofs.CauseLemmas.{unasked, ended_at, exact, exact_ran, complete}
use Rattle.cg_run.proofs.InputsLemmas.{ready}
use Rattle.cg_run.proofs.RunLemmas.{turns_same, journal_of, done, stopped, cut_off}
use Rattle.cg_run.proofs.top.run_alone.Goals as goal

pub returns-in-Ok-None-clause-exact : goal.returns-in-Ok-None-clause-exact
returns-in-Ok-None-clause-exact g c =
    let words = map string_bytes c.args.words.now in let told = g.H.Shelf.told c.args.shelf.now in
    exact words told c.unbegun.result.status (unasked words told c.unbegun.result.status c.unbegun.ensures.status (rw c.in-Ok-None.field-0-is at c.in-Ok-None.ensures.none))

pub returns-in-Ok-None-clause-complete : goal.returns-in-Ok-None-clause-complete
returns-in-Ok-None-clause-complete g c = λ files request inputs tells accepts sound.
    let words = map string_bytes c.args.words.now in let told = g.H.Shelf.told c.args.shelf.now in
    complete words told c.unbegun.result.status (unasked words told c.unbegun.result.status c.unbegun.ensures.status (rw c.in-Ok-None.field-0-is at c.in-Ok-None.ensures.none))
    files request inputs tells accepts

pub returns-in-Err-read_all-clause-exact : goal.returns-in-Err-read_all-clause-exact
returns-in-Err-read_all-clause-exact g c =
    let words = map string_bytes c.args.words.now in let told = g.H.Shelf.told c.args.shelf.now in
    let asks : AreWords words c.in-Ok-Some.request = rw c.in-Ok-Some.field-0-is at c.in-Ok-Some.ensures.some in
    exact words told c.unbegun-in-Err-read_all.result.status
    (ended_at words told _ c.in-Ok-Some.request c.in-Err-read_all.fault c.unbegun-in-Err-read_all.result.status (c.unbegun-in-Err-read_all.ensures.status ∙ c.status_of.ensures) asks
    c.in-Err-read_all.ensures.fault)

pub returns-in-Err-read_all-clause-complete : goal.returns-in-Err-read_all-clause-complete
returns-in-Err-read_all-clause-complete g c = λ files request inputs tells accepts sound.
    let words = map string_bytes c.args.words.now in let told = g.H.Shelf.told c.args.shelf.now in
    let asks : AreWords words c.in-Ok-Some.request = rw c.in-Ok-Some.field-0-is at c.in-Ok-Some.ensures.some in
    complete words told c.unbegun-in-Err-read_all.result.status
    (ended_at words told _ c.in-Ok-Some.request c.in-Err-read_all.fault c.unbegun-in-Err-read_all.result.status (c.unbegun-in-Err-read_all.ensures.status ∙ c.status_of.ensures) asks
    c.in-Err-read_all.ensures.fault)
    files request inputs tells accepts

pub run_sessions-requires-clause-ready : goal.run_sessions-requires-clause-ready
run_sessions-requires-clause-ready g c = ready _ _ (inputs_in c.in-Ok.inputs) c.in-Ok.ensures.inputs

pub returns-in-Ok-run_sessions-clause-done : goal.returns-in-Ok-run_sessions-clause-done
returns-in-Ok-run_sessions-clause-done g c = λ e.
    let words = map string_bytes c.args.words.now in let told = g.H.Shelf.told c.args.shelf.now in
    let asks : AreWords words c.in-Ok-Some.request = rw c.in-Ok-Some.field-0-is at c.in-Ok-Some.ensures.some in
    subst (λ journal. IsDone words told (g.K.Sink.taken c.args.out.now) (g.K.Sink.taken c.write_run.new.out) journal c.write_run.result.taken) (sym c.write_run.ensures.journal)
    (done words told c.in-Ok-Some.request (inputs_in c.in-Ok.inputs) c.in-Ok-run_sessions.run' (record { asks = asks; files = c.in-Ok.ensures.inputs })
    (turns_same (inputs_in c.in-Ok.inputs) _ _ _ _ c.cache-capacity.ensures.cache c.turns.ensures.turns c.in-Ok-run_sessions.run' c.in-Ok-run_sessions.ensures)
    c.recipes_are_right.ensures c.ranges_cover.ensures c.prints_are_founded.ensures _ _ _ (c.write_run.ensures.done e))

pub returns-in-Ok-run_sessions-clause-write_fault : goal.returns-in-Ok-run_sessions-clause-write_fault
returns-in-Ok-run_sessions-clause-write_fault g c = λ e.
    let words = map string_bytes c.args.words.now in let told = g.H.Shelf.told c.args.shelf.now in
    let asks : AreWords words c.in-Ok-Some.request = rw c.in-Ok-Some.field-0-is at c.in-Ok-Some.ensures.some in
    let cut = c.write_run.ensures.cut_off e in (
      subst (λ journal. IsCutOff words told (g.K.Sink.taken c.args.out.now) (g.K.Sink.taken c.write_run.new.out) journal c.write_run.result.taken) (sym c.write_run.ensures.journal)
          (cut_off words told c.in-Ok-Some.request (inputs_in c.in-Ok.inputs) c.in-Ok-run_sessions.run' (record { asks = asks; files = c.in-Ok.ensures.inputs })
          (turns_same (inputs_in c.in-Ok.inputs) _ _ _ _ c.cache-capacity.ensures.cache c.turns.ensures.turns c.in-Ok-run_sessions.run' c.in-Ok-run_sessions.ensures)
          c.recipes_are_right.ensures c.ranges_cover.ensures c.prints_are_founded.ensures _ _ _ cut.0 cut.1),
      cut.2,
    )

pub returns-in-Ok-run_sessions-clause-no_memory : goal.returns-in-Ok-run_sessions-clause-no_memory
returns-in-Ok-run_sessions-clause-no_memory g c = λ e.
    let words = map string_bytes c.args.words.now in let told = g.H.Shelf.told c.args.shelf.now in
    let asks : AreWords words c.in-Ok-Some.request = rw c.in-Ok-Some.field-0-is at c.in-Ok-Some.ensures.some in
    elim (c.write_run.ensures.stopped e) [
      | inl all ↦
          inl (subst (λ journal. HasStopped words told (g.K.Sink.taken c.args.out.now) (g.K.Sink.taken c.write_run.new.out) journal c.write_run.result.taken) (sym c.write_run.ensures.journal)
          (stopped words told c.in-Ok-Some.request (inputs_in c.in-Ok.inputs) c.in-Ok-run_sessions.run' (record { asks = asks; files = c.in-Ok.ensures.inputs })
          (turns_same (inputs_in c.in-Ok.inputs) _ _ _ _ c.cache-capacity.ensures.cache c.turns.ensures.turns c.in-Ok-run_sessions.run' c.in-Ok-run_sessions.ensures)
          c.recipes_are_right.ensures c.ranges_cover.ensures c.prints_are_founded.ensures _ _ _ all))
      | inr none ↦ inr none
    ]

pub returns-in-Ok-run_sessions-clause-exact : goal.returns-in-Ok-run_sessions-clause-exact
returns-in-Ok-run_sessions-clause-exact g c =
    let words = map string_bytes c.args.words.now in let told = g.H.Shelf.told c.args.shelf.now in
    let asks : AreWords words c.in-Ok-Some.request = rw c.in-Ok-Some.field-0-is at c.in-Ok-Some.ensures.some in
    exact_ran words told c.write_run.result.status c.in-Ok-Some.request (inputs_in c.in-Ok.inputs) (record { asks = asks; files = c.in-Ok.ensures.inputs })

pub returns-in-Ok-run_sessions-clause-journal : goal.returns-in-Ok-run_sessions-clause-journal
returns-in-Ok-run_sessions-clause-journal g c =
    let words = map string_bytes c.args.words.now in let told = g.H.Shelf.told c.args.shelf.now in
    let asks : AreWords words c.in-Ok-Some.request = rw c.in-Ok-Some.field-0-is at c.in-Ok-Some.ensures.some in
    inr (subst (λ journal. IsJournal words told journal) (sym c.write_run.ensures.journal)
    (journal_of words told c.in-Ok-Some.request (inputs_in c.in-Ok.inputs) c.in-Ok-run_sessions.run' (record { asks = asks; files = c.in-Ok.ensures.inputs })
    (turns_same (inputs_in c.in-Ok.inputs) _ _ _ _ c.cache-capacity.ensures.cache c.turns.ensures.turns c.in-Ok-run_sessions.run' c.in-Ok-run_sessions.ensures) c.recipes_are_right.ensures c.ranges_cover.ensures c.prints_are_founded.ensures))
