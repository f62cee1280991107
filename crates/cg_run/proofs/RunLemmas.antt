-- What sessions that ran come to.
use Rattle.std.proofs.Common.{◌≡◌, ℕ, ◌<◌, Bool, true, false, List, take, length, Option, refl, sym, ap, subst, ◌∙◌, All}
use Rattle.std.specs.List.{concat}
use Rattle.cg_io.specs.Shelf.{Files}
use Rattle.cg_io.specs.Sink.{Takes}
use Rattle.cg_sharing.specs.Versions.{start_of}
use Rattle.cg_sharing.specs.Journal.{Entry, shared_of, IsLegal}
use Rattle.cg_sharing.specs.Interleaving.{IsOfSession}
use Rattle.cg_sharing.proofs.TurnLemmas.{turns_decide_all, all_of_sessions}
use Rattle.cg_session.specs.Calibration.{calibration_of}
use Rattle.cg_interleaving.specs.Run.{written_in, AreOver, IsRunOf}
use Rattle.cg_interleaving.specs.declared.run.Run.{Run}
use Rattle.cg_recipe.specs.Laws.{RecipesAreRight}
use Rattle.cg_ranges.specs.Laws.{RangesCover}
use Rattle.cg_prints.specs.Laws.{PrintsAreFounded}
use Rattle.cg_words.specs.Words.{Request}
use Rattle.cg_files.specs.Inputs.{Inputs}
use Rattle.cg_run.proofs.InputsLemmas.{each_right, each_range}
use Rattle.cg_run.specs.Run.{AreAccepted, IsJournal, HaveRun, TakesAll, IsDone, IsCutOff, HasStopped}

-- the turns that the sessions took and the size of their cache are those of the request
pub turns_same : (inputs : Inputs) (size capacity : ℕ) (taken turns : List ℕ) → size ≡ capacity → taken ≡ turns → (run : Run) →
    IsRunOf (calibration_of inputs.curves) inputs.models size inputs.scripts taken run → IsRunOf (calibration_of inputs.curves) inputs.models capacity inputs.scripts turns run
turns_same inputs size capacity taken turns sized same run is =
    let S : ℕ → Type 0 = λ n. IsRunOf (calibration_of inputs.curves) inputs.models n inputs.scripts taken run in
    subst (λ ts. IsRunOf (calibration_of inputs.curves) inputs.models capacity inputs.scripts ts run) same (subst S sized is)

module _ (words : List (List ℕ)) (told : Option Files) (request : Request) (inputs : Inputs) (run : Run) (accepts : AreAccepted words told request inputs)
    (ran : IsRunOf (calibration_of inputs.curves) inputs.models request.cache inputs.scripts request.turns run)
    (recipes : RecipesAreRight) (ranges : RangesCover) (prints : PrintsAreFounded) where
  abbrev entries_so : IsJournal words told run.journal
  entries_so =
      let L : List Entry → Type 0 = λ es. IsLegal (shared_of inputs.models request.cache) es in
      let S : List Entry → Type 0 = λ es. All (IsOfSession (length inputs.scripts)) es in
      let O : List Entry → Type 0 = λ es. AreOver (calibration_of inputs.curves) 1 (start_of inputs.models) inputs.scripts es ran.world.places in
      record {
        request = request;
        inputs = inputs;
        accepted = accepts;
        world = ran.world;
        interleaved = ran.interleaved;
        is = ran.journal;
        legal = subst L (sym ran.journal) ran.legal;
        seats = subst S (sym ran.journal) (all_of_sessions (calibration_of inputs.curves) inputs.models request.cache inputs.scripts request.turns ran.world ran.interleaved);
        over = subst O (sym ran.journal) ran.over;
      }

  abbrev ran_so : (stopped : Bool) → run.stopped ≡ stopped → HaveRun words told run.journal (concat (written_in run)) stopped
  ran_so stopped is = record {
    entries = entries_so;
    some = sym is ∙ ran.stopped;
    whole = λ none. turns_decide_all (calibration_of inputs.curves) inputs.models request.cache inputs.scripts request.turns ran.world ran.interleaved (sym ran.stopped ∙ is ∙ none);
    written = ap concat ran.written;
    right = each_right told request inputs ran.world.journal ran.world.places recipes prints accepts.files ran.legal ran.over;
    ranges = each_range told request inputs ran.world.journal ran.world.places recipes prints accepts.files ran.legal ran.over ranges;
  }

  pub journal_of : IsJournal words told run.journal
  journal_of = entries_so

  module _ (before after : Option (List ℕ)) (taken : ℕ) where
    pub done : (run.stopped ≡ false) × TakesAll before after (concat (written_in run)) taken → IsDone words told before after run.journal taken
    done (none, all) = record { output = concat (written_in run); ran = ran_so false none; took = all }

    pub stopped : (run.stopped ≡ true) × TakesAll before after (concat (written_in run)) taken → HasStopped words told before after run.journal taken
    stopped (some, all) = record { output = concat (written_in run); ran = ran_so true some; took = all }

    pub cut_off : taken < length (concat (written_in run)) → Takes before after (take taken (concat (written_in run))) → IsCutOff words told before after run.journal taken
    cut_off fewer took = record { output = concat (written_in run); stopped = run.stopped; ran = ran_so run.stopped refl; took = took; fewer = fewer }
