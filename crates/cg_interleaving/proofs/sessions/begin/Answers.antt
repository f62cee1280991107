use Rattle.std.proofs.Common.{◌++◌, ◌∷◌, [], map, refl, sym, ap, ap₂, ◌∙◌, arith, append_assoc}
use Rattle.std.proofs.lemmas.List.{map-append}
use Rattle.cg_sharing.specs.Journal.{shared_of}
use Rattle.cg_session.specs.Port.{Seen}
use Rattle.cg_session.specs.Session.{script_of, is_stopped}
use Rattle.std.specs.List.{list_any}
use Rattle.cg_interleaving.proofs.StepLemmas.{at_more, going_more}
use Rattle.cg_interleaving.proofs.sessions.begin.Goals as goal

pub loop-script-preserved : goal.loop-script-preserved
loop-script-preserved c =
    let was = c.loop-script.invariant in
    let sessions = c.loop-script.list.items in
    let session = c.in_ok-new.field-0 in
    let same = c.in_ok-new.ensures.same in
    let pushed = c.in_ok-push.ensures.items in
    record {
      whole = append_assoc c.loop-script.yielded (c.in-Some.script ∷ []) c.next.new.self.rest.items ∙ ap (λ rest. c.loop-script.yielded ++ rest) (sym c.in-Some.ensures.steps.0) ∙ was.whole;
      read = ap (λ ss. map script_of ss) pushed ∙ map-append script_of sessions (session ∷ []) ∙ ap₂ (λ a b. a ++ b ∷ []) was.read same.1;
      at = λ calibration models capacity curves.
          let seen : Seen = record { start = shared_of models capacity; journal = []; origin = curves } in
          rw pushed (at_more calibration seen 1 sessions session (was.at calibration models capacity curves) (omega (arith, same.0, c.len.ensures, c.loop-script.list.ok.0))
          (c.in_ok-new.ensures.at calibration seen (record { models = models; capacity = capacity; start = refl; legal = tt; others = tt })));
      going = ap (λ ss. list_any is_stopped ss) pushed ∙ going_more sessions session was.going c.in_ok-new.ensures.going;
    }
