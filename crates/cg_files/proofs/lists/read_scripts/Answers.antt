use Rattle.std.proofs.Common.{◌∷◌, [], List, ℕ, Bor, length, map, get_or, refl, sym, ap, subst, arith, take_all, length-append}
use Rattle.std.proofs.lemmas.List.{get_or_default}
use Rattle.std.proofs.lemmas.Result.{err_from_is_err_and}
use Rattle.cg_sharing.specs.Command.{Line}
use Rattle.cg_report.specs.declared.file.FileKind.TheVariants.{Session}
use Rattle.cg_files.specs.Said.{a_script}
use Rattle.cg_files.specs.Reading.{AreRead}
use Rattle.cg_files.specs.Inputs.{session_files, said_of_scripts}
use Rattle.cg_files.proofs.EndLemmas.{read_none}
use Rattle.cg_files.proofs.ListLemmas.{read_pushed, ends_next}
use Rattle.cg_files.proofs.lists.read_scripts.Goals as goal

pub loop-place-init : goal.loop-place-init
loop-place-init g c =
    let told = g.H.Shelf.told c.args.shelf.now in
    record {
      read = λ given. subst (λ (scripts : List (List Line)). AreRead given told told [] (said_of_scripts scripts)) (sym c.new-scripts.ensures.items) (read_none given told);
      count = ap length c.new-scripts.ensures.items;
      later = omega arith;
    }

pub returns-in_err-script_of-clause-fault : goal.returns-in_err-script_of-clause-fault
returns-in_err-script_of-clause-fault g c =
    let p = err_from_is_err_and c.from_residual.result c.from_residual.ensures.1 in
    rw (p.1, p.2) (λ given.
    ends_next Session (λ (file : Bor (List ℕ)). file.now) c.args.files.now c.loop-place.place (get_or c.args.files.now c.loop-place.place _) (get_or_default c.args.files.now c.loop-place.place _ _ c.loop-place-test.true) c.loop-place-test.true given _ _ _ _ _ refl
    (c.loop-place.invariant.read given) _ (c.in_err-script_of.ensures.fault given))

pub loop-place-preserved : goal.loop-place-preserved
loop-place-preserved g c =
    record {
      read = λ given.
          read_pushed Session (λ (file : Bor (List ℕ)). file.now) c.args.files.now c.loop-place.place (get_or c.args.files.now c.loop-place.place _) (get_or_default c.args.files.now c.loop-place.place _ _ c.loop-place-test.true) c.loop-place-test.true given _ _ _ _ _ refl
          (c.loop-place.invariant.read given) (λ (lines : List Line). a_script lines) c.loop-place.scripts.items _ c.in_ok-script_of.field-0 refl c.in_ok-push.ensures.items
          (c.in_ok-script_of.ensures.read given);
      count = let e = ap length c.in_ok-push.ensures.items in omega (arith, e, length-append c.loop-place.scripts.items (c.in_ok-script_of.field-0 ∷ []), c.loop-place.invariant.count);
      later = omega (arith, c.loop-place.invariant.later, c.script_of.ensures.later);
    }

pub returns-clause-read : goal.returns-clause-read
returns-clause-read g c =
    let all = take_all c.loop-place.place c.args.files.now c.loop-place-test.false in
    λ given. subst (λ files. AreRead given (g.H.Shelf.told c.args.shelf.now) (g.H.Shelf.told c.loop-place.shelf) (session_files (map (λ file. file.now) files)) (said_of_scripts c.loop-place.scripts.items)) all (c.loop-place.invariant.read given)
