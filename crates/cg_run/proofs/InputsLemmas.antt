-- What accepted files say of curves, models and scripts; and that what their sessions print is right.
use Rattle.std.proofs.Common.{◌≡◌, ◌⊎◌, ℕ, zero, suc, ◌+◌, ◌<◌, ◌≤◌, List, [], ◌∷◌, ◌++◌, length, get_or, All, Option, Some, None, refl, inl, inr, sym, subst, arith, append_assoc, option_map}
use Rattle.std.specs.Prelude.{slice_get, IfSome}
use Rattle.std.proofs.lemmas.List.Elements.{All-nil, All-cons, All-head, All-tail, All-weaker}
use Rattle.std.proofs.lemmas.Option.{slice_get_cases}
use Rattle.cg_io.specs.Shelf.{Files, after_read}
use Rattle.cg_meaning.specs.Tree.{Name, Tree, root_of}
use Rattle.cg_meaning.specs.Scene.{Scene}
use Rattle.cg_meaning.specs.Posterior.{IsMarginal}
use Rattle.cg_curve.specs.Curves.{NamedCurve}
use Rattle.cg_curve.specs.Rows.{IsCurve}
use Rattle.cg_marginal.specs.Pairs.{ArePairs}
use Rattle.cg_ranges.specs.Cover.{cover}
use Rattle.cg_ranges.specs.Laws.{Covers, RangesCover}
use Rattle.cg_like.specs.Likelihood.{IsCurveOrNone, IsScene}
use Rattle.cg_recipe.specs.Recipe.{recipe}
use Rattle.cg_recipe.specs.Laws.{RecipesAreRight}
use Rattle.cg_up.specs.Curve.{curve_in, rows_at}
use Rattle.cg_grammar.proofs.LimitLemmas.{each-spelled}
use Rattle.cg_sharing.specs.Command.{Line}
use Rattle.cg_sharing.specs.Versions.{StartModel, start_of}
use Rattle.cg_sharing.specs.Journal.{Entry, shared_of, IsLegal}
use Rattle.cg_sharing.specs.Pieces.{Print, prints_of, ranges_of}
use Rattle.cg_sharing.specs.Course.{Place, IsCourse, AreFit}
use Rattle.cg_sharing.proofs.PieceLemmas.{ranges_of-all}
use Rattle.cg_prints.specs.Laws.{IsFounded, IsSound, PrintsAreFounded}
use Rattle.cg_script.proofs.ScriptLemmas.{fit_script}
use Rattle.cg_session.specs.Calibration.{curve_number, calibration_of}
use Rattle.cg_interleaving.specs.Run.{IsOver, AreOver}
use Rattle.cg_words.specs.Words.{Request}
use Rattle.cg_files.specs.Said.{Said, a_curve, a_model, a_script, Says}
use Rattle.cg_files.specs.Reading.{File, AcceptsAll}
use Rattle.cg_files.specs.Inputs.{Inputs, names_of, files_of, said_of_curves, said_of_models, said_of_scripts, AreInputs}
use Rattle.cg_report.specs.declared.file.FileKind.{FileKind}
use Rattle.cg_report.specs.declared.file.FileKind.TheVariants.{Curve, Model, Session}
use Rattle.cg_report.specs.Texts.{targets}
use Rattle.cg_run.specs.Run.{IsRightPrint, AreRightRanges}

-- ---- what files say, where curves of these names are given

module _ (given : List Name) where
  -- later files are accepted too
  last_ones : (told : Option Files) (files : List File) (first last : List Said) → AcceptsAll given told files (first ++ last) → (now : Option Files) × (rest : List File) × AcceptsAll given now rest last
  last_ones told files [] last accepted = (told, files, accepted)
  last_ones told [] (s ∷ first) last accepted = absurd accepted
  last_ones told (f ∷ files) (s ∷ first) last accepted = last_ones (option_map after_read told) files first last accepted.1

  script_said : (kind : FileKind) (bytes : List ℕ) (lines : List Line) → Says given kind bytes (a_script lines) → AreFit lines
  script_said Curve bytes lines says = absurd says
  script_said Model bytes lines says = absurd says
  script_said Session bytes lines says = fit_script bytes lines says

  scripts_ready : (told : Option Files) (files : List File) (scripts : List (List Line)) → AcceptsAll given told files (said_of_scripts scripts) → All AreFit scripts
  scripts_ready told files [] accepted = All-nil AreFit
  scripts_ready told [] (lines ∷ scripts) accepted = absurd accepted
  scripts_ready told (f ∷ files) (lines ∷ scripts) accepted =
      let read = accepted.0 in
      All-cons AreFit lines scripts (script_said f.ref.kind read.0 lines read.3) (scripts_ready (option_map after_read told) files scripts accepted.1)

  curve_said : (kind : FileKind) (bytes : List ℕ) (curve : NamedCurve) → Says given kind bytes (a_curve curve.curve) → IsCurve curve.curve
  curve_said Curve bytes curve says = says.is_curve
  curve_said Model bytes curve says = absurd says
  curve_said Session bytes curve says = absurd says

  are_curves : (told : Option Files) (files : List File) (curves : List NamedCurve) (others : List Said) → AcceptsAll given told files (said_of_curves curves ++ others) →
      All (λ named. IsCurve named.curve) curves
  are_curves told files [] others accepted = All-nil (λ named. IsCurve named.curve)
  are_curves told [] (curve ∷ curves) others accepted = absurd accepted
  are_curves told (f ∷ files) (curve ∷ curves) others accepted =
      let read = accepted.0 in
      All-cons (λ named. IsCurve named.curve) curve curves (curve_said f.ref.kind read.0 curve read.3) (are_curves (option_map after_read told) files curves others accepted.1)

  model_said : (kind : FileKind) (bytes : List ℕ) (model : StartModel) → Says given kind bytes (a_model model.chronology) → IsSound model
  model_said Curve bytes model says = absurd says
  model_said Model bytes model says = each-spelled bytes model.chronology says.0
  model_said Session bytes model says = absurd says

  models_sound : (told : Option Files) (files : List File) (models : List StartModel) (others : List Said) → AcceptsAll given told files (said_of_models models ++ others) → All IsSound models
  models_sound told files [] others accepted = All-nil IsSound
  models_sound told [] (model ∷ models) others accepted = absurd accepted
  models_sound told (f ∷ files) (model ∷ models) others accepted =
      let read = accepted.0 in
      All-cons IsSound model models (model_said f.ref.kind read.0 model read.3) (models_sound (option_map after_read told) files models others accepted.1)

-- the scripts are ready for sessions
pub ready : (told : Option Files) (request : Request) (inputs : Inputs) → AreInputs told request inputs → All AreFit inputs.scripts
ready told request inputs are =
    let given = names_of request.curves in
    let (now, rest, accepted) = last_ones given told (files_of request) (said_of_curves inputs.curves ++ said_of_models inputs.models) (said_of_scripts inputs.scripts) are.accepted in
    scripts_ready given now rest inputs.scripts accepted

-- ---- the curve that serves a model

row_at : (curves : List NamedCurve) (place : ℕ) → All (λ named. IsCurve named.curve) curves → IsCurveOrNone (curve_in (slice_get curves place))
row_at curves place all = by_cases (slice_get curves place) (slice_get_cases curves place).1
  where
    by_cases : (got : Option NamedCurve) → ((x : NamedCurve) × (place < length curves) × (got ≡ Some x) × (get_or curves place x ≡ x)) ⊎ ((length curves ≤ place) × (got ≡ None)) →
        IsCurveOrNone (curve_in got)
    by_cases got (inl (x, within, is, same)) =
        rw is (inr (subst (λ (named : NamedCurve). IsCurve named.curve) same (all place x within)))
    by_cases got (inr (past, none)) = rw none (inl refl)

rows_are : (curves : List NamedCurve) (number : ℕ) → All (λ named. IsCurve named.curve) curves → IsCurveOrNone (rows_at curves number)
rows_are curves zero all = inl refl
rows_are curves (suc place) all = row_at curves place all

-- ---- what all of it comes to

-- What accepted files say of curves, models and scripts.
record AreSound (inputs : Inputs) : Type 0 where
  pub curve : (name : Option Name) → IsCurveOrNone (calibration_of inputs.curves name)
  pub models : All IsSound inputs.models
  pub scripts : All AreFit inputs.scripts

sound : (told : Option Files) (request : Request) (inputs : Inputs) → AreInputs told request inputs → AreSound inputs
sound told request inputs are =
    let given = names_of request.curves in
    let curves = said_of_curves inputs.curves in
    let models = said_of_models inputs.models in
    let scripts = said_of_scripts inputs.scripts in
    let all = subst (λ said. AcceptsAll given told (files_of request) said) (append_assoc curves models scripts) are.accepted in
    let (now, rest, accepted) = last_ones given told (files_of request) curves (models ++ scripts) all in
    record {
      curve = λ name. rows_are inputs.curves (curve_number inputs.curves name) (are_curves given told (files_of request) inputs.curves (models ++ scripts) all);
      models = models_sound given now rest inputs.models scripts accepted;
      scripts = ready told request inputs are;
    }

-- ---- each print is founded

abbrev Founded : Inputs → Place → Type 0
Founded inputs place = All (λ print. IsFounded (calibration_of inputs.curves) print) (prints_of place.written)

session_founded : (inputs : Inputs) (capacity session : ℕ) (script : List Line) (entries : List Entry) (place : Place) → PrintsAreFounded → AreSound inputs → AreFit script → IsLegal (shared_of inputs.models capacity) entries →
    IsOver (calibration_of inputs.curves) session (start_of inputs.models) script entries place → Founded inputs place
session_founded inputs capacity session script entries place prints are fit legal over =
    prints (calibration_of inputs.curves) session inputs.models capacity script entries place are.models fit legal (course over)
  where
    course : IsOver (calibration_of inputs.curves) session (start_of inputs.models) script entries place → IsCourse (calibration_of inputs.curves) session (start_of inputs.models) script entries place
    course (inl done) = inl done.0
    course (inr stop) = inr stop

each_session : (inputs : Inputs) (capacity session : ℕ) (scripts : List (List Line)) (entries : List Entry) (places : List Place) → PrintsAreFounded → AreSound inputs → All AreFit scripts → IsLegal (shared_of inputs.models capacity) entries →
    AreOver (calibration_of inputs.curves) session (start_of inputs.models) scripts entries places → All (Founded inputs) places
each_session inputs capacity session [] entries [] prints are fit legal over = All-nil (Founded inputs)
each_session inputs capacity session [] entries (place ∷ places) prints are fit legal over = absurd over
each_session inputs capacity session (script ∷ scripts) entries [] prints are fit legal over = absurd over
each_session inputs capacity session (script ∷ scripts) entries (place ∷ places) prints are fit legal over =
    All-cons (Founded inputs) place places
    (session_founded inputs capacity session script entries place prints are (All-head AreFit script scripts fit) legal over.0)
    (each_session inputs capacity (session + 1) scripts entries places prints are (All-tail AreFit script scripts fit) legal over.1)

-- ---- what is founded is right

-- a print that is founded is right where the recipe is
print_right : (inputs : Inputs) (print : Print) → RecipesAreRight → AreSound inputs → IsFounded (calibration_of inputs.curves) print → IsRightPrint print
print_right inputs print recipes are founded =
    let S : Scene → Type 0 = λ scene. IsScene scene in
    let scene = subst S (sym founded.scene) (record { grid = founded.grid; curve = are.curve print.chronology.curve }) in
    recipes print.chronology print.scene print.event founded.model scene founded.covered founded.event

-- pairs that hold for an event are covered at each target
each_target : (tree : Tree) (scene : Scene) (event : ℕ) (told : Option (List (ℕ × ℕ))) → RangesCover → scene.grid.cells ≤ 512 → IsMarginal tree scene event told → IfSome told ArePairs →
    IfSome told (λ pairs. All (λ target. Covers tree scene event target (cover pairs target)) targets)
each_target tree scene event None ranges few holds narrow = tt
each_target tree scene event (Some pairs) ranges few holds narrow =
    let C : ℕ → Type 0 = λ target. Covers tree scene event target (cover pairs target) in
    let short : length pairs ≤ 512 = omega (arith, holds.each, few) in
    let at : (target : ℕ) → target ≤ 998464 → C target = λ target within. (ranges pairs target narrow short within).posterior tree scene event holds in
    All-cons C 683000 (954000 ∷ 997000 ∷ []) (at 683000 (omega arith)) (All-cons C 954000 (997000 ∷ []) (at 954000 (omega arith)) (All-cons C 997000 [] (at 997000 (omega arith)) (All-nil C)))

ranges_right : (inputs : Inputs) (print : Print) → RecipesAreRight → RangesCover → AreSound inputs → IsFounded (calibration_of inputs.curves) print → AreRightRanges print
ranges_right inputs print recipes ranges are founded =
    let tree = root_of print.chronology in
    let right = print_right inputs print recipes are founded in
    each_target tree print.scene print.event (recipe tree print.scene print.event) ranges founded.grid.few right.holds right.narrow

module _ (told : Option Files) (request : Request) (inputs : Inputs) (entries : List Entry) (places : List Place) (recipes : RecipesAreRight) (prints : PrintsAreFounded) (accepted : AreInputs told request inputs)
    (legal : IsLegal (shared_of inputs.models request.cache) entries) (over : AreOver (calibration_of inputs.curves) 1 (start_of inputs.models) inputs.scripts entries places) where
  abbrev F : Print → Type 0
  F print = IsFounded (calibration_of inputs.curves) print

  abbrev are : AreSound inputs
  are = sound told request inputs accepted

  founded : All (Founded inputs) places
  founded = each_session inputs request.cache 1 inputs.scripts entries places prints are (ready told request inputs accepted) legal over

  -- each marginal that the sessions of accepted files print is right
  pub each_right : All (λ place. All IsRightPrint (prints_of place.written)) places
  each_right =
      All-weaker (Founded inputs) (λ place. All IsRightPrint (prints_of place.written))
      (λ place all. All-weaker F IsRightPrint (λ print is. print_right inputs print recipes are is) (prints_of place.written) all) places founded

  -- so is each range
  pub each_range : RangesCover → All (λ place. All AreRightRanges (ranges_of place.written)) places
  each_range ranges =
      All-weaker (Founded inputs) (λ place. All AreRightRanges (ranges_of place.written))
      (λ place all. All-weaker F AreRightRanges (λ print is. ranges_right inputs print recipes ranges are is) (ranges_of place.written) (ranges_of-all F place.written all)) places founded
