-- What is read is spelled so by the grammar.
use Rattle.std.proofs.Common.{◌≡◌, false, List, [], ◌∷◌, ◌++◌, Result, Ok, Err, sym, append_assoc, subst}
use Rattle.std.proofs.lemmas.List.{append-nil}
use Rattle.cg_token.specs.Kind.{Kind}
use Rattle.cg_grammar.specs.declared.command.Base.{Base}
use Rattle.cg_grammar.specs.Done.{Done}
use Rattle.cg_grammar.specs.Steps.{Part, item, closed, called, opening, given, parted, ready, option, named, equated, valued, complete, Frame, State, Step, step, step_at, after, run, Stop}
use Rattle.cg_grammar.proofs.StandsLemmas.{StandsAt, Stands, Lands}
use Rattle.cg_grammar.proofs.BlockStandsLemmas.{item-lands, closed-lands}
use Rattle.cg_grammar.proofs.ArgumentStandsLemmas.{called-lands, opening-lands, at-given-lands, parted-leads}
use Rattle.cg_grammar.proofs.CallStandsLemmas.{past-ready}
use Rattle.cg_grammar.proofs.OptionStandsLemmas.{option-lands, named-lands, equated-lands, valued-lands}

-- each token that is taken belongs to what is spelled
pub step-lands : (part : Part) (t : Kind) (b : Base) (fs : List Frame) (d : Done) (ts : List Kind) → StandsAt part b fs d ts → Lands (step_at part t b fs d) (ts ++ t ∷ [])
step-lands item t b fs d ts h = item-lands t b fs d false ts h
step-lands closed t b fs d ts h = closed-lands t b fs d ts h
step-lands (called c) t b fs d ts h = called-lands c t b fs d ts h
step-lands (opening c) t b fs d ts h = opening-lands c t b fs d ts h
step-lands (given c g) t b fs d ts h = at-given-lands c g t b fs d ts h.0 h.2
step-lands (parted c g) t b fs d ts h = parted-leads c g t b fs d ts h.0 h.1 h.2
step-lands (ready c g) t b fs d ts h = past-ready c g t b fs d ts h.0 h.1
step-lands option t b fs d ts h = option-lands t b fs d ts h
step-lands (named w s) t b fs d ts h = named-lands w s t b fs d ts h.0 h.1 h.2
step-lands (equated w s) t b fs d ts h = equated-lands w s t b fs d ts h.0 h.1 h.2
step-lands valued t b fs d ts h = valued-lands t b fs d ts h
step-lands complete t b fs d ts h = tt

-- the tokens lead to the state behind them, if there is one
abbrev StandsIf : Result State Stop → List Kind → Type 0
StandsIf (Ok s) ts = Stands s ts
StandsIf (Err r) ts = Unit {0}

-- the tokens behind one, by what comes of it
after_stands : (r : Step) (t : Kind) (us ts : List Kind) (s' : State) → Lands r ts → ((s : State) → Stands s ts → run us s ≡ Ok s' → Stands s' (ts ++ us)) → after r t us (λ s. run us s) ≡ Ok s' → Stands s' (ts ++ us)
after_stands (Ok s) t us ts s' l ih h = ih s l h
after_stands (Err r) t us ts s' l ih h = absurd cc

-- what is taken is spelled
pub run-stands : (us ts : List Kind) (s s' : State) → Stands s ts → run us s ≡ Ok s' → Stands s' (ts ++ us)
run-stands [] ts s s' l h = let P : Result State Stop → Type 0 = λ r. StandsIf r ts in subst (λ (x : List Kind). Stands s' x) (sym (append-nil ts)) (subst P h l)
run-stands (t ∷ us) ts s s' l h =
    subst (λ (x : List Kind). Stands s' x) (append_assoc ts (t ∷ []) us)
    (after_stands (step s t) t us (ts ++ t ∷ []) s' (step-lands s.part t s.base s.frames s.done ts l) (λ u v e. run-stands us (ts ++ t ∷ []) u s' v e) h)
