-- Each list of bytes is read to its end, or fails at one place.
use Rattle.std.proofs.Common.{◌≡◌, ℕ, suc, Bool, true, false, not, cond, List, [], ◌∷◌, ◌++◌, length, Option, Result, Ok, Err, refl, sym, ap, ◌∙◌, append_assoc, subst, arith, inl, inr, ◌⊎◌}
use Rattle.std.proofs.lemmas.List.{map-append, length-append, length-map}
use Rattle.cg_meaning.specs.Tree.{Trees, Chronology, Name}
use Rattle.cg_token.specs.Kind.{Kind, ended, is_last, is_gap}
use Rattle.cg_token.specs.Tokens.{Placed, AreCut, AreOthers, line_after, behind, tokens_in, kinds}
use Rattle.cg_token.proofs.CutLemmas.{cut-once, same-pieces}
use Rattle.cg_grammar.specs.declared.command.Base.{Base}
use Rattle.cg_grammar.specs.declared.command.Base.TheVariants as bases
use Rattle.cg_grammar.specs.declared.fault.CqlFault.{CqlFault}
use Rattle.cg_grammar.specs.declared.fault.Refusal.{Refusal}
use Rattle.cg_grammar.specs.declared.fault.Refusal.TheVariants.{Before}
use Rattle.cg_grammar.specs.Done.{Done, start, is_none}
use Rattle.cg_grammar.specs.Grammar.{empty, IsScript}
use Rattle.cg_grammar.specs.Steps.{Part, complete, is_complete, Frame, State, state, begun, is_start, Step, step, after, run, Stop}
use Rattle.cg_grammar.specs.Text.{Spells, line_of_last, told, Fails, Reads, CanGoOn, IsDecided}
use Rattle.cg_grammar.proofs.RunLemmas.{run-append, are-run, last}
use Rattle.cg_grammar.proofs.StandsLemmas.{Stands, StandsAt, Lands, script, single}
use Rattle.cg_grammar.proofs.StepStandsLemmas.{step-lands, run-stands}
use Rattle.cg_grammar.proofs.FirstLemmas.{is_single, completes}
use Rattle.cg_grammar.proofs.EndLemmas.{completed}

-- a chronology of these
abbrev chronology : Option Name → Trees → Chronology
chronology curve top = record { curve = curve; top = top }

-- some stop
abbrev no_stop : Stop
no_stop = record { rest = []; refusal = Before }

-- where a run stops
abbrev stop_of : Result State Stop → Stop
stop_of (Ok s) = no_stop
stop_of (Err x) = x

-- tokens are all taken, or one is the first that isn't
pub record Stopped (ts : List Placed) (s : State) : Type 0 where
  pub front : List Placed
  pub at : Placed
  pub others : List Placed
  pub whole : ts ≡ front ++ (at ∷ others)
  pub reached : State
  pub so_far : run (kinds front) s ≡ Ok reached
  pub refusal : Refusal
  pub refused : step reached at.kind ≡ Err refusal

-- tokens behind one, by what comes of it
taken_or : (r : Step) (t : Placed) (ts : List Placed) (s : State) → step s t.kind ≡ r → ((u : State) → ((s' : State) × (run (kinds ts) u ≡ Ok s')) ⊎ Stopped ts u)
    → ((s' : State) × (run (kinds (t ∷ ts)) s ≡ Ok s')) ⊎ Stopped (t ∷ ts) s
taken_or (Err f) t ts s e ih = inr (record { front = []; at = t; others = ts; whole = refl; reached = s; so_far = refl; refusal = f; refused = e })
taken_or (Ok u) t ts s e ih = elim (ih u) [
  | inl p ↦ inl (p.0, rw e p.1)
  | inr q ↦ inr (record { front = t ∷ q.front; at = q.at; others = q.others; whole = ap (λ (x : List Placed). t ∷ x) q.whole; reached = q.reached; so_far = rw e q.so_far; refusal = q.refusal; refused = q.refused })
]

-- tokens are all taken, or one stops them
taken : (ts : List Placed) (s : State) → ((s' : State) × (run (kinds ts) s ≡ Ok s')) ⊎ Stopped ts s
taken [] s = inl (s, refl)
taken (t ∷ ts) s = taken_or (step s t.kind) t ts s refl (λ u. taken ts u)

-- the end of the tokens is the end of reading
ok_same : (s s' : State) → run [] s ≡ Ok s' → s ≡ s'
ok_same s s' h = ap (λ r. elim r [ Ok x ↦ x | Err y ↦ s ]) h

-- from a state to another, with the end of reading at the end of the tokens
unfoldable pub RunsOn : List Placed → State → State → Type 0
RunsOn us s s' = (pre : List Kind) → Stands s pre → run (kinds (tokens_in us)) s ≡ Ok s' → (is_complete s'.part ≡ true) × (is_single s'.base ≡ is_single s.base)

-- the tokens behind one that is taken
last_runs : (q : Bool) (t : Placed) (us : List Placed) (P : Type 0) (s u s' : State) (pre : List Kind) → is_last t.kind ≡ q → AreOthers q us P → (P → RunsOn us u s') → Stands s pre → step s t.kind ≡ Ok u → Stands u (pre ++ t.kind ∷ []) → run (kinds (tokens_in us)) u ≡ Ok s'
    → (is_complete s'.part ≡ true) × (is_single s'.base ≡ is_single s.base)
unfolding RunsOn
last_runs true t us P s u s' pre e o ih l h l2 r =
    let c = completes s u t.kind pre l h in
    let same : u ≡ s' = ok_same u s' (subst (λ (x : List Placed). run (kinds (tokens_in x)) u ≡ Ok s') o r) in
    (ap (λ (x : State). is_complete x.part) (sym same) ∙ c.0 ∙ e, ap (λ (x : State). is_single x.base) (sym same) ∙ c.1)
last_runs false t us P s u s' pre e o ih l h l2 r =
    let c = completes s u t.kind pre l h in
    let p = ih o (pre ++ t.kind ∷ []) l2 r in
    (p.0, p.1 ∙ c.1)

-- the tokens from one on, by what comes of it
step_runs : (r : Step) (t : Placed) (us : List Placed) (P : Type 0) (s s' : State) (pre : List Kind) → ((u : State) → P → RunsOn us u s') → AreOthers (is_last t.kind) us P → Stands s pre → step s t.kind ≡ r → Lands r (pre ++ t.kind ∷ [])
    → after r t.kind (kinds (tokens_in us)) (λ x. run (kinds (tokens_in us)) x) ≡ Ok s' → (is_complete s'.part ≡ true) × (is_single s'.base ≡ is_single s.base)
step_runs (Ok u) t us P s s' pre ih o l h l2 r = last_runs (is_last t.kind) t us P s u s' pre refl o (ih u) l h l2 r
step_runs (Err f) t us P s s' pre ih o l h l2 r = absurd cc

-- a gap is not the last piece
gap_last : (k : Kind) → is_gap k ≡ true → is_last k ≡ false
gap_last Rattle.cg_token.specs.Kind.gap h = refl
gap_last k h = absurd cc

-- pieces from one on
gap_runs : (q : Bool) (t : Placed) (us : List Placed) (P : Type 0) (s s' : State) → is_gap t.kind ≡ q → ((u : State) → P → RunsOn us u s') → AreOthers (is_last t.kind) us P → (pre : List Kind) → Stands s pre
    → run (kinds (cond (not q) (t ∷ tokens_in us) (tokens_in us))) s ≡ Ok s' → (is_complete s'.part ≡ true) × (is_single s'.base ≡ is_single s.base)
unfolding RunsOn
gap_runs true t us P s s' e ih o pre l r = ih s (subst (λ (q : Bool). AreOthers q us P) (gap_last t.kind e) o) pre l r
gap_runs false t us P s s' e ih o pre l r = step_runs (step s t.kind) t us P s s' pre ih o l refl (step-lands s.part t.kind s.base s.frames s.done pre l) r

-- tokens that are all taken end reading
pub run-ends : (ts : List Placed) (line : ℕ) (bytes : List ℕ) (s s' : State) → AreCut line bytes ts → RunsOn ts s s'
unfolding RunsOn
run-ends [] line bytes s s' p = absurd p
run-ends (t ∷ us) line bytes s s' p = λ pre l r. gap_runs (is_gap t.kind) t us (AreCut (line_after line bytes) (behind bytes) us) s s' refl (λ u q. run-ends us (line_after line bytes) (behind bytes) u s' q) p.2 pre l r

-- the state that reading begins in
abbrev pub Begins : Base → Type 0
Begins base = Stands (begun base) []

-- a script begins
pub script-begins : Begins bases.Script
script-begins = record { from = start; front = []; body = []; before = script; statements = empty bases.Script [] start; whole = refl }

-- a statement that stands alone begins
pub single-begins : Begins bases.Single
single-begins = record { from = start; front = []; body = []; before = single; statements = empty bases.Single [] start; whole = refl }

-- reading begins where it may
pub begins-at : (base : Base) → is_start base ≡ true → Begins base
begins-at bases.Script h = script-begins
begins-at bases.Single h = single-begins
begins-at bases.Plot h = absurd cc

-- bytes are read, or fail
pub reads-or-fails : (base : Base) → Begins base → (bytes : List ℕ) → ((s : State) × Reads base bytes s) ⊎ ((f : CqlFault) × Fails base bytes f)
unfolding RunsOn
reads-or-fails base b bytes =
    let c = cut-once 1 bytes in
    elim (taken (tokens_in c.pieces) (begun base)) [
      | inl p ↦ inl (p.0, record { pieces = c.pieces; cut = c.cut; all = p.1; complete = (run-ends c.pieces 1 bytes (begun base) p.0 c.cut [] b p.1).0 })
      | inr q ↦ inr (
        told q.refusal (line_of_last 1 q.front) q.at.line,
        record { pieces = c.pieces; cut = c.cut; front = q.front; at = q.at; others = q.others; whole = q.whole; reached = q.reached; so_far = q.so_far; refusal = q.refusal; refused = q.refused; place = refl },
      )
    ]

-- the pieces are the same
same_run : (base : Base) (bytes : List ℕ) (ts us : List Placed) → AreCut 1 bytes ts → AreCut 1 bytes us → ts ≡ us
same_run base bytes ts us p q = same-pieces ts us 1 bytes p q

-- bytes are read to one state
pub one-state : (base : Base) (bytes : List ℕ) (s u : State) → Reads base bytes s → Reads base bytes u → s ≡ u
one-state base bytes s u p q =
    let same = same_run base bytes p.pieces q.pieces p.cut q.cut in
    let again : run (kinds (tokens_in q.pieces)) (begun base) ≡ Ok s = subst (λ (x : List Placed). run (kinds (tokens_in x)) (begun base) ≡ Ok s) same p.all in
    ap (λ r. elim r [ Ok x ↦ x | Err y ↦ s ]) (sym again ∙ q.all)

-- how a run fails
fails_run : (base : Base) (bytes : List ℕ) (f : CqlFault) → (h : Fails base bytes f) → run (kinds (tokens_in h.pieces)) (begun base) ≡ Err (record { rest = h.at.kind ∷ kinds h.others; refusal = h.refusal })
fails_run base bytes f h =
    ap (λ (x : List Placed). run (kinds x) (begun base)) h.whole ∙ ap (λ (x : List Kind). run x (begun base)) (map-append (λ (t : Placed). t.kind) h.front (h.at ∷ h.others))
    ∙ run-append (kinds h.front) (h.at.kind ∷ kinds h.others) (begun base) h.reached h.so_far ∙ rw h.refused refl

-- what is read does not fail
pub reads-not-fails : (base : Base) (bytes : List ℕ) (s : State) (f : CqlFault) → Reads base bytes s → ¬ Fails base bytes f
reads-not-fails base bytes s f p h =
    let same = same_run base bytes p.pieces h.pieces p.cut h.cut in
    let again : run (kinds (tokens_in h.pieces)) (begun base) ≡ Ok s = subst (λ (x : List Placed). run (kinds (tokens_in x)) (begun base) ≡ Ok s) same p.all in
    let other = fails_run base bytes f h in
    let both = sym again ∙ other in
    absurd cc

-- a list is split in one way at a distance from its end
same_split : (a b : List Placed) (x y : Placed) (m n : List Placed) → a ++ (x ∷ m) ≡ b ++ (y ∷ n) → length m ≡ length n → (a ≡ b) × (x ≡ y)
same_split [] [] x y m n e h = (refl, cc)
same_split [] (c ∷ b) x y m n e h =
    let l : length (x ∷ m) ≡ length (c ∷ (b ++ (y ∷ n))) = ap (λ (z : List Placed). length z) e in
    absurd (omega (arith, h, l, length-append b (y ∷ n)))
same_split (c ∷ a) [] x y m n e h =
    let l : length (c ∷ (a ++ (x ∷ m))) ≡ length (y ∷ n) = ap (λ (z : List Placed). length z) e in
    absurd (omega (arith, h, l, length-append a (x ∷ m)))
same_split (c ∷ a) (d ∷ b) x y m n e h =
    let first : c ≡ d = cc in
    let rest : a ++ (x ∷ m) ≡ b ++ (y ∷ n) = cc in
    let p = same_split a b x y m n rest h in
    (ap (λ (z : List Placed). c ∷ z) p.0 ∙ ap (λ (z : Placed). z ∷ b) first, p.1)

-- bytes fail in one way
pub one-fault : (base : Base) (bytes : List ℕ) (f g : CqlFault) → Fails base bytes f → Fails base bytes g → f ≡ g
one-fault base bytes f g p q =
    let same = same_run base bytes p.pieces q.pieces p.cut q.cut in
    let again = subst (λ (x : List Placed). run (kinds (tokens_in x)) (begun base) ≡ Err (record { rest = p.at.kind ∷ kinds p.others; refusal = p.refusal })) same (fails_run base bytes f p) in
    let both : Err (record { rest = p.at.kind ∷ kinds p.others; refusal = p.refusal }) ≡ Err (record { rest = q.at.kind ∷ kinds q.others; refusal = q.refusal }) = sym again ∙ fails_run base bytes g q in
    let stop : (record { rest = p.at.kind ∷ kinds p.others; refusal = p.refusal }) ≡ (record { rest = q.at.kind ∷ kinds q.others; refusal = q.refusal }) = ap (λ (r : Result State Stop). stop_of r) both in
    let refusals : p.refusal ≡ q.refusal = ap (λ (x : Stop). x.refusal) stop in
    let lengths : length p.others ≡ length q.others =
    let l : suc (length (kinds p.others)) ≡ suc (length (kinds q.others)) = ap (λ (x : Stop). length x.rest) stop in
    omega (arith, l, length-map p.others (λ (t : Placed). t.kind), length-map q.others (λ (t : Placed). t.kind)) in
    let split = same_split p.front q.front p.at q.at p.others q.others (sym p.whole ∙ ap tokens_in same ∙ q.whole) lengths in
    p.place ∙ ap (λ (r : Refusal). told r (line_of_last 1 p.front) p.at.line) refusals ∙ ap (λ (x : List Placed). told q.refusal (line_of_last 1 x) p.at.line) split.0
    ∙ ap (λ (x : Placed). told q.refusal (line_of_last 1 q.front) x.line) split.1 ∙ sym q.place

-- what a state says
abbrev pub said : State → Chronology
said s = record { curve = s.done.curve; top = s.done.members }

-- a complete state is a script
script_at : (part : Part) (b : Base) (fs : List Frame) (d : Done) (ts : List Kind) → StandsAt part b fs d ts → is_complete part ≡ true → is_single b ≡ false → IsScript (record { curve = d.curve; top = d.members }) ts
script_at complete bases.Script [] d ts h c n = record { left = d; brace = h.0; body = h.1; statements = h.2; top = refl; curve = refl; whole = h.3 }
script_at complete bases.Script (f ∷ fs) d ts h c n = absurd h
script_at complete bases.Plot fs d ts h c n = absurd h
script_at complete bases.Single fs d ts h c n = absurd cc
script_at part b fs d ts h c n = absurd cc

-- what is read as a script is spelled
pub reads-script : (bytes : List ℕ) (s : State) → Reads bases.Script bytes s → Spells bytes (said s)
unfolding RunsOn
reads-script bytes s r =
    let stands = run-stands (kinds (tokens_in r.pieces)) [] (begun bases.Script) s script-begins r.all in
    let e = run-ends r.pieces 1 bytes (begun bases.Script) s r.cut [] script-begins r.all in
    record { pieces = r.pieces; cut = r.cut; grammar = script_at s.part s.base s.frames s.done (kinds (tokens_in r.pieces)) stands r.complete e.1 }

-- the end behind a statement that stands alone
pub end-run : (b : Base) (e : Bool) (d : Done) → is_none d.members ≡ false → run (ended ∷ []) (state bases.Single [] d (last e)) ≡ Ok (state bases.Single [] d complete)
end-run b true d h = rw h refl
end-run b false d h = rw h refl

-- the end behind a script
script_end : (e : Bool) (d : Done) → run (ended ∷ []) (state bases.Script [] d (last e)) ≡ Ok (state bases.Script [] d complete)
script_end true d = refl
script_end false d = refl

-- what is spelled is read
pub script-reads : (bytes : List ℕ) (c : Chronology) → Spells bytes c → (s : State) × Reads bases.Script bytes s × (said s ≡ c)
script-reads bytes c h =
    let g = h.grammar in
    let runs = ap (λ (x : List Kind). run x (begun bases.Script)) g.whole ∙ run-append g.body (ended ∷ []) (begun bases.Script) (state bases.Script [] g.left (last g.brace)) (are-run g.statements [] refl) ∙ script_end g.brace g.left in (
      state bases.Script [] g.left complete,
      record { pieces = h.pieces; cut = h.cut; all = runs; complete = refl },
      ap (λ (x : Trees). chronology g.left.curve x) g.top ∙ ap (λ (x : Option Name). chronology x c.top) g.curve,
    )

-- with a refused token nothing is a script
never : (front : List Kind) (k : Kind) (s : State) (r : Refusal) → run front (begun bases.Script) ≡ Ok s → step s k ≡ Err r → ¬ CanGoOn (front ++ (k ∷ []))
never front k s r so_far refused h =
    let g = h.2 in
    let runs = ap (λ (x : List Kind). run x (begun bases.Script)) g.whole ∙ run-append g.body (ended ∷ []) (begun bases.Script) (state bases.Script [] g.left (last g.brace)) (are-run g.statements [] refl) ∙ script_end g.brace g.left in
    let stops : run (k ∷ h.0) s ≡ Err (record { rest = k ∷ h.0; refusal = r }) = rw refused refl in
    let same : run ((front ++ (k ∷ [])) ++ h.0) (begun bases.Script) ≡ Err (record { rest = k ∷ h.0; refusal = r }) =
    ap (λ (x : List Kind). run x (begun bases.Script)) (append_assoc front (k ∷ []) h.0) ∙ run-append front (k ∷ h.0) (begun bases.Script) s so_far ∙ stops in
    let both = sym runs ∙ same in
    absurd cc

-- reading keeps to a script, or to a statement
pub run-single : (ts pre : List Kind) (s s' : State) → Stands s pre → run ts s ≡ Ok s' → is_single s'.base ≡ is_single s.base
run-single [] pre s s' l h = ap (λ (x : State). is_single x.base) (sym (ok_same s s' h))
run-single (t ∷ ts) pre s s' l h = go (step s t) refl (step-lands s.part t s.base s.frames s.done pre l) (λ u v e. run-single ts (pre ++ t ∷ []) u s' v e) h where
  go : (r : Step) → step s t ≡ r → Lands r (pre ++ t ∷ []) → ((u : State) → Stands u (pre ++ t ∷ []) → run ts u ≡ Ok s' → is_single s'.base ≡ is_single u.base) → after r t ts (λ x. run ts x) ≡ Ok s' → is_single s'.base ≡ is_single s.base
  go (Ok u) e v ih k = ih u v k ∙ (completes s u t pre l e).1
  go (Err x) e v ih k = absurd cc

-- what was taken can be completed
before : (front : List Kind) (s : State) → run front (begun bases.Script) ≡ Ok s → CanGoOn front
before front s so_far =
    let stands = run-stands front [] (begun bases.Script) s script-begins so_far in
    let c = completed s.part s.base s.frames s.done front stands in
    let all : run (front ++ c.more) (begun bases.Script) ≡ Ok c.end = run-append front c.more (begun bases.Script) s so_far ∙ c.runs in
    let ends = run-stands (front ++ c.more) [] (begun bases.Script) c.end script-begins all in
    let single = run-single (front ++ c.more) [] (begun bases.Script) c.end script-begins all in
    (c.more, said c.end, script_at c.end.part c.end.base c.end.frames c.end.done (front ++ c.more) ends c.done single)

-- a script is decided
pub decided : (bytes : List ℕ) → IsDecided bytes
decided bytes = record {
  one = elim (reads-or-fails bases.Script script-begins bytes) [ inl p ↦ inl (said p.0, reads-script bytes p.0 p.1) | inr q ↦ inr q ];
  not_both = λ c f s h. let r = script-reads bytes c s in reads-not-fails bases.Script bytes r.0 f r.1 h;
  one_value = λ a b p q. let r = script-reads bytes a p in let u = script-reads bytes b q in sym r.2 ∙ ap said (one-state bases.Script bytes r.0 u.0 r.1 u.1) ∙ u.2;
  one_fault = λ f g p q. one-fault bases.Script bytes f g p q;
  before = λ f h. before (kinds h.front) h.reached h.so_far;
  never = λ f h. never (kinds h.front) h.at.kind h.reached h.refusal h.so_far h.refused;
}
