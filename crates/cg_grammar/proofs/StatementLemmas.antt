-- A statement that stands alone.
use Rattle.std.proofs.Common.{◌≡◌, ℕ, Bool, true, false, not, List, [], ◌∷◌, ◌++◌, Option, None, Ok, Err, append_assoc, refl, sym, ap, ◌∙◌, inl, inr}
use Rattle.cg_meaning.specs.Tree.{Trees, none, more, Tree}
use Rattle.cg_model.specs.Node.{trees_with}
use Rattle.cg_token.specs.Kind.{Kind, ended}
use Rattle.cg_token.specs.Tokens.{tokens_in, kinds}
use Rattle.cg_model.specs.declared.group.GroupKind.{GroupKind}
use Rattle.cg_grammar.specs.declared.command.Base.{Base}
use Rattle.cg_grammar.specs.declared.command.Base.TheVariants as bases
use Rattle.cg_grammar.specs.Done.{Done, is_none, is_over, parent, is_top, placed_if}
use Rattle.cg_grammar.specs.declared.fault.CqlCause.{CqlCause}
use Rattle.cg_grammar.specs.declared.fault.Refusal.{Refusal}
use Rattle.cg_grammar.specs.Grammar.{Are, empty, event, group, semicolon, curve, options, plot, IsStatement}
use Rattle.cg_grammar.specs.Steps.{Part, complete, is_complete, Frame, State, state, begun, step, run}
use Rattle.cg_grammar.specs.Text.{SpellsStatement, CanGoOnAlone, Reads, IsStatementDecided}
use Rattle.cg_grammar.proofs.RunLemmas.{run-append, are-run, last}
use Rattle.cg_grammar.proofs.StandsLemmas.{StandsAt}
use Rattle.cg_grammar.proofs.StepStandsLemmas.{run-stands}
use Rattle.cg_grammar.proofs.FirstLemmas.{is_single}
use Rattle.cg_grammar.proofs.EndLemmas.{completed}
use Rattle.cg_grammar.proofs.DecidedLemmas.{run-single, RunsOn, run-ends, single-begins, end-run, reads-or-fails, reads-not-fails, one-state, one-fault}

-- no statement, or one
abbrev AtMostOne : Trees → Type 0
AtMostOne none = Unit {0}
AtMostOne (more t none) = Unit {0}
AtMostOne (more t (more u us)) = ⊥

-- one behind none
one_more : (ts : Trees) (t : Tree) → not (is_none ts) ≡ false → AtMostOne (trees_with ts t)
one_more none t h = tt
one_more (more u us) t h = absurd cc

-- a statement that begins is the first
not_over : (b : Base) (p : List GroupKind) (d : Done) → b ≡ bases.Single → p ≡ [] → is_over b p d ≡ false → not (is_none d.members) ≡ false
not_over bases.Single [] d h q o = o
not_over bases.Single (t ∷ p) d h q o = absurd cc
not_over bases.Script p d h q o = absurd cc
not_over bases.Plot p d h q o = absurd cc

-- nothing of the top stands alone
not_top : (b : Base) (p : List GroupKind) (limit : Option CqlCause) → b ≡ bases.Single → p ≡ [] → placed_if (is_top b (parent p)) limit ≡ None → ⊥
not_top bases.Single [] limit h q o = absurd cc
not_top bases.Single (t ∷ p) limit h q o = absurd cc
not_top bases.Script p limit h q o = absurd cc
not_top bases.Plot p limit h q o = absurd cc

-- at most one statement stands alone
one_alone : {b : Base} {p : List GroupKind} {d0 d : Done} {e : Bool} {k : List Kind} → Are b p d0 d e k → b ≡ bases.Single → p ≡ [] → AtMostOne d0.members → AtMostOne d.members
one_alone (empty b p d) h q one = one
one_alone (event b p d0 d e k c g front o free is whole) h q one = one_more d.members _ (not_over b p d h q o)
one_alone (group b p d0 d d1 e e1 k body t g front o free whole inner) h q one = one_more d.members _ (not_over b p d h q o)
one_alone (semicolon b p d0 d k front) h q one = one_alone front h q one
one_alone (curve b p d0 d e k g front free whole) h q one = one_alone front h q one
one_alone (options b p d0 d d1 e k body g front free whole inner) h q one = absurd (not_top b p _ h q free)
one_alone (plot d0 d d1 e e1 k body g front whole inner) h q one = absurd cc

-- what a state says
record Says (s : State) (ts : List Kind) : Type 0 where
  tree : Tree
  one : s.done.members ≡ more tree none
  grammar : IsStatement tree ts

-- some statement, of at most one
members_one : (ts : Trees) → AtMostOne ts → is_none ts ≡ false → (t : Tree) × (ts ≡ more t none)
members_one none one h = absurd cc
members_one (more t none) one h = (t, refl)
members_one (more t (more u us)) one h = absurd one

-- a complete state is a statement
statement_at : (part : Part) (b : Base) (fs : List Frame) (d : Done) (ts : List Kind) → StandsAt part b fs d ts → is_complete part ≡ true → is_single b ≡ true → (t : Tree) × (d.members ≡ more t none) × IsStatement t ts
statement_at complete bases.Single [] d ts h c n =
    let m = members_one d.members (one_alone h.2 refl refl tt) h.3 in
    (m.0, m.1, record { left = d; brace = h.0; body = h.1; statements = h.2; alone = m.1; whole = h.4 })
statement_at complete bases.Single (f ∷ fs) d ts h c n = absurd h
statement_at complete bases.Script fs d ts h c n = absurd cc
statement_at complete bases.Plot fs d ts h c n = absurd h
statement_at part b fs d ts h c n = absurd cc

-- what is read alone is spelled
pub reads-statement : (bytes : List ℕ) (s : State) → Reads bases.Single bytes s → (t : Tree) × (s.done.members ≡ more t none) × SpellsStatement bytes t
unfolding RunsOn
reads-statement bytes s r =
    let stands = run-stands (kinds (tokens_in r.pieces)) [] (begun bases.Single) s single-begins r.all in
    let e = run-ends r.pieces 1 bytes (begun bases.Single) s r.cut [] single-begins r.all in
    let p = statement_at s.part s.base s.frames s.done (kinds (tokens_in r.pieces)) stands r.complete e.1 in
    (p.0, p.1, record { pieces = r.pieces; cut = r.cut; grammar = p.2 })

-- what is spelled alone is read
pub statement-reads : (bytes : List ℕ) (t : Tree) → SpellsStatement bytes t → (s : State) × Reads bases.Single bytes s × (s.done.members ≡ more t none)
statement-reads bytes t h =
    let g = h.grammar in
    let some : is_none g.left.members ≡ false = rw g.alone refl in
    let runs = ap (λ (x : List Kind). run x (begun bases.Single)) g.whole ∙ run-append g.body (ended ∷ []) (begun bases.Single) (state bases.Single [] g.left (last g.brace)) (are-run g.statements [] refl) ∙ end-run bases.Single g.brace g.left some in
    (state bases.Single [] g.left complete, record { pieces = h.pieces; cut = h.cut; all = runs; complete = refl }, g.alone)

-- the first tree, or this one
first_of_trees : Trees → Tree → Tree
first_of_trees none t = t
first_of_trees (more u us) t = u

-- one tree is one list of trees
same_one : (t u : Tree) → more t none ≡ more u none → t ≡ u
same_one t u h = ap (λ (x : Trees). elim x [ none ↦ t | more y ys ↦ y ]) h

-- what was taken can be completed
before : (front : List Kind) (s : State) → run front (begun bases.Single) ≡ Ok s → CanGoOnAlone front
before front s so_far =
    let stands = run-stands front [] (begun bases.Single) s single-begins so_far in
    let c = completed s.part s.base s.frames s.done front stands in
    let all : run (front ++ c.more) (begun bases.Single) ≡ Ok c.end = run-append front c.more (begun bases.Single) s so_far ∙ c.runs in
    let ends = run-stands (front ++ c.more) [] (begun bases.Single) c.end single-begins all in
    let single = run-single (front ++ c.more) [] (begun bases.Single) c.end single-begins all in
    let p = statement_at c.end.part c.end.base c.end.frames c.end.done (front ++ c.more) ends c.done single in
    (c.more, p.0, p.2)

-- the tokens of a statement are all taken
alone_runs : (t : Tree) (ts : List Kind) → (g : IsStatement t ts) → run ts (begun bases.Single) ≡ Ok (state bases.Single [] g.left complete)
alone_runs t ts g =
    let some : is_none g.left.members ≡ false = rw g.alone refl in
    ap (λ (x : List Kind). run x (begun bases.Single)) g.whole ∙ run-append g.body (ended ∷ []) (begun bases.Single) (state bases.Single [] g.left (last g.brace)) (are-run g.statements [] refl) ∙ end-run bases.Single g.brace g.left some

-- with a refused token nothing is a statement
never : (front : List Kind) (k : Kind) (s : State) (r : Refusal) → run front (begun bases.Single) ≡ Ok s → step s k ≡ Err r → ¬ CanGoOnAlone (front ++ (k ∷ []))
never front k s r so_far refused h =
    let runs = alone_runs h.1 ((front ++ (k ∷ [])) ++ h.0) h.2 in
    let stops : run (k ∷ h.0) s ≡ Err (record { rest = k ∷ h.0; refusal = r }) = rw refused refl in
    let same : run ((front ++ (k ∷ [])) ++ h.0) (begun bases.Single) ≡ Err (record { rest = k ∷ h.0; refusal = r }) =
    ap (λ (x : List Kind). run x (begun bases.Single)) (append_assoc front (k ∷ []) h.0) ∙ run-append front (k ∷ h.0) (begun bases.Single) s so_far ∙ stops in
    let both = sym runs ∙ same in
    absurd cc

-- a statement is decided
pub statement-decided : (bytes : List ℕ) → IsStatementDecided bytes
statement-decided bytes = record {
  one = elim (reads-or-fails bases.Single single-begins bytes) [ inl p ↦ (let r = reads-statement bytes p.0 p.1 in inl (r.0, r.2)) | inr q ↦ inr q ];
  not_both = λ t f s h. let r = statement-reads bytes t s in reads-not-fails bases.Single bytes r.0 f r.1 h;
  one_value = λ a b p q.
      let r = statement-reads bytes a p in
      let u = statement-reads bytes b q in
      same_one a b (sym r.2 ∙ ap (λ (x : State). x.done.members) (one-state bases.Single bytes r.0 u.0 r.1 u.1) ∙ u.2);
  one_fault = λ f g p q. one-fault bases.Single bytes f g p q;
  before = λ f h. before (kinds h.front) h.reached h.so_far;
  never = λ f h. never (kinds h.front) h.at.kind h.reached h.refusal h.so_far h.refused;
}
