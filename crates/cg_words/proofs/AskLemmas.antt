-- Lists ask for one request, and words for one thing.
use Rattle.std.proofs.Common.{◌≡◌, ℕ, ◌≤◌, List, length, All, AllPairs, Option, Some, None, IfNone, Result, Ok, Err, IfOk, sym, ap, ◌∙◌, subst, arith}
use Rattle.cg_curve.specs.Curves.{IsSameCurveName}
use Rattle.cg_words.specs.Words.{Lists, Request, NamedFile, IsTurn, AreNamed, AreSessions, AreTurns, MayBe, MayBeCacheSize, AskFor, AskForOneThing, AreNoWords, AreLists, IsRequest}
use Rattle.cg_words.specs.Reading.{HasNoLists, Nothing}
use Rattle.cg_words.proofs.ListsLemmas.{one-lists}
use Rattle.cg_words.proofs.FilesLemmas.{one-named, session-parts}
use Rattle.cg_words.proofs.TurnLemmas.{one-turns}

-- a list that may be left out is one thing
one-or-none : {A : Type 0} (Are : List ℕ → List A → Type 0) → ((list : List ℕ) (x y : List A) → Are list x → Are list y → x ≡ y) → (list : Option (List ℕ)) (x y : List A)
    → MayBe Are list x → MayBe Are list y → x ≡ y
one-or-none Are one None x y first second = first ∙ sym second
one-or-none Are one (Some list) x y first second = one list x y first second

-- two requests of the same things
same-requests : (x y : Request) → x.curves ≡ y.curves → x.models ≡ y.models → x.sessions ≡ y.sessions → x.turns ≡ y.turns → x.cache ≡ y.cache → x ≡ y
same-requests x y curves models sessions turns cache =
    ap (λ c. record { curves = c; models = x.models; sessions = x.sessions; turns = x.turns; cache = x.cache }) curves
    ∙ ap (λ m. record { curves = y.curves; models = m; sessions = x.sessions; turns = x.turns; cache = x.cache }) models
    ∙ ap (λ s. record { curves = y.curves; models = y.models; sessions = s; turns = x.turns; cache = x.cache }) sessions
    ∙ ap (λ t. record { curves = y.curves; models = y.models; sessions = y.sessions; turns = t; cache = x.cache }) turns
    ∙ ap (λ k. record { curves = y.curves; models = y.models; sessions = y.sessions; turns = y.turns; cache = k }) cache

-- the sessions of a list are one thing
pub one-sessions : (list : List ℕ) (x y : List (List ℕ)) → AreSessions list x → AreSessions list y → x ≡ y
one-sessions list x y first second = sym (session-parts list x first) ∙ session-parts list y second

-- a size that may be left out is one size
one-size : (text : Option (List ℕ)) (x y : ℕ) → MayBeCacheSize text x → MayBeCacheSize text y → x ≡ y
one-size None x y first second = first ∙ sym second
one-size (Some text) x y first second = first.number ∙ sym second.number

-- lists ask for one request
pub one-request : (lists : Lists) (x y : Request) → AskFor lists x → AskFor lists y → x ≡ y
one-request lists x y first second =
    let sessions = one-sessions lists.sessions x.sessions y.sessions first.sessions second.sessions in
    let turns : MayBe (AreTurns (length x.sessions)) lists.turns y.turns = subst (λ n. MayBe (AreTurns n) lists.turns y.turns) (sym (ap length sessions)) second.turns in
    same-requests x y
    (one-or-none (AreNamed 4 IsSameCurveName) (one-named 4 IsSameCurveName) lists.curves x.curves y.curves first.curves second.curves)
    (one-named 8 ◌≡◌ lists.models x.models y.models first.models second.models)
    sessions
    (one-or-none (AreTurns (length x.sessions)) (one-turns (length x.sessions)) lists.turns x.turns y.turns first.turns turns)
    (one-size lists.cache x.cache y.cache first.cache second.cache)

-- words ask for one thing at most
pub one-thing : AskForOneThing
one-thing words x y first second =
    let same = one-lists words first.lists second.lists first.stand second.stand in
    one-request second.lists x y (subst (λ lists. AskFor lists x) same first.ask) second.ask

-- What curves keep to, left out or not.
record KeptCurves (curves : List NamedFile) : Type 0 where
  few : length curves ≤ 4
  distinct : AllPairs (λ a b. ¬ IsSameCurveName a.name b.name) curves

kept-curves : (list : Option (List ℕ)) (curves : List NamedFile) → MayBe (AreNamed 4 IsSameCurveName) list curves → KeptCurves curves
kept-curves None curves h = subst KeptCurves (sym h) (record { few = omega arith; distinct = λ i j d before within. absurd (omega arith) })
kept-curves (Some list) curves h = record { few = h.few; distinct = h.distinct }

-- What turns keep to, left out or not.
record KeptTurns (sessions : ℕ) (turns : List ℕ) : Type 0 where
  few : length turns ≤ 10000
  known : All (IsTurn sessions) turns

kept-turns : (sessions : ℕ) (list : Option (List ℕ)) (turns : List ℕ) → MayBe (AreTurns sessions) list turns → KeptTurns sessions turns
kept-turns sessions None turns h = subst (KeptTurns sessions) (sym h) (record { few = omega arith; known = λ k d below. absurd (omega arith) })
kept-turns sessions (Some list) turns h = record { few = h.few; known = h.known }

-- the cache is small, left out or not
kept-cache : (text : Option (List ℕ)) (size : ℕ) → MayBeCacheSize text size → size ≤ 256
kept-cache None size h = omega (arith, h)
kept-cache (Some text) size h = h.few

-- what is asked for is a request
pub ask-request : (lists : Lists) (request : Request) → AskFor lists request → IsRequest request
ask-request lists request h =
    let curves = kept-curves lists.curves request.curves h.curves in
    let turns = kept-turns (length request.sessions) lists.turns request.turns h.turns in
    record {
      few_curves = curves.few;
      curve_names = curves.distinct;
      some_models = h.models.some;
      few_models = h.models.few;
      model_names = h.models.distinct;
      some_sessions = h.sessions.some;
      few_sessions = h.sessions.few;
      session_files = h.sessions.files;
      few_turns = turns.few;
      turns_known = turns.known;
      small_cache = kept-cache lists.cache request.cache h.cache;
    }

-- without turns there is no request
pub no-turns : (lists : Lists) (sessions : List (List ℕ)) (count : ℕ) (request : Request) → AreSessions lists.sessions sessions → count ≡ length sessions
    → ((turns : List ℕ) → ¬ MayBe (AreTurns count) lists.turns turns) → AskFor lists request → ⊥
no-turns lists sessions count request are counted none h =
    let same : length request.sessions ≡ count = ap length (one-sessions lists.sessions request.sessions sessions h.sessions are) ∙ sym counted in
    none request.turns (subst (λ n. MayBe (AreTurns n) lists.turns request.turns) same h.turns)

-- without lists the words ask for nothing
pub no-lists : (words : List (List ℕ)) → HasNoLists words → AreNoWords words
no-lists words none request h = none h.lists h.stand

-- and where their lists ask for nothing
pub no-request : (words : List (List ℕ)) (lists : Lists) → AreLists words lists → ((request : Request) → ¬ AskFor lists request) → AreNoWords words
no-request words lists stand none request h =
    none request (subst (λ ls. AskFor ls request) (one-lists words h.lists lists h.stand stand) h.ask)

-- the same of what a reader of the lists answers
pub nothing-asked : {X E : Type 0} (found : Result (Option X) E) (words : List (List ℕ)) (lists : Lists) → AreLists words lists → IfOk found (λ asked. IfNone asked (Nothing (AskFor lists)))
    → IfOk found (λ asked. IfNone asked (AreNoWords words))
nothing-asked (Ok None) words lists stand none = no-request words lists stand none
nothing-asked (Ok (Some request)) words lists stand none = tt
nothing-asked (Err e) words lists stand none = tt
