-- Which bytes spell which model, and at which place, and why, bytes that spell none can't be read on.
use Rattle.std.specs.Prelude.{◌≡◌, ℕ, ◌⊎◌, List, [], ◌∷◌, ◌++◌, true, Ok, Err}
use Rattle.cg_meaning.specs.Tree.{Tree, Chronology, Sequence, none, more}
use Rattle.cg_model.specs.Limits.{IsWithinLimits, IsInPlace, AreInRange, IsModel}
use Rattle.cg_token.specs.Kind.{Kind}
use Rattle.cg_token.specs.Tokens.{Placed, AreCut, tokens_in, kinds}
use Rattle.cg_grammar.specs.declared.command.Base.{Base}
use Rattle.cg_grammar.specs.declared.command.Base.TheVariants.{Script, Single}
use Rattle.cg_grammar.specs.declared.fault.CqlCause.{CqlCause}
use Rattle.cg_grammar.specs.declared.fault.CqlCause.TheVariants.{Argument, NoMemory}
use Rattle.cg_grammar.specs.declared.fault.CqlFault.{CqlFault}
use Rattle.cg_grammar.specs.declared.fault.Refusal.{Refusal}
use Rattle.cg_grammar.specs.declared.fault.Refusal.TheVariants.{Here, Before}
use Rattle.cg_grammar.specs.Grammar.{IsScript, IsStatement}
use Rattle.cg_grammar.specs.Steps.{State, begun, step, run, is_complete}

-- the bytes are cut into pieces whose tokens are a script of this chronology
pub record Spells (bytes : List ℕ) (chronology : Chronology) : Type 0 where
  pub pieces : List Placed
  pub cut : AreCut 1 bytes pieces
  pub grammar : IsScript chronology (kinds (tokens_in pieces))

-- the same for one statement that stands alone
pub record SpellsStatement (bytes : List ℕ) (tree : Tree) : Type 0 where
  pub pieces : List Placed
  pub cut : AreCut 1 bytes pieces
  pub grammar : IsStatement tree (kinds (tokens_in pieces))

-- the line of the last token, or of the beginning
abbrev pub line_of_last : ℕ → List Placed → ℕ
line_of_last line [] = line
line_of_last line (token ∷ tokens) = line_of_last token.line tokens

-- what a refusal tells, from the lines of the token before and of the token at which it comes
abbrev pub told : Refusal → ℕ → ℕ → CqlFault
told (Here cause) before line = record { line = line; cause = cause }
told Before before line = record { line = before; cause = Argument }

-- The tokens in front are taken, and the next is refused. The fault stands at it, but at the token before for a closing
-- parenthesis behind the sole text of a Curve that names no file.
pub record Fails (base : Base) (bytes : List ℕ) (fault : CqlFault) : Type 0 where
  pub pieces : List Placed
  pub cut : AreCut 1 bytes pieces
  pub front : List Placed
  pub at : Placed
  pub others : List Placed
  pub whole : tokens_in pieces ≡ front ++ (at ∷ others)
  pub reached : State
  pub so_far : run (kinds front) (begun base) ≡ Ok reached
  pub refusal : Refusal
  pub refused : step reached at.kind ≡ Err refusal
  pub place : fault ≡ told refusal (line_of_last 1 front) at.line

-- this fact, but for want of memory
abbrev pub IsTold : CqlCause → Type 0 → Type 0
IsTold NoMemory fact = Unit {0}
IsTold _ fact = fact

-- bytes fail so, want of memory aside
abbrev pub FailsBy : Base → List ℕ → CqlFault → Type 0
FailsBy base bytes fault = IsTold fault.cause (Fails base bytes fault)

-- all tokens are taken, and lead to this state
pub record Reads (base : Base) (bytes : List ℕ) (state : State) : Type 0 where
  pub pieces : List Placed
  pub cut : AreCut 1 bytes pieces
  pub all : run (kinds (tokens_in pieces)) (begun base) ≡ Ok state
  pub complete : is_complete state.part ≡ true

-- some script begins with these tokens
abbrev pub CanGoOn : List Kind → Type 0
CanGoOn front = (more : List Kind) × (chronology : Chronology) × IsScript chronology (front ++ more)

-- Each list of bytes spells one model, or fails at one place by one cause. What stands before that place can be
-- completed to a script, and with the token at it nothing can.
pub record IsDecided (bytes : List ℕ) : Type 0 where
  pub one : ((chronology : Chronology) × Spells bytes chronology) ⊎ ((fault : CqlFault) × Fails Script bytes fault)
  pub not_both : (chronology : Chronology) (fault : CqlFault) → Spells bytes chronology → ¬ Fails Script bytes fault
  pub one_value : (a b : Chronology) → Spells bytes a → Spells bytes b → a ≡ b
  pub one_fault : (fault other : CqlFault) → Fails Script bytes fault → Fails Script bytes other → fault ≡ other
  pub before : (fault : CqlFault) → (fails : Fails Script bytes fault) → CanGoOn (kinds fails.front)
  pub never : (fault : CqlFault) → (fails : Fails Script bytes fault)
      → ¬ CanGoOn (kinds fails.front ++ (fails.at.kind ∷ []))

-- each list of bytes is decided
abbrev pub EachIsDecided : Type 0
EachIsDecided = (bytes : List ℕ) → IsDecided bytes

-- some statement that stands alone begins with these tokens
abbrev pub CanGoOnAlone : List Kind → Type 0
CanGoOnAlone front = (more : List Kind) × (tree : Tree) × IsStatement tree (front ++ more)

-- the same for a statement that stands alone
pub record IsStatementDecided (bytes : List ℕ) : Type 0 where
  pub one : ((tree : Tree) × SpellsStatement bytes tree) ⊎ ((fault : CqlFault) × Fails Single bytes fault)
  pub not_both : (tree : Tree) (fault : CqlFault) → SpellsStatement bytes tree → ¬ Fails Single bytes fault
  pub one_value : (a b : Tree) → SpellsStatement bytes a → SpellsStatement bytes b → a ≡ b
  pub one_fault : (fault other : CqlFault) → Fails Single bytes fault → Fails Single bytes other → fault ≡ other
  pub before : (fault : CqlFault) → (fails : Fails Single bytes fault) → CanGoOnAlone (kinds fails.front)
  pub never : (fault : CqlFault) → (fails : Fails Single bytes fault)
      → ¬ CanGoOnAlone (kinds fails.front ++ (fails.at.kind ∷ []))

-- each list of bytes is decided as one
abbrev pub EachStatementIsDecided : Type 0
EachStatementIsDecided = (bytes : List ℕ) → IsStatementDecided bytes

-- what bytes spell is a model: within its limits, each Boundary in its place and each value in its range
abbrev pub EachSpelledIsModel : Type 0
EachSpelledIsModel = (bytes : List ℕ) (chronology : Chronology) → Spells bytes chronology → IsModel chronology.top

-- a statement that stands alone: within the limits of a model, in place in a Sequence, and its values in their ranges
pub record IsWithin (tree : Tree) : Type 0 where
  pub limits : IsWithinLimits (more tree none)
  pub placed : IsInPlace Sequence tree
  pub ranged : AreInRange (more tree none)

-- what bytes spell alone is
abbrev pub EachStatementIsWithinLimits : Type 0
EachStatementIsWithinLimits = (bytes : List ℕ) (tree : Tree) → SpellsStatement bytes tree → IsWithin tree
