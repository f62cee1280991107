-- Reading a file piece by piece.
use Rattle.std.proofs.Common.{◌≡◌, ℕ, ◌+◌, ◌<◌, ◌≤◌, Bool, true, false, List, [], ◌∷◌, ◌++◌, length, Ok, Err, refl, sym, ap, ◌∙◌, append_assoc, subst, arith}
use Rattle.std.proofs.lemmas.List.{append-nil, map-append}
use Rattle.cg_token.specs.Kind.{Kind, is_last, is_gap}
use Rattle.cg_token.specs.Cut.{cut}
use Rattle.cg_token.specs.Tokens.{Placed, AreCut, AreOthers, line_after, behind, tokens_in, kinds}
use Rattle.cg_token.proofs.CutLemmas.{cut-once, behind-shorter}
use Rattle.cg_grammar.specs.declared.command.Base.{Base}
use Rattle.cg_grammar.specs.declared.fault.CqlCause.{CqlCause}
use Rattle.cg_grammar.specs.declared.fault.CqlCause.TheVariants as causes
use Rattle.cg_grammar.specs.declared.fault.Refusal.{Refusal}
use Rattle.cg_grammar.specs.declared.fault.Refusal.TheVariants.{Here, Before}
use Rattle.cg_grammar.specs.Steps.{Part, is_complete, State, begun, Step, step, run}
use Rattle.cg_grammar.specs.Text.{line_of_last, told, Fails, IsTold, FailsBy, Reads}
use Rattle.cg_cql.specs.View.{Refuses, IsSound, IsSoundAt}
use Rattle.cg_grammar.proofs.RunLemmas.{run-append}
use Rattle.cg_grammar.proofs.StandsLemmas.{StandsAt}
use Rattle.cg_grammar.proofs.StepStandsLemmas.{run-stands}
use Rattle.cg_grammar.proofs.FirstLemmas.{completes}
use Rattle.cg_grammar.proofs.DecidedLemmas.{Begins}

-- the tokens so far led to this state, and the others are those of the bytes that are left
pub record Follows (base : Base) (bytes : List ℕ) (line : ℕ) (rest : List ℕ) (before : ℕ) (s : State) : Type 0 where
  pub pieces : List Placed
  pub front : List Placed
  pub others : List Placed
  pub cut : AreCut 1 bytes pieces
  pub next : AreCut line rest others
  pub whole : tokens_in pieces ≡ front ++ tokens_in others
  pub so_far : run (kinds front) (begun base) ≡ Ok s
  pub last : before ≡ line_of_last 1 front
  pub fits : line + length rest ≤ length bytes + 1

-- nothing is read
pub follows-begin : (base : Base) (bytes : List ℕ) → Follows base bytes 1 bytes 1 (begun base)
follows-begin base bytes =
    let c = cut-once 1 bytes in
    record { pieces = c.pieces; front = []; others = c.pieces; cut = c.cut; next = c.cut; whole = refl; so_far = refl; last = refl; fits = omega arith }

-- the same of what a new lexer and a new reader have
pub begun-follows : (base : Base) (bytes : List ℕ) (line : ℕ) (rest : List ℕ) (s : State) → line ≡ 1 → rest ≡ bytes → s ≡ begun base → Follows base bytes line rest 1 s
begun-follows base bytes line rest s l r e =
    subst (λ (n : ℕ). Follows base bytes n rest 1 s) (sym l)
    (subst (λ (x : List ℕ). Follows base bytes 1 x 1 s) (sym r) (subst (λ (x : State). Follows base bytes 1 bytes 1 x) (sym e) (follows-begin base bytes)))

-- the next piece
pub record Next (line : ℕ) (rest : List ℕ) (others : List Placed) : Type 0 where
  pub at : Placed
  pub more : List Placed
  pub whole : others ≡ at ∷ more
  pub kind : at.kind ≡ (cut rest).kind
  pub line_is : at.line ≡ line
  pub after : AreOthers (is_last at.kind) more (AreCut (line_after line rest) (behind rest) more)

-- the next piece of some
pub next_of : (line : ℕ) (rest : List ℕ) (others : List Placed) → AreCut line rest others → Next line rest others
next_of line rest [] h = absurd h
next_of line rest (t ∷ us) h = record { at = t; more = us; whole = refl; kind = h.0; line_is = h.1; after = h.2 }

-- a gap is not the last piece
gap_last : (k : Kind) → is_gap k ≡ true → is_last k ≡ false
gap_last Rattle.cg_token.specs.Kind.gap h = refl
gap_last k h = absurd cc

-- tokens behind a gap
tokens_gap : (t : Placed) (us : List Placed) → is_gap t.kind ≡ true → tokens_in (t ∷ us) ≡ tokens_in us
tokens_gap t us h = rw h refl

-- tokens from one on
tokens_token : (t : Placed) (us : List Placed) → is_gap t.kind ≡ false → tokens_in (t ∷ us) ≡ t ∷ tokens_in us
tokens_token t us h = rw h refl

-- a gap is passed
pub follows-gap : (base : Base) (bytes : List ℕ) (line : ℕ) (rest : List ℕ) (before : ℕ) (s : State) (k : Kind) → Follows base bytes line rest before s → k ≡ (cut rest).kind → is_gap k ≡ true
    → line_after line rest + length (behind rest) ≤ line + length rest → Follows base bytes (line_after line rest) (behind rest) before s
follows-gap base bytes line rest before s k f e h le =
    let n = next_of line rest f.others f.next in
    let same : n.at.kind ≡ k = n.kind ∙ sym e in
    let gap_is : is_gap n.at.kind ≡ true = ap is_gap same ∙ h in
    record {
      pieces = f.pieces;
      front = f.front;
      others = n.more;
      cut = f.cut;
      next = subst (λ (q : Bool). AreOthers q n.more (AreCut (line_after line rest) (behind rest) n.more)) (gap_last n.at.kind gap_is) n.after;
      whole = f.whole ∙ ap (λ (x : List Placed). f.front ++ tokens_in x) n.whole ∙ ap (λ (x : List Placed). f.front ++ x) (tokens_gap n.at n.more gap_is);
      so_far = f.so_far;
      last = f.last;
      fits = let g = f.fits in omega (arith, g, le);
    }

-- the line of the last token
line_of_last-append : (line : ℕ) (ts : List Placed) (t : Placed) → line_of_last line (ts ++ (t ∷ [])) ≡ t.line
line_of_last-append line [] t = refl
line_of_last-append line (u ∷ us) t = line_of_last-append u.line us t

-- one token more
kinds_snoc : (ts : List Placed) (t : Placed) → kinds (ts ++ (t ∷ [])) ≡ kinds ts ++ (t.kind ∷ [])
kinds_snoc ts t = map-append (λ (x : Placed). x.kind) ts (t ∷ [])

-- a run of one token
one_step : (s s' : State) (k : Kind) → step s k ≡ Ok s' → run (k ∷ []) s ≡ Ok s'
one_step s s' k h = rw h refl

-- a token is taken
record Taken (base : Base) (bytes : List ℕ) (line : ℕ) (rest : List ℕ) (s' : State) : Type 0 where
  pieces : List Placed
  front : List Placed
  more : List Placed
  cut : AreCut 1 bytes pieces
  whole : tokens_in pieces ≡ front ++ tokens_in more
  so_far : run (kinds front) (begun base) ≡ Ok s'
  last : line ≡ line_of_last 1 front
  after : AreOthers (is_complete s'.part) more (AreCut (line_after line rest) (behind rest) more)

-- a token that is taken
taken_next : (base : Base) (bytes : List ℕ) (line : ℕ) (rest : List ℕ) (before : ℕ) (s s' : State) (k : Kind) → Begins base → Follows base bytes line rest before s → k ≡ (cut rest).kind → is_gap k ≡ false → step s k ≡ Ok s'
    → Taken base bytes line rest s'
taken_next base bytes line rest before s s' k b f e h made =
    let n = next_of line rest f.others f.next in
    let same : n.at.kind ≡ k = n.kind ∙ sym e in
    let stands = run-stands (kinds f.front) [] (begun base) s b f.so_far in
    let c = completes s s' k (kinds f.front) stands made in
    record {
      pieces = f.pieces;
      front = f.front ++ (n.at ∷ []);
      more = n.more;
      cut = f.cut;
      whole = f.whole ∙ ap (λ (x : List Placed). f.front ++ tokens_in x) n.whole ∙ ap (λ (x : List Placed). f.front ++ x) (tokens_token n.at n.more (ap is_gap same ∙ h)) ∙ sym (append_assoc f.front (n.at ∷ []) (tokens_in n.more));
      so_far = ap (λ (x : List Kind). run x (begun base)) (kinds_snoc f.front n.at) ∙ run-append (kinds f.front) (n.at.kind ∷ []) (begun base) s f.so_far ∙ one_step s s' n.at.kind (ap (λ (x : Kind). step s x) same ∙ made);
      last = sym (line_of_last-append 1 f.front n.at ∙ n.line_is);
      after = subst (λ (q : Bool). AreOthers q n.more (AreCut (line_after line rest) (behind rest) n.more)) (ap is_last same ∙ sym c.0) n.after;
    }

-- the tokens behind it
pub follows-token : (base : Base) (bytes : List ℕ) (line : ℕ) (rest : List ℕ) (before : ℕ) (s s' : State) (k : Kind) → Begins base → Follows base bytes line rest before s → k ≡ (cut rest).kind → is_gap k ≡ false → step s k ≡ Ok s'
    → is_complete s'.part ≡ false → line_after line rest + length (behind rest) ≤ line + length rest → Follows base bytes (line_after line rest) (behind rest) line s'
follows-token base bytes line rest before s s' k b f e h made c le =
    let t = taken_next base bytes line rest before s s' k b f e h made in
    record {
      pieces = t.pieces;
      front = t.front;
      others = t.more;
      cut = t.cut;
      next = subst (λ (q : Bool). AreOthers q t.more (AreCut (line_after line rest) (behind rest) t.more)) c t.after;
      whole = t.whole;
      so_far = t.so_far;
      last = t.last;
      fits = let g = f.fits in omega (arith, g, le);
    }

-- the last token is taken
pub reads-all : (base : Base) (bytes : List ℕ) (line : ℕ) (rest : List ℕ) (before : ℕ) (s s' : State) (k : Kind) → Begins base → Follows base bytes line rest before s → k ≡ (cut rest).kind → is_gap k ≡ false → step s k ≡ Ok s'
    → is_complete s'.part ≡ true → Reads base bytes s'
reads-all base bytes line rest before s s' k b f e h made c =
    let t = taken_next base bytes line rest before s s' k b f e h made in
    let none : t.more ≡ [] = subst (λ (q : Bool). AreOthers q t.more (AreCut (line_after line rest) (behind rest) t.more)) c t.after in
    let all : tokens_in t.pieces ≡ t.front = t.whole ∙ ap (λ (x : List Placed). t.front ++ tokens_in x) none ∙ append-nil t.front in
    record { pieces = t.pieces; cut = t.cut; all = ap (λ (x : List Placed). run (kinds x) (begun base)) all ∙ t.so_far; complete = c }

-- a token is refused
stops_at : (base : Base) (bytes : List ℕ) (line : ℕ) (rest : List ℕ) (before : ℕ) (s : State) (k : Kind) (r : Refusal) → Follows base bytes line rest before s → k ≡ (cut rest).kind → is_gap k ≡ false → step s k ≡ Err r
    → Fails base bytes (told r before line)
stops_at base bytes line rest before s k r f e h made =
    let n = next_of line rest f.others f.next in
    let same : n.at.kind ≡ k = n.kind ∙ sym e in
    record {
      pieces = f.pieces;
      cut = f.cut;
      front = f.front;
      at = n.at;
      others = tokens_in n.more;
      whole = f.whole ∙ ap (λ (x : List Placed). f.front ++ tokens_in x) n.whole ∙ ap (λ (x : List Placed). f.front ++ x) (tokens_token n.at n.more (ap is_gap same ∙ h));
      reached = s;
      so_far = f.so_far;
      refusal = r;
      refused = ap (λ (x : Kind). step s x) same ∙ made;
      place = ap (λ (x : ℕ). told r x line) f.last ∙ ap (λ (x : ℕ). told r (line_of_last 1 f.front) x) (sym n.line_is);
    }

-- a fact, but for want of memory
is_told : (c : CqlCause) (P : Type 0) → P → IsTold c P
is_told causes.NoMemory P h = tt
is_told c P h = h

-- the same of what the reader answers
pub fails-at : (base : Base) (bytes : List ℕ) (line : ℕ) (rest : List ℕ) (before : ℕ) (s : State) (k : Kind) (r : Refusal) → Follows base bytes line rest before s → k ≡ (cut rest).kind → is_gap k ≡ false → Refuses r (step s k)
    → FailsBy base bytes (told r before line)
fails-at base bytes line rest before s k (Here causes.NoMemory) f e h made = tt
fails-at base bytes line rest before s k Before f e h made = stops_at base bytes line rest before s k Before f e h made
fails-at base bytes line rest before s k (Here c) f e h made = is_told c _ (stops_at base bytes line rest before s k (Here c) f e h made)

-- what tokens lead to is sound
sound_at : (part : Part) (s : State) (ts : List Kind) → StandsAt part s.base s.frames s.done ts → IsSoundAt part s
sound_at (Rattle.cg_grammar.specs.Steps.ready c g) s ts h = (h.0, h.1.free)
sound_at (Rattle.cg_grammar.specs.Steps.equated w t) s ts h = h.0
sound_at part s ts h = tt

-- so is what was read
pub follows-sound : (base : Base) (bytes : List ℕ) (line : ℕ) (rest : List ℕ) (before : ℕ) (s : State) → Begins base → Follows base bytes line rest before s → IsSound s
follows-sound base bytes line rest before s b f = sound_at s.part s (kinds f.front) (run-stands (kinds f.front) [] (begun base) s b f.so_far)

-- fewer bytes stand behind a piece that is not the last
pub piece-shorter : (rest : List ℕ) (k : Kind) → k ≡ (cut rest).kind → is_last k ≡ false → (after : List ℕ) → after ≡ behind rest → length after < length rest
piece-shorter rest k e h after ae = rw ae (behind-shorter rest (ap is_last (sym e) ∙ h))

-- the same from what the lexer tells
pub gap-on : (base : Base) (bytes : List ℕ) (line : ℕ) (rest : List ℕ) (before : ℕ) (s : State) (k : Kind) → Follows base bytes line rest before s → k ≡ (cut rest).kind → is_gap k ≡ true
    → (now : ℕ) (after : List ℕ) → now ≡ line_after line rest → after ≡ behind rest → now + length after ≤ line + length rest → Follows base bytes now after before s
gap-on base bytes line rest before s k f e h now after ne ae le =
    let le2 : line_after line rest + length (behind rest) ≤ line + length rest = rw (ne, ae) at le in
    rw (ne, ae) (follows-gap base bytes line rest before s k f e h le2)

-- a token is taken
pub token-on : (base : Base) (bytes : List ℕ) (line : ℕ) (rest : List ℕ) (before : ℕ) (s s' : State) (k : Kind) → Begins base → Follows base bytes line rest before s → k ≡ (cut rest).kind → is_gap k ≡ false → step s k ≡ Ok s'
    → is_complete s'.part ≡ false → (now : ℕ) (after : List ℕ) → now ≡ line_after line rest → after ≡ behind rest → now + length after ≤ line + length rest → Follows base bytes now after line s'
token-on base bytes line rest before s s' k b f e h made c now after ne ae le =
    let le2 : line_after line rest + length (behind rest) ≤ line + length rest = rw (ne, ae) at le in
    rw (ne, ae) (follows-token base bytes line rest before s s' k b f e h made c le2)

-- fewer bytes stand behind a gap
pub gap-shorter : (rest : List ℕ) (k : Kind) → k ≡ (cut rest).kind → is_gap k ≡ true → (after : List ℕ) → after ≡ behind rest → length after < length rest
gap-shorter rest k e h after ae = rw ae (behind-shorter rest (ap is_last (sym e) ∙ gap_last k h))

-- fewer bytes stand behind a token
pub token-shorter : (base : Base) (bytes : List ℕ) (line : ℕ) (rest : List ℕ) (before : ℕ) (s s' : State) (k : Kind) → Begins base → Follows base bytes line rest before s → k ≡ (cut rest).kind → step s k ≡ Ok s'
    → is_complete s'.part ≡ false → (after : List ℕ) → after ≡ behind rest → length after < length rest
token-shorter base bytes line rest before s s' k b f e made c after ae =
    let stands = run-stands (kinds f.front) [] (begun base) s b f.so_far in
    let last_is = completes s s' k (kinds f.front) stands made in
    rw ae (behind-shorter rest (ap is_last (sym e) ∙ sym last_is.0 ∙ c))
