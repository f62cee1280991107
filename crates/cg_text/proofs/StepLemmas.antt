-- Steps of a reader that may fail, and tests.
use Rattle.std.proofs.Common.{Result, Err, ◌≡◌, ℕ, ◌⊎◌, inl, inr, Bool, true, false, cond, ◌&&◌, ◌==◌, List, Option, Some, None, refl, ap, eq-eqb}
use Rattle.std.specs.Option.{option_or}
use Rattle.cg_text.specs.Pieces.{◌>>=◌, behind_or}

-- a step of a reader gave something, so the step before it did
pub passes : {A B : Type 0} (G : Type 0) (o : Option A) (f : A → Option B) (y : B) → (o >>= f) ≡ Some y → ((x : A) → o ≡ Some x → f x ≡ Some y → G) → G
passes G None f y h go = absurd cc
passes G (Some x) f y h go = go x refl h

-- the parts of a pair that was read
pub parts : {A B : Type 0} (a c : A) (b d : B) → ◌≡◌ {A = Option (A × B)} (Some (a, b)) (Some (c, d)) → (a ≡ c) × (b ≡ d)
parts {A} {B} a c b d h = let same_pair : ◌≡◌ {A = A × B} (a, b) (c, d) = cc in (ap (λ (p : A × B). p.0) same_pair, ap (λ (p : A × B). p.1) same_pair)

-- nothing is not something
pub none-some : {A : Type 0} (x : A) → ◌≡◌ {A = Option A} None (Some x) → ⊥
none-some x e = absurd cc

-- a fault that is handed on
pub same-fault : {A B E : Type 0} (e f : E) → ◌≡◌ {A = Result A E} (Err e) (Err f) → ◌≡◌ {A = Result B E} (Err e) (Err f)
same-fault e f h = let is : e ≡ f = cc in ap (λ x. Err x) is

-- a test held, and so the first branch
pub if-some : {A : Type 0} (b : Bool) (x y : A) → cond b (Some x) None ≡ Some y → (b ≡ true) × (x ≡ y)
if-some true x y h = (refl, cc)
if-some false x y h = absurd cc

-- two tests held
pub and-both : (a b : Bool) → (a && b) ≡ true → (a ≡ true) × (b ≡ true)
and-both true b h = (refl, h)
and-both false b h = absurd cc

-- a test holds or not
pub is-either : (b : Bool) → (b ≡ true) ⊎ (b ≡ false)
is-either true = inl refl
is-either false = inr refl

-- a byte is itself
pub same : (c : ℕ) → (c == c) ≡ true
same c = eq-eqb c c refl

-- what was read was read behind the word, or in the other way
pub branch : {A : Type 0} (G : Type 0) (o : Option (List ℕ)) (read : List ℕ → Option A) (other : Option A) (y : A) → behind_or o read other ≡ Some y
    → ((behind : List ℕ) → o ≡ Some behind → read behind ≡ Some y → G) → (other ≡ Some y → G) → G
branch G (Some behind) read other y h first next = first behind refl h
branch G None read other y h first next = next h

-- what was read was read in one way, or in the other
pub either-way : {A : Type 0} (G : Type 0) (one other : Option A) (y : A) → option_or one other ≡ Some y → (one ≡ Some y → G) → (other ≡ Some y → G) → G
either-way G (Some x) other y h first next = first h
either-way G None other y h first next = next h
