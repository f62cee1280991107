-- Heads as the entries of a map, and what a change of a version makes.
use Rattle.std.proofs.Common.{◌≡◌, ℕ, suc, ◌<◌, Bool, true, false, cond, List, [], ◌∷◌, map, All, IfSome, refl, ap, sym, arith, bytes_eq, Option, Some, None, string_bytes}
use Rattle.std.specs.Map.{lookup, set_value}
use Rattle.std.specs.declared.string.String.{String}
use Rattle.std.proofs.lemmas.List.Elements.{All-cons}
use Rattle.cg_meaning.specs.Tree.{Name, Chronology}
use Rattle.cg_sharing.specs.Versions.{Head, head_of, with_head}
use Rattle.cg_versions.specs.Plain.{head_in}

pub head-lookup : {Y : Type 0} (name : Name) (es : List (String Y × ℕ)) →
    head_of name (map head_in es) ≡ lookup (λ k. bytes_eq name (string_bytes k)) es
head-lookup name [] = refl
head-lookup name (e ∷ es) = ap (λ r. cond (bytes_eq name (string_bytes e.0)) (Some e.1) r) (head-lookup name es)

set-step : {Y : Type 0} (b : Bool) (e : String Y × ℕ) (w : ℕ) (es fs : List (String Y × ℕ)) (heads : List Head) → map head_in fs ≡ heads →
    map head_in (cond b ((e.0, w) ∷ es) (e ∷ fs)) ≡ cond b (head_in (e.0, w) ∷ map head_in es) (head_in e ∷ heads)
set-step true e w es fs heads h = refl
set-step false e w es fs heads h = ap (λ r. head_in e ∷ r) h

pub with_head-set : {Y : Type 0} (name : Name) (w : ℕ) (es : List (String Y × ℕ)) →
    map head_in (set_value (λ k. bytes_eq name (string_bytes k)) es w) ≡ with_head name w (map head_in es)
with_head-set name w [] = refl
with_head-set name w (e ∷ es) =
    set-step (bytes_eq name (string_bytes e.0)) e w es (set_value (λ k. bytes_eq name (string_bytes k)) es w) (with_head name w (map head_in es)) (with_head-set name w es)

with_none : (b : Bool) (head : Head) (w : ℕ) (heads set : List Head) (rest : Option ℕ) → cond b (Some head.version) rest ≡ None → (rest ≡ None → set ≡ heads) →
    cond b (record head { version = w } ∷ heads) (head ∷ set) ≡ head ∷ heads
with_none true head w heads set rest none same = cc
with_none false head w heads set rest none same = ap (λ r. head ∷ r) (same none)

-- nothing is set where no head has the name
pub with_head-none : (name : Name) (w : ℕ) (heads : List Head) → head_of name heads ≡ None → with_head name w heads ≡ heads
with_head-none name w [] none = refl
with_head-none name w (head ∷ heads) none =
    with_none (bytes_eq name head.name) head w heads (with_head name w heads) (head_of name heads) none (with_head-none name w heads)

-- a tree with these statements and the curve's name as before
pub changed-is : (before after : Chronology) → after.curve ≡ before.curve → record before { top = after.top } ≡ after
changed-is before after e = ap (λ curve. let c : Chronology = record { curve = curve; top = after.top } in c) (sym e)

known-step : (n : ℕ) (b : Bool) (version : ℕ) (rest : Option ℕ) → version < n → IfSome rest (λ v. v < n) → IfSome (cond b (Some version) rest) (λ v. v < n)
known-step n true version rest first others = first
known-step n false version rest first others = others

tail-known : (n : ℕ) (head : Head) (heads : List Head) → All (λ h. h.version < n) (head ∷ heads) → All (λ h. h.version < n) heads
tail-known n head heads all = λ k d less. all (suc k) d (omega arith)

-- what a name stands for is a known version
pub known-head : (n : ℕ) (name : Name) (heads : List Head) → All (λ head. head.version < n) heads → IfSome (head_of name heads) (λ v. v < n)
known-head n name [] all = tt
known-head n name (head ∷ heads) all =
    known-step n (bytes_eq name head.name) head.version (head_of name heads) (all 0 head (omega arith)) (known-head n name heads (tail-known n head heads all))

set-known : (n w : ℕ) (b : Bool) (head : Head) (heads set : List Head) → w < n → head.version < n → All (λ h. h.version < n) heads → All (λ h. h.version < n) set →
    All (λ h. h.version < n) (cond b (record head { version = w } ∷ heads) (head ∷ set))
set-known n w true head heads set less first others all = All-cons (λ h. h.version < n) (record head { version = w }) heads less others
set-known n w false head heads set less first others all = All-cons (λ h. h.version < n) head set first all

-- heads stay known
pub known-with_head : (n w : ℕ) (name : Name) (heads : List Head) → w < n → All (λ head. head.version < n) heads → All (λ head. head.version < n) (with_head name w heads)
known-with_head n w name [] less all = all
known-with_head n w name (head ∷ heads) less all =
    set-known n w (bytes_eq name head.name) head heads (with_head name w heads) less (all 0 head (omega arith)) (tail-known n head heads all)
    (known-with_head n w name heads less (tail-known n head heads all))
