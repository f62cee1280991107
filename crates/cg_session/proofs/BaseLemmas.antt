-- The bases of names, in a list.
use Rattle.std.proofs.Common.{◌≡◌, ℕ, zero, suc, ◌+◌, ◌<◌, true, false, cond, List, [], ◌∷◌, ◌++◌, map, length, get_or, set, bytes_eq, position, refl, sym, ap, ◌∙◌, arith, Some, None}
use Rattle.std.specs.List.{position_from}
use Rattle.std.proofs.lemmas.List.{map-append}
use Rattle.std.proofs.lemmas.Iterator.Adapters.{position_from-zero}
use Rattle.std.proofs.lemmas.List.Quantifiers.{position-Some}
use Rattle.cg_meaning.specs.Tree.{Name}
use Rattle.cg_sharing.specs.Versions.{head_of}
use Rattle.cg_sharing.specs.Course.{with_base}
use Rattle.cg_session.specs.declared.standing.Base.{Base}
use Rattle.cg_session.specs.Standing.{base_in}

-- the first base of a name is its base
pub head_of-first : (name : Name) (bases : List Base) (i : ℕ) (d : Base) → i < length bases → bytes_eq name (get_or bases i d).name ≡ true → ((k : ℕ) → k < i → bytes_eq name (get_or bases k d).name ≡ false) →
    head_of name (map base_in bases) ≡ Some (get_or bases i d).version
head_of-first name [] i d within at before = absurd (omega arith)
head_of-first name (b ∷ bs) zero d within at before = ap (λ t. cond t (Some b.version) (head_of name (map base_in bs))) at
head_of-first name (b ∷ bs) (suc i) d within at before =
    ap (λ t. cond t (Some b.version) (head_of name (map base_in bs))) (before 0 (omega arith)) ∙ head_of-first name bs i d (omega arith) at (λ k less. before (suc k) (omega arith))

-- and it is the one that is set
pub with_base-first : (name : Name) (version : ℕ) (bases : List Base) (i : ℕ) (d : Base) → i < length bases → bytes_eq name (get_or bases i d).name ≡ true → ((k : ℕ) → k < i → bytes_eq name (get_or bases k d).name ≡ false) →
    with_base name version (map base_in bases) ≡ map base_in (set bases i (record (get_or bases i d) { version = version }))
with_base-first name version [] i d within at before = absurd (omega arith)
with_base-first name version (b ∷ bs) zero d within at before = ap (λ t. cond t (record (base_in b) { version = version } ∷ map base_in bs) (base_in b ∷ with_base name version (map base_in bs))) at
with_base-first name version (b ∷ bs) (suc i) d within at before =
    ap (λ t. cond t (record (base_in b) { version = version } ∷ map base_in bs) (base_in b ∷ with_base name version (map base_in bs))) (before 0 (omega arith))
    ∙ ap (λ hs. base_in b ∷ hs) (with_base-first name version bs i d (omega arith) at (λ k less. before (suc k) (omega arith)))

-- a name without a base
head_of-none : (name : Name) (from : ℕ) (bases : List Base) → position_from (λ base. bytes_eq name base.name) from bases ≡ None → head_of name (map base_in bases) ≡ None
head_of-none name from [] none = refl
head_of-none name from (b ∷ bs) none =
    elim (bytes_eq name b.name) as (λ t. cond t (Some from) (position_from (λ base. bytes_eq name base.name) (from + 1) bs) ≡ None → cond t (Some b.version) (head_of name (map base_in bs)) ≡ None) [
      | true ↦ λ h. absurd (cc)
      | false ↦ λ h. head_of-none name (from + 1) bs h
    ] none

with_base-missing : (name : Name) (version from : ℕ) (bases : List Base) → position_from (λ base. bytes_eq name base.name) from bases ≡ None →
    with_base name version (map base_in bases) ≡ map base_in bases ++ record { name = name; version = version } ∷ []
with_base-missing name version from [] none = refl
with_base-missing name version from (b ∷ bs) none =
    elim (bytes_eq name b.name) as (λ t. cond t (Some from) (position_from (λ base. bytes_eq name base.name) (from + 1) bs) ≡ None →
    cond t (record (base_in b) { version = version } ∷ map base_in bs) (base_in b ∷ with_base name version (map base_in bs)) ≡ base_in b ∷ (map base_in bs ++ record { name = name; version = version } ∷ [])) [
      | true ↦ λ h. absurd (cc)
      | false ↦ λ h. ap (λ hs. base_in b ∷ hs) (with_base-missing name version (from + 1) bs h)
    ] none

-- a base behind the others, for a name without one
pub with_base-more : (name : Name) (version : ℕ) (bases : List Base) → position (λ base. bytes_eq name base.name) bases ≡ None →
    map base_in (bases ++ record { name = name; version = version } ∷ []) ≡ with_base name version (map base_in bases)
with_base-more name version bases none =
    map-append base_in bases (record { name = name; version = version } ∷ []) ∙ sym (with_base-missing name version 0 bases (sym (position_from-zero (λ (base : Base). bytes_eq name base.name) bases) ∙ none))

-- the base at the place of a name is the one that is set
pub with_base-at : (name : Name) (version : ℕ) (bases : List Base) (i : ℕ) (d : Base) → position (λ base. bytes_eq name base.name) bases ≡ Some i →
    map base_in (set bases i (record (get_or bases i d) { version = version })) ≡ with_base name version (map base_in bases)
with_base-at name version bases i d is =
    let first = position-Some (λ (base : Base). bytes_eq name base.name) bases i d is in
    sym (with_base-first name version bases i d first.0 first.1 first.2)

-- and the one that is found
pub head_of-at : (name : Name) (bases : List Base) (i : ℕ) (d : Base) → position (λ base. bytes_eq name base.name) bases ≡ Some i → head_of name (map base_in bases) ≡ Some (get_or bases i d).version
head_of-at name bases i d is =
    let first = position-Some (λ (base : Base). bytes_eq name base.name) bases i d is in
    head_of-first name bases i d first.0 first.1 first.2

-- a name that has none
pub head_of-missing : (name : Name) (bases : List Base) → position (λ base. bytes_eq name base.name) bases ≡ None → head_of name (map base_in bases) ≡ None
head_of-missing name bases none = head_of-none name 0 bases (sym (position_from-zero (λ (base : Base). bytes_eq name base.name) bases) ∙ none)
