-- The number of the curve of a name.
use Rattle.std.proofs.Common.{◌≡◌, ℕ, zero, suc, ◌+◌, ◌-◌, ◌<◌, Bool, true, false, cond, List, [], ◌∷◌, length, get_or, position, sym, ap, subst, ◌∙◌, arith, refl, Some, None}
use Rattle.std.specs.Prelude.{IsSomeAnd}
use Rattle.std.specs.List.{position_from}
use Rattle.std.specs.Str.{str_to_ascii_lowercase}
use Rattle.std.proofs.lemmas.Iterator.Adapters.{position_from-zero}
use Rattle.std.proofs.lemmas.Option.{slice_get-get_or}
use Rattle.std.proofs.lemmas.Slice.Eq.{bytes_eq-Decides}
use Rattle.cg_meaning.specs.Tree.{Name}
use Rattle.cg_curve.specs.Curves.{NamedCurve, IsSameCurveName, IsNew, HasName, AreCurves}
use Rattle.cg_session.specs.Calibration.{has_name, number_at}

first-place : {A : Type 0} (p : A → Bool) (xs : List A) (from n : ℕ) (d : A) → n < length xs → p (get_or xs n d) ≡ true → ((k : ℕ) → k < n → p (get_or xs k d) ≡ false) → position_from p from xs ≡ Some (from + n)
first-place p [] from n d within at before = absurd (omega arith)
first-place p (x ∷ xs) from zero d within at before =
    let here : from ≡ from + 0 = omega arith in
    ap (λ t. cond t (Some from) (position_from p (from + 1) xs)) at ∙ ap (λ place. Some place) here
first-place p (x ∷ xs) from (suc n) d within at before =
    let there : (from + 1) + n ≡ from + suc n = omega arith in
    ap (λ t. cond t (Some from) (position_from p (from + 1) xs)) (before 0 (omega arith))
    ∙ first-place p xs (from + 1) n d (omega arith) at (λ k less. before (suc k) (omega arith)) ∙ ap (λ place. Some place) there

no-place : {A : Type 0} (p : A → Bool) (xs : List A) (from : ℕ) (d : A) → ((k : ℕ) → k < length xs → p (get_or xs k d) ≡ false) → position_from p from xs ≡ None
no-place p [] from d none = refl
no-place p (x ∷ xs) from d none =
    ap (λ t. cond t (Some from) (position_from p (from + 1) xs)) (none 0 (omega arith)) ∙ no-place p xs (from + 1) d (λ k less. none (suc k) (omega arith))

differs : (named : NamedCurve) (name : Name) → ¬ IsSameCurveName named.name name → has_name name named ≡ false
differs named name differ =
    let decides = bytes_eq-Decides (str_to_ascii_lowercase named.name) (str_to_ascii_lowercase name) in
    elim (has_name name named) as (λ t. (t ≡ true → IsSameCurveName named.name name) → t ≡ false) [ true ↦ λ yes. absurd (differ (yes refl)) | false ↦ λ _. refl ] decides.0

-- The curve that has the name is the first, since no other has it.
pub number_found : (curves : List NamedCurve) (name : Name) (number : ℕ) → AreCurves curves → HasName curves name number → number ≡ number_at (position (has_name name) curves)
number_found curves name number are has =
    let d : NamedCurve = record { name = name; curve = [] } in
    let place = number - 1 in
    let within : place < length curves = omega (arith, has.some, has.known) in
    let here : IsSameCurveName (get_or curves place d).name name = subst (λ o. IsSomeAnd o (λ (named : NamedCurve). IsSameCurveName named.name name)) (slice_get-get_or curves place d within) has.same in
    let hit : has_name name (get_or curves place d) ≡ true = (bytes_eq-Decides (str_to_ascii_lowercase (get_or curves place d).name) (str_to_ascii_lowercase name)).1 here in
    let before : (k : ℕ) → k < place → has_name name (get_or curves k d) ≡ false =
    λ k less. differs (get_or curves k d) name (λ same. are.distinct k place d less within (same ∙ sym here)) in
    let counted : number ≡ (0 + place) + 1 = omega (arith, has.some) in
    counted ∙ ap number_at (sym (position_from-zero (has_name name) curves ∙ first-place (has_name name) curves 0 place d within hit before))

pub number_missing : (curves : List NamedCurve) (name : Name) → IsNew curves name → 0 ≡ number_at (position (has_name name) curves)
number_missing curves name new =
    let d : NamedCurve = record { name = name; curve = [] } in
    ap number_at (sym (position_from-zero (has_name name) curves ∙ no-place (has_name name) curves 0 d (λ k less. differs (get_or curves k d) name (new k d less))))
