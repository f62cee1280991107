-- The state at the start, one model after another.
use Rattle.std.proofs.Common.{◌≡◌, ◌≢◌, ◌⊎◌, inl, inr, ℕ, suc, ◌+◌, ◌<◌, ◌≤◌, Bool, true, false, cond, List, [], ◌∷◌, ◌++◌, length, All, IfSome, refl, ap, sym, ◌∙◌, arith, bytes_eq, Option, Some, None, slice_index_or, length-append}
use Rattle.std.proofs.Math.ListN.{get_or-append}
use Rattle.std.proofs.Math.Seq.{get_or-append_seam}
use Rattle.std.proofs.lemmas.List.{map-append, length-map}
use Rattle.std.proofs.lemmas.Slice.Eq.{bytes_eq-Decides}
use Rattle.cg_meaning.specs.Tree.{Name}
use Rattle.cg_sharing.specs.Versions.{Version, Head, StartModel, head_of, heads_from, start_of}
use Rattle.cg_versions.specs.Plain.{with_model, AreStart}

pub heads-more : (number : ℕ) (models : List StartModel) (model : StartModel) →
    heads_from number (models ++ model ∷ []) ≡ heads_from number models ++ record { name = model.name; version = number + length models } ∷ []
heads-more number [] model =
    let e : number ≡ number + 0 = omega arith in ap (λ n. let h : Head = record { name = model.name; version = n } in h ∷ []) e
heads-more number (first ∷ models) model =
    let e : number + 1 + length models ≡ number + suc (length models) = omega arith in
    let head : Head = record { name = first.name; version = number } in
    ap (λ hs. head ∷ hs) (heads-more (number + 1) models model
    ∙ ap (λ n. heads_from (number + 1) models ++ (let h : Head = record { name = model.name; version = n } in h) ∷ []) e)

-- a model more at the start is one more version, and one more head
pub start-more : (models : List StartModel) (model : StartModel) → start_of (models ++ model ∷ []) ≡ with_model (start_of models) model.name model.chronology
start-more models model =
    let e : 0 + length models ≡ length models = omega arith in
    rw (map-append, heads-more 0 models model, e, length-map) refl

either : (b : Bool) → (b ≡ true) ⊎ (b ≡ false)
either true = inl refl
either false = inr refl

-- texts that are not equal
other-bytes : (xs ys : List ℕ) → xs ≢ ys → bytes_eq xs ys ≡ false
other-bytes xs ys h = elim (either (bytes_eq xs ys)) [ inl e ↦ absurd (h ((bytes_eq-Decides xs ys).0 e)) | inr e ↦ e ]

unnamed-step : (b : Bool) (version : ℕ) (rest : Option ℕ) → b ≡ false → rest ≡ None → cond b (Some version) rest ≡ None
unnamed-step true version rest e none = cc
unnamed-step false version rest e none = none

-- no head has a name that no model has
pub unnamed : (name : Name) (number : ℕ) (models : List StartModel) → All (λ model. model.name ≢ name) models → head_of name (heads_from number models) ≡ None
unnamed name number [] all = refl
unnamed name number (model ∷ models) all =
    unnamed-step (bytes_eq name model.name) number (head_of name (heads_from (number + 1) models)) (other-bytes name model.name (λ e. all 0 model (omega arith) (sym e))) (unnamed name (number + 1) models (λ k d less. all (suc k) d (omega arith)))

-- more versions are known where fewer are
pub grow-heads : (n m : ℕ) (heads : List Head) → n ≤ m → All (λ head. head.version < n) heads → All (λ head. head.version < m) heads
grow-heads n m heads le all = λ k d less. let h = all k d less in omega arith

grow-parent : (n m : ℕ) (parent : Option ℕ) → n ≤ m → IfSome parent (λ p. p < n) → IfSome parent (λ p. p < m)
grow-parent n m None le h = tt
grow-parent n m (Some p) le h = omega arith

pub grow-parents : (n m : ℕ) (versions : List Version) → n ≤ m → All (λ version. IfSome version.parent (λ p. p < n)) versions →
    All (λ version. IfSome version.parent (λ p. p < m)) versions
grow-parents n m versions le all = λ k d less. grow-parent n m (slice_index_or versions k d).parent le (all k d less)

-- the name of a model is new among those before it
pub fresh-next : (before : List StartModel) (model : StartModel) (rest : List StartModel) → AreStart (before ++ model ∷ rest) →
    head_of model.name (start_of before).heads ≡ None
fresh-next before model rest start =
    unnamed model.name 0 before (λ k d less.
    let there : length before < length (before ++ model ∷ rest) = simp length-append (omega arith) in
    let apart = start.distinct k (length before) d less there in
    let here = get_or-append before (model ∷ rest) d k less in
    let next = get_or-append_seam before model rest d in
    rw (here, next) at apart)
