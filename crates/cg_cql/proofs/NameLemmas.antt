-- Words are UTF-8, and so are their beginnings.
use Rattle.std.proofs.Common.{◌≡◌, ℕ, zero, suc, ◌<◌, Bool, true, false, ◌||◌, List, [], ◌∷◌, take, refl, sym, arith, inl, inr, ◌⊎◌, All, subst, codes, bytes_eq, cond, Option, Some}
use Rattle.std.proofs.lemmas.List.Elements.{All-nil, All-cons}
use Rattle.std.specs.List.{list_all}
use Rattle.std.specs.Str.{IsUtf8}
use Rattle.std.proofs.lemmas.Str.{IsUtf8-from_ascii}
use Rattle.std.proofs.lemmas.Str.Ascii.{IsAscii-from_all}
use Rattle.std.proofs.lemmas.Bool.Decides.{nat_tests}
use Rattle.cg_token.specs.Cut.{in_word, IsWord}
use Rattle.std.proofs.lemmas.Slice.Eq.{bytes_eq-Decides}
use Rattle.cg_grammar.specs.declared.command.Setting.{Setting}
use Rattle.cg_grammar.specs.declared.command.Setting.TheVariants as settings
use Rattle.cg_grammar.specs.Words.{setting_of}
use Rattle.cg_token.proofs.CutLemmas.{both-true}

-- a byte of a word is ASCII
small : (c : ℕ) → in_word c ≡ true → c < 128
small c h = grind (arith, nat_tests, h)

-- so are all
all_small : (w : List ℕ) → list_all in_word w ≡ true → All (λ c. c < 128) w
all_small [] h = All-nil (λ c. c < 128)
all_small (c ∷ cs) h =
    let p = both-true (in_word c) (list_all in_word cs) h in All-cons (λ x. x < 128) c cs (small c p.0) (all_small cs p.1)

-- a word is UTF-8
pub word-utf8 : (w : List ℕ) → IsWord w → IsUtf8 w
word-utf8 w h = IsUtf8-from_ascii w (IsAscii-from_all w (all_small w h.letters))

-- the beginning of letters
take_letters : (n : ℕ) (w : List ℕ) → list_all in_word w ≡ true → list_all in_word (take n w) ≡ true
take_letters zero w h = refl
take_letters (suc n) [] h = refl
take_letters (suc n) (c ∷ cs) h = let p = both-true (in_word c) (list_all in_word cs) h in rw (p.0, take_letters n cs p.1) refl

-- the beginning of a word is one
pub take-word : (n : ℕ) (w : List ℕ) → IsWord w → IsWord (take n w)
take-word n w h = record { letters = take_letters n w h.letters }

-- one of two tests holds
one_of : (a b : Bool) → (a || b) ≡ true → (a ≡ true) ⊎ (b ≡ true)
one_of true b h = inl refl
one_of false b h = inr h

-- what equals a word is one
known : (w v : List ℕ) → IsWord v → bytes_eq w v ≡ true → IsWord w
known w v is h = subst (λ x. IsWord x) (sym ((bytes_eq-Decides w v).0 h)) is

-- the first of two tests that holds
setting_if : (q : Bool) (x s : Setting) (rest : Option Setting) → cond q (Some x) rest ≡ Some s → (q ≡ true) ⊎ (rest ≡ Some s)
setting_if true x s rest h = inl refl
setting_if false x s rest h = inr h

-- the word of an option is a word
pub setting-word : (w : List ℕ) (s : Setting) → setting_of w ≡ Some s → IsWord w
unfolding setting_of
setting-word w s h = elim (setting_if _ settings.False s _ h) [
  | inl p ↦ elim (one_of (bytes_eq w (codes "Cubic")) _ p) [ inl a0 ↦ known w (codes "Cubic") (record { letters = refl }) a0 | inr b0 ↦ elim (one_of (bytes_eq w (codes "UniformSpanPrior")) _ b0) [ inl a1 ↦ known w (codes "UniformSpanPrior") (record { letters = refl }) a1 | inr b1 ↦ elim (one_of (bytes_eq w (codes "UseF14C")) _ b1) [ inl a2 ↦ known w (codes "UseF14C") (record { letters = refl }) a2 | inr b2 ↦ known w (codes "Intercept") (record { letters = refl }) b2 ] ] ]
  | inr h1 ↦ elim (setting_if (bytes_eq w (codes "Resolution")) settings.One s _ h1) [
    | inl p ↦ known w (codes "Resolution") (record { letters = refl }) p
    | inr h2 ↦ elim (setting_if (bytes_eq w (codes "Curve")) settings.Curve s _ h2) [
      | inl p ↦ known w (codes "Curve") (record { letters = refl }) p
      | inr h3 ↦ elim (setting_if _ settings.Ignored s _ h3) [
        | inl p ↦ elim (one_of (bytes_eq w (codes "BCAD")) _ p) [ inl a0 ↦ known w (codes "BCAD") (record { letters = refl }) a0 | inr b0 ↦ elim (one_of (bytes_eq w (codes "PlusMinus")) _ b0) [ inl a1 ↦ known w (codes "PlusMinus") (record { letters = refl }) a1 | inr b1 ↦ elim (one_of (bytes_eq w (codes "SD1")) _ b1) [ inl a2 ↦ known w (codes "SD1") (record { letters = refl }) a2 | inr b2 ↦ elim (one_of (bytes_eq w (codes "SD2")) _ b2) [ inl a3 ↦ known w (codes "SD2") (record { letters = refl }) a3 | inr b3 ↦ elim (one_of (bytes_eq w (codes "SD3")) _ b3) [ inl a4 ↦ known w (codes "SD3") (record { letters = refl }) a4 | inr b4 ↦ elim (one_of (bytes_eq w (codes "RawData")) _ b4) [ inl a5 ↦ known w (codes "RawData") (record { letters = refl }) a5 | inr b5 ↦ elim (one_of (bytes_eq w (codes "ConvergenceData")) _ b5) [ inl a6 ↦ known w (codes "ConvergenceData") (record { letters = refl }) a6 | inr b6 ↦ elim (one_of (bytes_eq w (codes "kIterations")) _ b6) [ inl a7 ↦ known w (codes "kIterations") (record { letters = refl }) a7 | inr b7 ↦ known w (codes "Ensembles") (record { letters = refl }) b7 ] ] ] ] ] ] ] ]
        | inr h4 ↦ absurd cc
      ]
    ]
  ]
]
