-- A NAME=FILE is cut at its first `=`.
use Rattle.std.proofs.Common.{◌≡◌, ◌↔◌, ℕ, ◌+◌, Bool, false, List, [], ◌∷◌, ◌++◌, length, take, drop, get_or, subst, suc, refl, sym, ap, ◌∙◌, arith, IsTrue, ◌==◌, length-append, Option, Some, None, Bor, lit<}
use Rattle.std.proofs.lemmas.Bool.{ne_eqb}
use Rattle.std.proofs.lemmas.List.{get_or_append_left}
use Rattle.std.proofs.Math.Seq.{get_or-append_seam, take-append_seam}
use Rattle.std.proofs.lemmas.List.Sums.{position_or_len_is}
use Rattle.std.proofs.lemmas.Str.Pattern.{IsSplitOnceResult, split_once_first}
use Rattle.std.specs.List.{position_or_len, before_first, after_first}
use Rattle.cg_text.specs.Names.{is_name_byte, IsName}
use Rattle.cg_text.proofs.NameLemmas.{name-bytes}
use Rattle.cg_words.specs.Words.{NamedFile, IsNamedFile, part_text}

-- a test that answers no
pub refuted : {b : Bool} {P : Type 0} → (IsTrue b ↔ P) → b ≡ false → P → ⊥
refuted i e p = let t = i.1 p in cc

mark_is_no_name : (byte : ℕ) → IsTrue (is_name_byte byte) → byte ≡ 61 → ⊥
mark_is_no_name byte h e = let f : IsTrue (is_name_byte 61) = subst (λ b. IsTrue (is_name_byte b)) e h in cc

-- the mark stands behind the name
pub at_mark : (name file : List ℕ) → IsName name → position_or_len (λ b. b == 61) (name ++ (61 ∷ file)) ≡ length name
at_mark name file h =
    position_or_len_is (λ b. b == 61) (name ++ (61 ∷ file)) (length name) 0
    (rw length-append (omega arith))
    (λ k l. ap (λ b. b == 61) (get_or_append_left name (61 ∷ file) 0 k l) ∙ ne_eqb (get_or name k 0) 61 (mark_is_no_name _ (name-bytes name h k 0 l)))
    (λ l. ap (λ b. b == 61) (get_or-append_seam name 61 file 0))

pub behind : (name file : List ℕ) → drop (length name + 1) (name ++ (61 ∷ file)) ≡ file
behind [] file = refl
behind (b ∷ name) file =
    let next : length (b ∷ name) + 1 ≡ suc (length name + 1) = omega arith in
    ap (λ n. drop n (b ∷ (name ++ (61 ∷ file)))) next ∙ behind name file

-- a text in two parts around the first mark
pub record AreParts (named : NamedFile) (first second : List ℕ) : Type 0 where
  pub name : first ≡ named.name
  pub file : second ≡ named.file

pub found : (text : List ℕ) (r : Option (Bor (List ℕ) × Bor (List ℕ))) → IsSplitOnceResult 61 text r → (parts : Bor (List ℕ) × Bor (List ℕ)) → r ≡ Some parts →
    (named : NamedFile) → IsNamedFile named → text ≡ part_text named → AreParts named parts.0.now parts.1.now
found text r split parts is named h e =
    let (inside, front, back) = rw is at (split_once_first 61 text r split (lit< tt)) in
    record {
      name = front ∙ ap (λ t. before_first (λ b. b == 61) t) e ∙ ap (λ n. take n (part_text named)) (at_mark named.name named.file h.name) ∙ take-append_seam named.name (61 ∷ named.file);
      file = back ∙ ap (λ t. after_first (λ b. b == 61) t) e ∙ ap (λ n. drop (n + 1) (part_text named)) (at_mark named.name named.file h.name) ∙ behind named.name named.file;
    }

pub not_found : (text : List ℕ) (r : Option (Bor (List ℕ) × Bor (List ℕ))) → IsSplitOnceResult 61 text r → r ≡ None →
    (named : NamedFile) → IsNamedFile named → text ≡ part_text named → ⊥
not_found text r split is named h e =
    let none = rw is at (split_once_first 61 text r split (lit< tt)) in
    let place : length named.name ≡ length (part_text named) = sym (at_mark named.name named.file h.name) ∙ ap (λ t. position_or_len (λ b. b == 61) t) (sym e) ∙ none ∙ ap length e in
    absurd (omega (arith, place, length-append named.name (61 ∷ named.file)))
