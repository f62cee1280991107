-- The named files of a list, and the files of the sessions.
use Rattle.std.proofs.Common.{◌≡◌, ℕ, suc, ◌<◌, ◌≤◌, ◌+◌, Bool, true, false, not, ◌==◌, List, [], ◌∷◌, length, map, take, drop, get_or, All, AllPairs, Decides, refl, sym, ap, ap₂, ◌∙◌, subst, arith}
use Rattle.std.specs.List.{AllZip, list_any, position_or_len}
use Rattle.std.specs.Str.{str_to_ascii_lowercase}
use Rattle.std.proofs.Math.Seq.{take-append_seam}
use Rattle.std.proofs.lemmas.Slice.Eq.{bytes_eq-Decides}
use Rattle.std.proofs.lemmas.List.{length-map, get_or-map}
use Rattle.std.proofs.lemmas.List.Elements.{All-nil, All-cons, All-map, All-weaker}
use Rattle.std.proofs.lemmas.List.Folds.{list_any_none, list_any_at}
use Rattle.std.proofs.lemmas.List.Kept.{AllPairs-cons}
use Rattle.cg_curve.specs.Curves.{IsSameCurveName}
use Rattle.cg_words.specs.Words.{NamedFile, IsNamedFile, NamesNothing, IsFile, part_text, AreNamed, AreSessions}
use Rattle.cg_words.specs.Reading.{parts_of, HasPart, SaysNamed, AreFiles, is_same_name, are_distinct}
use Rattle.cg_text.proofs.StepLemmas.{and-both}
use Rattle.cg_words.proofs.NamedLemmas.{at_mark, behind}
use Rattle.cg_words.proofs.CutLemmas.{HasNoComma, parts-of-list, list-of-parts, some-part, named-comma}

-- Parts that say named files.
pub record ArePartsNamed (parts : List (List ℕ)) (named : List NamedFile) : Type 0 where
  pub texts : map part_text named ≡ parts
  pub files : All IsNamedFile named

-- what was read part by part
pub parts-named : (parts : List (List ℕ)) (named : List NamedFile) → AllZip SaysNamed parts named → ArePartsNamed parts named
parts-named [] [] h = record { texts = refl; files = All-nil IsNamedFile }
parts-named [] (one ∷ others) h = absurd h
parts-named (part ∷ parts) [] h = absurd h
parts-named (part ∷ parts) (one ∷ others) h =
    let more = parts-named parts others h.1 in
    record {
      texts = ap₂ (λ t ts. t ∷ ts) (sym (h.0).0) more.texts;
      files = All-cons IsNamedFile one others (h.0).1 more.files;
    }

-- a text is of one NAME=FILE
same-named : (a b : NamedFile) → IsNamedFile a → IsNamedFile b → part_text a ≡ part_text b → a ≡ b
same-named a b first second e =
    let place : length a.name ≡ length b.name =
    sym (at_mark a.name a.file first.name) ∙ ap (λ t. position_or_len (λ c. c == 61) t) e ∙ at_mark b.name b.file second.name in
    let name : a.name ≡ b.name =
    sym (take-append_seam a.name (61 ∷ a.file)) ∙ ap₂ (λ n t. take n t) place e ∙ take-append_seam b.name (61 ∷ b.file) in
    let file : a.file ≡ b.file =
    sym (behind a.name a.file) ∙ ap₂ (λ n t. drop (n + 1) t) place e ∙ behind b.name b.file in
    ap₂ (λ n f. record { name = n; file = f }) name file

-- and texts of one list of them
same-files : (xs ys : List NamedFile) → All IsNamedFile xs → All IsNamedFile ys → map part_text xs ≡ map part_text ys → xs ≡ ys
same-files [] [] first second e = refl
same-files [] (y ∷ ys) first second e = absurd cc
same-files (x ∷ xs) [] first second e = absurd cc
same-files (x ∷ xs) (y ∷ ys) first second e =
    let one : part_text x ≡ part_text y = cc in
    let others : map part_text xs ≡ map part_text ys = cc in
    ap₂ (λ z zs. z ∷ zs) (same-named x y (first 0 x (omega arith)) (second 0 y (omega arith)) one)
    (same-files xs ys (λ k d below. first (suc k) d (omega arith)) (λ k d below. second (suc k) d (omega arith)) others)

-- the parts of named files are their texts
named-parts : (most : ℕ) (IsSame : List ℕ → List ℕ → Type 0) (list : List ℕ) (named : List NamedFile) → AreNamed most IsSame list named → parts_of list ≡ map part_text named
named-parts most IsSame list named h =
    parts-of-list list (map part_text named) h.form (rw length-map h.some) (All-map HasNoComma part_text named (All-weaker IsNamedFile (λ one. HasNoComma (part_text one)) named-comma named h.files))

-- what was read is what the list names
pub read-named : (most : ℕ) (IsSame : List ℕ → List ℕ → Type 0) (list : List ℕ) (read named : List NamedFile) → AllZip SaysNamed (parts_of list) read → AreNamed most IsSame list named → named ≡ read
read-named most IsSame list read named h are =
    let parts = parts-named (parts_of list) read h in
    same-files named read are.files parts.files (sym (named-parts most IsSame list named are) ∙ sym parts.texts)

-- a list names one thing at most
pub one-named : (most : ℕ) (IsSame : List ℕ → List ℕ → Type 0) (list : List ℕ) (x y : List NamedFile) → AreNamed most IsSame list x → AreNamed most IsSame list y → x ≡ y
one-named most IsSame list x y first second =
    same-files x y first.files second.files (sym (named-parts most IsSame list x first) ∙ named-parts most IsSame list y second)

-- what was read is named where it is few and distinct
pub are-named : (most : ℕ) (IsSame : List ℕ → List ℕ → Type 0) (list : List ℕ) (read : List NamedFile) → AllZip SaysNamed (parts_of list) read → length read ≤ most
    → AllPairs (λ a b. ¬ IsSame a.name b.name) read → AreNamed most IsSame list read
are-named most IsSame list read h few distinct =
    let parts = parts-named (parts_of list) read h in
    let size : length read ≡ length (parts_of list) = sym (length-map read part_text) ∙ ap length parts.texts in
    record {
      form = list-of-parts list (map part_text read) parts.texts;
      some = omega (arith, size, some-part list);
      few = few;
      files = parts.files;
      distinct = distinct;
    }

-- a part that names nothing
pub names-nothing : (most : ℕ) (IsSame : List ℕ → List ℕ → Type 0) (list : List ℕ) (named : List NamedFile) → HasPart NamesNothing list → AreNamed most IsSame list named → ⊥
names-nothing most IsSame list named (part, (k, below, here), faulty) are =
    let parts = named-parts most IsSame list named are in
    let within : k < length named = omega (arith, ap length parts, length-map named part_text) in
    let none : NamedFile = record { name = []; file = [] } in
    let text : part ≡ part_text (get_or named k none) = sym here ∙ ap (λ ps. get_or ps k part) parts ∙ get_or-map part_text named k none part within in
    faulty (get_or named k none) (are.files k none within) text

-- the test of distinct names
pub distinct-are : (is_same : List ℕ → List ℕ → Bool) (IsSame : List ℕ → List ℕ → Type 0) → ((a b : List ℕ) → Decides (is_same a b) (IsSame a b)) → (named : List NamedFile)
    → Decides (are_distinct is_same named) (AllPairs (λ a b. ¬ IsSame a.name b.name) named)
distinct-are is_same IsSame decides [] = (λ _ i j d before within. absurd (omega arith), λ _. refl)
distinct-are is_same IsSame decides (one ∷ others) =
    let rest = distinct-are is_same IsSame decides others in (
      λ h.
          let both = and-both (not (list_any (λ other. is_same one.name other.name) others)) (are_distinct is_same others) h in
          let apart : All (λ other. ¬ IsSame one.name other.name) others = λ k d below same.
          let found : list_any (λ other. is_same one.name other.name) others ≡ true = list_any_at (λ other. is_same one.name other.name) others k d below ((decides one.name _).1 same) in
          (let refused : not (list_any (λ other. is_same one.name other.name) others) ≡ true = both.0 in cc) in
          AllPairs-cons (λ a b. ¬ IsSame a.name b.name) one others apart (rest.0 both.1),
      λ pairs.
          let none : list_any (λ other. is_same one.name other.name) others ≡ false =
          list_any_none (λ other. is_same one.name other.name) others (λ k d below. told (is_same one.name (get_or others k d).name) (decides one.name _) (pairs 0 (suc k) d (omega arith) (omega arith))) in
          let more : are_distinct is_same others ≡ true = rest.1 (λ i j d before within. pairs (suc i) (suc j) d (omega arith) (omega arith)) in
          rw (none, more) refl,
    )
  where
    told : {P : Type 0} (b : Bool) → Decides b P → ¬ P → b ≡ false
    told true h not_so = absurd (not_so (h.0 refl))
    told false h not_so = refl

-- the test of equal names, ASCII case aside
pub Decides-is_same_name : (a b : List ℕ) → Decides (is_same_name a b) (IsSameCurveName a b)
Decides-is_same_name a b = bytes_eq-Decides (str_to_ascii_lowercase a) (str_to_ascii_lowercase b)

-- the parts of a list of sessions are their files
pub session-parts : (list : List ℕ) (sessions : List (List ℕ)) → AreSessions list sessions → parts_of list ≡ sessions
session-parts list sessions h = parts-of-list list sessions h.form h.some (All-weaker IsFile HasNoComma (λ file is. is.no_comma) sessions h.files)

-- files that were read are sessions where they are few
pub are-sessions : (list : List ℕ) (files : List (List ℕ)) → AreFiles (parts_of list) files → length files ≤ 8 → AreSessions list files
are-sessions list files h few = record {
  form = list-of-parts list files h.same;
  some = omega (arith, ap length h.same, some-part list);
  few = few;
  files = h.each;
}

-- a part that is no file
pub no-session : (list : List ℕ) (sessions : List (List ℕ)) → HasPart (λ part. ¬ IsFile part) list → AreSessions list sessions → ⊥
no-session list sessions (part, (k, below, here), faulty) are =
    let parts = session-parts list sessions are in
    let within : k < length sessions = omega (arith, ap length parts) in
    faulty (subst IsFile (sym (ap (λ ps. get_or ps k part) parts) ∙ here) (are.files k part within))

-- too many were read
pub too-many : (most : ℕ) (IsSame : List ℕ → List ℕ → Type 0) (list : List ℕ) (read named : List NamedFile) → AllZip SaysNamed (parts_of list) read → most < length read → AreNamed most IsSame list named → ⊥
too-many most IsSame list read named h many are = omega (arith, many, are.few, ap length (read-named most IsSame list read named h are))

-- what was read has a name twice
pub name-twice : (is_same : List ℕ → List ℕ → Bool) (most : ℕ) (IsSame : List ℕ → List ℕ → Type 0) → ((a b : List ℕ) → Decides (is_same a b) (IsSame a b)) → (list : List ℕ) (read named : List NamedFile)
    → AllZip SaysNamed (parts_of list) read → are_distinct is_same read ≡ false → AreNamed most IsSame list named → ⊥
name-twice is_same most IsSame decides list read named h twice are =
    let once : are_distinct is_same named ≡ true = (distinct-are is_same IsSame decides named).1 are.distinct in
    let wrong : true ≡ false = sym once ∙ ap (are_distinct is_same) (read-named most IsSame list read named h are) ∙ twice in
    cc

-- too many sessions were read
pub many-sessions : (list : List ℕ) (files sessions : List (List ℕ)) → AreFiles (parts_of list) files → 8 < length files → AreSessions list sessions → ⊥
many-sessions list files sessions h many are = omega (arith, many, are.few, ap length h.same, ap length (session-parts list sessions are))
