-- One file more of a list.
use Rattle.std.proofs.Common.{◌≡◌, ℕ, ◌+◌, ◌<◌, List, [], ◌∷◌, ◌++◌, map, length, get_or, take, drop, Option, All, AllPairs, sym, ap, ap₂, subst, ◌∙◌, arith, add-zero}
use Rattle.std.proofs.lemmas.List.{map-append, take_more, take-append-drop, get_or-take, length-map, length-take-le}
use Rattle.std.proofs.lemmas.List.{get_or-map}
use Rattle.cg_meaning.specs.Tree.{Name}
use Rattle.cg_io.specs.Shelf.{Files}
use Rattle.cg_words.specs.Words.{NamedFile}
use Rattle.cg_report.specs.declared.file.FileKind.{FileKind}
use Rattle.cg_files.specs.Said.{Said}
use Rattle.cg_files.specs.Reading.{File, EndsWith, AreRead}
use Rattle.cg_files.specs.Inputs.{file_as, files_from, names_of}
use Rattle.cg_files.specs.declared.file.FileFault.{FileFault}
use Rattle.cg_files.proofs.EndLemmas.{read_more, ends_more, ends_before}

files_from-append : (kind : FileKind) (number : ℕ) (xs ys : List (List ℕ)) → files_from kind number (xs ++ ys) ≡ files_from kind number xs ++ files_from kind (number + length xs) ys
files_from-append kind number [] ys = ap (λ n. files_from kind n ys) (sym (add-zero number))
files_from-append kind number (x ∷ xs) ys =
    let e : number + 1 + length xs ≡ number + length (x ∷ xs) = omega arith in
    ap (λ fs. file_as kind number x ∷ fs) (files_from-append kind (number + 1) xs ys ∙ ap (λ n. files_from kind (number + 1) xs ++ files_from kind n ys) e)

-- an item of a list of files, at its place
module _ {A : Type 0} (kind : FileKind) (path : A → List ℕ) (xs : List A) (k : ℕ) (x : A) (is : x ≡ get_or xs k x) (within : k < length xs) where
  abbrev files : List A → List File
  files ys = files_from kind 1 (map path ys)

  up_to : take (k + 1) xs ≡ take k xs ++ x ∷ []
  up_to = take_more xs k x within ∙ ap (λ y. take k xs ++ y ∷ []) (sym is)

  first_files : files (take (k + 1) xs) ≡ files (take k xs) ++ file_as kind (k + 1) (path x) ∷ []
  first_files =
      let number : 1 + length (map path (take k xs)) ≡ k + 1 = omega (arith, length-map (take k xs) path, length-take-le k xs (omega arith)) in
      ap files up_to ∙ ap (λ ps. files_from kind 1 ps) (map-append path (take k xs) (x ∷ [])) ∙ files_from-append kind 1 (map path (take k xs)) (path x ∷ [])
      ∙ ap (λ n. files (take k xs) ++ file_as kind n (path x) ∷ []) number

  all_files : files xs ≡ files (take (k + 1) xs) ++ files_from kind (1 + length (map path (take (k + 1) xs))) (map path (drop (k + 1) xs))
  all_files =
      ap files (sym (take-append-drop (k + 1) xs)) ∙ ap (λ ps. files_from kind 1 ps) (map-append path (take (k + 1) xs) (drop (k + 1) xs))
      ∙ files_from-append kind 1 (map path (take (k + 1) xs)) (map path (drop (k + 1) xs))

  module _ (curves : List Name) (told now last : Option Files) (said : List Said) (name : List ℕ) (same : name ≡ path x) (read : AreRead curves told now (files (take k xs)) said) where
    read_next : (next : Said) → AreRead curves now last (file_as kind (k + 1) name ∷ []) (next ∷ []) → AreRead curves told last (files (take (k + 1) xs)) (said ++ next ∷ [])
    read_next next one =
        subst (λ fs. AreRead curves told last fs (said ++ next ∷ [])) (sym first_files)
        (read_more curves told now last (files (take k xs)) (file_as kind (k + 1) (path x) ∷ []) said read (next ∷ []) (subst (λ n. AreRead curves now last (file_as kind (k + 1) n ∷ []) (next ∷ [])) same one))

    -- the same where what the files say is what a list of items says, and one was pushed
    pub read_pushed : {B : Type 0} (said_of : B → Said) (items pushed : List B) (next : B) → said ≡ map said_of items → pushed ≡ items ++ next ∷ [] →
        AreRead curves now last (file_as kind (k + 1) name ∷ []) (said_of next ∷ []) → AreRead curves told last (files (take (k + 1) xs)) (map said_of pushed)
    read_pushed said_of items pushed next so_far more one =
        subst (λ s. AreRead curves told last (files (take (k + 1) xs)) s) (ap (λ s. s ++ said_of next ∷ []) so_far ∙ sym (ap (map said_of) more ∙ map-append said_of items (next ∷ [])))
        (read_next (said_of next) one)

    pub ends_next : (fault : FileFault) → EndsWith curves now last (file_as kind (k + 1) name ∷ []) fault → EndsWith curves told last (files xs) fault
    ends_next fault end =
        subst (λ fs. EndsWith curves told last fs fault) (sym all_files)
        (ends_before curves told last (files (take (k + 1) xs)) (files_from kind (1 + length (map path (take (k + 1) xs))) (map path (drop (k + 1) xs))) fault
        (subst (λ fs. EndsWith curves told last fs fault) (sym first_files)
        (ends_more curves told now last (files (take k xs)) (file_as kind (k + 1) (path x) ∷ []) said read fault (subst (λ n. EndsWith curves now last (file_as kind (k + 1) n ∷ []) fault) same end))))

-- the names of the files up to a place, and the next one
module _ (named : List NamedFile) (k : ℕ) (x : NamedFile) (is : x ≡ get_or named k x) (within : k < length named) where
  names_next : (names : List (List ℕ)) (name : List ℕ) → name ≡ x.name → names ≡ names_of (take k named) → names ++ name ∷ [] ≡ names_of (take (k + 1) named)
  names_next names name same so_far =
      ap₂ (λ ns n. ns ++ n ∷ []) so_far same ∙ sym (map-append (λ one. one.name) (take k named) (x ∷ [])) ∙ ap names_of (sym (take_more named k x within ∙ ap (λ y. take k named ++ y ∷ []) (sym is)))

  pub names_pushed : {A : Type 0} (name_of : A → List ℕ) (items pushed : List A) (next : A) → pushed ≡ items ++ next ∷ [] → name_of next ≡ x.name →
      map name_of items ≡ names_of (take k named) → map name_of pushed ≡ names_of (take (k + 1) named)
  names_pushed name_of items pushed next more same so_far =
      ap (map name_of) more ∙ map-append name_of items (next ∷ []) ∙ names_next (map name_of items) (name_of next) same so_far

  pub few_names : {A : Type 0} (name_of : A → List ℕ) (items : List A) → map name_of items ≡ names_of (take k named) → length items ≡ k
  few_names name_of items so_far =
      let e = ap (λ ns. length ns) so_far in
      omega (arith, e, length-map items name_of, length-map (take k named) (λ (one : NamedFile). one.name), length-take-le k named (omega arith))

  -- a name that differs from all later ones is new among those before it
  pub new_name : {A : Type 0} (name_of : A → List ℕ) (items : List A) (Differs : List ℕ → List ℕ → Type 0) (name : List ℕ) → name ≡ x.name →
      map name_of items ≡ names_of (take k named) → AllPairs (λ a b. Differs a.name b.name) named → All (λ item. Differs (name_of item) name) items
  new_name name_of items Differs name same so_far distinct = λ i d below.
      let count : length items ≡ k = few_names name_of items so_far in
      let early : i < k = omega arith in
      let mine = get_or-map name_of items i d (name_of d) below in
      let kept : length (take k named) ≡ k = length-take-le k named (omega arith) in
      let theirs = get_or-map (λ (one : NamedFile). one.name) (take k named) i x (name_of d) (omega arith) in
      let e : name_of (get_or items i d) ≡ (get_or named i x).name =
      sym mine ∙ ap (λ ns. get_or ns i (name_of d)) so_far ∙ theirs ∙ ap (λ (one : NamedFile). one.name) (get_or-take k named i x early) in
      let far = distinct i k x early within in
      subst (λ n. Differs n name) (sym e) (subst (λ n. Differs (get_or named i x).name n) (ap (λ (one : NamedFile). one.name) (sym is) ∙ sym same) far)
