-- Parts of a list, read one after another.
use Rattle.std.proofs.Common.{◌≡◌, ℕ, ◌<◌, Bor, List, [], ◌∷◌, ◌++◌, length, map, get_or, All, sym, ap, ◌∙◌, subst, subst₂}
use Rattle.std.specs.List.{AllZip}
use Rattle.std.proofs.lemmas.List.{map-append}
use Rattle.std.proofs.lemmas.List.Elements.{All-push}
use Rattle.cg_words.specs.Words.{IsFile}
use Rattle.cg_words.specs.Reading.{parts_of, HasPart, AreFiles}

-- one more of each
zip-push : {A B : Type 0} (R : A → B → Type 0) (xs : List A) (ys : List B) (x : A) (y : B) → AllZip R xs ys → R x y → AllZip R (xs ++ x ∷ []) (ys ++ y ∷ [])
zip-push R [] [] x y h r = (r, tt)
zip-push R [] (b ∷ ys) x y h r = absurd h
zip-push R (a ∷ xs) [] x y h r = absurd h
zip-push R (a ∷ xs) (b ∷ ys) x y h r = (h.0, zip-push R xs ys x y h.1 r)

-- one more part is read
pub read-more : {B : Type 0} (R : List ℕ → B → Type 0) (seen : List (Bor (List ℕ))) (items more : List B) (part : Bor (List ℕ)) (item : B)
    → AllZip R (map (λ x. x.now) seen) items → R part.now item → more ≡ items ++ item ∷ [] → AllZip R (map (λ x. x.now) (seen ++ part ∷ [])) more
read-more R seen items more part item h r e =
    subst₂ (λ xs ys. AllZip R xs ys) (sym (map-append (λ x. x.now) seen (part ∷ []))) (sym e) (zip-push R (map (λ x. x.now) seen) items part.now item h r)

-- one more file is read
pub file-more : (seen files more : List (Bor (List ℕ))) (part : Bor (List ℕ)) → AreFiles (map (λ x. x.now) seen) (map (λ x. x.now) files) → IsFile part.now
    → more ≡ files ++ part ∷ [] → AreFiles (map (λ x. x.now) (seen ++ part ∷ [])) (map (λ x. x.now) more)
file-more seen files more part h good e =
    let pushed : map (λ (x : Bor (List ℕ)). x.now) more ≡ map (λ x. x.now) files ++ part.now ∷ [] = ap (λ xs. map (λ x. x.now) xs) e ∙ map-append (λ x. x.now) files (part ∷ []) in
    record {
      same = pushed ∙ ap (λ xs. xs ++ part.now ∷ []) h.same ∙ sym (map-append (λ x. x.now) seen (part ∷ []));
      each = subst (λ xs. All IsFile xs) (sym pushed) (All-push IsFile (map (λ x. x.now) files) part.now h.each good);
    }

-- the part at a place is a part
pub part-here : (IsFaulty : List ℕ → Type 0) (list : List ℕ) (n : ℕ) (part : List ℕ) → (n < length (parts_of list)) × (part ≡ get_or (parts_of list) n part) → IsFaulty part → HasPart IsFaulty list
part-here IsFaulty list n part turn faulty = (part, (n, turn.0, sym turn.1), faulty)

-- all parts are read
pub read-all : {B : Type 0} (R : List ℕ → B → Type 0) (seen parts : List (List ℕ)) (items : List B) → seen ≡ parts → AllZip R seen items → AllZip R parts items
read-all R seen parts items e h = subst (λ xs. AllZip R xs items) e h

-- all files are read
pub files-all : (seen parts files : List (List ℕ)) → seen ≡ parts → AreFiles seen files → AreFiles parts files
files-all seen parts files e h = subst (λ xs. AreFiles xs files) e h
