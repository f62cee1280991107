-- A map with text keys, seen as a finite map from bytes to bytes.
use Rattle.std.proofs.Common.{◌≡◌, ℕ, List, [], ◌∷◌, map, Option, Some, None, Bool, true, false, cond, refl, sym, ap, ◌∙◌, arith}
use Rattle.std.specs.Prelude.{String}
use Rattle.std.specs.Option.{option_map}
use Rattle.std.specs.Ordering.{nat_cmp, is_eq}
use Rattle.std.specs.Cmp.Lexicographic.{slice_cmp, nat_list_cmp_total}
use Rattle.std.specs.Map.{lookup}
use Rattle.std.specs.Str.{bytes_eq}
use Rattle.std.specs.String.{string_bytes, string_cmp}
use Rattle.std.specs.Global.{Global, Vec}
use Rattle.std.specs.BTreeMap.{BTreeMap, get_by_text, Updates}
use Rattle.std.specs.FinMap as finite
use Rattle.std.proofs.lemmas.Grind.{common_steps}
use Rattle.std.proofs.lemmas.Map.Text.{btree_map_updates_text, is_eq-slice_cmp}
use Rattle.cg_io.specs.MemShelf.{files_in}

-- a test chooses before or after the values are mapped
option_map-cond : {A B : Type 0} (f : A → B) (b : Bool) (x y : Option A) → option_map f (cond b x y) ≡ cond b (option_map f x) (option_map f y)
option_map-cond f true x y = refl
option_map-cond f false x y = refl

-- the first entry of a name, seen as bytes
find-view : (name : List ℕ) (es : List (String Global × Vec ℕ))
    → finite.find (slice_cmp nat_cmp) name (map (λ e. (string_bytes e.0, e.1.items)) es)
    ≡ option_map (λ (b : Vec ℕ). b.items) (lookup (λ k. is_eq (slice_cmp nat_cmp name (string_bytes k))) es)
find-view name [] = refl
find-view name (e ∷ es) =
    ap (cond (is_eq (slice_cmp nat_cmp name (string_bytes e.0))) (Some e.1.items)) (find-view name es)
    ∙ sym (option_map-cond (λ (b : Vec ℕ). b.items) (is_eq (slice_cmp nat_cmp name (string_bytes e.0))) (Some e.1) (lookup (λ k. is_eq (slice_cmp nat_cmp name (string_bytes k))) es))

-- a file by its name is what the map gives
pub get-files_in : (m : BTreeMap (String Global) (Vec ℕ)) (name : List ℕ) → finite.get (files_in m) name ≡ option_map (λ b. b.items) (get_by_text m name)
get-files_in m name = finite.get-from_entries nat_list_cmp_total (map (λ e. (string_bytes e.0, e.1.items)) m.entries) name ∙ find-view name m.entries

-- a file that the map has
pub get-files_in-Some : (m : BTreeMap (String Global) (Vec ℕ)) (name : List ℕ) (b : Vec ℕ) → get_by_text m name ≡ Some b → finite.get (files_in m) name ≡ Some b.items
get-files_in-Some m name b h = get-files_in m name ∙ ap (option_map (λ b. b.items)) h

-- a file that the map hasn't
pub get-files_in-None : (m : BTreeMap (String Global) (Vec ℕ)) (name : List ℕ) → get_by_text m name ≡ None → finite.get (files_in m) name ≡ None
get-files_in-None m name h = get-files_in m name ∙ ap (option_map (λ b. b.items)) h

-- equality of texts is symmetric
bytes_eq-sym : (xs ys : List ℕ) → bytes_eq xs ys ≡ bytes_eq ys xs
bytes_eq-sym [] [] = refl
bytes_eq-sym [] (y ∷ ys) = refl
bytes_eq-sym (x ∷ xs) [] = refl
bytes_eq-sym (x ∷ xs) (y ∷ ys) = grind (arith, common_steps, bytes_eq-sym xs ys)

-- an insertion is seen as one
pub files_in-insert : (m n : BTreeMap (String Global) (Vec ℕ)) (key : String Global) (value : Vec ℕ)
    → Updates string_cmp m n key (Some value) → files_in n ≡ finite.insert (files_in m) (string_bytes key) value.items
files_in-insert m n key value h = finite.same_map nat_list_cmp_total (finite.slice_cmp-IsAntisymmetric finite.nat_cmp-IsAntisymmetric) (files_in n) (finite.insert (files_in m) (string_bytes key) value.items) (λ q.
    get-files_in n q
    ∙ ap (option_map (λ b. b.items)) (btree_map_updates_text (string_bytes key) m n (Some value) h q)
    ∙ option_map-cond (λ (b : Vec ℕ). b.items) (bytes_eq (string_bytes key) q) (Some value) (get_by_text m q)
    ∙ ap (λ t. cond t (Some value.items) (option_map (λ b. b.items) (get_by_text m q))) (bytes_eq-sym (string_bytes key) q ∙ sym (is_eq-slice_cmp q (string_bytes key)))
    ∙ ap (cond (is_eq (slice_cmp nat_cmp q (string_bytes key))) (Some value.items)) (sym (get-files_in m q))
    ∙ sym (finite.get-insert nat_list_cmp_total (files_in m) (string_bytes key) value.items q))
