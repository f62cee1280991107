-- Pieces behind others, and the marginals of which ranges are told.
use Rattle.std.proofs.Common.{◌≡◌, List, [], ◌∷◌, ◌++◌, refl, sym, ap, ◌∙◌, append_assoc}
use Rattle.std.specs.List.{All}
use Rattle.std.proofs.lemmas.List.Elements.{All-cons, All-head, All-tail}
use Rattle.cg_sharing.specs.Pieces.{Print, Piece, Marginal, Ranges, prints_in, ranges_in, prints_of, ranges_of}

-- The marginals are those of the first, and those of the others behind them.
pub prints_of-append : (xs ys : List Piece) → prints_of (xs ++ ys) ≡ prints_of xs ++ prints_of ys
prints_of-append [] ys = refl
prints_of-append (x ∷ xs) ys =
    ap (λ prints. prints_in x ++ prints) (prints_of-append xs ys) ∙ sym (append_assoc (prints_in x) (prints_of xs) (prints_of ys))

-- So are those of which ranges are told.
pub ranges_of-append : (xs ys : List Piece) → ranges_of (xs ++ ys) ≡ ranges_of xs ++ ranges_of ys
ranges_of-append [] ys = refl
ranges_of-append (x ∷ xs) ys =
    ap (λ prints. ranges_in x ++ prints) (ranges_of-append xs ys) ∙ sym (append_assoc (ranges_in x) (ranges_of xs) (ranges_of ys))

-- What holds of each marginal holds of those of which ranges are told.
pub ranges_of-all : (P : Print → Type 0) (pieces : List Piece) → All P (prints_of pieces) → All P (ranges_of pieces)
ranges_of-all P [] all = all
ranges_of-all P (Marginal print ∷ pieces) all = ranges_of-all P pieces (All-tail P print (prints_of pieces) all)
ranges_of-all P (Ranges print ∷ pieces) all =
    All-cons P print (ranges_of pieces) (All-head P print (prints_of pieces) all) (ranges_of-all P pieces (All-tail P print (prints_of pieces) all))
ranges_of-all P (other ∷ pieces) all = ranges_of-all P pieces all
