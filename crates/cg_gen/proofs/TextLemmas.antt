-- Texts of several pieces, and numbers without a fraction.
use Rattle.std.proofs.Common.{◌≡◌, ℕ, ◌+◌, ◌*◌, ◌/◌, ◌%◌, ◌++◌, List, [], ◌∷◌, map, decimal, pos, refl, ap, ◌∙◌, append-nil, append_assoc, codes, sym, map-id, zero-add, arith}
use Rattle.std.specs.List.{flat_map, range_with_len}
use Rattle.std.proofs.lemmas.Bool.{le-ltb}
use Rattle.std.proofs.lemmas.List.{flat_map_more, map-append}
use Rattle.std.proofs.lemmas.List.Folds.{flat_map-map}
use Rattle.std.proofs.lemmas.List.FromFn.{map-range_with_len_more}
use Rattle.cg_meaning.specs.Tree.{Tree, Carbon}
use Rattle.cg_num.specs.Written.{decimal_text}
use Rattle.cg_writing.specs.Text.{statement_text, statements_text, values_text}
use Rattle.cg_gen.specs.Texts.{trees}

-- the numbers from 0 on, and one more
pub range-more : (n : ℕ) → range_with_len 0 n ++ n ∷ [] ≡ range_with_len 0 (n + 1)
range-more n =
    ap (λ (ns : List ℕ). ns ++ n ∷ []) (sym (map-id (range_with_len 0 n))) ∙ sym (map-range_with_len_more (λ (k : ℕ). k) 0 n n (zero-add n)) ∙ map-id (range_with_len 0 (n + 1))

-- one more piece
pub piece-more : (f : ℕ → List ℕ) (front text new piece : List ℕ) (n : ℕ) → text ≡ front ++ flat_map f (range_with_len 0 n) → new ≡ text ++ piece → piece ≡ f n → new ≡ front ++ flat_map f (range_with_len 0 (n + 1))
piece-more f front text new piece n h is e =
    is ∙ rw (h, e) (flat_map_more f front (range_with_len 0 n) n) ∙ ap (λ (ns : List ℕ). front ++ flat_map f ns) (range-more n)

-- members are written one after the other
pub statements-of : (depth : ℕ) (ts : List Tree) → statements_text depth (trees ts) ≡ flat_map (statement_text depth) ts
statements-of depth [] = refl
statements-of depth (t ∷ ts) = ap (λ (text : List ℕ). statement_text depth t ++ text) (statements-of depth ts)

pub members-text : (depth n : ℕ) (f : ℕ → Tree) → statements_text depth (trees (map f (range_with_len 0 n))) ≡ flat_map (λ i. statement_text depth (f i)) (range_with_len 0 n)
members-text depth n f = statements-of depth (map f (range_with_len 0 n)) ∙ flat_map-map (statement_text depth) f (range_with_len 0 n)

-- whole years have no decimals
pub whole-text : (n : ℕ) → decimal_text (pos (1000 * n)) ≡ decimal n
unfolding decimal_text
whole-text n =
    let part : 1000 * n / 1000 ≡ n = omega arith in
    let none : 1000 * n % 1000 ≡ 0 = omega arith in
    rw (part, none, le-ltb (1000 * n) 0 (omega arith)) (append-nil (decimal n))

-- whole years as the values of a radiocarbon date
pub values : (old first second third : List ℕ) (age error : ℕ) → first ≡ old ++ decimal age → second ≡ first ++ codes "," → third ≡ second ++ decimal error →
    third ≡ old ++ values_text (Carbon (pos (1000 * age)) (pos (1000 * error)))
values old first second third age error h h' h'' =
    rw (whole-text age, whole-text error)
    (h'' ∙ ap (λ (t : List ℕ). t ++ decimal error) (h' ∙ ap (λ (t : List ℕ). t ++ codes ",") h ∙ append_assoc old (decimal age) (codes ","))
    ∙ append_assoc old (decimal age ++ codes ",") (decimal error))

-- the pieces of an event's line
pub event-line : (old ind p q comma v close semi end : List ℕ) → ((((old ++ (ind ++ p)) ++ q) ++ comma) ++ v) ++ ((close ++ semi) ++ end) ≡ old ++ ((ind ++ (((p ++ ((q ++ comma) ++ v)) ++ close) ++ semi)) ++ end)
event-line old ind p q comma v close semi end =
    let first = old ++ (ind ++ p) in
    let w = (q ++ comma) ++ v in
    let m = p ++ w in
    let tail = (close ++ semi) ++ end in
    ap (λ (t : List ℕ). t ++ tail)
    (ap (λ (t : List ℕ). t ++ v) (append_assoc first q comma) ∙ append_assoc first (q ++ comma) v ∙ append_assoc old (ind ++ p) w ∙ ap (λ (t : List ℕ). old ++ t) (append_assoc ind p w))
    ∙ append_assoc old (ind ++ m) tail
    ∙ ap (λ (t : List ℕ). old ++ t)
    (sym (append_assoc (ind ++ m) (close ++ semi) end) ∙ ap (λ (t : List ℕ). t ++ end) (append_assoc ind m (close ++ semi) ∙ ap (λ (t : List ℕ). ind ++ t) (sym (append_assoc m close semi))))

-- two openings, five members, and a closing
pub enclosed : (c o a b d e f end : List ℕ) → ((((((c ++ o) ++ a) ++ b) ++ d) ++ e) ++ f) ++ end ≡ c ++ (((o ++ (a ++ (b ++ (d ++ (e ++ (f ++ [])))))) ++ end) ++ [])
enclosed c o a b d e f end =
    let last = f ++ [] in
    let all = a ++ (b ++ (d ++ (e ++ last))) in
    let one = c ++ o in
    let two = one ++ a in
    let three = two ++ b in
    let four = three ++ d in
    ap (λ (t : List ℕ). t ++ end)
    (ap (λ (t : List ℕ). (four ++ e) ++ t) (sym (append-nil f)) ∙ append_assoc four e last ∙ append_assoc three d (e ++ last) ∙ append_assoc two b (d ++ (e ++ last)) ∙ append_assoc one a (b ++ (d ++ (e ++ last)))
    ∙ append_assoc c o all)
    ∙ append_assoc c (o ++ all) end ∙ ap (λ (t : List ℕ). c ++ t) (sym (append-nil ((o ++ all) ++ end)))

-- one more text of a list
pub text-more : {V : Type 0} (items : V → List ℕ) (f : ℕ → List ℕ) (list new : List V) (v : V) (n : ℕ) → map items list ≡ map f (range_with_len 0 n) → new ≡ list ++ v ∷ [] → items v ≡ f n → map items new ≡ map f (range_with_len 0 (n + 1))
text-more items f list new v n h is e =
    ap (map items) is ∙ map-append items list (v ∷ []) ∙ rw (h, e) (sym (map-range_with_len_more f 0 n n (zero-add n)))
