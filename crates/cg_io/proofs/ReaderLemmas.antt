-- What is taken from a reader in turns.
use Rattle.std.proofs.Common.{◌≡◌, ℕ, ◌+◌, ◌≤◌, List, ◌++◌, length, drop, Option, Some, None, sym, ap, ◌∙◌, append_assoc, subst, arith, length-append, length-drop}
use Rattle.std.proofs.lemmas.List.{take-append-drop, length-take}
use Rattle.std.specs.Prelude.{Ok, Err, Result, IfSome}
use Rattle.std.specs.Io.{StartsWith}
use Rattle.std.specs.Io.KnownBytes.{Consumes}
use Rattle.cg_io.specs.FileShelf.{TakesAtMost, AppendsRest}
use Rattle.cg_io.specs.Shelf.{Appends}
use Rattle.cg_io.specs.declared.shelf.ReadEnd.{ReadEnd}
use Rattle.cg_io.specs.declared.shelf.ReadEnd.TheVariants.{Whole}
use Rattle.cg_io.specs.declared.shelf.ShelfFault.{ShelfFault}

-- two turns, one after the other
Consumes-append : (a b c : Option (List ℕ)) (xs ys : List ℕ) → Consumes a b xs → Consumes b c ys → Consumes a c (xs ++ ys)
Consumes-append None b c xs ys h k = tt
Consumes-append (Some p) None c xs ys h k = absurd h
Consumes-append (Some p) (Some q) None xs ys h k = absurd k
Consumes-append (Some p) (Some q) (Some r) xs ys h k = h ∙ ap (λ zs. xs ++ zs) k ∙ sym (append_assoc xs ys r)

-- what two turns took together
pub TakesAtMost-append : (a b c : Option (List ℕ)) (xs ys : List ℕ) (most : ℕ) → Consumes a b xs → Consumes b c ys → length xs + length ys ≤ most → TakesAtMost most a c
TakesAtMost-append a b c xs ys most h k le = (xs ++ ys, Consumes-append a b c xs ys h k, omega (arith, length-append xs ys))

-- a list is no longer than one that starts with it
pub StartsWith-length : (before after : List ℕ) → StartsWith after before → length before ≤ length after
StartsWith-length before after kept = omega (arith, ap length kept, length-take (length before) after)

-- what stands past the old bytes was appended
pub Appends-whole : (limit : ℕ) (before after : List ℕ) → StartsWith after before → length after ≤ length before + limit → Appends limit before after (Ok Whole)
Appends-whole limit before after kept within = (drop (length before) after, omega (arith, length-drop (length before) after), sym (take-append-drop (length before) after) ∙ ap (λ zs. zs ++ drop (length before) after) kept)

-- a file that is opened is read as it is told
pub AppendsRest-opened : (told rest : Option (List ℕ)) (limit : ℕ) (before after : List ℕ) (result : Result ReadEnd ShelfFault)
    → IfSome told (λ bytes. rest ≡ Some bytes) → AppendsRest rest limit before after result → AppendsRest told limit before after result
AppendsRest-opened None rest limit before after result opened appends = tt
AppendsRest-opened (Some bytes) rest limit before after result opened appends = subst (λ r. AppendsRest r limit before after result) opened appends

-- nothing is said of a file that could not be opened
pub AppendsRest-fault : (told : Option (List ℕ)) (limit : ℕ) (before after : List ℕ) (fault : ShelfFault) → AppendsRest told limit before after (Err fault)
AppendsRest-fault None limit before after fault = tt
AppendsRest-fault (Some bytes) limit before after fault = tt
