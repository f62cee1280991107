-- What reads tell of the shelf before them.
use Rattle.std.proofs.Common.{◌≡◌, ℕ, zero, suc, ◌+◌, ◌<◌, List, length, Option, Some, None, Result, Ok, Err, replicate, refl, sym, ap, subst, ◌∙◌, arith, zero-add, option_map}
use Rattle.std.proofs.lemmas.List.{length-replicate}
use Rattle.cg_io.specs.Shelf.{Files, TellsRead, after_read}
use Rattle.cg_io.specs.declared.shelf.ReadEnd.TheVariants.{Whole, TooLong}
use Rattle.cg_io.specs.declared.shelf.ReadEnd.{ReadEnd}
use Rattle.cg_io.specs.declared.shelf.ShelfFault.{ShelfFault}
use Rattle.cg_io.specs.declared.shelf.ShelfFault.TheVariants.{Failed, NoMemory}
use Rattle.cg_files.specs.Shelf.{limit, later, Reads, Finds, Misses}

some_longer : (n : ℕ) → (bytes : List ℕ) × (n < length bytes)
some_longer n = let e = length-replicate {A = ℕ} (n + 1) 0 in (replicate (n + 1) 0, omega (arith, e))

-- a file that is too long has more bytes than the limit
pub too_long : (told new : Option Files) (name before after : List ℕ) → (end : ReadEnd) → end ≡ TooLong → TellsRead told new name limit before after (Ok end) →
    (bytes : List ℕ) × Finds told name bytes × (limit < length bytes)
too_long None new name before after end is h = let (bytes, long) = some_longer limit in (bytes, tt, long)
too_long (Some files) new name before after TooLong is h = h.1
too_long (Some files) new name before after Whole is h = absurd cc

pub read_once : (told new : Option Files) (name before after : List ℕ) (result : Result ReadEnd ShelfFault) → TellsRead told new name limit before after result → Reads 1 told new
read_once None new name before after result h = tt
read_once (Some files) new name before after result h = h.0

pub missed : (told new : Option Files) (name before after : List ℕ) (fault : ShelfFault) → fault ≡ Failed → TellsRead told new name limit before after (Err fault) → Misses told name
missed None new name before after fault is h = tt
missed (Some files) new name before after Failed is h = h.1
missed (Some files) new name before after NoMemory is h = absurd cc

-- a shelf that tells nothing tells nothing later
pub later-none : (n : ℕ) → later n None ≡ None
later-none zero = refl
later-none (suc n) = later-none n

later-some : (n : ℕ) (files : Files) → (now : Files) × (later n (Some files) ≡ Some now)
later-some zero files = (files, refl)
later-some (suc n) files = later-some n (after_read files)

pub later-add : (n m : ℕ) (told : Option Files) → later (n + m) told ≡ later m (later n told)
later-add zero m told = ap (λ k. later k told) (zero-add m)
later-add (suc n) m told = let e : suc n + m ≡ suc (n + m) = omega arith in ap (λ k. later k told) e ∙ later-add n m (option_map after_read told)

pub no_read : (told : Option Files) → Reads 0 told told
no_read None = tt
no_read (Some files) = refl

pub Reads-add : (n m : ℕ) (told now last : Option Files) → Reads n told now → Reads m now last → Reads (n + m) told last
Reads-add n m None now last reads more = tt
Reads-add n m (Some files) now last reads more =
    let (next, is) = later-some n files in
    let more_next : Reads m (Some next) last = subst (λ (o : Option Files). Reads m o last) (reads ∙ is) more in
    more_next ∙ ap (λ o. later m o) (sym is) ∙ sym (later-add n m (Some files))

-- what holds of the shelf after some reads holds of it told of before them
pub carry : (P : Option Files → Type 0) (n : ℕ) (told now : Option Files) → (P now → P None) → Reads n told now → P now → P (later n told)
carry P n None now forgets reads p = subst P (sym (later-none n)) (forgets p)
carry P n (Some files) now forgets reads p = subst P reads p

pub misses_none : (n : ℕ) (name : List ℕ) → Misses (later n None) name
misses_none n name = subst (λ o. Misses o name) (sym (later-none n)) tt

pub finds_none : (n : ℕ) (name bytes : List ℕ) → Finds (later n None) name bytes
finds_none n name bytes = subst (λ o. Finds o name bytes) (sym (later-none n)) tt
