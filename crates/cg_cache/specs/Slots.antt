-- What a cache's slots hold, and the lists of codes that they show. chron's own.
use Rattle.std.specs.Prelude.{◌≡◌, ◌+◌, ◌-◌, ◌<◌, ◌≤◌, ℕ, Bool, false, List, [], length, map, slice_get, slice_index_or, Option, Some, None, IsSome, option_map, unwrap_or, bytes_eq, ◌⊎◌}
use Rattle.std.specs.Arc.{arc_value}
use Rattle.cg_rings.specs.declared.which.Which.{Which}
use Rattle.cg_rings.specs.declared.which.Which.TheVariants.{Free, Claimed, Ready}
use Rattle.cg_rings.specs.Lists.{Lists, list_of, AreApart}
use Rattle.cg_cache.specs.declared.entry.Entry.{Entry}
use Rattle.cg_cache.specs.Cached.{Cached}

-- whether there is a code, and it is this one
abbrev pub has_code : List ℕ → Option (List ℕ) → Bool
has_code code None = false
has_code code (Some other) = bytes_eq code other

-- the code in a slot, the seat that claimed it, and the code and the origin of its payload
pub record Held (O : Type 0) : Type 0 where
  pub code : Option (List ℕ)
  pub seat : ℕ
  pub payload : Option (List ℕ × O)

-- a cache: its slots, its rings and its origin
pub record Seen (O : Type 0) : Type 0 where
  pub origin : O
  pub rings : Lists
  pub slots : List (Held O)

-- a slot that was never used
abbrev pub nothing : {O : Type 0} → Held O
nothing = record { code = None; seat = 0; payload = None }

module _ {O : Type 0} where
  -- the content of a slot
  abbrev pub at : List (Held O) → ℕ → Held O
  at slots slot = slice_index_or slots slot nothing

  -- its code
  abbrev pub code_at : List (Held O) → ℕ → List ℕ
  code_at slots slot = unwrap_or ((at slots slot).code) []

  -- its code and the seat that claimed it
  abbrev pub claim_at : List (Held O) → ℕ → List ℕ × ℕ
  claim_at slots slot = (code_at slots slot, (at slots slot).seat)

  -- the lists of the rings, each slot read
  abbrev pub cached_of : Seen O → Cached
  cached_of cache = record {
    capacity = cache.rings.slots;
    ready = map (code_at cache.slots) cache.rings.ready;
    claimed = map (claim_at cache.slots) cache.rings.claimed;
  }

  -- what a slot of each list holds
  abbrev pub Fits : O → Which → Held O → Type 0
  Fits origin Free held = held.code ≡ None
  Fits origin Claimed held = (code : List ℕ) × (held.code ≡ Some code) × (held.payload ≡ None)
  Fits origin Ready held = (code : List ℕ) × (held.code ≡ Some code) × (held.payload ≡ Some (code, origin))

-- each slot is in a list and holds what belongs there, and no code stands twice
pub record IsCache {O : Type 0} (cache : Seen O) : Type 0 where
  pub apart : AreApart cache.rings
  pub count : length cache.slots ≡ cache.rings.slots
  pub listed : (slot : ℕ) → slot < cache.rings.slots → IsSome (list_of cache.rings slot)
  pub fits : (slot : ℕ) (list : Which) → list_of cache.rings slot ≡ Some list →
      Fits cache.origin list (at cache.slots slot)
  pub once : (code : List ℕ) (slot other : ℕ) →
      (at cache.slots slot).code ≡ Some code → (at cache.slots other).code ≡ Some code → slot ≡ other

-- a slot for a further claim: a free one, or the last ready one
pub record IsRoom (rings : Lists) (slot : ℕ) : Type 0 where
  pub some : length rings.claimed < rings.slots
  pub room : ((list_of rings slot ≡ Some Free) × (length rings.ready + length rings.claimed < rings.slots))
      ⊎ ((slice_get rings.ready (length rings.ready - 1) ≡ Some slot)
      × (rings.slots ≤ length rings.ready + length rings.claimed))

module _ {P O : Type 0} (code_of : P → List ℕ) (origin_of : P → O) where
  -- what an entry holds
  abbrev pub held_in : Entry P → Held O
  held_in entry = record {
    code = option_map (λ code. arc_value code) entry.code;
    seat = entry.seat;
    payload = option_map (λ payload. (code_of (arc_value payload), origin_of (arc_value payload))) entry.payload;
  }

  -- a cache by its fields
  abbrev pub seen_in : O → Lists → List (Entry P) → Seen O
  seen_in origin rings entries = record { origin = origin; rings = rings; slots = map held_in entries }
