use Rattle.std.proofs.Common.{arith, ℕ, ◌*◌, ◌^◌, ◌≡◌, ◌∙◌, sym, pos, ◌-ℤ◌, refl}
use Rattle.std.proofs.lemmas.Int.{ints}
use Rattle.cg_root.specs.Root.{IsRootBelow, IsRootAbove}
use Rattle.cg_enc.specs.Enclosure.{Enclosure, IsEnclosure}
use Rattle.cg_enc.specs.Rounding.{root_places, half}
use Rattle.cg_enc.proofs.Norming.{norm-same}
use Rattle.cg_enc.proofs.Roots.{Ends, ends_ordered, upper_full, upper_most, lo_fits, root-zero, root-value}
use Rattle.cg_enc.proofs.root.rooted.Goals as goal

ends : (a : Enclosure) (h t lo hi v u : ℕ) → IsEnclosure a → h ≡ a.hi → (h ≡ 0 → ⊥) → t ≡ root_places a.exp → lo ≡ a.lo * 2 ^ t → hi ≡ a.hi * 2 ^ t → IsRootBelow lo v → IsRootAbove hi u → Ends a t v u
ends a h t lo hi v u valid e some places el eh lower upper = record {
  valid = valid;
  full = omega (arith, e, some);
  places = places;
  lower = rw el at lower;
  upper = rw eh at upper;
}

pub returns-then-hi-eq0-clause-value : goal.returns-then-hi-eq0-clause-value
returns-then-hi-eq0-clause-value c = c.zero.ensures.value ∙ sym (root-zero c.args.a.now (sym c.hi.ensures.value ∙ c.if-hi-eq0.true))

pub root_down-requires : goal.root_down-requires
root_down-requires c =
    let places : c.places_of-places.result ≡ root_places c.args.a.now.exp = omega (arith, ints, c.places_of-places.ensures.value, c.exp.ensures.value) in
    let moved : c.moved.result ≡ c.args.a.now.lo * 2 ^ c.places_of-places.result = cc in
    omega (arith, moved, lo_fits c.args.a.now c.places_of-places.result c.hi.ensures.valid places)

ends_of : (c : goal.After-half_of) → Ends c.args.a.now c.places_of-places.result c.root_down.result c.root_up.result
ends_of c =
    let places : c.places_of-places.result ≡ root_places c.args.a.now.exp = omega (arith, ints, c.places_of-places.ensures.value, c.exp.ensures.value) in
    ends c.args.a.now c.hi.result c.places_of-places.result c.moved.result c.moved-2.result c.root_down.result c.root_up.result c.hi.ensures.valid c.hi.ensures.value c.if-hi-eq0.false places (cc) (cc) c.root_down.ensures c.root_up.ensures

pub settled-requires-clause-ordered : goal.settled-requires-clause-ordered
settled-requires-clause-ordered c = ends_ordered c.args.a.now c.places_of-places.result c.root_down.result c.root_up.result (ends_of c)

pub settled-requires-clause-least : goal.settled-requires-clause-least
settled-requires-clause-least c = upper_full c.args.a.now c.places_of-places.result c.root_down.result c.root_up.result (ends_of c)

pub settled-requires-clause-most : goal.settled-requires-clause-most
settled-requires-clause-most c = omega (arith, upper_most c.args.a.now c.places_of-places.result c.root_down.result c.root_up.result (ends_of c))

pub returns-clause-value : goal.returns-clause-value
returns-clause-value c =
    let places : c.places_of-places.result ≡ root_places c.args.a.now.exp = omega (arith, ints, c.places_of-places.ensures.value, c.exp.ensures.value) in
    let e = ends c.args.a.now c.hi.result c.places_of-places.result c.moved.result c.moved-2.result c.root_down.result c.root_up.result c.hi.ensures.valid c.hi.ensures.value c.if-hi-eq0.false places (cc) (cc) c.root_down.ensures c.root_up.ensures in
    c.settled.ensures ∙ norm-same _ _ _ _ _ (half (c.args.a.now.exp -ℤ pos c.places_of-places.result)) refl refl (omega (arith, ints, places, c.half_of.ensures.value, c.exp-2.ensures.value)) ∙
    sym (root-value c.args.a.now c.places_of-places.result c.root_down.result c.root_up.result e)
