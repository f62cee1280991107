use Rattle.std.proofs.Common.{arith, ℕ, ◌+◌, ◌-◌, ◌*◌, ◌/◌, ◌^◌, ◌≡◌, ◌∙◌, sym, subst, ℤ, pos, ◌-ℤ◌}
use Rattle.std.proofs.lemmas.Int.{ints}
use Rattle.cg_enc.specs.Enclosure.{Enclosure, IsEnclosure, IsFirm}
use Rattle.cg_enc.specs.Rounding.{ceil_div, over, over_places}
use Rattle.cg_enc.proofs.Norming.{same}
use Rattle.cg_enc.proofs.Quotients.{Operands, over-ordered, over-most, over-zero, over-value, over-IsQuotient}
use Rattle.cg_enc.proofs.quotient.quotient.Goals as goal

operands : (a b : Enclosure) (h : ℕ) → IsEnclosure a → IsEnclosure b → IsFirm b → h ≡ a.hi → (h ≡ 0 → ⊥) → Operands a b
operands a b h va vb firm e some = record { left = va; right = vb; full = omega (arith, e, some); firm = firm }

pub returns-then-hi-eq0-clause-value : goal.returns-then-hi-eq0-clause-value
returns-then-hi-eq0-clause-value c = c.zero.ensures.value ∙ sym (over-zero c.args.a.now c.args.b.now (sym c.hi.ensures.value ∙ c.if-hi-eq0.true))

pub overflow_cast-lo-2 : goal.overflow_cast-lo-2
overflow_cast-lo-2 c =
    let a : Enclosure = c.args.a.now in
    let b : Enclosure = c.args.b.now in
    let h = operands a b c.hi.result c.hi.ensures.valid c.lo-low.ensures.valid c.requires.firm c.hi.ensures.value c.if-hi-eq0.false in
    let x : c.moved.result / c.hi-3.result ≡ a.lo * 2 ^ over_places a.hi b.lo / b.hi = cc in
    record { fits = omega (arith, x, over-ordered a b h, over-most a b h) }

pub overflow_cast-hi-3 : goal.overflow_cast-hi-3
overflow_cast-hi-3 c =
    let a : Enclosure = c.args.a.now in
    let b : Enclosure = c.args.b.now in
    let h = operands a b c.hi.result c.hi.ensures.valid c.lo-low.ensures.valid c.requires.firm c.hi.ensures.value c.if-hi-eq0.false in
    let x : (c.moved-2.result + (c.lo-low.result - 1)) / c.lo-low.result ≡ ceil_div (a.hi * 2 ^ over_places a.hi b.lo) b.lo = cc in
    record { fits = omega (arith, x, over-most a b h) }

-- the code's numbers are those of the quotient
numbers : (a b : Enclosure) (l h : ℕ) (e : ℤ) → Operands a b → l ≡ a.lo * 2 ^ over_places a.hi b.lo / b.hi → h ≡ ceil_div (a.hi * 2 ^ over_places a.hi b.lo) b.lo → e ≡ a.exp -ℤ b.exp -ℤ pos (over_places a.hi b.lo) →
    ◌≡◌ {A = Enclosure} (record { lo = l; hi = h; exp = e }) (over a b)
numbers a b l h e o x y z = same _ _ _ _ _ _ x y z ∙ sym (over-value a b o.full)

pub made-requires : goal.made-requires
made-requires c =
    let a : Enclosure = c.args.a.now in
    let b : Enclosure = c.args.b.now in
    let h = operands a b c.hi.result c.hi.ensures.valid c.lo-low.ensures.valid c.requires.firm c.hi.ensures.value c.if-hi-eq0.false in
    let places : c.places_over-places.result ≡ over_places a.hi b.lo = cc in
    subst IsEnclosure (sym (numbers a b _ _ _ h (cc) (cc) (omega (arith, ints, places, c.places_over-places.ensures.near, c.exp.ensures.value, c.exp-2.ensures.value))))
    (over-IsQuotient a b c.hi.ensures.valid c.lo-low.ensures.valid c.requires.firm).valid

pub returns-clause-value : goal.returns-clause-value
returns-clause-value c =
    let a : Enclosure = c.args.a.now in
    let b : Enclosure = c.args.b.now in
    let h = operands a b c.hi.result c.hi.ensures.valid c.lo-low.ensures.valid c.requires.firm c.hi.ensures.value c.if-hi-eq0.false in
    let places : c.places_over-places.result ≡ over_places a.hi b.lo = cc in
    c.made.ensures ∙ numbers a b _ _ _ h (cc) (cc) (omega (arith, ints, places, c.places_over-places.ensures.near, c.exp.ensures.value, c.exp-2.ensures.value))
