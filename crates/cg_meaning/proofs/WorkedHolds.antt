-- Sequence {A; B} on two years: A is at the older one in two datings of three.
use Rattle.std.proofs.Common.{◌≡◌, ℕ, zero, suc, get_or, [], ◌∷◌, refl, sym, subst, ◌∙◌, lit<, lit≤, le→leb}
use Rattle.std.proofs.lemmas.Option.{get_or_from_slice_get}
use Rattle.cg_meaning.specs.Tree.{Dating, Free, datings_of}
use Rattle.cg_meaning.specs.Weights.{IsAdmitted, AreAdmitted, ones}
use Rattle.cg_meaning.specs.Posterior.{Holds}
use Rattle.cg_meaning.proofs.WorkedCases.{two_events, two_years}

-- the weight 1 is admitted for each event
no_dating : (event : ℕ) → get_or (Free ∷ Free ∷ []) event Free ≡ Free
no_dating zero = refl
no_dating (suc zero) = refl
no_dating (suc (suc event)) = refl

ones-admitted : AreAdmitted two_events two_years ones
ones-admitted event dating is =
    subst (λ (d : Dating). IsAdmitted two_years d (ones event))
    (sym (no_dating event) ∙ get_or_from_slice_get (datings_of two_events) event dating Free is) (λ cell h. refl)

-- 666,666 and 666,667 millionths hold.
two_thirds : Holds two_events two_years 0 0 666666 666667
two_thirds = record {
  lower = λ w admitted.
      rw (admitted 0 Free refl 0 (lit< tt), admitted 0 Free refl 1 (lit< tt), admitted 1 Free refl 0 (lit< tt), admitted 1 Free refl 1 (lit< tt)) (lit≤ tt);
  upper = λ w admitted.
      rw (admitted 0 Free refl 0 (lit< tt), admitted 0 Free refl 1 (lit< tt), admitted 1 Free refl 0 (lit< tt), admitted 1 Free refl 1 (lit< tt)) (lit≤ tt);
}

-- A lower end of 666,667, and an upper end of 666,666, do not.
end_above : Holds two_events two_years 0 0 666667 1000000 → ⊥
end_above holds = le→leb _ _ (holds.lower ones ones-admitted)

end_below : Holds two_events two_years 0 0 0 666666 → ⊥
end_below holds = le→leb _ _ (holds.upper ones ones-admitted)
