-- What is got along the way to an event is at hand.
use Rattle.std.proofs.Common.{◌≡◌, ℕ, ◌+◌, ◌<◌, ◌≤◌, Bool, true, false, ◌||◌, ◌&&◌, refl, sym, ap, ◌∙◌, arith, subst, leb, ltb}
use Rattle.std.proofs.lemmas.Bool.{leb-true, ltb-true, le-leb, lt-ltb, and_from, and_parts, or_parts}
use Rattle.cg_meaning.specs.Tree as tree
use Rattle.cg_meaning.specs.Tree.{Tree, Trees, Kind, Sequence, Phase, After, Before, count, count_all}
use Rattle.cg_part.specs.Elements.{has, has_among}
use Rattle.cg_part.proofs.HasEvents.{has-events}
use Rattle.cg_message.specs.Parts.{AreGot, IsAmong, IsWayGot, AreWayGot, size_of}
use Rattle.cg_message.specs.Placed.{Placed, Places, Event, Group, Span, none, more, bare, bare_all, joined, put_before, placed_of, members_of, items_of, items_behind}
use Rattle.cg_message.specs.Pass.{shelf_in, IsHeld, AreHeld, IsOnWay, AreOnWay}
use Rattle.cg_message.specs.declared.pass.Pass.{Pass}
use Rattle.cg_message.proofs.ArrangedLemmas.{IsNoSpan, placed_of-no_span}
use Rattle.cg_message.proofs.HeldLemmas.{IsGiven, AreGiven, given-first, given-rest, given-members, held, members-held, items-held, behind-held, bare-of}

-- a node's element has its events
among : (event number place : ℕ) (t : Tree) → has event (bare (placed_of number place t)) ≡ true → IsAmong event number t
among event number place t h = tells number (number + count t) (sym (ap (has event) (bare-of number place t) ∙ has-events number t event) ∙ h)
  where
    tells : (a b : ℕ) → (leb a event && ltb event b) ≡ true → (a ≤ event) × (event < b)
    tells a b h = let parts = and_parts (leb a event) (ltb event b) h in (leb-true a event parts.0, ltb-true event b parts.1)

-- and no others
not-among : (event number place : ℕ) (t : Tree) → has event (bare (placed_of number place t)) ≡ false → IsAmong event number t → ⊥
not-among event number place t h in_it =
    let yes = ap (has event) (bare-of number place t) ∙ has-events number t event ∙ and_from _ _ (le-leb number event in_it.0) (lt-ltb event (number + count t) in_it.1) in
    cc

-- members behind the event are got
later-got : (pass : Pass) (event number place : ℕ) (ts : Trees) → event < number → AreWayGot (shelf_in pass) event number place ts → AreGot (shelf_in pass) place ts
later-got pass event number place tree.none less w = tt
later-got pass event number place (tree.more t ts) less w =
    (w.1 (λ in_it. omega (arith, in_it.0)), later-got pass event (number + count t) (place + size_of t) ts (omega arith) w.2)

-- the first of these isn't a span that the event closes
abbrev pub IsLater : ℕ → Places → Type 0
IsLater event none = Unit {0}
IsLater event (more (Event number place) es) = Unit {0}
IsLater event (more (Group kind place us) es) = Unit {0}
IsLater event (more (Span us closing) es) = event ≡ closing → ⊥

put-later : (event : ℕ) (e : Placed) (es : Places) → IsNoSpan e → IsLater event es → IsLater event (put_before e es)
put-later event (Event number place) none plain h = tt
put-later event (Group kind place us) none plain h = tt
put-later event (Span us closing) none plain h = absurd plain
put-later event (Event number place) (more (Event n p) es) plain h = tt
put-later event (Group kind place us) (more (Event n p) es) plain h = tt
put-later event (Span us closing) (more (Event n p) es) plain h = absurd plain
put-later event (Event number place) (more (Group k p vs) es) plain h = tt
put-later event (Group kind place us) (more (Group k p vs) es) plain h = tt
put-later event (Span us closing) (more (Group k p vs) es) plain h = absurd plain
put-later event e (more (Span us closing) es) plain h = h

behind-later : (event number place : ℕ) (ts : Trees) → event < number → IsLater event (items_behind number place ts)
behind-later event number place tree.none less = tt
behind-later event number place (tree.more (tree.Boundary name) ts) less = λ same. omega (arith, same)
behind-later event number place (tree.more (tree.Leaf name dating) ts) less =
    put-later event (Event number place) (items_behind (number + 1) (place + 1) ts) tt (behind-later event (number + 1) (place + 1) ts (omega arith))
behind-later event number place (tree.more (tree.Group kind name us) ts) less =
    put-later event (placed_of number place (tree.Group kind name us)) (items_behind (number + count_all us) (place + size_of (tree.Group kind name us)) ts)
    (placed_of-no_span number place (tree.Group kind name us)) (behind-later event (number + count_all us) (place + size_of (tree.Group kind name us)) ts (omega arith))

-- an element put into a span
put-span : (pass : Pass) (event : ℕ) (e : Placed) (us es : Places) (closing : ℕ) (b : Bool) → has event (bare e) ≡ b →
    (has event (bare e) ≡ true → IsOnWay pass event e × AreHeld pass (more (Span us closing) es)) →
    (has event (bare e) ≡ false → IsHeld pass e × AreOnWay pass event (more (Span us closing) es)) →
    (has event (bare e) ≡ true → event ≡ closing → ⊥) → AreOnWay pass event (more (Span (more e us) closing) es)
put-span pass event e us es closing true here way beside later = (
  (λ _. (((λ same. absurd (later here same)), (λ other. ((λ _. ((way here).0, (way here).1.0)), (λ nowhere. absurd (cc))))), (way here).1.1)),
  (λ nowhere. absurd (none_of _ _ _ here nowhere)),
)
  where
    none_of : (a b c : Bool) → a ≡ true → ((a || b) || c) ≡ false → ⊥
    none_of true b c h k = cc
    none_of false b c h k = cc
put-span pass event e us es closing false not_here way beside later =
    let own = beside not_here in (
      (λ yes.
          let span = own.1.0 (rest _ _ _ not_here yes) in
          (((λ same. (own.0, span.0.0 same)), (λ other. ((λ here. absurd (cc)), (λ _. (own.0, span.0.1 other))))), span.1)),
      (λ not_there. let span = own.1.1 (rest_not _ _ _ not_here not_there) in ((own.0, span.0), span.1)),
    )
  where
    rest : (a b c : Bool) → a ≡ false → ((a || b) || c) ≡ true → (b || c) ≡ true
    rest true b c h k = absurd (cc)
    rest false b c h k = k

    rest_not : (a b c : Bool) → a ≡ false → ((a || b) || c) ≡ false → (b || c) ≡ false
    rest_not true b c h k = absurd (cc)
    rest_not false b c h k = k

-- an element put before others
put-way : (pass : Pass) (event : ℕ) (e : Placed) (es : Places) →
    (has event (bare e) ≡ true → IsOnWay pass event e × AreHeld pass es) →
    (has event (bare e) ≡ false → IsHeld pass e × AreOnWay pass event es) →
    (has event (bare e) ≡ true → IsLater event es) → AreOnWay pass event (put_before e es)
put-way pass event e none way beside later = (way, beside)
put-way pass event e (more (Event number place) es) way beside later = (way, beside)
put-way pass event e (more (Group kind place us) es) way beside later = (way, beside)
put-way pass event e (more (Span us closing) es) way beside later = put-span pass event e us es closing (has event (bare e)) refl way beside later

mutual
  -- along the way in a node
  way : (pass : Pass) (event number place : ℕ) (t : Tree) → IsGiven pass number t → IsWayGot (shelf_in pass) event number place t → IsOnWay pass event (placed_of number place t)
  way pass event number place (tree.Leaf name dating) g w = held pass number place (tree.Leaf name dating) g w
  way pass event number place (tree.Boundary name) g w = held pass number place (tree.Boundary name) g w
  way pass event number place (tree.Group Sequence name ts) g w = items-way pass event number (place + 1) ts (given-members pass number Sequence name ts g) w
  way pass event number place (tree.Group Phase name ts) g w = members-way pass event number (place + 1) ts (given-members pass number Phase name ts g) w
  way pass event number place (tree.Group After name ts) g w = members-way pass event number (place + 1) ts (given-members pass number After name ts g) w
  way pass event number place (tree.Group Before name ts) g w = members-way pass event number (place + 1) ts (given-members pass number Before name ts g) w

  -- among members
  pub members-way : (pass : Pass) (event number place : ℕ) (ts : Trees) → AreGiven pass number ts → AreWayGot (shelf_in pass) event number place ts → AreOnWay pass event (members_of number place ts)
  members-way pass event number place tree.none g w = tt
  members-way pass event number place (tree.more t ts) g w =
      let rest = given-rest pass number t ts g in (
        (λ yes.
            let in_it = among event number place t yes in (
              way pass event number place t (given-first pass number t ts g) (w.0 in_it),
              members-held pass (number + count t) (place + size_of t) ts rest (later-got pass event (number + count t) (place + size_of t) ts in_it.1 w.2),
            )),
        (λ not_here. (
          held pass number place t (given-first pass number t ts g) (w.1 (not-among event number place t not_here)),
          members-way pass event (number + count t) (place + size_of t) ts rest w.2,
        )),
      )

  -- among the members of a Sequence
  items-way : (pass : Pass) (event number place : ℕ) (ts : Trees) → AreGiven pass number ts → AreWayGot (shelf_in pass) event number place ts → AreOnWay pass event (items_of number place ts)
  items-way pass event number place tree.none g w = tt
  items-way pass event number place (tree.more (tree.Boundary name) ts) g w =
      let rest = given-rest pass number (tree.Boundary name) ts g in
      let row = held pass number place (tree.Boundary name) (given-first pass number (tree.Boundary name) ts g) tt in (
        (λ yes. (
          row,
          behind-held pass (number + 1) (place + 1) ts rest
              (later-got pass event (number + 1) (place + 1) ts (among event number place (tree.Boundary name) yes).1 w.2),
        )),
        (λ not_here. (row, behind-way pass event (number + 1) (place + 1) ts rest w.2)),
      )
  items-way pass event number place (tree.more (tree.Leaf name dating) ts) g w =
      let rest = given-rest pass number (tree.Leaf name dating) ts g in
      let first = given-first pass number (tree.Leaf name dating) ts g in (
        (λ yes.
            let in_it = among event number place (tree.Leaf name dating) yes in
            (held pass number place (tree.Leaf name dating) first (w.0 in_it), items-held pass (number + 1) (place + 1) ts rest (later-got pass event (number + 1) (place + 1) ts in_it.1 w.2))),
        (λ not_here. (
          held pass number place (tree.Leaf name dating) first (w.1 (not-among event number place (tree.Leaf name dating) not_here)),
          items-way pass event (number + 1) (place + 1) ts rest w.2,
        )),
      )
  items-way pass event number place (tree.more (tree.Group kind name us) ts) g w =
      let rest = given-rest pass number (tree.Group kind name us) ts g in
      let first = given-first pass number (tree.Group kind name us) ts g in (
        (λ yes.
            let in_it = among event number place (tree.Group kind name us) yes in (
              way pass event number place (tree.Group kind name us) first (w.0 in_it),
              items-held pass (number + count_all us) (place + size_of (tree.Group kind name us)) ts rest
                  (later-got pass event (number + count_all us) (place + size_of (tree.Group kind name us)) ts in_it.1 w.2),
            )),
        (λ not_here. (
          held pass number place (tree.Group kind name us) first (w.1 (not-among event number place (tree.Group kind name us) not_here)),
          items-way pass event (number + count_all us) (place + size_of (tree.Group kind name us)) ts rest w.2,
        )),
      )

  -- among those behind a Boundary
  behind-way : (pass : Pass) (event number place : ℕ) (ts : Trees) → AreGiven pass number ts → AreWayGot (shelf_in pass) event number place ts → AreOnWay pass event (items_behind number place ts)
  behind-way pass event number place tree.none g w = tt
  behind-way pass event number place (tree.more (tree.Boundary name) ts) g w =
      let rest = given-rest pass number (tree.Boundary name) ts g in (
        (λ yes. (
          ((λ same. tt), (λ other. tt)),
          behind-held pass (number + 1) (place + 1) ts rest
              (later-got pass event (number + 1) (place + 1) ts (among event number place (tree.Boundary name) yes).1 w.2),
        )),
        (λ not_here. (tt, behind-way pass event (number + 1) (place + 1) ts rest w.2)),
      )
  behind-way pass event number place (tree.more (tree.Leaf name dating) ts) g w =
      let rest = given-rest pass number (tree.Leaf name dating) ts g in
      let first = given-first pass number (tree.Leaf name dating) ts g in
      put-way pass event (Event number place) (items_behind (number + 1) (place + 1) ts)
      (λ yes.
      let in_it = among event number place (tree.Leaf name dating) yes in
      (held pass number place (tree.Leaf name dating) first (w.0 in_it), behind-held pass (number + 1) (place + 1) ts rest (later-got pass event (number + 1) (place + 1) ts in_it.1 w.2)))
      (λ not_here. (
        held pass number place (tree.Leaf name dating) first (w.1 (not-among event number place (tree.Leaf name dating) not_here)),
        behind-way pass event (number + 1) (place + 1) ts rest w.2,
      ))
      (λ yes. behind-later event (number + 1) (place + 1) ts (among event number place (tree.Leaf name dating) yes).1)
  behind-way pass event number place (tree.more (tree.Group kind name us) ts) g w =
      let rest = given-rest pass number (tree.Group kind name us) ts g in
      let first = given-first pass number (tree.Group kind name us) ts g in
      put-way pass event (placed_of number place (tree.Group kind name us)) (items_behind (number + count_all us) (place + size_of (tree.Group kind name us)) ts)
      (λ yes.
      let in_it = among event number place (tree.Group kind name us) yes in (
        way pass event number place (tree.Group kind name us) first (w.0 in_it),
        behind-held pass (number + count_all us) (place + size_of (tree.Group kind name us)) ts rest
            (later-got pass event (number + count_all us) (place + size_of (tree.Group kind name us)) ts in_it.1 w.2),
      ))
      (λ not_here. (
        held pass number place (tree.Group kind name us) first (w.1 (not-among event number place (tree.Group kind name us) not_here)),
        behind-way pass event (number + count_all us) (place + size_of (tree.Group kind name us)) ts rest w.2,
      ))
      (λ yes. behind-later event (number + count_all us) (place + size_of (tree.Group kind name us)) ts (among event number place (tree.Group kind name us) yes).1)

-- Where one of these has the event: the others are at hand, and what is in it along the way.
pub record IsWayAround (pass : Pass) (event : ℕ) (us : Places) (e : Placed) (later : Places) : Type 0 where
  pub before : AreHeld pass us
  pub own : IsOnWay pass event e
  pub behind : AreHeld pass later

way_joined : (pass : Pass) (event : ℕ) (us later : Places) (e : Placed) → AreOnWay pass event (joined us (more e later)) →
    has_among event (bare_all us) ≡ false → has event (bare e) ≡ true → IsWayAround pass event us e later
way_joined pass event none later e w nowhere here = record { before = tt; own = (w.0 here).0; behind = (w.0 here).1 }
way_joined pass event (more u us) later e w nowhere here =
    let neither = or_parts (has event (bare u)) (has_among event (bare_all us)) nowhere in
    let rest = way_joined pass event us later e (w.1 neither.0).1 neither.1 here in
    record { before = ((w.1 neither.0).0, rest.before); own = rest.own; behind = rest.behind }

-- of elements that are given in parts
pub way_around : {pass : Pass} {event : ℕ} {all us : Places} {e : Placed} {later : Places} → all ≡ joined us (more e later) → AreOnWay pass event all →
    has_among event (bare_all us) ≡ false → has event (bare e) ≡ true → IsWayAround pass event us e later
way_around {pass = pass} {event = event} {us = us} {e = e} {later = later} is w nowhere here = way_joined pass event us later e (subst (AreOnWay pass event) is w) nowhere here

-- the last of elements that are at hand are so
pub held_joined : (pass : Pass) (us vs : Places) → AreHeld pass (joined us vs) → AreHeld pass vs
held_joined pass none vs h = h
held_joined pass (more u us) vs h = held_joined pass us vs h.1
