-- The step that stores the length of the log keeps the rule.
use Rattle.std.proofs.Common.{◌≡◌, ◌≢◌, ℕ, ◌%◌, ◌^◌, ◌≤◌, List, [], ◌∷◌, ◌++◌, length, drop, refl, ap, sym, subst, ◌∙◌, inr, ⊎_elim, arith, Option, Some}
use Rattle.std.specs.Prelude.{slice_set}
use mathlib.Core.Option.{some, none}
use lib.ListN.{get_elem?}
use Rattle.atomic_table.specs.Table.{State, Me, step, keeps, Allows}
use Rattle.cg_turn.specs.declared.view.View.{View}
use Rattle.cg_turn.specs.declared.view.Phase.TheVariants.{Fresh, Noted}
use Rattle.cg_turn.specs.Phases.{ticketed, live, holding}
use Rattle.cg_turn.specs.Logs.{by, StartsWith, AllBy}
use Rattle.cg_turn.specs.Views.{has_ticket, is_live, with_log}
use Rattle.cg_turn.specs.Rule.{InPhase, Sits, Apart, Turned}
use Rattle.cg_turn.specs.Steps.{StoresLength}
use Rattle.cg_turn.proofs.ListLemmas.{total_set, each_set, pairs_set}
use Rattle.cg_turn.proofs.LogLemmas.{by_other, by_own, starts_more, starts_self, drop_front}
use Rattle.cg_turn.proofs.ViewLemmas.{set_there, as_before, as_before_turned}
use Rattle.cg_turn.proofs.RuleLemmas.{due_alone}

module _ (V G E : Type 0) (ground_of : V → G) (entries : V → List E) (seat_of : E → ℕ) where
  -- what a seat of the lock knows
  abbrev Sight : Type 0
  Sight = View G E

  -- the rule of the lock
  abbrev Rule : State (Option V) Sight → Type 0
  Rule = Turned ground_of entries seat_of

  -- a seat that has the slot with this value
  stored : (slots id : ℕ) (v : Sight) (y : V) (news : List E) (new : ℕ) → v.phase ≡ Fresh → entries y ≡ v.seen ++ news
      → AllBy seat_of v.number news → new ≡ length (entries y)
      → Allows Rule slots id (v, (0, Some y) ∷ []) 2 (λ _. new) (λ _. StoresLength entries (step slots 2 new 0 none) (v, (0, Some y) ∷ []) new)
  stored slots id v y news new fresh goes own long s r wide at small =
      let w : Sight = with_log v Noted (entries y) (v.mine ++ drop (length v.seen) (entries y)) in
      let here = r.each id v at in
      let v0 : has_ticket v ≡ 1 = ap ticketed fresh in
      let v1 : is_live v ≡ 1 = ap live fresh in
      let vh : holding v.phase ≡ 1 = ap holding fresh in
      let a = total_set has_ticket s.views id v w at in
      let b = total_set is_live s.views id v w at in
      let t = r.tickets in let c = r.seats in
      let alive : 1 ≤ is_live v = omega arith in
      let has : 1 ≤ has_ticket v = omega arith in
      let at_v = subst (InPhase r.drawn r.served v) fresh here.at in
      let whole : v.seen ≡ r.log = here.whole (omega arith) in
      let log2 : entries y ≡ r.log ++ news = goes ∙ ap (λ (l : List E). l ++ news) whole in
      let news_is : drop (length v.seen) (entries y) ≡ news = ap (drop (length v.seen)) goes ∙ drop_front v.seen news in
      let grown : by seat_of v.number (r.log ++ news) ≡ v.mine ++ drop (length v.seen) (entries y) = by_own seat_of v.number r.log news own ∙ (ap (λ (l : List E). l ++ news) (here.own alive) ∙ ap (λ (l : List E). v.mine ++ l) (sym news_is)) in
      let F : List ℕ → List ℕ = λ ws. slice_set ws 2 new in
      let alone = λ (j : ℕ) (u : Sight) (ne : j ≢ id) (q : get_elem? s.views j ≡ some u). due_alone s r id j v u (λ e. ne (sym e)) at q has at_v.0 in
      let out : s.homes ≡ none ∷ [] = ⊎_elim (λ h. let z = h.4 id v at in absurd (omega arith)) (λ h. h.4) r.slot in
      let other = λ (n : ℕ) (ne : v.number ≢ n). by_other seat_of v.number n r.log news own ne in (
        w,
        keeps,
        tt,
        record {
          drawn = r.drawn;
          served = r.served;
          count = r.count;
          gone = r.gone;
          log_ground = r.log_ground;
          log = r.log ++ news;
          words = ap F r.words ∙ ap (λ (n : ℕ). (r.drawn % 2 ^ 64) ∷ (r.served % 2 ^ 64) ∷ n ∷ []) (long ∙ ap length log2);
          tickets = omega arith;
          seats = omega arith;
          few = r.few;
          slot = inr (id, w, set_there s.views id v w at, refl, out);
          each = each_set (Sits seat_of r.drawn r.served r.count r.gone r.log_ground r.log) (Sits seat_of r.drawn r.served r.count r.gone r.log_ground (r.log ++ news)) s.views id w r.each
              record {
                at = at_v;
                low = λ _. here.low alive;
                high = λ _. here.high alive;
                counts = λ _. here.counts alive;
                same_ground = λ _. here.same_ground alive;
                seen = λ _. subst (λ (l : List E). StartsWith l (entries y)) log2 (starts_self (entries y));
                own = λ _. grown;
                own_seen = λ _. ap (by seat_of v.number) log2 ∙ grown;
                whole = λ _. log2;
                not_gone = λ _. here.not_gone alive;
              }
              (λ j u ne q h. record {
                at = h.at;
                low = h.low;
                high = h.high;
                counts = h.counts;
                same_ground = h.same_ground;
                seen = λ k. starts_more r.log news u.seen (h.seen k);
                own = λ k. other u.number ((r.apart id j v u (λ z. ne (sym z)) at q).numbers alive k) ∙ h.own k;
                own_seen = h.own_seen;
                whole = λ k. (let z = alone j u ne q in absurd (omega arith));
                not_gone = h.not_gone;
              });
          apart = pairs_set Apart s.views id w r.apart
              (λ j u ne q. (as_before v w u (r.apart id j v u (λ e. ne (sym e)) at q) refl (λ _. alive) (λ _. (has, refl)), as_before_turned v w u (r.apart j id u v ne q at) refl (λ _. alive) (λ _. (has, refl))));
          ends = λ k x g. (let e = r.ends k x g in record {
            high = e.high;
            same_ground = e.same_ground;
            seen = starts_more r.log news x.seen e.seen;
            own = other x.number (here.not_gone alive k x g) ∙ e.own;
          });
          no_other = λ n out. other n (λ e. (let low : 1 ≤ v.number = here.low alive in let high : v.number ≤ r.count = here.high alive in let e' : v.number ≡ n = e in ⊎_elim (λ z. absurd (omega arith)) (λ z. absurd (omega arith)) out)) ∙ r.no_other n out;
        },
        (y, refl, refl, refl),
      )

  -- a seat that has the slot may store the length of a log to which it has added
  pub stores_length : (slots id : ℕ) (me : Me (Option V) Sight) (y : V) (news : List E) (new : ℕ) → me.0.phase ≡ Fresh
      → me.1 ≡ (0, Some y) ∷ [] → entries y ≡ me.0.seen ++ news → AllBy seat_of me.0.number news
      → new ≡ length (entries y)
      → Allows Rule slots id me 2 (λ _. new) (λ _. StoresLength entries (step slots 2 new 0 none) me new)
  stores_length slots id me y news new fresh has goes own long = subst (λ (c : List (ℕ × Option V)). Allows Rule slots id (me.0, c) 2 (λ _. new) (λ _. StoresLength entries (step slots 2 new 0 none) (me.0, c) new)) (sym has) (stored slots id me.0 y news new fresh goes own long)
