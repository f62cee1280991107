-- One piece after another.
use Rattle.std.proofs.Common.{◌≡◌, ℕ, ◌+◌, ◌-◌, List, ◌++◌, length, take, drop, Option, Some, None, sym, ap, ◌∙◌, subst, arith, append_assoc, take-add, take_all, length-drop}
use Rattle.cg_io.specs.Sink.{Takes}

-- what two writes took together
Takes-append : (a b c : Option (List ℕ)) (xs ys : List ℕ) → Takes a b xs → Takes b c ys → Takes a c (xs ++ ys)
Takes-append None b c xs ys first second = tt
Takes-append (Some taken) b c xs ys first second =
    let after : Takes (Some (taken ++ xs)) c ys = subst (λ (o : Option (List ℕ)). Takes o c ys) first second in
    after ∙ ap (λ zs. Some zs) (append_assoc taken xs ys)

-- the slice from n on is all that lies behind n
take-rest : (n : ℕ) (text : List ℕ) → take (length text - n) (drop n text) ≡ drop n text
take-rest n text = take_all (length text - n) (drop n text) (omega (arith, length-drop n text))

-- n bytes of the text were taken, and then m of its rest
pub Takes-rest : (a b c : Option (List ℕ)) (n m : ℕ) (text : List ℕ) → Takes a b (take n text) → Takes b c (take m (take (length text - n) (drop n text))) → Takes a c (take (n + m) text)
Takes-rest a b c n m text first second =
    let rest : Takes b c (take m (drop n text)) = subst (λ (zs : List ℕ). Takes b c (take m zs)) (take-rest n text) second in
    subst (λ (zs : List ℕ). Takes a c zs) (sym (take-add n m text)) (Takes-append a b c (take n text) (take m (drop n text)) first rest)
