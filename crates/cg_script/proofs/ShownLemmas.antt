-- What a line shows has the word of its command, and the names in it aren't empty where they may not be.
use Rattle.std.proofs.Common.{◌≡◌, ◌≢◌, ℕ, Bool, true, false, cond, ◌&&◌, List, [], ◌∷◌, Option, Some, None, refl, sym, ap, subst, ◌∙◌}
use Rattle.std.specs.Prelude.{option_map, is_some, not}
use Rattle.std.specs.List.{list_all}
use Rattle.cg_meaning.specs.Tree.{Name}
use Rattle.cg_text.proofs.StepLemmas.{passes, if-some}
use Rattle.cg_sharing.specs.Command.{Command}
use Rattle.cg_script.specs.Lines.{is_blank}
use Rattle.cg_script.specs.Words.{behind_blanks, first_word, after_word, is_some_text, fields, has_none, both, prints, word_of, title_at, quoted_at, behind_blank, sole_name, two_names, name_and_statement}
use Rattle.cg_script.specs.Written.{Written, Grid, Open, Take, Undo, Set, Add, Insert, Drop, Rename, Commit, Print, Ranges, Model, Work, is_whole, whole_number, shown, written_of}
use Rattle.cg_script.specs.Says.{Says}
use Rattle.cg_script.specs.Script.{is_print, is_unknown, is_print_line}
use Rattle.cg_script.specs.declared.word.Word.{Word}
use Rattle.cg_script.specs.declared.word.Word.TheVariants as words

-- what is written prints
abbrev prints_written : Written → Bool
prints_written (Print event) = true
prints_written (Ranges event) = true
prints_written _ = false

-- a name that is looked for isn't empty
abbrev pub IsNamed : Written → Type 0
IsNamed (Set event statement) = event ≢ []
IsNamed (Add group statement) = group ≢ []
IsNamed (Insert name statement) = name ≢ []
IsNamed (Drop name) = name ≢ []
IsNamed (Rename name new) = name ≢ []
IsNamed (Print event) = event ≢ []
IsNamed (Ranges event) = event ≢ []
IsNamed _ = Unit {0}

-- What is written has the word.
record Fits (word : Word) (written : Written) : Type 0 where
  printed : prints_written written ≡ prints (Some word)
  named : IsNamed written

some_text : (name : List ℕ) → is_some_text name ≡ true → name ≢ []
some_text [] h = λ e. absurd cc
some_text (c ∷ cs) h = λ e. absurd cc

quoted : (bytes : List ℕ) (p : Name × List ℕ) → quoted_at bytes ≡ Some p → p.0 ≢ []
quoted bytes p h =
    passes (p.0 ≢ []) (title_at bytes) _ p h
    (λ x is f. let k = if-some (is_some_text x.0) x p f in subst (λ (q : Name × List ℕ). q.0 ≢ []) k.1 (some_text x.0 k.0))

sole_named : (bytes : List ℕ) (name : Name) → sole_name bytes ≡ Some name → name ≢ []
sole_named bytes name h =
    passes (name ≢ []) (quoted_at bytes) _ name h
    (λ x is f. let k = if-some (list_all is_blank x.1) x.0 name f in subst (λ (n : Name). n ≢ []) k.1 (quoted bytes x is))

first_name : {A : Type 0} (b : Bool) (x : Name) (a : A) (p : Name × A) → cond b (Some (x, a)) None ≡ Some p → x ≢ [] → p.0 ≢ []
first_name b x a p f some = let k = if-some b (x, a) p f in subst (λ (n : Name). n ≢ []) (ap (λ q. q.0) k.1) some

two_named : (bytes : List ℕ) (p : Name × Name) → two_names bytes ≡ Some p → p.0 ≢ []
two_named bytes p h =
    passes (p.0 ≢ []) (quoted_at bytes) _ p h (λ x is f.
    passes (p.0 ≢ []) (behind_blank x.1) _ p f (λ y is' g.
    passes (p.0 ≢ []) (title_at y) _ p g (λ z is'' k. first_name (list_all is_blank z.1) x.0 z.0 p k (quoted bytes x is))))

pair_named : (bytes : List ℕ) (p : Name × List ℕ) → name_and_statement bytes ≡ Some p → p.0 ≢ []
pair_named bytes p h =
    passes (p.0 ≢ []) (quoted_at bytes) _ p h (λ x is f.
    passes (p.0 ≢ []) (behind_blank x.1) _ p f (λ y is' k. first_name (is_some_text y) x.0 y p k (quoted bytes x is)))

-- what a value was made of
made : {A : Type 0} (w : Word) (f : A → Written) (o : Option A) (written : Written) → option_map f o ≡ Some written → ((x : A) → o ≡ Some x → Fits w (f x)) → Fits w written
made w f None written h go = absurd cc
made w f (Some x) written h go = let same : f x ≡ written = cc in subst (λ (v : Written). Fits w v) same (go x refl)

sole_made : (word : Word) (one written : Written) (b : Bool) → cond b (Some one) None ≡ Some written → Fits word one → Fits word written
sole_made word one written b h fits = let k = if-some b one written h in subst (λ (w : Written). Fits word w) k.1 fits

fits : (word : Word) (rest : List ℕ) (written : Written) → shown word rest ≡ Some written → Fits word written
fits words.Grid rest written h =
    passes (Fits words.Grid written) (both (fields rest)) _ written h (λ pair is f.
    sole_made words.Grid (Grid (whole_number pair.0) (whole_number pair.1)) written (is_whole pair.0 && is_whole pair.1) f (record { printed = refl; named = tt }))
fits words.Open rest written h = made words.Open (λ name. Open name) _ written h (λ x is. record { printed = refl; named = tt })
fits words.Take rest written h = made words.Take (λ number. Take number) _ written h (λ x is. record { printed = refl; named = tt })
fits words.Undo rest written h = sole_made words.Undo Undo written (has_none (fields rest)) h (record { printed = refl; named = tt })
fits words.Set rest written h = made words.Set (λ p. Set p.0 p.1) (name_and_statement rest) written h (λ x is. record { printed = refl; named = pair_named rest x is })
fits words.Add rest written h = made words.Add (λ p. Add p.0 p.1) (name_and_statement rest) written h (λ x is. record { printed = refl; named = pair_named rest x is })
fits words.Insert rest written h = made words.Insert (λ p. Insert p.0 p.1) (name_and_statement rest) written h (λ x is. record { printed = refl; named = pair_named rest x is })
fits words.Drop rest written h = made words.Drop (λ node. Drop node) (sole_name rest) written h (λ x is. record { printed = refl; named = sole_named rest x is })
fits words.Rename rest written h = made words.Rename (λ p. Rename p.0 p.1) (two_names rest) written h (λ x is. record { printed = refl; named = two_named rest x is })
fits words.Commit rest written h = made words.Commit (λ name. Commit name) _ written h (λ x is. record { printed = refl; named = tt })
fits words.Print rest written h = made words.Print (λ event. Print event) (sole_name rest) written h (λ x is. record { printed = refl; named = sole_named rest x is })
fits words.Ranges rest written h = made words.Ranges (λ event. Ranges event) (sole_name rest) written h (λ x is. record { printed = refl; named = sole_named rest x is })
fits words.Model rest written h = sole_made words.Model Model written (has_none (fields rest)) h (record { printed = refl; named = tt })
fits words.Work rest written h = sole_made words.Work Work written (has_none (fields rest)) h (record { printed = refl; named = tt })

-- what is said prints just where it is written so
says_prints : (written : Written) (command : Command) → Says written command → is_print command ≡ prints_written written
says_prints (Grid older younger) command h = ap is_print h.1
says_prints (Open name) command h = ap is_print h
says_prints (Take version) command h = ap is_print h
says_prints Undo command h = ap is_print h
says_prints (Set event statement) command h = ap is_print h.said
says_prints (Add group statement) command h = ap is_print h.said
says_prints (Insert name statement) command h = ap is_print h.said
says_prints (Drop name) command h = ap is_print h
says_prints (Rename name new) command h = ap is_print h
says_prints (Commit name) command h = ap is_print h
says_prints (Print event) command h = ap is_print h
says_prints (Ranges event) command h = ap is_print h
says_prints Model command h = ap is_print h
says_prints Work command h = ap is_print h

-- What a line shows of a command: its word is known, it prints just where the word does, and it is named.
pub record Shows (line : List ℕ) (written : Written) : Type 0 where
  pub known : is_unknown line ≡ false
  pub printed : (command : Command) → Says written command → is_print command ≡ is_print_line line
  pub named : IsNamed written

and_not : (b : Bool) (found : Option Word) (w : Word) → found ≡ Some w → (b && not (is_some found)) ≡ false
and_not true found w e = rw e refl
and_not false found w e = refl

pub shows : (line : List ℕ) (written : Written) → written_of line ≡ Some written → Shows line written
shows line written h =
    passes (Shows line written) (word_of (first_word line)) _ written h
    (λ word is f. let fit = fits word (behind_blanks (after_word line)) written f in record {
      known = and_not _ (word_of (first_word line)) word is;
      printed = λ command says. says_prints written command says ∙ fit.printed ∙ sym (ap prints is);
      named = fit.named;
    })
