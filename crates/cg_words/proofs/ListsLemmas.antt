-- The lists of the words are what is found among the options.
use Rattle.std.proofs.Common.{◌≡◌, ℕ, ◌≤◌, ◌-◌, true, List, [], ◌∷◌, length, map, take, drop, get_or, codes, Option, Some, None, refl, sym, ap, ◌∙◌, subst, arith}
use Rattle.std.proofs.lemmas.List.{take_all}
use Rattle.cg_words.specs.Words.{Lists, words_of, MayBeGiven, AreLists}
use Rattle.cg_words.specs.Reading.{list_of, are_options}
use Rattle.cg_words.proofs.GivenLemmas.{given_in, left-out, is_given, words-given, all-known, all-once, not-found, found, are-options}

-- The lists as they are found behind the command.
pub record AreFound (options : List (List ℕ)) (lists : Lists) : Type 0 where
  pub good : are_options options ≡ true
  pub curves : list_of (codes "--curves") options ≡ lists.curves
  pub models : list_of (codes "--models") options ≡ Some lists.models
  pub sessions : list_of (codes "--sessions") options ≡ Some lists.sessions
  pub turns : list_of (codes "--turns") options ≡ lists.turns
  pub cache : list_of (codes "--cache") options ≡ lists.cache

-- what was found or not is given or left out
may-be-given : (option : List ℕ) (words : List (List ℕ)) (list : Option (List ℕ)) → list_of option words ≡ list → MayBeGiven (given_in words) option list
may-be-given option words None h = left-out option words h
may-be-given option words (Some list) h = is_given option list words h

-- what is found are the lists
pub lists-found : (options : List (List ℕ)) (lists : Lists) → AreFound options lists → AreLists (codes "alone" ∷ options) lists
lists-found options lists h = record {
  given = given_in options;
  form = ap (λ ws. codes "alone" ∷ ws) (words-given options h.good);
  known = all-known options h.good;
  once = all-once options h.good;
  curves = may-be-given (codes "--curves") options lists.curves h.curves;
  models = is_given (codes "--models") lists.models options h.models;
  sessions = is_given (codes "--sessions") lists.sessions options h.sessions;
  turns = may-be-given (codes "--turns") options lists.turns h.turns;
  cache = may-be-given (codes "--cache") options lists.cache h.cache;
}

-- an option that may be left out
may-find : (words : List (List ℕ)) (lists : Lists) (h : AreLists words lists) (option : List ℕ) (list : Option (List ℕ)) → MayBeGiven h.given option list → list_of option (words_of h.given) ≡ list
may-find words lists h option None out = not-found option h.given out
may-find words lists h option (Some list) there = found option list h.given h.once there

-- the lists are what is found
pub find-lists : (words : List (List ℕ)) (lists : Lists) (h : AreLists words lists) → AreFound (words_of h.given) lists
find-lists words lists h = record {
  good = are-options h.given h.known h.once;
  curves = may-find words lists h (codes "--curves") lists.curves h.curves;
  models = found (codes "--models") lists.models h.given h.once h.models;
  sessions = found (codes "--sessions") lists.sessions h.given h.once h.sessions;
  turns = may-find words lists h (codes "--turns") lists.turns h.turns;
  cache = may-find words lists h (codes "--cache") lists.cache h.cache;
}

-- two records of the same lists
same-lists : (x y : Lists) → x.curves ≡ y.curves → x.models ≡ y.models → x.sessions ≡ y.sessions → x.turns ≡ y.turns → x.cache ≡ y.cache → x ≡ y
same-lists x y curves models sessions turns cache =
    ap (λ c. record { curves = c; models = x.models; sessions = x.sessions; turns = x.turns; cache = x.cache }) curves
    ∙ ap (λ m. record { curves = y.curves; models = m; sessions = x.sessions; turns = x.turns; cache = x.cache }) models
    ∙ ap (λ s. record { curves = y.curves; models = y.models; sessions = s; turns = x.turns; cache = x.cache }) sessions
    ∙ ap (λ t. record { curves = y.curves; models = y.models; sessions = y.sessions; turns = t; cache = x.cache }) turns
    ∙ ap (λ k. record { curves = y.curves; models = y.models; sessions = y.sessions; turns = y.turns; cache = k }) cache

-- what is found is found once
pub one-finding : (options others : List (List ℕ)) (x y : Lists) → options ≡ others → AreFound options x → AreFound others y → x ≡ y
one-finding options others x y e first second =
    let models : ◌≡◌ {A = Option (List ℕ)} (Some x.models) (Some y.models) = sym first.models ∙ ap (λ ws. list_of (codes "--models") ws) e ∙ second.models in
    let sessions : ◌≡◌ {A = Option (List ℕ)} (Some x.sessions) (Some y.sessions) = sym first.sessions ∙ ap (λ ws. list_of (codes "--sessions") ws) e ∙ second.sessions in
    same-lists x y (sym first.curves ∙ ap (λ ws. list_of (codes "--curves") ws) e ∙ second.curves) (cc) (cc) (sym first.turns ∙ ap (λ ws. list_of (codes "--turns") ws) e ∙ second.turns)
    (sym first.cache ∙ ap (λ ws. list_of (codes "--cache") ws) e ∙ second.cache)

-- words have one set of lists at most
pub one-lists : (words : List (List ℕ)) (x y : Lists) → AreLists words x → AreLists words y → x ≡ y
one-lists words x y first second =
    let forms : codes "alone" ∷ words_of first.given ≡ codes "alone" ∷ words_of second.given = sym first.form ∙ second.form in
    let same : words_of first.given ≡ words_of second.given = cc in
    one-finding (words_of first.given) (words_of second.given) x y same (find-lists words x first) (find-lists words y second)

-- the first word and the others
pub first-word : {X : Type 0} (f : X → List ℕ) (words : List X) (word : X) → 1 ≤ length words → word ≡ get_or words 0 word → map f words ≡ f word ∷ map f (take (length words - 1) (drop 1 words))
first-word f [] word one here = absurd (omega arith)
first-word f (first ∷ others) word one here =
    let all : take (length (first ∷ others) - 1) others ≡ others = take_all _ others (omega arith) in
    rw (all, here) refl

-- lists stand behind the command
pub behind-command : {X : Type 0} (f : X → List ℕ) (words : List X) (word : X) (lists : Lists) → 1 ≤ length words → word ≡ get_or words 0 word → AreLists (map f words) lists
    → (f word ≡ codes "alone") × AreFound (map f (take (length words - 1) (drop 1 words))) lists
behind-command f words word lists one here h =
    let forms : f word ∷ map f (take (length words - 1) (drop 1 words)) ≡ codes "alone" ∷ words_of h.given = sym (first-word f words word one here) ∙ h.form in
    let command : f word ≡ codes "alone" = cc in
    let options : map f (take (length words - 1) (drop 1 words)) ≡ words_of h.given = cc in
    (command, subst (λ ws. AreFound ws lists) (sym options) (find-lists (map f words) lists h))

-- what is found behind the command are the lists
pub lists-behind : {X : Type 0} (f : X → List ℕ) (words : List X) (word : X) (lists : Lists) → 1 ≤ length words → word ≡ get_or words 0 word → f word ≡ codes "alone"
    → AreFound (map f (take (length words - 1) (drop 1 words))) lists → AreLists (map f words) lists
lists-behind f words word lists one here command h =
    subst (λ ws. AreLists ws lists) (sym (first-word f words word one here ∙ ap (λ w. w ∷ map f (take (length words - 1) (drop 1 words))) command)) (lists-found _ lists h)
