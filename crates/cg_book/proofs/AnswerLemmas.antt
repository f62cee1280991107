-- The refusals of the definitions, by what the versions say.
use Rattle.std.proofs.Common.{◌≡◌, ◌≢◌, ℕ, ◌≤◌, refl, ap, Option, Some, None}
use Rattle.std.proofs.lemmas.Bool.{le-ltb, ne_eqb}
use Rattle.cg_meaning.specs.Tree.{Name}
use Rattle.cg_sharing.specs.Versions.{State, count_of, head_of}
use Rattle.cg_sharing.specs.Journal.{Answer, answer_of, is_base, Take, Commit, Committed, NoVersion, Moved}
use Rattle.cg_book.specs.Replies.{alone}

pub not-taken : (s : State) (v count : ℕ) → count ≡ count_of s → count ≤ v → NoVersion count ≡ answer_of (alone s) (Take v)
not-taken s v count is le = rw (le-ltb v (count_of s) (rw is at le)) (ap (λ n. NoVersion n) is)

moved-by : (base : Option ℕ) (head : ℕ) (right : Answer) → base ≢ Some head → Moved head ≡ is_base base head right
moved-by None head right other = refl
moved-by (Some base) head right other = rw (ne_eqb base head (λ e. other (ap (λ n. Some n) e))) refl

pub moved-answer : (s : State) (name : Name) (base : Option ℕ) (v head : ℕ) → head_of name s.heads ≡ Some head → base ≢ Some head →
    Moved head ≡ answer_of (alone s) (Commit name base v)
moved-answer s name base v head e other = rw e (moved-by base head (Committed v) other)
