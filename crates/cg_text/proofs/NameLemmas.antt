-- The names of models and curves: each is cut off exactly where it stands.
use Rattle.std.proofs.Common.{◌≡◌, ℕ, ◌<◌, true, List, ◌++◌, take, All, IsTrue, IsUtf8, Some, arith}
use Rattle.std.specs.List.{prefix_len}
use Rattle.std.proofs.lemmas.Bool.Decides.{nat_tests}
use Rattle.std.proofs.lemmas.List.Sums.{AllPass-from_list_all}
use Rattle.cg_text.specs.Names.{is_name_byte, IsName, name_at}
use Rattle.cg_text.proofs.PieceLemmas.{run-append, run-is, run-utf8}

-- a byte of a name is ASCII
name-small : (c : ℕ) → is_name_byte c ≡ true → c < 128
name-small c h = grind (arith, nat_tests)

-- so is a name
pub name-utf8 : (bytes front : List ℕ) → front ≡ take (prefix_len is_name_byte bytes) bytes → IsUtf8 front
name-utf8 bytes front e = run-utf8 is_name_byte name-small bytes front e

-- a name before what begins with no byte of one
pub name-append : (name rest : List ℕ) → IsName name → prefix_len is_name_byte rest ≡ 0 → name_at (name ++ rest) ≡ Some (name, rest)
name-append name rest h e = run-append is_name_byte 64 name rest h.some h.short h.plain e

-- what was read is a name
pub name-is : (bytes name rest : List ℕ) → name_at bytes ≡ Some (name, rest) → IsName name × (bytes ≡ name ++ rest)
name-is bytes name rest h =
    let run = run-is is_name_byte 64 bytes name rest h in
    (record { some = run.some; short = run.short; plain = run.plain }, run.form)

-- each byte of a name is one of a name
pub name-bytes : (name : List ℕ) → IsName name → All (λ c. IsTrue (is_name_byte c)) name
name-bytes name h = AllPass-from_list_all is_name_byte name h.plain
