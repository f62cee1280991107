use Rattle.std.proofs.Common.{◌≡◌, ◌+◌, ◌<◌, ◌≤◌, ◌^◌, [], ◌∷◌, ◌++◌, refl, ◌∙◌, length, map, arith, length-append, IfSome, None, string_bytes, bytes_eq}
use Rattle.std.proofs.lemmas.List.{map-append, length-map}
use Rattle.std.proofs.lemmas.List.Elements.{All-push}
use Rattle.indexmap.proofs.CallerLemmas.{insert_entry-new}
use Rattle.std.specs.Map.{lookup}
use Rattle.indexmap.specs.IndexMap.{insert_entry}
use Rattle.cg_sharing.specs.Versions.{Version, Head, head_of}
use Rattle.cg_versions.specs.Plain.{head_in, version_in}
use Rattle.cg_versions.proofs.HeadLemmas.{head-lookup}
use Rattle.cg_versions.proofs.StartLemmas.{grow-heads, grow-parents}
use Rattle.cg_versions.proofs.versions.Versions.begin.Goals as goal

-- the entries once a new head is there
abbrev heads-are : goal.In_ok-insert → Type 0
heads-are c = c.insert.new.self.entries ≡ c.self.inside.heads.entries ++ (c.in_ok-name.name, c.len-number.result) ∷ []

heads-more : (c : goal.In_ok-insert) → heads-are c
heads-more c =
    let entries = c.self.inside.heads.entries in
    let fresh : head_of c.args.name.now (map head_in entries) ≡ None = rw (← c.self.view_is) at c.requires.fresh in
    let none : lookup (λ k. bytes_eq (string_bytes c.in_ok-name.name) (string_bytes k)) entries ≡ None =
    rw ((c.in_ok-name.ensures {u = tt}).ok, c.text.ensures.text, ← head-lookup c.args.name.now entries) fresh in
    let added : insert_entry (λ a b. bytes_eq (string_bytes a) (string_bytes b)) entries c.in_ok-name.name c.len-number.result ≡ entries ++ (c.in_ok-name.name, c.len-number.result) ∷ [] =
    insert_entry-new (λ a b. bytes_eq (string_bytes a) (string_bytes b)) c.self.inside.heads c.in_ok-name.name c.len-number.result none in
    let e : c.insert.new.self.entries ≡ insert_entry (λ a b. bytes_eq (string_bytes a) (string_bytes b)) entries c.in_ok-name.name c.len-number.result = (c.in_ok-insert.ensures {u = tt}).entries in
    e ∙ added

pub invariant_of-self-2 : goal.invariant_of-self-2
invariant_of-self-2 c =
    let versions = map version_in c.self.inside.versions.items in
    let few = rw (← c.self.view_is) at c.requires.few in
    let added : Version = version_in record { parent = None; tree = c.in_ok-tree.tree } in
    let count = length (versions ++ added ∷ []) in
    let one : count ≡ length versions + 1 = length-append versions (added ∷ []) in
    let le : length versions ≤ count = rw one (omega arith) in
    let number : c.len-number.result < count = rw one (simp length-map (omega (arith, c.len-number.ensures))) in
    let small : count < 2 ^ 32 = rw one (omega (arith, few)) in
    rw ((c.in_ok-push.ensures {u = tt}).items, heads-more c, map-append, map-append) (record {
      few = small;
      parents = All-push (λ (v : Version). IfSome v.parent (λ p. p < count)) versions added (grow-parents (length versions) count versions le c.self.invariant.parents) tt;
      heads_known = All-push (λ (h : Head). h.version < count) (map head_in c.self.inside.heads.entries) _ (grow-heads (length versions) count _ le c.self.invariant.heads_known) number;
    })

pub returns : goal.returns
returns c =
    let number : c.len-number.result ≡ length c.self.inside.versions.items = omega (arith, c.len-number.ensures) in
    rw ((c.in_ok-push.ensures {u = tt}).items, heads-more c, map-append, map-append, ← c.self.view_is, length-map, (c.in_ok-tree.ensures {u = tt}).ok, (c.in_ok-name.ensures {u = tt}).ok, c.text.ensures.text, number) refl
