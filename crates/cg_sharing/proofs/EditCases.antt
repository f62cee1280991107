-- Changes of small models, computed.
use Rattle.std.proofs.Common.{◌≡◌, ℕ, zero, suc, refl, List, [], pos, Ok, Err}
use Rattle.std.specs.Prelude.{codes}
use Rattle.cg_meaning.specs.Tree.{Tree, Leaf, Boundary, Group, Trees, none, more, Sequence, Phase, After, Free, Exact}
use Rattle.cg_model.specs.declared.model.Limit.TheVariants.{Events}
use Rattle.cg_sharing.specs.Edit.{Set, Add, InsertBefore, Drop, Rename, a_leaf, a_boundary, a_group, NoName, Ambiguous, WrongKind, Past, result_of}

-- an event without a dating
abbrev date : List ℕ → Tree
date name = Leaf name Free

-- an event of the year 2000 cal BP
abbrev exact : List ℕ → Tree
exact name = Leaf name (Exact (pos 2000))

-- Sequence("s"){ <first> Phase("p"){ <members> }; Boundary("E"); <last> };
abbrev site_of : Tree → Trees → Trees → Trees
site_of first members last =
    more (Group Sequence (codes "s") (more first (more (Group Phase (codes "p") members) (more (Boundary (codes "E")) last)))) none

-- Date("B"); Date("B");
abbrev pair : Trees
pair = more (date (codes "B")) (more (date (codes "B")) none)

-- Sequence("s"){ Date("A"); Phase("p"){ Date("B"); Date("B"); }; Boundary("E"); };
abbrev site : Trees
site = site_of (date (codes "A")) pair none

-- The named leaf gets the dating.
set_leaf : result_of (Set (codes "A") (Exact (pos 2000))) site ≡ Ok (site_of (exact (codes "A")) pair none)
unfolding result_of
set_leaf = refl

-- No node has the name, or two have it.
set_unknown : result_of (Set (codes "X") Free) site ≡ Err NoName
unfolding result_of
set_unknown = refl

set_ambiguous : result_of (Set (codes "B") Free) site ≡ Err (Ambiguous 2)
unfolding result_of
set_ambiguous = refl

-- Only a leaf has a dating to set.
set_group : result_of (Set (codes "p") Free) site ≡ Err (WrongKind (a_group Phase))
unfolding result_of
set_group = refl

set_boundary : result_of (Set (codes "E") Free) site ≡ Err (WrongKind a_boundary)
unfolding result_of
set_boundary = refl

-- A member is added behind the others of the named group, however deep that stands.
add_nested : result_of (Add (codes "p") (exact (codes "C"))) site ≡ Ok (site_of (date (codes "A")) (more (date (codes "B")) (more (date (codes "B")) (more (exact (codes "C")) none))) none)
unfolding result_of
add_nested = refl

add_to_leaf : result_of (Add (codes "A") (date (codes "C"))) site ≡ Err (WrongKind a_leaf)
unfolding result_of
add_to_leaf = refl

-- A Boundary may be added to a Sequence, and to no other group; nor may a group in which one stands out of place.
add_boundary : result_of (Add (codes "s") (Boundary (codes "F"))) site ≡ Ok (site_of (date (codes "A")) pair (more (Boundary (codes "F")) none))
unfolding result_of
add_boundary = refl

add_boundary_to_phase : result_of (Add (codes "p") (Boundary (codes "F"))) site ≡ Err (WrongKind (a_group Phase))
unfolding result_of
add_boundary_to_phase = refl

add_boundary_below : result_of (Add (codes "s") (Group Phase [] (more (Boundary (codes "F")) none))) site ≡ Err (WrongKind (a_group Phase))
unfolding result_of
add_boundary_below = refl

-- so many nameless events
abbrev dates : ℕ → Trees
dates zero = none
dates (suc count) = more (date []) (dates count)

-- Phase("p"){ .. }; of so many
abbrev phase : ℕ → Trees
phase count = more (Group Phase (codes "p") (dates count)) none

-- The hundredth event is added, and the next one is refused, but after the kind.
add_hundredth : result_of (Add (codes "p") (date [])) (phase 99) ≡ Ok (phase 100)
unfolding result_of
add_hundredth = refl

add_one_more : result_of (Add (codes "p") (date [])) (phase 100) ≡ Err (Past Events)
unfolding result_of
add_one_more = refl

add_boundary_more : result_of (Add (codes "p") (Boundary [])) (phase 100) ≡ Err (WrongKind (a_group Phase))
unfolding result_of
add_boundary_more = refl

-- Date("B"); Date("B"); in Phase("p")
abbrev pairs : Tree
pairs = Group Phase (codes "p") pair

-- Sequence("s"){ .. };
abbrev sequence : Trees → Trees
sequence members = more (Group Sequence (codes "s") members) none

-- Sequence("s"){ After("a"){ <members> }; };
abbrev dig : Trees → Trees
dig members = sequence (more (Group After (codes "a") members) none)

-- A node comes just before the named one: at top, in a group of a group, before a group and before a Boundary.
insert_at_top : result_of (InsertBefore (codes "s") (date (codes "N"))) site ≡ Ok (more (date (codes "N")) site)
unfolding result_of
insert_at_top = refl

insert_nested : result_of (InsertBefore (codes "D") (exact (codes "N"))) (dig (more (date (codes "C")) (more (date (codes "D")) none))) ≡ Ok (dig (more (date (codes "C")) (more (exact (codes "N")) (more (date (codes "D")) none))))
unfolding result_of
insert_nested = refl

insert_before_group : result_of (InsertBefore (codes "p") (exact (codes "N"))) site ≡ Ok (sequence (more (date (codes "A")) (more (exact (codes "N")) (more pairs (more (Boundary (codes "E")) none)))))
unfolding result_of
insert_before_group = refl

insert_before_boundary : result_of (InsertBefore (codes "E") (date (codes "N"))) site ≡ Ok (sequence (more (date (codes "A")) (more pairs (more (date (codes "N")) (more (Boundary (codes "E")) none)))))
unfolding result_of
insert_before_boundary = refl

-- The group in which the named node stands takes a Boundary where it is a Sequence. The root is as a Phase.
insert_boundary : result_of (InsertBefore (codes "A") (Boundary (codes "F"))) site ≡ Ok (sequence (more (Boundary (codes "F")) (more (date (codes "A")) (more pairs (more (Boundary (codes "E")) none)))))
unfolding result_of
insert_boundary = refl

insert_boundary_before_phase : result_of (InsertBefore (codes "p") (Boundary (codes "F"))) site ≡ Ok (sequence (more (date (codes "A")) (more (Boundary (codes "F")) (more pairs (more (Boundary (codes "E")) none)))))
unfolding result_of
insert_boundary_before_phase = refl

insert_boundary_in_phase : result_of (InsertBefore (codes "C") (Boundary (codes "F"))) (site_of (date (codes "A")) (more (date (codes "C")) none) none) ≡ Err (WrongKind (a_group Phase))
unfolding result_of
insert_boundary_in_phase = refl

insert_boundary_in_after : result_of (InsertBefore (codes "C") (Boundary (codes "F"))) (dig (more (date (codes "C")) none)) ≡ Err (WrongKind (a_group After))
unfolding result_of
insert_boundary_in_after = refl

insert_boundary_at_top : result_of (InsertBefore (codes "s") (Boundary (codes "F"))) site ≡ Err (WrongKind (a_group Phase))
unfolding result_of
insert_boundary_at_top = refl

insert_boundary_below : result_of (InsertBefore (codes "A") (Group Phase [] (more (Boundary (codes "F")) none))) site ≡ Err (WrongKind (a_group Phase))
unfolding result_of
insert_boundary_below = refl

-- A node goes with all that it holds.
drop_leaf : result_of (Drop (codes "A")) site ≡ Ok (sequence (more pairs (more (Boundary (codes "E")) none)))
unfolding result_of
drop_leaf = refl

drop_group : result_of (Drop (codes "p")) site ≡ Ok (sequence (more (date (codes "A")) (more (Boundary (codes "E")) none)))
unfolding result_of
drop_group = refl

drop_boundary : result_of (Drop (codes "E")) site ≡ Ok (sequence (more (date (codes "A")) (more pairs none)))
unfolding result_of
drop_boundary = refl

drop_all : result_of (Drop (codes "s")) site ≡ Ok none
unfolding result_of
drop_all = refl

-- A name gives way to another: one that no node has, one that others have, or the empty one.
rename_leaf : result_of (Rename (codes "A") (codes "N")) site ≡ Ok (site_of (date (codes "N")) pair none)
unfolding result_of
rename_leaf = refl

rename_group : result_of (Rename (codes "s") (codes "N")) site ≡ Ok (more (Group Sequence (codes "N") (more (date (codes "A")) (more pairs (more (Boundary (codes "E")) none)))) none)
unfolding result_of
rename_group = refl

rename_to_another : result_of (Rename (codes "A") (codes "B")) site ≡ Ok (site_of (date (codes "B")) pair none)
unfolding result_of
rename_to_another = refl

rename_to_none : result_of (Rename (codes "A") []) site ≡ Ok (site_of (date []) pair none)
unfolding result_of
rename_to_none = refl

-- No node has the name, or two have it.
insert_unknown : result_of (InsertBefore (codes "X") (Boundary [])) site ≡ Err NoName
unfolding result_of
insert_unknown = refl

insert_ambiguous : result_of (InsertBefore (codes "B") (Boundary [])) site ≡ Err (Ambiguous 2)
unfolding result_of
insert_ambiguous = refl

drop_unknown : result_of (Drop (codes "X")) site ≡ Err NoName
unfolding result_of
drop_unknown = refl

drop_ambiguous : result_of (Drop (codes "B")) site ≡ Err (Ambiguous 2)
unfolding result_of
drop_ambiguous = refl

rename_unknown : result_of (Rename (codes "X") (codes "N")) site ≡ Err NoName
unfolding result_of
rename_unknown = refl

rename_ambiguous : result_of (Rename (codes "B") (codes "N")) site ≡ Err (Ambiguous 2)
unfolding result_of
rename_ambiguous = refl

-- The hundredth event is put before a group, and the next one is refused, but after the kind.
insert_hundredth : result_of (InsertBefore (codes "p") (date [])) (phase 99) ≡ Ok (more (date []) (phase 99))
unfolding result_of
insert_hundredth = refl

insert_one_more : result_of (InsertBefore (codes "p") (date [])) (phase 100) ≡ Err (Past Events)
unfolding result_of
insert_one_more = refl

insert_boundary_more : result_of (InsertBefore (codes "p") (Boundary [])) (phase 100) ≡ Err (WrongKind (a_group Phase))
unfolding result_of
insert_boundary_more = refl
