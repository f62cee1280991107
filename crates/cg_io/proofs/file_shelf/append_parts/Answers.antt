use Rattle.std.proofs.Common.{arith, length, take, ◌+◌, ◌≤◌}
use Rattle.std.proofs.lemmas.List.{length-take, length-drop}
use Rattle.std.specs.Io.{appended_bytes}
use Rattle.cg_io.proofs.ReaderLemmas.{TakesAtMost-append, StartsWith-length}
use Rattle.cg_io.proofs.file_shelf.append_parts.Goals as goal

pub returns-then-taken-left-clause-takes : goal.returns-then-taken-left-clause-takes
returns-then-taken-left-clause-takes g c =
    let before = c.args.into.now.items in
    let after = c.loop-taken.into.items in
    let moved = c.loop-taken.invariant in
    let two : length (appended_bytes before after) + length (take c.in_ok-taken.taken c.read.new.buf) ≤ c.args.limit + 1 =
    omega (arith, moved.count, StartsWith-length before after moved.kept, length-drop (length before) after, length-take c.in_ok-taken.taken c.read.new.buf, length-take (c.min-wanted.result + 1) c.loop-taken.part, c.in_ok-taken.ensures.bound, c.min-wanted.ensures) in
    TakesAtMost-append _ _ _ (appended_bytes before after) (take c.in_ok-taken.taken c.read.new.buf) _ moved.taken c.in_ok-taken.ensures.bytes.0 two

pub returns-in_err-extend_from_slice-clause-takes :
    goal.returns-in_err-extend_from_slice-clause-takes
returns-in_err-extend_from_slice-clause-takes g c =
    let before = c.args.into.now.items in
    let after = c.loop-taken.into.items in
    let moved = c.loop-taken.invariant in
    let two : length (appended_bytes before after) + length (take c.in_ok-taken.taken c.read.new.buf) ≤ c.args.limit + 1 =
    omega (arith, moved.count, StartsWith-length before after moved.kept, length-drop (length before) after, length-take c.in_ok-taken.taken c.read.new.buf, c.if-taken-left.false) in
    TakesAtMost-append _ _ _ (appended_bytes before after) (take c.in_ok-taken.taken c.read.new.buf) _ moved.taken c.in_ok-taken.ensures.bytes.0 two
