use Rattle.std.proofs.Common.{◌+◌, ◌-◌, ◌*◌, ◌^◌, ◌<◌, ◌≤◌}
use Rattle.cg_root.proofs.root_down.Given as goal

-- the digits found so far are those of the root: one unit of the next digit more would pass n
abbrev pub invariant-loop-done : goal.invariant-loop-done
invariant-loop-done l = record {
  square : l.root * l.root ≤ l.n;
  above : l.n < (l.root + 2 ^ (63 - l.done)) * (l.root + 2 ^ (63 - l.done));
  fits : l.root + 2 ^ (63 - l.done) ≤ 2 ^ 63;
}
