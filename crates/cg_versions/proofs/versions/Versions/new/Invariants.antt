use Rattle.std.proofs.Common.{◌≡◌, ◌++◌, map}
use Rattle.cg_sharing.specs.Versions.{start_of}
use Rattle.cg_versions.specs.Plain.{start_in}
use Rattle.cg_versions.proofs.versions.Versions.new.Given as goal

-- the models so far are there, and these and the rest are all models
abbrev pub invariant-loop-name : goal.invariant-loop-name
invariant-loop-name l = record {
  whole : map start_in (l.yielded ++ l.name-iterator.rest.items) ≡ l.fn.models;
  so_far : l.versions ≡ start_of (map start_in l.yielded);
}
