-- What the program tells of a run's status.
use Rattle.std.specs.Prelude.{◌≡◌, ◌⊎◌, ℕ, Bool, false, List, length, take, codes, Option}
use Rattle.cg_io.specs.Sink.{Takes}
use Rattle.cg_report.specs.Status.{status_text}
use Rattle.cg_report.specs.declared.status.Status.{Status}

-- The sink took the status's line, or the line for want of memory: all of it, or its beginning where a write failed.
pub record IsReported (status : Status) (before after : Option (List ℕ)) (taken : ℕ) (failed : Bool) : Type 0 where
  pub line : List ℕ
  pub right : (line ≡ status_text status) ⊎ (line ≡ codes "out of memory\n")
  pub took : Takes before after (take taken line)
  pub whole : failed ≡ false → taken ≡ length line
